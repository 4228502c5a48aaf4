-- An assertion has one report at most.
use Rattle.std.proofs.Common.{◌≡◌, ℕ, Bool, true, false, List, Option, Some, sym, ap, refl, subst, ◌∙◌, inl, inr}
use Rattle.std.specs.Prelude.{IsTrue, ◌↔◌}
use Rattle.ste_base.specs.declared.id.NodeId.{NodeId}
use Rattle.net_core.specs.declared.bit_set.BitSet.{BitSet}
use Rattle.net_core.specs.declared.raw.RawNet.{RawNet}
use Rattle.net_core.specs.Flat.{IsInRange}
use Rattle.net_core.specs.Run.{Cut, IsSettled}
use Rattle.ste_model.specs.declared.cubes.CubeList.{CubeList}
use Rattle.ste_model.specs.declared.report.Report.{Report}
use Rattle.ste_model.specs.declared.run.Run.{Run}
use Rattle.ste_model.specs.declared.task.Assertion.{Assertion}
use Rattle.ste_model.specs.declared.verdict.Verdict.{Verdict}
use Rattle.ste_model.specs.declared.verdict.Verdict.TheVariants.{Strong, Weak}
use Rattle.ste_model.specs.Asked.{depth}
use Rattle.ste_model.specs.Cubes.{first_cubes}
use Rattle.ste_model.specs.Found.{FailsStrongly, FailsWeakly, IsContradictory, IsStrong, IsWeak}
use Rattle.ste_model.specs.Report.{AreCubes, IsFailingPlace, IsPrintedUnder, IsShown, OneReportOf, Prints, Shows}
use Rattle.ste_model.specs.Runs.{run_of}
use Rattle.ste_model.specs.Shown.{IsPrinted}
use Rattle.ste_model.proofs.CubeLists.{cubes_alike}
use Rattle.ste_model.proofs.Leasts.{one_least_with}
use Rattle.ste_model.proofs.OneShown.{one_place, one_printed}
use Rattle.ste_model.proofs.RunData.{same_data}
use Rattle.ste_model.proofs.Verdicts.{one_verdict}

tells_same : (b c : Bool) (P : Type 0) → (IsTrue b ↔ P) → (IsTrue c ↔ P) → b ≡ c
tells_same false false P f g = refl
tells_same false true P f g = absurd (cc (f.1 (g.0 refl)))
tells_same true false P f g = absurd (cc (g.1 (f.0 refl)))
tells_same true true P f g = refl

pub one_list : (max vars : ℕ) (P : List Bool → Type 0) (one other : CubeList) → AreCubes max vars P one → AreCubes max vars P other → one ≡ other
one_list max vars P one other a b =
    a.2 ∙ ap (first_cubes max) (cubes_alike 0 vars a.0 b.0 (λ bits l. tells_same (a.0 bits) (b.0 bits) (P bits) (a.1 bits l) (b.1 bits l))) ∙ sym b.2

one_shown : (Finds : List Bool → Type 0) (Fails : (ℕ → BitSet) → Cut → Type 0) (net : RawNet) (vars : ℕ) (task : Assertion) (least others : Option (List Bool)) (fails places : Option (NodeId × ℕ)) → IsSettled net →
    IsShown Finds Fails net vars task least fails → IsShown Finds Fails net vars task others places → (least ≡ others) × (fails ≡ places)
one_shown Finds Fails net vars task least others fails places settled a b =
    let bits : a.bits ≡ b.bits = one_least_with vars Finds a.bits b.bits a.is_least b.is_least in
    let place : a.place ≡ b.place = one_place Fails net task b.bits settled a.place b.place (subst (λ (bs : List Bool). IsFailingPlace Fails net task bs a.place) bits a.is_place) b.is_place in
    (a.least_is ∙ ap Some bits ∙ sym b.least_is, a.fails_is ∙ ap Some place ∙ sym b.fails_is)

pub strong_weak : (v : Verdict) → v ≡ Strong → v ≡ Weak → ⊥
strong_weak v e f = let both : Strong ≡ Weak = sym e ∙ f in cc

same_shown : (net : RawNet) (vars : ℕ) (task : Assertion) (v : Verdict) (least others : Option (List Bool)) (fails places : Option (NodeId × ℕ)) → IsSettled net →
    Shows net vars task v least fails → Shows net vars task v others places → (least ≡ others) × (fails ≡ places)
same_shown net vars task v least others fails places settled (inl a) (inl b) = one_shown (IsStrong net task) FailsStrongly net vars task least others fails places settled a.1 b.1
same_shown net vars task v least others fails places settled (inl a) (inr (inl b)) = absurd (strong_weak v a.0 b.0)
same_shown net vars task v least others fails places settled (inl a) (inr (inr b)) = absurd (b.0 a.0)
same_shown net vars task v least others fails places settled (inr (inl a)) (inl b) = absurd (strong_weak v b.0 a.0)
same_shown net vars task v least others fails places settled (inr (inl a)) (inr (inl b)) = one_shown (IsWeak net task) FailsWeakly net vars task least others fails places settled a.1 b.1
same_shown net vars task v least others fails places settled (inr (inl a)) (inr (inr b)) = absurd (b.1 a.0)
same_shown net vars task v least others fails places settled (inr (inr a)) (inl b) = absurd (a.0 b.0)
same_shown net vars task v least others fails places settled (inr (inr a)) (inr (inl b)) = absurd (a.1 b.0)
same_shown net vars task v least others fails places settled (inr (inr a)) (inr (inr b)) = (a.2 ∙ sym b.2, a.3 ∙ sym b.3)

one_run : (net : RawNet) (task : Assertion) (least : Option (List Bool)) (run other : Option Run) → IsInRange net → IsSettled net →
    IsPrintedUnder net task least run → IsPrintedUnder net task least other → run ≡ other
one_run net task least run other range settled a b =
    let both : Some b.bits ≡ Some a.bits = sym b.least_is ∙ a.least_is in
    let bits : b.bits ≡ a.bits = cc both in
    let told : a.told ≡ b.told = same_data net.nets (depth task) a.told b.told a.rows b.rows
    (one_printed net task a.bits range settled (run_of a.told) (run_of b.told) a.printed (subst (λ (bs : List Bool). IsPrinted net task bs (run_of b.told)) bits b.printed)) in
    a.run_is ∙ ap Some told ∙ sym b.run_is

same_run : (net : RawNet) (task : Assertion) (v : Verdict) (least : Option (List Bool)) (run other : Option Run) → IsInRange net → IsSettled net →
    Prints net task v least run → Prints net task v least other → run ≡ other
same_run net task v least run other range settled (inl a) (inl b) = one_run net task least run other range settled a.1 b.1
same_run net task v least run other range settled (inl a) (inr b) = absurd (b.0 a.0)
same_run net task v least run other range settled (inr a) (inl b) = absurd (a.0 b.0)
same_run net task v least run other range settled (inr a) (inr b) = a.1 ∙ sym b.1

-- a report by its parts
report_with : List ℕ → Verdict → CubeList → CubeList → CubeList → Option (List Bool) → List ℕ → Option (NodeId × ℕ) → Option Run → Report
report_with name verdict strong weak contradictory least path fails run = record {
  name = name;
  verdict = verdict;
  guards = record { strong = strong; weak = weak; contradictory = contradictory };
  least = least;
  path = path;
  fails = fails;
  run = run;
}

pub same_parts : (a b : Report) → a.name ≡ b.name → a.verdict ≡ b.verdict → a.guards.strong ≡ b.guards.strong → a.guards.weak ≡ b.guards.weak → a.guards.contradictory ≡ b.guards.contradictory
    → a.least ≡ b.least → a.path ≡ b.path → a.fails ≡ b.fails → a.run ≡ b.run → a ≡ b
unfolding report_with
same_parts a b name verdict strong weak contradictory least path fails run = λ i. report_with (name i) (verdict i) (strong i) (weak i) (contradictory i) (least i) (path i) (fails i) (run i)

pub one_report_of : OneReportOf
one_report_of net range settled vars cubes task one other a b =
    let verdict : one.verdict ≡ other.verdict = one_verdict.same net vars task one.verdict other.verdict a.judged b.judged in
    let shown = same_shown net vars task other.verdict one.least other.least one.fails other.fails settled (subst (λ (v : Verdict). Shows net vars task v one.least one.fails) verdict a.shown) b.shown in
    let run = same_run net task other.verdict other.least one.run other.run range settled
    (subst (λ (l : Option (List Bool)). Prints net task other.verdict l one.run) shown.0 (subst (λ (v : Verdict). Prints net task v one.least one.run) verdict a.run)) b.run in
    same_parts one other (a.named ∙ sym b.named) verdict
    (one_list cubes vars (IsStrong net task) one.guards.strong other.guards.strong a.strong b.strong)
    (one_list cubes vars (IsWeak net task) one.guards.weak other.guards.weak a.weak b.weak)
    (one_list cubes vars (IsContradictory net task) one.guards.contradictory other.guards.contradictory a.contradictory b.contradictory)
    shown.0 (a.path ∙ sym b.path) shown.1 run
