-- The functions of the exact results give the exact findings.
use Rattle.std.proofs.Common.{◌≡◌, ℕ, zero, suc, ◌+◌, ◌<◌, ◌≤◌, Bool, true, false, List, [], ◌∷◌, ◌++◌, take, drop, length, get_or, arith, refl, sym, ◌∙◌, ap, subst, inl, inr}
use Rattle.std.specs.Prelude.{All, IsTrue, ◌↔◌, ◌||◌}
use Rattle.std.proofs.lemmas.Bool.{and_from, and_parts, both_ways, not-true, not_from_false, or_cases, or_left, or_right}
use Rattle.std.proofs.lemmas.List.{length-append, length-map}
use Rattle.std.proofs.Math.Seq.{drop-append_seam, take-length}
use Rattle.net_core.specs.declared.raw.RawNet.{RawNet}
use Rattle.ste_base.specs.Functions.{Function}
use Rattle.net_core.specs.Work.{sum}
use Rattle.ste_model.specs.declared.task.Assertion.{Assertion}
use Rattle.ste_model.specs.declared.task.Quint.{Quint}
use Rattle.ste_model.specs.Asked.{cuts_at, depth}
use Rattle.ste_model.specs.Holds.{RunMeets}
use Rattle.ste_model.proofs.Due.{asks_of_nets}
use Rattle.ste_model.proofs.Passes.{on_below}
use Rattle.exact_model.specs.Choices.{Cell, bits_at, choices}
use Rattle.exact_model.specs.Exact.{IsAllowed, IsExactVerdictOf, IsExactlyContradictory, IsExactlyStrong, IsSoundFor, OneExactVerdict}
use Rattle.exact_model.specs.ExactNeed.{ExactResultsAreFindings}
use Rattle.exact_model.specs.ExactWork.{AreExactBits, all_broken, counter_where, exactly_contradictory_where, exactly_strong_where, met_where, some_bits, some_choices}
use Rattle.exact_model.proofs.Breaking.{ant_ends, before, broken_is_not_met, con_ends, is_met, met_is, not_met_is_broken}
use Rattle.ste_model.specs.declared.verdict.Verdict.{Verdict}
use Rattle.ste_model.specs.declared.verdict.Verdict.TheVariants.{Pass, Strong}
use Rattle.ste_model.specs.Assignments.{SomeAssignment}
use Rattle.ste_model.proofs.Decisions.{somewhere, tells_some}
use Rattle.exact_model.proofs.ChoiceRuns.{exact_bits, runs_are_choices}
use Rattle.exact_model.proofs.Exactly.{one_verdict_at_most}

-- some list of so many bits is in the set
some_bits_is : (n : ℕ) (set : List Bool → Bool) → IsTrue (some_bits n set) ↔ ((bits : List Bool) × (length bits ≡ n) × IsTrue (set bits))
some_bits_is zero set = (λ h. ([], refl, h), λ at. none at.0 at.1 at.2)
  where
    none : (bits : List Bool) → length bits ≡ 0 → IsTrue (set bits) → IsTrue (set [])
    none [] l h = h
    none (b ∷ bits) l h = absurd (omega arith)
some_bits_is (suc n) set = (
  λ h. elim (or_cases (some_bits n (λ bits. set (false ∷ bits))) (some_bits n (λ bits. set (true ∷ bits))) h) [
    | inl low ↦ let at = (some_bits_is n (λ bits. set (false ∷ bits))).0 low in (false ∷ at.0, (let l = at.1 in omega arith), at.2)
    | inr high ↦ let at = (some_bits_is n (λ bits. set (true ∷ bits))).0 high in (true ∷ at.0, (let l = at.1 in omega arith), at.2)
  ],
  λ at. put at.0 at.1 at.2 (some_bits_is n (λ bits. set (false ∷ bits))).1 (some_bits_is n (λ bits. set (true ∷ bits))).1,
)
  where
    put : (bits : List Bool) → length bits ≡ suc n → IsTrue (set bits) → (((rest : List Bool) × (length rest ≡ n) × IsTrue (set (false ∷ rest))) → IsTrue (some_bits n (λ rest. set (false ∷ rest)))) → (((rest : List Bool) × (length rest ≡ n) × IsTrue (set (true ∷ rest))) → IsTrue (some_bits n (λ rest. set (true ∷ rest)))) → IsTrue (some_bits n (λ rest. set (false ∷ rest)) || some_bits n (λ rest. set (true ∷ rest)))
    put [] l h low high = absurd (omega arith)
    put (false ∷ bits) l h low high = or_left (some_bits n (λ rest. set (false ∷ rest))) (some_bits n (λ rest. set (true ∷ rest))) (low (bits, omega arith, h))
    put (true ∷ bits) l h low high = or_right (some_bits n (λ rest. set (false ∷ rest))) (some_bits n (λ rest. set (true ∷ rest))) (high (bits, omega arith, h))

-- a run that agrees with one that meets what is asked meets it
meets_as : (net : RawNet) (task : Assertion) (quints : List Quint) (bits : List Bool) (one other : ℕ → ℕ → Bool) → All (λ quint. quint.to ≤ depth task) quints → All (λ quint. quint.node.0 < net.nets) quints → ((t id : ℕ) → t < depth task → id < net.nets → one t id ≡ other t id) → RunMeets (cuts_at quints bits) one → RunMeets (cuts_at quints bits) other
meets_as net task quints bits one other ends nets same meets t k d l on =
    let cut = get_or (cuts_at quints bits t) k d in
    sym (same t cut.node (on_below bits t (depth task) quints ends k d l on) (asks_of_nets net.nets bits t quints nets k d l)) ∙ meets t k d l on

module _ (net : RawNet) (vars : ℕ) (task : Assertion) (bit : ℕ → ℕ → Function) (sound : IsSoundFor net vars task) (exact : AreExactBits net vars task bit) (bits : List Bool) (long : length bits ≡ vars) where
  -- the run with these choices behind the variables
  run_with : List Bool → ℕ → ℕ → Bool
  run_with rest t id = bit t id (bits ++ rest)

  total : (rest : List Bool) → length rest ≡ length (choices net task) → length (bits ++ rest) ≡ vars + length (choices net task)
  total rest l = let h = length-append bits rest in omega arith

  met_so : (rest : List Bool) → length rest ≡ length (choices net task) → met_where task bit (bits ++ rest) ≡ true → IsAllowed net task bits (run_with rest)
  unfolding run_with
  met_so rest l h = record {
    is_run = exact.is_run (bits ++ rest) (total rest l);
    meets = met_is task task.ant bit (bits ++ rest) bits (ant_ends task) (before vars bits rest task.ant long sound.reads_ant) (not-true (sum (all_broken task task.ant bit) (bits ++ rest)) h);
  }

  -- a run of the net is the one with its choices
  module _ (run : ℕ → ℕ → Bool) (allowed : IsAllowed net task bits run) where
    rest : List Bool
    rest = bits_at (choices net task) run

    rest_long : length rest ≡ length (choices net task)
    unfolding rest
    rest_long = length-map (choices net task) (λ (c : Cell). run c.time c.net)

    same : (t id : ℕ) → t < depth task → id < net.nets → run t id ≡ run_with rest t id
    unfolding rest run_with
    same =
        let all = bits ++ rest in
        let chosen = exact.chosen all (total rest rest_long) in
        let behind : drop vars all ≡ rest = ap (λ (n : ℕ). drop n all) (sym long) ∙ drop-append_seam bits rest in
        runs_are_choices.same net task run (λ t id. bit t id all) sound.range sound.driver sound.settled allowed.is_run (exact.is_run all (total rest rest_long)) (sym (chosen ∙ behind))

    so_met : met_where task bit (bits ++ rest) ≡ true
    unfolding run_with
    so_met =
        not_from_false (sum (all_broken task task.ant bit) (bits ++ rest))
        (is_met task task.ant bit (bits ++ rest) bits (ant_ends task) (before vars bits rest task.ant long sound.reads_ant)
        (meets_as net task task.ant bits run (run_with rest) (ant_ends task) sound.over.ant same allowed.meets))

    so_broken : ¬ RunMeets (cuts_at task.con bits) run → sum (all_broken task task.con bit) (bits ++ rest) ≡ true
    unfolding run_with
    so_broken breaks =
        not_met_is_broken task task.con bit (bits ++ rest) bits (con_ends task) (before vars bits rest task.con long sound.reads_con)
        (λ meets. breaks (meets_as net task task.con bits (run_with rest) run (con_ends task) sound.over.con (λ t id l m. sym (same t id l m)) meets))

  -- some choices behind the variables
  some_is : (f : Function) → IsTrue (some_choices vars (length (choices net task)) f bits) ↔ ((rest : List Bool) × (length rest ≡ length (choices net task)) × IsTrue (f (bits ++ rest)))
  some_is f =
      let front : take vars bits ≡ bits = ap (λ (n : ℕ). take n bits) (sym long) ∙ take-length bits in
      subst (λ (bs : List Bool). IsTrue (some_bits (length (choices net task)) (λ rest. f (bs ++ rest))) ↔ ((rest : List Bool) × (length rest ≡ length (choices net task)) × IsTrue (f (bits ++ rest)))) (sym front)
      (some_bits_is (length (choices net task)) (λ rest. f (bits ++ rest)))

  pub strong_is : IsTrue (exactly_strong_where net vars task bit bits) ↔ IsExactlyStrong net task bits
  unfolding run_with
  strong_is = (
    λ h.
        let at = (some_is (counter_where task bit)).0 h in
        let p = and_parts (met_where task bit (bits ++ at.0)) (sum (all_broken task task.con bit) (bits ++ at.0)) at.2 in (
          run_with at.0,
          record {
            allowed = met_so at.0 at.1 p.0;
            breaks = broken_is_not_met task task.con bit (bits ++ at.0) bits (con_ends task) (before vars bits at.0 task.con long sound.reads_con) p.1;
          },
        ),
    λ strong.
        let run = strong.0 in
        let allowed = strong.1.allowed in
        (some_is (counter_where task bit)).1 (
          rest run allowed,
          rest_long run allowed,
          and_from (met_where task bit (bits ++ rest run allowed)) (sum (all_broken task task.con bit) (bits ++ rest run allowed)) (so_met run allowed) (so_broken run allowed strong.1.breaks),
        ),
  )

  pub contradictory_is : IsTrue (exactly_contradictory_where net vars task bit bits) ↔ IsExactlyContradictory net task bits
  contradictory_is = (
    λ h run allowed.
        both_ways (some_choices vars (length (choices net task)) (met_where task bit) bits) (not-true (some_choices vars (length (choices net task)) (met_where task bit) bits) h)
        ((some_is (met_where task bit)).1 (rest run allowed, rest_long run allowed, so_met run allowed)),
    λ none. not_from_false (some_choices vars (length (choices net task)) (met_where task bit) bits) (by (some_choices vars (length (choices net task)) (met_where task bit) bits) (some_is (met_where task bit)).0 none),
  )
    where
      by : (b : Bool) → (IsTrue b → ((rest : List Bool) × (length rest ≡ length (choices net task)) × IsTrue (met_where task bit (bits ++ rest)))) → IsExactlyContradictory net task bits → b ≡ false
      by false h none = refl
      by true h none = let at = h refl in absurd (none (run_with at.0) (met_so at.0 at.1 at.2))

pub exact_results_are_findings : ExactResultsAreFindings
exact_results_are_findings = record { strong = strong_is; contradictory = contradictory_is }

-- whether some assignment is exactly strong can be decided
verdict_by : (net : RawNet) (vars : ℕ) (task : Assertion) (told : Bool) → (IsTrue told ↔ SomeAssignment vars (IsExactlyStrong net task)) → (verdict : Verdict) × IsExactVerdictOf net vars task verdict
verdict_by net vars task true tells = (Strong, tells.0 refl)
verdict_by net vars task false tells = (Pass, λ some. absurd (cc (tells.1 some)))

pub one_exact_verdict : OneExactVerdict
one_exact_verdict = record {
  some = λ net vars task sound.
      let made = exact_bits net vars task sound.driver sound.settled in
      let where_strong = exactly_strong_where net vars task made.0 in
      verdict_by net vars task (somewhere vars where_strong) (tells_some vars where_strong (IsExactlyStrong net task) (strong_is net vars task made.0 sound made.1));
  same = one_verdict_at_most;
}
