-- What sets of bits decide of an exact check, where the antecedent is bindable and nothing is weak.
use Rattle.std.proofs.Common.{◌≡◌, ℕ, ◌-◌, ◌≤◌, Bool, false, List, take, drop, length, replicate, arith, sym, ◌∙◌, ap, subst, Option, None, Some, inl}
use Rattle.std.specs.Prelude.{IsTrue, ◌↔◌}
use Rattle.std.proofs.lemmas.Bool.{both_ways}
use Rattle.std.proofs.lemmas.List.{length-take, take-append-drop}
use Rattle.dd_nodes.specs.declared.node.Ref.{Ref}
use Rattle.dd_nodes.specs.Stores.{Store, function}
use Rattle.dd_nodes.proofs.Spending.{zero_means}
use Rattle.dd_nodes.proofs.Stores.{IsGood}
use Rattle.dd_nodes.proofs.Walks.{same_numbers}
use Rattle.net_core.specs.declared.raw.RawNet.{RawNet}
use Rattle.ste_base.specs.declared.id.NodeId.{NodeId}
use Rattle.ste_model.specs.declared.run.Run.{Run}
use Rattle.ste_model.specs.declared.task.Assertion.{Assertion}
use Rattle.ste_model.specs.Asked.{depth}
use Rattle.ste_model.specs.Assignments.{IsBefore}
use Rattle.ste_model.specs.Found.{IsWeak}
use Rattle.ste_model.specs.Least.{IsLeastOf}
use Rattle.ste_model.specs.Runs.{HasRows, run_of}
use Rattle.ste_model.specs.Shown.{IsPrinted}
use Rattle.engine_parts.specs.declared.results.Results.{Results}
use Rattle.ste_engine.specs.Findings.{TellFindings}
use Rattle.exact_model.specs.Choices.{bits_at, choices}
use Rattle.exact_model.specs.Exact.{IsCounterexample, IsExactlyStrong}
use Rattle.exact_model.specs.ExactReport.{IsBrokenFirst}
use Rattle.exact_model.proofs.Printing.{bindable_is_free, printed_is_least}
use Rattle.exact_engine.specs.private.BySets.{IsBoundBelow, IsLeastStrong, IsLeastStrongOf}
use Rattle.exact_engine.specs.private.Reporting.{IsShownExactly, TellSets}
use Rattle.exact_engine.proofs.Fronts.{contradictory_front, counter_front, counter_whole, padded, padded_front, padded_long, strong_front}
use Rattle.exact_engine.proofs.LeastCounters.{strong_parts}
use Rattle.exact_model.proofs.FirstBits.{with_more}

both : (A B C : Type 0) → A ↔ B → B ↔ C → A ↔ C
both A B C f g = ((λ a. g.0 (f.0 a)), (λ c. f.1 (g.1 c)))

-- ---- both sets

module _ (net : RawNet) (vars : ℕ) (task : Assertion) (s : Store) (r : Results) (good : IsGood s) (is : IsBoundBelow net vars task) (room : vars ≤ s.vars) (told : TellFindings s net task r) (none : r.weak.0 ≡ 0) where
  not_weak : (bits : List Bool) → length bits ≡ s.vars → IsWeak net task bits → ⊥
  not_weak bits l weak =
      let zero_ref : Ref = record { 0 = 0 } in
      let same : r.weak ≡ zero_ref = same_numbers r.weak zero_ref none in
      both_ways (function s r.weak bits) (ap (λ (x : Ref). function s x bits) same ∙ (zero_means s good).value bits l) ((told.weak bits l).1 weak)

  wide : (bits : List Bool) → length bits ≡ s.vars → vars ≤ length bits
  wide bits l = omega (arith, l, room)

  pub by_sets : TellSets net vars task s r
  by_sets = record {
    within = room;
    refs = told.refs;
    none = none;
    strong = λ bits l.
        both _ _ _ (told.strong bits l)
        (both _ _ _ (bindable_is_free.unless_weak net task bits is.bound (not_weak bits l)) (strong_front vars bits (wide bits l) net task is.reads_ant is.reads_con));
    contradictory = λ bits l.
        both _ _ _ (told.contradictory bits l)
        (both _ _ _ (bindable_is_free.contradictory net task bits is.bound) (contradictory_front vars bits (wide bits l) net task is.reads_ant is.reads_con));
  }

  -- ---- the least of the strong assignments

  padded_strong : (bits : List Bool) → (l : length bits ≡ vars) → IsExactlyStrong net task bits → IsTrue (function s r.strong (padded vars s.vars room bits l))
  padded_strong bits l strong =
      (by_sets.strong (padded vars s.vars room bits l) (padded_long vars s.vars room bits l)).1
      (subst (IsExactlyStrong net task) (sym (padded_front vars s.vars room bits l)) strong)

  pub least_strong : (found : Option (List Bool)) → IsLeastOf s.vars (function s r.strong) found → IsLeastStrongOf net vars task found
  least_strong None h = λ bits l strong. both_ways (function s r.strong (padded vars s.vars room bits l)) (h (padded vars s.vars room bits l) (padded_long vars s.vars room bits l)) (padded_strong bits l strong)
  least_strong (Some all) h = record {
    room = wide all h.long;
    strong = (told.strong all h.long).0 h.has;
    least = λ bits l strong before.
        h.least (padded vars s.vars room bits l) (padded_long vars s.vars room bits l) (padded_strong bits l strong)
        (subst (λ (xs : List Bool). IsBefore (padded vars s.vars room bits l) xs) (take-append-drop vars all) (with_more bits (take vars all) (replicate (s.vars - vars) false) (drop vars all) before));
  }

-- ---- what is shown

module _ (net : RawNet) (vars : ℕ) (task : Assertion) (all : List Bool) (is : IsBoundBelow net vars task) (least : IsLeastStrong net vars task all) (told : Run) (rows : HasRows net.nets (depth task) told) (printed : IsPrinted net task all (run_of told)) where
  pub counter : IsCounterexample net task (take vars all) (run_of told)
  counter = counter_front vars all least.room net task is.reads_ant is.reads_con (run_of told) (printed_is_least.counter net task all (run_of told) is.bound least.strong printed)

  first : (other : ℕ → ℕ → Bool) → IsCounterexample net task (take vars all) other → IsBefore (bits_at (choices net task) other) (bits_at (choices net task) (run_of told)) → ⊥
  first other c = printed_is_least.least net task all (run_of told) other is.bound least.strong printed (counter_whole vars all least.room net task is.reads_ant is.reads_con other c)

  front_long : length (take vars all) ≡ vars
  front_long = let room = least.room in simp (length-take) (omega (arith, room))

  pub printed_shown : (place : NodeId × ℕ) → IsBrokenFirst task (take vars all) (run_of told) place → IsShownExactly net vars task (strong_parts (take vars all) place told)
  printed_shown place broken = record {
    judged = (take vars all, front_long, (run_of told, counter));
    shows = λ report v l f r. inl (
      v,
      record {
        bits = take vars all;
        least_is = l;
        is_least = record { long = front_long; has = (run_of told, counter); least = λ other m strong before. least.least other m strong before };
        told = told;
        run_is = r;
        rows = rows;
        counter = counter;
        first = first;
        place = place;
        fails_is = f;
        is_place = broken;
      },
    );
  }
