-- Counterexamples by their choices, and the least of them as a list of bits.
use Rattle.std.proofs.Common.{◌≡◌, ℕ, suc, ◌+◌, ◌-◌, ◌<◌, ◌≤◌, Bool, true, false, List, [], ◌∷◌, ◌++◌, take, drop, length, get_or, arith, refl, sym, ◌∙◌, ap, subst, replicate, Option, None, Some, inl, inr}
use Rattle.std.specs.Prelude.{All, IsTrue}
use Rattle.std.proofs.Math.Seq.{drop-append_seam, take-add, take-append_seam}
use Rattle.std.proofs.lemmas.Bool.{and_from, and_parts, both_ways, not-true, not_from_false}
use Rattle.std.proofs.lemmas.List.{length-append, length-drop, length-map, length-replicate, length-take, take-append-drop}
use Rattle.dd_nodes.specs.declared.node.Ref.{Ref}
use Rattle.dd_nodes.specs.Stores.{Means, Store, function}
use Rattle.net_core.specs.declared.raw.RawNet.{RawNet}
use Rattle.net_core.specs.Flat.{HasOneDriver}
use Rattle.net_core.specs.Run.{IsSettled}
use Rattle.net_core.specs.Work.{sum}
use Rattle.ste_base.specs.Functions.{Function}
use Rattle.ste_base.specs.declared.id.NodeId.{NodeId}
use Rattle.ste_model.specs.declared.report.Report.{Report}
use Rattle.ste_model.specs.declared.run.Run.{Run}
use Rattle.ste_model.specs.declared.task.Assertion.{Assertion}
use Rattle.ste_model.specs.declared.task.Quint.{Quint}
use Rattle.ste_model.specs.declared.verdict.Verdict.TheVariants.{Pass, Strong}
use Rattle.ste_model.specs.Asked.{cuts_at, depth}
use Rattle.ste_model.specs.Assignments.{IsBefore}
use Rattle.ste_model.specs.Holds.{IsTaskRun, RunMeets}
use Rattle.ste_model.specs.Least.{IsLeast, IsLeastOf}
use Rattle.ste_model.specs.Runs.{run_of}
use Rattle.ste_model.proofs.Broken.{meets_or_breaks}
use Rattle.ste_model.proofs.Due.{asks_of_nets}
use Rattle.ste_model.proofs.Passes.{on_below}
use Rattle.exact_model.specs.Choices.{Cell, bits_at, choices}
use Rattle.exact_model.specs.Exact.{IsCounterexample, IsExactlyStrong, IsSoundFor}
use Rattle.exact_model.specs.ExactReport.{IsBrokenFirst, ShowsExactly}
use Rattle.exact_model.specs.ExactWork.{AreExactBits, all_broken, counter_where, met_where}
use Rattle.exact_model.specs.Wider.{bits_over_more}
use Rattle.exact_model.proofs.Breaking.{ant_ends, before, broken_is_not_met, con_ends, is_met, met_is, not_met_is_broken}
use Rattle.exact_model.proofs.ChoiceRuns.{runs_are_choices}
use Rattle.exact_model.proofs.FirstBits.{with_more}
use Rattle.exact_engine.specs.declared.showing.Shown.{Shown}
use Rattle.exact_engine.specs.private.Reporting.{IsLeastCounter, IsLeastFound, IsShownExactly, TellsCounters}
use Rattle.exact_engine.specs.private.Running.{IsRunWith}
use Rattle.exact_engine.proofs.Resulting.{counter_first, wide_exact}

-- ---- the order of lists

behind_one : (bit : Bool) (one other : List Bool) → IsBefore one other → IsBefore (bit ∷ one) (bit ∷ other)
behind_one bit one other h = record { place = suc h.place; same = ap (λ bits. bit ∷ bits) h.same; earlier = h.earlier; later = h.later }

behind_same : (front one other : List Bool) → IsBefore one other → IsBefore (front ++ one) (front ++ other)
behind_same [] one other h = h
behind_same (bit ∷ front) one other h = behind_one bit (front ++ one) (front ++ other) (behind_same front one other h)

-- ---- a run by its choices

-- a run that agrees with one that meets what is asked meets it
meets_as : (net : RawNet) (task : Assertion) (quints : List Quint) (bits : List Bool) (one other : ℕ → ℕ → Bool) → All (λ quint. quint.to ≤ depth task) quints → All (λ quint. quint.node.0 < net.nets) quints → ((t id : ℕ) → t < depth task → id < net.nets → one t id ≡ other t id) → RunMeets (cuts_at quints bits) one → RunMeets (cuts_at quints bits) other
meets_as net task quints bits one other ends nets same meets t k d l on =
    let cut = get_or (cuts_at quints bits t) k d in
    sym (same t cut.node (on_below bits t (depth task) quints ends k d l on) (asks_of_nets net.nets bits t quints nets k d l)) ∙ meets t k d l on

module _ (net : RawNet) (vars : ℕ) (task : Assertion) (bit : ℕ → ℕ → Function) (sound : IsSoundFor net vars task) (exact : AreExactBits net vars task bit) where
  abbrev w : ℕ
  w = length (choices net task)

  abbrev wide : ℕ → ℕ → Function
  wide = bits_over_more (vars + w) bit

  module _ (front rest : List Bool) (run : ℕ → ℕ → Bool) (long : length front ≡ vars) (fit : length rest ≡ w) (is : IsTaskRun net task.reset (depth task) run) (chosen : bits_at (choices net task) run ≡ rest) where
    abbrev joined : List Bool
    joined = front ++ rest

    abbrev made : ℕ → ℕ → Bool
    made t id = wide t id joined

    total : length joined ≡ vars + w
    total = let h = length-append front rest in omega (arith, h, long, fit)

    same : (t id : ℕ) → t < depth task → id < net.nets → run t id ≡ made t id
    same =
        let x = wide_exact net vars task bit sound exact in
        let behind : drop vars joined ≡ rest = ap (λ (n : ℕ). drop n joined) (sym long) ∙ drop-append_seam front rest in
        runs_are_choices.same net task run made sound.range sound.driver sound.settled is (x.is_run joined total) (chosen ∙ sym (x.chosen joined total ∙ behind))

    back : (t id : ℕ) → t < depth task → id < net.nets → made t id ≡ run t id
    back t id l m = sym (same t id l m)

    is_counter : IsTrue (counter_where task wide joined) → IsCounterexample net task front run
    is_counter h =
        let p = and_parts (met_where task wide joined) (sum (all_broken task task.con wide) joined) h in
        record {
          allowed = record {
            is_run = is;
            meets = meets_as net task task.ant front made run (ant_ends task) sound.over.ant back
                (met_is task task.ant wide joined front (ant_ends task) (before vars front rest task.ant long sound.reads_ant) (not-true (sum (all_broken task task.ant wide) joined) p.0));
          };
          breaks = λ meets.
              broken_is_not_met task task.con wide joined front (con_ends task) (before vars front rest task.con long sound.reads_con) p.1
              (meets_as net task task.con front run made (con_ends task) sound.over.con same meets);
        }

    counter_is : IsCounterexample net task front run → IsTrue (counter_where task wide joined)
    counter_is c =
        and_from (met_where task wide joined) (sum (all_broken task task.con wide) joined)
        (not_from_false (sum (all_broken task task.ant wide) joined)
        (is_met task task.ant wide joined front (ant_ends task) (before vars front rest task.ant long sound.reads_ant)
        (meets_as net task task.ant front run made (ant_ends task) sound.over.ant same c.allowed.meets)))
        (not_met_is_broken task task.con wide joined front (con_ends task) (before vars front rest task.con long sound.reads_con)
        (λ meets. c.breaks (meets_as net task task.con front made run (con_ends task) sound.over.con back meets)))

  -- ---- what the reference tells

  pub tells_counters : (s : Store) (r : Ref) → vars + w ≤ s.vars → Means s (counter_where task wide) r → TellsCounters net vars task s r
  tells_counters s r room m = record {
    sound = λ bits run l h is chosen.
        let front : List Bool = take vars bits in
        let rest : List Bool = take w (drop vars bits) in
        let long : length front ≡ vars = simp (length-take) (omega (arith, l, room)) in
        let fit : length rest ≡ w = simp (length-take, length-drop) (omega (arith, l, room)) in
        let value : counter_where task wide (front ++ rest) ≡ true =
        ap (counter_where task wide) (sym (take-add vars w bits)) ∙ sym (counter_first net vars task bit sound exact bits (omega (arith, l, room))) ∙ sym (m.value bits l) ∙ h in
        is_counter front rest run long fit is chosen value;
    complete = λ bits rest run l total c.
        let ch : List Bool = bits_at (choices net task) run in
        let fit : length ch ≡ w = length-map (choices net task) (λ (x : Cell). run x.time x.net) in
        let all : List Bool = bits ++ ch in
        let long : length all ≡ vars + w = let h = length-append bits ch in omega (arith, h, l, fit) in
        let cut : take (vars + w) (all ++ rest) ≡ all = ap (λ (n : ℕ). take n (all ++ rest)) (sym long) ∙ take-append_seam all rest in
        let more = length-append all rest in
        m.value (all ++ rest) total ∙ counter_first net vars task bit sound exact (all ++ rest) (omega (arith, more, long))
        ∙ ap (counter_where task wide) cut ∙ counter_is bits ch run l fit c.allowed.is_run refl c;
  }

-- ---- the least counterexample

module _ (net : RawNet) (vars : ℕ) (task : Assertion) (s : Store) (r : Ref) (room : vars + length (choices net task) ≤ s.vars) (tells : TellsCounters net vars task s r) where
  abbrev width : ℕ
  width = vars + length (choices net task)

  -- at each counterexample the function is 1, with 0 behind its choices
  padded : List Bool → (ℕ → ℕ → Bool) → List Bool
  padded bits run = (bits ++ bits_at (choices net task) run) ++ replicate (s.vars - width) false

  padded_long : (bits : List Bool) (run : ℕ → ℕ → Bool) → length bits ≡ vars → length (padded bits run) ≡ s.vars
  unfolding padded
  padded_long bits run l =
      let fit = length-map (choices net task) (λ (x : Cell). run x.time x.net) in
      let a = length-append bits (bits_at (choices net task) run) in
      let zeros : List Bool = replicate (s.vars - width) false in
      let b = length-append (bits ++ bits_at (choices net task) run) zeros in
      let c : length zeros ≡ s.vars - width = length-replicate (s.vars - width) false in
      omega (arith, fit, a, b, c, l, room)

  padded_one : (bits : List Bool) (run : ℕ → ℕ → Bool) → length bits ≡ vars → IsCounterexample net task bits run → IsTrue (function s r (padded bits run))
  unfolding padded
  padded_one bits run l c = tells.complete bits (replicate (s.vars - width) false) run l (padded_long bits run l) c

  pub least_found : (found : Option (List Bool)) → IsLeastOf s.vars (function s r) found → IsLeastFound net vars task found
  unfolding padded
  least_found None none = λ bits long strong.
      both_ways (function s r (padded bits strong.0)) (none (padded bits strong.0) (padded_long bits strong.0 long)) (padded_one bits strong.0 long strong.1)
  least_found (Some all) is = record {
    room = let l = is.long in omega (arith, l, room);
    counter = λ run is_run chosen. tells.sound all run is.long is.has is_run chosen;
    least = λ bits run long c before.
        is.least (padded bits run) (padded_long bits run long) (padded_one bits run long c)
        (subst (λ (xs : List Bool). IsBefore (padded bits run) xs) (take-append-drop width all)
        (with_more (bits ++ bits_at (choices net task) run) (take width all) (replicate (s.vars - width) false) (drop width all) before));
  }

-- ---- what is shown

none_strong : (net : RawNet) (vars : ℕ) (task : Assertion) → IsLeastFound net vars task None → (report : Report) → report.verdict ≡ Pass → report.least ≡ None → report.fails ≡ None → report.run ≡ None → ShowsExactly net vars task report
none_strong net vars task none report v l f r = inr ((λ e. absurd (cc (v, e))), l, f, r)

-- what is shown of a failure
abbrev pub strong_parts : List Bool → NodeId × ℕ → Run → Shown
strong_parts bits place told = record { verdict = Strong; least = Some bits; fails = Some place; run = Some told }

pub pass_shown : (net : RawNet) (vars : ℕ) (task : Assertion) → IsLeastFound net vars task None → IsShownExactly net vars task (record { verdict = Pass; least = None; fails = None; run = None })
pass_shown net vars task none = record {
  judged = λ some. none some.0 some.1 some.2;
  shows = none_strong net vars task none;
}

module _ (net : RawNet) (vars : ℕ) (task : Assertion) (all : List Bool) (is : IsLeastCounter net vars task all) where
  abbrev front : List Bool
  front = take vars all

  abbrev chosen_bits : List Bool
  chosen_bits = take (length (choices net task)) (drop vars all)

  pub front_fits : vars ≤ length all
  front_fits = let r = is.room in omega (arith, r)

  pub choices_fit : length (choices net task) ≤ length (drop vars all)
  choices_fit = simp (length-drop) (let r = is.room in omega (arith, r))

  front_long : length front ≡ vars
  front_long = let f = front_fits in simp (length-take) (omega (arith, f))

  -- the assertion asks something at some time
  pub asks_something : HasOneDriver net → IsSettled net → 0 < depth task
  asks_something driver settled =
      let fit = choices_fit in
      let long : length chosen_bits ≡ length (choices net task) = simp (length-take) (omega (arith, fit)) in
      let made = runs_are_choices.some net task chosen_bits driver settled long in
      let c = is.counter made.0 made.1 made.2 in
      elim (meets_or_breaks.either task front made.0) [
        | inl meets ↦ absurd (c.breaks meets)
        | inr some ↦ let l = some.2.within in omega (arith, l)
      ]

  module _ (told : Run) (run : IsRunWith net task (drop vars all) told) where
    pub counter : IsCounterexample net task front (run_of told)
    counter = is.counter (run_of told) run.is_run run.chosen

    whole : take (vars + length (choices net task)) all ≡ front ++ chosen_bits
    whole = take-add vars (length (choices net task)) all

    is_least : IsLeast vars (IsExactlyStrong net task) front
    is_least = record {
      long = front_long;
      has = (run_of told, counter);
      least = λ other long strong before.
          is.least other strong.0 long strong.1
          (subst (λ (xs : List Bool). IsBefore (other ++ bits_at (choices net task) strong.0) xs) (sym whole)
          (with_more other front (bits_at (choices net task) strong.0) chosen_bits before));
    }

    first : (other : ℕ → ℕ → Bool) → IsCounterexample net task front other → ¬ IsBefore (bits_at (choices net task) other) (bits_at (choices net task) (run_of told))
    first other c before =
        is.least front other front_long c
        (subst (λ (xs : List Bool). IsBefore (front ++ bits_at (choices net task) other) xs) (sym whole)
        (behind_same front (bits_at (choices net task) other) chosen_bits (subst (λ (xs : List Bool). IsBefore (bits_at (choices net task) other) xs) run.chosen before)))

    pub strong_shown : (place : NodeId × ℕ) → IsBrokenFirst task front (run_of told) place → IsShownExactly net vars task (strong_parts front place told)
    strong_shown place broken = record {
      judged = (front, front_long, (run_of told, counter));
      shows = λ report v l f r. inl (
        v,
        record {
          bits = front;
          least_is = l;
          is_least = is_least;
          told = told;
          run_is = r;
          rows = run.rows;
          counter = counter;
          first = first;
          place = place;
          fails_is = f;
          is_place = broken;
        },
      );
    }
