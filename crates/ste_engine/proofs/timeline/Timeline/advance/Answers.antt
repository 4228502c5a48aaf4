use Rattle.std.proofs.Common.{◌≡◌, [], ◌+◌, ◌∙◌, ap, arith, filter, List, sym}
use Rattle.std.specs.Prelude.{nat_lt}
use Rattle.std.proofs.lemmas.List.{get_or_default}
use Rattle.ste_engine.specs.declared.timed_cuts.TimedCut.{TimedCut}
use Rattle.ste_engine.specs.private.TimedCuts.{begins_at, cuts_of, merge as merge_of, ran_before}
use Rattle.ste_engine.proofs.Merged.{kept_all, runs_now, runs_on}
use Rattle.ste_engine.proofs.timeline.Timeline.advance.Goals as goal

pub returns : goal.returns
returns c = λ timed_cuts depth is lt placed.
    let t = c.args.t in
    let lasts : List TimedCut → List TimedCut = λ xs. filter (λ timed_cut. nat_lt t timed_cut.to) xs in
    let begins : List TimedCut = filter (begins_at t) timed_cuts in
    let long = is.starts.long in
    let running : c.deref-2.result.now ≡ lasts (filter (ran_before t) timed_cuts) = c.deref-2.ensures.value ∙ c.in_ok-lasting.ensures ∙ ap lasts (c.deref.ensures.value ∙ is.running) in
    let beginning : c.as_slice.result.now ≡ begins = c.as_slice.ensures ∙ c.index.ensures ∙ get_or_default c.args.self.now.starts.items t c.index.result.now [] (omega (arith, lt, long)) ∙ is.starts.each t lt in
    let next = c.in_ok-self.ensures ∙ ap (λ xs. merge_of xs c.as_slice.result.now) running ∙ ap (λ xs. merge_of (lasts (filter (ran_before t) timed_cuts)) xs) beginning ∙ runs_on t 0 timed_cuts placed in
    let cuts = c.in_ok-self-2.ensures ∙ ap cuts_of c.deref-3.ensures.value in
    record {
      is = record { starts = is.starts; running = next; cuts = cuts };
      given = cuts ∙ ap cuts_of (next ∙ runs_now t timed_cuts);
    }

pub returns-then-stays : goal.returns-then-stays
returns-then-stays c = λ timed_cuts depth is lt placed.
    let t = c.args.t in
    let lasts : List TimedCut → List TimedCut = λ xs. filter (λ timed_cut. nat_lt t timed_cut.to) xs in
    let begins : List TimedCut = filter (begins_at t) timed_cuts in
    let long = is.starts.long in
    let p = c.stays.ensures in
    let none : [] ≡ begins = sym (p.none c.if-stays.true) ∙ is.starts.each t lt in
    let all : c.args.self.now.running.items ≡ lasts c.args.self.now.running.items = sym (kept_all (λ timed_cut. nat_lt t timed_cut.to) c.args.self.now.running.items (p.all c.if-stays.true)) in
    let next : c.args.self.now.running.items ≡ filter (ran_before (t + 1)) timed_cuts = all ∙ ap lasts is.running ∙ ap (λ xs. merge_of (lasts (filter (ran_before t) timed_cuts)) xs) none ∙ runs_on t 0 timed_cuts placed in
    record {
      is = record { starts = is.starts; running = next; cuts = is.cuts };
      given = is.cuts ∙ ap cuts_of (next ∙ runs_now t timed_cuts);
    }
