use Rattle.std.proofs.Common.{◌+◌, ◌∙◌, ap, sym, subst, List, Vec, Global, get_or, set, take}
use Rattle.std.proofs.lemmas.List.{take_all}
use Rattle.ste_engine.specs.declared.timed_cuts.TimedCut.{TimedCut}
use Rattle.ste_engine.specs.private.Times.{AreStarts}
use Rattle.ste_engine.proofs.Merged.{starts_none, starts_put, starts_same}
use Rattle.ste_engine.proofs.timeline.starts_of.Goals.{then-timed_cut+in_ok-push, else-timed_cut}
use Rattle.ste_engine.proofs.timeline.starts_of.Goals as goal

pub loop-timed_cut-init : goal.loop-timed_cut-init
loop-timed_cut-init c = starts_none c.args.depth c.in_ok-starts.starts.items c.in_ok-starts.ensures

pub loop-timed_cut-preserved : goal.loop-timed_cut-preserved
loop-timed_cut-preserved c =
    let timed_cuts : List TimedCut = c.args.timed_cuts.now in
    let k = c.loop-timed_cut.timed_cut-index in
    let none : TimedCut = record { cut = record { node = record { 0 = 0 }; guard = record { 0 = 0 }; value = record { 0 = 0 } }; from = 0; to = 0; place = 0 } in
    elim c.if-timed_cut.branch [
      | then-timed_cut+in_ok-push w ↦ starts_put timed_cuts c.args.depth k none c.loop-timed_cut.starts.items c.if-timed_cut.starts.items w.index_mut.result.now c.loop-timed_cut-test.true w.if-timed_cut.true (c.requires k none c.loop-timed_cut-test.true) w.index_mut.ensures.value
          (ap (λ (v : Vec (List TimedCut) Global). v.items) w.starts-is ∙ ap (λ x. set c.loop-timed_cut.starts.items (get_or timed_cuts k none).from x) w.in_ok-push.ensures.ok) c.loop-timed_cut.invariant
      | else-timed_cut w ↦ subst (λ (v : Vec (List TimedCut) Global). AreStarts (take (k + 1) timed_cuts) c.args.depth v.items) (sym w.starts-is)
          (starts_same timed_cuts c.args.depth k none c.loop-timed_cut.starts.items c.loop-timed_cut-test.true w.if-timed_cut.false c.loop-timed_cut.invariant)
    ]

pub returns : goal.returns
returns c = subst (λ (xs : List TimedCut). AreStarts xs c.args.depth c.loop-timed_cut.starts.items) (take_all c.loop-timed_cut.timed_cut-index c.args.timed_cuts.now c.loop-timed_cut-test.false) c.loop-timed_cut.invariant
