use Rattle.std.proofs.Common.{◌∙◌, ◌<◌, List, ap, get_or, length, subst}
use Rattle.net_core.specs.declared.raw.Gate.{Gate}
use Rattle.net_core.proofs.Undriven.{next_unmarked}
use Rattle.net_core.proofs.search.undriven_marks.Goals as goal

pub loop-gate-preserved : goal.loop-gate-preserved
loop-gate-preserved c =
    next_unmarked c.args.raw.now c.loop-gate.marks.items c.loop-gate.gate-index c.gate-item.result c.requires.in_range c.requires.one_driver
    (subst (λ (gates : List Gate). c.loop-gate.gate-index < length gates) c.as_slice-gate-items.ensures c.loop-gate-test.true)
    (c.gate-item.is ∙ ap (λ (gates : List Gate). get_or gates c.loop-gate.gate-index c.gate-item.result) c.as_slice-gate-items.ensures)
    c.loop-gate.invariant
