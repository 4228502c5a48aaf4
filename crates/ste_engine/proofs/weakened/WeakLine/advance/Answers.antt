use Rattle.std.proofs.Common.{◌∙◌, List, ap, map, sym}
use Rattle.sym_step.specs.declared.cut.Cut.{Cut}
use Rattle.sym_step.specs.Step.{ids_of}
use Rattle.ste_engine.specs.private.Weakened.{weak_timed_cuts}
use Rattle.ste_engine.proofs.WeakLines.{nets_are, weak_placed}
use Rattle.ste_engine.proofs.weakened.WeakLine.advance.Goals as goal

pub returns : goal.returns
returns c = λ weak depth is lt.
    let turned = c.in_ok-advance.ensures (weak_timed_cuts depth 0 weak) depth is lt (weak_placed depth 0 weak) in
    record {
      is = turned.is;
      given = sym (ap ids_of (c.in_ok-self.ensures ∙ ap (λ (cuts : List Cut). map (λ (x : Cut). x.node) cuts) (c.cuts.ensures ∙ turned.given)) ∙ nets_are depth 0 c.args.t weak lt);
    }
