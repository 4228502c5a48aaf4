use Rattle.std.proofs.Common.{◌∙◌, get_or, arith}
use Rattle.std.proofs.lemmas.List.{get_or_default}
use Rattle.ste_base.specs.declared.id.NodeId.{NodeId}
use Rattle.plain_check.proofs.Flagged.{flag_turn, flags_all}
use Rattle.plain_check.proofs.sources.flags_of.Goals as goal

pub loop-node-preserved : goal.loop-node-preserved
loop-node-preserved c =
    let d : NodeId = record { 0 = 0 } in
    let nodes = c.args.weak.now in
    let n = c.loop-node.node-index in
    let node = get_or nodes n d in
    let is = get_or_default nodes n d node c.loop-node-test.true in
    let long = c.loop-node.invariant.long in
    record {
      long = c.mark.ensures.long ∙ long;
      flags =
          flag_turn nodes n c.args.nets node c.loop-node.flags.items c.mark.new.flags.items
          c.loop-node-test.true is long c.mark.ensures.each c.loop-node.invariant.flags;
    }

pub returns : goal.returns
returns c =
    let loop = c.loop-node in
    flags_all c.args.weak.now loop.node-index c.args.nets loop.flags.items (omega arith)
    loop.invariant.flags
