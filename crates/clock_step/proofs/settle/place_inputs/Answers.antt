use Rattle.std.proofs.Common.{◌∙◌, get_or, false, arith}
use Rattle.std.proofs.lemmas.List.{get_or_default, length-set}
use Rattle.ste_base.specs.declared.id.NodeId.{NodeId}
use Rattle.clock_step.proofs.Placed.{next_placed}
use Rattle.clock_step.proofs.settle.place_inputs.Goals as goal

pub loop-k-preserved : goal.loop-k-preserved
loop-k-preserved c =
    let d : NodeId = record { 0 = 0 } in
    let node = get_or c.args.nodes.now c.loop-k.k d in
    let b = get_or c.args.row.now c.loop-k.k false in
    record {
      long = length-set c.loop-k.bits node.0 b ∙ c.loop-k.invariant.long;
      placed = next_placed c.args.nodes.now c.args.row.now c.loop-k.bits c.loop-k.k node b c.requires.different c.requires.wide c.loop-k-test.true
          (get_or_default c.args.nodes.now c.loop-k.k d node c.loop-k-test.true)
          (let within = c.requires.within c.loop-k.k d c.loop-k-test.true in omega (arith, within, c.loop-k.invariant.long))
          (get_or_default c.args.row.now c.loop-k.k false b (omega (arith, c.requires.wide, c.loop-k-test.true)))
          c.loop-k.invariant.placed;
    }
