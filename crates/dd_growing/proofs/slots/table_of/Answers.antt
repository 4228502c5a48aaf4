use Rattle.std.proofs.Common.{◌∙◌, arith}
use Rattle.std.proofs.lemmas.Option.{slice_get-get_or}
use Rattle.dd_growing.proofs.GrowingSteps.{has_more}
use Rattle.dd_growing.proofs.Walks.{long_placed}
use Rattle.dd_growing.proofs.slots.table_of.Goals as goal

pub loop-k-preserved : goal.loop-k-preserved
loop-k-preserved c =
    let i = c.loop-k.invariant in
    let k = c.loop-k.k in
    let nodes = c.args.nodes.now in
    let old = c.loop-k.table.items in
    let new = c.put_into.new.table.items in
    let few = c.requires.few in
    let lt = c.loop-k-test.true in
    record {
      long = long_placed old new _ _ c.put_into.ensures ∙ i.long;
      has = has_more nodes k old new _ (omega (arith, few, lt)) (slice_get-get_or nodes k _ lt) i.has c.put_into.ensures;
    }
