use Rattle.std.proofs.Common.{◌<◌, List, All, arith, length, subst, take}
use Rattle.std.proofs.lemmas.List.{take_all}
use Rattle.std.proofs.lemmas.List.Elements.{All-more}
use Rattle.ste_base.specs.declared.id.NodeId.{NodeId}
use Rattle.sym_step.specs.declared.readers.Readers.{Readers}
use Rattle.sym_step.specs.private.Readers.{Lists}
use Rattle.sym_step.proofs.Reading.{added_then, all_stay}
use Rattle.sym_step.proofs.readers.Readers.add_each.Goals as goal

pub loop-node-preserved : goal.loop-node-preserved
loop-node-preserved c =
    let ids : List NodeId = c.args.ids.now in
    let k = c.loop-node.node-index in
    let inv = c.loop-node.invariant in
    let z : NodeId = record { 0 = 0 } in
    let lt : k < length ids = omega (arith, c.loop-node-test.true) in
    let old : Readers = c.loop-node.self in
    let new : Readers = c.add.new.self in
    let p = c.in_ok-add.ensures in
    record {
      added = added_then c.args.self.now old new inv.added p.added;
      here = All-more (λ (n : NodeId). Lists new n.0 c.args.number) ids k z lt (all_stay old new (take k ids) c.args.number p.added inv.here) p.here;
    }

pub returns-clause-here : goal.returns-clause-here
returns-clause-here c =
    let ids : List NodeId = c.args.ids.now in
    let k = c.loop-node.node-index in
    subst (All (λ (n : NodeId). Lists c.loop-node.self n.0 c.args.number)) (take_all k ids (omega (arith, c.loop-node-test.false))) c.loop-node.invariant.here
