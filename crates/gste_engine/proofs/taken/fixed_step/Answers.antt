use Rattle.std.proofs.Common.{◌≡◌, Ok, Err, ap, map, refl, sym}
use Rattle.sym_step.specs.Step.{ids_of}
use Rattle.dd_nodes.specs.Stores.{Store}
use Rattle.dd_ops.specs.declared.fault.OpFault.TheVariants.{OutOfMemory}
use Rattle.net_core.specs.declared.raw.RawNet.{RawNet}
use Rattle.net_core.specs.Run.{IsSettled}
use Rattle.net_core.proofs.Ordered.{settled_by_order}
use Rattle.gste_engine.specs.private.Taken.{fixed_bind, fixed_rails}
use Rattle.gste_engine.proofs.FixedSteps.{all_goes, all_makes, cuts_as, cuts_inside, held_as, held_refs, on_edge}
use Rattle.gste_engine.proofs.taken.fixed_step.Goals as goal

pub advance-requires-clause-latches : goal.advance-requires-clause-latches
advance-requires-clause-latches g c =
    let s : Store = g.N.Nodes.store c.args.nodes.now in
    let t : Store = g.N.Nodes.store c.fixed_sets.new.nodes in
    let gt = g.met.N.Nodes.diagram c.fixed_sets.new.nodes in
    let net : RawNet = c.args.net.now.raw in
    let settled : IsSettled net = settled_by_order net c.args.net.now.settled c.args.net.now.in_order in
    let held_is : c.as_slice-3.result.now ≡ map (fixed_rails s c.args.bits.now) c.args.source.now.latches = held_as s c.args.bits.now c.as_slice-3.result.now c.in_ok-latches.latches.items c.as_slice.result.now c.args.source.now.latches c.as_slice-3.ensures.value c.in_ok-latches.ensures.fixed c.as_slice.ensures in
    let cuts_are : c.as_slice-5.result.now ≡ map (fixed_bind c.args.bits.now) c.args.edge.now.ant = cuts_as c.args.bits.now c.as_slice-5.result.now c.in_ok-cuts.cuts.items c.as_slice-2.result.now c.args.edge.now.ant c.as_slice-5.ensures.value c.in_ok-cuts.ensures c.as_slice-2.ensures in
    held_refs net settled c.args.bits.now c.args.edge.now s t t c.args.source.now.latches c.as_slice-3.result.now c.as_slice-4.result.now c.as_slice-5.result.now (Err OutOfMemory) (ap ids_of (sym c.as_slice-4.ensures)) gt c.in_ok-latches.ensures.store held_is cuts_are

pub advance-requires-clause-cuts : goal.advance-requires-clause-cuts
advance-requires-clause-cuts g c =
    let s : Store = g.N.Nodes.store c.args.nodes.now in
    let t : Store = g.N.Nodes.store c.fixed_sets.new.nodes in
    let gt = g.met.N.Nodes.diagram c.fixed_sets.new.nodes in
    let net : RawNet = c.args.net.now.raw in
    let settled : IsSettled net = settled_by_order net c.args.net.now.settled c.args.net.now.in_order in
    let held_is : c.as_slice-3.result.now ≡ map (fixed_rails s c.args.bits.now) c.args.source.now.latches = held_as s c.args.bits.now c.as_slice-3.result.now c.in_ok-latches.latches.items c.as_slice.result.now c.args.source.now.latches c.as_slice-3.ensures.value c.in_ok-latches.ensures.fixed c.as_slice.ensures in
    let cuts_are : c.as_slice-5.result.now ≡ map (fixed_bind c.args.bits.now) c.args.edge.now.ant = cuts_as c.args.bits.now c.as_slice-5.result.now c.in_ok-cuts.cuts.items c.as_slice-2.result.now c.args.edge.now.ant c.as_slice-5.ensures.value c.in_ok-cuts.ensures c.as_slice-2.ensures in
    cuts_inside net settled c.args.bits.now c.args.edge.now s t t c.args.source.now.latches c.as_slice-3.result.now c.as_slice-4.result.now c.as_slice-5.result.now (Err OutOfMemory) (ap ids_of (sym c.as_slice-4.ensures)) gt c.in_ok-latches.ensures.store held_is cuts_are c.requires.nets

pub returns-in-Ok-clause-step : goal.returns-in-Ok-clause-step
returns-in-Ok-clause-step g c =
    let s : Store = g.N.Nodes.store c.args.nodes.now in
    let t : Store = g.N.Nodes.store c.fixed_sets.new.nodes in
    let u : Store = g.N.Nodes.store c.advance.new.nodes in
    let gu = g.met.N.Nodes.diagram c.advance.new.nodes in
    let gt = g.met.N.Nodes.diagram c.fixed_sets.new.nodes in
    let net : RawNet = c.args.net.now.raw in
    let settled : IsSettled net = settled_by_order net c.args.net.now.settled c.args.net.now.in_order in
    let held_is : c.as_slice-3.result.now ≡ map (fixed_rails s c.args.bits.now) c.args.source.now.latches = held_as s c.args.bits.now c.as_slice-3.result.now c.in_ok-latches.latches.items c.as_slice.result.now c.args.source.now.latches c.as_slice-3.ensures.value c.in_ok-latches.ensures.fixed c.as_slice.ensures in
    let cuts_are : c.as_slice-5.result.now ≡ map (fixed_bind c.args.bits.now) c.args.edge.now.ant = cuts_as c.args.bits.now c.as_slice-5.result.now c.in_ok-cuts.cuts.items c.as_slice-2.result.now c.args.edge.now.ant c.as_slice-5.ensures.value c.in_ok-cuts.ensures c.as_slice-2.ensures in
    on_edge net settled c.args.bits.now c.args.edge.now s t u c.args.source.now.latches c.as_slice-3.result.now c.as_slice-4.result.now c.as_slice-5.result.now (Ok c.in-Ok.made) (ap ids_of (sym c.as_slice-4.ensures)) gt c.in_ok-latches.ensures.store held_is cuts_are c.in-Ok.ensures.built c.in-Ok.made refl

pub returns-in-Ok-clause-same : goal.returns-in-Ok-clause-same
returns-in-Ok-clause-same g c =
    let s : Store = g.N.Nodes.store c.args.nodes.now in
    let t : Store = g.N.Nodes.store c.fixed_sets.new.nodes in
    let u : Store = g.N.Nodes.store c.advance.new.nodes in
    let gu = g.met.N.Nodes.diagram c.advance.new.nodes in
    let gt = g.met.N.Nodes.diagram c.fixed_sets.new.nodes in
    let net : RawNet = c.args.net.now.raw in
    let settled : IsSettled net = settled_by_order net c.args.net.now.settled c.args.net.now.in_order in
    let held_is : c.as_slice-3.result.now ≡ map (fixed_rails s c.args.bits.now) c.args.source.now.latches = held_as s c.args.bits.now c.as_slice-3.result.now c.in_ok-latches.latches.items c.as_slice.result.now c.args.source.now.latches c.as_slice-3.ensures.value c.in_ok-latches.ensures.fixed c.as_slice.ensures in
    let cuts_are : c.as_slice-5.result.now ≡ map (fixed_bind c.args.bits.now) c.args.edge.now.ant = cuts_as c.args.bits.now c.as_slice-5.result.now c.in_ok-cuts.cuts.items c.as_slice-2.result.now c.args.edge.now.ant c.as_slice-5.ensures.value c.in_ok-cuts.ensures c.as_slice-2.ensures in
    all_makes net settled c.args.bits.now c.args.edge.now s t u c.args.source.now.latches c.as_slice-3.result.now c.as_slice-4.result.now c.as_slice-5.result.now (Ok c.in-Ok.made) (ap ids_of (sym c.as_slice-4.ensures)) gt c.in_ok-latches.ensures.store held_is cuts_are c.in-Ok.ensures.built c.requires.source.long gu (g.met.N.Nodes.made_held c.advance.new.nodes)

pub returns-in-Err-OutOfMemory-clause-same : goal.returns-in-Err-OutOfMemory-clause-same
returns-in-Err-OutOfMemory-clause-same g c =
    let s : Store = g.N.Nodes.store c.args.nodes.now in
    let t : Store = g.N.Nodes.store c.fixed_sets.new.nodes in
    let u : Store = g.N.Nodes.store c.advance.new.nodes in
    let gu = g.met.N.Nodes.diagram c.advance.new.nodes in
    let gt = g.met.N.Nodes.diagram c.fixed_sets.new.nodes in
    let net : RawNet = c.args.net.now.raw in
    let settled : IsSettled net = settled_by_order net c.args.net.now.settled c.args.net.now.in_order in
    let held_is : c.as_slice-3.result.now ≡ map (fixed_rails s c.args.bits.now) c.args.source.now.latches = held_as s c.args.bits.now c.as_slice-3.result.now c.in_ok-latches.latches.items c.as_slice.result.now c.args.source.now.latches c.as_slice-3.ensures.value c.in_ok-latches.ensures.fixed c.as_slice.ensures in
    let cuts_are : c.as_slice-5.result.now ≡ map (fixed_bind c.args.bits.now) c.args.edge.now.ant = cuts_as c.args.bits.now c.as_slice-5.result.now c.in_ok-cuts.cuts.items c.as_slice-2.result.now c.args.edge.now.ant c.as_slice-5.ensures.value c.in_ok-cuts.ensures c.as_slice-2.ensures in
    all_makes net settled c.args.bits.now c.args.edge.now s t u c.args.source.now.latches c.as_slice-3.result.now c.as_slice-4.result.now c.as_slice-5.result.now (Err c.in-Err-OutOfMemory.field-0) (ap ids_of (sym c.as_slice-4.ensures)) gt c.in_ok-latches.ensures.store held_is cuts_are c.in-Err-OutOfMemory.ensures.built c.requires.source.long gu (g.met.N.Nodes.made_held c.advance.new.nodes)

pub unreachable-requires : goal.unreachable-requires
unreachable-requires g c =
    let s : Store = g.N.Nodes.store c.args.nodes.now in
    let t : Store = g.N.Nodes.store c.fixed_sets.new.nodes in
    let u : Store = g.N.Nodes.store c.advance.new.nodes in
    let gu = g.met.N.Nodes.diagram c.advance.new.nodes in
    let gt = g.met.N.Nodes.diagram c.fixed_sets.new.nodes in
    let net : RawNet = c.args.net.now.raw in
    let settled : IsSettled net = settled_by_order net c.args.net.now.settled c.args.net.now.in_order in
    let held_is : c.as_slice-3.result.now ≡ map (fixed_rails s c.args.bits.now) c.args.source.now.latches = held_as s c.args.bits.now c.as_slice-3.result.now c.in_ok-latches.latches.items c.as_slice.result.now c.args.source.now.latches c.as_slice-3.ensures.value c.in_ok-latches.ensures.fixed c.as_slice.ensures in
    let cuts_are : c.as_slice-5.result.now ≡ map (fixed_bind c.args.bits.now) c.args.edge.now.ant = cuts_as c.args.bits.now c.as_slice-5.result.now c.in_ok-cuts.cuts.items c.as_slice-2.result.now c.args.edge.now.ant c.as_slice-5.ensures.value c.in_ok-cuts.ensures c.as_slice-2.ensures in
    all_goes net settled c.args.bits.now c.args.edge.now s t u c.args.source.now.latches c.as_slice-3.result.now c.as_slice-4.result.now c.as_slice-5.result.now (Err c.in-Err-StepsOut.field-0) (ap ids_of (sym c.as_slice-4.ensures)) gt c.in_ok-latches.ensures.store held_is cuts_are c.in-Err-StepsOut.ensures.built c.requires.source.long gu (g.met.N.Nodes.made_held c.advance.new.nodes) (ap Err c.in-Err-StepsOut.field-0-is)
