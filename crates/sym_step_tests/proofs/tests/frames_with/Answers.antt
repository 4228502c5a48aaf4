use Rattle.std.proofs.Common.{List, All, ap, length, sym, subst, ◌∙◌}
use Rattle.dd_nodes.specs.Stores.{Store}
use Rattle.net_core.specs.declared.raw.RawNet.{RawNet}
use Rattle.dual_rail.specs.declared.rails.Rails.{Rails}
use Rattle.dual_rail.specs.Rail.{AreRefs}
use Rattle.dual_rail.proofs.Turns.{All-refs-keep}
use Rattle.sym_step.proofs.Framing.{frame_keeps}
use Rattle.sym_step_tests.proofs.Kept.{cuts_keep}
use Rattle.sym_step_tests.proofs.tests.frames_with.Goals as goal

pub step_of-requires-clause-latches : goal.step_of-requires-clause-latches
step_of-requires-clause-latches g c =
    let s : Store = g.N.Nodes.store c.loop-time.nodes in
    let t : Store = g.N.Nodes.store c.advance_of.new.nodes in
    subst (λ (xs : List Rails). All (AreRefs t) xs) (sym c.as_slice-held.ensures) (All-refs-keep s t c.loop-time.latches c.in_ok-kept.ensures.keeps c.loop-time.invariant.latches)

pub step_of-requires-clause-cuts : goal.step_of-requires-clause-cuts
step_of-requires-clause-cuts g c =
    let s : Store = g.N.Nodes.store c.loop-time.nodes in
    let t : Store = g.N.Nodes.store c.advance_of.new.nodes in
    let net : RawNet = c.args.net.now.raw in
    c.cuts_at-now.ensures t net (cuts_keep s t net c.args.cuts.now c.in_ok-kept.ensures.keeps c.loop-time.invariant.cuts)

pub loop-time-preserved : goal.loop-time-preserved
loop-time-preserved g c =
    let s : Store = g.N.Nodes.store c.loop-time.nodes in
    let t : Store = g.N.Nodes.store c.advance_of.new.nodes in
    let u : Store = g.N.Nodes.store c.step_of.new.nodes in
    let net = c.args.net.now in
    let p = c.in_ok-kept.ensures in
    let q = c.in_ok-anew.ensures in
    record {
      long = p.long;
      latches = All-refs-keep t u c.in_ok-kept.kept.next q.keeps p.next;
      cuts = cuts_keep t u net.raw c.args.cuts.now q.keeps (cuts_keep s t net.raw c.args.cuts.now p.keeps c.loop-time.invariant.cuts);
      frame = frame_keeps t u net.raw c.advance_of.new.frame net.in_range (g.met.N.Nodes.diagram c.advance_of.new.nodes) (g.met.N.Nodes.diagram c.step_of.new.nodes) q.keeps p.frame;
    }

pub advance_of-requires-clause-cuts : goal.advance_of-requires-clause-cuts
advance_of-requires-clause-cuts g c =
    let s : Store = g.N.Nodes.store c.loop-time.nodes in
    let net : RawNet = c.args.net.now.raw in
    c.cuts_at-now.ensures s net c.loop-time.invariant.cuts

pub loop-time-init : goal.loop-time-init
loop-time-init g c =
    let s : Store = g.N.Nodes.store c.args.nodes.now in
    record {
      long = ap length c.from-latches.ensures ∙ c.in_ok-unknowns.ensures.long ∙ ap length c.latches.ensures;
      latches = subst (λ (xs : List Rails). All (AreRefs s) xs) (sym c.from-latches.ensures) (c.in_ok-unknowns.ensures.refs s);
      cuts = c.requires.cuts;
      frame = c.in_ok-frame.ensures s (g.met.N.Nodes.diagram c.args.nodes.now);
    }

pub advance_of-requires-clause-weak : goal.advance_of-requires-clause-weak
advance_of-requires-clause-weak g c = c.weak_at-free.ensures c.args.net.now.raw.nets c.requires.weak

pub step_of-requires-clause-weak : goal.step_of-requires-clause-weak
step_of-requires-clause-weak g c = c.weak_at-free.ensures c.args.net.now.raw.nets c.requires.weak
