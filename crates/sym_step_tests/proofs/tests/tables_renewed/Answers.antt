use Rattle.std.proofs.Common.{◌≡◌, List, All, sym, subst}
use Rattle.dd_nodes.specs.Stores.{Store}
use Rattle.net_core.specs.declared.raw.RawNet.{RawNet}
use Rattle.sym_step.specs.declared.cut.Cut.{Cut}
use Rattle.sym_step.specs.Frame.{IsFrame}
use Rattle.sym_step.specs.Step.{IsCutOf}
use Rattle.sym_step_tests.proofs.Kept.{cuts_keep}
use Rattle.sym_step_tests.proofs.tests.tables_renewed.Goals as goal

pub loop-time-init : goal.loop-time-init
loop-time-init g c = record {
  cuts = c.requires.cuts;
  frame = c.in_ok-frame.ensures (g.N.Nodes.store c.args.nodes.now) (g.met.N.Nodes.diagram c.args.nodes.now);
}

pub renew_frame-requires-clause-cuts : goal.renew_frame-requires-clause-cuts
renew_frame-requires-clause-cuts g c = c.cuts_at.ensures (g.N.Nodes.store c.loop-time.nodes) c.args.net.now.raw c.loop-time.invariant.cuts

pub loop-time-preserved : goal.loop-time-preserved
loop-time-preserved g c =
    let s : Store = g.N.Nodes.store c.loop-time.nodes in
    let t : Store = g.N.Nodes.store c.renew_frame.new.nodes in
    let u : Store = g.N.Nodes.store c.table_in.new.nodes in
    let net : RawNet = c.args.net.now.raw in
    let cuts : List Cut = c.args.cuts.now in
    let same : t ≡ u = sym c.table_in.ensures in
    let p = c.in_ok-renew_frame.ensures in
    record {
      cuts = subst (λ (v : Store). All (IsCutOf v net) cuts) same (cuts_keep s t net cuts p.keeps c.loop-time.invariant.cuts);
      frame = subst (λ (v : Store). IsFrame v net c.renew_frame.new.frame) same p.frame;
    }

pub renew_frame-requires-clause-weak : goal.renew_frame-requires-clause-weak
renew_frame-requires-clause-weak g c = c.weak_at.ensures c.args.net.now.raw.nets c.requires.weak
