use Rattle.dd_nodes.specs.Stores.{Store}
use Rattle.dd_nodes.proofs.Walks.{IsFrom-grows}
use Rattle.step_bench.proofs.kept_steps.Goals as goal

pub loop-init : goal.loop-init
loop-init g c = record { cuts = c.requires.cuts; frame = c.in_ok-frame.ensures (g.N.Nodes.store c.args.nodes.now) (g.met.N.Nodes.diagram c.args.nodes.now) }

pub loop-preserved : goal.loop-preserved
loop-preserved g c =
    let s : Store = g.N.Nodes.store c.loop.nodes in
    let t : Store = g.N.Nodes.store c.renew.new.nodes in
    let k = c.in_ok-renew.ensures.keeps in
    record {
      cuts = λ i d l. let h = c.loop.invariant.cuts i d l in record { node = h.node; guard = IsFrom-grows s.held t.held 0 _ k.grows h.guard; value = IsFrom-grows s.held t.held 0 _ k.grows h.value };
      frame = c.in_ok-renew.ensures.frame;
    }

pub returns-in_err-renew : goal.returns-in_err-renew
returns-in_err-renew g c = λ i d l.
    let s : Store = g.N.Nodes.store c.loop.nodes in
    let t : Store = g.N.Nodes.store c.renew.new.nodes in
    let k = c.in_err-renew.ensures.keeps in
    let h = c.loop.invariant.cuts i d l in
    record { node = h.node; guard = IsFrom-grows s.held t.held 0 _ k.grows h.guard; value = IsFrom-grows s.held t.held 0 _ k.grows h.value }
