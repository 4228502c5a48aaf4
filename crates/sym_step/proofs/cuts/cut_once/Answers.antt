use Rattle.std.proofs.Common.{◌≡◌, sym, ◌∙◌, ap, eqb-true, Ok}
use Rattle.dd_nodes.specs.Stores.{Store}
use Rattle.dual_rail.specs.declared.rails.Rails.{Rails}
use Rattle.gate_sets.proofs.NetRefs.{one_at}
use Rattle.sym_step.proofs.Cutting.{bound_here, cut_here, cut_elsewhere}
use Rattle.sym_step.proofs.cuts.cut_once.Goals as goal

pub returns-then-c-id : goal.returns-then-c-id
returns-then-c-id g c = λ d sets m h.
    cut_elsewhere d sets c.args.id (g.N.Nodes.store c.args.nodes.now) c.args.r (Ok c.args.r) (λ e. c.if-c-id.true (sym m.node ∙ e)) h

pub returns-then-is_free : goal.returns-then-is_free
returns-then-is_free g c = λ d sets m h.
    let s : Store = g.N.Nodes.store c.args.nodes.now in
    let t : Store = g.N.Nodes.store c.value_set.new.nodes in
    let gs = g.met.N.Nodes.diagram c.args.nodes.now in
    let id = c.args.id in
    let r = c.args.r.rails in
    let free : r ≡ record { can0 = record { 0 = 1 }; can1 = record { 0 = 1 } } = c.is_free.ensures.0 c.if-is_free.true in
    cut_here d sets id s t c.value_set.result (m.node ∙ c.if-c-id.false)
    (bound_here (sets id) d.guard d.value s t c.value_set.result
    (one_at s (sets id).zero r.can0 gs (ap (λ (x : Rails). x.can0.0) free) h.rails.zero)
    (one_at s (sets id).one r.can1 gs (ap (λ (x : Rails). x.can1.0) free) h.rails.one)
    (one_at s d.guard c.args.c.guard gs (eqb-true _ _ (sym c.eq.ensures ∙ c.if-eq.true)) m.guard)
    (c.value_set.ensures d.value m.value))

pub returns : goal.returns
returns g c = λ d sets m h.
    cut_here d sets c.args.id (g.N.Nodes.store c.args.nodes.now) (g.N.Nodes.store c.set_behind_cut.new.nodes) c.set_behind_cut.result (m.node ∙ c.if-c-id.false)
    (c.set_behind_cut.ensures (sets c.args.id) d.guard d.value h.rails m.guard m.value)
