use Rattle.std.proofs.Common.{List, Ok, Err}
use Rattle.ste_base.specs.Functions.{Function}
use Rattle.dd_nodes.specs.Stores.{Store}
use Rattle.dd_nodes.proofs.Stores.{Means-keeps}
use Rattle.net_core.specs.Work.{SymbolicSet, negation, row_products, rows_work, sum}
use Rattle.dual_rail.specs.declared.rails.Rails.{Rails}
use Rattle.dual_rail.specs.Rail.{Built, HasFunction, HasSet}
use Rattle.dual_rail.proofs.Works.{here, behind, not_built, So-start, Built-made, Built-wider, first, more, pass}
use Rattle.gate_sets.specs.NetSets.{net_at, own_where, sets_at}
use Rattle.gate_sets.specs.private.Refused.{list_set, list_work}
use Rattle.gate_sets.proofs.NetRefs.{own_inputs}
use Rattle.gate_sets.proofs.gates.by_list.Goals as goal

pub opposite-requires : goal.opposite-requires
opposite-requires g c =
    let s : Store = g.N.Nodes.store c.args.nodes.now in
    (c.in_ok-can1.ensures.built (λ id. own_where s (net_at c.args.nets.now id)) (own_inputs s c.args.nets.now c.args.inputs.now c.requires.inside c.requires.refs)).ok.ref

pub returns-in_err-can1-clause-built : goal.returns-in_err-can1-clause-built
returns-in_err-can1-clause-built g c = λ sets have.
    let s : Store = g.N.Nodes.store c.args.nodes.now in
    let t : Store = g.N.Nodes.store c.rows_sum.new.nodes in
    let rows = c.args.rows.now.list in
    let ws : List SymbolicSet = sets_at sets c.args.inputs.now in
    let one : Function = sum (row_products rows ws) in
    let work : List Function = list_work rows ws in
    let fault = c.in_err-can1.field-0.0 in
    pass work (HasFunction one) (HasSet (list_set rows ws)) s s t fault c.from_residual.result (g.met.N.Nodes.diagram c.args.nodes.now) (g.met.N.Nodes.diagram c.rows_sum.new.nodes) (So-start work s)
    (Built-wider work (rows_work rows ws) (HasFunction one) s t (Err fault) (behind (negation one) (rows_work rows ws)) (c.in_err-can1.ensures.built sets have)) c.from_residual.ensures.1

pub returns-in_err-can0-clause-built : goal.returns-in_err-can0-clause-built
returns-in_err-can0-clause-built g c = λ sets have.
    let s : Store = g.N.Nodes.store c.args.nodes.now in
    let t : Store = g.N.Nodes.store c.rows_sum.new.nodes in
    let u : Store = g.N.Nodes.store c.opposite.new.nodes in
    let rows = c.args.rows.now.list in
    let ws : List SymbolicSet = sets_at sets c.args.inputs.now in
    let one : Function = sum (row_products rows ws) in
    let work : List Function = list_work rows ws in
    let can1 = c.in_ok-can1.can1 in
    let fault = c.in_err-can0.field-0.0 in
    let a : Built work (HasFunction one) s t (Ok can1) = Built-wider work (rows_work rows ws) (HasFunction one) s t (Ok can1) (behind (negation one) (rows_work rows ws)) (c.in_ok-can1.ensures.built sets have) in
    pass work (HasFunction (negation one)) (HasSet (list_set rows ws)) s t u fault c.from_residual-in_err-can0.result (g.met.N.Nodes.diagram c.rows_sum.new.nodes) (g.met.N.Nodes.diagram c.opposite.new.nodes) (first work (HasFunction one) s t (Ok can1) a)
    (not_built work one t u can1 (Err fault) (here (negation one) (rows_work rows ws)) a.ok c.in_err-can0.ensures) c.from_residual-in_err-can0.ensures.1

pub returns-clause-built : goal.returns-clause-built
returns-clause-built g c = λ sets have.
    let s : Store = g.N.Nodes.store c.args.nodes.now in
    let t : Store = g.N.Nodes.store c.rows_sum.new.nodes in
    let u : Store = g.N.Nodes.store c.opposite.new.nodes in
    let dt = g.met.N.Nodes.diagram c.rows_sum.new.nodes in
    let du = g.met.N.Nodes.diagram c.opposite.new.nodes in
    let rows = c.args.rows.now.list in
    let ws : List SymbolicSet = sets_at sets c.args.inputs.now in
    let one : Function = sum (row_products rows ws) in
    let work : List Function = list_work rows ws in
    let can1 = c.in_ok-can1.can1 in
    let can0 = c.in_ok-can0.can0 in
    let rails : Rails = record { can0 = can0; can1 = can1 } in
    let a : Built work (HasFunction one) s t (Ok can1) = Built-wider work (rows_work rows ws) (HasFunction one) s t (Ok can1) (behind (negation one) (rows_work rows ws)) (c.in_ok-can1.ensures.built sets have) in
    let b : Built work (HasFunction (negation one)) t u (Ok can0) = not_built work one t u can1 (Ok can0) (here (negation one) (rows_work rows ws)) a.ok c.in_ok-can0.ensures in
    Built-made work (HasSet (list_set rows ws)) s u rails (more work (HasFunction (negation one)) s t u (Ok can0) dt du (first work (HasFunction one) s t (Ok can1) a) b)
    (record { zero = b.ok; one = Means-keeps t u one can1 dt du b.spends.keeps a.ok })
