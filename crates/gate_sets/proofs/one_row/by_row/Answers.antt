use Rattle.std.proofs.Common.{List, ◌++◌, Ok, Err}
use Rattle.std.proofs.lemmas.List.Elements.{Contains-append_left, Contains-append_right}
use Rattle.ste_base.specs.Functions.{Function}
use Rattle.dd_nodes.specs.Stores.{Store}
use Rattle.dd_nodes.proofs.Stores.{Means-keeps}
use Rattle.net_core.specs.Work.{SymbolicSet, never, row_products, rows_work, sum}
use Rattle.dual_rail.specs.declared.rails.Rails.{Rails}
use Rattle.dual_rail.specs.Rail.{Built, HasFunction, HasSet}
use Rattle.dual_rail.proofs.Works.{So-start, Built-made, Built-wider, first, more, pass}
use Rattle.gate_sets.specs.NetSets.{net_at, own_where, sets_at}
use Rattle.gate_sets.specs.private.Refused.{refused_sums, refused_total}
use Rattle.gate_sets.proofs.NetRefs.{own_inputs, Inputs-keep, All-net-refs-keep}
use Rattle.gate_sets.proofs.one_row.by_row.Goals as goal

pub refused_sum-requires-clause-refs : goal.refused_sum-requires-clause-refs
refused_sum-requires-clause-refs g c =
    let s : Store = g.N.Nodes.store c.args.nodes.now in
    let t : Store = g.N.Nodes.store c.rows_sum.new.nodes in
    All-net-refs-keep s t c.args.nets.now (g.met.N.Nodes.diagram c.args.nodes.now) (g.met.N.Nodes.diagram c.rows_sum.new.nodes)
    (c.in_ok-can1.ensures.built (λ id. own_where s (net_at c.args.nets.now id)) (own_inputs s c.args.nets.now c.args.inputs.now c.requires.inside c.requires.refs)).spends.keeps c.requires.refs

pub returns-in_err-can1-clause-built : goal.returns-in_err-can1-clause-built
returns-in_err-can1-clause-built g c = λ sets have.
    let s : Store = g.N.Nodes.store c.args.nodes.now in
    let t : Store = g.N.Nodes.store c.rows_sum.new.nodes in
    let ws : List SymbolicSet = sets_at sets c.args.inputs.now in
    let one : Function = sum (row_products c.args.rows.now.list ws) in
    let zero : Function = refused_total never c.args.row.now ws in
    let admits : List Function = rows_work c.args.rows.now.list ws in
    let refuses : List Function = refused_sums never c.args.row.now ws in
    let fault = c.in_err-can1.field-0.0 in
    pass (admits ++ refuses) (HasFunction one) (HasSet (record { zero = zero; one = one })) s s t fault c.from_residual.result (g.met.N.Nodes.diagram c.args.nodes.now) (g.met.N.Nodes.diagram c.rows_sum.new.nodes) (So-start (admits ++ refuses) s)
    (Built-wider (admits ++ refuses) admits (HasFunction one) s t (Err fault) (Contains-append_left admits refuses) (c.in_err-can1.ensures.built sets have)) c.from_residual.ensures.1

pub returns-in_err-can0-clause-built : goal.returns-in_err-can0-clause-built
returns-in_err-can0-clause-built g c = λ sets have.
    let s : Store = g.N.Nodes.store c.args.nodes.now in
    let t : Store = g.N.Nodes.store c.rows_sum.new.nodes in
    let u : Store = g.N.Nodes.store c.refused_sum.new.nodes in
    let ds = g.met.N.Nodes.diagram c.args.nodes.now in
    let dt = g.met.N.Nodes.diagram c.rows_sum.new.nodes in
    let ws : List SymbolicSet = sets_at sets c.args.inputs.now in
    let one : Function = sum (row_products c.args.rows.now.list ws) in
    let zero : Function = refused_total never c.args.row.now ws in
    let admits : List Function = rows_work c.args.rows.now.list ws in
    let refuses : List Function = refused_sums never c.args.row.now ws in
    let can1 = c.in_ok-can1.can1 in
    let fault = c.in_err-can0.field-0.0 in
    let a : Built (admits ++ refuses) (HasFunction one) s t (Ok can1) = Built-wider (admits ++ refuses) admits (HasFunction one) s t (Ok can1) (Contains-append_left admits refuses) (c.in_ok-can1.ensures.built sets have) in
    pass (admits ++ refuses) (HasFunction zero) (HasSet (record { zero = zero; one = one })) s t u fault c.from_residual-in_err-can0.result dt (g.met.N.Nodes.diagram c.refused_sum.new.nodes) (first (admits ++ refuses) (HasFunction one) s t (Ok can1) a)
    (Built-wider (admits ++ refuses) refuses (HasFunction zero) t u (Err fault) (Contains-append_right admits refuses) (c.in_err-can0.ensures sets (Inputs-keep s t sets c.args.nets.now c.args.inputs.now ds dt a.spends.keeps have))) c.from_residual-in_err-can0.ensures.1

pub returns-clause-built : goal.returns-clause-built
returns-clause-built g c = λ sets have.
    let s : Store = g.N.Nodes.store c.args.nodes.now in
    let t : Store = g.N.Nodes.store c.rows_sum.new.nodes in
    let u : Store = g.N.Nodes.store c.refused_sum.new.nodes in
    let ds = g.met.N.Nodes.diagram c.args.nodes.now in
    let dt = g.met.N.Nodes.diagram c.rows_sum.new.nodes in
    let du = g.met.N.Nodes.diagram c.refused_sum.new.nodes in
    let ws : List SymbolicSet = sets_at sets c.args.inputs.now in
    let one : Function = sum (row_products c.args.rows.now.list ws) in
    let zero : Function = refused_total never c.args.row.now ws in
    let admits : List Function = rows_work c.args.rows.now.list ws in
    let refuses : List Function = refused_sums never c.args.row.now ws in
    let can1 = c.in_ok-can1.can1 in
    let can0 = c.in_ok-can0.can0 in
    let rails : Rails = record { can0 = can0; can1 = can1 } in
    let a : Built (admits ++ refuses) (HasFunction one) s t (Ok can1) = Built-wider (admits ++ refuses) admits (HasFunction one) s t (Ok can1) (Contains-append_left admits refuses) (c.in_ok-can1.ensures.built sets have) in
    let b : Built (admits ++ refuses) (HasFunction zero) t u (Ok can0) = Built-wider (admits ++ refuses) refuses (HasFunction zero) t u (Ok can0) (Contains-append_right admits refuses) (c.in_ok-can0.ensures sets (Inputs-keep s t sets c.args.nets.now c.args.inputs.now ds dt a.spends.keeps have)) in
    Built-made (admits ++ refuses) (HasSet (record { zero = zero; one = one })) s u rails (more (admits ++ refuses) (HasFunction zero) s t u (Ok can0) dt du (first (admits ++ refuses) (HasFunction one) s t (Ok can1) a) b)
    (record { zero = b.ok; one = Means-keeps t u one can1 dt du b.spends.keeps a.ok })
