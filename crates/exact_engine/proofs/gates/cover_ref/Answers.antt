use Rattle.std.proofs.Common.{List, Some, Ok, Err, subst}
use Rattle.dd_nodes.specs.declared.node.Ref.{Ref}
use Rattle.net_core.specs.declared.cover.Lit.{Lit}
use Rattle.ste_base.specs.Functions.{Function}
use Rattle.dd_nodes.specs.Stores.{Store, function}
use Rattle.net_core.specs.Work.{sum}
use Rattle.dual_rail.specs.Rail.{Built, HasFunction}
use Rattle.dual_rail.proofs.Works.{So-start, Built-wider, pass}
use Rattle.exact_engine.specs.private.Bits.{cover_function, cover_work, net_ref, of_nodes, row_sums, rows_work}
use Rattle.exact_engine.proofs.Rows.{cover_off, cover_on, own_at, rows_in}
use Rattle.exact_engine.proofs.gates.cover_ref.Goals as goal

pub returns-in_err-sum : goal.returns-in_err-sum
returns-in_err-sum g c = λ bit at.
    let s : Store = g.N.Nodes.store c.args.nodes.now in
    let t : Store = g.N.Nodes.store c.rows_sum.new.nodes in
    let cover = c.args.cover.now in
    let fs : List Function = of_nodes bit c.args.inputs.now in
    let work : List Function = cover_work (Some cover) fs in
    let total : Function = sum (row_sums cover.rows fs) in
    let fault = c.in_err-sum.field-0.0 in
    pass work (HasFunction total) (HasFunction (cover_function (Some cover) fs)) s s t fault c.from_residual.result (g.met.N.Nodes.diagram c.args.nodes.now) (g.met.N.Nodes.diagram c.rows_sum.new.nodes) (So-start work s)
    (Built-wider work (rows_work cover.rows fs) (HasFunction total) s t (Err fault) (rows_in cover fs) (subst (λ (rows : List (List Lit)). Built (rows_work rows fs) (HasFunction (sum (row_sums rows fs))) s t (Err fault)) c.as_slice.ensures (c.in_err-sum.ensures bit at))) c.from_residual.ensures.1

pub returns-then-cover : goal.returns-then-cover
returns-then-cover g c = λ bit at.
    let s : Store = g.N.Nodes.store c.args.nodes.now in
    let t : Store = g.N.Nodes.store c.rows_sum.new.nodes in
    let fs : List Function = of_nodes bit c.args.inputs.now in
    let r : Ref = c.in_ok-sum.sum in
    cover_on c.args.cover.now fs s t r c.if-cover.true (subst (λ (rows : List (List Lit)). Built (rows_work rows fs) (HasFunction (sum (row_sums rows fs))) s t (Ok r)) c.as_slice.ensures (c.in_ok-sum.ensures bit at))

pub opposite-requires : goal.opposite-requires
opposite-requires g c =
    let s : Store = g.N.Nodes.store c.args.nodes.now in
    (c.in_ok-sum.ensures (λ id. function s (net_ref c.args.bits.now id)) (own_at s c.args.bits.now c.args.inputs.now c.requires.refs c.requires.within)).ok.ref

pub returns : goal.returns
returns g c = λ bit at.
    let s : Store = g.N.Nodes.store c.args.nodes.now in
    let t : Store = g.N.Nodes.store c.rows_sum.new.nodes in
    let fs : List Function = of_nodes bit c.args.inputs.now in
    let r : Ref = c.in_ok-sum.sum in
    cover_off c.args.cover.now fs s t (g.N.Nodes.store c.opposite.new.nodes) r c.opposite.result
    (g.met.N.Nodes.diagram c.args.nodes.now) (g.met.N.Nodes.diagram c.rows_sum.new.nodes) (g.met.N.Nodes.diagram c.opposite.new.nodes) c.if-cover.false
    (subst (λ (rows : List (List Lit)). Built (rows_work rows fs) (HasFunction (sum (row_sums rows fs))) s t (Ok r)) c.as_slice.ensures (c.in_ok-sum.ensures bit at)) c.opposite.ensures
