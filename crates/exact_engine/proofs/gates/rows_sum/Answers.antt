use Rattle.std.proofs.Common.{◌≡◌, ◌<◌, ℕ, List, length, ◌+◌, sym, subst, arith, drop, get_or, Ok, Err}
use Rattle.std.proofs.lemmas.List.Elements.{Contains-append_right}
use Rattle.dd_nodes.specs.declared.node.Ref.{Ref}
use Rattle.ste_base.specs.Functions.{Function}
use Rattle.dd_nodes.specs.Stores.{Store, function}
use Rattle.dd_nodes.proofs.Spending.{own, zero_means}
use Rattle.ste_base.specs.declared.id.NodeId.{NodeId}
use Rattle.net_core.specs.declared.cover.Lit.{Lit}
use Rattle.net_core.specs.Work.{disjunction, never, sum, sums}
use Rattle.dual_rail.specs.Rail.{HasFunction}
use Rattle.dual_rail.proofs.Works.{So-start, Built-made, first, pass}
use Rattle.exact_model.specs.ExactWork.{rows_functions}
use Rattle.exact_engine.specs.private.Bits.{AreAt, net_ref, of_nodes, row_sums, rows_work}
use Rattle.exact_engine.specs.private.Joined.{Leads}
use Rattle.exact_engine.proofs.Leading.{leads_first, leads_last}
use Rattle.exact_engine.proofs.Rows.{own_at, refs_keep, rows_turn, sums_behind}
use Rattle.exact_engine.proofs.gates.rows_sum.Goals as goal

pub loop-row-init : goal.loop-row-init
loop-row-init g c =
    let s : Store = g.N.Nodes.store c.args.nodes.now in
    let zero = zero_means s (g.met.N.Nodes.diagram c.args.nodes.now) in
    let rows : List (List Lit) = c.args.rows.now in
    let inputs : List NodeId = c.args.inputs.now in
    record {
      refs = c.requires.refs;
      held = zero.ref;
      so = λ bit at. So-start (rows_work rows (of_nodes bit inputs)) s;
      leads = λ bit at.
          let fs = of_nodes bit inputs in
          leads_first disjunction never (row_sums rows fs) (rows_work rows fs) s (record { 0 = 0 }) zero (λ g h. Contains-append_right (rows_functions rows fs) (sums (row_sums rows fs)) g h);
    }

pub loop-row-preserved : goal.loop-row-preserved
loop-row-preserved g c =
    let s : Store = g.N.Nodes.store c.args.nodes.now in
    let t : Store = g.N.Nodes.store c.loop-row.nodes in
    let u : Store = g.N.Nodes.store c.add_row.new.nodes in
    let rows : List (List Lit) = c.args.rows.now in
    let inputs : List NodeId = c.args.inputs.now in
    let refs : List Ref = c.args.bits.now in
    let k = c.loop-row.row-index in
    let row : List Lit = c.as_slice.result.now in
    let lt : k < length rows = omega (arith, c.loop-row-test.true) in
    let is : row ≡ get_or rows k row = subst (λ (x : List Lit). x ≡ get_or rows k x) (sym c.as_slice.ensures) c.row-item.is in
    let so_far = c.in_ok-sum.sum in
    let p = c.loop-row.invariant in
    let own_call = c.in_ok-sum.ensures (function t c.loop-row.sum) (λ id. function t (net_ref refs id)) (own t c.loop-row.sum p.held) (own_at t refs inputs p.refs c.requires.within) in
    let turn = λ (bit : ℕ → Function) (at : AreAt s bit refs inputs).
    rows_turn rows inputs refs bit s t u k row c.loop-row.sum (Ok so_far) (g.met.N.Nodes.diagram c.args.nodes.now) (g.met.N.Nodes.diagram c.loop-row.nodes) (g.met.N.Nodes.diagram c.add_row.new.nodes) lt is at (p.so bit at) (p.leads bit at) c.in_ok-sum.ensures in
    record {
      refs = refs_keep t u refs own_call.spends.keeps p.refs;
      held = own_call.ok.ref;
      so = λ bit at. first _ _ s u (Ok so_far) (turn bit at);
      leads = λ bit at. (turn bit at).ok;
    }

pub returns-in_err-sum : goal.returns-in_err-sum
returns-in_err-sum g c = λ bit at.
    let s : Store = g.N.Nodes.store c.args.nodes.now in
    let t : Store = g.N.Nodes.store c.loop-row.nodes in
    let u : Store = g.N.Nodes.store c.add_row.new.nodes in
    let rows : List (List Lit) = c.args.rows.now in
    let inputs : List NodeId = c.args.inputs.now in
    let refs : List Ref = c.args.bits.now in
    let k = c.loop-row.row-index in
    let row : List Lit = c.as_slice.result.now in
    let lt : k < length rows = omega (arith, c.loop-row-test.true) in
    let is : row ≡ get_or rows k row = subst (λ (x : List Lit). x ≡ get_or rows k x) (sym c.as_slice.ensures) c.row-item.is in
    let p = c.loop-row.invariant in
    let ds = g.met.N.Nodes.diagram c.args.nodes.now in
    let du = g.met.N.Nodes.diagram c.add_row.new.nodes in
    let fs : List Function = of_nodes bit inputs in
    let work : List Function = rows_work rows fs in
    let target : Function = sum (row_sums rows fs) in
    let fault = c.in_err-sum.field-0.0 in
    pass work (Leads disjunction target work (row_sums (drop (k + 1) rows) fs)) (HasFunction target) s s u fault c.from_residual.result ds du (So-start work s)
    (rows_turn rows inputs refs bit s t u k row c.loop-row.sum (Err fault) ds (g.met.N.Nodes.diagram c.loop-row.nodes) du lt is at (p.so bit at) (p.leads bit at) c.in_err-sum.ensures)
    c.from_residual.ensures.1

pub returns : goal.returns
returns g c = λ bit at.
    let s : Store = g.N.Nodes.store c.args.nodes.now in
    let t : Store = g.N.Nodes.store c.loop-row.nodes in
    let rows : List (List Lit) = c.args.rows.now in
    let fs : List Function = of_nodes bit c.args.inputs.now in
    let work : List Function = rows_work rows fs in
    let target : Function = sum (row_sums rows fs) in
    let p = c.loop-row.invariant in
    Built-made work (HasFunction target) s t c.loop-row.sum (p.so bit at)
    (leads_last disjunction target work t c.loop-row.sum
    (subst (λ (xs : List Function). Leads disjunction target work xs t c.loop-row.sum) (sums_behind rows fs c.loop-row.row-index (omega (arith, c.loop-row-test.false))) (p.leads bit at)))
