use Rattle.std.proofs.Common.{◌≡◌, ◌<◌, ℕ, List, refl, length, ◌+◌, sym, subst, arith, drop, get_or, Ok, Err}
use Rattle.std.proofs.lemmas.List.{get_or_default}
use Rattle.dd_nodes.specs.declared.node.Ref.{Ref}
use Rattle.ste_base.specs.Functions.{Function}
use Rattle.dd_nodes.specs.Stores.{Store, IsRef, function}
use Rattle.dd_nodes.proofs.Spending.{own, one_means}
use Rattle.ste_base.specs.declared.id.NodeId.{NodeId}
use Rattle.net_core.specs.declared.cover.Lit.{Lit}
use Rattle.net_core.specs.declared.cover.Lit.TheVariants.{Zero}
use Rattle.net_core.specs.Work.{always, conjunction, product, products}
use Rattle.dual_rail.specs.Rail.{HasFunction}
use Rattle.dual_rail.proofs.Works.{So-start, Built-made, first, pass}
use Rattle.exact_model.specs.ExactWork.{row_factors}
use Rattle.exact_engine.specs.private.Bits.{AreAt, net_ref, of_nodes}
use Rattle.exact_engine.specs.private.Joined.{Leads}
use Rattle.exact_engine.proofs.Leading.{leads_first, leads_last}
use Rattle.exact_engine.proofs.Rows.{ref_of, refs_keep, row_behind, row_turn}
use Rattle.exact_engine.proofs.gates.row_product.Goals as goal

pub loop-k-init : goal.loop-k-init
loop-k-init g c =
    let s : Store = g.N.Nodes.store c.args.nodes.now in
    let one = one_means s (g.met.N.Nodes.diagram c.args.nodes.now) in
    record {
      refs = c.requires.refs;
      held = one.ref;
      so = λ bit at. So-start (products (row_factors c.args.row.now (of_nodes bit c.args.inputs.now))) s;
      leads = λ bit at. let fs = row_factors c.args.row.now (of_nodes bit c.args.inputs.now) in leads_first conjunction always fs (products fs) s (record { 0 = 1 }) one (λ g h. h);
    }

pub loop-k-preserved : goal.loop-k-preserved
loop-k-preserved g c =
    let s : Store = g.N.Nodes.store c.args.nodes.now in
    let t : Store = g.N.Nodes.store c.loop-k.nodes in
    let u : Store = g.N.Nodes.store c.times.new.nodes in
    let row : List Lit = c.args.row.now in
    let inputs : List NodeId = c.args.inputs.now in
    let refs : List Ref = c.args.bits.now in
    let k = c.loop-k.k in
    let lit : Lit = get_or row k Zero in
    let none : NodeId = record { 0 = 0 } in
    let input : NodeId = get_or inputs k none in
    let r : Ref = net_ref refs input.0 in
    let all = c.in_ok-all.all in
    let lt : k < length row = omega (arith, c.loop-k-test.true) in
    let wide : length row ≡ length inputs = c.requires.wide in
    let inside : k < length inputs = omega (arith, wide, lt) in
    let p = c.loop-k.invariant in
    let here : IsRef t r = ref_of t refs input.0 (c.requires.within k none inside) p.refs in
    let own_call = c.in_ok-all.ensures (function t c.loop-k.all) (function t r) (own t c.loop-k.all p.held) (own t r here) in
    let turn = λ (bit : ℕ → Function) (at : AreAt s bit refs inputs).
    row_turn row inputs refs bit s t u k lit input r c.loop-k.all (Ok all) (g.met.N.Nodes.diagram c.args.nodes.now) (g.met.N.Nodes.diagram c.loop-k.nodes) (g.met.N.Nodes.diagram c.times.new.nodes) wide lt
    (sym (get_or_default row k lit Zero lt)) (sym (get_or_default inputs k input none inside)) refl at (p.so bit at) (p.leads bit at) c.in_ok-all.ensures in
    record {
      refs = refs_keep t u refs own_call.spends.keeps p.refs;
      held = own_call.ok.ref;
      so = λ bit at. first _ _ s u (Ok all) (turn bit at);
      leads = λ bit at. (turn bit at).ok;
    }

pub returns-in_err-all : goal.returns-in_err-all
returns-in_err-all g c = λ bit at.
    let s : Store = g.N.Nodes.store c.args.nodes.now in
    let t : Store = g.N.Nodes.store c.loop-k.nodes in
    let u : Store = g.N.Nodes.store c.times.new.nodes in
    let row : List Lit = c.args.row.now in
    let inputs : List NodeId = c.args.inputs.now in
    let refs : List Ref = c.args.bits.now in
    let k = c.loop-k.k in
    let lit : Lit = get_or row k Zero in
    let none : NodeId = record { 0 = 0 } in
    let input : NodeId = get_or inputs k none in
    let lt : k < length row = omega (arith, c.loop-k-test.true) in
    let wide : length row ≡ length inputs = c.requires.wide in
    let inside : k < length inputs = omega (arith, wide, lt) in
    let p = c.loop-k.invariant in
    let ds = g.met.N.Nodes.diagram c.args.nodes.now in
    let du = g.met.N.Nodes.diagram c.times.new.nodes in
    let fs : List Function = row_factors row (of_nodes bit inputs) in
    let fault = c.in_err-all.field-0.0 in
    pass (products fs) (Leads conjunction (product fs) (products fs) (row_factors (drop (k + 1) row) (drop (k + 1) (of_nodes bit inputs)))) (HasFunction (product fs)) s s u fault c.from_residual.result ds du (So-start (products fs) s)
    (row_turn row inputs refs bit s t u k lit input (net_ref refs input.0) c.loop-k.all (Err fault) ds (g.met.N.Nodes.diagram c.loop-k.nodes) du wide lt
    (sym (get_or_default row k lit Zero lt)) (sym (get_or_default inputs k input none inside)) refl at (p.so bit at) (p.leads bit at) c.in_err-all.ensures)
    c.from_residual.ensures.1

pub returns : goal.returns
returns g c = λ bit at.
    let s : Store = g.N.Nodes.store c.args.nodes.now in
    let t : Store = g.N.Nodes.store c.loop-k.nodes in
    let row : List Lit = c.args.row.now in
    let fs : List Function = row_factors row (of_nodes bit c.args.inputs.now) in
    let p = c.loop-k.invariant in
    Built-made (products fs) (HasFunction (product fs)) s t c.loop-k.all (p.so bit at)
    (leads_last conjunction (product fs) (products fs) t c.loop-k.all
    (subst (λ (xs : List Function). Leads conjunction (product fs) (products fs) xs t c.loop-k.all) (row_behind row (of_nodes bit c.args.inputs.now) c.loop-k.k (omega (arith, c.loop-k-test.false))) (p.leads bit at)))
