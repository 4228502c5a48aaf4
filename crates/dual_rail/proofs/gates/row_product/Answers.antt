use Rattle.std.proofs.Common.{◌≡◌, ◌<◌, List, length, ◌+◌, subst, arith, take, get_or, Ok, Err}
use Rattle.dd_nodes.specs.declared.node.Ref.{Ref}
use Rattle.ste_base.specs.Functions.{Function}
use Rattle.dd_nodes.specs.Stores.{Store, Means, function}
use Rattle.net_core.specs.Work.{conjunction, factors, product}
use Rattle.dual_rail.specs.declared.rails.Rails.{Rails}
use Rattle.dual_rail.specs.Rail.{AreRails, AreRefs, Built, HasFunction}
use Rattle.dual_rail.specs.private.Parts.{row_work}
use Rattle.dual_rail.proofs.Works.{So-start, Built-made, own_set, first, pass}
use Rattle.dd_nodes.proofs.Spending.{own, one_means}
use Rattle.std.proofs.lemmas.List.{get_or_default, take_all}
use Rattle.net_core.specs.declared.cover.Lit.{Lit}
use Rattle.net_core.specs.declared.cover.Lit.TheVariants.{Zero}
use Rattle.net_core.specs.Work.{always, whole}
use Rattle.dd_nodes.proofs.Stores.{Keeps-refl, Keeps-trans}
use Rattle.dual_rail.proofs.Works.{set_where}
use Rattle.dual_rail.proofs.Chains.{length-factors}
use Rattle.dual_rail.proofs.Turns.{product_turn, zip_long, Refs-keep}
use Rattle.dual_rail.proofs.gates.row_product.Goals as goal

pub loop-k-init : goal.loop-k-init
loop-k-init g c =
    let s : Store = g.N.Nodes.store c.args.nodes.now in
    let d = g.met.N.Nodes.diagram c.args.nodes.now in
    let one = one_means s d in
    record { keeps = Keeps-refl s; ref = one.ref; so = λ sets zip. record { so = So-start (row_work c.args.row.now sets) s; means = one } }

pub loop-k-preserved : goal.loop-k-preserved
loop-k-preserved g c =
    let s : Store = g.N.Nodes.store c.args.nodes.now in
    let t : Store = g.N.Nodes.store c.loop-k.nodes in
    let u : Store = g.N.Nodes.store c.times.new.nodes in
    let row : List Lit = c.args.row.now in
    let inputs : List Rails = c.args.inputs.now in
    let k = c.loop-k.k in
    let lit : Lit = get_or row k Zero in
    let nothing : Ref = record { 0 = 0 } in
    let r : Rails = get_or inputs k (record { can0 = nothing; can1 = nothing }) in
    let all = c.in_ok-all.all in
    let lt : k < length row = omega (arith, c.loop-k-test.true) in
    let wide : length row ≡ length inputs = c.requires.wide in
    let here_refs : AreRefs t r = Refs-keep s t r c.loop-k.invariant.keeps (c.requires.refs k _ (omega (arith, wide))) in
    let own_call = c.in_ok-all.ensures (function t c.loop-k.all) (set_where t r) (own t c.loop-k.all c.loop-k.invariant.ref) (own_set t r here_refs) in
    record {
      keeps = Keeps-trans s t u c.loop-k.invariant.keeps own_call.spends.keeps;
      ref = own_call.ok.ref;
      so = λ sets zip.
          let b : Built (row_work row sets) (HasFunction (whole conjunction always (take (k + 1) (factors row sets)))) s u (Ok all) =
          product_turn row sets inputs s t u k lit r c.loop-k.all (Ok all) (g.met.N.Nodes.diagram c.args.nodes.now) (g.met.N.Nodes.diagram c.loop-k.nodes) (g.met.N.Nodes.diagram c.times.new.nodes) wide lt
          (get_or_default row k lit Zero lt) (get_or_default inputs k r (record { can0 = nothing; can1 = nothing }) (omega (arith, wide))) zip (c.loop-k.invariant.so sets zip) c.in_ok-all.ensures in
          record { so = first _ _ s u (Ok all) b; means = b.ok };
    }

pub returns-in_err-all : goal.returns-in_err-all
returns-in_err-all g c = λ sets zip.
    let s : Store = g.N.Nodes.store c.args.nodes.now in
    let t : Store = g.N.Nodes.store c.loop-k.nodes in
    let u : Store = g.N.Nodes.store c.times.new.nodes in
    let row : List Lit = c.args.row.now in
    let inputs : List Rails = c.args.inputs.now in
    let k = c.loop-k.k in
    let lit : Lit = get_or row k Zero in
    let nothing : Ref = record { 0 = 0 } in
    let r : Rails = get_or inputs k (record { can0 = nothing; can1 = nothing }) in
    let lt : k < length row = omega (arith, c.loop-k-test.true) in
    let wide : length row ≡ length inputs = c.requires.wide in
    let ds = g.met.N.Nodes.diagram c.args.nodes.now in
    let du = g.met.N.Nodes.diagram c.times.new.nodes in
    let work : List Function = row_work row sets in
    let fault = c.in_err-all.field-0.0 in
    pass work (HasFunction (whole conjunction always (take (k + 1) (factors row sets)))) (HasFunction (product (factors row sets))) s s u fault c.from_residual.result ds du (So-start work s)
    (product_turn row sets inputs s t u k lit r c.loop-k.all (Err fault) ds (g.met.N.Nodes.diagram c.loop-k.nodes) du wide lt
    (get_or_default row k lit Zero lt) (get_or_default inputs k r (record { can0 = nothing; can1 = nothing }) (omega (arith, wide))) zip (c.loop-k.invariant.so sets zip) c.in_err-all.ensures)
    c.from_residual.ensures.1

pub returns : goal.returns
returns g c = λ sets zip.
    let s : Store = g.N.Nodes.store c.args.nodes.now in
    let t : Store = g.N.Nodes.store c.loop-k.nodes in
    let row : List Lit = c.args.row.now in
    let k = c.loop-k.k in
    let wide : length row ≡ length c.args.inputs.now = c.requires.wide in
    let long = zip_long (AreRails s) sets c.args.inputs.now zip in
    let n = length-factors row sets (omega (arith, wide, long)) in
    let p = c.loop-k.invariant.so sets zip in
    let end : take k (factors row sets) ≡ factors row sets = take_all k (factors row sets) (omega (arith, n, c.loop-k-test.false)) in
    Built-made (row_work row sets) (HasFunction (product (factors row sets))) s t c.loop-k.all p.so (subst (λ (fs : List Function). Means t (whole conjunction always fs) c.loop-k.all) end p.means)
