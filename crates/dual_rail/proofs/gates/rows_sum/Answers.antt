use Rattle.std.proofs.Common.{◌≡◌, ◌<◌, List, length, map, ◌+◌, sym, subst, arith, take, get_or, Ok, Err}
use Rattle.ste_base.specs.Functions.{Function}
use Rattle.dd_nodes.specs.Stores.{Store, Means, function}
use Rattle.net_core.specs.Work.{disjunction, sum, row_products, rows_work}
use Rattle.dual_rail.specs.declared.rails.Rails.{Rails}
use Rattle.dual_rail.specs.Rail.{Built, HasFunction}
use Rattle.dual_rail.proofs.Works.{So-start, Built-made, first, pass}
use Rattle.dd_nodes.proofs.Spending.{own, zero_means}
use Rattle.std.proofs.lemmas.List.{take_all}
use Rattle.net_core.specs.declared.cover.Lit.{Lit}
use Rattle.net_core.specs.Work.{never, whole}
use Rattle.dd_nodes.proofs.Stores.{Keeps-refl, Keeps-trans}
use Rattle.dual_rail.proofs.Works.{set_where}
use Rattle.dual_rail.proofs.Chains.{length-row_products}
use Rattle.dual_rail.proofs.Turns.{sum_turn, own_zip, All-refs-keep}
use Rattle.dual_rail.proofs.gates.rows_sum.Goals as goal

pub loop-row-init : goal.loop-row-init
loop-row-init g c =
    let s : Store = g.N.Nodes.store c.args.nodes.now in
    let zero = zero_means s (g.met.N.Nodes.diagram c.args.nodes.now) in
    record { keeps = Keeps-refl s; ref = zero.ref; so = λ sets zip. record { so = So-start (rows_work c.args.rows.now sets) s; means = zero } }

pub loop-row-preserved : goal.loop-row-preserved
loop-row-preserved g c =
    let s : Store = g.N.Nodes.store c.args.nodes.now in
    let t : Store = g.N.Nodes.store c.loop-row.nodes in
    let u : Store = g.N.Nodes.store c.add_row.new.nodes in
    let rows : List (List Lit) = c.args.rows.now in
    let inputs : List Rails = c.args.inputs.now in
    let k = c.loop-row.row-index in
    let row : List Lit = c.as_slice.result.now in
    let lt : k < length rows = omega (arith, c.loop-row-test.true) in
    let ds = g.met.N.Nodes.diagram c.args.nodes.now in
    let dt = g.met.N.Nodes.diagram c.loop-row.nodes in
    let du = g.met.N.Nodes.diagram c.add_row.new.nodes in
    let is_row : get_or rows k row ≡ row = sym (subst (λ (x : List Lit). x ≡ get_or rows k x) (sym c.as_slice.ensures) c.row-item.is) in
    let sum = c.in_ok-sum.sum in
    let own_call = c.in_ok-sum.ensures (function t c.loop-row.sum) (map (set_where t) inputs) (own t c.loop-row.sum c.loop-row.invariant.ref) (own_zip t inputs (All-refs-keep s t inputs c.loop-row.invariant.keeps c.requires.refs)) in
    record {
      keeps = Keeps-trans s t u c.loop-row.invariant.keeps own_call.spends.keeps;
      ref = own_call.ok.ref;
      so = λ sets zip.
          let b : Built (rows_work rows sets) (HasFunction (whole disjunction never (take (k + 1) (row_products rows sets)))) s u (Ok sum) =
          sum_turn rows sets inputs s t u k row c.loop-row.sum (Ok sum) ds dt du lt is_row zip (c.loop-row.invariant.so sets zip) c.in_ok-sum.ensures in
          record { so = first _ _ s u (Ok sum) b; means = b.ok };
    }

pub returns-in_err-sum : goal.returns-in_err-sum
returns-in_err-sum g c = λ sets zip.
    let s : Store = g.N.Nodes.store c.args.nodes.now in
    let t : Store = g.N.Nodes.store c.loop-row.nodes in
    let u : Store = g.N.Nodes.store c.add_row.new.nodes in
    let rows : List (List Lit) = c.args.rows.now in
    let inputs : List Rails = c.args.inputs.now in
    let k = c.loop-row.row-index in
    let row : List Lit = c.as_slice.result.now in
    let lt : k < length rows = omega (arith, c.loop-row-test.true) in
    let ds = g.met.N.Nodes.diagram c.args.nodes.now in
    let dt = g.met.N.Nodes.diagram c.loop-row.nodes in
    let du = g.met.N.Nodes.diagram c.add_row.new.nodes in
    let is_row : get_or rows k row ≡ row = sym (subst (λ (x : List Lit). x ≡ get_or rows k x) (sym c.as_slice.ensures) c.row-item.is) in
    let fault = c.in_err-sum.field-0.0 in
    pass (rows_work rows sets) (HasFunction (whole disjunction never (take (k + 1) (row_products rows sets)))) (HasFunction (sum (row_products rows sets))) s s u fault c.from_residual.result ds du (So-start (rows_work rows sets) s)
    (sum_turn rows sets inputs s t u k row c.loop-row.sum (Err fault) ds dt du lt is_row zip (c.loop-row.invariant.so sets zip) c.in_err-sum.ensures) c.from_residual.ensures.1

pub returns : goal.returns
returns g c = λ sets zip.
    let s : Store = g.N.Nodes.store c.args.nodes.now in
    let t : Store = g.N.Nodes.store c.loop-row.nodes in
    let rows : List (List Lit) = c.args.rows.now in
    let k = c.loop-row.row-index in
    let n = length-row_products rows sets in
    let p = c.loop-row.invariant.so sets zip in
    let end : take k (row_products rows sets) ≡ row_products rows sets = take_all k (row_products rows sets) (omega (arith, n, c.loop-row-test.false)) in
    Built-made (rows_work rows sets) (HasFunction (sum (row_products rows sets))) s t c.loop-row.sum p.so (subst (λ (fs : List Function). Means t (whole disjunction never fs) c.loop-row.sum) end p.means)
