use Rattle.std.proofs.Common.{false, ◌≡◌, ◌<◌, List, length, map, ◌+◌, ◌++◌, subst, arith, take, get_or, Ok, Err}
use Rattle.ste_base.specs.Functions.{Function}
use Rattle.dd_nodes.specs.Stores.{Store, Means, function}
use Rattle.net_core.specs.Work.{SymbolicSet}
use Rattle.dual_rail.proofs.Works.{So-start, Built-made, first, pass}
use Rattle.dd_nodes.proofs.Spending.{own}
use Rattle.dd_nodes.proofs.Stores.{Keeps-refl, Keeps-trans}
use Rattle.std.proofs.lemmas.List.{get_or_default, take_all, length-map}
use Rattle.net_core.specs.Work.{never, disjunction, no_bit, some_bit, sums, sum, whole}
use Rattle.dual_rail.specs.Rail.{HasFunction}
use Rattle.dd_nodes.proofs.Spending.{zero_means}
use Rattle.dual_rail.proofs.Turns.{zip_long}
use Rattle.sym_step.proofs.Emptied.{empty_turn}
use Rattle.gate_sets.specs.declared.net_rails.NetRails.{NetRails}
use Rattle.gate_sets.specs.NetSets.{AreNetRails, own_where}
use Rattle.gate_sets.proofs.NetRefs.{Net-refs-keep}
use Rattle.sym_step.proofs.time.some_empty.Goals as goal

abbrev none : NetRails
none = record { can0 = record { 0 = 0 }; can1 = record { 0 = 0 }; some = record { 0 = 0 }; known = false }

abbrev work_of : List SymbolicSet → List Function
work_of sets = map some_bit sets ++ (map no_bit sets ++ sums (map no_bit sets))

pub loop-r-init : goal.loop-r-init
loop-r-init g c =
    let s : Store = g.N.Nodes.store c.args.nodes.now in
    let zero = zero_means s (g.met.N.Nodes.diagram c.args.nodes.now) in
    record { keeps = Keeps-refl s; ref = zero.ref; so = λ sets zip. record { so = So-start (work_of sets) s; means = zero } }

pub add_empty-requires-clause-some : goal.add_empty-requires-clause-some
add_empty-requires-clause-some g c =
    (Net-refs-keep _ _ _ (g.met.N.Nodes.diagram c.args.nodes.now) (g.met.N.Nodes.diagram c.loop-r.nodes) c.loop-r.invariant.keeps (c.requires c.loop-r.r-index none (omega (arith, c.loop-r-test.true)))).some.ref

pub loop-r-preserved : goal.loop-r-preserved
loop-r-preserved g c =
    let s : Store = g.N.Nodes.store c.args.nodes.now in
    let t : Store = g.N.Nodes.store c.loop-r.nodes in
    let u : Store = g.N.Nodes.store c.add_empty.new.nodes in
    let gs = g.met.N.Nodes.diagram c.args.nodes.now in
    let gt = g.met.N.Nodes.diagram c.loop-r.nodes in
    let gu = g.met.N.Nodes.diagram c.add_empty.new.nodes in
    let nets : List NetRails = c.args.nets.now in
    let k = c.loop-r.r-index in
    let r : NetRails = get_or nets k none in
    let lt : k < length nets = omega (arith, c.loop-r-test.true) in
    let kst = c.loop-r.invariant.keeps in
    let own_call = c.in_ok-sum.ensures (function t c.loop-r.sum) (own_where t r) (own t c.loop-r.sum c.loop-r.invariant.ref) (Net-refs-keep s t r gs gt kst (c.requires k none lt)).some in
    record {
      keeps = Keeps-trans s t u kst own_call.spends.keeps;
      ref = own_call.ok.ref;
      so = λ sets zip.
          let b = empty_turn sets nets s t u k r c.loop-r.sum (Ok c.in_ok-sum.sum) gs gt gu lt (get_or_default nets k r none lt) zip (c.loop-r.invariant.so sets zip) c.in_ok-sum.ensures in
          record { so = first _ _ s u (Ok c.in_ok-sum.sum) b; means = b.ok };
    }

pub returns-in_err-sum : goal.returns-in_err-sum
returns-in_err-sum g c = λ sets zip.
    let s : Store = g.N.Nodes.store c.args.nodes.now in
    let t : Store = g.N.Nodes.store c.loop-r.nodes in
    let u : Store = g.N.Nodes.store c.add_empty.new.nodes in
    let gs = g.met.N.Nodes.diagram c.args.nodes.now in
    let gu = g.met.N.Nodes.diagram c.add_empty.new.nodes in
    let nets : List NetRails = c.args.nets.now in
    let k = c.loop-r.r-index in
    let r : NetRails = get_or nets k none in
    let lt : k < length nets = omega (arith, c.loop-r-test.true) in
    let fault = c.in_err-sum.field-0.0 in
    pass (work_of sets) (HasFunction (whole disjunction never (take (k + 1) (map no_bit sets)))) (HasFunction (sum (map no_bit sets))) s s u fault c.from_residual.result gs gu (So-start (work_of sets) s)
    (empty_turn sets nets s t u k r c.loop-r.sum (Err fault) gs (g.met.N.Nodes.diagram c.loop-r.nodes) gu lt (get_or_default nets k r none lt) zip (c.loop-r.invariant.so sets zip) c.in_err-sum.ensures) c.from_residual.ensures.1

pub returns : goal.returns
returns g c = λ sets zip.
    let s : Store = g.N.Nodes.store c.args.nodes.now in
    let t : Store = g.N.Nodes.store c.loop-r.nodes in
    let k = c.loop-r.r-index in
    let long = zip_long (AreNetRails s) sets c.args.nets.now zip in
    let n : length (map no_bit sets) ≡ length sets = length-map sets no_bit in
    let p = c.loop-r.invariant.so sets zip in
    let end : take k (map no_bit sets) ≡ map no_bit sets = take_all k (map no_bit sets) (omega (arith, n, long, c.loop-r-test.false)) in
    Built-made (work_of sets) (HasFunction (sum (map no_bit sets))) s t c.loop-r.sum p.so (subst (λ (fs : List Function). Means t (whole disjunction never fs) c.loop-r.sum) end p.means)
