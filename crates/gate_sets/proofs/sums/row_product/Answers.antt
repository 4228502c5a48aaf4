use Rattle.std.proofs.Common.{false, ◌≡◌, ◌<◌, ◌+◌, List, length, take, get_or, subst, arith, Ok, Err}
use Rattle.std.proofs.lemmas.List.{get_or_default, take_all, length-map}
use Rattle.ste_base.specs.declared.id.NodeId.{NodeId}
use Rattle.ste_base.specs.Functions.{Function}
use Rattle.dd_nodes.specs.Stores.{Store, Means, function}
use Rattle.dd_nodes.proofs.Stores.{Keeps-trans}
use Rattle.dd_nodes.proofs.Spending.{own}
use Rattle.net_core.specs.Work.{always, conjunction, factors, product, products, whole}
use Rattle.dual_rail.specs.Rail.{HasFunction}
use Rattle.dual_rail.proofs.Works.{So-start, Built-made, first, pass}
use Rattle.dual_rail.proofs.Chains.{length-factors}
use Rattle.gate_sets.specs.declared.net_rails.NetRails.{NetRails}
use Rattle.gate_sets.specs.NetSets.{AreNetRefs, sets_at, own_where}
use Rattle.gate_sets.proofs.NetRefs.{own_net, Net-refs-keep}
use Rattle.gate_sets.proofs.Summing.{begun_product, filled_turn}
use Rattle.gate_sets.proofs.sums.row_product.Goals as goal

abbrev no_net : NodeId
no_net = record { 0 = 0 }

abbrev no_rails : NetRails
no_rails = record { can0 = record { 0 = 0 }; can1 = record { 0 = 0 }; some = record { 0 = 0 }; known = false }

pub times-requires-clause-rails : goal.times-requires-clause-rails
times-requires-clause-rails g c =
    let s : Store = g.N.Nodes.store c.args.nodes.now in
    let t : Store = g.N.Nodes.store c.loop-k.nodes in
    Net-refs-keep s t _ (g.met.N.Nodes.diagram c.args.nodes.now) (g.met.N.Nodes.diagram c.loop-k.nodes) c.loop-k.invariant.keeps
    (c.requires.refs _ no_rails (c.requires.inside c.loop-k.k no_net (omega (arith, c.loop-k-test.true))))

pub loop-k-preserved : goal.loop-k-preserved
loop-k-preserved g c =
    let s : Store = g.N.Nodes.store c.args.nodes.now in
    let t : Store = g.N.Nodes.store c.loop-k.nodes in
    let u : Store = g.N.Nodes.store c.times.new.nodes in
    let ds = g.met.N.Nodes.diagram c.args.nodes.now in
    let dt = g.met.N.Nodes.diagram c.loop-k.nodes in
    let du = g.met.N.Nodes.diagram c.times.new.nodes in
    let inputs : List NodeId = c.args.inputs.now in
    let nets : List NetRails = c.args.nets.now in
    let k = c.loop-k.k in
    let lt : k < length inputs = omega (arith, c.loop-k-test.true) in
    let id : NodeId = get_or inputs k no_net in
    let r : NetRails = get_or nets id.0 no_rails in
    let within : id.0 < length nets = c.requires.inside k no_net lt in
    let refs : AreNetRefs t r = Net-refs-keep s t r ds dt c.loop-k.invariant.keeps (c.requires.refs id.0 no_rails within) in
    let mine = c.in_ok-whole.ensures.built (function t c.loop-k.whole) (own_where t r) (own t c.loop-k.whole c.loop-k.invariant.ref) (own_net t r refs) in
    record {
      keeps = Keeps-trans s t u c.loop-k.invariant.keeps mine.spends.keeps;
      ref = mine.ok.ref;
      so = λ sets row long blank have start.
          let b = filled_turn nets inputs sets row s t u c.args.from k id r c.loop-k.whole (Ok c.in_ok-whole.whole) ds dt du (omega (arith, c.loop-k.auto.k)) lt c.requires.inside
          (get_or_default inputs k id no_net lt) (get_or_default nets id.0 r no_rails within) long blank have (c.loop-k.invariant.so sets row long blank have start) c.in_ok-whole.ensures.built in
          record { so = first _ _ s u (Ok c.in_ok-whole.whole) b; means = b.ok };
    }

pub returns-in_err-whole-clause-built : goal.returns-in_err-whole-clause-built
returns-in_err-whole-clause-built g c = λ sets row long blank have start.
    let s : Store = g.N.Nodes.store c.args.nodes.now in
    let t : Store = g.N.Nodes.store c.loop-k.nodes in
    let u : Store = g.N.Nodes.store c.times.new.nodes in
    let ds = g.met.N.Nodes.diagram c.args.nodes.now in
    let dt = g.met.N.Nodes.diagram c.loop-k.nodes in
    let du = g.met.N.Nodes.diagram c.times.new.nodes in
    let inputs : List NodeId = c.args.inputs.now in
    let nets : List NetRails = c.args.nets.now in
    let k = c.loop-k.k in
    let lt : k < length inputs = omega (arith, c.loop-k-test.true) in
    let id : NodeId = get_or inputs k no_net in
    let r : NetRails = get_or nets id.0 no_rails in
    let within : id.0 < length nets = c.requires.inside k no_net lt in
    let ws = sets_at sets inputs in
    let work : List Function = products (factors row ws) in
    let fault = c.in_err-whole.field-0.0 in
    pass work (HasFunction (begun_product row ws (k + 1))) (HasFunction (product (factors row ws))) s s u fault c.from_residual.result ds du (So-start work s)
    (filled_turn nets inputs sets row s t u c.args.from k id r c.loop-k.whole (Err fault) ds dt du (omega (arith, c.loop-k.auto.k)) lt c.requires.inside
    (get_or_default inputs k id no_net lt) (get_or_default nets id.0 r no_rails within) long blank have (c.loop-k.invariant.so sets row long blank have start) c.in_err-whole.ensures.built) c.from_residual.ensures.1

pub returns-clause-built : goal.returns-clause-built
returns-clause-built g c = λ sets row long blank have start.
    let s : Store = g.N.Nodes.store c.args.nodes.now in
    let t : Store = g.N.Nodes.store c.loop-k.nodes in
    let inputs : List NodeId = c.args.inputs.now in
    let k = c.loop-k.k in
    let ws = sets_at sets inputs in
    let fs : List Function = factors row ws in
    let m : length ws ≡ length inputs = length-map inputs (λ (input : NodeId). sets input.0) in
    let n : length fs ≡ length row = length-factors row ws (omega (arith, long, m)) in
    let p = c.loop-k.invariant.so sets row long blank have start in
    let end : take k fs ≡ fs = take_all k fs (omega (arith, n, long, c.loop-k-test.false)) in
    Built-made (products fs) (HasFunction (product fs)) s t c.loop-k.whole p.so (subst (λ (gs : List Function). Means t (whole conjunction always gs) c.loop-k.whole) end p.means)

pub returns-in_err-whole-clause-keeps : goal.returns-in_err-whole-clause-keeps
returns-in_err-whole-clause-keeps g c =
    Keeps-trans (g.N.Nodes.store c.args.nodes.now) (g.N.Nodes.store c.loop-k.nodes) (g.N.Nodes.store c.times.new.nodes) c.loop-k.invariant.keeps c.in_err-whole.ensures.keeps
