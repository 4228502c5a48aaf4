use Rattle.std.proofs.Common.{false, ◌≡◌, ◌<◌, List, [], length, drop, get_or, sym, ◌∙◌, ap, subst, arith, Ok, Err}
use Rattle.std.proofs.lemmas.List.{get_or_default, drop_all}
use Rattle.ste_base.specs.declared.id.NodeId.{NodeId}
use Rattle.ste_base.specs.Functions.{Function}
use Rattle.dd_nodes.specs.Stores.{Store, Means}
use Rattle.dd_nodes.proofs.Stores.{Keeps-refl, Keeps-trans}
use Rattle.dd_nodes.proofs.Spending.{zero_means}
use Rattle.net_core.specs.declared.cover.Lit.{Lit}
use Rattle.net_core.specs.declared.cover.Lit.TheVariants.{Zero, Any}
use Rattle.net_core.specs.Work.{SymbolicSet, never}
use Rattle.dual_rail.specs.Rail.{HasFunction}
use Rattle.dual_rail.proofs.Works.{So-start, Built-made, pass}
use Rattle.gate_sets.specs.declared.net_rails.NetRails.{NetRails}
use Rattle.gate_sets.specs.NetSets.{sets_at}
use Rattle.gate_sets.specs.private.Refused.{refused_sums, refused_total}
use Rattle.gate_sets.proofs.NetRefs.{Net-refs-keep}
use Rattle.gate_sets.proofs.OneRow.{adds_start, adds_built, adds_next, next_total}
use Rattle.gate_sets.proofs.one_row.refused_sum.Goals as goal

abbrev no_net : NodeId
no_net = record { 0 = 0 }

abbrev no_rails : NetRails
no_rails = record { can0 = record { 0 = 0 }; can1 = record { 0 = 0 }; some = record { 0 = 0 }; known = false }

pub loop-k-init : goal.loop-k-init
loop-k-init g c =
    let s : Store = g.N.Nodes.store c.args.nodes.now in
    let ds = g.met.N.Nodes.diagram c.args.nodes.now in
    record { keeps = Keeps-refl s; ref_of = (zero_means s ds).ref; so = λ sets have. adds_start c.args.row.now (sets_at sets c.args.inputs.now) s ds }

pub add_refused-requires-clause-rails : goal.add_refused-requires-clause-rails
add_refused-requires-clause-rails g c =
    let s : Store = g.N.Nodes.store c.args.nodes.now in
    let t : Store = g.N.Nodes.store c.loop-k.nodes in
    let wide = c.requires.wide in
    Net-refs-keep s t _ (g.met.N.Nodes.diagram c.args.nodes.now) (g.met.N.Nodes.diagram c.loop-k.nodes) c.loop-k.invariant.keeps
    (c.requires.refs _ no_rails (c.requires.inside c.loop-k.k no_net (omega (arith, wide, c.loop-k-test.true))))

pub loop-k-preserved : goal.loop-k-preserved
loop-k-preserved g c =
    let s : Store = g.N.Nodes.store c.args.nodes.now in
    let t : Store = g.N.Nodes.store c.loop-k.nodes in
    let u : Store = g.N.Nodes.store c.add_refused.new.nodes in
    let ds = g.met.N.Nodes.diagram c.args.nodes.now in
    let dt = g.met.N.Nodes.diagram c.loop-k.nodes in
    let du = g.met.N.Nodes.diagram c.add_refused.new.nodes in
    let row : List Lit = c.args.row.now in
    let inputs : List NodeId = c.args.inputs.now in
    let nets : List NetRails = c.args.nets.now in
    let k = c.loop-k.k in
    let wide = c.requires.wide in
    let lt : k < length row = omega (arith, c.loop-k-test.true) in
    let inner : k < length inputs = omega (arith, wide, lt) in
    let lit : Lit = get_or row k Zero in
    let id : NodeId = get_or inputs k no_net in
    let r : NetRails = get_or nets id.0 no_rails in
    let within : id.0 < length nets = c.requires.inside k no_net inner in
    let new = c.in_ok-sum.sum in
    let e = c.in_ok-sum.ensures in
    record {
      keeps = Keeps-trans s t u c.loop-k.invariant.keeps e.keeps;
      ref_of = e.ref_of;
      so = λ sets have.
          let p = c.loop-k.invariant.so sets have in
          let b = adds_built nets inputs sets row s t u k id r lit c.loop-k.sum ds dt du wide lt c.requires.inside (get_or_default row k Any Zero lt) (get_or_default inputs k id no_net inner) (get_or_default nets id.0 r no_rails within) have p (Ok new) e.built in
          adds_next nets inputs sets row s t u k id r lit c.loop-k.sum ds dt du wide lt c.requires.inside (get_or_default row k Any Zero lt) (get_or_default inputs k id no_net inner) (get_or_default nets id.0 r no_rails within) have p new b;
    }

pub returns-in_err-sum : goal.returns-in_err-sum
returns-in_err-sum g c = λ sets have.
    let s : Store = g.N.Nodes.store c.args.nodes.now in
    let t : Store = g.N.Nodes.store c.loop-k.nodes in
    let u : Store = g.N.Nodes.store c.add_refused.new.nodes in
    let ds = g.met.N.Nodes.diagram c.args.nodes.now in
    let dt = g.met.N.Nodes.diagram c.loop-k.nodes in
    let du = g.met.N.Nodes.diagram c.add_refused.new.nodes in
    let row : List Lit = c.args.row.now in
    let inputs : List NodeId = c.args.inputs.now in
    let nets : List NetRails = c.args.nets.now in
    let k = c.loop-k.k in
    let wide = c.requires.wide in
    let lt : k < length row = omega (arith, c.loop-k-test.true) in
    let inner : k < length inputs = omega (arith, wide, lt) in
    let lit : Lit = get_or row k Zero in
    let id : NodeId = get_or inputs k no_net in
    let r : NetRails = get_or nets id.0 no_rails in
    let within : id.0 < length nets = c.requires.inside k no_net inner in
    let fault = c.in_err-sum.field-0.0 in
    let ws : List SymbolicSet = sets_at sets inputs in
    let work : List Function = refused_sums never row ws in
    let p = c.loop-k.invariant.so sets have in
    pass work (HasFunction (next_total p.f lit (sets id.0))) (HasFunction (refused_total never row ws)) s s u fault c.from_residual.result ds du (So-start work s)
    (adds_built nets inputs sets row s t u k id r lit c.loop-k.sum ds dt du wide lt c.requires.inside (get_or_default row k Any Zero lt) (get_or_default inputs k id no_net inner) (get_or_default nets id.0 r no_rails within) have p (Err fault) c.in_err-sum.ensures.built)
    c.from_residual.ensures.1

pub returns : goal.returns
returns g c = λ sets have.
    let s : Store = g.N.Nodes.store c.args.nodes.now in
    let t : Store = g.N.Nodes.store c.loop-k.nodes in
    let row : List Lit = c.args.row.now in
    let k = c.loop-k.k in
    let ws : List SymbolicSet = sets_at sets c.args.inputs.now in
    let p = c.loop-k.invariant.so sets have in
    let end : drop k row ≡ [] = drop_all k row (omega (arith, c.loop-k-test.false)) in
    let is : p.f ≡ refused_total never row ws = sym (ap (λ (xs : List Lit). refused_total p.f xs (drop k ws)) end) ∙ p.ends in
    Built-made (refused_sums never row ws) (HasFunction (refused_total never row ws)) s t c.loop-k.sum p.so (subst (λ (f : Function). Means t f c.loop-k.sum) is p.total)
