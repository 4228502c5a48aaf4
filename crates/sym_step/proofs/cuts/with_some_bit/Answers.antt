use Rattle.std.proofs.lemmas.Bool.{false≢true}
use Rattle.std.proofs.Common.{true, sym, ◌∙◌, false, List, [], ◌∷◌, Ok, Err}
use Rattle.ste_base.specs.Functions.{Function}
use Rattle.dd_nodes.specs.Stores.{Store}
use Rattle.dd_nodes.proofs.Stores.{Means-keeps}
use Rattle.net_core.specs.Work.{some_bit}
use Rattle.dual_rail.specs.Rail.{Built, HasFunction}
use Rattle.dual_rail.proofs.Works.{here, or_built, So-start, Built-made, first, pass}
use Rattle.gate_sets.specs.declared.net_rails.NetRails.{NetRails}
use Rattle.gate_sets.specs.NetSets.{HasNetSet, IsKnown}
use Rattle.dd_nodes.proofs.Spending.{one_means}
use Rattle.gate_sets.proofs.Known.{known_full}
use Rattle.sym_step.proofs.cuts.with_some_bit.Goals as goal

pub returns-in_err-some : goal.returns-in_err-some
returns-in_err-some g c = λ w m.
    let s : Store = g.N.Nodes.store c.args.nodes.now in
    let t : Store = g.N.Nodes.store c.either.new.nodes in
    let work : List Function = some_bit w ∷ [] in
    let fault = c.in_err-some.field-0.0 in
    pass work (HasFunction (some_bit w)) (HasNetSet w) s s t fault c.from_residual.result (g.met.N.Nodes.diagram c.args.nodes.now) (g.met.N.Nodes.diagram c.either.new.nodes) (So-start work s)
    (or_built work w.zero w.one s t c.args.r.rails.can0 c.args.r.rails.can1 (Err fault) (here (some_bit w) []) m.rails.zero m.rails.one c.in_err-some.ensures) c.from_residual.ensures.1

pub returns : goal.returns
returns g c = λ w m.
    let s : Store = g.N.Nodes.store c.args.nodes.now in
    let t : Store = g.N.Nodes.store c.either.new.nodes in
    let ds = g.met.N.Nodes.diagram c.args.nodes.now in
    let dt = g.met.N.Nodes.diagram c.either.new.nodes in
    let work : List Function = some_bit w ∷ [] in
    let some = c.in_ok-some.some in
    let a : Built work (HasFunction (some_bit w)) s t (Ok some) = or_built work w.zero w.one s t c.args.r.rails.can0 c.args.r.rails.can1 (Ok some) (here (some_bit w) []) m.rails.zero m.rails.one c.in_ok-some.ensures in
    let made : NetRails = record { can0 = c.args.r.rails.can0; can1 = c.args.r.rails.can1; some = some; known = false } in
    Built-made work (HasNetSet w) s t made (first work (HasFunction (some_bit w)) s t (Ok some) a)
    (record { zero = Means-keeps s t w.zero c.args.r.rails.can0 ds dt a.spends.keeps m.rails.zero; one = Means-keeps s t w.one c.args.r.rails.can1 ds dt a.spends.keeps m.rails.one; some = a.ok; known = λ yes. absurd (false≢true yes) })

pub returns-then-r : goal.returns-then-r
returns-then-r g c = λ w m.
    let s : Store = g.N.Nodes.store c.args.nodes.now in
    let rails = c.args.r.rails in
    let one = one_means s (g.met.N.Nodes.diagram c.args.nodes.now) in
    let is : IsKnown s.vars w = m.known c.if-r.true in
    let made : NetRails = record { can0 = rails.can0; can1 = rails.can1; some = record { 0 = 1 }; known = true } in
    Built-made (some_bit w ∷ []) (HasNetSet w) s s made (So-start (some_bit w ∷ []) s) (record {
      zero = m.rails.zero;
      one = m.rails.one;
      some = record { ref = one.ref; value = λ bits l. one.value bits l ∙ sym (known_full w bits (is bits l)) };
      known = λ yes. is;
    })
