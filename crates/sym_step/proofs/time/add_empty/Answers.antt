use Rattle.std.proofs.Common.{◌≡◌, List, [], ◌∷◌, sym, ◌∙◌, Ok, Err, eqb-true}
use Rattle.ste_base.specs.Functions.{Function}
use Rattle.dd_nodes.specs.Stores.{Store}
use Rattle.dd_nodes.proofs.Stores.{Means-keeps}
use Rattle.dd_ops.proofs.Terminal.{one_bit}
use Rattle.net_core.specs.Work.{disjunction, no_bit, some_bit}
use Rattle.dual_rail.specs.Rail.{Built, HasFunction}
use Rattle.dual_rail.proofs.Works.{here, behind, not_built, or_built, So-start, Built-made, first, last, pass}
use Rattle.sym_step.proofs.Emptied.{nowhere}
use Rattle.sym_step.proofs.time.add_empty.Goals as goal

pub returns-then-eq : goal.returns-then-eq
returns-then-eq g c = λ f w mf mw.
    let s : Store = g.N.Nodes.store c.args.nodes.now in
    let work : List Function = disjunction f (no_bit w) ∷ no_bit w ∷ [] in
    let one : c.args.some.0 ≡ 1 = eqb-true _ _ (sym c.eq.ensures ∙ c.if-eq.true) in
    Built-made work (HasFunction (disjunction f (no_bit w))) s s c.args.sum (So-start work s)
    (record {
      ref = mf.ref;
      value = λ bits l. mf.value bits l ∙ nowhere (f bits) (some_bit w bits) (sym (mw.value bits l) ∙ one_bit s c.args.some bits (g.met.N.Nodes.diagram c.args.nodes.now) one);
    })

pub returns-in_err-none : goal.returns-in_err-none
returns-in_err-none g c = λ f w mf mw.
    let s : Store = g.N.Nodes.store c.args.nodes.now in
    let t : Store = g.N.Nodes.store c.not.new.nodes in
    let work : List Function = disjunction f (no_bit w) ∷ no_bit w ∷ [] in
    let fault = c.in_err-none.field-0.0 in
    pass work (HasFunction (no_bit w)) (HasFunction (disjunction f (no_bit w))) s s t fault c.from_residual.result (g.met.N.Nodes.diagram c.args.nodes.now) (g.met.N.Nodes.diagram c.not.new.nodes) (So-start work s)
    (not_built work (some_bit w) s t c.args.some (Err fault) (behind (disjunction f (no_bit w)) (no_bit w ∷ []) (no_bit w) (here (no_bit w) [])) mw c.in_err-none.ensures) c.from_residual.ensures.1

pub returns : goal.returns
returns g c = λ f w mf mw.
    let s : Store = g.N.Nodes.store c.args.nodes.now in
    let t : Store = g.N.Nodes.store c.not.new.nodes in
    let u : Store = g.N.Nodes.store c.either.new.nodes in
    let gs = g.met.N.Nodes.diagram c.args.nodes.now in
    let gt = g.met.N.Nodes.diagram c.not.new.nodes in
    let gu = g.met.N.Nodes.diagram c.either.new.nodes in
    let work : List Function = disjunction f (no_bit w) ∷ no_bit w ∷ [] in
    let none = c.in_ok-none.none in
    let a : Built work (HasFunction (no_bit w)) s t (Ok none) = not_built work (some_bit w) s t c.args.some (Ok none) (behind (disjunction f (no_bit w)) (no_bit w ∷ []) (no_bit w) (here (no_bit w) [])) mw c.in_ok-none.ensures in
    last work (HasFunction (disjunction f (no_bit w))) s t u c.either.result gt gu (first work (HasFunction (no_bit w)) s t (Ok none) a)
    (or_built work f (no_bit w) t u c.args.sum none c.either.result (here (disjunction f (no_bit w)) (no_bit w ∷ [])) (Means-keeps s t f c.args.sum gs gt a.spends.keeps mf) a.ok c.either.ensures)
