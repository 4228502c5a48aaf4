use Rattle.std.proofs.Common.{◌≡◌, false, true, List, All, refl, sym, subst, inr}
use Rattle.net_core.specs.declared.raw.RawNet.{RawNet}
use Rattle.net_core.specs.Run.{IsUndriven}
use Rattle.ste_model.specs.declared.task.Edge.{Edge}
use Rattle.gste_engine.proofs.FailureShows.{numbered, run_is_due}
use Rattle.gste_engine.proofs.shown.run_due.Goals as goal

pub returns-then-not-are_edges_free : goal.returns-then-not-are_edges_free
returns-then-not-are_edges_free c =
    let net : RawNet = c.args.net.now.raw in
    inr (λ bindable. let e : false ≡ true = c.if-not-are_edges_free.ensures.1 (subst (λ (xs : List Edge). All (λ edge. All (λ bind. IsUndriven net bind.node.0) edge.ant) xs) (sym c.as_slice.ensures) bindable) in cc e, refl)

pub graph_run-requires-clause-bindable : goal.graph_run-requires-clause-bindable
graph_run-requires-clause-bindable c =
    let net : RawNet = c.args.net.now.raw in
    subst (λ (xs : List Edge). All (λ edge. All (λ bind. IsUndriven net bind.node.0) edge.ant) xs) c.as_slice.ensures (c.if-not-are_edges_free.ensures.0 refl)

pub graph_run-requires-clause-path : goal.graph_run-requires-clause-path
graph_run-requires-clause-path c = numbered c.args.net.now.raw c.args.graph.now c.args.bits.now c.args.path.now c.requires.path c.requires.nets

pub returns : goal.returns
returns c =
    let net : RawNet = c.args.net.now.raw in
    run_is_due net c.args.graph.now c.args.bits.now c.args.path.now c.requires.path c.in_ok-run.run'
    (subst (λ (xs : List Edge). All (λ edge. All (λ bind. IsUndriven net bind.node.0) edge.ant) xs) c.as_slice.ensures (c.if-not-are_edges_free.ensures.0 refl))
    c.in_ok-run.ensures.rows c.in_ok-run.ensures.printed
