use Rattle.std.proofs.Common.{ℕ, Bool, List, sym, subst}
use Rattle.dd_nodes.specs.Stores.{Store}
use Rattle.net_core.specs.declared.raw.RawNet.{RawNet}
use Rattle.ste_model.specs.declared.task.Graph.{Graph}
use Rattle.ste_model.specs.declared.verdict.Verdict.TheVariants.{Strong}
use Rattle.gste_engine.specs.declared.shown.Shown.{Shown}
use Rattle.gste_engine.specs.private.Due.{IsGraphRunDue}
use Rattle.gste_engine.specs.private.Judged.{IsGraphFailureOf}
use Rattle.gste_engine.proofs.FailureShows.{strong_shows}
use Rattle.gste_engine.proofs.shown.strong_shown.Goals as goal

pub returns-clause-shown : goal.returns-clause-shown
returns-clause-shown g c =
    let s : Store = g.N.Nodes.store c.args.nodes.now in
    let net : RawNet = c.args.net.now.raw in
    let graph : Graph = c.args.graph.now in
    let first = c.in_ok-first.first in
    let told = c.in_ok-run.run' in
    subst (λ (x : Shown). IsGraphFailureOf net s.vars graph Strong x.least x.path x.fails x.run) (sym c.with_run.ensures)
    (strong_shows net s.vars graph first.bits first.path first.place told c.in_ok-first.ensures.shown
    (subst (λ (bits : List Bool). IsGraphRunDue net graph bits first.path told) c.as_slice-2.ensures
    (subst (λ (numbers : List ℕ). IsGraphRunDue net graph c.as_slice-2.result.now numbers told) c.as_slice.ensures c.in_ok-run.ensures)))
