use Rattle.std.proofs.Common.{Bool, List, sym, subst}
use Rattle.dd_nodes.specs.Stores.{Store}
use Rattle.net_core.specs.declared.raw.RawNet.{RawNet}
use Rattle.ste_model.specs.declared.task.Assertion.{Assertion}
use Rattle.ste_model.specs.declared.verdict.Verdict.TheVariants.{Strong}
use Rattle.ste_model.specs.Found.{IsStrong}
use Rattle.ste_engine.specs.declared.shown.Shown.{Shown}
use Rattle.ste_engine.specs.private.Reports.{IsFailureOf, IsRunDue}
use Rattle.ste_engine.proofs.Shows.{strong_of, strong_shows}
use Rattle.ste_engine.proofs.shown.strong_shown.Goals as goal

pub returns-clause-shown : goal.returns-clause-shown
returns-clause-shown g c =
    let s : Store = g.N.Nodes.store c.args.nodes.now in
    let net : RawNet = c.args.net.now.raw in
    let task : Assertion = c.args.task.now in
    let least = c.in_ok-least.least in
    let told = c.in_ok-run.run' in
    subst (λ (x : Shown). IsFailureOf net s.vars task Strong x.least x.fails x.run) (sym c.with_run.ensures)
    (strong_shows net s.vars task least.bits least.place told c.in_ok-least.ensures.shown
    (subst (λ (bits : List Bool). IsRunDue net task bits told) c.as_slice.ensures c.in_ok-run.ensures))

pub run_due-requires-clause-strong : goal.run_due-requires-clause-strong
run_due-requires-clause-strong g c =
    let net : RawNet = c.args.net.now.raw in
    let task : Assertion = c.args.task.now in
    let least = c.in_ok-least.least in
    subst (IsStrong net task) (sym c.as_slice.ensures) (strong_of net (g.N.Nodes.store c.args.nodes.now).vars task least.bits least.place c.in_ok-least.ensures.shown)
