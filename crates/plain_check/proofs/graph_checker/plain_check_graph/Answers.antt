use Rattle.std.proofs.Common.{List, refl, sym, ap, subst, ◌∙◌}
use Rattle.std.specs.Prelude.{Option, None}
use Rattle.plain_check.specs.declared.found.Failure.{Failure}
use Rattle.plain_check.specs.declared.rounds.State.{State}
use Rattle.plain_check.specs.private.Hops.{AreHops, IsGraphOutcome, outcome_of}
use Rattle.plain_check.specs.private.Shown.{GoesWith}
use Rattle.plain_check.specs.States.{states_of}
use Rattle.plain_check.proofs.HopFacts.{outcome_is}
use Rattle.plain_check.proofs.graph_checker.plain_check_graph.Goals as goal

pub returns-in_default : goal.returns-in_default
returns-in_default c =
    let net = c.args.net.now.raw in
    let graph = c.args.graph.now in
    let bits = c.args.bits.now in
    let table = states_of net c.in_ok-table.table.items in
    let hops = c.in_ok-hops.hops.items in
    let are = subst (λ (states : List State). AreHops net bits (states_of net states) graph.edges hops) c.deref-3.ensures.value c.in_ok-hops.ensures in
    record {
      outcome = subst (IsGraphOutcome net graph bits) (sym (c.outcome_of-outcome.ensures ∙ ap outcome_of c.deref-4.ensures.value)) (outcome_is net graph bits c.settles.ensures table c.in_ok-table.ensures.least hops are);
      shown = subst (λ (how : Option Failure). GoesWith net graph bits how None) (sym (sym c.failure_of.ensures ∙ c.in_default.is)) refl;
    }

pub returns : goal.returns
returns c =
    let net = c.args.net.now.raw in
    let graph = c.args.graph.now in
    let bits = c.args.bits.now in
    let table = states_of net c.in_ok-table.table.items in
    let hops = c.in_ok-hops.hops.items in
    let are = subst (λ (states : List State). AreHops net bits (states_of net states) graph.edges hops) c.deref-3.ensures.value c.in_ok-hops.ensures in
    record {
      outcome = subst (IsGraphOutcome net graph bits) (sym (c.outcome_of-outcome.ensures ∙ ap outcome_of c.deref-4.ensures.value)) (outcome_is net graph bits c.settles.ensures table c.in_ok-table.ensures.least hops are);
      shown = subst (λ (how : Option Failure). GoesWith net graph bits how c.in_ok-shown.shown) (sym (sym c.failure_of.ensures ∙ c.in-Some.is)) c.in_ok-shown.ensures;
    }
