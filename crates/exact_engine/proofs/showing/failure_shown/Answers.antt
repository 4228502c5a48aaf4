use Rattle.std.proofs.Common.{◌≡◌, ◌≤◌, Bool, List, drop, length, take, sym, ◌∙◌, subst}
use Rattle.net_core.proofs.Ordered.{settled_by_order}
use Rattle.ste_model.specs.declared.task.Assertion.{Assertion}
use Rattle.ste_model.specs.Asked.{cuts_at}
use Rattle.ste_model.specs.Holds.{RunMeets}
use Rattle.ste_model.specs.Runs.{run_of}
use Rattle.exact_model.specs.Choices.{choices}
use Rattle.exact_model.specs.ExactReport.{IsBrokenFirst}
use Rattle.exact_engine.specs.private.Reporting.{IsShownExactly}
use Rattle.exact_engine.specs.private.Running.{IsRunWith}
use Rattle.exact_engine.proofs.LeastCounters.{asks_something, choices_fit, counter, front_fits, strong_parts, strong_shown}
use Rattle.exact_engine.proofs.showing.failure_shown.Goals as goal

pub front-requires : goal.front-requires
front-requires c = front_fits c.args.net.now.raw c.args.vars c.args.task.now c.args.all.now c.requires

pub run_with-requires-clause-deep : goal.run_with-requires-clause-deep
run_with-requires-clause-deep c =
    let full = c.args.net.now in
    asks_something full.raw c.args.vars c.args.task.now c.args.all.now c.requires full.one_driver (settled_by_order full.raw full.settled full.in_order)

pub run_with-requires-clause-long : goal.run_with-requires-clause-long
run_with-requires-clause-long c =
    let net = c.args.net.now.raw in
    let task : Assertion = c.args.task.now in
    subst (λ (xs : List Bool). length (choices net task) ≤ length xs) (sym c.beyond.ensures) (choices_fit net c.args.vars task c.args.all.now c.requires)

pub broken_place-place-requires : goal.broken_place-place-requires
broken_place-place-requires c =
    let net = c.args.net.now.raw in
    let task : Assertion = c.args.task.now in
    let all : List Bool = c.args.all.now in
    let told = c.in_ok-told.told in
    let run : IsRunWith net task (drop c.args.vars all) told = subst (λ (xs : List Bool). IsRunWith net task xs told) c.beyond.ensures c.in_ok-told.ensures in
    let bits : c.as_slice.result.now ≡ take c.args.vars all = c.as_slice.ensures ∙ c.in_ok-bits.ensures in
    subst (λ (xs : List Bool). ¬ RunMeets (cuts_at task.con xs) (run_of told)) (sym bits) (counter net c.args.vars task all c.requires told run).breaks

pub returns : goal.returns
returns c =
    let net = c.args.net.now.raw in
    let vars = c.args.vars in
    let task : Assertion = c.args.task.now in
    let all : List Bool = c.args.all.now in
    let told = c.in_ok-told.told in
    let place = c.broken_place-place.result in
    let run : IsRunWith net task (drop vars all) told = subst (λ (xs : List Bool). IsRunWith net task xs told) c.beyond.ensures c.in_ok-told.ensures in
    let bits : c.as_slice.result.now ≡ take vars all = c.as_slice.ensures ∙ c.in_ok-bits.ensures in
    let broken : IsBrokenFirst task (take vars all) (run_of told) place = subst (λ (xs : List Bool). IsBrokenFirst task xs (run_of told) place) bits c.broken_place-place.ensures in
    subst (λ (xs : List Bool). IsShownExactly net vars task (strong_parts xs place told)) (sym c.in_ok-bits.ensures) (strong_shown net vars task all c.requires told run place broken)
