use Rattle.std.proofs.Common.{◌≡◌, Bool, List, take, sym, ◌∙◌, subst}
use Rattle.ste_model.specs.declared.task.Assertion.{Assertion}
use Rattle.ste_model.specs.Asked.{cuts_at}
use Rattle.ste_model.specs.Holds.{RunMeets}
use Rattle.ste_model.specs.Runs.{run_of}
use Rattle.ste_engine.proofs.Shows.{not_contradictory}
use Rattle.exact_model.specs.ExactReport.{IsBrokenFirst}
use Rattle.exact_engine.specs.private.Reporting.{IsShownExactly}
use Rattle.exact_engine.proofs.BySets.{counter, printed_shown}
use Rattle.exact_engine.proofs.LeastCounters.{strong_parts}
use Rattle.exact_engine.proofs.by_sets.printed_failure.Goals as goal

pub front-requires : goal.front-requires
front-requires c = c.requires.least.room

pub ste_run-requires-clause-nets : goal.ste_run-requires-clause-nets
ste_run-requires-clause-nets c = c.requires.bound.bound.over.ant

pub ste_run-requires-clause-bindable : goal.ste_run-requires-clause-bindable
ste_run-requires-clause-bindable c = c.requires.bound.bound.bindable

pub ste_run-requires-clause-possible : goal.ste_run-requires-clause-possible
ste_run-requires-clause-possible c =
    let least = c.requires.least in
    not_contradictory c.args.net.now.raw c.args.task.now c.args.all.now c.requires.bound.bound.settled least.strong

pub broken_place-place-requires : goal.broken_place-place-requires
broken_place-place-requires c =
    let net = c.args.net.now.raw in
    let task : Assertion = c.args.task.now in
    let all : List Bool = c.args.all.now in
    let told = c.in_ok-told.told in
    let bits : c.as_slice.result.now ≡ take c.args.vars all = c.as_slice.ensures ∙ c.in_ok-bits.ensures in
    subst (λ (xs : List Bool). ¬ RunMeets (cuts_at task.con xs) (run_of told)) (sym bits)
    (counter net c.args.vars task all c.requires.bound c.requires.least told c.in_ok-told.ensures.rows c.in_ok-told.ensures.printed).breaks

pub returns : goal.returns
returns c =
    let net = c.args.net.now.raw in
    let vars = c.args.vars in
    let task : Assertion = c.args.task.now in
    let all : List Bool = c.args.all.now in
    let told = c.in_ok-told.told in
    let place = c.broken_place-place.result in
    let bits : c.as_slice.result.now ≡ take vars all = c.as_slice.ensures ∙ c.in_ok-bits.ensures in
    let broken : IsBrokenFirst task (take vars all) (run_of told) place = subst (λ (xs : List Bool). IsBrokenFirst task xs (run_of told) place) bits c.broken_place-place.ensures in
    subst (λ (xs : List Bool). IsShownExactly net vars task (strong_parts xs place told)) (sym c.in_ok-bits.ensures)
    (printed_shown net vars task all c.requires.bound c.requires.least told c.in_ok-told.ensures.rows c.in_ok-told.ensures.printed place broken)
