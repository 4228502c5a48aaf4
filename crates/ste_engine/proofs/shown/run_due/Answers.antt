use Rattle.std.proofs.Common.{◌≡◌, false, true, List, All, refl, sym, subst, inl, inr}
use Rattle.net_core.specs.declared.raw.RawNet.{RawNet}
use Rattle.net_core.proofs.Ordered.{settled_by_order}
use Rattle.ste_model.specs.declared.task.Quint.{Quint}
use Rattle.ste_model.specs.declared.task.Weakening.{Weakening}
use Rattle.ste_model.specs.Shown.{IsQuintBindable}
use Rattle.ste_engine.proofs.Shows.{not_contradictory}
use Rattle.ste_engine.proofs.shown.run_due.Goals as goal

pub returns-then-not-are_quints_bindable : goal.returns-then-not-are_quints_bindable
returns-then-not-are_quints_bindable c =
    let net : RawNet = c.args.net.now.raw in
    inr (λ bindable. let e : false ≡ true = c.if-not-are_quints_bindable.ensures.1 (subst (λ (ws : List Weakening). All (IsQuintBindable net ws) c.as_slice-2.result.now) (sym c.as_slice.ensures) (subst (λ (xs : List Quint). All (IsQuintBindable net c.args.task.now.weak) xs) (sym c.as_slice-2.ensures) bindable)) in cc e, refl)

pub ste_run-requires-clause-bindable : goal.ste_run-requires-clause-bindable
ste_run-requires-clause-bindable c =
    let net : RawNet = c.args.net.now.raw in
    subst (λ (xs : List Quint). All (IsQuintBindable net c.args.task.now.weak) xs) c.as_slice-2.ensures (subst (λ (ws : List Weakening). All (IsQuintBindable net ws) c.as_slice-2.result.now) c.as_slice.ensures (c.if-not-are_quints_bindable.ensures.0 refl))

pub ste_run-requires-clause-possible : goal.ste_run-requires-clause-possible
ste_run-requires-clause-possible c =
    let net = c.args.net.now in
    not_contradictory net.raw c.args.task.now c.args.bits.now (settled_by_order net.raw net.settled net.in_order) c.requires.strong

pub returns : goal.returns
returns c =
    let net : RawNet = c.args.net.now.raw in
    inl (
      subst (λ (xs : List Quint). All (IsQuintBindable net c.args.task.now.weak) xs) c.as_slice-2.ensures (subst (λ (ws : List Weakening). All (IsQuintBindable net ws) c.as_slice-2.result.now) c.as_slice.ensures (c.if-not-are_quints_bindable.ensures.0 refl)),
      record { bits = c.args.bits.now; least_is = refl; told = c.in_ok-run.run'; run_is = refl; rows = c.in_ok-run.ensures.rows; printed = c.in_ok-run.ensures.printed },
    )
