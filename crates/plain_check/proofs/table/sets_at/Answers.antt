use Rattle.std.proofs.Common.{ℕ, List, ◌<◌, subst, sym}
use Rattle.std.specs.Prelude.{All}
use Rattle.std.proofs.lemmas.Result.{IfOk-weaker}
use Rattle.std.proofs.lemmas.List.Elements.{All-map}
use Rattle.net_core.specs.declared.bit_set.BitSet.{BitSet}
use Rattle.net_core.specs.Run.{Cut}
use Rattle.net_core.specs.Possible.{ArePossible, Asked}
use Rattle.ste_model.specs.declared.task.Quint.{Quint}
use Rattle.ste_model.specs.declared.task.Weakening.{Weakening}
use Rattle.ste_model.specs.Asked.{asked_at, cuts_at, quint_at, weakened_at}
use Rattle.plain_check.specs.private.Sets.{set_at, Allows, AreFlags}
use Rattle.plain_check.proofs.table.sets_at.Goals as goal

pub returns-clause-possible : goal.returns-clause-possible
returns-clause-possible c =
    let net = c.args.net.now.raw in
    let asks = asked_at c.args.task.now c.args.bits.now c.args.t in
    let below = All-map (λ (cut : Cut). cut.node < net.nets) (quint_at c.args.bits.now c.args.t) c.args.task.now.ant c.requires.in_range in
    let allowed = c.in_ok-allowed.allowed.items in
    let allows = subst (λ (quints : List Quint). Allows (cuts_at quints c.args.bits.now c.args.t) allowed) c.as_slice.ensures c.in_ok-allowed.ensures.allows in
    let weak = c.in_ok-weak.weak.items in
    let there =
    subst (λ (n : ℕ). AreFlags n (weakened_at c.as_slice-2.result.now c.args.t) weak) c.nets-2.ensures
    c.in_ok-weak.ensures in
    let flags =
    subst (λ (all : List Weakening). AreFlags net.nets (weakened_at all c.args.t) weak) c.as_slice-2.ensures
    there in
    IfOk-weaker c.possible_sets.result
    (λ (row : List BitSet). (asked : Asked) → All (λ cut. cut.node < net.nets) asked.cuts →
    Allows asked.cuts c.deref-2.result.now → AreFlags net.nets asked.weak c.deref.result.now →
    ArePossible net c.args.held.now asked (set_at row))
    (λ row. ArePossible net c.args.held.now asks (set_at row))
    (λ row h. h asks below (subst (Allows asks.cuts) (sym c.deref-2.ensures.value) allows)
    (subst (AreFlags net.nets asks.weak) (sym c.deref.ensures.value) flags))
    c.possible_sets.ensures.possible
