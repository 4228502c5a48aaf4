-- What an assertion claims.
use Rattle.std.proofs.Common.{◌≡◌, ℕ, ◌<◌, ◌≤◌, Bool, not, List, [], ◌∷◌, map, max, arith, ap, refl, sym, subst, ◌∙◌}
use Rattle.std.specs.Prelude.{◌&&◌, IsTrue, fold, nat_le, nat_lt}
use Rattle.std.proofs.lemmas.Bool.{and_parts}
use Rattle.std.proofs.lemmas.List.Elements.{All-nil, All-cons, All-head, All-tail}
use Rattle.bool_expr.specs.Value.{value_of}
use Rattle.bool_expr.proofs.Values.{value_is}
use Rattle.net_core.specs.Run.{Cut, Meets}
use Rattle.ste_model.specs.declared.task.Assertion.{Assertion}
use Rattle.ste_model.specs.declared.task.Quint.{Quint}
use Rattle.ste_model.specs.Asked.{cuts_at, depth, quint_at}
use Rattle.ste_model.specs.Holds.{IsTaskRun}
use Rattle.ste_model.specs.Trees.{quint_tree}
use Rattle.rule_model.specs.Claims.{MeetsAll, ClaimsAreAssertions, claim_depth, claim_of, latest_of}

-- a quintuple applies at its times, where its guard is 1
applies : (guard : Bool) (from to t : ℕ) → IsTrue guard → from ≤ t → t < to → IsTrue (guard && (nat_le from t && nat_lt t to))
applies guard from to t on after before = grind (arith, on)

parts_of : (guard : Bool) (from to t : ℕ) → IsTrue (guard && (nat_le from t && nat_lt t to)) → IsTrue guard × (from ≤ t) × (t < to)
parts_of guard from to t h =
    let p = and_parts guard _ h in
    let q = and_parts (nat_le from t) _ p.1 in
    (p.0, grind (arith, q), grind (arith, q))

to_met : (bits : List Bool) (run : ℕ → ℕ → Bool) (quints : List Quint) → ((t : ℕ) → Meets (cuts_at quints bits t) (run t)) → MeetsAll bits run (map quint_tree quints)
to_met bits run [] meets = tt
to_met bits run (quint ∷ quints) meets = (
  λ on t after before.
      let here = All-head (λ (cut : Cut). IsTrue cut.on → run t cut.node ≡ cut.value) (quint_at bits t quint) (cuts_at quints bits t) (meets t) in
      here (applies (value_of quint.guard bits) quint.from quint.to t (subst IsTrue (sym (value_is bits quint.guard)) on) after before) ∙ value_is bits quint.value,
  to_met bits run quints (λ t. All-tail (λ (cut : Cut). IsTrue cut.on → run t cut.node ≡ cut.value) (quint_at bits t quint) (cuts_at quints bits t) (meets t)),
)

from_met : (bits : List Bool) (run : ℕ → ℕ → Bool) (quints : List Quint) → MeetsAll bits run (map quint_tree quints) → (t : ℕ) → Meets (cuts_at quints bits t) (run t)
from_met bits run [] met t = All-nil (λ (cut : Cut). IsTrue cut.on → run t cut.node ≡ cut.value)
from_met bits run (quint ∷ quints) met t =
    All-cons (λ (cut : Cut). IsTrue cut.on → run t cut.node ≡ cut.value) (quint_at bits t quint) (cuts_at quints bits t)
    (λ on.
    let p = parts_of (value_of quint.guard bits) quint.from quint.to t on in
    met.0 (subst IsTrue (value_is bits quint.guard) p.0) t p.1 p.2 ∙ sym (value_is bits quint.value))
    (from_met bits run quints met.1 t)

fold_latest : (quints : List Quint) (a : ℕ) → fold max a (map (λ (quint : Quint). quint.to) quints) ≡ max a (latest_of (map quint_tree quints))
fold_latest [] a = omega arith
fold_latest (quint ∷ quints) a = let h = fold_latest quints (max a quint.to) in omega (arith, h)

same_depth : (task : Assertion) → depth task ≡ claim_depth (claim_of task)
same_depth task =
    let a = fold_latest task.ant 0 in
    let b = fold_latest task.con 0 in
    omega (arith, a, b)

pub claims_are_assertions : ClaimsAreAssertions
claims_are_assertions net vars task = (
  λ holds bits long run is_run met.
      to_met bits run task.con (holds bits long run (subst (λ (n : ℕ). IsTaskRun net task.reset n run) (sym (same_depth task)) is_run) (from_met bits run task.ant met)),
  λ holds bits long run is_run meets.
      from_met bits run task.con (holds bits long run (subst (λ (n : ℕ). IsTaskRun net task.reset n run) (same_depth task) is_run) (to_met bits run task.ant meets)),
)
