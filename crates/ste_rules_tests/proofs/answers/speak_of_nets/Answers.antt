use Rattle.std.proofs.Common.{◌<◌, ◌≤◌, ◌+◌, ◌≡◌, ℕ, List, length, get_or, arith, ap, subst, sym, ◌∙◌, inl, inr}
use Rattle.std.specs.Prelude.{◌⊎◌}
use Rattle.std.proofs.Math.Nat.{eq-or-lt_of_le}
use Rattle.std.proofs.lemmas.List.{get_or_default}
use Rattle.ste_model.specs.declared.task.Quint.{Quint}
use Rattle.ste_rules_tests.proofs.answers.speak_of_nets.Goals as goal

-- one quintuple more speaks of the nets
one_more : (quints : List Quint) (i nets : ℕ) (quint : Quint) → quint ≡ get_or quints i quint →
    i < length quints → quint.node.0 < nets →
    ((k : ℕ) (d : Quint) → k < i → (get_or quints k d).node.0 < nets) →
    (k : ℕ) (d : Quint) → k < i + 1 → (get_or quints k d).node.0 < nets
one_more quints i nets quint is within low before k d lt =
    let le : k ≤ i = omega (arith, lt) in
    elim (eq-or-lt_of_le le) as (λ _. (get_or quints k d).node.0 < nets) [
      | inl same ↦ subst (λ n. (get_or quints n d).node.0 < nets) (sym same)
          (subst (λ (q : Quint). q.node.0 < nets) (is ∙ get_or_default quints i quint d within) low)
      | inr below ↦ before k d below
    ]

pub loop-quint-init : goal.loop-quint-init
loop-quint-init c = record { nodes = λ k d lt. absurd (omega (arith, lt)) }

pub loop-quint-preserved : goal.loop-quint-preserved
loop-quint-preserved c = record {
  nodes = one_more c.args.quints.now c.loop-quint.quint-index c.args.nets c.quint-item.result
      c.quint-item.is c.loop-quint-test.true c.if-quint-nets.false c.loop-quint.invariant.nodes;
}

pub returns : goal.returns
returns c = λ is k d lt. c.loop-quint.invariant.nodes k d (omega (arith, lt, c.loop-quint-test.false))
