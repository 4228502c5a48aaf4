use Rattle.std.proofs.Common.{◌≡◌, ℕ, List, Bool, true, false, not, length, refl, sym, ◌∙◌, ap, subst}
use Rattle.net_core.specs.declared.cover.Cover.{Cover}
use Rattle.net_core.specs.declared.cover.Lit.{Lit}
use Rattle.net_core.specs.Cases.{others_in}
use Rattle.net_core.specs.Cover.{some_matches}
use Rattle.net_core.specs.Work.{AreWide}
use Rattle.net_core.proofs.Complement.{others_complement}
use Rattle.diagram_tests.proofs.rails.gate_of.Goals as goal

flip : (a b : Bool) → b ≡ not a → a ≡ not b
flip true true e = cc
flip true false e = refl
flip false true e = refl
flip false false e = cc

module _ (cover : Cover) (own others : List (List Lit)) (n : ℕ) (own_is : own ≡ cover.rows) (others_is : others ≡ others_in cover) (long : n ≡ cover.inputs) where
  wide : AreWide others n
  wide = subst (λ (rows : List (List Lit)). AreWide rows n) (sym others_is) (subst (AreWide (others_in cover)) (sym long) (others_complement.wide cover))

  apart : (bits : List Bool) → length bits ≡ n → some_matches others bits ≡ not (some_matches own bits)
  apart bits l = ap (λ (rows : List (List Lit)). some_matches rows bits) others_is ∙ others_complement.exact cover bits (l ∙ long) ∙ ap (λ (rows : List (List Lit)). not (some_matches rows bits)) (sym own_is)

pub gate-made-requires-clause-off : goal.gate-made-requires-clause-off
gate-made-requires-clause-off g c = wide c.args.cover.now c.as_slice.result.now c.as_slice-then-cover.result.now (length c.args.inputs.now) c.as_slice.ensures (c.as_slice-then-cover.ensures ∙ c.in_ok-others.ensures) c.requires.long

pub gate-made-requires-clause-apart : goal.gate-made-requires-clause-apart
gate-made-requires-clause-apart g c = apart c.args.cover.now c.as_slice.result.now c.as_slice-then-cover.result.now (length c.args.inputs.now) c.as_slice.ensures (c.as_slice-then-cover.ensures ∙ c.in_ok-others.ensures) c.requires.long

pub gate-made-requires-else-cover-clause-on : goal.gate-made-requires-else-cover-clause-on
gate-made-requires-else-cover-clause-on g c = wide c.args.cover.now c.as_slice-else-cover-2.result.now c.as_slice-else-cover.result.now (length c.args.inputs.now) c.as_slice-else-cover-2.ensures (c.as_slice-else-cover.ensures ∙ c.in_ok-others.ensures) c.requires.long

pub gate-made-requires-else-cover-clause-apart : goal.gate-made-requires-else-cover-clause-apart
gate-made-requires-else-cover-clause-apart g c = λ bits l. flip _ _ (apart c.args.cover.now c.as_slice-else-cover-2.result.now c.as_slice-else-cover.result.now (length c.args.inputs.now) c.as_slice-else-cover-2.ensures (c.as_slice-else-cover.ensures ∙ c.in_ok-others.ensures) c.requires.long bits l)
