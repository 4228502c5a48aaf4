-- From the functions of the results to the verdict.
use Rattle.std.proofs.Common.{◌≡◌, ℕ, zero, suc, Bool, true, false, List, [], ◌∷◌, length, arith, sym, ap, refl, subst, ◌∙◌, inl, inr}
use Rattle.std.specs.Prelude.{◌⊎◌, IsTrue}
use Rattle.dd_nodes.specs.declared.node.Ref.{Ref}
use Rattle.ste_base.specs.Functions.{Function}
use Rattle.dd_nodes.specs.Stores.{Store, function}
use Rattle.ste_model.specs.declared.verdict.Verdict.{Verdict}
use Rattle.ste_model.specs.declared.verdict.Verdict.TheVariants.{Strong, Weak, Vacuous, Pass, Budget}
use Rattle.ste_model.specs.Assignments.{EachAssignment, SomeAssignment, Tells}
use Rattle.ste_model.specs.Found.{IsVerdict}
use Rattle.engine_parts.specs.declared.results.Results.{Results}
use Rattle.engine_parts.specs.Reporting.{IsVerdictBy}

-- some assignment has the bit, or none has
both_halves : (v : ℕ) (f : Function) → ((bits : List Bool) × (length bits ≡ v) × (f (false ∷ bits) ≡ true)) ⊎ ((bits : List Bool) → length bits ≡ v → f (false ∷ bits) ≡ false)
    → ((bits : List Bool) × (length bits ≡ v) × (f (true ∷ bits) ≡ true)) ⊎ ((bits : List Bool) → length bits ≡ v → f (true ∷ bits) ≡ false)
    → ((bits : List Bool) × (length bits ≡ suc v) × (f bits ≡ true)) ⊎ ((bits : List Bool) → length bits ≡ suc v → f bits ≡ false)
both_halves v f (inl a) d = inl (false ∷ a.0, ap suc a.1, a.2)
both_halves v f (inr a) (inl b) = inl (true ∷ b.0, ap suc b.1, b.2)
both_halves v f (inr a) (inr b) = inr none
  where
    none : (bits : List Bool) → length bits ≡ suc v → f bits ≡ false
    none [] l = absurd (omega arith)
    none (false ∷ bits) l = a bits (omega arith)
    none (true ∷ bits) l = b bits (omega arith)

some_or_none : (v : ℕ) (f : Function) → ((bits : List Bool) × (length bits ≡ v) × (f bits ≡ true)) ⊎ ((bits : List Bool) → length bits ≡ v → f bits ≡ false)
some_or_none zero f = by (f []) refl
  where
    by : (b : Bool) → f [] ≡ b → ((bits : List Bool) × (length bits ≡ 0) × (f bits ≡ true)) ⊎ ((bits : List Bool) → length bits ≡ 0 → f bits ≡ false)
    by true e = inl ([], refl, e)
    by false e = inr (λ bits l. subst (λ (x : List Bool). f x ≡ false) (sym (nothing bits l)) e)
      where
        nothing : (bits : List Bool) → length bits ≡ 0 → bits ≡ []
        nothing [] l = refl
        nothing (b ∷ bs) l = absurd (omega arith)
some_or_none (suc v) f = both_halves v f (some_or_none v (λ bits. f (false ∷ bits))) (some_or_none v (λ bits. f (true ∷ bits)))

module _ (t : Store) (r : Ref) (P : List Bool → Type 0) (is : Tells t.vars (function t r) P) where
  pub some_is : (((bits : List Bool) → length bits ≡ t.vars → function t r bits ≡ false) → ⊥) → SomeAssignment t.vars P
  some_is some = elim (some_or_none t.vars (function t r)) [
    | inl e ↦ (e.0, e.1, (is e.0 e.1).0 e.2)
    | inr none ↦ absurd (some none)
  ]

  pub none_is : ((bits : List Bool) → length bits ≡ t.vars → function t r bits ≡ false) → ¬ SomeAssignment t.vars P
  none_is none some = let e : false ≡ true = sym (none some.0 some.1) ∙ (is some.0 some.1).1 some.2 in absurd (cc e)

  pub each_is : ((bits : List Bool) → length bits ≡ t.vars → function t r bits ≡ true) → EachAssignment t.vars P
  each_is all bits l = (is bits l).0 (all bits l)

  pub not_each : (((bits : List Bool) → length bits ≡ t.vars → function t r bits ≡ true) → ⊥) → ¬ EachAssignment t.vars P
  not_each some each = some (λ bits l. (is bits l).1 (each bits l))

-- ---- the verdict by the functions of the references, and that of the findings which these tell

module _ (t : Store) (r : Ref) (P : List Bool → Type 0) (is : Tells t.vars (function t r) P) where
  some_told : SomeAssignment t.vars (λ bits. IsTrue (function t r bits)) → SomeAssignment t.vars P
  some_told some = (some.0, some.1, (is some.0 some.1).0 some.2)

  none_told : ¬ SomeAssignment t.vars (λ bits. IsTrue (function t r bits)) → ¬ SomeAssignment t.vars P
  none_told none some = none (some.0, some.1, (is some.0 some.1).1 some.2)

  each_told : EachAssignment t.vars (λ bits. IsTrue (function t r bits)) → EachAssignment t.vars P
  each_told each bits l = (is bits l).0 (each bits l)

  not_each_told : ¬ EachAssignment t.vars (λ bits. IsTrue (function t r bits)) → ¬ EachAssignment t.vars P
  not_each_told some each = some (λ bits l. (is bits l).1 (each bits l))

pub verdict_told : (t : Store) (r : Results) (S W C : List Bool → Type 0)
    → Tells t.vars (function t r.strong) S → Tells t.vars (function t r.weak) W → Tells t.vars (function t r.contradictory) C
    → (verdict : Verdict) → IsVerdictBy t r verdict → IsVerdict t.vars S W C verdict
verdict_told t r S W C s w c Strong v = some_told t r.strong S s v
verdict_told t r S W C s w c Weak v = (none_told t r.strong S s v.0, some_told t r.weak W w v.1)
verdict_told t r S W C s w c Vacuous v = (none_told t r.strong S s v.0, none_told t r.weak W w v.1, each_told t r.contradictory C c v.2)
verdict_told t r S W C s w c Pass v = (none_told t r.strong S s v.0, none_told t r.weak W w v.1, not_each_told t r.contradictory C c v.2)
verdict_told t r S W C s w c Budget v = absurd v
