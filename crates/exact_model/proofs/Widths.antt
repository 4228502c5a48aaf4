-- The greatest width of tasks.
use Rattle.std.proofs.Common.{◌≡◌, ℕ, ◌≤◌, List, [], ◌∷◌, map, max, length, arith, refl, ◌∙◌, inl, inr}
use Rattle.std.specs.Prelude.{All, Any, ◌⊎◌, fold}
use Rattle.std.proofs.lemmas.Bool.{cases_lt}
use Rattle.std.proofs.lemmas.List.Elements.{All-cons, All-nil}
use Rattle.ste_model.proofs.SumsAt.{any_first, any_later}
use Rattle.exact_model.specs.Choices.{WidthIsGreatest, task_width}

module _ {X : Type 0} (f : X → ℕ) where
  least : (xs : List X) (a : ℕ) → a ≤ fold max a (map f xs)
  least [] a = omega arith
  least (x ∷ xs) a = let h = least xs (max a (f x)) in omega arith

  each : (xs : List X) (a : ℕ) → All (λ x. f x ≤ fold max a (map f xs)) xs
  each [] a = All-nil (λ x. f x ≤ a)
  each (x ∷ xs) a =
      let h = least xs (max a (f x)) in
      All-cons (λ y. f y ≤ fold max (max a (f x)) (map f xs)) x xs (omega arith) (each xs (max a (f x)))

  reached : (xs : List X) (a : ℕ) → (fold max a (map f xs) ≡ a) ⊎ Any (λ x. fold max a (map f xs) ≡ f x) xs
  reached [] a = inl refl
  reached (x ∷ xs) a = elim (reached xs (max a (f x))) [
    | inr any ↦ inr (any_later (λ y. fold max (max a (f x)) (map f xs) ≡ f y) x xs any)
    | inl e ↦ elim (one a (f x)) [
      | inl first ↦ inl (e ∙ first)
      | inr second ↦ inr (any_first (λ y. fold max (max a (f x)) (map f xs) ≡ f y) x xs (e ∙ second))
    ]
  ]
    where
      one : (b c : ℕ) → (max b c ≡ b) ⊎ (max b c ≡ c)
      one b c = elim (cases_lt b c) [ inl l ↦ inr (omega arith) | inr l ↦ inl (omega arith) ]

pub width_is_greatest : WidthIsGreatest
width_is_greatest = record {
  vars = λ net tasks. least (task_width net (length tasks.vars)) tasks.tasks (length tasks.vars);
  each = λ net tasks. each (task_width net (length tasks.vars)) tasks.tasks (length tasks.vars);
  reached = λ net tasks. reached (task_width net (length tasks.vars)) tasks.tasks (length tasks.vars);
}
