-- Stages in a row: each gives one refusal at most, and so does their order.
use Rattle.std.proofs.Common.{◌≡◌, List, [], ◌∷◌, inl, inr}
use Rattle.std.specs.Prelude.{⊤}
use Rattle.ste_program.specs.Answer.{status_of}
use Rattle.ste_program.specs.Order.{AllSilent, IsFirstRefusal}
use Rattle.ste_program.specs.declared.run.Status.TheVariants as status
use Rattle.ste_program.specs.declared.refusal.Refusal.{Refusal}

-- each stage gives one refusal at most
abbrev pub AllOnce : List (Refusal → Type 0) → Type 0
AllOnce [] = ⊤
AllOnce (stage ∷ stages) = ((one other : Refusal) → stage one → stage other → one ≡ other) × AllOnce stages

-- what a stage gives is reported with status 2
abbrev pub AllTold : List (Refusal → Type 0) → Type 0
AllTold [] = ⊤
AllTold (stage ∷ stages) = ((found : Refusal) → stage found → status_of found ≡ status.Refused) × AllTold stages

pub first_told : (stages : List (Refusal → Type 0)) (found : Refusal) → AllTold stages → IsFirstRefusal stages found → status_of found ≡ status.Refused
first_told [] found told first = absurd first
first_told (stage ∷ stages) found told (inl h) = told.0 found h
first_told (stage ∷ stages) found told (inr h) = first_told stages found told.1 h.1

pub one_first : (stages : List (Refusal → Type 0)) (one other : Refusal) → AllOnce stages → IsFirstRefusal stages one → IsFirstRefusal stages other → one ≡ other
one_first [] one other once f g = absurd f
one_first (stage ∷ stages) one other once (inl f) (inl g) = once.0 one other f g
one_first (stage ∷ stages) one other once (inl f) (inr g) = absurd (g.0 one f)
one_first (stage ∷ stages) one other once (inr f) (inl g) = absurd (f.0 other g)
one_first (stage ∷ stages) one other once (inr f) (inr g) = one_first stages one other once.1 f.1 g.1

-- where no stage gives anything, none is the first
pub none_first : (stages : List (Refusal → Type 0)) (found : Refusal) → AllSilent stages → IsFirstRefusal stages found → ⊥
none_first [] found silent first = first
none_first (stage ∷ stages) found silent (inl h) = silent.0 found h
none_first (stage ∷ stages) found silent (inr h) = none_first stages found silent.1 h.1
