-- Where no line is the first with a fault of a kind, no line of a reachable model has one.
use Rattle.std.specs.Prelude.{◌⊎◌}
use Rattle.std.proofs.Common.{◌≡◌, ◌<◌, ℕ, zero, suc, List, arith, refl, inl, inr, subst}
use Rattle.blif_syntax.specs.declared.models.Item.{Item}
use Rattle.blif_syntax.specs.declared.models.Model.{Model}
use Rattle.hierarchy.specs.declared.fault.NetFault.{NetFault}
use Rattle.hierarchy.specs.Faults.{IsPlaceBefore, IsFirstOfKind, IsFree, IsLine}

module _ (models : List Model) (kind : ℕ → Item → NetFault → Type 0) (free : IsFree (IsFirstOfKind models kind)) where
  -- no line of the models below this number has a fault of the kind
  abbrev Below : ℕ → Type 0
  Below bound = (number place : ℕ) (item : Item) (fault : NetFault) → number < bound → IsLine models number place item → kind number item fault → ⊥

  -- nor has one of the model of this number, below this place
  abbrev Before : ℕ → ℕ → Type 0
  Before number bound = (place : ℕ) (item : Item) (fault : NetFault) → place < bound → IsLine models number place item → kind number item fault → ⊥

  before : (number : ℕ) → Below number → (bound : ℕ) → Before number bound
  before number below zero place item fault low line has = absurd (omega arith)
  before number below (suc bound) place item fault low line has = free fault (record {
    number = number;
    place = place;
    item = item;
    line = line;
    faulty = has;
    least = λ n i other its earlier its_line its_fault. earlier_free (before number below bound) n i other its earlier its_line its_fault;
  })
    where
      earlier_free : Before number bound → (n i : ℕ) (other : Item) (its : NetFault) → IsPlaceBefore n i number place → IsLine models n i other → kind n other its → ⊥
      earlier_free again n i other its (inl less) l h = below n i other its less l h
      earlier_free again n i other its (inr same) l h =
          again i other its (omega (arith, same.1)) (subst (λ m. IsLine models m i other) same.0 l) (subst (λ m. kind m other its) same.0 h)

  less_or_same : (n m : ℕ) → n < suc m → (n < m) ⊎ (n ≡ m)
  less_or_same zero zero h = inr refl
  less_or_same zero (suc m) h = inl (omega arith)
  less_or_same (suc n) zero h = absurd (omega arith)
  less_or_same (suc n) (suc m) h = elim (less_or_same n m (omega arith)) as (λ _. (suc n < suc m) ⊎ (suc n ≡ suc m)) [ inl l ↦ inl (omega arith) | inr e ↦ inr (omega arith) ]

  below : (bound : ℕ) → Below bound
  below zero number place item fault low line has = absurd (omega arith)
  below (suc bound) number place item fault low line has = by (below bound) (less_or_same number bound low)
    where
      by : Below bound → (number < bound) ⊎ (number ≡ bound) → ⊥
      by again (inl less) = again number place item fault less line has
      by again (inr same) = before bound again (suc place) place item fault (omega arith) (subst (λ m. IsLine models m place item) same line) (subst (λ m. kind m item fault) same has)

  pub no_fault : (number place : ℕ) (item : Item) (fault : NetFault) → IsLine models number place item → kind number item fault → ⊥
  no_fault number place item fault line has = below (suc number) number place item fault (omega arith) line has
