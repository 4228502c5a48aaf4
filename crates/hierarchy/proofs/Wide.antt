-- The lines of reachable models are lines of models; gates that are too wide, as a check and as a kind of fault.
use Rattle.std.proofs.Common.{◌≡◌, ℕ, suc, Bool, true, false, cond, List, [], ◌∷◌, map, get_or, None, Some, refl, sym, ap, ◌∙◌, inl, inr, subst}
use Rattle.std.specs.Prelude.{◌⊎◌, All}
use Rattle.blif_syntax.specs.Covered.{AreCovered, IsCovered}
use Rattle.blif_syntax.specs.declared.models.Item.{Item}
use Rattle.blif_syntax.specs.declared.models.Model.{Model}
use Rattle.hierarchy.specs.declared.fault.NetFault.{NetFault}
use Rattle.hierarchy.specs.declared.fault.NetFault.TheVariants.{GateTooWide, OutOfMemory}
use Rattle.hierarchy.specs.Faults.{HasGateTooWide, IsFirstOfKind, IsFree, is_too_wide}
use Rattle.hierarchy.specs.private.Checks.{AreReachable, ItemAt, first_fault_in, item_at, marked_from}
use Rattle.hierarchy.specs.private.Kinds.{wide_gate}
use Rattle.hierarchy.proofs.Marked.{check_first, check_free}
use Rattle.hierarchy.proofs.Members.{In, append_cases, contains_from_in, in_at, map_in}

-- an item of a marked model is an item of a model
marked_in : (marks : List Bool) (number : ℕ) (models : List Model) (at : ItemAt) → In (marked_from marks number models) at → (model : Model) × In models model × In model.items at.item
marked_in marks number [] at h = absurd h
marked_in marks number (m ∷ models) at h =
    elim (append_cases (cond (get_or marks number false) (map (item_at number) m.items) []) (marked_from marks (suc number) models) at h) as (λ _. (model : Model) × In (m ∷ models) model × In model.items at.item) [
      | inl own ↦ let r = by (get_or marks number false) own in (m, inl refl, r)
      | inr rest ↦ let r = marked_in marks (suc number) models at rest in (r.0, inr r.1, r.2)
    ]
  where
    by : (b : Bool) → In (cond b (map (item_at number) m.items) []) at → In m.items at.item
    by true h = let r = map_in (item_at number) m.items at h in subst (λ i. In m.items i) (ap (λ a. a.item) r.2) r.1
    by false h = absurd h

all_in : {X : Type 0} (P : X → Type 0) (xs : List X) (x : X) → All P xs → In xs x → P x
all_in P xs x all h = let c = contains_from_in xs x h in subst P c.2 (all c.0 x c.1)

pub lines_covered : (models : List Model) (lines : List ItemAt) → AreCovered models → AreReachable models lines → All (λ at. IsCovered at.item.what) lines
lines_covered models lines covered (marks, reached, same) k d low =
    let r = marked_in marks 0 models (get_or lines k d) (subst (λ l. In l (get_or lines k d)) same (in_at lines k d low)) in
    all_in (λ item. IsCovered item.what) r.0.items (get_or lines k d).item (all_in (λ model. All (λ item. IsCovered item.what) model.items) models r.0 covered r.1) r.2

-- kinds of fault that are the same have the same first line
module _ (models : List Model) (kind other : ℕ → Item → NetFault → Type 0) (to : (number : ℕ) (item : Item) (fault : NetFault) → kind number item fault → other number item fault) (back : (number : ℕ) (item : Item) (fault : NetFault) → other number item fault → kind number item fault) where
  same_first : (fault : NetFault) → IsFirstOfKind models kind fault → IsFirstOfKind models other fault
  same_first fault f = record {
    number = f.number;
    place = f.place;
    item = f.item;
    line = f.line;
    faulty = to f.number f.item fault f.faulty;
    least = λ n i it its before line has. f.least n i it its before line (back n it its has);
  }

  same_free : IsFree (IsFirstOfKind models kind) → IsFree (IsFirstOfKind models other)
  same_free free fault f = free fault (record {
    number = f.number;
    place = f.place;
    item = f.item;
    line = f.line;
    faulty = back f.number f.item fault f.faulty;
    least = λ n i it its before line has. f.least n i it its before line (to n it its has);
  })

to_wide : (item : Item) (fault : NetFault) → wide_gate item ≡ Some fault → (is_too_wide item.what ≡ true) × (fault ≡ GateTooWide item.line)
to_wide item fault e = by (is_too_wide item.what) refl e
  where
    by : (b : Bool) → is_too_wide item.what ≡ b → cond b (Some (GateTooWide item.line)) None ≡ Some fault → (is_too_wide item.what ≡ true) × (fault ≡ GateTooWide item.line)
    by true is e = (is, some e)
      where
        some : {a b : NetFault} → Some a ≡ Some b → b ≡ a
        some e = cc
    by false is e = absurd (cc)

from_wide : (item : Item) (fault : NetFault) → (is_too_wide item.what ≡ true) × (fault ≡ GateTooWide item.line) → wide_gate item ≡ Some fault
from_wide item fault e = ap (λ b. cond b (Some (GateTooWide item.line)) None) e.0 ∙ ap Some (sym e.1)

pub wide_first : (models : List Model) (lines : List ItemAt) → AreReachable models lines → (fault : NetFault) → (fault ≡ OutOfMemory) ⊎ (first_fault_in (λ at. wide_gate at.item) lines ≡ Some fault) → (fault ≡ OutOfMemory) ⊎ HasGateTooWide models fault
wide_first models lines reachable fault h = elim (check_first wide_gate models lines reachable fault h) as (λ _. (fault ≡ OutOfMemory) ⊎ HasGateTooWide models fault) [
  | inl wanting ↦ inl wanting
  | inr first ↦ inr (same_first models (λ number item its. wide_gate item ≡ Some its) (λ number item its. (is_too_wide item.what ≡ true) × (its ≡ GateTooWide item.line)) (λ n item its e. to_wide item its e) (λ n item its e. from_wide item its e) fault first)
]

pub wide_free : (models : List Model) (lines : List ItemAt) → AreReachable models lines → first_fault_in (λ at. wide_gate at.item) lines ≡ None → IsFree (HasGateTooWide models)
wide_free models lines reachable none = same_free models (λ number item its. wide_gate item ≡ Some its) (λ number item its. (is_too_wide item.what ≡ true) × (its ≡ GateTooWide item.line)) (λ n item its e. to_wide item its e) (λ n item its e. from_wide item its e) (check_free wide_gate models lines reachable none)
