-- For private functions. The lines of reachable models in one list, and the first fault that a
-- check finds in a list.
use Rattle.std.specs.Prelude.{◌≡◌, ◌↔◌, ◌⊎◌, ℕ, suc, ◌++◌, ◌∷◌, [], List, Bool, Option, None, Some, map, slice_index_or, false, true, if◌then◌else◌}
use Rattle.blif_syntax.specs.declared.models.Item.{Item}
use Rattle.blif_syntax.specs.declared.models.Model.{Model}
use Rattle.hierarchy.specs.declared.fault.NetFault.{NetFault}
use Rattle.hierarchy.specs.Reach.{Reaches, uses}

-- an item of the model of that number
pub record ItemAt : Type 0 where
  pub number : ℕ
  pub item : Item

abbrev pub item_at : ℕ → Item → ItemAt
item_at number item = record { number = number; item = item }

-- the items of the models that are marked, by line; the first of the models has this number
abbrev pub marked_from : List Bool → ℕ → List Model → List ItemAt
marked_from marks number [] = []
marked_from marks number (model ∷ models) =
    (if slice_index_or marks number false then map (item_at number) model.items else [])
    ++ marked_from marks (suc number) models

abbrev pub marked_items : List Bool → List Model → List ItemAt
marked_items marks models = marked_from marks 0 models

-- the first that is found
abbrev pub or_else : Option NetFault → Option NetFault → Option NetFault
or_else None other = other
or_else (Some fault) other = Some fault

abbrev pub first_fault_in : {X : Type 0} → (X → Option NetFault) → List X → Option NetFault
first_fault_in check [] = None
first_fault_in check (x ∷ xs) = or_else (check x) (first_fault_in check xs)

-- the fault is the first of its kind in a list, or there is none
abbrev pub FirstIn : {X : Type 0} → (X → NetFault → Type 0) → List X → NetFault → Type 0
FirstIn kind [] fault = ⊥
FirstIn kind (x ∷ xs) fault = kind x fault ⊎ (((its : NetFault) → kind x its → ⊥)
    × FirstIn kind xs fault)

abbrev pub NoneIn : {X : Type 0} → (X → NetFault → Type 0) → List X → Type 0
NoneIn kind [] = Unit {0}
NoneIn kind (x ∷ xs) = ((its : NetFault) → kind x its → ⊥) × NoneIn kind xs

-- marks of just the models that the top reaches
abbrev pub AreReached : List Model → List Bool → Type 0
AreReached models marks = (k : ℕ) → (slice_index_or marks k false ≡ true)
    ↔ Reaches (uses models) 0 k

-- the items of just those models, by line
abbrev pub AreReachable : List Model → List ItemAt → Type 0
AreReachable models lines = (marks : List Bool) × AreReached models marks
    × (lines ≡ marked_items marks models)
