-- Marks of nets, and drivers of nets that are marked.
use Rattle.std.proofs.Common.{◌≡◌, ℕ, zero, suc, ◌+◌, ◌<◌, ◌≤◌, Bool, true, false, cond, List, [], ◌∷◌, ◌++◌, map, length, drop, get_or, Option, Some, arith, refl, sym, ap, ◌∙◌, subst}
use Rattle.std.specs.Prelude.{filter_map, option_map, slice_index_or, slice_set}
use Rattle.std.specs.List.{cons_option}
use Rattle.std.proofs.lemmas.List.{drop_more}
use Rattle.blif_syntax.specs.declared.models.Item.{Item}
use Rattle.hierarchy.specs.declared.fault.NetFault.{NetFault}
use Rattle.hierarchy.specs.declared.fault.NetFault.TheVariants.{DrivenTwice}
use Rattle.hierarchy.specs.Lines.{driver_of, driver_on}
use Rattle.flat_net.specs.private.Passes.{Instance, node_in}
use Rattle.flat_net.specs.private.Drivers.{Driver, driven_fault, driver_at, drivers_in, first_driven_twice}

pub set_behind : {X : Type 0} (xs : List X) (k : ℕ) (x : X) → length xs ≤ k → slice_set xs k x ≡ xs
set_behind [] k x h = refl
set_behind (y ∷ xs) zero x h = absurd (omega arith)
set_behind (y ∷ xs) (suc k) x h = ap (λ l. y ∷ l) (set_behind xs k x (omega arith))

-- the drivers of the lines from one on
module _ (instance : Instance) (items : List Item) (k : ℕ) (d : Item) (low : k < length items) (output : Option (List ℕ)) (is : (line : ℕ) → driver_on line (get_or items k d).what ≡ option_map (λ output. record { line = line; output = output }) output) where
  pub later_drivers : map (driver_at instance) (filter_map driver_of (drop k items)) ≡ map (driver_at instance) (cons_option (option_map (λ output. record { line = (get_or items k d).line; output = output }) output) (filter_map driver_of (drop (k + 1) items)))
  later_drivers = ap (λ l. map (driver_at instance) (filter_map driver_of l)) (drop_more items k d low) ∙ ap (λ o. map (driver_at instance) (cons_option o (filter_map driver_of (drop (k + 1) items)))) (is (get_or items k d).line)

module _ (instance : Instance) (items : List Item) (k : ℕ) (d : Item) (low : k < length items) (marks start : List Bool)
    (before : (rest : List Driver) → first_driven_twice marks (map (driver_at instance) (filter_map driver_of (drop k items)) ++ rest) ≡ first_driven_twice start (drivers_in instance ++ rest)) where
  module _ (output : List ℕ) (is : (line : ℕ) → driver_on line (get_or items k d).what ≡ Some (record { line = line; output = output })) where
    as_one : (rest : List Driver) → first_driven_twice marks (driver_at instance (record { line = (get_or items k d).line; output = output }) ∷ (map (driver_at instance) (filter_map driver_of (drop (k + 1) items)) ++ rest)) ≡ first_driven_twice start (drivers_in instance ++ rest)
    as_one rest = ap (λ l. first_driven_twice marks (l ++ rest)) (sym (later_drivers instance items k d low (Some output) is)) ∙ before rest

    -- one that drives a net that is marked
    pub driven_again : (was : Bool) → was ≡ slice_index_or marks (node_in instance output).0 false → was ≡ true → (names : List (List ℕ)) (fault : NetFault) → fault ≡ DrivenTwice (get_or items k d).line (slice_index_or names (node_in instance output).0 []) → (rest : List Driver) → option_map (driven_fault names) (first_driven_twice start (drivers_in instance ++ rest)) ≡ Some fault
    driven_again was e marked names fault is_fault rest =
        ap (λ o. option_map (driven_fault names) o) (sym (as_one rest)
        ∙ ap (λ b. cond b (Some (driver_at instance (record { line = (get_or items k d).line; output = output }))) (first_driven_twice (slice_set marks (node_in instance output).0 true) (map (driver_at instance) (filter_map driver_of (drop (k + 1) items)) ++ rest))) (sym e ∙ marked))
        ∙ ap Some (sym is_fault)

pub refused_again : (instance : Instance) (items : List Item) (k : ℕ) (item : Item) (low : k < length items) (marks start : List Bool) (before : (rest : List Driver) → first_driven_twice marks (map (driver_at instance) (filter_map driver_of (drop k items)) ++ rest) ≡ first_driven_twice start (drivers_in instance ++ rest))
    (here : item ≡ get_or items k item) (output : List ℕ) (is : (line : ℕ) → driver_on line item.what ≡ Some (record { line = line; output = output })) (was : Bool) → was ≡ slice_index_or marks (node_in instance output).0 false → was ≡ true →
    (names : List (List ℕ)) (fault : NetFault) → fault ≡ DrivenTwice item.line (slice_index_or names (node_in instance output).0 []) → (rest : List Driver) → option_map (driven_fault names) (first_driven_twice start (drivers_in instance ++ rest)) ≡ Some fault
refused_again instance items k item low marks start before here output is was e marked names fault is_fault rest =
    driven_again instance items k item low marks start before output (subst (λ (i : Item). (line : ℕ) → driver_on line i.what ≡ Some (record { line = line; output = output })) here is) was e marked names fault
    (is_fault ∙ ap (λ (i : Item). DrivenTwice i.line (slice_index_or names (node_in instance output).0 [])) here) rest
