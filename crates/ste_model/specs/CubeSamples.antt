-- Law, as samples: the cubes of each set of assignments of two variables x and y, worked by hand.
use Rattle.std.specs.Prelude.{◌≡◌, Bool, false, true, if◌then◌else◌, [], ◌∷◌, slice_index_or}
use Rattle.ste_base.specs.declared.id.VarId.{VarId}
use Rattle.ste_base.specs.Functions.{Function}
use Rattle.ste_model.specs.Cubes.{cubes_of}

-- the set that has the assignments 00, 01, 10 and 11 of x and y where these bits are 1
abbrev pub table : Bool → Bool → Bool → Bool → Function
table a b c d bits =
    if slice_index_or bits 0 false then (if slice_index_or bits 1 false then d else c)
    else (if slice_index_or bits 1 false then b else a)

abbrev pub not_x : VarId × Bool
not_x = (record { 0 = 0 }, false)

abbrev pub x : VarId × Bool
x = (record { 0 = 0 }, true)

abbrev pub not_y : VarId × Bool
not_y = (record { 0 = 1 }, false)

abbrev pub y : VarId × Bool
y = (record { 0 = 1 }, true)

pub record CubesOfTwoVariables : Type 0 where
  pub none : cubes_of 2 (table false false false false) ≡ []
  pub only_11 : cubes_of 2 (table false false false true) ≡ (x ∷ y ∷ []) ∷ []
  pub only_10 : cubes_of 2 (table false false true false) ≡ (x ∷ not_y ∷ []) ∷ []
  pub where_x : cubes_of 2 (table false false true true) ≡ (x ∷ []) ∷ []
  pub only_01 : cubes_of 2 (table false true false false) ≡ (not_x ∷ y ∷ []) ∷ []
  pub where_y : cubes_of 2 (table false true false true) ≡ (y ∷ []) ∷ []
  pub differ : cubes_of 2 (table false true true false) ≡ (not_x ∷ y ∷ []) ∷ (x ∷ not_y ∷ []) ∷ []
  pub some : cubes_of 2 (table false true true true) ≡ (not_x ∷ y ∷ []) ∷ (x ∷ []) ∷ []
  pub only_00 : cubes_of 2 (table true false false false) ≡ (not_x ∷ not_y ∷ []) ∷ []
  pub same : cubes_of 2 (table true false false true) ≡ (not_x ∷ not_y ∷ []) ∷ (x ∷ y ∷ []) ∷ []
  pub where_not_y : cubes_of 2 (table true false true false) ≡ (not_y ∷ []) ∷ []
  pub not_01 : cubes_of 2 (table true false true true) ≡ (not_x ∷ not_y ∷ []) ∷ (x ∷ []) ∷ []
  pub where_not_x : cubes_of 2 (table true true false false) ≡ (not_x ∷ []) ∷ []
  pub not_10 : cubes_of 2 (table true true false true) ≡ (not_x ∷ []) ∷ (x ∷ y ∷ []) ∷ []
  pub not_11 : cubes_of 2 (table true true true false) ≡ (not_x ∷ []) ∷ (x ∷ not_y ∷ []) ∷ []
  pub all : cubes_of 2 (table true true true true) ≡ [] ∷ []
