-- For private functions. The names of one kind of things after another.
use Rattle.std.specs.Prelude.{◌<◌, ◌++◌, ◌∷◌, ◌^◌, [], ℕ, List, length, option_to_list}
use Rattle.aig_model.specs.declared.aig.Aig.{Aig}
use Rattle.aig_model.specs.Names.{Label, usable_symbol}

-- the symbols that serve as names, once these things have theirs
abbrev pub taken_behind : List (List ℕ) → List Label → List (List ℕ)
taken_behind taken [] = taken
taken_behind taken (label ∷ labels) = taken_behind (taken ++ option_to_list (usable_symbol taken
    label.symbol)) labels

-- numbers of 32 bits count the things of each kind
pub record IsFew (aig : Aig) : Type 0 where
  pub inputs : length aig.inputs < 2 ^ 32
  pub latches : length aig.latches < 2 ^ 32
  pub outputs : length aig.outputs < 2 ^ 32
