-- Meaning. Functions of Boolean variables, and by them sets of assignments.
use Rattle.std.specs.Prelude.{Bool, List}

-- a function of variables: a bit for each assignment, which is the list of their bits; as a set of
-- assignments it has those at which it is 1
abbrev pub Function : Type 0
Function = List Bool → Bool
