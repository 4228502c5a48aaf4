-- Meaning. Limits of task files that more than one crate keeps. This project's own choice.
use Rattle.std.specs.Prelude.{ℕ}

-- the most variables of a task file, and of a table of nodes: the variable of a node has 12 bits of
-- its word
abbrev pub most_variables : ℕ
most_variables = 4000

-- the greatest time that a task names
abbrev pub most_time : ℕ
most_time = 100000
