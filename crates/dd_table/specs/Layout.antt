-- Meaning: how a node lies in a word of the table, and which slots a search for a word walks
-- through. This project's own choice. With `src/word.rt` and `proofs/Layouts.antt` it is all that
-- depends on the word's layout.
use Rattle.std.specs.Prelude.{ℕ, ◌+◌, ◌*◌, ◌/◌, ◌%◌, ◌^◌}
use Rattle.dd_nodes.specs.declared.node.Node.{Node}
use Rattle.dd_table.specs.Codes.{ref}

-- the most slots that a table has: a child of a node has 26 bits of its word
abbrev pub most_slots : ℕ
most_slots = 32000000

-- the node in a word: the variable in the upper 12 bits, then each child in 26 bits
unfoldable pub node_in_word : ℕ → Node
node_in_word w = record { var = w / 2 ^ 52; lo = ref (w / 2 ^ 26 % 2 ^ 26); hi = ref (w % 2 ^ 26) }

-- the slot where the search for a word begins: the upper half of a product modulo 2^64
-- (multiplicative hashing)
unfoldable pub home_slot : ℕ → ℕ → ℕ
home_slot slots w = (w * 11400714819323198485 % 2 ^ 64) / 2 ^ 32 % slots

-- the slot that the search for a word comes to after k others: from the home on, and from the last
-- one to the first
unfoldable pub walk_slot : ℕ → ℕ → ℕ → ℕ
walk_slot slots w k = (home_slot slots w + k) % slots
