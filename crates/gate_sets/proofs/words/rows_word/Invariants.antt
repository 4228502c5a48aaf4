use Rattle.std.proofs.Common.{◌≡◌, ◌<◌, ℕ, max, drop}
use Rattle.std.specs.Int.{bit_at}
use Rattle.gate_sets.specs.private.Words.{rows_bit}
use Rattle.gate_sets.proofs.words.rows_word.Given as goal

-- the word so far, and the rows that are left
abbrev pub invariant-loop-row : goal.invariant-loop-row
invariant-loop-row l = (choice : ℕ) → choice < 64 → max (bit_at l.word choice) (rows_bit l.digits (drop l.row-index l.rows) choice) ≡ rows_bit l.digits l.rows choice
