use Rattle.std.proofs.Common.{◌≡◌, ◌<◌, ◌/◌, ◌^◌, ℕ, min, drop}
use Rattle.std.specs.Int.{bit_at}
use Rattle.gate_sets.specs.private.Words.{base_of, row_bit}
use Rattle.gate_sets.proofs.words.row_word.Given as goal

-- the word so far, and the literals that are left
abbrev pub invariant-loop-place : goal.invariant-loop-place
invariant-loop-place l = (choice : ℕ) → choice < 64 → min (bit_at l.word choice) (row_bit l.digits (drop l.place l.row) (choice / base_of l.digits ^ l.place)) ≡ row_bit l.digits l.row choice
