use Rattle.std.proofs.Common.{◌≡◌, drop}
use Rattle.std.specs.Prelude.{find}
use Rattle.aig_model.specs.Lines.{is_above_zero}
use Rattle.aig_reader.proofs.header.first_above_zero.Given as goal

-- the words that are left decide
abbrev pub invariant-loop-word : goal.invariant-loop-word
invariant-loop-word l = find is_above_zero (drop l.word-index l.words) ≡ find is_above_zero l.words
