use Rattle.std.proofs.Common.{◌≡◌, ◌++◌, drop}
use Rattle.std.specs.Prelude.{flat_map, zip}
use Rattle.report_text.specs.Text.{bit_part}
use Rattle.report_text.proofs.failure.put_bits.Given as goal

-- with the bits that are left the text is whole
abbrev pub invariant-loop-place : goal.invariant-loop-place
invariant-loop-place l = l.text.items ++ flat_map bit_part (zip (drop l.place l.vars) (drop l.place l.bits)) ≡ l.fn.text.items ++ flat_map bit_part (zip l.vars l.bits)
