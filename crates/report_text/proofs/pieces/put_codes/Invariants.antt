use Rattle.std.proofs.Common.{◌≡◌, ◌++◌, map, take}
use Rattle.report_text.specs.Text.{bit_code}
use Rattle.report_text.proofs.pieces.put_codes.Given as goal

-- the bits so far are put
abbrev pub invariant-loop-bit : goal.invariant-loop-bit
invariant-loop-bit l = l.text.items ≡ l.fn.text.items ++ map bit_code (take l.bit-index l.bits)
