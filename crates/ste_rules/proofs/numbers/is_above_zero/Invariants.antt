use Rattle.std.proofs.Common.{◌≡◌, drop, true}
use Rattle.std.specs.List.{list_all}
use Rattle.ste_base.specs.Bytes.{is_digit}
use Rattle.ste_base.specs.Number.{number_of}
use Rattle.ste_rules.proofs.numbers.is_above_zero.Given as goal

-- the digits that are left say the number, and are digits
abbrev pub invariant-loop-digit : goal.invariant-loop-digit
invariant-loop-digit l =
    (number_of (drop l.digit-index l.digits) ≡ number_of l.digits) × (list_all is_digit (drop l.digit-index l.digits) ≡ true)
