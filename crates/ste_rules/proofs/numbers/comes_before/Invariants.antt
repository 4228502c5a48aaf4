use Rattle.std.proofs.Common.{◌≡◌, ℕ, drop, length, true}
use Rattle.std.specs.List.{list_all}
use Rattle.ste_base.specs.Bytes.{is_digit}
use Rattle.ste_base.specs.Number.{number_from, number_of}
use Rattle.ste_rules.proofs.numbers.comes_before.Given as goal

-- the digits so far are the same, and those that are left decide
abbrev pub invariant-loop-digit : goal.invariant-loop-digit
invariant-loop-digit l = (m : ℕ)
    × (number_from m (drop l.digit-index l.one) ≡ number_of l.one) × (number_from m l.left ≡ number_of l.other)
    × (length (drop l.digit-index l.one) ≡ length l.left)
    × (list_all is_digit (drop l.digit-index l.one) ≡ true) × (list_all is_digit l.left ≡ true)
