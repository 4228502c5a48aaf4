use Rattle.std.proofs.Common.{◌≡◌, true, map, length}
use Rattle.std.specs.List.{list_all}
use Rattle.ste_base.specs.Number.{number_of}
use Rattle.assert_syntax.specs.Words.{is_number}
use Rattle.ste_rules.specs.Forms.{are_rising}
use Rattle.ste_rules.proofs.forms.are_rising.Given as goal

-- the words that are left decide, and are numbers
abbrev pub invariant-loop-left : goal.invariant-loop-left
invariant-loop-left l =
    (are_rising (map number_of l.left) ≡ are_rising (map number_of l.words)) × (list_all is_number l.left ≡ true)

abbrev pub decreases-loop-left : goal.decreases-loop-left
decreases-loop-left l = length l.left
