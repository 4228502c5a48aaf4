use Rattle.std.proofs.Common.{◌≡◌, ◌<◌, ℕ, Bool, List, length, get_or}
use Rattle.plain_check.specs.private.Choices.{lists_of}
use Rattle.plain_check.proofs.checker.all_choices.Given as goal

-- the lists so far stand at their own widths
abbrev pub invariant-loop-width : goal.invariant-loop-width
invariant-loop-width l = record {
  long : length l.choices.items ≡ l.width;
  each : (k : ℕ) (d : List (List Bool)) → k < length l.choices.items → get_or l.choices.items k d ≡ lists_of k;
}
