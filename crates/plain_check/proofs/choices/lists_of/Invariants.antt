use Rattle.std.proofs.Common.{◌≡◌}
use Rattle.plain_check.specs.private.Choices.{lists_of}
use Rattle.plain_check.proofs.choices.lists_of.Given as goal

abbrev pub invariant-loop : goal.invariant-loop
invariant-loop l = l.lists.items ≡ lists_of l.counter
