use Rattle.std.proofs.Common.{take}
use Rattle.std.specs.List.{AllZip}
use Rattle.plain_check.specs.private.Outcome.{IsOutcome}
use Rattle.plain_check.proofs.checker.outcomes.Given as goal

-- the assignments so far have their outcomes
abbrev pub invariant-loop-bits : goal.invariant-loop-bits
invariant-loop-bits l = AllZip (IsOutcome l.net.raw l.task) (take l.bits-index l.bits-items) l.outcomes.items
