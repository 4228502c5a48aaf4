use Rattle.std.proofs.Common.{◌≡◌, length}
use Rattle.std.specs.Prelude.{All}
use Rattle.plain_check.specs.States.{unreached}
use Rattle.plain_check.proofs.rounds.starts.Given as goal

-- no vertex so far is reached
abbrev pub invariant-loop : goal.invariant-loop
invariant-loop l = record {
  long : length l.states.items ≡ l.counter;
  none : All (λ state. state ≡ unreached l.net.raw) l.states.items;
}
