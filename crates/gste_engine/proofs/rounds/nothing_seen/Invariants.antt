use Rattle.std.proofs.Common.{◌≡◌, length}
use Rattle.gste_engine.proofs.rounds.nothing_seen.Given as goal

-- so many edges have not been seen
abbrev pub invariant-loop : goal.invariant-loop
invariant-loop l = length l.seen.items ≡ l.counter
