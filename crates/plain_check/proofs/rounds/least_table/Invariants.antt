use Rattle.std.proofs.Common.{◌+◌, ◌*◌, length}
use Rattle.plain_check.specs.States.{AreStates, states_of}
use Rattle.plain_check.proofs.LastRound.{IsRound}
use Rattle.plain_check.proofs.rounds.least_table.Given as goal

-- the table is that of so many rounds
abbrev pub invariant-loop-2 : goal.invariant-loop-2
invariant-loop-2 l = record {
  states : AreStates l.net.raw l.graph l.table.items;
  rounds : IsRound l.net.raw l.graph l.bits (l.counter-2 * (length l.net.raw.latches * 2 + 1) + l.counter + 1) (states_of l.net.raw l.table.items);
}

abbrev pub invariant-loop : goal.invariant-loop
invariant-loop l = record {
  states : AreStates l.net.raw l.graph l.table.items;
  rounds : IsRound l.net.raw l.graph l.bits (l.counter * (length l.net.raw.latches * 2 + 1) + 1) (states_of l.net.raw l.table.items);
}
