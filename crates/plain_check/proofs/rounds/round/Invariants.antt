use Rattle.std.proofs.Common.{take}
use Rattle.ste_model.specs.GraphTable.{IsNext}
use Rattle.plain_check.specs.States.{AreStates, states_of, with_edges}
use Rattle.plain_check.proofs.rounds.round.Given as goal

-- the table of the next round of the graph with the edges so far
abbrev pub invariant-loop-edge : goal.invariant-loop-edge
invariant-loop-edge l = record {
  states : AreStates l.net.raw l.graph l.next.items;
  next : IsNext l.net.raw (with_edges l.graph (take l.edge-index l.edge-items)) l.bits (states_of l.net.raw l.table) (states_of l.net.raw l.next.items);
}
