use Rattle.std.proofs.Common.{◌≡◌, ◌≤◌, ◌+◌, ◌++◌, drop, length}
use Rattle.std.specs.Prelude.{filter_map}
use Rattle.hierarchy.specs.Lines.{gate_of}
use Rattle.flat_net.specs.private.Passes.{gates_from, gates_in}
use Rattle.flat_net.proofs.gates.add_gates.Given as goal

abbrev pub invariant-loop-item : goal.invariant-loop-item
invariant-loop-item l = record {
  gates : l.gates ++ gates_from l.instance l.cover (filter_map (λ item. gate_of item.what) (drop l.item-index l.item-items)) ≡ l.fn.gates ++ gates_in l.instance;
  few : l.cover + length (filter_map (λ item. gate_of item.what) (drop l.item-index l.item-items)) ≤ 4294967295;
}
