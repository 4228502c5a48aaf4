use Rattle.std.proofs.Common.{◌≡◌, ◌++◌, drop, map}
use Rattle.std.specs.Prelude.{filter_map}
use Rattle.hierarchy.specs.Lines.{gate_lines, gate_of}
use Rattle.flat_net.proofs.covers.add_covers.Given as goal

abbrev pub invariant-loop-item : goal.invariant-loop-item
invariant-loop-item l = l.covers ++ map (λ line. line.cover) (filter_map (λ item. gate_of item.what) (drop l.item-index l.item-items)) ≡ l.fn.covers ++ map (λ line. line.cover) (gate_lines l.model)
