use Rattle.std.proofs.Common.{◌≡◌, ◌++◌, take}
use Rattle.std.specs.Prelude.{flat_map}
use Rattle.report_text.specs.Text.{edge_part}
use Rattle.report_text.proofs.failure.put_edges.Given as goal

-- the edges so far are put
abbrev pub invariant-loop-edge : goal.invariant-loop-edge
invariant-loop-edge l = l.text.items ≡ l.fn.text.items ++ flat_map edge_part (take l.edge-index l.edges)
