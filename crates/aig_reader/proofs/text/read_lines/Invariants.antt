use Rattle.std.proofs.Common.{◌≡◌, ◌+◌, ◌≤◌, length}
use Rattle.blif_lines.specs.Lines.{is_line_feed, pieces}
use Rattle.aig_reader.proofs.Reading.{Decide}
use Rattle.aig_reader.proofs.text.read_lines.Given as goal

-- the lines that are left decide
abbrev pub invariant-loop-rest : goal.invariant-loop-rest
invariant-loop-rest l = Decide l.head l.aig l.defined.keys l.count (pieces is_line_feed l.rest)
    (pieces is_line_feed l.text) × (l.count + length l.rest ≤ length l.text)

abbrev pub decreases-loop-rest : goal.decreases-loop-rest
decreases-loop-rest l = length l.rest
