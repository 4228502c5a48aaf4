use Rattle.std.proofs.Common.{◌≡◌, drop, take, map, Some}
use Rattle.clock_step.specs.Faults.{rows_fault}
use Rattle.clock_step.specs.Forms.{row_of}
use Rattle.clock_step.proofs.rows.read_rows.Given as goal

-- the lines that are left decide, and those before are rows
abbrev pub invariant-loop-before : goal.invariant-loop-before
invariant-loop-before l = record {
  fault : rows_fault l.width l.nets l.before (drop l.before l.lines) ≡ rows_fault l.width l.nets 0 l.lines;
  rows : map Some l.rows ≡ map (λ line. row_of l.width line.words) (take l.before l.lines);
}
