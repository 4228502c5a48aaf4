use Rattle.std.proofs.Common.{◌≤◌, ◌+◌, length}
use Rattle.std.specs.Io.KnownBytes.{Consumes}
use Rattle.ste_io.proofs.steps.read_by_pieces.Given as goal

-- what was taken so far is what was read
abbrev pub invariant-loop : goal.invariant-loop
invariant-loop g l = record {
  few : length l.bytes.items ≤ l.max + 1;
  taken : Consumes (g.R.Read.remaining l.fn.reader) (g.R.Read.remaining l.reader) l.bytes.items;
}
