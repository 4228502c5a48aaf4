use Rattle.std.proofs.Common.{◌≡◌, ◌≤◌, length, take}
use Rattle.std.specs.Prelude.{All, flat_map}
use Rattle.std.specs.List.{AllZip}
use Rattle.flat_net.specs.private.Passes.{AreSeen, IsFirstCover, IsNarrow, lines_at}
use Rattle.flat_net.proofs.covers.all_covers.Given as goal

abbrev pub invariant-loop-row : goal.invariant-loop-row
invariant-loop-row l = record {
  long : length l.seen.items ≡ length l.models;
  seen : AreSeen l.models l.covers l.seen.items;
  firsts : AllZip (IsFirstCover l.models l.covers) l.firsts.items (take l.row-index l.rows);
  narrow : All IsNarrow l.covers;
  few : length l.covers ≤ length (flat_map (lines_at l.models) (take l.row-index l.rows));
}
