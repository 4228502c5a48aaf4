use Rattle.std.proofs.Common.{◌≡◌}
use Rattle.dd_ops.specs.private.Tables.{IsAt}
use Rattle.dd_ops.proofs.hashed_memo.place.Given as goal

abbrev pub invariant-loop-n : goal.invariant-loop-n
invariant-loop-n l = record {
  same : l.entries ≡ l.initial.entries;
  here : IsAt l.initial.entries l.entry.operands l.n l.at;
}
