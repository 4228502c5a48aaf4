use Rattle.dd_ops.specs.private.Tables.{Differ, IsAt}
use Rattle.dd_ops.proofs.hashed_memo.HashedMemo.find.Given as goal

abbrev pub invariant-loop-n : goal.invariant-loop-n
invariant-loop-n l = record {
  here : IsAt l.entries l.x l.n l.at;
  differ : Differ l.entries l.x l.n;
}
