use Rattle.std.proofs.Common.{◌≡◌, length, take}
use Rattle.ste_model.specs.Asked.{cuts_at}
use Rattle.plain_check.specs.private.Sets.{Allows}
use Rattle.plain_check.proofs.sources.allowed_at.Given as goal

-- the quintuples so far were heeded
abbrev pub invariant-loop-quint : goal.invariant-loop-quint
invariant-loop-quint l = record {
  long : length l.allowed.items ≡ l.nets;
  allows : Allows (cuts_at (take l.quint-index l.quints) l.bits l.t) l.allowed.items;
}
