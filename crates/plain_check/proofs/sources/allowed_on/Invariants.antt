use Rattle.std.proofs.Common.{◌≡◌, length, take}
use Rattle.ste_model.specs.Edges.{bind_cuts}
use Rattle.plain_check.specs.private.Sets.{Allows}
use Rattle.plain_check.proofs.sources.allowed_on.Given as goal

-- the bindings so far were heeded
abbrev pub invariant-loop-bind : goal.invariant-loop-bind
invariant-loop-bind l = record {
  long : length l.allowed.items ≡ l.nets;
  allows : Allows (bind_cuts (take l.bind-index l.binds) l.bits) l.allowed.items;
}
