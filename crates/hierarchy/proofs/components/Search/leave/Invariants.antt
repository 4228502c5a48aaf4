use Rattle.std.proofs.Common.{◌≡◌, length}
use Rattle.hierarchy.proofs.components.Search.leave.Given as goal

abbrev pub invariant-loop : goal.invariant-loop
invariant-loop l = length l.self.ranks.items ≡ length l.fn.self.ranks.items
