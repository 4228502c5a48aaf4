use Rattle.std.proofs.Common.{◌≡◌, ◌≤◌, length}
use Rattle.exact_model.specs.Choices.{cells_at}
use Rattle.exact_engine.specs.private.Counts.{first_test}
use Rattle.exact_engine.proofs.counting.first_count.Given as goal

-- so many of the nets so far
abbrev pub invariant-loop-id : goal.invariant-loop-id
invariant-loop-id l = (l.count ≡ length (cells_at (first_test l.net.raw l.reset) 0 l.id)) × (l.count ≤ l.id)
