use Rattle.std.proofs.Common.{◌≡◌, ℕ, ◌<◌, ◌≤◌, false, get_or, length}
use Rattle.exact_model.specs.Choices.{cells_at}
use Rattle.exact_engine.specs.private.Counts.{first_test}
use Rattle.exact_engine.proofs.running.net_choices.Given as goal

-- the first nets have their bits, and so many of them begin with a choice
abbrev pub invariant-loop-id : goal.invariant-loop-id
invariant-loop-id l = record {
  long : length l.firsts.items ≡ l.id;
  count : l.choice ≡ length (cells_at (first_test l.net.raw l.reset) 0 l.id);
  below : l.choice ≤ l.id;
  bits : (id : ℕ) → id < l.id → get_or l.firsts.items id false ≡ get_or l.bits (length (cells_at (first_test l.net.raw l.reset) 0 id)) false;
}
