use Rattle.std.proofs.Common.{◌≡◌, ◌+◌, ℕ, All, length}
use Rattle.ste_base.specs.Functions.{Function}
use Rattle.dd_nodes.specs.Spending.{Spends}
use Rattle.dd_nodes.specs.Stores.{IsRef, Keeps}
use Rattle.exact_model.specs.Choices.{cells_at}
use Rattle.exact_model.specs.ExactWork.{bit_functions}
use Rattle.exact_engine.specs.private.Counts.{first_test, open_test}
use Rattle.exact_engine.specs.private.Sources.{IsFirstTime}
use Rattle.exact_engine.proofs.Starts.{AreFirst}
use Rattle.exact_engine.proofs.sources.first_sources.Given as goal

-- the first nets have their bits
abbrev pub invariant-loop-id : goal.invariant-loop-id
invariant-loop-id g l = record {
  long : length l.bits.items ≡ l.id;
  refs : All (IsRef (g.N.Nodes.store l.nodes)) l.bits.items;
  keeps : Keeps (g.N.Nodes.store l.fn.nodes) (g.N.Nodes.store l.nodes);
  first : l.first ≡ l.fn.first + length (cells_at (first_test l.net.raw l.reset) 0 l.id);
  choice : l.choice ≡ l.fn.choice + length (cells_at (open_test l.net.raw) 0 l.id);
  so : (bit : ℕ → Function) → IsFirstTime (g.N.Nodes.store l.fn.nodes).vars l.net.raw l.reset l.fn.first l.fn.choice bit →
      Spends (bit_functions bit l.net.raw.nets) (g.N.Nodes.store l.fn.nodes) (g.N.Nodes.store l.nodes) ⊥;
  sources : (bit : ℕ → Function) → IsFirstTime (g.N.Nodes.store l.fn.nodes).vars l.net.raw l.reset l.fn.first l.fn.choice bit →
      AreFirst (g.N.Nodes.store l.nodes) l.net.raw bit l.id l.bits.items;
}
