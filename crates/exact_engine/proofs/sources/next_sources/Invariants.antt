use Rattle.std.proofs.Common.{◌≡◌, ◌+◌, ℕ, All, length}
use Rattle.ste_base.specs.Functions.{Function}
use Rattle.dd_nodes.specs.Spending.{Spends}
use Rattle.dd_nodes.specs.Stores.{IsRef, Keeps}
use Rattle.exact_model.specs.Choices.{cells_at}
use Rattle.exact_model.specs.ExactWork.{bit_functions}
use Rattle.exact_engine.specs.private.Bits.{AreBits}
use Rattle.exact_engine.specs.private.Counts.{open_test}
use Rattle.exact_engine.specs.private.Sources.{IsNextTime}
use Rattle.exact_engine.proofs.Starts.{AreFirst}
use Rattle.exact_engine.proofs.sources.next_sources.Given as goal

-- the first nets have their bits
abbrev pub invariant-loop-id : goal.invariant-loop-id
invariant-loop-id g l = record {
  long : length l.bits.items ≡ l.id;
  refs : All (IsRef (g.N.Nodes.store l.nodes)) l.bits.items;
  keeps : Keeps (g.N.Nodes.store l.fn.nodes) (g.N.Nodes.store l.nodes);
  choice : l.choice ≡ l.fn.choice + length (cells_at (open_test l.net.raw) 0 l.id);
  so : (before bit : ℕ → Function) → AreBits (g.N.Nodes.store l.fn.nodes) l.net.raw.nets before l.last → IsNextTime (g.N.Nodes.store l.fn.nodes).vars l.net.raw l.fn.choice before bit →
      Spends (bit_functions bit l.net.raw.nets) (g.N.Nodes.store l.fn.nodes) (g.N.Nodes.store l.nodes) ⊥;
  sources : (before bit : ℕ → Function) → AreBits (g.N.Nodes.store l.fn.nodes) l.net.raw.nets before l.last → IsNextTime (g.N.Nodes.store l.fn.nodes).vars l.net.raw l.fn.choice before bit →
      AreFirst (g.N.Nodes.store l.nodes) l.net.raw bit l.id l.bits.items;
}
