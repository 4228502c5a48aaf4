use Rattle.std.proofs.Common.{◌≡◌, ◌*◌, ◌<◌, ℕ, get_or, length, All}
use Rattle.dd_nodes.specs.Stores.{gives_up}
use Rattle.work_pool.specs.private.Jobs.{IsReady}
use Rattle.work_pool.proofs.pool.deal.Given as goal

abbrev pub invariant-loop-i : goal.invariant-loop-i
invariant-loop-i g l = record {
  left : g.N.Nodes.store l.nodes ≡ gives_up (l.i * l.steps) (g.N.Nodes.store l.initial.nodes);
  long : length l.jobs.items ≡ l.i;
  places : (i : ℕ) (j : _) → i < l.i → (get_or l.jobs.items i j).place ≡ i;
  ready : All (λ j. IsReady l.steps (g.N.Nodes.store l.initial.nodes) (g.N.Nodes.store j.nodes)) l.jobs.items;
}
