use Rattle.std.proofs.Common.{◌≡◌, ◌<◌, ◌≤◌, ℕ, get_or, length}
use Rattle.std.specs.Prelude.{IfSome}
use Rattle.ste_model.specs.declared.task.Task.{Task}
use Rattle.sym_step.specs.Frame.{IsFrame}
use Rattle.work_pool.specs.private.Jobs.{IsDone, IsLike}
use Rattle.work_pool.proofs.pool.work_portion.Given as goal

-- the jobs before the i-th are done, and the others have stores like the first ones; the last frame is one in the store of the i-th
abbrev pub invariant-loop-i : goal.invariant-loop-i
invariant-loop-i g l = record {
  long : length l.jobs ≡ length l.initial.jobs;
  same : (k : ℕ) (j : _) → k < length l.initial.jobs → (get_or l.jobs k j).place ≡ (get_or l.initial.jobs k j).place;
  done : (k : ℕ) (task : Task) (j : _) → k < l.i → k < length l.initial.jobs → IsDone l.batch.mode l.batch.net.now.raw l.batch.vars (g.N.Nodes.store (get_or l.initial.jobs k j).nodes).limit l.batch.cubes (get_or l.batch.tasks.now (get_or l.numbers (get_or l.initial.jobs k j).place 0) task)
      (g.N.Nodes.store (get_or l.initial.jobs k j).nodes) (g.N.Nodes.store (get_or l.jobs k j).nodes) (get_or l.jobs k j).outcome;
  frame : (j : _) → l.i < length l.initial.jobs → IfSome l.last (IsFrame (g.N.Nodes.store (get_or l.jobs l.i j).nodes) l.batch.net.now.raw);
  rest : (k : ℕ) (j : _) → l.i ≤ k → k < length l.initial.jobs → IsLike (g.N.Nodes.store (get_or l.initial.jobs k j).nodes) (g.N.Nodes.store (get_or l.jobs k j).nodes);
}
