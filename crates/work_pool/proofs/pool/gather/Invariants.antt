use Rattle.std.proofs.Common.{◌≡◌, ℕ, List, All, length}
use Rattle.std.specs.List.{AllZip}
use Rattle.std.specs.Vec.Iter.{into_iter_items, into_iter_len}
use Rattle.net_core.specs.declared.raw.RawNet.{RawNet}
use Rattle.ste_model.specs.declared.task.Task.{Task}
use Rattle.work_pool.specs.declared.mode.Mode.{Mode}
use Rattle.work_pool.specs.private.Jobs.{IsDone, IsGathering}
use Rattle.work_pool.proofs.pool.gather.Given as goal

abbrev pub invariant-loop-job : goal.invariant-loop-job
invariant-loop-job g l = record {
  can_next : (goal.iterator-loop-job g).can_next l.job-iterator;
  is_finite : (goal.iterator-loop-job g).is_finite l.job-iterator;
  long : into_iter_len l.job-iterator ≡ length (into_iter_items l.job-iterator);
  tables : All (λ j. (g.N.Nodes.store j.nodes).table ≡ (g.N.Nodes.store l.fn.nodes).table) (into_iter_items l.job-iterator);
  vars : (g.N.Nodes.store l.nodes).vars ≡ (g.N.Nodes.store l.fn.nodes).vars;
  table : (g.N.Nodes.store l.nodes).table ≡ (g.N.Nodes.store l.fn.nodes).table;
  gathering : (mode : Mode) (net : RawNet) (vars steps cubes : ℕ) (tasks : List Task) →
      AllZip (λ task job. IsDone mode net vars steps cubes task (g.N.Nodes.store l.fn.nodes) (g.N.Nodes.store job.nodes) job.outcome) tasks l.fn.jobs.items →
      IsGathering _ (λ task job. IsDone mode net vars steps cubes task (g.N.Nodes.store l.fn.nodes) (g.N.Nodes.store job.nodes) job.outcome) mode net vars steps cubes (g.N.Nodes.store l.fn.nodes) (g.N.Nodes.store l.nodes) tasks l.reports.items (into_iter_items l.job-iterator);
}
