use Rattle.std.proofs.Common.{◌≡◌, ◌≤◌, ◌-◌, length}
use Rattle.std.specs.Prelude.{IfSome, is_some}
use Rattle.std.specs.List.{AllZip}
use Rattle.work_pool.specs.declared.mode.Mode.TheVariants.{Sets}
use Rattle.work_pool.specs.Told.{IsSharedCount, IsToldOf}
use Rattle.ste_program.proofs.judging.check_with_growing_steps.Given as goal

-- the reports so far are those with the steps that were tried
abbrev pub invariant-loop-tried : goal.invariant-loop-tried
invariant-loop-tried g l = record {
  some : 1 ≤ l.tried;
  most : l.tried ≤ l.steps;
  told : AllZip (IsToldOf Sets l.checking.net.now.raw (length l.checking.tasks.now.vars) l.tried l.checking.cubes) l.checking.tasks.now.tasks l.told.reports.items;
  shown : is_some l.told.shared ≡ l.checking.nodes;
  counted : IfSome l.told.shared (IsSharedCount Sets l.checking.net.now.raw (length l.checking.tasks.now.vars) (length l.checking.tasks.now.vars) l.tried l.checking.tasks.now.tasks l.told.reports.items);
}

abbrev pub decreases-loop-tried : goal.decreases-loop-tried
decreases-loop-tried g l = l.steps - l.tried
