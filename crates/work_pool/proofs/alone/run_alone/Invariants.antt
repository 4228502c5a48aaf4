use Rattle.std.proofs.Common.{◌≡◌, ◌≤◌, ◌*◌, length, take}
use Rattle.std.specs.Prelude.{IfSome}
use Rattle.std.specs.List.{AllZip}
use Rattle.dd_growing.specs.Growing.{grown_store}
use Rattle.sym_step.specs.Frame.{IsFrame}
use Rattle.work_pool.specs.Pool.{AreMadeWithin}
use Rattle.work_pool.specs.Told.{IsToldOf}
use Rattle.work_pool.proofs.alone.run_alone.Given as goal

-- what is reported and made so far, and a frame of the store where there is one
abbrev pub invariant-loop-number : goal.invariant-loop-number
invariant-loop-number g l = record {
  vars : l.nodes.vars ≡ l.batch.width;
  frame : IfSome l.last (IsFrame (grown_store l.nodes.nodes.items l.nodes.base l.nodes.limit l.nodes.vars) l.net.raw);
  made : AreMadeWithin l.steps l.reports.items l.made;
  small : l.made ≤ l.number * 4294967296;
  told : AllZip (IsToldOf l.fn.mode l.net.raw (length l.tasks.vars) l.steps l.cubes) (take l.number l.tasks.tasks) l.reports.items;
}
