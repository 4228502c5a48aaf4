use Rattle.std.proofs.Common.{ℕ, length, subst, sym}
use Rattle.std.specs.Prelude.{IfSome, Option}
use Rattle.work_pool.proofs.Shared.{shared_of}
use Rattle.work_pool.specs.declared.mode.Mode.TheVariants.{Sets}
use Rattle.work_pool.specs.Told.{IsSharedCount}
use Rattle.ste_program.proofs.TaskLists.{over_all}
use Rattle.ste_program.proofs.judging.check_once.Goals as goal
use Rattle.ste_program.proofs.judging.check_once.Goals.{then-checking, else-checking}

pub run_tasks-requires-clause-over : goal.run_tasks-requires-clause-over
run_tasks-requires-clause-over g c κs within = over_all c.args.checking.now.net.now.raw (length c.args.checking.now.tasks.now.vars) c.args.checking.now.tasks.now.tasks c.args.checking.now.checkable

pub returns-clause-told : goal.returns-clause-told
returns-clause-told g c = c.in_ok-answer.ensures.answer.told

pub returns-clause-counted : goal.returns-clause-counted
returns-clause-counted g c = elim c.if-checking.branch [
  | then-checking w ↦
      let answer = c.in_ok-answer.answer in
      let counted = shared_of Sets c.args.checking.now.net.now.raw (length c.args.checking.now.tasks.now.vars) (length c.args.checking.now.tasks.now.vars) c.args.steps c.args.checking.now.cubes c.args.checking.now.tasks.now.tasks answer.reports.items answer.session w.close.result
      c.in_ok-answer.ensures.answer c.in_ok-answer.ensures.vars c.in_ok-answer.ensures.slots w.close.ensures.half w.close.ensures.used w.close.ensures.nodes in
      subst (λ (o : Option ℕ). IfSome o (IsSharedCount Sets c.args.checking.now.net.now.raw (length c.args.checking.now.tasks.now.vars) (length c.args.checking.now.tasks.now.vars) c.args.steps c.args.checking.now.tasks.now.tasks answer.reports.items)) (sym w.shared-is) counted
  | else-checking w ↦
      subst (λ (o : Option ℕ). IfSome o (IsSharedCount Sets c.args.checking.now.net.now.raw (length c.args.checking.now.tasks.now.vars) (length c.args.checking.now.tasks.now.vars) c.args.steps c.args.checking.now.tasks.now.tasks c.in_ok-answer.answer.reports.items)) (sym w.shared-is) tt
]
