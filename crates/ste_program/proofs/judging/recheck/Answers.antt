use Rattle.std.proofs.Common.{◌∙◌, ◌<◌, ◌≤◌, ◌*◌, ℕ, List, All, length, ap, subst, sym}
use Rattle.std.specs.List.{AllZip}
use Rattle.std.proofs.lemmas.Slice.Zip.{AllZip-long}
use Rattle.work_pool.specs.declared.mode.Mode.TheVariants.{Sets}
use Rattle.work_pool.specs.Pool.{IsToldOfNumber}
use Rattle.work_pool.specs.Told.{IsToldOf}
use Rattle.ste_program.specs.private.Tries.{with_replaced}
use Rattle.ste_program.proofs.TaskLists.{over_all}
use Rattle.ste_program.proofs.Replaced.{rechecked_reports, budgets_inside, budgets_steps}
use Rattle.ste_program.proofs.judging.recheck.Goals as goal

pub run_some-requires-clause-numbers : goal.run_some-requires-clause-numbers
run_some-requires-clause-numbers g c κs within =
    subst (λ (n : ℕ). All (λ number. number < n) c.args.numbers.now) c.requires.long
    (subst (λ (numbers : List ℕ). All (λ number. number < length c.args.told.reports.items) numbers) (sym c.requires.numbers) (budgets_inside c.args.told.reports.items))

pub run_some-requires-clause-steps : goal.run_some-requires-clause-steps
run_some-requires-clause-steps g c κs within = (
  c.requires.steps.0,
  subst (λ (numbers : List ℕ). length numbers * c.args.steps ≤ 16000000) (sym c.requires.numbers)
      (budgets_steps c.args.told.reports.items (length c.args.checking.now.tasks.now.tasks) c.args.steps 16000000 c.requires.long c.requires.steps.1),
)

pub run_some-requires-clause-over : goal.run_some-requires-clause-over
run_some-requires-clause-over g c κs within = over_all c.args.checking.now.net.now.raw (length c.args.checking.now.tasks.now.vars) c.args.checking.now.tasks.now.tasks c.args.checking.now.checkable

pub with_replaced-requires-clause-long : goal.with_replaced-requires-clause-long
with_replaced-requires-clause-long g c =
    AllZip-long (IsToldOfNumber Sets c.args.checking.now.net.now.raw (length c.args.checking.now.tasks.now.vars) c.args.steps c.args.checking.now.cubes c.args.checking.now.tasks.now.tasks) c.args.numbers.now c.in_ok-again.again.reports.items c.in_ok-again.ensures.told

pub with_replaced-requires-clause-inside : goal.with_replaced-requires-clause-inside
with_replaced-requires-clause-inside g c =
    subst (λ (numbers : List ℕ). All (λ number. number < length c.args.told.reports.items) numbers) (sym c.requires.numbers) (budgets_inside c.args.told.reports.items)

pub returns-clause-told : goal.returns-clause-told
returns-clause-told g c = λ few told.
    let net = c.args.checking.now.net.now.raw in
    let vars = length c.args.checking.now.tasks.now.vars in
    let tasks = c.args.checking.now.tasks.now.tasks in
    let reports = c.args.told.reports.items in
    let again = c.in_ok-again.again.reports.items in
    subst (AllZip (IsToldOf Sets net vars c.args.steps c.args.checking.now.cubes) tasks) (sym (c.with_replaced.ensures ∙ ap (λ (numbers : List ℕ). with_replaced reports numbers again) c.requires.numbers))
    (rechecked_reports net vars c.args.steps c.args.checking.now.cubes tasks few reports again told
    (subst (λ (numbers : List ℕ). AllZip (IsToldOfNumber Sets net vars c.args.steps c.args.checking.now.cubes tasks) numbers again) c.requires.numbers c.in_ok-again.ensures.told))
