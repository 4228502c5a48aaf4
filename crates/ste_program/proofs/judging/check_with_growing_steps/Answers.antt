use Rattle.std.proofs.Common.{◌≡◌, ◌∙◌, ◌≤◌, ℕ, true, false, List, length, ap, arith, subst, sym}
use Rattle.std.specs.List.{AllZip}
use Rattle.std.proofs.lemmas.Slice.Zip.{AllZip-long}
use Rattle.work_pool.specs.declared.mode.Mode.TheVariants.{Sets}
use Rattle.work_pool.specs.Told.{IsToldOf}
use Rattle.ste_program.specs.private.Tries.{budget_numbers}
use Rattle.ste_program.proofs.FewSteps.{all_told, shared_told, some_budget}
use Rattle.ste_program.proofs.Replaced.{budgets_some, few_tasks}
use Rattle.ste_program.proofs.judging.check_with_growing_steps.Goals as goal

pub returns-then-not-some_budget-clause-told : goal.returns-then-not-some_budget-clause-told
returns-then-not-some_budget-clause-told g c =
    let tasks = c.args.checking.now.tasks.now.tasks in
    let reports = c.loop-tried.told.reports.items in
    let i = c.loop-tried.invariant in
    let none : some_budget reports ≡ false = ap some_budget (sym c.deref.ensures.value) ∙ (sym c.some_budget.ensures ∙ c.if-not-some_budget.true) in
    all_told c.args.checking.now.net.now.raw (length c.args.checking.now.tasks.now.vars) c.loop-tried.tried c.args.steps c.args.checking.now.cubes tasks reports none i.told

pub returns-then-not-some_budget-clause-counted : goal.returns-then-not-some_budget-clause-counted
returns-then-not-some_budget-clause-counted g c =
    let tasks = c.args.checking.now.tasks.now.tasks in
    let reports = c.loop-tried.told.reports.items in
    let i = c.loop-tried.invariant in
    let none : some_budget reports ≡ false = ap some_budget (sym c.deref.ensures.value) ∙ (sym c.some_budget.ensures ∙ c.if-not-some_budget.true) in
    shared_told c.args.checking.now.net.now.raw (length c.args.checking.now.tasks.now.vars) c.loop-tried.tried c.args.steps tasks reports c.loop-tried.told.shared i.most none i.counted

pub budget_numbers-requires : goal.budget_numbers-requires
budget_numbers-requires g c =
    let tasks = c.args.checking.now.tasks.now.tasks in
    let reports = c.loop-tried.told.reports.items in
    let i = c.loop-tried.invariant in
    let long = AllZip-long (IsToldOf Sets c.args.checking.now.net.now.raw (length c.args.checking.now.tasks.now.vars) c.loop-tried.tried c.args.checking.now.cubes) tasks reports i.told in
    let few = few_tasks (length tasks) c.args.steps c.requires.steps.0 c.requires.steps.1 in
    let same = ap length c.deref-in-loop-tried.ensures.value in omega (arith, same, long, few)

pub recheck-requires-clause-long : goal.recheck-requires-clause-long
recheck-requires-clause-long g c κs within =
    let tasks = c.args.checking.now.tasks.now.tasks in
    let reports = c.loop-tried.told.reports.items in
    let i = c.loop-tried.invariant in
    AllZip-long (IsToldOf Sets c.args.checking.now.net.now.raw (length c.args.checking.now.tasks.now.vars) c.loop-tried.tried c.args.checking.now.cubes) tasks reports i.told

pub recheck-requires-clause-some : goal.recheck-requires-clause-some
recheck-requires-clause-some g c κs within =
    let tasks = c.args.checking.now.tasks.now.tasks in
    let reports = c.loop-tried.told.reports.items in
    let i = c.loop-tried.invariant in
    let some : some_budget reports ≡ true = ap some_budget (sym c.deref.ensures.value) ∙ (sym c.some_budget.ensures ∙ c.if-not-some_budget.false) in
    let is = c.deref-in-loop-tried-2.ensures.value ∙ (c.in_ok-numbers.ensures ∙ ap budget_numbers c.deref-in-loop-tried.ensures.value) in
    subst (λ (numbers : List ℕ). 1 ≤ length numbers) (sym is) (budgets_some reports some)

pub loop-tried-preserved : goal.loop-tried-preserved
loop-tried-preserved g c =
    let more = c.next_steps-tried.ensures.more c.loop-tried-test.true in
    record {
      some = let first = more.0 in omega (arith, first);
      most = more.1;
      told = c.in_ok-told-2.ensures.told c.loop-tried.tried c.loop-tried.invariant.told;
      shown = c.in_ok-told-2.ensures.shown;
      counted = c.in_ok-told-2.ensures.counted;
    }

pub returns-clause-told : goal.returns-clause-told
returns-clause-told g c =
    let tasks = c.args.checking.now.tasks.now.tasks in
    let reports = c.loop-tried.told.reports.items in
    let i = c.loop-tried.invariant in
    let most = i.most in
    let all = c.loop-tried-test.false in
    let same : c.loop-tried.tried ≡ c.args.steps = omega (arith, most, all) in
    subst (λ (steps : ℕ). AllZip (IsToldOf Sets c.args.checking.now.net.now.raw (length c.args.checking.now.tasks.now.vars) steps c.args.checking.now.cubes) tasks reports) same i.told
