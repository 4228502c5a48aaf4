use Rattle.std.proofs.Common.{◌≡◌, ◌∙◌, ◌<◌, ◌≤◌, ◌*◌, ℕ, List, All, IfOk, length, ap, subst, sym}
use Rattle.std.specs.List.{range_with_len}
use Rattle.std.proofs.lemmas.List.FromFn.{length-range_with_len}
use Rattle.dd_table.specs.Sessions.{store_of}
use Rattle.ste_model.specs.declared.task.Task.{Task}
use Rattle.work_pool.specs.Pool.{IsPooled}
use Rattle.work_pool.specs.private.Jobs.{tasks_at}
use Rattle.work_pool.proofs.Gathering.{first_of}
use Rattle.work_pool.proofs.Numbers.{all_inside, all_numbers}
use Rattle.work_pool.proofs.run.run_all.Goals as goal

pub run_numbers-requires-clause-numbers : goal.run_numbers-requires-clause-numbers
run_numbers-requires-clause-numbers g c κs within =
    let all = c.as_slice.ensures.value ∙ (c.in_ok-numbers.ensures ∙ ap (range_with_len 0) c.len.ensures) in
    subst (All (λ number. number < length c.args.tasks.now.tasks)) (sym all) (all_inside (length c.args.tasks.now.tasks))

pub run_numbers-requires-clause-steps : goal.run_numbers-requires-clause-steps
run_numbers-requires-clause-steps g c κs within =
    let all = c.as_slice.ensures.value ∙ (c.in_ok-numbers.ensures ∙ ap (range_with_len 0) c.len.ensures) in
    (c.requires.steps.0, subst (λ (n : ℕ). n * c.args.steps ≤ 16000000) (sym (ap length all ∙ length-range_with_len 0 (length c.args.tasks.now.tasks))) c.requires.steps.1)

pub returns-clause-answer : goal.returns-clause-answer
returns-clause-answer g c =
    let all = c.as_slice.ensures.value ∙ (c.in_ok-numbers.ensures ∙ ap (range_with_len 0) c.len.ensures) in
    let tasks = c.args.tasks.now.tasks in
    let first : Task = first_of tasks c.requires.some in
    subst (λ (ts : List Task). IfOk c.run_numbers.result (λ answer. IsPooled c.args.mode c.args.net.now.raw (length c.args.tasks.now.vars) c.args.steps c.args.cubes ts answer.reports.items (store_of answer.session)))
    (ap (λ ns. tasks_at tasks ns first) all ∙ all_numbers tasks first) (c.run_numbers.ensures.answer first)

pub returns-clause-slots : goal.returns-clause-slots
returns-clause-slots g c =
    let all = c.as_slice.ensures.value ∙ (c.in_ok-numbers.ensures ∙ ap (range_with_len 0) c.len.ensures) in
    subst (λ (n : ℕ). IfOk c.run_numbers.result (λ answer. answer.session.slots ≡ 2 * (n * c.args.steps))) (ap length all ∙ length-range_with_len 0 (length c.args.tasks.now.tasks)) c.run_numbers.ensures.slots
