use Rattle.std.proofs.Common.{◌≡◌, ◌≤◌, ℕ, Option, ap, arith, inl, refl, subst, sym}
use Rattle.command_line.specs.Command.{Command}
use Rattle.ste_program.specs.Check.{task_steps}
use Rattle.ste_program.specs.Order.{IsFirstRefusal, check_stages}
use Rattle.ste_program.specs.private.Prepared.{IsPrepared}
use Rattle.ste_program.specs.private.Texts.{OrMemory}
use Rattle.ste_program.proofs.Handed.{handed_on}
use Rattle.ste_program.proofs.TaskLists.{all_bounded, each_bounded, each_some, is_check_over}
use Rattle.ste_program.proofs.check.checked_texts.Goals as goal

pub overflow_cast-each : goal.overflow_cast-each
overflow_cast-each g c =
    let made = c.in_ok-prepared.prepared in
    let all = all_bounded c.asked.inside.steps c.args.net_text.items c.args.task_text.items made.flat.names.own made.flat.net.raw made.tasks c.task_steps-each.result c.len.result c.in_ok-prepared.ensures made.some c.task_steps-each.ensures c.len.ensures in
    let low = each_bounded _ c.task_steps-each.result made.some all in
    omega (arith, low)

pub report_on-requires-clause-steps : goal.report_on-requires-clause-steps
report_on-requires-clause-steps g c = λ κs within.
    let made = c.in_ok-prepared.prepared in
    let all = all_bounded c.asked.inside.steps c.args.net_text.items c.args.task_text.items made.flat.names.own made.flat.net.raw made.tasks c.task_steps-each.result c.len.result c.in_ok-prepared.ensures made.some c.task_steps-each.ensures c.len.ensures in
    let long = c.len.ensures in
    let some = made.some in
    let few = made.few_tasks in
    let steps_is : c.asked.inside.steps ≡ c.args.asked.now.steps = ap (λ (asked : Command). asked.steps) c.asked.view_is in
    let each : c.task_steps-each.result ≡ task_steps c.args.asked.now.steps c.len.result = subst (λ (steps : Option ℕ). c.task_steps-each.result ≡ task_steps steps c.len.result) steps_is c.task_steps-each.ensures in
    (subst (λ n. 1 ≤ n) (sym each) (each_some c.args.asked.now.steps c.len.result c.requires.bounded.steps (omega arith) (omega arith)), all)

pub returns-in_err-prepared : goal.returns-in_err-prepared
returns-in_err-prepared g c =
    let fault = c.in_err-prepared.field-0.0 in
    let steps_is : c.asked.inside.steps ≡ c.args.asked.now.steps = ap (λ (asked : Command). asked.steps) c.asked.view_is in
    handed_on _ _ _ c.from_residual.ensures.1
    (subst (λ (steps : Option ℕ). OrMemory (IsFirstRefusal (check_stages steps c.args.net_text.items c.args.task_text.items)) fault) steps_is c.in_err-prepared.ensures)

pub returns-in_err-report_on : goal.returns-in_err-report_on
returns-in_err-report_on g c = handed_on _ _ _ c.from_residual-in_err-report_on.ensures.1 (inl refl)

pub returns : goal.returns
returns g c =
    let made = c.in_ok-prepared.prepared in
    let asked = c.args.asked.now in
    let steps_is : c.asked.inside.steps ≡ asked.steps = ap (λ (other : Command). other.steps) c.asked.view_is in
    let prepared = subst (λ (steps : Option ℕ). IsPrepared steps c.args.net_text.items c.args.task_text.items made.flat.names.own made.flat.net.raw made.tasks) steps_is c.in_ok-prepared.ensures in
    let each : c.task_steps-each.result ≡ task_steps asked.steps c.len.result = subst (λ (steps : Option ℕ). c.task_steps-each.result ≡ task_steps steps c.len.result) steps_is c.task_steps-each.ensures in
    is_check_over asked.steps asked.cubes asked.wave asked.nodes c.args.net_text.items c.args.task_text.items made.flat.names.own made.flat.net.raw made.tasks c.task_steps-each.result c.len.result c.in_ok-report_on.field-0.passes c.in_ok-report_on.field-0.text.items
    c.in_ok-report_on.field-0.nets prepared each c.len.ensures c.in_ok-report_on.ensures.report c.in_ok-report_on.ensures.nets
