use Rattle.std.proofs.Common.{◌∙◌, sym, arith, ap, length, map, subst}
use Rattle.assert_syntax.specs.private.Drafts.{context_held, tasks_closed}
use Rattle.assert_syntax.specs.Answer.{task_entries_of}
use Rattle.assert_syntax.specs.Forms.{task_form_of}
use Rattle.assert_syntax.specs.Spelled.{raw_task_tree}
use Rattle.assert_syntax.specs.Held.{form_held}
use Rattle.assert_syntax.proofs.Turn.{Holds, by_form, read_begin, read_turn, bad_answer, fault_answer, all_read, few_tasks, none_read, some_read}
use Rattle.assert_syntax.proofs.read.tasks_from.Goals as goal

pub loop-line-init : goal.loop-line-init
loop-line-init c =
    subst (λ t. Holds (context_held c.args.known.now) (record { tasks = c.args.draft.now.tasks; task = t }) c.args.lines.now c.args.lines.now) (sym c.requires.task)
    (read_begin c.args.lines.now (context_held c.args.known.now) c.args.draft.now.tasks c.requires.known c.requires.tasks)

pub returns-then-not-may_stand : goal.returns-then-not-may_stand
returns-then-not-may_stand c = bad_answer c.args.lines.now c.loop-line.line-index c.line-item.result _ (context_held c.loop-line.known) c.loop-line.draft c.loop-line-test.true c.line-item.is (by_form c.line-item.result (form_held c.form_of-form.result) (c.form_of-form.ensures ∙ ap task_form_of c.as_slice.ensures)) (sym c.may_stand.ensures ∙ c.if-not-may_stand.true) c.loop-line.invariant

pub returns-in-Err : goal.returns-in-Err
returns-in-Err c = fault_answer c.args.lines.now c.loop-line.line-index c.line-item.result _ (context_held c.loop-line.known) (context_held c.line_read.new.known) c.loop-line.draft c.line_read.new.draft c.in-Err.fault c.line_read.result c.loop-line-test.true c.line-item.is (by_form c.line-item.result (form_held c.form_of-form.result) (c.form_of-form.ensures ∙ ap task_form_of c.as_slice.ensures)) (sym c.may_stand.ensures ∙ c.if-not-may_stand.false) c.line_read.ensures c.in-Err.is c.loop-line.invariant

pub loop-line-preserved : goal.loop-line-preserved
loop-line-preserved c = read_turn c.args.lines.now c.loop-line.line-index c.line-item.result _ (context_held c.loop-line.known) (context_held c.line_read.new.known) c.loop-line.draft c.line_read.new.draft c.line_read.result c.loop-line-test.true c.line-item.is (by_form c.line-item.result (form_held c.form_of-form.result) (c.form_of-form.ensures ∙ ap task_form_of c.as_slice.ensures)) (sym c.may_stand.ensures ∙ c.if-not-may_stand.false) c.line_read.ensures c.in-Ok.is c.loop-line.invariant

pub returns-then-len-eq0 : goal.returns-then-len-eq0
returns-then-len-eq0 c = λ parse is.
    let r = all_read c.args.lines.now c.loop-line.line-index (context_held c.loop-line.known) c.loop-line.draft c.tasks_closed.new.tasks c.as_slice-2.result.now (omega (arith, c.loop-line-test.false, c.loop-line.auto.line-index-end)) c.as_slice-2.ensures.keys (c.in_ok-tasks_closed.ensures ∙ ap (λ t. tasks_closed c.loop-line.draft.tasks t c.as_slice-2.result.now) c.replace-task.ensures.value) c.loop-line.invariant parse is in
    (r.0, none_read parse (task_entries_of c.args.lines.now) c.tasks_closed.new.tasks (sym c.len.ensures ∙ c.if-len-eq0.true) r.2)

pub invariant_of-result : goal.invariant_of-result
invariant_of-result c = record {
  declared = let e = ap length (c.in_ok-vars.ensures ∙ c.names.ensures) in omega (arith, e, c.loop-line.invariant.room.vars);
  few = let n = few_tasks (context_held c.loop-line.known) c.loop-line.draft c.tasks_closed.new.tasks c.as_slice-2.result.now _ c.args.lines.now (c.in_ok-tasks_closed.ensures ∙ ap (λ t. tasks_closed c.loop-line.draft.tasks t c.as_slice-2.result.now) c.replace-task.ensures.value) c.loop-line.invariant in let e = ap length c.replace-tasks.ensures.value in omega (arith, n, e);
}

pub returns : goal.returns
returns c = λ parse is.
    let r = all_read c.args.lines.now c.loop-line.line-index (context_held c.loop-line.known) c.loop-line.draft c.tasks_closed.new.tasks c.as_slice-2.result.now (omega (arith, c.loop-line-test.false, c.loop-line.auto.line-index-end)) c.as_slice-2.ensures.keys (c.in_ok-tasks_closed.ensures ∙ ap (λ t. tasks_closed c.loop-line.draft.tasks t c.as_slice-2.result.now) c.replace-task.ensures.value) c.loop-line.invariant parse is in
    (r.0, c.in_ok-vars.ensures ∙ c.names.ensures ∙ r.1, ap (map raw_task_tree) c.replace-tasks.ensures.value ∙ r.2, some_read parse (task_entries_of c.args.lines.now) c.tasks_closed.new.tasks c.len.result c.len.ensures c.if-len-eq0.false r.2)
