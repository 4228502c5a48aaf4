use Rattle.std.proofs.Common.{◌∙◌, ap, sym, subst, refl}
use Rattle.net_names.specs.Names.{named_by}
use Rattle.ste_rules.specs.Forms.{step_entries_of, step_form_of}
use Rattle.ste_rules.specs.Steps.{steps_behind}
use Rattle.ste_rules.specs.private.Held.{step_form_held, steps_held}
use Rattle.ste_rules.specs.private.Turns.{AreAligned}
use Rattle.ste_rules.proofs.Lines.{line_fault, line_turn, lines_end, turn_aligned}
use Rattle.ste_rules.proofs.read.proof_from.Goals as goal

pub loop-line-init : goal.loop-line-init
loop-line-init c = λ parse is. (ap (λ s. steps_behind parse (named_by c.args.names.now) c.args.tasks.now s (step_entries_of c.args.lines.now)) c.requires.none, subst AreAligned (sym c.requires.none) refl)

pub returns-in-Err : goal.returns-in-Err
returns-in-Err c = λ parse is. line_fault parse (named_by c.args.names.now) c.args.tasks.now c.args.lines.now c.loop-line.line-index c.line-item.result (step_form_held c.form_of-form.result) (steps_held c.loop-line.steps) _ c.in-Err.fault c.loop-line-test.true c.line-item.is (c.form_of-form.ensures.form ∙ ap step_form_of c.as_slice.ensures) (c.in-Err.ensures parse is) (c.loop-line.invariant parse is).0

pub loop-line-preserved : goal.loop-line-preserved
loop-line-preserved c = λ parse is. (
  line_turn parse (named_by c.args.names.now) c.args.tasks.now c.args.lines.now c.loop-line.line-index c.line-item.result (step_form_held c.form_of-form.result) (steps_held c.loop-line.steps) (steps_held c.line_read.new.steps) _ c.loop-line-test.true c.line-item.is (c.form_of-form.ensures.form ∙ ap step_form_of c.as_slice.ensures) (c.in-Ok.ensures parse is) (c.loop-line.invariant parse is).0,
  turn_aligned parse (named_by c.args.names.now) c.args.tasks.now (steps_held c.loop-line.steps) (steps_held c.line_read.new.steps) (step_form_held c.form_of-form.result) (c.in-Ok.ensures parse is) (c.loop-line.invariant parse is).1,
)

pub returns : goal.returns
returns c = λ parse is. lines_end parse (named_by c.args.names.now) c.args.tasks.now c.args.lines.now c.loop-line.line-index (steps_held c.loop-line.steps) _ c.proof_of.result c.loop-line-test.false (c.proof_of.ensures (c.loop-line.invariant parse is).1) (c.loop-line.invariant parse is).0
