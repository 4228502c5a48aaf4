use Rattle.std.proofs.Common.{◌∙◌, ap, sym}
use Rattle.net_names.specs.Names.{named_by}
use Rattle.blif_lines.specs.Laws.{text_of_words}
use Rattle.ste_rules.specs.Steps.{specialised, turn}
use Rattle.ste_rules.specs.private.Held.{step_form_held, steps_held}
use Rattle.ste_rules.proofs.Told.{turned_as}
use Rattle.ste_rules.proofs.read.line_read.Goals as goal

pub returns-in-Leaf : goal.returns-in-Leaf
returns-in-Leaf c = λ parse is. turned_as c.args.line _ _ _ _ (ap (λ f. turn parse (named_by c.args.names.now) c.args.tasks.now (steps_held c.args.steps.now) (step_form_held f)) c.in-Leaf.is) (c.read_leaf.ensures parse (named_by c.args.names.now) c.args.tasks.now (sym c.as_slice.ensures))

pub returns-in-Identity : goal.returns-in-Identity
returns-in-Identity c = λ parse is. turned_as c.args.line _ _ _ _ (ap (λ f. turn parse (named_by c.args.names.now) c.args.tasks.now (steps_held c.args.steps.now) (step_form_held f)) c.in-Identity.is) (c.read_identity.ensures parse (named_by c.args.names.now) c.args.tasks.now)

pub returns-in-Both : goal.returns-in-Both
returns-in-Both c = λ parse is. turned_as c.args.line _ _ _ _ (ap (λ f. turn parse (named_by c.args.names.now) c.args.tasks.now (steps_held c.args.steps.now) (step_form_held f)) c.in-Both.is) (c.read_both.ensures parse (named_by c.args.names.now) c.args.tasks.now)

pub returns-in-Shift : goal.returns-in-Shift
returns-in-Shift c = λ parse is. turned_as c.args.line _ _ _ _ (ap (λ f. turn parse (named_by c.args.names.now) c.args.tasks.now (steps_held c.args.steps.now) (step_form_held f)) c.in-Shift.is) (c.read_shift.ensures parse (named_by c.args.names.now) c.args.tasks.now)

pub returns-in-Specialise : goal.returns-in-Specialise
returns-in-Specialise c = λ parse is. turned_as c.args.line _ _ _ _ (ap (λ f. turn parse (named_by c.args.names.now) c.args.tasks.now (steps_held c.args.steps.now) (step_form_held f)) c.in-Specialise.is ∙ ap (λ vs. specialised parse vs (steps_held c.args.steps.now) c.in-Specialise.name.now c.in-Specialise.one.now c.in-Specialise.variable.now (text_of_words c.in-Specialise.words.now)) (sym c.requires.vars)) (c.read_special.ensures parse is)

pub returns-in-Stronger : goal.returns-in-Stronger
returns-in-Stronger c = λ parse is. turned_as c.args.line _ _ _ _ (ap (λ f. turn parse (named_by c.args.names.now) c.args.tasks.now (steps_held c.args.steps.now) (step_form_held f)) c.in-Stronger.is) (c.read_stronger.ensures parse (named_by c.args.names.now) c.args.tasks.now)

pub returns-in-Weaker : goal.returns-in-Weaker
returns-in-Weaker c = λ parse is. turned_as c.args.line _ _ _ _ (ap (λ f. turn parse (named_by c.args.names.now) c.args.tasks.now (steps_held c.args.steps.now) (step_form_held f)) c.in-Weaker.is) (c.read_weaker.ensures parse (named_by c.args.names.now) c.args.tasks.now)

pub returns-in-Cut : goal.returns-in-Cut
returns-in-Cut c = λ parse is. turned_as c.args.line _ _ _ _ (ap (λ f. turn parse (named_by c.args.names.now) c.args.tasks.now (steps_held c.args.steps.now) (step_form_held f)) c.in-Cut.is) (c.read_cut.ensures parse (named_by c.args.names.now) c.args.tasks.now)
