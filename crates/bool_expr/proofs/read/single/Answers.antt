use Rattle.std.proofs.Common.{◌∷◌, [], sym, ap, ◌∙◌, Ok}
use Rattle.bool_expr.specs.Grammar.{literal, named}
use Rattle.bool_expr.specs.Read.{Spells}
use Rattle.bool_expr.specs.private.Held.{token_of}
use Rattle.bool_expr.proofs.Answered.{alone, answers_each, bit_answer, caused, word_answer}
use Rattle.bool_expr.proofs.read.single.Goals as goal

pub returns-in-Const-clause-exact : goal.returns-in-Const-clause-exact
returns-in-Const-clause-exact c =
    let spells : Spells (alone (literal c.in-Const.value)) c.args.text.now = sym (c.in_ok-value.ensures ∙ ap (λ t. token_of t ∷ []) c.in-Const.is) in
    answers_each c.args.variables.now c.args.text.now (Ok c.constant.result) (alone (literal c.in-Const.value)) spells (bit_answer c.args.variables.now c.in-Const.value c.constant.result c.constant.ensures)

pub returns-in-Const-clause-cause : goal.returns-in-Const-clause-cause
returns-in-Const-clause-cause c =
    let spells : Spells (alone (literal c.in-Const.value)) c.args.text.now = sym (c.in_ok-value.ensures ∙ ap (λ t. token_of t ∷ []) c.in-Const.is) in
    (alone (literal c.in-Const.value), spells, bit_answer c.args.variables.now c.in-Const.value c.constant.result c.constant.ensures)

pub returns-in-Name-clause-exact : goal.returns-in-Name-clause-exact
returns-in-Name-clause-exact c =
    let spells : Spells (alone (named c.in-Name.word.now)) c.args.text.now = sym (c.in_ok-value.ensures ∙ ap (λ t. token_of t ∷ []) c.in-Name.is) in
    answers_each c.args.variables.now c.args.text.now c.variable_of.result (alone (named c.in-Name.word.now)) spells (word_answer c.args.variables.now c.in-Name.word.now c.variable_of.result c.variable_of.ensures.ok c.variable_of.ensures.known c.variable_of.ensures.err)

pub returns-in-Name-clause-cause : goal.returns-in-Name-clause-cause
returns-in-Name-clause-cause c =
    let spells : Spells (alone (named c.in-Name.word.now)) c.args.text.now = sym (c.in_ok-value.ensures ∙ ap (λ t. token_of t ∷ []) c.in-Name.is) in
    caused c.args.variables.now c.args.text.now c.variable_of.result (alone (named c.in-Name.word.now)) spells (word_answer c.args.variables.now c.in-Name.word.now c.variable_of.result c.variable_of.ensures.ok c.variable_of.ensures.known c.variable_of.ensures.err)
