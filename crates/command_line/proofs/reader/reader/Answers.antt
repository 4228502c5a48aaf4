use Rattle.std.proofs.Common.{◌∙◌, ap₂}
use Rattle.std.proofs.lemmas.Result.{IfOk-weaker}
use Rattle.clap.specs.Words.{with_rule}
use Rattle.command_line.proofs.reader.reader.Goals as goal

pub returns : goal.returns
returns c =
    let first = c.in_ok-arg.ensures.shape c.new-2.ensures.optional.1 ∙ ap₂ with_rule c.new.ensures.app c.new-2.ensures.rule in
    let second = c.in_ok-arg-2.ensures.shape c.files.ensures.local ∙ ap₂ with_rule first c.files.ensures.rule in
    let third = c.in_ok-arg-3.ensures.shape c.option.ensures.local ∙ ap₂ with_rule second c.option.ensures.rule in
    let fourth = c.in_ok-arg-4.ensures.shape c.option-2.ensures.local ∙ ap₂ with_rule third c.option-2.ensures.rule in
    let fifth = c.in_ok-arg-5.ensures.shape c.option-3.ensures.local ∙ ap₂ with_rule fourth c.option-3.ensures.rule in
    let sixth = c.in_ok-arg-6.ensures.shape c.flag.ensures.local ∙ ap₂ with_rule fifth c.flag.ensures.rule in
    IfOk-weaker c.arg-7.result _ _ (λ whole adds. adds.shape c.flag-2.ensures.local ∙ ap₂ with_rule sixth c.flag-2.ensures.rule) c.arg-7.ensures
