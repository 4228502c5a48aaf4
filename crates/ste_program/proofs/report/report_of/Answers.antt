use Rattle.ste_program.proofs.Refusals.{made_or_not}
use Rattle.ste_program.proofs.report.report_of.Goals as goal

pub returns : goal.returns
returns g c =
    let texts = c.in_ok-texts.texts in
    made_or_not c.on_texts.result (λ report. report.passes) (λ report. report.bytes) c.args.command.now c.in-Some.asked _ _ texts.net.items texts.second.items c.in-Some.is c.in_ok-texts.ensures c.on_texts.ensures
