use Rattle.ste_program.proofs.Broken.{passes_hold, runs_break}
use Rattle.ste_program.proofs.Literal.{report_tells}
use Rattle.ste_program.proofs.Ends.{bounded_of, decided_of, sinks_later, out_of_memory_written}
use Rattle.ste_program.proofs.run.run.Goals as goal

pub answer-requires-clause-bounded : goal.answer-requires-clause-bounded
answer-requires-clause-bounded g c = λ κs within. bounded_of _ c.in-Ok.command c.in-Ok.ensures

pub returns-in-Ok-clause-pass_holds : goal.returns-in-Ok-clause-pass_holds
returns-in-Ok-clause-pass_holds g c = passes_hold _ _

pub returns-in-Ok-clause-runs_break : goal.returns-in-Ok-clause-runs_break
returns-in-Ok-clause-runs_break g c = runs_break _ _

pub returns-in-Ok-clause-literals : goal.returns-in-Ok-clause-literals
returns-in-Ok-clause-literals g c = report_tells _ _

pub returns-in-Ok-clause-later : goal.returns-in-Ok-clause-later
returns-in-Ok-clause-later g c =
    let ends = c.answer.ensures in
    let sinks = sinks_later c.in-Ok.command _ _ _ _ _ _ c.answer.result ends.passed ends.not_passed ends.refused ends.faulted ends.no_memory in
    (ends.later, sinks.0, sinks.1)

pub returns-in-Ok-clause-decided : goal.returns-in-Ok-clause-decided
returns-in-Ok-clause-decided g c = λ none.
    let ends = c.answer.ensures in
    decided_of c.in-Ok.command _ _ _ _ _ _ _ c.answer.result c.in-Ok.ensures ends.passed ends.not_passed ends.refused ends.faulted none

pub returns-in-Err-clause-pass_holds : goal.returns-in-Err-clause-pass_holds
returns-in-Err-clause-pass_holds g c = passes_hold _ _

pub returns-in-Err-clause-runs_break : goal.returns-in-Err-clause-runs_break
returns-in-Err-clause-runs_break g c = runs_break _ _

pub returns-in-Err-clause-literals : goal.returns-in-Err-clause-literals
returns-in-Err-clause-literals g c = report_tells _ _

pub returns-in-Err-clause-no_memory : goal.returns-in-Err-clause-no_memory
returns-in-Err-clause-no_memory g c = λ e. out_of_memory_written _ _ _ c.write_message.result c.write_message.ensures e
