use Rattle.ste_program.proofs.Ends.{all_passed, ended_faulted, ended_not_failed, ended_not_passed, ended_refused, ended_out_of_memory, made_holds, made_later, made_named, not_all_passed, report_broke, why_holds, why_later, why_named}
use Rattle.ste_program.proofs.run.answer.Goals as goal

pub returns-in-Ok-clause-holds : goal.returns-in-Ok-clause-holds
returns-in-Ok-clause-holds g c = made_holds _ _ _ c.in-Ok.report.passes c.in-Ok.report.bytes c.in-Ok.ensures

pub returns-in-Ok-clause-asked : goal.returns-in-Ok-clause-asked
returns-in-Ok-clause-asked g c = made_named _ _ _ c.in-Ok.report.passes c.in-Ok.report.bytes c.in-Ok.ensures

pub returns-in-Ok-clause-later : goal.returns-in-Ok-clause-later
returns-in-Ok-clause-later g c = made_later _ _ _ c.in-Ok.report.passes c.in-Ok.report.bytes c.in-Ok.ensures

pub returns-in-Ok-clause-passed : goal.returns-in-Ok-clause-passed
returns-in-Ok-clause-passed g c = λ e.
    let writes = c.write_report.ensures in
    all_passed _ _ _ _ _ _ _ c.in-Ok.report.passes c.in-Ok.report.bytes c.write_report.result c.in-Ok.ensures (writes.written, writes.status) e

pub returns-in-Ok-clause-not_passed : goal.returns-in-Ok-clause-not_passed
returns-in-Ok-clause-not_passed g c = λ e.
    let writes = c.write_report.ensures in
    not_all_passed _ _ _ _ _ _ _ c.in-Ok.report.passes c.in-Ok.report.bytes c.write_report.result c.in-Ok.ensures (writes.written, writes.status) e

pub returns-in-Ok-clause-faulted : goal.returns-in-Ok-clause-faulted
returns-in-Ok-clause-faulted g c = λ e. report_broke _ _ _ _ _ _ _ c.in-Ok.report.passes c.in-Ok.report.bytes c.in-Ok.ensures (c.write_report.ensures.faulted e)

pub returns-in-Err-clause-holds : goal.returns-in-Err-clause-holds
returns-in-Err-clause-holds g c = why_holds _ _ _ c.in-Err.refusal c.in-Err.ensures

pub returns-in-Err-clause-asked : goal.returns-in-Err-clause-asked
returns-in-Err-clause-asked g c = why_named _ _ _ c.in-Err.refusal c.in-Err.ensures

pub returns-in-Err-clause-later : goal.returns-in-Err-clause-later
returns-in-Err-clause-later g c = why_later _ _ _ c.in-Err.refusal c.in-Err.ensures

pub returns-in-Err-clause-refused : goal.returns-in-Err-clause-refused
returns-in-Err-clause-refused g c = λ e. ended_refused _ _ _ _ _ _ c.in-Err.refusal c.refuse.result c.in-Err.ensures c.refuse.ensures e

pub returns-in-Err-clause-faulted : goal.returns-in-Err-clause-faulted
returns-in-Err-clause-faulted g c = λ e. ended_faulted _ _ _ _ _ _ c.in-Err.refusal c.refuse.result c.in-Err.ensures c.refuse.ensures e

pub returns-in-Err-clause-no_memory : goal.returns-in-Err-clause-no_memory
returns-in-Err-clause-no_memory g c = λ e. ended_out_of_memory _ _ _ _ _ _ c.in-Err.refusal c.refuse.result c.in-Err.ensures c.refuse.ensures e

pub returns-in-Err-clause-passed : goal.returns-in-Err-clause-passed
returns-in-Err-clause-passed g c = λ e. absurd (ended_not_passed _ _ _ _ _ c.in-Err.refusal c.refuse.result c.in-Err.ensures c.refuse.ensures e)

pub returns-in-Err-clause-not_passed : goal.returns-in-Err-clause-not_passed
returns-in-Err-clause-not_passed g c = λ e. absurd (ended_not_failed _ _ _ _ _ c.in-Err.refusal c.refuse.result c.in-Err.ensures c.refuse.ensures e)
