use Rattle.ste_model.specs.Runs.{run_of}
use Rattle.ste_model.proofs.Due.{due_breaks}
use Rattle.counter_run.proofs.Printing.{asks_no_weak_start}
use Rattle.counter_run.proofs.printed.ste_run.Goals as goal

pub returns-clause-printed : goal.returns-clause-printed
returns-clause-printed c =
    let net = c.args.net.now.raw in
    let begins = asks_no_weak_start net c.args.task.now c.args.bits.now c.requires.bindable in
    c.in_ok-made.ensures.printed c.requires.possible begins

pub returns-clause-meets : goal.returns-clause-meets
returns-clause-meets c =
    let net = c.args.net.now.raw in
    let begins = asks_no_weak_start net c.args.task.now c.args.bits.now c.requires.bindable in
    let printed = c.in_ok-made.ensures.printed c.requires.possible begins in
    due_breaks.meets net c.args.task.now c.args.bits.now (run_of c.in_ok-made.made)
    c.requires.nets c.requires.bindable printed
