use Rattle.std.proofs.Common.{arith}
use Rattle.ste_model.specs.Runs.{run_of}
use Rattle.ste_model.specs.private.Meeting.{IsMet}
use Rattle.ste_model.proofs.Bindings.{not_all, says_no, says_none, says_yes}
use Rattle.ste_model.proofs.OverTimes.{met_apart, met_together}
use Rattle.ste_model.proofs.meeting.meets.Goals as goal

pub returns-then-not-is_met : goal.returns-then-not-is_met
returns-then-not-is_met c =
    let run = run_of c.args.run.now in
    let bits = c.args.bits.now in
    says_no (λ meets. not_all (IsMet run bits) c.args.quints.now c.loop-quint.quint-index c.quint-item.result c.quint-item.is c.loop-quint-test.true
    (says_none c.is_met.result c.if-not-is_met.true c.is_met.ensures) (met_apart run bits c.args.quints.now meets))

pub returns : goal.returns
returns c = says_yes (met_together (run_of c.args.run.now) c.args.bits.now c.args.quints.now (λ k d l. c.loop-quint.invariant k d (omega arith)))
