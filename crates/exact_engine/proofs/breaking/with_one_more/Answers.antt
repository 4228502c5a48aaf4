use Rattle.std.proofs.Common.{ℕ, None, Some, subst}
use Rattle.ste_model.specs.Runs.{run_of}
use Rattle.exact_engine.specs.private.Breaching.{IsFirstBreach}
use Rattle.exact_engine.proofs.Breaches.{none_earlier, one_earlier}
use Rattle.exact_engine.proofs.breaking.with_one_more.Goals as goal

pub returns-in_default : goal.returns-in_default
returns-in_default c =
    let run = run_of c.args.run.now in
    let bits = c.args.bits.now in
    λ before h. none_earlier run bits before c.args.quint.now c.args.depth c.args.place
    (subst (λ (n : ℕ). IsFirstBreach run bits c.args.quint.now n None) c.limit_of.ensures c.in_default.ensures) h

pub returns : goal.returns
returns c =
    let run = run_of c.args.run.now in
    let bits = c.args.bits.now in
    λ before h. one_earlier run bits before c.args.quint.now c.args.depth c.args.place c.in-Some.time
    (subst (λ (n : ℕ). IsFirstBreach run bits c.args.quint.now n (Some c.in-Some.time)) c.limit_of.ensures c.in-Some.ensures) h
