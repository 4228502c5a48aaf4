use Rattle.std.proofs.Common.{arith}
use Rattle.exact_engine.proofs.Added.{in_time, is_added, not_added, too_early, too_late}
use Rattle.exact_engine.specs.private.TimedCuts.{runs_at}
use Rattle.exact_engine.proofs.adding.add_timed_cut.Goals as goal

pub returns-then-time-timed_cut : goal.returns-then-time-timed_cut
returns-then-time-timed_cut g c = λ f b gd x mf mb mg mx.
    not_added (g.N.Nodes.store c.args.nodes.now) (runs_at c.args.time c.args.timed_cut) f b gd x c.args.sum (too_early c.args.time c.args.timed_cut c.if-time-timed_cut.true) mf

pub returns-then-timed_cut-time : goal.returns-then-timed_cut-time
returns-then-timed_cut-time g c = λ f b gd x mf mb mg mx.
    not_added (g.N.Nodes.store c.args.nodes.now) (runs_at c.args.time c.args.timed_cut) f b gd x c.args.sum (too_late c.args.time c.args.timed_cut (omega (arith, c.if-time-timed_cut.false)) c.if-timed_cut-time.true) mf

pub returns : goal.returns
returns g c = λ f b gd x mf mb mg mx.
    is_added (g.N.Nodes.store c.args.nodes.now) (g.N.Nodes.store c.add_broken.new.nodes) (runs_at c.args.time c.args.timed_cut) f b gd x c.add_broken.result
    (in_time c.args.time c.args.timed_cut (omega (arith, c.if-time-timed_cut.false)) (omega (arith, c.if-timed_cut-time.false))) (c.add_broken.ensures f b gd x mf mb mg mx)
