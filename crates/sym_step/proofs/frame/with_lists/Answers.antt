use Rattle.sym_step.proofs.Framing.{listed_ready}
use Rattle.sym_step.proofs.frame.with_lists.Goals as goal

pub returns-then-frame-clause-frame : goal.returns-then-frame-clause-frame
returns-then-frame-clause-frame c = λ s f. (f, listed_ready s c.args.net.now.raw c.args.frame.now f c.if-frame.true)
