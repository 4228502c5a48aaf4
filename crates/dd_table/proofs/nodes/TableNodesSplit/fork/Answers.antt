use Rattle.std.proofs.Common.{sym, subst}
use Rattle.dd_recent.specs.Recent.{AreRight}
use Rattle.dd_table.specs.Sessions.{SessionValue, store_of}
use Rattle.dd_table.proofs.Remembering.{AreRight-quota}
use Rattle.dd_table.proofs.nodes.TableNodesSplit.fork.Goals as goal

pub invariant_of-self-clause-right : goal.invariant_of-self-clause-right
invariant_of-self-clause-right c =
    subst (λ (k : SessionValue). AreRight (store_of k) c.args.self.now.recent) (sym c.split_off-session.ensures.old)
    (AreRight-quota c.args.self.now.session c.args.quota c.args.self.now.recent c.args.self.now.right)
