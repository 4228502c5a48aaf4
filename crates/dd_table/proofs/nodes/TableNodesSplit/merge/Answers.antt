use Rattle.dd_table.proofs.Remembering.{AreRight-merged}
use Rattle.dd_table.proofs.Stores.{unites_of, agree_of}
use Rattle.dd_table.proofs.nodes.TableNodesSplit.merge.Goals as goal

pub returns-clause-unites : goal.returns-clause-unites
returns-clause-unites c = unites_of c.args.self.now.session c.args.other.session c.take_in.new.session c.take_in.ensures.both c.take_in.ensures.right

pub returns-clause-agree : goal.returns-clause-agree
returns-clause-agree c = agree_of c.args.self.now.session c.args.other.session c.take_in.new.session c.take_in.ensures.both c.take_in.ensures.right c.take_in.ensures.good

pub invariant_of-self-clause-right : goal.invariant_of-self-clause-right
invariant_of-self-clause-right c =
    AreRight-merged c.args.self.now.session c.args.other.session c.take_in.new.session c.args.self.now.recent c.take_in.ensures.both c.take_in.ensures.right
    c.args.self.now.good c.take_in.ensures.good c.args.self.now.right
