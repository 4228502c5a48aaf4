use Rattle.dd_query.proofs.Room.{room}
use Rattle.exact_engine.proofs.choosing.+some_of.Given as goal

abbrev pub decreases-some_of : goal.decreases-some_of
decreases-some_of g l = room (g.N.Nodes.store l.nodes.now) l.r
