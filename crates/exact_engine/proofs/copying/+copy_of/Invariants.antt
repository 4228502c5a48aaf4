use Rattle.dd_query.proofs.Room.{room}
use Rattle.exact_engine.proofs.copying.+copy_of.Given as goal

abbrev pub decreases-copy_of : goal.decreases-copy_of
decreases-copy_of g l = room (g.M.Nodes.store l.source.now) l.r
