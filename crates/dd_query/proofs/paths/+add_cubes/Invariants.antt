use Rattle.dd_query.proofs.Room.{room}
use Rattle.dd_query.proofs.paths.+add_cubes.Given as goal

abbrev pub decreases-add_cubes : goal.decreases-add_cubes
decreases-add_cubes g l = room (g.N.Nodes.store l.nodes.now) l.r
