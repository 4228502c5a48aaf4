use Rattle.dd_nodes.proofs.Walks.{from_constant}
use Rattle.diagram_tests.proofs.rails.constant_set.Goals as goal

pub returns : goal.returns
returns c = λ s. record { zero = from_constant s.held 0 c.constant.result c.constant.ensures; one = from_constant s.held 0 c.constant-2.result c.constant-2.ensures }
