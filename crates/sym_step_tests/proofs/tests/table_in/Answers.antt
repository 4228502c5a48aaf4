use Rattle.std.proofs.Common.{All, sym, subst}
use Rattle.dd_nodes.specs.Stores.{Store}
use Rattle.dual_rail.specs.Rail.{AreRefs}
use Rattle.sym_step_tests.proofs.tests.table_in.Goals as goal

pub table_of-requires : goal.table_of-requires
table_of-requires g c =
    let s : Store = g.N.Nodes.store c.args.nodes.now in
    subst (All (AreRefs s)) (sym c.deref.ensures.value) (c.in_ok-rails.ensures s c.requires)
