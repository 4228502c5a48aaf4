use Rattle.std.proofs.Common.{◌≡◌, map, All}
use Rattle.std.specs.Prelude.{IsTrue}
use Rattle.net_core.specs.Work.{always, never, conjunction, disjunction}
use Rattle.ste_model.specs.Expressions.{symbolic_value, exclusive_disjunction, joined_parts, reads}
use Rattle.dual_rail.specs.Calls.{Reached}
use Rattle.engine_parts.proofs.Exprs.{work_of, so_far}
use Rattle.engine_parts.proofs.expr.+build.Given as goal

abbrev pub decreases-build : goal.decreases-build
decreases-build g l = goal.size-build g l

-- the first parts are built and joined
abbrev pub invariant-loop-part : goal.invariant-loop-part
invariant-loop-part g l = record {
  is : symbolic_value l.expr ≡ joined_parts conjunction always (map symbolic_value l.part-items);
  reads : All (λ part. IsTrue (reads (g.N.Nodes.store l.nodes).vars part)) l.part-items;
  so : Reached (work_of conjunction always l.part-items) (so_far conjunction always l.part-items l.part-index) (g.N.Nodes.store l.fn.nodes) (g.N.Nodes.store l.nodes) l.all;
}

abbrev pub invariant-loop-part-2 : goal.invariant-loop-part-2
invariant-loop-part-2 g l = record {
  is : symbolic_value l.expr ≡ joined_parts exclusive_disjunction never (map symbolic_value l.part-items);
  reads : All (λ part. IsTrue (reads (g.N.Nodes.store l.nodes).vars part)) l.part-items;
  so : Reached (work_of exclusive_disjunction never l.part-items) (so_far exclusive_disjunction never l.part-items l.part-index) (g.N.Nodes.store l.fn.nodes) (g.N.Nodes.store l.nodes) l.odd;
}

abbrev pub invariant-loop-part-3 : goal.invariant-loop-part-3
invariant-loop-part-3 g l = record {
  is : symbolic_value l.expr ≡ joined_parts disjunction never (map symbolic_value l.part-items);
  reads : All (λ part. IsTrue (reads (g.N.Nodes.store l.nodes).vars part)) l.part-items;
  so : Reached (work_of disjunction never l.part-items) (so_far disjunction never l.part-items l.part-index) (g.N.Nodes.store l.fn.nodes) (g.N.Nodes.store l.nodes) l.any;
}
