use Rattle.std.proofs.Common.{◌+◌, ◌∙◌, sym, subst, arith}
use Rattle.dd_nodes.specs.declared.node.Ref.{Ref}
use Rattle.dd_nodes.specs.Stores.{Store, IsRef}
use Rattle.dd_nodes.proofs.Walks.{IsFrom-less}
use Rattle.sym_step_tests.proofs.tests.bit_of.Goals.{then-unwrap_or, else-unwrap_or}
use Rattle.sym_step_tests.proofs.tests.bit_of.Goals as goal

-- both children of a node are references
pub loop-preserved : goal.loop-preserved
loop-preserved g c =
    let s : Store = g.N.Nodes.store c.loop.nodes in
    let t : Store = g.N.Nodes.store c.node-node.new.self in
    let ds = g.met.N.Nodes.diagram c.loop.nodes in
    let n = c.node-node.result in
    let same = c.node-node.ensures.store in
    let held = c.node-node.ensures.node in
    let keep : (r : Ref) → IsRef s r → IsRef t r = λ r h. subst (λ (x : Store). IsRef x r) (sym same) h in
    record {
      same = same ∙ c.loop.invariant.same;
      ref = elim c.if-unwrap_or.branch [
        | then-unwrap_or w ↦ subst (IsRef t) (sym w.at-is) (keep n.hi (IsFrom-less s.held 0 (n.var + 1) n.hi (omega arith) (ds.high c.loop.at n held)))
        | else-unwrap_or w ↦ subst (IsRef t) (sym w.at-is) (keep n.lo (IsFrom-less s.held 0 (n.var + 1) n.lo (omega arith) (ds.low c.loop.at n held)))
      ];
    }
