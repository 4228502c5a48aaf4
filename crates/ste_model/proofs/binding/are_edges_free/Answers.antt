use Rattle.std.proofs.Common.{List, arith, subst}
use Rattle.std.specs.Prelude.{All, IsTrue, ◌↔◌}
use Rattle.net_core.specs.Run.{IsUndriven}
use Rattle.ste_model.specs.declared.task.Bind.{Bind}
use Rattle.ste_model.specs.declared.task.Edge.{Edge}
use Rattle.ste_model.proofs.Bindings.{more_all, not_all, says_no, says_none, says_other, says_yes}
use Rattle.ste_model.proofs.binding.are_edges_free.Goals as goal

pub returns-then-not-are_binds_free : goal.returns-then-not-are_binds_free
returns-then-not-are_binds_free c =
    let free = subst (λ (binds : List Bind). IsTrue c.are_binds_free.result ↔ All (λ bind. IsUndriven c.args.net.now.raw bind.node.0) binds) c.as_slice.ensures c.are_binds_free.ensures in
    says_no (not_all (λ (edge : Edge). All (λ bind. IsUndriven c.args.net.now.raw bind.node.0) edge.ant) c.args.edges.now c.loop-edge.edge-index c.edge-item.result c.edge-item.is c.loop-edge-test.true
    (says_none c.are_binds_free.result c.if-not-are_binds_free.true free))

pub loop-edge-preserved : goal.loop-edge-preserved
loop-edge-preserved c =
    let free = subst (λ (binds : List Bind). IsTrue c.are_binds_free.result ↔ All (λ bind. IsUndriven c.args.net.now.raw bind.node.0) binds) c.as_slice.ensures c.are_binds_free.ensures in
    more_all (λ (edge : Edge). All (λ bind. IsUndriven c.args.net.now.raw bind.node.0) edge.ant) c.args.edges.now c.loop-edge.edge-index c.edge-item.result c.edge-item.is c.loop-edge-test.true c.loop-edge.invariant
    (says_other c.are_binds_free.result c.if-not-are_binds_free.false free)

pub returns : goal.returns
returns c = says_yes (λ k d l. c.loop-edge.invariant k d (omega arith))
