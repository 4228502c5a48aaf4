use Rattle.std.proofs.Common.{◌≡◌, List, drop, ◌∙◌, subst, arith}
use Rattle.ste_base.specs.declared.id.NodeId.{NodeId}
use Rattle.dd_nodes.specs.Stores.{Store}
use Rattle.gate_sets.specs.declared.net_rails.NetRails.{NetRails}
use Rattle.gate_sets.specs.private.Ordered.{AreOrdered, IsVariable}
use Rattle.gate_sets.proofs.Ordered.{ordered-less}
use Rattle.gate_sets.proofs.Halving.{next_variable}
use Rattle.gate_sets.proofs.by_halves.are_ordered.Goals as goal

pub loop-k-preserved-then-v-least : goal.loop-k-preserved-then-v-least
loop-k-preserved-then-v-least g c =
    let s : Store = g.N.Nodes.store c.args.nodes.now in
    let p = c.loop-k.invariant in
    let le = p.within in
    let v = c.in-Some.v in
    let is : IsVariable s v c.set_of-r.result = subst (λ (x : Store). IsVariable x v c.set_of-r.result) p.store c.in-Some.ensures.variable in
    record {
      within = omega (arith, le);
      store = c.variable_of.ensures.store ∙ p.store;
      ordered = next_variable s c.args.nets.now c.loop-k.least v c.loop-k.k c.args.inputs.now _ c.loop-k-test.true le c.if-v-least.true (subst (IsVariable s v) c.set_of-r.ensures is) p.ordered;
    }

pub returns-clause-ordered : goal.returns-clause-ordered
returns-clause-ordered g c = λ yes.
    let s : Store = g.N.Nodes.store c.args.nodes.now in
    let nets : List NetRails = c.args.nets.now in
    let inputs : List NodeId = c.args.inputs.now in
    let none = c.loop-k-test.false in
    let first : c.loop-k.k ≡ 0 = omega (arith, none) in
    ordered-less s nets 0 c.loop-k.least inputs (omega arith) (subst (λ j. AreOrdered s nets c.loop-k.least (drop j inputs)) first c.loop-k.invariant.ordered)
