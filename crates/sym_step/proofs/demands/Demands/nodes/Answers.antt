use Rattle.std.proofs.Common.{◌<◌, All, length, ap, sym, ◌∙◌, subst}
use Rattle.ste_base.specs.declared.id.NodeId.{NodeId}
use Rattle.sym_step.specs.private.Demands.{Demanded, nodes_of}
use Rattle.sym_step.proofs.CutLists.{flags_inside}
use Rattle.sym_step.proofs.demands.Demands.nodes.Goals as goal

pub returns-clause-nodes : goal.returns-clause-nodes
returns-clause-nodes c = c.self.invariant.nodes_are ∙ ap (λ (d : Demanded). nodes_of d.weak d.cuts) c.self.view_is

pub returns-clause-inside : goal.returns-clause-inside
returns-clause-inside c =
    let d = c.self.inside in
    subst (λ (e : Demanded). All (λ (node : NodeId). node.0 < e.nets) d.nodes.now) c.self.view_is
    (subst (All (λ (node : NodeId). node.0 < length d.is_asked.now)) (sym c.self.invariant.nodes_are) (flags_inside d.cuts.now d.weak.now d.nodes.now d.is_asked.now d.is_weak.now d.first.now d.next.now c.self.invariant))
