use Rattle.std.proofs.Common.{◌≡◌, false, subst}
use Rattle.sym_step.specs.Frame.{is_listed}
use Rattle.sym_step.specs.private.Demands.{Demanded, nodes_of}
use Rattle.sym_step.proofs.CutLists.{none_listed}
use Rattle.sym_step.proofs.demands.Demands.is_asked.Goals as goal

pub returns : goal.returns
returns c = λ none.
    let d = c.self.inside in
    subst (λ (e : Demanded). is_listed (nodes_of e.weak e.cuts) c.args.id ≡ false) c.self.view_is
    (none_listed d.cuts.now d.weak.now d.nodes.now d.is_asked.now d.is_weak.now d.first.now d.next.now c.self.invariant c.args.id none)
