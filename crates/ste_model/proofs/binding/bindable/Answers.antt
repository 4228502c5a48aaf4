use Rattle.std.proofs.Common.{List, sym, subst}
use Rattle.std.specs.Prelude.{All, IsTrue, ◌↔◌}
use Rattle.net_core.specs.Run.{IsUndriven}
use Rattle.ste_model.specs.declared.task.Edge.{Edge}
use Rattle.ste_model.specs.declared.task.Task.{Task}
use Rattle.ste_model.specs.Shown.{IsBindable}
use Rattle.ste_model.proofs.binding.bindable.Goals as goal

pub returns-in-Gste : goal.returns-in-Gste
returns-in-Gste c =
    let free = subst (λ (edges : List Edge). IsTrue c.are_edges_free.result ↔ All (λ edge. All (λ bind. IsUndriven c.args.net.now.raw bind.node.0) edge.ant) edges) c.as_slice-in-Gste.ensures c.are_edges_free.ensures in
    subst (λ (task : Task). IsTrue c.are_edges_free.result ↔ IsBindable c.args.net.now.raw task) (sym c.in-Gste.is) free
