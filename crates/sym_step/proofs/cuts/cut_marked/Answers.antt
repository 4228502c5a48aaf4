use Rattle.std.proofs.Common.{ℕ, sym, subst}
use Rattle.dd_nodes.specs.Stores.{Store}
use Rattle.net_core.specs.Work.{SymbolicSet, after_cuts, cuts_work}
use Rattle.gate_sets.specs.NetSets.{AreFlagged, HasFlagged}
use Rattle.dual_rail.proofs.Works.{So-start, Built-made}
use Rattle.sym_step.proofs.Framing.{unlisted}
use Rattle.sym_step.proofs.cuts.cut_marked.Goals as goal

pub returns-else-is_asked : goal.returns-else-is_asked
returns-else-is_asked g c = λ ds sets zip h.
    let s : Store = g.N.Nodes.store c.args.nodes.now in
    let id : ℕ = c.args.id in
    Built-made (cuts_work ds sets) (HasFlagged (after_cuts ds sets id)) s s c.args.r (So-start (cuts_work ds sets) s)
    (subst (λ (w : SymbolicSet). AreFlagged s w c.args.r) (sym (unlisted s ds c.args.demands.now.weak c.args.demands.now.cuts id sets zip (c.is_asked.ensures c.if-is_asked.false))) h)
