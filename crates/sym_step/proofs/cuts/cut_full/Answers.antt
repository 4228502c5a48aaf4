use Rattle.std.proofs.Common.{ℕ, List, ◌∷◌, sym, ◌∙◌, subst}
use Rattle.ste_base.specs.Functions.{Function}
use Rattle.dd_nodes.specs.Stores.{Store}
use Rattle.dd_nodes.proofs.Spending.{one_means}
use Rattle.net_core.specs.Work.{SymbolicSet, after_cuts, cuts_work, some_bit}
use Rattle.dual_rail.proofs.Works.{So-start, Built-made}
use Rattle.gate_sets.specs.declared.net_rails.NetRails.{NetRails}
use Rattle.gate_sets.specs.NetSets.{AreNetRails, HasNetSet}
use Rattle.sym_step.proofs.Framing.{unlisted}
use Rattle.sym_step.proofs.cuts.cut_full.Goals as goal

pub returns-then-not-is_asked : goal.returns-then-not-is_asked
returns-then-not-is_asked g c = λ ds sets zip h everywhere only.
    let s : Store = g.N.Nodes.store c.args.nodes.now in
    let id : ℕ = c.args.id in
    let w : SymbolicSet = sets id in
    let work : List Function = some_bit (after_cuts ds sets id) ∷ cuts_work ds sets in
    let one = one_means s (g.met.N.Nodes.diagram c.args.nodes.now) in
    let made : NetRails = record { can0 = c.args.r.can0; can1 = c.args.r.can1; some = record { 0 = 1 }; known = c.is_clear-known.result } in
    let all : AreNetRails s w made = record { zero = h.zero; one = h.one; some = record { ref = one.ref; value = λ bits l. one.value bits l ∙ sym (everywhere (c.is_full.ensures.0 c.if-is_full.true) bits l) }; known = λ yes. c.is_clear-known.ensures yes s w (g.met.N.Nodes.diagram c.args.nodes.now) h (λ told. only (c.is_known.ensures.0 told)) } in
    Built-made work (HasNetSet (after_cuts ds sets id)) s s made (So-start work s)
    (subst (λ (v : SymbolicSet). AreNetRails s v made) (sym (unlisted s ds c.args.demands.now.weak c.args.demands.now.cuts id sets zip (c.is_asked.ensures c.if-not-is_asked.true))) all)
