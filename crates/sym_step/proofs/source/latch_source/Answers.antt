use Rattle.std.proofs.Common.{◌≡◌, sym, subst, ap, ◌∷◌, List, eqb-true, ◌∙◌}
use Rattle.ste_base.specs.Functions.{Function}
use Rattle.dd_nodes.specs.Stores.{Store}
use Rattle.net_core.specs.Work.{SymbolicSet, after_cuts, cuts_work, some_bit}
use Rattle.dual_rail.proofs.Works.{So-start, Built-made}
use Rattle.gate_sets.specs.NetSets.{AreNetRails, HasNetSet}
use Rattle.sym_step.proofs.Framing.{unlisted}
use Rattle.gate_sets.proofs.NetRefs.{net_by_rails}
use Rattle.dd_nodes.specs.declared.node.Ref.{Ref}
use Rattle.sym_step.proofs.source.latch_source.Goals as goal

pub returns-then-eq-2 : goal.returns-then-eq-2
returns-then-eq-2 g c = λ ds sets zip h.
    let s : Store = g.N.Nodes.store c.args.nodes.now in
    let id = c.args.id in
    let ref : _ → Ref = λ n. record { 0 = n } in
    let zero : c.args.given.can0 ≡ c.args.r.can0 = ap ref (eqb-true _ _ (sym c.eq.ensures ∙ c.if-eq.true)) in
    let one : c.args.given.can1 ≡ c.args.r.can1 = ap ref (eqb-true _ _ (sym c.eq-then-eq.ensures ∙ c.if-eq-2.true)) in
    let w : SymbolicSet = after_cuts ds sets id in
    let work : List Function = some_bit w ∷ cuts_work ds sets in
    Built-made work (HasNetSet w) s s c.args.given (So-start work s)
    (subst (λ (x : SymbolicSet). AreNetRails s x c.args.given) (sym (unlisted s ds c.args.demands.now.weak c.args.demands.now.cuts id sets zip (c.is_asked.ensures c.if-not-is_asked.true)))
    (net_by_rails s (sets id) c.args.given c.args.r zero one c.requires.given h))
