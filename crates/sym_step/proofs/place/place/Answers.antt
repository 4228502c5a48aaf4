use Rattle.std.proofs.Common.{◌≡◌, ◌≢◌, ℕ, Bool, true, false, List, ◌∷◌, ◌++◌, ◌∙◌, ap, refl, sym, subst}
use Rattle.ste_base.specs.Functions.{Function}
use Rattle.dd_nodes.specs.Stores.{Store}
use Rattle.net_core.specs.declared.raw.Gate.{Gate}
use Rattle.net_core.specs.Possible.{is_weakened}
use Rattle.net_core.specs.Work.{SymbolicSet, after_cuts, cuts_work, everything, one_gate_work, output_set, some_bit, unless_weakened}
use Rattle.dual_rail.specs.Rail.{AreRails, Built}
use Rattle.gate_sets.specs.NetSets.{HasNetSet}
use Rattle.sym_step.specs.Step.{ids_of}
use Rattle.sym_step.proofs.Sourced.{unknown_set}
use Rattle.sym_step.proofs.place.place.Goals as goal

pub returns-then-is_weak-clause-built : goal.returns-then-is_weak-clause-built
returns-then-is_weak-clause-built g c = λ ds before sets zip have is.
    let s : Store = g.N.Nodes.store c.args.nodes.now in
    let u : Store = g.N.Nodes.store c.cut_full.new.nodes in
    let net = c.args.net.now.raw in
    let gate : Gate = c.args.g.now in
    let out : ℕ = gate.output.0 in
    let weak : is_weakened (ids_of c.args.demands.now.weak) out ≡ true = sym c.is_weak.ensures ∙ c.if-is_weak.true in
    let free : before out ≡ everything = is ∙ ap (λ (b : Bool). unless_weakened b (output_set net sets gate)) weak in
    let rails : AreRails s (before out) c.free.result =
    subst (λ (w : SymbolicSet). AreRails s w c.free.result) (sym free) (subst (AreRails s everything) (sym c.free.ensures) (unknown_set s (g.met.N.Nodes.diagram c.args.nodes.now))) in
    let some : Function = some_bit (after_cuts ds before out) in
    subst (λ (b : Bool). Built (some ∷ (one_gate_work b net sets gate ++ cuts_work ds before)) (HasNetSet (after_cuts ds before out)) s u c.cut_full.result) (sym weak)
    (c.cut_full.ensures ds before zip rails (λ full bits l. ap (λ (w : SymbolicSet). some_bit w bits) free) (λ known. absurd (cc known)))

pub returns-clause-built : goal.returns-clause-built
returns-clause-built g c = λ ds before sets zip have is.
    let s : Store = g.N.Nodes.store c.args.nodes.now in
    let u : Store = g.N.Nodes.store c.driven.new.nodes in
    let net = c.args.net.now.raw in
    let gate : Gate = c.args.g.now in
    let out : ℕ = gate.output.0 in
    let weak : is_weakened (ids_of c.args.demands.now.weak) out ≡ false = sym c.is_weak.ensures ∙ c.if-is_weak.false in
    let some : Function = some_bit (after_cuts ds before out) in
    subst (λ (b : Bool). Built (some ∷ (one_gate_work b net sets gate ++ cuts_work ds before)) (HasNetSet (after_cuts ds before out)) s u c.driven.result) (sym weak)
    (c.driven.ensures.built ds before sets zip have (is ∙ ap (λ (b : Bool). unless_weakened b (output_set net sets gate)) weak))
