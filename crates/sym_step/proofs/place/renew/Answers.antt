use Rattle.std.proofs.Common.{◌≡◌, ◌<◌, ◌∷◌, ◌++◌, ℕ, List, All, length, get_or-set_same, sym, ◌∙◌, ap, subst, Ok}
use Rattle.ste_base.specs.Functions.{Function}
use Rattle.dd_nodes.specs.Stores.{Store}
use Rattle.net_core.specs.declared.raw.Gate.{Gate}
use Rattle.net_core.specs.Work.{SymbolicSet, after_cuts, cuts_work, output_set, some_bit}
use Rattle.dual_rail.specs.Rail.{Whatever}
use Rattle.dual_rail.proofs.Works.{Built-made, So-start, first, pass}
use Rattle.gate_sets.specs.declared.net_rails.NetRails.{NetRails}
use Rattle.gate_sets.specs.NetSets.{AreNetRails, AreNetRefs, HasNetSet, HaveInputs, net_at}
use Rattle.sym_step.specs.private.Parts.{placed_work}
use Rattle.sym_step.proofs.Framing.{unlisted}
use Rattle.sym_step.proofs.Listed.{as_driven}
use Rattle.sym_step.proofs.Sourced.{unknown}
use Rattle.sym_step.proofs.place.renew.Goals as goal

moved : (s : Store) (sets : ℕ → SymbolicSet) (nets read : List NetRails) (gate : Gate) → read ≡ nets → HaveInputs s sets nets gate.inputs → HaveInputs s sets read gate.inputs
moved s sets nets read gate e h = subst (λ (xs : List NetRails). HaveInputs s sets xs gate.inputs) (sym e) h

pub returns-then-not-is_marked-clause-have : goal.returns-then-not-is_marked-clause-have
returns-then-not-is_marked-clause-have g c = λ ds before sets zip have is.
    let s : Store = g.N.Nodes.store c.args.nodes.now in
    let gate : Gate = c.args.g.now in
    let p = c.requires.spared (sym c.is_marked.ensures ∙ c.if-not-is_marked.true) in
    let r : NetRails = net_at c.args.board.now.nets.items gate.output.0 in
    subst (λ (w : SymbolicSet). AreNetRails s w r) (sym (unlisted s ds c.args.demands.now.weak c.args.demands.now.cuts gate.output.0 before zip p.uncut ∙ is
    ∙ as_driven c.args.demands.now.weak c.args.demands.now.cuts gate.output.0 (output_set c.args.net.now.raw sets gate) p.uncut)) (p.given sets have)

pub constant_set-requires-clause-inside : goal.constant_set-requires-clause-inside
constant_set-requires-clause-inside g c = subst (λ (xs : List NetRails). All (λ input. input.0 < length xs) c.args.g.now.inputs) (sym c.as_slice-nets.ensures.value) c.requires.inside

pub returns-then-not-is_asked-clause-have : goal.returns-then-not-is_asked-clause-have
returns-then-not-is_asked-clause-have g c = λ ds before sets zip have is.
    let s : Store = g.N.Nodes.store c.args.nodes.now in
    let gate : Gate = c.args.g.now in
    let out = gate.output.0 in
    let nets : List NetRails = c.args.board.now.nets.items in
    let r : NetRails = c.in-Some.r in
    let none = c.is_asked.ensures c.if-not-is_asked.true in
    let given : AreNetRails s (output_set c.args.net.now.raw sets gate) r =
    c.in-Some.ensures.set s sets (g.met.N.Nodes.diagram c.args.nodes.now) (moved s sets nets c.as_slice-nets.result.now gate c.as_slice-nets.ensures.value have) in
    subst (AreNetRails s (after_cuts ds before out)) (sym (ap (λ (xs : List NetRails). net_at xs out) c.put.ensures.nets ∙ get_or-set_same nets out r unknown c.requires.output))
    (subst (λ (w : SymbolicSet). AreNetRails s w r) (sym (unlisted s ds c.args.demands.now.weak c.args.demands.now.cuts out before zip none ∙ is
    ∙ as_driven c.args.demands.now.weak c.args.demands.now.cuts out (output_set c.args.net.now.raw sets gate) none)) given)

pub place-requires-clause-inside : goal.place-requires-clause-inside
place-requires-clause-inside g c = subst (λ (xs : List NetRails). All (λ input. input.0 < length xs) c.args.g.now.inputs) (sym c.as_slice-nets.ensures.value) c.requires.inside

pub place-requires-clause-refs : goal.place-requires-clause-refs
place-requires-clause-refs g c =
    let s : Store = g.N.Nodes.store c.args.nodes.now in
    subst (λ (xs : List NetRails). All (AreNetRefs s) xs) (sym c.as_slice-nets.ensures.value) c.requires.refs

pub returns-in_err-r-clause-built : goal.returns-in_err-r-clause-built
returns-in_err-r-clause-built g c = λ ds before sets zip have is.
    let s : Store = g.N.Nodes.store c.args.nodes.now in
    let t : Store = g.N.Nodes.store c.place.new.nodes in
    let gate : Gate = c.args.g.now in
    let w : SymbolicSet = after_cuts ds before gate.output.0 in
    let work : List Function = some_bit w ∷ (placed_work c.args.demands.now.weak c.args.net.now.raw sets gate ++ cuts_work ds before) in
    pass work (HasNetSet w) Whatever s s t c.in_err-r.field-0.0 c.from_residual.result (g.met.N.Nodes.diagram c.args.nodes.now) (g.met.N.Nodes.diagram c.place.new.nodes) (So-start work s)
    (c.in_err-r.ensures.built ds before sets zip (moved s sets c.args.board.now.nets.items c.as_slice-nets.result.now gate c.as_slice-nets.ensures.value have) is) c.from_residual.ensures.1

pub returns-clause-built : goal.returns-clause-built
returns-clause-built g c = λ ds before sets zip have is.
    let s : Store = g.N.Nodes.store c.args.nodes.now in
    let t : Store = g.N.Nodes.store c.place.new.nodes in
    let gate : Gate = c.args.g.now in
    let w : SymbolicSet = after_cuts ds before gate.output.0 in
    let work : List Function = some_bit w ∷ (placed_work c.args.demands.now.weak c.args.net.now.raw sets gate ++ cuts_work ds before) in
    let b = c.in_ok-r.ensures.built ds before sets zip (moved s sets c.args.board.now.nets.items c.as_slice-nets.result.now gate c.as_slice-nets.ensures.value have) is in
    Built-made work Whatever s t tt (first work (HasNetSet w) s t (Ok c.in_ok-r.r) b) tt

pub returns-clause-have : goal.returns-clause-have
returns-clause-have g c = λ ds before sets zip have is.
    let s : Store = g.N.Nodes.store c.args.nodes.now in
    let t : Store = g.N.Nodes.store c.place.new.nodes in
    let gate : Gate = c.args.g.now in
    let out = gate.output.0 in
    let w : SymbolicSet = after_cuts ds before out in
    let r : NetRails = c.in_ok-r.r in
    subst (AreNetRails t w) (sym (ap (λ (xs : List NetRails). net_at xs out) c.put-2.ensures.nets ∙ get_or-set_same c.args.board.now.nets.items out r unknown c.requires.output))
    (c.in_ok-r.ensures.built ds before sets zip (moved s sets c.args.board.now.nets.items c.as_slice-nets.result.now gate c.as_slice-nets.ensures.value have) is).ok
