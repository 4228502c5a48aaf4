use Rattle.std.proofs.Common.{List, ℕ, sym, ◌∙◌, subst}
use Rattle.ste_base.specs.Functions.{Function}
use Rattle.dd_nodes.specs.Stores.{Store}
use Rattle.net_core.specs.Work.{SymbolicSet, after_cuts, cuts_work}
use Rattle.dual_rail.specs.Rail.{AreRails}
use Rattle.dual_rail.proofs.Works.{So-start, Built-made}
use Rattle.net_core.specs.declared.source.Source.TheVariants.{Input, Free, Latch as OfLatch}
use Rattle.net_core.specs.Work.{set_before_cuts, everything}
use Rattle.dual_rail.proofs.Works.{Built-good}
use Rattle.net_core.specs.Possible.{is_weakened}
use Rattle.sym_step.specs.Step.{ids_of}
use Rattle.sym_step.proofs.Listed.{unless_both}
use Rattle.sym_step.proofs.Sourced.{unknown_set, before_by}
use Rattle.gate_sets.specs.NetSets.{HasNetSet}
use Rattle.gate_sets.proofs.NetRefs.{refs_of_net}
use Rattle.net_core.specs.Work.{some_bit}
use Rattle.std.proofs.Common.{◌∷◌}
use Rattle.std.proofs.Common.{◌≡◌, ◌≢◌, ⊎_elim}
use Rattle.net_core.specs.declared.raw.RawNet.{RawNet}
use Rattle.net_core.specs.declared.source.Source.{Source}
use Rattle.net_core.specs.declared.source.Source.TheVariants.{Gate as OfGate}
use Rattle.net_core.specs.Source.{source_of}
use Rattle.sym_step.specs.Frame.{IsOpen}
use Rattle.sym_step.specs.private.Frames.{IsOpened}
use Rattle.sym_step.proofs.source.open_source.Goals as goal

driven : (net : RawNet) (id : ℕ) (src : Source) → src ≢ Input → src ≢ Free → source_of net id ≡ src → IsOpen net id → ⊥
driven net id src a b e is = ⊎_elim (λ (f : source_of net id ≡ Input). a (sym e ∙ f)) (λ (f : source_of net id ≡ Free). b (sym e ∙ f)) is

pub returns-in-Gate : goal.returns-in-Gate
returns-in-Gate g c = λ ls ds sets zip.
    let s : Store = g.N.Nodes.store c.args.nodes.now in
    let net = c.args.net.now.raw in
    let w : SymbolicSet = after_cuts ds (set_before_cuts net (ids_of c.args.demands.now.weak) ls sets) c.args.id in
    let work : List Function = some_bit w ∷ cuts_work ds (set_before_cuts net (ids_of c.args.demands.now.weak) ls sets) in
    Built-made work (IsOpened net w s c.args.now c.args.id) s s c.args.now (So-start work s)
    (c.requires.now, ⊎_elim (λ is. absurd (driven net c.args.id (OfGate c.in-Gate.field-0) (λ e. cc) (λ e. cc) (sym c.in-Gate.ensures) is)) (λ h. h))

pub returns-in-Latch : goal.returns-in-Latch
returns-in-Latch g c = λ ls ds sets zip.
    let s : Store = g.N.Nodes.store c.args.nodes.now in
    let net = c.args.net.now.raw in
    let w : SymbolicSet = after_cuts ds (set_before_cuts net (ids_of c.args.demands.now.weak) ls sets) c.args.id in
    let work : List Function = some_bit w ∷ cuts_work ds (set_before_cuts net (ids_of c.args.demands.now.weak) ls sets) in
    Built-made work (IsOpened net w s c.args.now c.args.id) s s c.args.now (So-start work s)
    (c.requires.now, ⊎_elim (λ is. absurd (driven net c.args.id (OfLatch c.in-Latch.field-0) (λ e. cc) (λ e. cc) (sym c.in-Latch.ensures) is)) (λ h. h))

pub returns-in-Input : goal.returns-in-Input
returns-in-Input g c = λ ls ds sets zip.
    let s : Store = g.N.Nodes.store c.args.nodes.now in
    let t : Store = g.N.Nodes.store c.cut_net.new.nodes in
    let net = c.args.net.now.raw in
    let before : ℕ → SymbolicSet = set_before_cuts net (ids_of c.args.demands.now.weak) ls sets in
    let have : AreRails s (before c.args.id) c.free.result = subst (λ (w : SymbolicSet). AreRails s w c.free.result) (sym (before_by net (ids_of c.args.demands.now.weak) ls sets c.args.id Input c.in-Input.ensures ∙ unless_both (is_weakened (ids_of c.args.demands.now.weak) c.args.id))) (subst (AreRails s everything) (sym c.free.ensures) (unknown_set s (g.met.N.Nodes.diagram c.args.nodes.now))) in
    Built-good (some_bit (after_cuts ds before c.args.id) ∷ cuts_work ds before) (HasNetSet (after_cuts ds before c.args.id)) (IsOpened net (after_cuts ds before c.args.id) s c.args.now c.args.id) s t c.cut_net.result (λ a h. (refs_of_net t _ a h, λ is. h)) (c.cut_net.ensures ds before zip have)

pub returns-in-Free : goal.returns-in-Free
returns-in-Free g c = λ ls ds sets zip.
    let s : Store = g.N.Nodes.store c.args.nodes.now in
    let t : Store = g.N.Nodes.store c.cut_net-in-Free.new.nodes in
    let net = c.args.net.now.raw in
    let before : ℕ → SymbolicSet = set_before_cuts net (ids_of c.args.demands.now.weak) ls sets in
    let have : AreRails s (before c.args.id) c.free-in-Free.result = subst (λ (w : SymbolicSet). AreRails s w c.free-in-Free.result) (sym (before_by net (ids_of c.args.demands.now.weak) ls sets c.args.id Free c.in-Free.ensures ∙ unless_both (is_weakened (ids_of c.args.demands.now.weak) c.args.id))) (subst (AreRails s everything) (sym c.free-in-Free.ensures) (unknown_set s (g.met.N.Nodes.diagram c.args.nodes.now))) in
    Built-good (some_bit (after_cuts ds before c.args.id) ∷ cuts_work ds before) (HasNetSet (after_cuts ds before c.args.id)) (IsOpened net (after_cuts ds before c.args.id) s c.args.now c.args.id) s t c.cut_net-in-Free.result (λ a h. (refs_of_net t _ a h, λ is. h)) (c.cut_net-in-Free.ensures ds before zip have)
