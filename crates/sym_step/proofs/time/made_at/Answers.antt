use Rattle.std.proofs.Common.{◌≡◌, ℕ, List, Option, Some, map, subst, sym, ◌∙◌, ap, Ok}
use Rattle.dd_nodes.specs.declared.node.Ref.{Ref}
use Rattle.ste_base.specs.Functions.{Function}
use Rattle.dd_nodes.specs.Stores.{Store}
use Rattle.net_core.specs.declared.raw.RawNet.{RawNet}
use Rattle.net_core.specs.Work.{SymbolicSet, time_work}
use Rattle.dual_rail.specs.declared.rails.Rails.{Rails}
use Rattle.std.specs.List.{AllZip}
use Rattle.dual_rail.specs.Rail.{AreRails}
use Rattle.dual_rail.proofs.Works.{So-start, Built-made, lost, first, pass}
use Rattle.sym_step.specs.declared.frame.Frame.{Frame}
use Rattle.sym_step.specs.declared.made.Step.{Step}
use Rattle.sym_step.specs.Step.{IsStep}
use Rattle.sym_step.specs.Frame.{AreFirst, first_or, input_rails, nets_of, step_of}
use Rattle.sym_step.proofs.Framing.{same_step, with_first}
use Rattle.sym_step.proofs.time.made_at.Goals as goal

abbrev Good : RawNet → (ℕ → SymbolicSet) → Frame → Store → Ref → Type 0
Good net sets frame t r = IsStep net sets t (step_of net frame r)

pub time_at-requires-clause-frame : goal.time_at-requires-clause-frame
time_at-requires-clause-frame g c =
    let s : Store = g.N.Nodes.store c.args.nodes.now in
    let net = c.args.net.now.raw in
    let is : c.from.result ≡ c.args.latches.now = c.from.ensures ∙ c.in_ok-to_vec.ensures.items_if_clones_equal (λ x y e. e) in
    let first : AreFirst s net c.from.result = subst (AreFirst s net) (sym is) (record { long = c.requires.long; refs = c.requires.latches }) in
    with_first s net c.args.frame.now (Some c.from.result) c.requires.frame (λ sets some. let same : c.from.result ≡ sets = cc some in subst (AreFirst s net) same first)

pub returns-in_err-contradictory-clause-built : goal.returns-in_err-contradictory-clause-built
returns-in_err-contradictory-clause-built g c = λ ls asked sets zip zipc weak family.
    let s : Store = g.N.Nodes.store c.args.nodes.now in
    let t : Store = g.N.Nodes.store c.time_at.new.nodes in
    let net = c.args.net.now in
    let work : List Function = time_work net.raw ls asked sets in
    let told = subst (λ (xs : List Rails). AllZip (AreRails s) ls xs) (sym (c.from.ensures ∙ c.in_ok-to_vec.ensures.items_if_clones_equal (λ x y e. e))) zip in
    pass work (Good net.raw sets c.time_at.new.frame) (IsStep net.raw sets) s s t c.in_err-contradictory.field-0.0 c.from_residual-in_err-contradictory.result (g.met.N.Nodes.diagram c.args.nodes.now) (g.met.N.Nodes.diagram c.time_at.new.nodes) (So-start work s)
    (c.in_err-contradictory.ensures.built ls asked sets told zipc weak family) c.from_residual-in_err-contradictory.ensures.1

pub returns-in_err-made-clause-built : goal.returns-in_err-made-clause-built
returns-in_err-made-clause-built g c = λ ls asked sets zip zipc weak family.
    let s : Store = g.N.Nodes.store c.args.nodes.now in
    let t : Store = g.N.Nodes.store c.time_at.new.nodes in
    let net = c.args.net.now in
    let work : List Function = time_work net.raw ls asked sets in
    let told = subst (λ (xs : List Rails). AllZip (AreRails s) ls xs) (sym (c.from.ensures ∙ c.in_ok-to_vec.ensures.items_if_clones_equal (λ x y e. e))) zip in
    let so1 = first work (Good net.raw sets c.time_at.new.frame) s t (Ok c.in_ok-contradictory.contradictory) (c.in_ok-contradictory.ensures.built ls asked sets told zipc weak family) in
    lost work (IsStep net.raw sets) s t c.from_residual-in_err-made.result so1 c.from_residual-in_err-made.ensures.1

pub returns-clause-built : goal.returns-clause-built
returns-clause-built g c = λ ls asked sets zip zipc weak family.
    let s : Store = g.N.Nodes.store c.args.nodes.now in
    let t : Store = g.N.Nodes.store c.time_at.new.nodes in
    let net = c.args.net.now in
    let frame : Frame = c.time_at.new.frame in
    let work : List Function = time_work net.raw ls asked sets in
    let told = subst (λ (xs : List Rails). AllZip (AreRails s) ls xs) (sym (c.from.ensures ∙ c.in_ok-to_vec.ensures.items_if_clones_equal (λ x y e. e))) zip in
    let b = c.in_ok-contradictory.ensures.built ls asked sets told zipc weak family in
    let so1 = first work (Good net.raw sets frame) s t (Ok c.in_ok-contradictory.contradictory) b in
    let made : Step = c.in_ok-made.made in
    let q = c.in_ok-made.ensures in
    let next = q.next ∙ sym (ap (λ (o : Option (List Rails)). first_or o (map (input_rails (nets_of frame)) net.raw.latches)) c.in_ok-contradictory.ensures.first) in
    Built-made work (IsStep net.raw sets) s t made so1 (same_step net.raw sets t frame c.in_ok-contradictory.contradictory made q.nets q.contradictory next b.ok)
