use Rattle.std.proofs.Common.{ℕ, List, Option, ◌++◌, map, refl, sym, ap, subst, Ok, Err}
use Rattle.std.specs.List.{AllZip}
use Rattle.ste_base.specs.Functions.{Function}
use Rattle.dd_nodes.specs.Stores.{Store}
use Rattle.net_core.specs.Work.{SymbolicSet, sets_below, no_bit, some_bit, sum, sums, time_work}
use Rattle.dual_rail.specs.Rail.{Built, HasFunction, Whatever}
use Rattle.dual_rail.proofs.Works.{So-start, Built-made, Built-wider, first, more, pass}
use Rattle.dd_nodes.specs.declared.node.Ref.{Ref}
use Rattle.dual_rail.specs.declared.rails.Rails.{Rails}
use Rattle.net_core.specs.declared.raw.RawNet.{RawNet}
use Rattle.sym_step.specs.declared.frame.Frame.{Frame}
use Rattle.sym_step.specs.Frame.{first_or, input_rails, nets_of, step_of}
use Rattle.gate_sets.specs.declared.net_rails.NetRails.{NetRails}
use Rattle.gate_sets.specs.NetSets.{AreNetRails, own_where}
use Rattle.sym_step.specs.private.Parts.{HaveNets}
use Rattle.sym_step.specs.Step.{IsStep}
use Rattle.std.specs.Prelude.{IsTrue}
use Rattle.sym_step.specs.private.Boards.{AreFull}
use Rattle.sym_step.proofs.Emptied.{none_empty}
use Rattle.sym_step.proofs.Framing.{frame_keeps, own_nets, with_full}
use Rattle.gate_sets.proofs.NetRefs.{Net-keeps}
use Rattle.sym_step.proofs.Sourced.{sets_zip, empties_within, step_is}
use Rattle.sym_step.proofs.time.time_at.Goals as goal

abbrev Good : RawNet → (ℕ → SymbolicSet) → Frame → Store → Ref → Type 0
Good net sets frame t r = IsStep net sets t (step_of net frame r)

pub returns-in_err-renew_frame-clause-built : goal.returns-in_err-renew_frame-clause-built
returns-in_err-renew_frame-clause-built g c = λ ls asked sets zip zipc weak family.
    let s : Store = g.N.Nodes.store c.args.nodes.now in
    let t : Store = g.N.Nodes.store c.renew_frame.new.nodes in
    let gs = g.met.N.Nodes.diagram c.args.nodes.now in
    let gt = g.met.N.Nodes.diagram c.renew_frame.new.nodes in
    let net = c.args.net.now in
    let work : List Function = time_work net.raw ls asked sets in
    pass work Whatever (Good net.raw sets c.renew_frame.new.frame) s s t c.in_err-renew_frame.field-0.0 c.from_residual.result gs gt (So-start work s) (c.in_err-renew_frame.ensures.built ls asked sets zip zipc weak family) c.from_residual.ensures.1

pub knows_full-frame-requires : goal.knows_full-frame-requires
knows_full-frame-requires g c = subst (λ (xs : List NetRails). IsTrue c.renew_frame.new.frame.board.full → AreFull xs) (sym c.deref.ensures.value) c.in_ok-renew_frame.ensures.frame.full

pub returns-then-frame-clause-built : goal.returns-then-frame-clause-built
returns-then-frame-clause-built g c = λ ls asked sets zip zipc weak family.
    let s : Store = g.N.Nodes.store c.args.nodes.now in
    let t : Store = g.N.Nodes.store c.renew_frame.new.nodes in
    let gt = g.met.N.Nodes.diagram c.renew_frame.new.nodes in
    let net = c.args.net.now in
    let frame : Frame = c.renew_frame.new.frame in
    let nets : List NetRails = frame.board.nets.items in
    let work : List Function = time_work net.raw ls asked sets in
    let p = c.in_ok-renew_frame.ensures in
    let have : HaveNets net.raw sets t nets = p.have ls asked sets zip zipc weak family in
    let so1 = first work Whatever s t (Ok c.in_ok-renew_frame.field-0) (p.built ls asked sets zip zipc weak family) in
    let all : List SymbolicSet = sets_below sets net.raw.nets in
    let full : AreFull nets = subst AreFull c.deref.ensures.value (c.knows_full-frame.ensures c.if-frame.true) in
    let zero : Ref = record { 0 = 0 } in
    Built-made work (Good net.raw sets frame) s t zero so1
    (step_is net.raw sets t nets (step_of net.raw frame zero) net.in_range p.frame.long have refl (none_empty t all nets gt (sets_zip net.raw sets t nets p.frame.long have) full)
    (ap (λ (o : Option (List Rails)). first_or o (map (input_rails (nets_of frame)) net.raw.latches)) p.first))

pub returns-then-frame-clause-frame : goal.returns-then-frame-clause-frame
returns-then-frame-clause-frame g c =
    let t : Store = g.N.Nodes.store c.renew_frame.new.nodes in
    with_full t c.args.net.now.raw c.renew_frame.new.frame c.knows_full-frame.result c.in_ok-renew_frame.ensures.frame (λ told. subst AreFull c.deref.ensures.value (c.knows_full-frame.ensures told))

pub returns-in_err-contradictory-clause-built : goal.returns-in_err-contradictory-clause-built
returns-in_err-contradictory-clause-built g c = λ ls asked sets zip zipc weak family.
    let s : Store = g.N.Nodes.store c.args.nodes.now in
    let t : Store = g.N.Nodes.store c.renew_frame.new.nodes in
    let gs = g.met.N.Nodes.diagram c.args.nodes.now in
    let gt = g.met.N.Nodes.diagram c.renew_frame.new.nodes in
    let net = c.args.net.now in
    let work : List Function = time_work net.raw ls asked sets in
    let nets : List NetRails = c.renew_frame.new.frame.board.nets.items in
    let p = c.in_ok-renew_frame.ensures in
    let have : HaveNets net.raw sets t nets = p.have ls asked sets zip zipc weak family in
    let so1 = first work Whatever s t (Ok c.in_ok-renew_frame.field-0) (p.built ls asked sets zip zipc weak family) in
    let u : Store = g.N.Nodes.store c.some_empty.new.nodes in
    let gu = g.met.N.Nodes.diagram c.some_empty.new.nodes in
    let all : List SymbolicSet = sets_below sets net.raw.nets in
    let part : List Function = map some_bit all ++ (map no_bit all ++ sums (map no_bit all)) in
    let empty : Function = sum (map no_bit all) in
    let zipn : AllZip (AreNetRails t) all c.as_slice.result.now = subst (λ (xs : List NetRails). AllZip (AreNetRails t) all xs) (sym c.as_slice.ensures.value) (sets_zip net.raw sets t nets p.frame.long have) in
    let fault = c.in_err-contradictory.field-0.0 in
    pass work (HasFunction empty) (Good net.raw sets c.renew_frame.new.frame) s t u fault c.from_residual-in_err-contradictory.result gt gu so1
    (Built-wider work part (HasFunction empty) t u (Err fault) (empties_within net.raw asked.weak ls asked.cuts sets) (c.in_err-contradictory.ensures all zipn)) c.from_residual-in_err-contradictory.ensures.1

pub returns-clause-built : goal.returns-clause-built
returns-clause-built g c = λ ls asked sets zip zipc weak family.
    let s : Store = g.N.Nodes.store c.args.nodes.now in
    let t : Store = g.N.Nodes.store c.renew_frame.new.nodes in
    let gs = g.met.N.Nodes.diagram c.args.nodes.now in
    let gt = g.met.N.Nodes.diagram c.renew_frame.new.nodes in
    let net = c.args.net.now in
    let work : List Function = time_work net.raw ls asked sets in
    let nets : List NetRails = c.renew_frame.new.frame.board.nets.items in
    let p = c.in_ok-renew_frame.ensures in
    let have : HaveNets net.raw sets t nets = p.have ls asked sets zip zipc weak family in
    let so1 = first work Whatever s t (Ok c.in_ok-renew_frame.field-0) (p.built ls asked sets zip zipc weak family) in
    let u : Store = g.N.Nodes.store c.some_empty.new.nodes in
    let gu = g.met.N.Nodes.diagram c.some_empty.new.nodes in
    let all : List SymbolicSet = sets_below sets net.raw.nets in
    let part : List Function = map some_bit all ++ (map no_bit all ++ sums (map no_bit all)) in
    let empty : Function = sum (map no_bit all) in
    let zipn : AllZip (AreNetRails t) all c.as_slice.result.now = subst (λ (xs : List NetRails). AllZip (AreNetRails t) all xs) (sym c.as_slice.ensures.value) (sets_zip net.raw sets t nets p.frame.long have) in
    let con = c.in_ok-contradictory.contradictory in
    let e : Built work (HasFunction empty) t u (Ok con) = Built-wider work part (HasFunction empty) t u (Ok con) (empties_within net.raw asked.weak ls asked.cuts sets) (c.in_ok-contradictory.ensures all zipn) in
    let so2 = more work (HasFunction empty) s t u (Ok con) gt gu so1 e in
    let after : HaveNets net.raw sets u nets = λ id lt. Net-keeps t u (sets id) _ gt gu e.spends.keeps (have id lt) in
    let none = p.first in
    Built-made work (Good net.raw sets c.renew_frame.new.frame) s u con so2
    (step_is net.raw sets u nets (step_of net.raw c.renew_frame.new.frame con) net.in_range p.frame.long after refl e.ok (ap (λ (o : Option (List Rails)). first_or o (map (input_rails (nets_of c.renew_frame.new.frame)) net.raw.latches)) none))

pub returns-clause-frame : goal.returns-clause-frame
returns-clause-frame g c =
    let t : Store = g.N.Nodes.store c.renew_frame.new.nodes in
    let u : Store = g.N.Nodes.store c.some_empty.new.nodes in
    let f = c.in_ok-renew_frame.ensures.frame in
    let nets : List NetRails = c.renew_frame.new.frame.board.nets.items in
    let own : List SymbolicSet = map (own_where t) nets in
    let zip : AllZip (AreNetRails t) own c.as_slice.result.now = subst (λ (xs : List NetRails). AllZip (AreNetRails t) own xs) (sym c.as_slice.ensures.value) (own_nets t nets f.refs) in
    let known = with_full t c.args.net.now.raw c.renew_frame.new.frame c.knows_full-frame.result f (λ told. subst AreFull c.deref.ensures.value (c.knows_full-frame.ensures told)) in
    frame_keeps t u c.args.net.now.raw _ c.args.net.now.in_range (g.met.N.Nodes.diagram c.renew_frame.new.nodes) (g.met.N.Nodes.diagram c.some_empty.new.nodes)
    (c.in_ok-contradictory.ensures own zip).spends.keeps known
