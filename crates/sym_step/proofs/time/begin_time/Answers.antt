use Rattle.std.proofs.Common.{List, refl, subst, sym}
use Rattle.std.specs.Global.{Vec}
use Rattle.std.specs.List.{AllZip}
use Rattle.std.proofs.lemmas.Result.{IfOk-weaker, on_ok_weaker}
use Rattle.ste_base.specs.declared.id.NodeId.{NodeId}
use Rattle.dual_rail.specs.declared.rails.Rails.{Rails}
use Rattle.dual_rail.specs.Rail.{AreRails}
use Rattle.sym_step.specs.declared.frame.Frame.{Frame}
use Rattle.gate_sets.specs.declared.net_rails.NetRails.{NetRails}
use Rattle.sym_step.specs.Frame.{next_of}
use Rattle.sym_step.specs.private.Frames.{AreCarried}
use Rattle.sym_step.specs.private.Demands.{nodes_of}
use Rattle.sym_step.specs.private.Latches.{AreGiven, AreLatchSets, Begins}
use Rattle.sym_step.proofs.Framing.{next_first}
use Rattle.sym_step.proofs.Latched.{begins, frame_given, next_same, sets_held}
use Rattle.net_core.specs.Work.{ArePossibleEach, SymbolicAsked}
use Rattle.sym_step.proofs.Listed.{as_asked}
use Rattle.sym_step.proofs.time.begin_time.Goals as goal

pub latch_sets-requires-clause-nets : goal.latch_sets-requires-clause-nets
latch_sets-requires-clause-nets c = (c.in_ok-make_due.ensures.frame c.requires.frame.0 c.requires.frame.1).0.long

pub latch_sets-requires-clause-due : goal.latch_sets-requires-clause-due
latch_sets-requires-clause-due c = (c.in_ok-make_due.ensures.frame c.requires.frame.0 c.requires.frame.1).0.due

pub latch_sets-requires-clause-lists : goal.latch_sets-requires-clause-lists
latch_sets-requires-clause-lists c = (c.in_ok-make_due.ensures.frame c.requires.frame.0 c.requires.frame.1).0.lists

pub latch_sets-requires-clause-first : goal.latch_sets-requires-clause-first
latch_sets-requires-clause-first c =
    let p = c.in_ok-make_due.ensures.frame c.requires.frame.0 c.requires.frame.1 in
    (next_first c.requires.frame.0 c.args.net.now.raw c.make_due.new.frame c.args.net.now.in_range p.0).long

pub make_due-requires-clause-before : goal.make_due-requires-clause-before
make_due-requires-clause-before c = c.requires.frame.1.inside

pub returns-clause-begins : goal.returns-clause-begins
returns-clause-begins c =
    let net = c.args.net.now.raw in
    let asked : List NodeId = nodes_of c.args.demands.now.weak c.args.demands.now.cuts in
    let frame : Frame = c.make_due.new.frame in
    let q = c.latch_sets.ensures in
    on_ok_weaker c.latch_sets.result (λ carried s f.
    let p = c.in_ok-make_due.ensures.frame s f in
    subst (Begins s net asked) (sym q.rest) (begins s net asked frame c.latch_sets.new.frame.board p.0 p.1 q.nets q.readers q.full q.order q.long q.gates (carried p.2))) q.carried

pub returns-clause-held : goal.returns-clause-held
returns-clause-held c =
    let net = c.args.net.now.raw in
    let asked : List NodeId = nodes_of c.args.demands.now.weak c.args.demands.now.cuts in
    let frame : Frame = c.make_due.new.frame in
    let range = c.args.net.now.in_range in
    IfOk-weaker c.latch_sets.result (λ sets. AreCarried net asked frame.board → AreLatchSets net (next_of net frame) c.args.demands.now.weak asked frame.board.nets.items sets.items) _ (λ sets are s good f.
    let p = c.in_ok-make_due.ensures.frame s f in
    sets_held s net (next_of net frame) c.args.demands.now.weak asked frame.board.nets.items sets.items good range p.0.long (next_first s net frame range p.0) p.0.refs (are p.2)) c.latch_sets.ensures.sets

pub returns-clause-given : goal.returns-clause-given
returns-clause-given c =
    let net = c.args.net.now.raw in
    let asked : List NodeId = nodes_of c.args.demands.now.weak c.args.demands.now.cuts in
    let frame : Frame = c.make_due.new.frame in
    let same = next_same net c.args.frame.now frame c.in_ok-make_due.ensures.first c.in_ok-make_due.ensures.nets in
    IfOk-weaker c.latch_sets.result (λ sets. AreCarried net asked frame.board → AreLatchSets net (next_of net frame) c.args.demands.now.weak asked frame.board.nets.items sets.items) _ (λ sets are s ls demands family good f zip zipc weak possible.
    let p = c.in_ok-make_due.ensures.frame s f in
    subst (λ (v : Vec NetRails). AreGiven s net c.args.demands.now.weak ls family sets.items v.items) (sym c.latch_sets.ensures.nets)
    (frame_given net c.args.net.now.in_range c.args.net.now.one_driver ls c.args.demands.now.weak demands.cuts family s frame c.args.demands.now.cuts asked sets.items good p.0 (subst (λ (next : List Rails). AllZip (AreRails s) ls next) (sym same) zip)
    (as_asked (λ (a : SymbolicAsked). ArePossibleEach s.vars net ls a family) demands c.args.demands.now.weak weak possible) zipc refl (are p.2)))
    c.latch_sets.ensures.sets

pub latch_sets-requires-clause-gates : goal.latch_sets-requires-clause-gates
latch_sets-requires-clause-gates c = (c.in_ok-make_due.ensures.frame c.requires.frame.0 c.requires.frame.1).0.order.long
