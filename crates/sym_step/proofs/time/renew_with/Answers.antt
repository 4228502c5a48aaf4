use Rattle.std.specs.Global.{Vec}
use Rattle.std.proofs.Common.{◌≡◌, ◌+◌, ◌<◌, ℕ, List, arith, All, ap, drop, get_or, length, refl, sym, ◌∙◌, subst, Ok}
use Rattle.std.proofs.lemmas.List.{length-map}
use Rattle.std.proofs.lemmas.Bool.{false≢true}
use Rattle.dd_nodes.specs.declared.node.Ref.{Ref}
use Rattle.ste_base.specs.Functions.{Function}
use Rattle.dd_nodes.specs.Stores.{Store}
use Rattle.dual_rail.specs.declared.rails.Rails.{Rails}
use Rattle.net_core.specs.Work.{SymbolicAsked, SymbolicSet, time_work}
use Rattle.net_core.specs.Flat.{IsSettledOrder}
use Rattle.net_core.proofs.Ordered.{settled_by_order}
use Rattle.ste_base.specs.declared.id.NodeId.{NodeId}
use Rattle.dual_rail.specs.Rail.{Whatever}
use Rattle.dual_rail.proofs.Works.{So-start, Built-made, first, lost, pass, set_where}
use Rattle.dual_rail.proofs.Turns.{own_zip}
use Rattle.sym_step.specs.declared.frame.Frame.{Frame}
use Rattle.gate_sets.specs.declared.net_rails.NetRails.{NetRails}
use Rattle.sym_step.specs.declared.latches.LatchSet.{LatchSet}
use Rattle.sym_step.specs.Frame.{AreFirst, AreOpen, is_listed, next_of}
use Rattle.sym_step.specs.private.Frames.{AreCarried}
use Rattle.sym_step.specs.private.Latches.{AreGiven, IsLatchSet}
use Rattle.sym_step.specs.private.Readers.{AreReaders}
use Rattle.sym_step.specs.private.Parts.{HaveNets}
use Rattle.sym_step.proofs.Cutting.{own_demands}
use Rattle.sym_step.proofs.Framing.{given_here, next_first, not_first, written}
use Rattle.sym_step.proofs.Latched.{carried_follows}
use Rattle.sym_step.proofs.Opened.{nodes_inside, undriven_here}
use Rattle.sym_step.proofs.Whole as whole
use Rattle.sym_step.proofs.time.renew_with.Goals as goal

pub begin_time-requires-clause-frame : goal.begin_time-requires-clause-frame
begin_time-requires-clause-frame g c = (g.N.Nodes.store c.args.nodes.now, c.requires.frame)

pub set_nets-requires-clause-latches : goal.set_nets-requires-clause-latches
set_nets-requires-clause-latches g c =
    let s : Store = g.N.Nodes.store c.args.nodes.now in
    subst (All (IsLatchSet s c.args.net.now.raw)) (sym c.deref-6.ensures.value) (c.in_ok-latches.ensures.held s (g.met.N.Nodes.diagram c.args.nodes.now) c.requires.frame)

pub set_nets-requires-clause-spared : goal.set_nets-requires-clause-spared
set_nets-requires-clause-spared g c = (c.in_ok-latches.ensures.begins (g.N.Nodes.store c.args.nodes.now) c.requires.frame).spared

pub set_nets-requires-clause-room : goal.set_nets-requires-clause-room
set_nets-requires-clause-room g c =
    subst (λ (xs : List Ref). All (λ gate. length gate.inputs < length xs) c.args.net.now.raw.gates) (sym c.deref_mut.ensures.value) (c.in_ok-latches.ensures.begins (g.N.Nodes.store c.args.nodes.now) c.requires.frame).room

pub set_nets-requires-clause-nets : goal.set_nets-requires-clause-nets
set_nets-requires-clause-nets g c = (c.in_ok-latches.ensures.begins (g.N.Nodes.store c.args.nodes.now) c.requires.frame).long

pub set_nets-requires-clause-refs : goal.set_nets-requires-clause-refs
set_nets-requires-clause-refs g c = (c.in_ok-latches.ensures.begins (g.N.Nodes.store c.args.nodes.now) c.requires.frame).refs

pub set_nets-requires-clause-due : goal.set_nets-requires-clause-due
set_nets-requires-clause-due g c = let size = (c.in_ok-latches.ensures.begins (g.N.Nodes.store c.args.nodes.now) c.requires.frame).due in omega (arith, size)

pub set_nets-requires-clause-order : goal.set_nets-requires-clause-order
set_nets-requires-clause-order g c = (c.in_ok-latches.ensures.begins (g.N.Nodes.store c.args.nodes.now) c.requires.frame).order

pub set_nets-requires-clause-before : goal.set_nets-requires-clause-before
set_nets-requires-clause-before g c =
    subst (All (λ (node : NodeId). node.0 < c.args.net.now.raw.nets)) (sym c.deref-7.ensures.value) (c.in_ok-latches.ensures.begins (g.N.Nodes.store c.args.nodes.now) c.requires.frame).inside

pub set_nets-requires-clause-undriven : goal.set_nets-requires-clause-undriven
set_nets-requires-clause-undriven g c =
    let s : Store = g.N.Nodes.store c.args.nodes.now in
    subst (λ (xs : List NodeId). AreOpen s c.args.net.now.raw xs c.begin_time.new.frame.board.nets.items) (sym c.deref-7.ensures.value) (c.in_ok-latches.ensures.begins s c.requires.frame).undriven

pub returns-in_err-asked-clause-built : goal.returns-in_err-asked-clause-built
returns-in_err-asked-clause-built g c = λ ls asked sets zip zipc weak family.
    let s : Store = g.N.Nodes.store c.args.nodes.now in
    let work : List Function = time_work c.args.net.now.raw ls asked sets in
    lost work Whatever s s c.from_residual-in_err-asked.result (So-start work s) c.from_residual-in_err-asked.ensures.1

pub returns-in_err-latches-clause-built : goal.returns-in_err-latches-clause-built
returns-in_err-latches-clause-built g c = λ ls asked sets zip zipc weak family.
    let s : Store = g.N.Nodes.store c.args.nodes.now in
    let work : List Function = time_work c.args.net.now.raw ls asked sets in
    lost work Whatever s s c.from_residual-in_err-latches.result (So-start work s) c.from_residual-in_err-latches.ensures.1

pub returns-in_err-set_nets-clause-built : goal.returns-in_err-set_nets-clause-built
returns-in_err-set_nets-clause-built g c = λ ls asked sets zip zipc weak family.
    let s : Store = g.N.Nodes.store c.args.nodes.now in
    let t : Store = g.N.Nodes.store c.set_nets.new.nodes in
    let work : List Function = time_work c.args.net.now.raw ls asked sets in
    let given = subst (λ (xs : List LatchSet). AreGiven s c.args.net.now.raw c.args.weak.now ls sets xs c.begin_time.new.frame.board.nets.items) (sym c.deref-6.ensures.value)
    (c.in_ok-latches.ensures.given s ls asked sets (g.met.N.Nodes.diagram c.args.nodes.now) c.requires.frame zip zipc weak family) in
    pass work Whatever Whatever s s t c.in_err-set_nets.field-0.0 c.from_residual-in_err-set_nets.result (g.met.N.Nodes.diagram c.args.nodes.now) (g.met.N.Nodes.diagram c.set_nets.new.nodes) (So-start work s)
    (c.in_err-set_nets.ensures.built ls asked sets given zipc weak family) c.from_residual-in_err-set_nets.ensures.1

pub returns-clause-built : goal.returns-clause-built
returns-clause-built g c = λ ls asked sets zip zipc weak family.
    let s : Store = g.N.Nodes.store c.args.nodes.now in
    let t : Store = g.N.Nodes.store c.set_nets.new.nodes in
    let work : List Function = time_work c.args.net.now.raw ls asked sets in
    let given = subst (λ (xs : List LatchSet). AreGiven s c.args.net.now.raw c.args.weak.now ls sets xs c.begin_time.new.frame.board.nets.items) (sym c.deref-6.ensures.value)
    (c.in_ok-latches.ensures.given s ls asked sets (g.met.N.Nodes.diagram c.args.nodes.now) c.requires.frame zip zipc weak family) in
    Built-made work Whatever s t tt (first work Whatever s t (Ok c.in_ok-set_nets.field-0) (c.in_ok-set_nets.ensures.built ls asked sets given zipc weak family)) tt

pub returns-clause-have : goal.returns-clause-have
returns-clause-have g c = λ ls asked sets zip zipc weak family.
    let s : Store = g.N.Nodes.store c.args.nodes.now in
    let given = subst (λ (xs : List LatchSet). AreGiven s c.args.net.now.raw c.args.weak.now ls sets xs c.begin_time.new.frame.board.nets.items) (sym c.deref-6.ensures.value)
    (c.in_ok-latches.ensures.given s ls asked sets (g.met.N.Nodes.diagram c.args.nodes.now) c.requires.frame zip zipc weak family) in
    c.in_ok-set_nets.ensures.have ls asked sets given zipc weak family

pub returns-clause-first : goal.returns-clause-first
returns-clause-first g c = c.in_ok-latches.ensures.first

pub returns-clause-frame : goal.returns-clause-frame
returns-clause-frame g c =
    let s : Store = g.N.Nodes.store c.args.nodes.now in
    let net = c.args.net.now in
    let frame : Frame = c.begin_time.new.frame in
    let p = c.in_ok-latches.ensures.begins s c.requires.frame in
    let u : Store = g.N.Nodes.store c.set_nets.new.nodes in
    let du = g.met.N.Nodes.diagram c.set_nets.new.nodes in
    let nets : List NetRails = c.set_nets.new.board.nets.items in
    let latches : List Rails = next_of net.raw c.args.frame.now in
    let told : AreFirst s net.raw latches = next_first s net.raw c.args.frame.now net.in_range c.requires.frame in
    let cuts = c.args.cuts.now in
    let settled = settled_by_order net.raw net.settled net.in_order in
    let q = c.in_ok-set_nets.ensures in
    let ls : List SymbolicSet = whole.ls net.raw net.in_range settled latches c.args.weak.now cuts s u du told.long told.refs c.requires.cuts in
    let asked : SymbolicAsked = whole.asked net.raw net.in_range settled latches c.args.weak.now cuts s u du told.long told.refs c.requires.cuts in
    let exist = whole.exist net.raw net.in_range settled latches c.args.weak.now cuts s u du told.long told.refs c.requires.cuts in
    let zip = own_zip s latches told.refs in
    let zipc = own_demands s cuts (λ k d l. (c.requires.cuts k d l).guard) (λ k d l. (c.requires.cuts k d l).value) in
    let ids : List NodeId = c.in_ok-asked.asked.items in
    let given = subst (λ (xs : List LatchSet). AreGiven s net.raw c.args.weak.now ls exist.0 xs frame.board.nets.items) (sym c.deref-6.ensures.value)
    (c.in_ok-latches.ensures.given s ls asked exist.0 (g.met.N.Nodes.diagram c.args.nodes.now) c.requires.frame zip zipc refl exist.1) in
    let keeps = (q.built ls asked exist.0 given zipc refl exist.1).spends.keeps in
    let have : HaveNets net.raw exist.0 u nets = q.have ls asked exist.0 given zipc refl exist.1 in
    let long = length-map latches (set_where s) ∙ told.long in
    let room : List Ref = c.set_nets.new.products in
    let same_room : length room ≡ length frame.products.items = q.room ∙ ap length c.deref_mut.ensures.value in
    let back_room = written frame.products.len room (drop (length room) frame.products.items) (frame.products.ok.0 ∙ sym same_room) in
    let carried = carried_follows net.raw ids frame.board c.set_nets.new.board p.due q.follows (subst (λ (xs : List NodeId). AreCarried net.raw xs frame.board) (sym c.in_ok-asked.ensures) p.carried) in
    let count : length c.set_nets.new.board.due.order.items ≡ length net.raw.gates = ap (λ (v : Vec ℕ). length v.items) q.follows.order ∙ p.order.long in
    record {
      long = q.follows.long ∙ p.long;
      refs = q.refs;
      full = q.follows.full p.full;
      due = c.clear_gates.ensures.long ∙ q.follows.marks ∙ p.due;
      order = subst (λ (v : Vec ℕ). IsSettledOrder net.raw v.items) (sym (c.clear_gates.ensures.order ∙ q.follows.order)) p.order;
      room = subst (λ (xs : List Ref). All (λ gate. length gate.inputs < length xs) net.raw.gates) (sym back_room) (subst (λ n. All (λ gate. length gate.inputs < n) net.raw.gates) (sym same_room) p.room);
      inside = subst (All (λ (node : NodeId). node.0 < net.raw.nets)) (sym c.in_ok-asked.ensures) (nodes_inside net.raw.nets c.args.weak.now cuts c.requires.weak (λ k d l. (c.requires.cuts k d l).node));
      undriven = undriven_here net.raw net.in_range net.one_driver ls c.args.weak.now asked.cuts exist.0 long s u cuts ids nets keeps exist.1 zipc c.in_ok-asked.ensures have;
      first = not_first u net.raw frame.first c.in_ok-latches.ensures.first;
      blank = λ none. absurd (false≢true (sym none));
      lists = λ told. subst (AreReaders net.raw) (sym q.follows.readers) (p.lists told);
      spare = p.spare;
      kept = λ k d lt none uncut.
          given_here net.raw net.settled net.in_range net.one_driver net.in_order ls c.args.weak.now asked.cuts exist.0 long s u cuts nets keeps exist.1 zipc have k d lt
          (sym (ap (λ (ids : List NodeId). is_listed ids (get_or net.raw.gates k d).output.0) c.in_ok-asked.ensures) ∙ uncut);
      carried = λ k d lt none uncut. (carried k d lt (sym (c.clear_gates.ensures.rest (length net.raw.gates + k) (omega (arith, count))) ∙ none)).same;
    }
