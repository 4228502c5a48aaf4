use Rattle.std.specs.Global.{Vec}
use Rattle.std.proofs.Common.{◌≡◌, ◌+◌, ◌<◌, ◌≤◌, List, length, map, All, ℕ, ◌++◌, refl, sym, ◌∙◌, ap, subst, arith, get_or, Ok, Err, Result, false}
use Rattle.sym_step.specs.private.Parts.{asks, placed_set, placed_work}
use Rattle.std.specs.List.{AllZip}
use Rattle.ste_base.specs.Functions.{Function}
use Rattle.dd_nodes.specs.Stores.{Store, IsRef, function}
use Rattle.dd_nodes.proofs.Walks.{IsFrom-grows}
use Rattle.dd_ops.specs.declared.fault.OpFault.{OpFault}
use Rattle.net_core.specs.Work.{SymbolicSet, SymbolicCut, after_cuts, cuts_work}
use Rattle.dual_rail.specs.Rail.{Built, Whatever}
use Rattle.dual_rail.proofs.Works.{So-start, Built-made, first, pass}
use Rattle.sym_step.proofs.Cutting.{Demands-keep}
use Rattle.dd_nodes.proofs.Stores.{Keeps-refl, Keeps-trans}
use Rattle.sym_step.specs.declared.cut.Cut.{Cut}
use Rattle.sym_step.specs.Step.{IsCutBy}
use Rattle.net_core.specs.declared.raw.Gate.{Gate}
use Rattle.net_core.specs.declared.raw.RawNet.{RawNet}
use Rattle.net_core.specs.Work.{time_work, set_before_cuts}
use Rattle.sym_step.specs.Step.{ids_of}
use Rattle.sym_step.specs.private.Demands.{nodes_of}
use Rattle.net_core.specs.Flat.{IsSettledOrder}
use Rattle.sym_step.proofs.Turning.{before_is, place_turn, placed, ready, set_refs}
use Rattle.sym_step.proofs.Framing.{spared_follows, spared_keeps}
use Rattle.sym_step.proofs.Passing.{passed_to}
use Rattle.sym_step.proofs.Reading.{follows_start, follows_then}
use Rattle.ste_base.specs.declared.id.NodeId.{NodeId}
use Rattle.sym_step.proofs.Cutting.{own_demands}
use Rattle.gate_sets.specs.declared.net_rails.NetRails.{NetRails}
use Rattle.sym_step.specs.private.Boards.{Follows}
use Rattle.sym_step.specs.private.Frames.{AreSpared, IsSpared}
use Rattle.sym_step.specs.private.Readers.{flag_at}
use Rattle.sym_step.specs.private.Parts.{HaveGates}
use Rattle.gate_sets.specs.NetSets.{AreNetRails, AreNetRefs, net_at, own_where}
use Rattle.gate_sets.proofs.NetRefs.{own_inputs, refs_of_net, All-net-refs-keep}
use Rattle.net_core.specs.Work.{some_bit}
use Rattle.std.proofs.Common.{◌∷◌}
use Rattle.sym_step.proofs.place.place_gates.Goals as goal

-- what one call of `renew` says of the work
abbrev Says : {A : Type 0} (net : RawNet) (weak : List NodeId) (cuts : List Cut) (gate : Gate) (t u : Store) (result : Result A OpFault) → List NetRails → Type 0
Says net weak cuts gate t u result nets =
    (bs : List SymbolicCut) (b ws : ℕ → SymbolicSet) → AllZip (IsCutBy t) bs cuts → All (λ input. AreNetRails t (ws input.0) (net_at nets input.0)) gate.inputs → b gate.output.0 ≡ placed_set weak net ws gate
    → Built (some_bit (after_cuts bs b gate.output.0) ∷ (placed_work weak net ws gate ++ cuts_work bs b)) Whatever t u result

-- the current place, and its gate
record Here (net : RawNet) (order : List ℕ) (n number : ℕ) (gate : Gate) : Type 0 where
  pub within : n < length order
  pub at : number ≡ get_or order n 0
  pub known : number < length net.gates
  pub is : gate ≡ get_or net.gates number gate

here : (net : RawNet) (order now : List ℕ) (gates : List Gate) (n number : ℕ) (gate : Gate) → IsSettledOrder net order → now ≡ order → gates ≡ net.gates → n < length net.gates → number ≡ get_or now n 0 → gate ≡ get_or gates number gate → Here net order n number gate
here net order now gates n number gate is_order same gates_are lt at is =
    let long = is_order.long in
    let within : n < length order = omega (arith, long, lt) in
    let place : number ≡ get_or order n 0 = at ∙ ap (λ (xs : List ℕ). get_or xs n 0) same in
    record {
      within = within;
      at = place;
      known = subst (λ (k : ℕ). k < length net.gates) (sym place) (is_order.gates n 0 within);
      is = is ∙ ap (λ (xs : List Gate). get_or xs number gate) gates_are;
    }

pub loop-place-init : goal.loop-place-init
loop-place-init g c =
    let s : Store = g.N.Nodes.store c.args.nodes.now in
    let gs = g.met.N.Nodes.diagram c.args.nodes.now in
    let net = c.args.net.now in
    let first : ℕ = c.next-place.result in
    let p = c.next-place.ensures in
    record {
      within = p.within;
      room = refl;
      keeps = Keeps-refl s;
      refs = c.requires.refs;
      follows = follows_start c.args.board.now;
      spared = c.requires.spared;
      so = λ ls ds sets long family zip have. (
        So-start (time_work net.raw ls (asks c.args.demands.now.weak ds) sets) s,
        passed_to net.raw c.args.board.now.due.order.items net.in_range net.one_driver c.requires.order ls c.args.demands.now.weak ds sets long s s c.args.demands.now.cuts c.args.board.now gs (Keeps-refl s) c.requires.long family zip c.requires.spared 0 first p.behind p.within p.unmarked have,
      );
    }

pub renew-requires-clause-spared : goal.renew-requires-clause-spared
renew-requires-clause-spared g c =
    let t : Store = g.N.Nodes.store c.loop-place.nodes in
    let net = c.args.net.now in
    let number : ℕ = c.number_at-number.result in
    let inv = c.loop-place.invariant in
    let h = here net.raw c.args.board.now.due.order.items c.loop-place.board.due.order.items c.gates-in-loop-place.result.now c.loop-place.place number c.index-gates-number.result
    c.requires.order (ap (λ (v : Vec ℕ). v.items) inv.follows.order) c.gates-in-loop-place.ensures (subst (λ (xs : List Gate). c.loop-place.place < length xs) c.gates.ensures c.loop-place-test.true) c.number_at-number.ensures c.index-gates-number.is in
    let nodes : List NodeId = nodes_of c.args.demands.now.weak c.args.demands.now.cuts in
    subst (λ (x : Gate). flag_at c.loop-place.board.due.flags.items number ≡ false → IsSpared t net.raw nodes c.loop-place.board number x) (sym h.is)
    (inv.spared number c.index-gates-number.result h.known)

pub loop-place-preserved : goal.loop-place-preserved
loop-place-preserved g c =
    let s : Store = g.N.Nodes.store c.args.nodes.now in
    let t : Store = g.N.Nodes.store c.loop-place.nodes in
    let u : Store = g.N.Nodes.store c.renew.new.nodes in
    let gs = g.met.N.Nodes.diagram c.args.nodes.now in
    let gt = g.met.N.Nodes.diagram c.loop-place.nodes in
    let gu = g.met.N.Nodes.diagram c.renew.new.nodes in
    let net = c.args.net.now in
    let cuts : List Cut = c.args.demands.now.cuts in
    let order : List ℕ = c.args.board.now.due.order.items in
    let nets : List NetRails = c.loop-place.board.nets.items in
    let new : List NetRails = c.renew.new.board.nets.items in
    let n : ℕ = c.loop-place.place in
    let number : ℕ = c.number_at-number.result in
    let gate : Gate = c.index-gates-number.result in
    let out : ℕ = gate.output.0 in
    let inv = c.loop-place.invariant in
    let h = here net.raw order c.loop-place.board.due.order.items c.gates-in-loop-place.result.now n number gate
    c.requires.order (ap (λ (v : Vec ℕ). v.items) inv.follows.order) c.gates-in-loop-place.ensures (subst (λ (xs : List Gate). n < length xs) c.gates.ensures c.loop-place-test.true) c.number_at-number.ensures c.index-gates-number.is in
    let size = inv.follows.long ∙ c.requires.long in
    let p = c.in_ok-renew.ensures in
    let r : NetRails = net_at new out in
    let inside : All (λ input. input.0 < length nets) gate.inputs = λ i d l.
    subst (λ (m : ℕ). (get_or gate.inputs i d).0 < m) (sym size) (subst (λ (x : Gate). All (λ input. input.0 < net.raw.nets) x.inputs) (sym h.is) (net.in_range.gate_inputs number gate h.known) i d l) in
    let at : out < length nets = subst (λ (m : ℕ). out < m) (sym size) (subst (λ (x : Gate). x.output.0 < net.raw.nets) (sym h.is) (net.in_range.gate_outputs number gate h.known)) in
    let hg : All (λ c. IsRef t c.guard) cuts = λ i d l. IsFrom-grows s.held t.held 0 _ inv.keeps.grows (c.requires.guards i d l) in
    let hv : All (λ c. IsRef t c.value) cuts = λ i d l. IsFrom-grows s.held t.held 0 _ inv.keeps.grows (c.requires.values i d l) in
    let mine : ℕ → SymbolicSet = λ id. own_where t (net_at nets id) in
    let mine_out : ℕ → SymbolicSet = λ id. placed_set c.args.demands.now.weak net.raw mine gate in
    let asked : List SymbolicCut = map (λ (x : Cut). record { node = x.node.0; guard = function t x.guard; value = function t x.value }) cuts in
    let own_call = p.built asked mine_out mine (own_demands t cuts hg hv) (own_inputs t nets gate.inputs inside inv.refs) refl in
    let own_set = p.have asked mine_out mine (own_demands t cuts hg hv) (own_inputs t nets gate.inputs inside inv.refs) refl in
    let ktu = own_call.spends.keeps in
    let nodes : List NodeId = nodes_of c.args.demands.now.weak cuts in
    let ksu = Keeps-trans s t u inv.keeps ktu in
    let follows : Follows c.args.board.now c.renew.new.board = follows_then c.args.board.now c.loop-place.board c.renew.new.board inv.follows p.follows in
    let spared : AreSpared u net.raw nodes c.renew.new.board = spared_follows u net.raw nodes c.loop-place.board c.renew.new.board (subst (λ (m : ℕ). length net.raw.gates ≤ m) (sym inv.follows.marks) c.requires.due) p.follows
    (spared_keeps t u net.raw nodes c.loop-place.board net.in_range size gt gu ktu inv.refs inv.spared) in
    let next : ℕ = c.next-place-in-loop-place.result in
    let q = c.next-place-in-loop-place.ensures in
    let same : c.renew.new.board.due.order.items ≡ order = ap (λ (v : Vec ℕ). v.items) follows.order in
    let within : next ≤ length order = subst (λ (xs : List ℕ). next ≤ length xs) same q.within in
    let unmarked : (place : ℕ) → n + 1 ≤ place → place < next → flag_at c.renew.new.board.due.flags.items (get_or order place 0) ≡ false =
    subst (λ (xs : List ℕ). (place : ℕ) → n + 1 ≤ place → place < next → flag_at c.renew.new.board.due.flags.items (get_or xs place 0) ≡ false) same q.unmarked in
    record {
      within = within;
      room = p.room ∙ inv.room;
      keeps = ksu;
      refs = subst (All (AreNetRefs u)) (sym p.nets) (set_refs u nets out r at (All-net-refs-keep t u nets gt gu ktu inv.refs) (refs_of_net u _ r own_set));
      follows = follows;
      spared = spared;
      so = λ ls ds sets long family zip have.
          let f = inv.so ls ds sets long family zip have in
          let b = place_turn net.raw order net.in_range net.one_driver c.requires.order ls c.args.demands.now.weak ds sets long s t u cuts nets n number gate (Ok c.in_ok-renew.field-0) gs gt gu family zip f.0 f.1 h.within h.at h.is p.built in
          let made : AreNetRails u (after_cuts ds (set_before_cuts net.raw (ids_of c.args.demands.now.weak) ls sets) out) r = p.have ds (set_before_cuts net.raw (ids_of c.args.demands.now.weak) ls sets) sets (Demands-keep s t ds cuts gs gt inv.keeps zip)
          (ready net.raw order net.in_range net.one_driver c.requires.order ls c.args.demands.now.weak ds sets long t nets n number gate f.1 h.within h.at h.is)
          (before_is net.raw order net.in_range net.one_driver c.requires.order ls c.args.demands.now.weak ds sets long number gate h.known h.is) in
          let more : HaveGates net.raw order sets u (n + 1) new = subst (HaveGates net.raw order sets u (n + 1)) (sym p.nets)
          (placed net.raw order net.in_range net.one_driver c.requires.order ls c.args.demands.now.weak ds sets long s t u nets n number gate r gt gu ksu ktu size family f.1 h.within h.at h.is made) in (
            first (time_work net.raw ls (asks c.args.demands.now.weak ds) sets) Whatever s u (Ok c.in_ok-renew.field-0) b,
            passed_to net.raw order net.in_range net.one_driver c.requires.order ls c.args.demands.now.weak ds sets long s u cuts c.renew.new.board gu ksu (follows.long ∙ c.requires.long) family (Demands-keep s u ds cuts gs gu ksu zip) spared (n + 1) next q.behind within unmarked more,
          );
    }

pub returns-in_err-renew-clause-built : goal.returns-in_err-renew-clause-built
returns-in_err-renew-clause-built g c = λ ls ds sets long family zip have.
    let s : Store = g.N.Nodes.store c.args.nodes.now in
    let t : Store = g.N.Nodes.store c.loop-place.nodes in
    let u : Store = g.N.Nodes.store c.renew.new.nodes in
    let gs = g.met.N.Nodes.diagram c.args.nodes.now in
    let gt = g.met.N.Nodes.diagram c.loop-place.nodes in
    let gu = g.met.N.Nodes.diagram c.renew.new.nodes in
    let net = c.args.net.now in
    let cuts : List Cut = c.args.demands.now.cuts in
    let order : List ℕ = c.args.board.now.due.order.items in
    let n : ℕ = c.loop-place.place in
    let number : ℕ = c.number_at-number.result in
    let gate : Gate = c.index-gates-number.result in
    let inv = c.loop-place.invariant in
    let h = here net.raw order c.loop-place.board.due.order.items c.gates-in-loop-place.result.now n number gate
    c.requires.order (ap (λ (v : Vec ℕ). v.items) inv.follows.order) c.gates-in-loop-place.ensures (subst (λ (xs : List Gate). n < length xs) c.gates.ensures c.loop-place-test.true) c.number_at-number.ensures c.index-gates-number.is in
    let fault = c.in_err-renew.field-0.0 in
    let q = inv.so ls ds sets long family zip have in
    let work : List Function = time_work net.raw ls (asks c.args.demands.now.weak ds) sets in
    pass work Whatever Whatever s s u fault c.from_residual.result gs gu (So-start work s)
    (place_turn net.raw order net.in_range net.one_driver c.requires.order ls c.args.demands.now.weak ds sets long s t u cuts c.loop-place.board.nets.items n number gate (Err fault) gs gt gu family zip q.0 q.1 h.within h.at h.is c.in_err-renew.ensures.built) c.from_residual.ensures.1

pub returns-clause-built : goal.returns-clause-built
returns-clause-built g c = λ ls ds sets long family zip have.
    let s : Store = g.N.Nodes.store c.args.nodes.now in
    let t : Store = g.N.Nodes.store c.loop-place.nodes in
    Built-made (time_work c.args.net.now.raw ls (asks c.args.demands.now.weak ds) sets) Whatever s t tt (c.loop-place.invariant.so ls ds sets long family zip have).0 tt

pub returns-clause-have : goal.returns-clause-have
returns-clause-have g c = λ ls ds sets long family zip have. λ id inside none.
    (c.loop-place.invariant.so ls ds sets long family zip have).1 id inside
    (λ k d le m. let count = ap (λ (xs : List Gate). length xs) c.gates.ensures in let long = c.requires.order.long in absurd (omega (arith, count, long, le, m, c.loop-place-test.false)))

pub renew-requires-clause-guards : goal.renew-requires-clause-guards
renew-requires-clause-guards g c =
    let s : Store = g.N.Nodes.store c.args.nodes.now in
    let t : Store = g.N.Nodes.store c.loop-place.nodes in
    λ i d l. IsFrom-grows s.held t.held 0 _ c.loop-place.invariant.keeps.grows (c.requires.guards i d l)

pub renew-requires-clause-values : goal.renew-requires-clause-values
renew-requires-clause-values g c =
    let s : Store = g.N.Nodes.store c.args.nodes.now in
    let t : Store = g.N.Nodes.store c.loop-place.nodes in
    λ i d l. IsFrom-grows s.held t.held 0 _ c.loop-place.invariant.keeps.grows (c.requires.values i d l)
