-- What is kept of the time before, while nets get their sets.
use Rattle.std.proofs.Common.{◌≡◌, ◌≢◌, ℕ, ◌+◌, ◌<◌, ◌≤◌, Bool, true, false, List, Option, None, Some, [], ◌∷◌, ◌++◌, length, take, map, get_or, refl, sym, ◌∙◌, ap, subst, arith, All, ne_eqb, eq-eqb, eqb-true}
use Rattle.std.specs.Prelude.{IsTrue, ◌==◌, ◌||◌, if◌then◌else◌}
use Rattle.std.specs.Global.{Vec}
use Rattle.std.specs.List.{AllZip}
use Rattle.std.proofs.lemmas.Bool.{false≢true}
use Rattle.std.proofs.lemmas.List.{get_or_default, length-map}
use Rattle.std.proofs.Math.Seq.{take-append_seam}
use Rattle.std.proofs.lemmas.List.Elements.{All-cons, All-head, All-nil, All-tail}
use Rattle.std.proofs.lemmas.List.Folds.{Any-from_list_any}
use Rattle.ste_base.specs.declared.id.NodeId.{NodeId}
use Rattle.dd_nodes.specs.declared.node.Ref.{Ref}
use Rattle.ste_base.specs.Functions.{Function}
use Rattle.dd_nodes.specs.Stores.{Store, IsRef, Keeps, Means}
use Rattle.dd_nodes.proofs.Stores.{IsGood, function-keeps}
use Rattle.dual_rail.specs.declared.rails.Rails.{Rails}
use Rattle.dual_rail.specs.Rail.{AreRails, AreRefs}
use Rattle.dual_rail.proofs.Turns.{All-refs-keep}
use Rattle.net_core.specs.declared.bit_set.BitSet.{BitSet}
use Rattle.net_core.specs.declared.raw.Latch.{Latch}
use Rattle.net_core.specs.declared.raw.Gate.{Gate}
use Rattle.net_core.specs.declared.raw.RawNet.{RawNet}
use Rattle.net_core.specs.Flat.{IsInRange, HasOneDriver, IsSettledOrder}
use Rattle.net_core.specs.Possible.{MayGive}
use Rattle.net_core.specs.Run.{gate_bit}
use Rattle.net_core.specs.Work.{ArePossibleEach, SymbolicCut, SymbolicSet, after_cut, after_cuts, cut_set, everything, output_set, set_at, some_empty, set_before_cuts}
use Rattle.net_core.proofs.OneTime.{fixed, gate_in, gate_source}
use Rattle.net_core.proofs.Possible.{same_fields, same_set}
use Rattle.sym_step.specs.declared.board.Board.{Board}
use Rattle.sym_step.specs.declared.cut.Cut.{Cut}
use Rattle.sym_step.specs.declared.frame.Frame.{Frame}
use Rattle.sym_step.specs.declared.made.Step.{Step}
use Rattle.sym_step.specs.declared.marks.Marks.{Marks}
use Rattle.gate_sets.specs.declared.net_rails.NetRails.{NetRails}
use Rattle.sym_step.specs.Step.{HaveSets, IsCutBy, IsStep, ids_of}
use Rattle.sym_step.specs.private.Demands.{nodes_of}
use Rattle.sym_step.specs.private.Boards.{AreFull, Follows}
use Rattle.sym_step.specs.Frame.{AreFirst, IsFrame, IsGiven, bare, first_or, input_rails, is_listed, nets_of, next_of, step_of}
use Rattle.sym_step.specs.private.Frames.{AreReady, AreSpared}
use Rattle.sym_step.specs.private.Readers.{AreMarked, ReadsAs, driver_number, flag_at, number_of}
use Rattle.gate_sets.specs.NetSets.{AreNetRails, AreNetRefs, net_at, own_where}
use Rattle.sym_step.specs.private.Parts.{HaveNets, asks}
use Rattle.gate_sets.proofs.NetRefs.{All-net-refs-keep, Net-keeps, own_net}
use Rattle.sym_step.proofs.Listed.{as_driven, no_cut_of}
use Rattle.sym_step.proofs.Sourced.{unknown}
use Rattle.sym_step.proofs.Turning.{Net-same, before_is}

-- ---- nets that are cut

-- a net of which there is no cut keeps its set
keeps_set : (s : Store) (ds : List SymbolicCut) (cuts : List Cut) (id : ℕ) (f : ℕ → SymbolicSet) → AllZip (IsCutBy s) ds cuts → is_listed (map (λ (c : Cut). c.node) cuts) id ≡ false → after_cuts ds f id ≡ f id
keeps_set s [] cuts id f zip none = refl
keeps_set s (d ∷ ds) [] id f zip none = absurd zip
keeps_set s (d ∷ ds) (c ∷ cuts) id f zip none = by (c.node.0 == id) refl none (λ h. keeps_set s ds cuts id (after_cut d f) zip.1 h)
  where
    by : (b : Bool) → (c.node.0 == id) ≡ b → (b || is_listed (map (λ (x : Cut). x.node) cuts) id) ≡ false → (is_listed (map (λ (x : Cut). x.node) cuts) id ≡ false → after_cuts ds (after_cut d f) id ≡ after_cut d f id)
        → after_cuts ds (after_cut d f) id ≡ f id
    by true e h rest = absurd (false≢true (sym h))
    by false e h rest =
        let ne : (d.node ≡ id) → ⊥ = λ same. false≢true (sym e ∙ eq-eqb c.node.0 id (sym zip.0.node ∙ same)) in
        rest h ∙ ap (λ (x : Bool). if x then cut_set (f id) d.guard d.value else f id) (ne_eqb d.node id ne)

-- so does one of which nothing is asked
pub unlisted : (s : Store) (ds : List SymbolicCut) (weak : List NodeId) (cuts : List Cut) (id : ℕ) (f : ℕ → SymbolicSet) → AllZip (IsCutBy s) ds cuts → is_listed (nodes_of weak cuts) id ≡ false → after_cuts ds f id ≡ f id
unlisted s ds weak cuts id f zip none = keeps_set s ds cuts id f zip (no_cut_of weak cuts id none)

-- a net that is listed has a place
pub listed_at : (ids : List NodeId) (id : ℕ) → is_listed ids id ≡ true → (k : ℕ) × (k < length ids) × ((d : NodeId) → (get_or ids k d).0 ≡ id)
listed_at ids id h =
    let any = Any-from_list_any (λ (node : NodeId). node.0 == id) ids h in
    (any.0, any.2, λ d. ap (λ (x : NodeId). x.0) (get_or_default ids any.0 d any.1 any.2 ∙ any.3) ∙ eqb-true any.1.0 id any.4)

-- ---- gates that are not due

given_same : (s : Store) (net : RawNet) (old new : List NetRails) (gate : Gate) → net_at new gate.output.0 ≡ net_at old gate.output.0 → All (λ input. net_at new input.0 ≡ net_at old input.0) gate.inputs
    → IsGiven s net old gate → IsGiven s net new gate
given_same s net old new gate out ins given sets have =
    subst (AreNetRails s (output_set net sets gate)) (sym out)
    (given sets (λ i d l. subst (AreNetRails s (sets (get_or gate.inputs i d).0)) (ins i d l) (have i d l)))

-- a gate that is not due after writes was not before, and has given its output its set still
pub spared_follows : (s : Store) (net : RawNet) (asked : List NodeId) (old new : Board) → length net.gates ≤ length old.due.flags.items → Follows old new → AreSpared s net asked old → AreSpared s net asked new
spared_follows s net asked old new due f spared k d lt none =
    let gate : Gate = get_or net.gates k d in
    let q = f.noted k (omega (arith, due, lt)) none in
    let p = spared k d lt q.0 in
    record {
      uncut = p.uncut;
      given = given_same s net old.nets.items new.nets.items gate (q.1 gate.output.0 p.reads.output) (λ i e l. q.1 (get_or gate.inputs i e).0 (p.reads.inputs i e l)) p.given;
      reads = subst (λ r. ReadsAs r k gate) (sym f.readers) p.reads;
    }

-- or where nothing but marks of latches has changed
pub spared_same : (s : Store) (net : RawNet) (asked : List NodeId) (old new : Board) → new.nets ≡ old.nets → new.readers ≡ old.readers → ((k : ℕ) → k < length net.gates → flag_at new.due.flags.items k ≡ flag_at old.due.flags.items k)
    → AreSpared s net asked old → AreSpared s net asked new
spared_same s net asked old new nets readers flags spared k d lt none =
    let gate : Gate = get_or net.gates k d in
    let p = spared k d lt (sym (flags k lt) ∙ none) in
    record {
      uncut = p.uncut;
      given = subst (λ (xs : Vec NetRails). IsGiven s net xs.items gate) (sym nets) p.given;
      reads = subst (λ r. ReadsAs r k gate) (sym readers) p.reads;
    }

-- a list that was written through a slice of the whole
pub written : {X : Type 0} (n : ℕ) (xs ys : List X) → n ≡ length xs → take n (xs ++ ys) ≡ xs
written n xs ys e = ap (λ (m : ℕ). take m (xs ++ ys)) e ∙ take-append_seam xs ys

-- ---- stores that grow

Means-back : (s t : Store) (f : Function) (r : Ref) → IsGood s → IsGood t → Keeps s t → IsRef s r → Means t f r → Means s f r
Means-back s t f r ds dt k ref m = record {
  ref = ref;
  value = λ bits l. sym (ap (λ (g : Function). g bits) (function-keeps s t r ds dt k ref)) ∙ m.value bits (l ∙ sym k.vars);
}

-- references that were held had their set
Net-back : (s t : Store) (w : SymbolicSet) (r : NetRails) → IsGood s → IsGood t → Keeps s t → AreNetRefs s r → AreNetRails t w r → AreNetRails s w r
Net-back s t w r ds dt k h m = record {
  zero = Means-back s t w.zero r.can0 ds dt k h.zero m.zero;
  one = Means-back s t w.one r.can1 ds dt k h.one m.one;
  some = Means-back s t _ r.some ds dt k h.some.ref m.some;
  known = λ yes bits l. m.known yes bits (l ∙ sym k.vars);
}

given_keeps : (s t : Store) (net : RawNet) (nets : List NetRails) (gate : Gate) → IsGood s → IsGood t → Keeps s t → All (AreNetRefs s) nets → All (λ input. input.0 < length nets) gate.inputs
    → IsGiven s net nets gate → IsGiven t net nets gate
given_keeps s t net nets gate ds dt k refs inside given sets have =
    Net-keeps s t (output_set net sets gate) (net_at nets gate.output.0) ds dt k
    (given sets (λ i d l. Net-back s t (sets (get_or gate.inputs i d).0) (net_at nets (get_or gate.inputs i d).0) ds dt k (refs (get_or gate.inputs i d).0 unknown (inside i d l)) (have i d l)))

inside_by : (net : RawNet) (nets : List NetRails) → IsInRange net → length nets ≡ net.nets → All (λ gate. All (λ input. input.0 < length nets) gate.inputs) net.gates
inside_by net nets range long k d lt i e l = subst (λ (n : ℕ). (get_or (get_or net.gates k d).inputs i e).0 < n) (sym long) (range.gate_inputs k d lt i e l)

pub spared_keeps : (s t : Store) (net : RawNet) (asked : List NodeId) (board : Board) → IsInRange net → length board.nets.items ≡ net.nets → IsGood s → IsGood t → Keeps s t → All (AreNetRefs s) board.nets.items
    → AreSpared s net asked board → AreSpared t net asked board
spared_keeps s t net asked board range long ds dt k refs spared n d lt none =
    let p = spared n d lt none in
    record { uncut = p.uncut; given = given_keeps s t net board.nets.items (get_or net.gates n d) ds dt k refs (inside_by net board.nets.items range long n d lt) p.given; reads = p.reads }

-- nets have their own sets
pub own_nets : (s : Store) (nets : List NetRails) → All (AreNetRefs s) nets → AllZip (AreNetRails s) (map (own_where s) nets) nets
own_nets s [] h = tt
own_nets s (r ∷ rs) h = (own_net s r (All-head (AreNetRefs s) r rs h), own_nets s rs (All-tail (AreNetRefs s) r rs h))

-- a frame stays one
pub frame_keeps : (s t : Store) (net : RawNet) (frame : Frame) → IsInRange net → IsGood s → IsGood t → Keeps s t → IsFrame s net frame → IsFrame t net frame
frame_keeps s t net frame range ds dt k f =
    let nets : List NetRails = frame.board.nets.items in
    record {
      long = f.long;
      refs = All-net-refs-keep s t nets ds dt k f.refs;
      full = f.full;
      due = f.due;
      order = f.order;
      room = f.room;
      inside = f.inside;
      undriven = λ id lt is none. Net-keeps s t everything (net_at nets id) ds dt k (f.undriven id lt is none);
      first = λ sets is. let h = f.first sets is in record { long = h.long; refs = All-refs-keep s t sets k h.refs };
      blank = f.blank;
      lists = f.lists;
      spare = f.spare;
      carried = f.carried;
      kept = λ n d lt none set_before_cuts. given_keeps s t net nets (get_or net.gates n d) ds dt k f.refs (inside_by net nets range f.long n d lt) (f.kept n d lt none set_before_cuts);
    }

-- ---- the latches' next sets

-- the nets' rails are held
pub rails_refs : (s : Store) (nets : List NetRails) → All (AreNetRefs s) nets → All (AreRefs s) (map bare nets)
rails_refs s [] h = All-nil (AreRefs s)
rails_refs s (r ∷ rs) h = let own = All-head (AreNetRefs s) r rs h in All-cons (AreRefs s) (bare r) (map bare rs) (record { zero = own.zero; one = own.one }) (rails_refs s rs (All-tail (AreNetRefs s) r rs h))

inputs_refs : (s : Store) (nets : List Rails) (latches : List Latch) → All (AreRefs s) nets → All (λ latch. latch.input.0 < length nets) latches → All (AreRefs s) (map (input_rails nets) latches)
inputs_refs s nets [] refs inside = All-nil (AreRefs s)
inputs_refs s nets (x ∷ xs) refs inside = All-cons (AreRefs s) (input_rails nets x) (map (input_rails nets) xs)
    (refs x.input.0 _ (All-head (λ (latch : Latch). latch.input.0 < length nets) x xs inside)) (inputs_refs s nets xs refs (All-tail (λ (latch : Latch). latch.input.0 < length nets) x xs inside))

-- the latches' inputs are nets of a frame
inputs_inside : (s : Store) (net : RawNet) (frame : Frame) → IsInRange net → IsFrame s net frame → All (λ latch. latch.input.0 < length (nets_of frame)) net.latches
inputs_inside s net frame range f k d lt = subst (λ (n : ℕ). (get_or net.latches k d).input.0 < n) (sym (length-map frame.board.nets.items bare ∙ f.long)) (range.latch_inputs k d lt)

-- the sets that the latches have at the time behind a frame are held, one for each
pub next_first : (s : Store) (net : RawNet) (frame : Frame) → IsInRange net → IsFrame s net frame → AreFirst s net (next_of net frame)
next_first s net frame range f = by frame.first refl
  where
    by : (o : Option (List Rails)) → frame.first ≡ o → AreFirst s net (first_or o (map (input_rails (nets_of frame)) net.latches))
    by None e = record {
      long = length-map net.latches (input_rails (nets_of frame));
      refs = inputs_refs s (nets_of frame) net.latches (rails_refs s frame.board.nets.items f.refs) (inputs_inside s net frame range f);
    }
    by (Some sets) e = f.first sets e

-- a frame with other first sets, or none
pub with_first : (s : Store) (net : RawNet) (frame : Frame) (first : Option (List Rails)) → IsFrame s net frame → ((sets : List Rails) → first ≡ Some sets → AreFirst s net sets) → IsFrame s net (record frame { first = first })
with_first s net frame first f h = record {
  long = f.long;
  refs = f.refs;
  full = f.full;
  due = f.due;
  order = f.order;
  room = f.room;
  inside = f.inside;
  undriven = f.undriven;
  first = h;
  blank = f.blank;
  lists = f.lists;
  spare = f.spare;
  kept = f.kept;
  carried = f.carried;
}

-- a frame of which it is known, or not, whether all nets have a bit everywhere
pub with_full : (s : Store) (net : RawNet) (frame : Frame) (full : Bool) → IsFrame s net frame → (IsTrue full → AreFull frame.board.nets.items) → IsFrame s net (record frame { board = record frame.board { full = full } })
with_full s net frame full f h = record {
  long = f.long;
  refs = f.refs;
  full = h;
  due = f.due;
  order = f.order;
  room = f.room;
  inside = f.inside;
  undriven = f.undriven;
  first = f.first;
  blank = f.blank;
  lists = f.lists;
  spare = f.spare;
  kept = f.kept;
  carried = f.carried;
}

-- the lists are there where they are made
pub listed_ready : (s : Store) (net : RawNet) (frame : Frame) → IsFrame s net frame → IsTrue frame.listed → AreReady net frame
listed_ready s net frame f told k lt none = f.lists told

-- a frame with more marks
pub with_due : (s : Store) (net : RawNet) (frame : Frame) (due : Marks) → length due.flags.items ≡ length frame.board.due.flags.items → due.order ≡ frame.board.due.order → ((k : ℕ) → k < length frame.board.due.flags.items → flag_at due.flags.items k ≡ false → flag_at frame.board.due.flags.items k ≡ false)
    → IsFrame s net frame → IsFrame s net (record frame { board = record frame.board { due = due } })
with_due s net frame due long order fewer f = record {
  long = f.long;
  refs = f.refs;
  full = f.full;
  due = long ∙ f.due;
  order = subst (λ (v : Vec ℕ). IsSettledOrder net v.items) (sym order) f.order;
  room = f.room;
  inside = f.inside;
  undriven = f.undriven;
  first = f.first;
  blank = λ none k lt. by k (omega (arith, size, lt)) (f.blank none k lt) (flag_at due.flags.items k) refl;
  lists = f.lists;
  spare = f.spare;
  kept = λ k d lt none set_before_cuts. f.kept k d lt (fewer k (omega (arith, size, lt)) none) set_before_cuts;
  carried = λ k d lt none set_before_cuts. f.carried k d lt (fewer (length net.gates + k) (omega (arith, size, lt)) none) set_before_cuts;
}
  where
    size : length frame.board.due.flags.items ≡ length net.gates + length net.latches
    size = f.due

    by : (k : ℕ) → k < length frame.board.due.flags.items → flag_at frame.board.due.flags.items k ≡ true → (b : Bool) → flag_at due.flags.items k ≡ b → flag_at due.flags.items k ≡ true
    by k lt was true e = e
    by k lt was false e = absurd (false≢true (sym (fewer k lt e) ∙ was))

-- a net is not in a list where what drives it drives no net of the list
pub unlisted_by : (net : RawNet) (ids : List NodeId) (id k : ℕ) → driver_number net id ≡ Some k → All (λ node. driver_number net node.0 ≢ Some k) ids → is_listed ids id ≡ false
unlisted_by net ids id k drives none = by (is_listed ids id) refl
  where
    by : (b : Bool) → is_listed ids id ≡ b → is_listed ids id ≡ false
    by false e = e
    by true e =
        let at = listed_at ids id e in
        let z : NodeId = record { 0 = 0 } in
        absurd (none at.0 z at.1 (ap (driver_number net) (at.2 z) ∙ drives))

-- where the gates that drive cut nets are due, the others are spared
pub all_spared : (s : Store) (net : RawNet) (frame : Frame) (asked : List NodeId) (mid due : Marks) → HasOneDriver net → IsFrame s net frame → AreReady net frame → length mid.flags.items ≡ length frame.board.due.flags.items
    → AreMarked (λ k. All (λ node. driver_number net node.0 ≢ Some k) frame.asked.items) frame.board.due.flags.items mid.flags.items
    → AreMarked (λ k. All (λ node. driver_number net node.0 ≢ Some k) asked) mid.flags.items due.flags.items
    → AreSpared s net asked (record frame.board { due = due })
all_spared s net frame asked mid due one f ready long before now k d lt none =
    let size : length frame.board.due.flags.items ≡ length net.gates + length net.latches = f.due in
    let late = now k (omega (arith, long, size, lt)) none in
    let early = before k (omega (arith, size, lt)) late.0 in
    let out : ℕ = (get_or net.gates k d).output.0 in
    let drives : driver_number net out ≡ Some k = ap (number_of net) (gate_source net one k d lt) in
    record {
      uncut = unlisted_by net asked out k drives late.1;
      given = f.kept k d lt early.0 (unlisted_by net frame.asked.items out k drives early.1);
      reads = (ready k (omega (arith, lt)) early.0).gates k d lt;
    }

pub not_first : (s : Store) (net : RawNet) (first : Option (List Rails)) → first ≡ None → (sets : List Rails) → first ≡ Some sets → AreFirst s net sets
not_first s net first none sets some = absurd (cc (sym none ∙ some))

-- a step with what a frame has of its time
pub same_step : (net : RawNet) (sets : ℕ → SymbolicSet) (t : Store) (frame : Frame) (r : Ref) (made : Step) → made.nets ≡ nets_of frame → made.contradictory ≡ r → made.next ≡ next_of net frame → IsStep net sets t (step_of net frame r) → IsStep net sets t made
same_step net sets t frame r made nets empty next h = record {
  long = ap length nets ∙ h.long;
  nets = subst (HaveSets net sets t) (sym nets) h.nets;
  contradictory = subst (Means t (some_empty net sets)) (sym empty) h.contradictory;
  next = subst (λ (xs : List Rails). AllZip (AreRails t) (map (λ latch. sets latch.input.0) net.latches) xs) (sym next) h.next;
}

-- ---- a time that is done

map_same : (f g : NodeId → BitSet) (xs : List NodeId) → All (λ x. f x ≡ g x) xs → map f xs ≡ map g xs
map_same f g [] h = refl
map_same f g (x ∷ xs) h = ap (λ (y : BitSet). y ∷ map f xs) (All-head (λ x. f x ≡ g x) x xs h) ∙ ap (λ (ys : List BitSet). g x ∷ ys) (map_same f g xs (All-tail (λ x. f x ≡ g x) x xs h))

-- two families that the same references have are one at each assignment
one_set : (u : Store) (v w : SymbolicSet) (r : NetRails) (bits : List Bool) → length bits ≡ u.vars → AreNetRails u v r → AreNetRails u w r → set_at bits v ≡ set_at bits w
one_set u v w r bits l a b = same_fields _ _ _ _ (sym (a.zero.value bits l) ∙ b.zero.value bits l) (sym (a.one.value bits l) ∙ b.one.value bits l)

module _ (net : RawNet) (order : List ℕ) (range : IsInRange net) (one : HasOneDriver net) (is_order : IsSettledOrder net order)
    (ls : List SymbolicSet) (weak : List NodeId) (ds : List SymbolicCut) (family : ℕ → SymbolicSet) (long : length ls ≡ length net.latches) where
  -- where each net has its set, a gate of whose output nothing is asked has given it its set
  pub given_here : (s u : Store) (cuts : List Cut) (nets : List NetRails) → Keeps s u → ArePossibleEach s.vars net ls (asks weak ds) family → AllZip (IsCutBy s) ds cuts
      → HaveNets net family u nets → All (λ gate. is_listed (nodes_of weak cuts) gate.output.0 ≡ false → IsGiven u net nets gate) net.gates
  given_here s u cuts nets k possible zip have n d lt none sets ins =
      let gate : Gate = get_or net.gates n d in
      let out : ℕ = gate.output.0 in
      Net-same u (family out) (output_set net sets gate) (net_at nets out)
      (λ bits l.
      let l' : length bits ≡ s.vars = l ∙ k.vars in
      let inputs_same : map (λ input. set_at bits (family input.0)) gate.inputs ≡ map (λ input. set_at bits (sets input.0)) gate.inputs =
      map_same (λ input. set_at bits (family input.0)) (λ input. set_at bits (sets input.0)) gate.inputs
      (λ i e li. let id : ℕ = (get_or gate.inputs i e).0 in one_set u (family id) (sets id) (net_at nets id) bits l (have id (range.gate_inputs n d lt i e li)) (ins i e li)) in
      sym (fixed net s.vars ls (asks weak ds) family bits range one long possible l' out)
      ∙ ap (set_at bits) (unlisted s ds weak cuts out (set_before_cuts net (ids_of weak) ls family) zip none ∙ before_is net order range one is_order ls weak ds family long n gate lt (given_by n d lt) ∙ as_driven weak cuts out (output_set net family gate) none)
      ∙ same_set (set_at bits (output_set net family gate)) (set_at bits (output_set net sets gate))
      (λ bit h. (gate_in net range one ls long sets bits n d bit lt).1 (subst (λ (xs : List BitSet). MayGive (gate_bit net gate) xs bit) inputs_same ((gate_in net range one ls long family bits n d bit lt).0 h)))
      (λ bit h. (gate_in net range one ls long family bits n d bit lt).1 (subst (λ (xs : List BitSet). MayGive (gate_bit net gate) xs bit) (sym inputs_same) ((gate_in net range one ls long sets bits n d bit lt).0 h))))
      (have out (range.gate_outputs n d lt))
    where
      given_by : (n : ℕ) (d : Gate) → n < length net.gates → get_or net.gates n d ≡ get_or net.gates n (get_or net.gates n d)
      given_by n d lt = get_or_default net.gates n d (get_or net.gates n d) lt
