-- Latches that are not due, and the sets that the others get.
use Rattle.std.proofs.Common.{◌≡◌, ◌≢◌, ℕ, ◌+◌, ◌<◌, ◌≤◌, Bool, false, List, [], ◌∷◌, ◌++◌, Option, None, Some, length, map, get_or, refl, sym, ◌∙◌, ap, subst, arith, inl, inr, All, true}
use Rattle.std.specs.Prelude.{◌⊎◌, IsTrue}
use Rattle.std.specs.Global.{Vec}
use Rattle.std.specs.List.{AllZip}
use Rattle.std.proofs.lemmas.Bool.{cases_eq, cases_lt}
use Rattle.std.proofs.lemmas.List.{get_or-map, get_or_append_left, get_or_default, get_or_push, length-append}
use Rattle.std.proofs.lemmas.List.Elements.{All-push}
use Rattle.ste_base.specs.declared.id.NodeId.{NodeId}
use Rattle.dd_nodes.specs.Stores.{Store}
use Rattle.dd_nodes.proofs.Stores.{IsGood, Keeps-refl}
use Rattle.dual_rail.proofs.Works.{refs_of}
use Rattle.sym_step.proofs.Listed.{as_driven}
use Rattle.dual_rail.specs.declared.rails.Rails.{Rails}
use Rattle.dual_rail.specs.Rail.{AreRails, AreRefs}
use Rattle.dual_rail.proofs.Turns.{zip_at, zip_long}
use Rattle.net_core.specs.declared.raw.Init.TheVariants.{Zero}
use Rattle.net_core.specs.declared.raw.Latch.{Latch}
use Rattle.net_core.specs.declared.raw.RawNet.{RawNet}
use Rattle.net_core.specs.Flat.{IsInRange, HasOneDriver, IsSettledOrder}
use Rattle.net_core.specs.Work.{ArePossibleEach, SymbolicCut, SymbolicSet, after_cuts, everything, set_before_cuts, unless_weakened}
use Rattle.net_core.specs.Possible.{is_weakened}
use Rattle.sym_step.specs.declared.board.Board.{Board}
use Rattle.sym_step.specs.declared.cut.Cut.{Cut}
use Rattle.sym_step.specs.declared.frame.Frame.{Frame}
use Rattle.sym_step.specs.declared.marks.Marks.{Marks}
use Rattle.sym_step.specs.declared.latches.LatchSet.{LatchSet}
use Rattle.gate_sets.specs.declared.net_rails.NetRails.{NetRails}
use Rattle.sym_step.specs.Step.{IsCutBy, ids_of}
use Rattle.sym_step.specs.private.Demands.{nodes_of}
use Rattle.sym_step.specs.private.Boards.{AreFull, Follows}
use Rattle.sym_step.specs.Frame.{AreFirst, AreOpen, IsFrame, bare, first_or, input_rails, is_listed, nets_of, next_of}
use Rattle.sym_step.specs.private.Frames.{AreCarried, AreReady, AreSpared, HaveLatches, IsCarried, StayRight}
use Rattle.sym_step.specs.private.Latches.{AreGiven, AreLatchSets, Begins, HaveLatchSets, IsAmong, IsCopied, IsInPlace, IsLatchSet, IsSetOf, rails_unless}
use Rattle.gate_sets.specs.NetSets.{AreNetRails, AreNetRefs, net_at}
use Rattle.sym_step.specs.private.Parts.{asks}
use Rattle.sym_step.specs.private.Readers.{AreMarked, AreReaders, IsBetween, driver_number, flag_at, number_of}
use Rattle.sym_step.proofs.Framing.{next_first, spared_same, unlisted, unlisted_by}
use Rattle.gate_sets.proofs.NetRefs.{net_by_rails}
use Rattle.sym_step.proofs.Opened.{latch_before, latch_source, set_is}
use Rattle.sym_step.proofs.Sourced.{unknown, unknown_set}

zeroth : Latch
zeroth = record { input = record { 0 = 0 }; output = record { 0 = 0 }; init = Zero }

no_rails : Rails
no_rails = record { can0 = record { 0 = 0 }; can1 = record { 0 = 0 } }

-- ---- latches that are not due

-- where the latches that drive cut nets are due, the outputs of the others have the references of their inputs
pub all_carried : (s : Store) (net : RawNet) (frame : Frame) (asked : List NodeId) (mid due : Marks) → HasOneDriver net → IsFrame s net frame → AreReady net frame → length mid.flags.items ≡ length frame.board.due.flags.items
    → AreMarked (λ k. All (λ node. driver_number net node.0 ≢ Some k) frame.asked.items) frame.board.due.flags.items mid.flags.items
    → AreMarked (λ k. All (λ node. driver_number net node.0 ≢ Some k) asked) mid.flags.items due.flags.items
    → AreCarried net asked (record frame.board { due = due })
all_carried s net frame asked mid due one f ready long before now k d lt none =
    let size : length frame.board.due.flags.items ≡ length net.gates + length net.latches = f.due in
    let number : ℕ = length net.gates + k in
    let late = now number (omega (arith, long, size, lt)) none in
    let early = before number (omega (arith, size, lt)) late.0 in
    let out : ℕ = (get_or net.latches k d).output.0 in
    let drives : driver_number net out ≡ Some number = ap (number_of net) (latch_source net one k d lt) in
    record {
      uncut = unlisted_by net asked out number drives late.1;
      same = f.carried k d lt early.0 (unlisted_by net frame.asked.items out number drives early.1);
      between = (ready number (omega (arith, lt)) early.0).latches k d lt;
    }

-- a latch that is not due after writes was not before, and neither its input nor its output has got other references
pub carried_follows : (net : RawNet) (asked : List NodeId) (old new : Board) → length old.due.flags.items ≡ length net.gates + length net.latches → Follows old new → AreCarried net asked old → AreCarried net asked new
carried_follows net asked old new size f carried k d lt none =
    let latch : Latch = get_or net.latches k d in
    let q = f.noted (length net.gates + k) (omega (arith, size, lt)) none in
    let p = carried k d lt q.0 in
    record {
      uncut = p.uncut;
      same = q.1 latch.output.0 p.between.output ∙ p.same ∙ sym (q.1 latch.input.0 p.between.input);
      between = subst (λ r. IsBetween r (length net.gates + k) latch) (sym f.readers) p.between;
    }

-- ---- the sets that the others get

-- the rails of both bits are those of an unknown
rails_unless_are : (s : Store) (b : Bool) (w : SymbolicSet) (r : Rails) → IsGood s → AreRails s w r → AreRails s (unless_weakened b w) (rails_unless b r)
rails_unless_are s true w r good h = unknown_set s good
rails_unless_are s false w r good h = h

refs_unless : (s : Store) (b : Bool) (r : Rails) → IsGood s → AreRefs s r → AreRefs s (rails_unless b r)
refs_unless s true r good h = refs_of s everything (rails_unless true r) (unknown_set s good)
refs_unless s false r good h = h

-- the sets are of nets, and held
pub sets_held : (s : Store) (net : RawNet) (next : List Rails) (weak asked : List NodeId) (nets : List NetRails) (sets : List LatchSet) → IsGood s → IsInRange net → length nets ≡ net.nets → AreFirst s net next → All (AreNetRefs s) nets
    → AreLatchSets net next weak asked nets sets → All (IsLatchSet s net) sets
sets_held s net next weak asked nets sets good range long first refs are j d lt =
    let own = are.own j d lt in
    let inside : own.number < length next = let size = first.long in omega (arith, size, own.inside) in
    let input : ℕ = (get_or net.latches own.number zeroth).input.0 in
    record {
      output = subst (λ (node : NodeId). node.0 < net.nets) (own.output zeroth) (range.latch_outputs own.number zeroth own.inside);
      rails = subst (AreRefs s) (own.rails no_rails) (refs_unless s (is_weakened (ids_of weak) (get_or sets j d).output.0) (get_or next own.number no_rails) good (first.refs own.number no_rails inside));
      given = subst (AreNetRefs s) (own.given zeroth) (refs input unknown (subst (λ (n : ℕ). input < n) (sym long) (range.latch_inputs own.number zeroth own.inside)));
    }

module _ (net : RawNet) (range : IsInRange net) (one : HasOneDriver net) (ls : List SymbolicSet) (weak : List NodeId) (ds : List SymbolicCut) (family : ℕ → SymbolicSet) where
  -- each set is what its net has before its cuts, and the latches that have none among them have theirs already
  given_by : (s : Store) (next : List Rails) (cuts : List Cut) (asked : List NodeId) (nets : List NetRails) (sets : List LatchSet) → IsGood s → length next ≡ length net.latches → length nets ≡ net.nets → All (AreNetRefs s) nets
      → AllZip (AreRails s) ls next → ArePossibleEach s.vars net ls (asks weak ds) family → AllZip (IsCutBy s) ds cuts → asked ≡ nodes_of weak cuts → AreLatchSets net next weak asked nets sets → AreGiven s net weak ls family sets nets
  given_by s next cuts asked nets sets good size long refs zip possible zipc is are = record {
    long = count;
    rails = λ j d lt.
        let own = are.own j d lt in
        let out : ℕ = (get_or sets j d).output.0 in
        let is_weak : Bool = is_weakened (ids_of weak) out in
        let w : SymbolicSet = get_or ls own.number everything in
        let before : set_before_cuts net (ids_of weak) ls family out ≡ unless_weakened is_weak w =
        ap (λ (node : NodeId). set_before_cuts net (ids_of weak) ls family node.0) (sym (own.output zeroth))
        ∙ latch_before net one (ids_of weak) ls family own.number zeroth own.inside
        ∙ ap (λ (node : NodeId). unless_weakened (is_weakened (ids_of weak) node.0) w) (own.output zeroth) in
        subst (λ (v : SymbolicSet). AreRails s v (get_or sets j d).rails) (sym before)
        (subst (AreRails s (unless_weakened is_weak w)) (own.rails no_rails) (rails_unless_are s is_weak w (get_or next own.number no_rails) good (at own.number own.inside)));
    each = λ k d lt. elim (are.each k d lt) [
      | inl among ↦ inl among
      | inr own ↦
          let out : ℕ = (get_or net.latches k d).output.0 in
          let r : NetRails = net_at nets out in
          let w : SymbolicSet = get_or ls k everything in
          let uncut_here : is_listed (nodes_of weak cuts) out ≡ false = subst (λ (ids : List NodeId). is_listed ids out ≡ false) is own.uncut in
          let same : after_cuts ds (set_before_cuts net (ids_of weak) ls family) out ≡ w = unlisted s ds weak cuts out (set_before_cuts net (ids_of weak) ls family) zipc uncut_here ∙ latch_before net one (ids_of weak) ls family k d lt ∙ as_driven weak cuts out w uncut_here in
          let held : AreRails s w (bare r) = subst (AreRails s w) (own.rails no_rails) (at k lt) in
          let here : AreNetRefs s r = refs out unknown (subst (λ (n : ℕ). out < n) (sym long) (range.latch_outputs k d lt)) in
          inr (set_is net range one ls weak ds family count s s out r (Keeps-refl s) possible (subst (λ (x : SymbolicSet). AreNetRails s x r) (sym same) (net_by_rails s w r (bare r) refl refl here held)))
    ];
  }
    where
      count : length ls ≡ length net.latches
      count = zip_long (AreRails s) ls next zip ∙ size

      at : (k : ℕ) → k < length net.latches → AreRails s (get_or ls k everything) (get_or next k no_rails)
      at k lt = zip_at (AreRails s) ls next k everything no_rails zip (omega (arith, size, lt))

  -- the same of a frame
  pub frame_given : (s : Store) (frame : Frame) (cuts : List Cut) (asked : List NodeId) (sets : List LatchSet) → IsGood s → IsFrame s net frame → AllZip (AreRails s) ls (next_of net frame) → ArePossibleEach s.vars net ls (asks weak ds) family → AllZip (IsCutBy s) ds cuts
      → asked ≡ nodes_of weak cuts → AreLatchSets net (next_of net frame) weak asked frame.board.nets.items sets → AreGiven s net weak ls family sets frame.board.nets.items
  frame_given s frame cuts asked sets good f zip possible zipc is are = given_by s (next_of net frame) cuts asked frame.board.nets.items sets good (next_first s net frame range f).long f.long f.refs zip possible zipc is are

-- a frame once the latches' sets have been read
pub begins : (s : Store) (net : RawNet) (asked : List NodeId) (frame : Frame) (board : Board) → IsFrame s net frame → AreSpared s net asked frame.board → board.nets ≡ frame.board.nets → board.readers ≡ frame.board.readers → board.full ≡ frame.board.full → board.due.order ≡ frame.board.due.order
    → length board.due.flags.items ≡ length frame.board.due.flags.items → ((k : ℕ) → k < length net.gates → flag_at board.due.flags.items k ≡ flag_at frame.board.due.flags.items k) → AreCarried net asked board → Begins s net asked (record frame { first = None; board = board })
begins s net asked frame board f spared nets readers full order due flags carried = record {
  long = ap (λ (v : Vec NetRails). length v.items) nets ∙ f.long;
  refs = subst (λ (v : Vec NetRails). All (AreNetRefs s) v.items) (sym nets) f.refs;
  full = λ told. subst (λ (v : Vec NetRails). AreFull v.items) (sym nets) (f.full (subst IsTrue full told));
  due = due ∙ f.due;
  order = subst (λ (v : Vec ℕ). IsSettledOrder net v.items) (sym order) f.order;
  room = f.room;
  inside = f.inside;
  undriven = subst (λ (v : Vec NetRails). AreOpen s net frame.asked.items v.items) (sym nets) f.undriven;
  lists = λ told. subst (AreReaders net) (sym readers) (f.lists told);
  spare = f.spare;
  spared = spared_same s net asked frame.board board nets readers flags spared;
  carried = carried;
}

-- the next sets are those of a frame with the same nets
pub next_same : (net : RawNet) (old new : Frame) → new.first ≡ old.first → new.board.nets ≡ old.board.nets → next_of net new ≡ next_of net old
next_same net old new first nets = ap (λ (o : Option (List Rails)). first_or o (map (input_rails (nets_of new)) net.latches)) first ∙ ap (λ (v : Vec NetRails). first_or old.first (map (input_rails (map bare v.items)) net.latches)) nets

-- where each of the sets is at its net, each latch has its own
pub all_latches : (net : RawNet) (s u : Store) (weak : List NodeId) (ls : List SymbolicSet) (family : ℕ → SymbolicSet) (sets : List LatchSet) (xs ys : List NetRails) → AreGiven s net weak ls family sets xs → HaveLatchSets family u sets (length sets) ys → StayRight family s xs u ys
    → HaveLatches net family u (length net.latches) ys
all_latches net s u weak ls family sets xs ys given have stay k d lt inside = elim (given.each k d inside) [
  | inl among ↦
      let z : LatchSet = record { output = record { 0 = 0 }; rails = no_rails; given = unknown } in
      subst (λ (i : ℕ). AreNetRails u (family i) (net_at ys i)) (among.output z) (have among.place z among.inside among.inside)
  | inr own ↦ stay (get_or net.latches k d).output.0 own
]

-- ---- one latch more is looked at

-- the latch that was read has its place
latch_at : (latches : List Latch) (n : ℕ) (latch d : Latch) → n < length latches → latch ≡ get_or latches n latch → get_or latches n d ≡ latch
latch_at latches n latch d lt is = get_or_default latches n d latch lt ∙ sym is

pub among_more : (sets : List LatchSet) (set : LatchSet) (id : ℕ) → IsAmong sets id → IsAmong (sets ++ set ∷ []) id
among_more sets set id h = record {
  place = h.place;
  inside = let e = length-append sets (set ∷ []) in let lt = h.inside in omega (arith, e, lt);
  output = λ d. ap (λ (x : LatchSet). x.output.0) (get_or_append_left sets (set ∷ []) d h.place h.inside) ∙ h.output d;
}

pub among_last : (sets : List LatchSet) (set : LatchSet) (id : ℕ) → set.output.0 ≡ id → IsAmong (sets ++ set ∷ []) id
among_last sets set id is = record {
  place = length sets;
  inside = let e = length-append sets (set ∷ []) in omega (arith, e);
  output = λ d. ap (λ (x : LatchSet). x.output.0) (get_or_push sets set d (length sets) refl) ∙ is;
}

-- the set of the latch of this number
pub own_set : (net : RawNet) (next : List Rails) (weak : List NodeId) (nets : List NetRails) (n : ℕ) (latch : Latch) (set : LatchSet) → n < length net.latches → latch ≡ get_or net.latches n latch → set.output ≡ latch.output → ((d : Rails) → rails_unless (is_weakened (ids_of weak) latch.output.0) (get_or next n d) ≡ set.rails)
    → net_at nets latch.input.0 ≡ set.given → IsSetOf net next weak nets set
own_set net next weak nets n latch set lt is output rails given = record {
  number = n;
  inside = lt;
  output = λ d. ap (λ (x : Latch). x.output) (latch_at net.latches n latch d lt is) ∙ sym output;
  rails = λ d. ap (λ (node : NodeId). rails_unless (is_weakened (ids_of weak) node.0) (get_or next n d)) output ∙ rails d;
  given = λ d. ap (λ (x : Latch). net_at nets x.input.0) (latch_at net.latches n latch d lt is) ∙ given;
}

-- the rails of a latch's input
pub next_at : (net : RawNet) (nets : List NetRails) (n : ℕ) (latch : Latch) (d : Rails) → IsInRange net → length nets ≡ net.nets → n < length net.latches → latch ≡ get_or net.latches n latch
    → get_or (map (input_rails (map bare nets)) net.latches) n d ≡ bare (net_at nets latch.input.0)
next_at net nets n latch d range long lt is =
    let inside : (get_or net.latches n latch).input.0 < length nets = subst (λ (m : ℕ). (get_or net.latches n latch).input.0 < m) (sym long) (range.latch_inputs n latch lt) in
    get_or-map (input_rails (map bare nets)) net.latches n latch d lt ∙ get_or-map bare nets (get_or net.latches n latch).input.0 unknown _ inside ∙ ap (λ (x : Latch). bare (net_at nets x.input.0)) (sym is)

-- a set is added, or none is
abbrev pub Grows : Option LatchSet → List LatchSet → List LatchSet → Type 0
Grows result sets new = ((set : LatchSet) × (result ≡ Some set) × (new ≡ sets ++ set ∷ [])) ⊎ ((result ≡ None) × (new ≡ sets))

-- each set that is added is that of a latch
pub own_next : (net : RawNet) (next : List Rails) (weak : List NodeId) (nets : List NetRails) (result : Option LatchSet) (sets new : List LatchSet) → Grows result sets new → ((set : LatchSet) → result ≡ Some set → IsSetOf net next weak nets set)
    → All (IsSetOf net next weak nets) sets → All (IsSetOf net next weak nets) new
own_next net next weak nets result sets new (inl (set, is, more)) here own = subst (All (IsSetOf net next weak nets)) (sym more) (All-push (IsSetOf net next weak nets) sets set own (here set is))
own_next net next weak nets result sets new (inr (none, same)) here own = subst (All (IsSetOf net next weak nets)) (sym same) own

-- the first latches have a set each, or theirs already
abbrev HasPlace : RawNet → List Rails → List NodeId → List NetRails → List LatchSet → ℕ → Latch → Type 0
HasPlace net next asked nets sets k latch = IsAmong sets latch.output.0 ⊎ IsInPlace next asked nets k latch

pub places_next : (net : RawNet) (next : List Rails) (asked : List NodeId) (nets : List NetRails) (result : Option LatchSet) (sets new : List LatchSet) (n : ℕ) (latch : Latch) → n < length net.latches → latch ≡ get_or net.latches n latch
    → Grows result sets new → ((set : LatchSet) → result ≡ Some set → set.output ≡ latch.output) → (result ≡ None → IsInPlace next asked nets n latch)
    → ((k : ℕ) (d : Latch) → k < n → k < length net.latches → HasPlace net next asked nets sets k (get_or net.latches k d))
    → (k : ℕ) (d : Latch) → k < n + 1 → k < length net.latches → HasPlace net next asked nets new k (get_or net.latches k d)
places_next net next asked nets result sets new n latch inside is grows some none before k d lt within = elim (cases_lt k n) [
  | inl early ↦ stays grows (get_or net.latches k d) (before k d early within)
  | inr late ↦
      let e : n ≡ k = omega (arith, lt, late) in
      subst (λ (i : ℕ). HasPlace net next asked nets new i (get_or net.latches i d)) e (subst (HasPlace net next asked nets new n) (sym (latch_at net.latches n latch d inside is)) (here grows))
]
  where
    stays : Grows result sets new → (x : Latch) → HasPlace net next asked nets sets k x → HasPlace net next asked nets new k x
    stays (inl (set, e, more)) x (inl among) = inl (subst (λ (xs : List LatchSet). IsAmong xs x.output.0) (sym more) (among_more sets set x.output.0 among))
    stays (inr (e, same)) x (inl among) = inl (subst (λ (xs : List LatchSet). IsAmong xs x.output.0) (sym same) among)
    stays g x (inr place) = inr place

    here : Grows result sets new → HasPlace net next asked nets new n latch
    here (inl (set, e, more)) = inl (subst (λ (xs : List LatchSet). IsAmong xs latch.output.0) (sym more) (among_last sets set latch.output.0 (ap (λ (node : NodeId). node.0) (some set e))))
    here (inr (e, same)) = inr (none e)

-- a latch whose output is not cut, and has the references of its input, has its set already
pub in_place : (net : RawNet) (asked : List NodeId) (nets : List NetRails) (n : ℕ) (latch : Latch) → IsInRange net → length nets ≡ net.nets → n < length net.latches → latch ≡ get_or net.latches n latch → is_listed asked latch.output.0 ≡ false
    → net_at nets latch.output.0 ≡ net_at nets latch.input.0 → IsInPlace (map (input_rails (map bare nets)) net.latches) asked nets n latch
in_place net asked nets n latch range long lt is uncut_here same = record {
  uncut = uncut_here;
  rails = λ d. next_at net nets n latch d range long lt is ∙ ap bare (sym same);
}

-- latches without a mark have their sets already
pub places_to : (net : RawNet) (asked : List NodeId) (board : Board) (sets : List LatchSet) (n m : ℕ) → IsInRange net → length board.nets.items ≡ net.nets → AreCarried net asked board
    → ((k : ℕ) → n ≤ k → k < m → flag_at board.due.flags.items (length net.gates + k) ≡ false)
    → ((k : ℕ) (d : Latch) → k < n → k < length net.latches → HasPlace net (map (input_rails (map bare board.nets.items)) net.latches) asked board.nets.items sets k (get_or net.latches k d))
    → (k : ℕ) (d : Latch) → k < m → k < length net.latches → HasPlace net (map (input_rails (map bare board.nets.items)) net.latches) asked board.nets.items sets k (get_or net.latches k d)
places_to net asked board sets n m range long carried none before k d lt within = elim (cases_lt k n) [
  | inl early ↦ before k d early within
  | inr late ↦
      let latch : Latch = get_or net.latches k d in
      let h = carried k d within (none k late lt) in
      inr (in_place net asked board.nets.items k latch range long within (get_or_default net.latches k d latch within) h.uncut h.same)
]

carried_same : (asked : List NodeId) (old new : Board) (k : ℕ) (latch : Latch) → new.nets ≡ old.nets → new.readers ≡ old.readers → IsCarried asked old k latch → IsCarried asked new k latch
carried_same asked old new k latch nets readers h = record {
  uncut = h.uncut;
  same = subst (λ (xs : Vec NetRails). net_at xs.items latch.output.0 ≡ net_at xs.items latch.input.0) (sym nets) h.same;
  between = subst (λ r. IsBetween r k latch) (sym readers) h.between;
}

-- where one mark was taken away, its latch has no other references than its input
pub carried_next : (net : RawNet) (asked : List NodeId) (listed : Bool) (old new : Board) (n : ℕ) (latch : Latch) → n < length net.latches → latch ≡ get_or net.latches n latch
    → (IsTrue listed → AreReaders net old.readers) → new.nets ≡ old.nets → new.readers ≡ old.readers → ((k : ℕ) → k ≢ length net.gates + n → flag_at new.due.flags.items k ≡ flag_at old.due.flags.items k)
    → (flag_at new.due.flags.items (length net.gates + n) ≡ false → (flag_at old.due.flags.items (length net.gates + n) ≡ false) ⊎ (IsTrue listed × IsCopied asked old.nets.items latch))
    → AreCarried net asked old → AreCarried net asked new
carried_next net asked listed old new n latch inside is lists nets readers others cleared carried k d lt none = elim (cases_eq k n) [
  | inl here ↦ subst (λ (i : ℕ). IsCarried asked new (length net.gates + i) (get_or net.latches i d)) (sym here) (by (cleared (subst (λ (i : ℕ). flag_at new.due.flags.items (length net.gates + i) ≡ false) here none)))
  | inr other ↦ carried_same asked old new (length net.gates + k) (get_or net.latches k d) nets readers (carried k d lt (sym (others (length net.gates + k) (λ e. other (omega (arith, e)))) ∙ none))
]
  where
    number : ℕ
    number = length net.gates + n

    by : (flag_at old.due.flags.items number ≡ false) ⊎ (IsTrue listed × IsCopied asked old.nets.items latch) → IsCarried asked new number (get_or net.latches n d)
    by (inl was) = carried_same asked old new number (get_or net.latches n d) nets readers (carried n d inside was)
    by (inr (told, copied)) =
        let at : get_or net.latches n d ≡ latch = latch_at net.latches n latch d inside is in
        let own : IsCarried asked old number latch = record { uncut = copied.0; same = copied.1; between = subst (IsBetween old.readers number) at ((lists told).latches n d inside) } in
        carried_same asked old new number (get_or net.latches n d) nets readers (subst (IsCarried asked old number) (sym at) own)
