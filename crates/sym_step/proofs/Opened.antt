-- The nets that latches drive, and those that nothing drives, get their sets.
use Rattle.std.proofs.Common.{◌≡◌, ◌≢◌, ℕ, zero, suc, ◌+◌, ◌<◌, Bool, true, false, List, [], ◌∷◌, length, map, get_or, set, replicate, None, refl, sym, ◌∙◌, ap, subst, arith, inl, inr, All, get_or-set_same, get_or-set_other, Ok, Err, Result}
use Rattle.dd_ops.specs.declared.fault.OpFault.{OpFault}
use Rattle.std.specs.Prelude.{IfSome, OnOk, AllPairs}
use Rattle.std.specs.List.{AllZip}
use Rattle.std.proofs.lemmas.Bool.{cases_eq, cases_lt, false≢true}
use Rattle.std.proofs.lemmas.List.{get_or_default, length-replicate}
use Rattle.std.proofs.lemmas.List.Elements.{All-append, All-nil, All-cons, All-head, All-tail}
use Rattle.ste_base.specs.declared.id.NodeId.{NodeId}
use Rattle.dd_nodes.specs.Stores.{Store, Keeps}
use Rattle.dd_nodes.proofs.Stores.{IsGood, Keeps-refl}
use Rattle.net_core.specs.declared.raw.Init.TheVariants.{Zero}
use Rattle.net_core.specs.declared.raw.Latch.{Latch}
use Rattle.net_core.specs.declared.raw.RawNet.{RawNet}
use Rattle.net_core.specs.declared.source.Source.{Source}
use Rattle.net_core.specs.declared.source.Source.TheVariants.{Input, Free, Gate as OfGate, Latch as OfLatch}
use Rattle.net_core.specs.Flat.{IsInRange, HasOneDriver, IsSettledOrder}
use Rattle.net_core.specs.Source.{source_of}
use Rattle.net_core.specs.Possible.{is_weakened}
use Rattle.net_core.specs.Work.{ArePossibleEach, SymbolicCut, SymbolicSet, after_cuts, everything, set_before_cuts, unless_weakened}
use Rattle.net_core.proofs.OneTime.{Facts, fixed}
use Rattle.sym_step.specs.declared.cut.Cut.{Cut}
use Rattle.gate_sets.specs.declared.net_rails.NetRails.{NetRails}
use Rattle.sym_step.specs.Step.{IsCutBy, ids_of}
use Rattle.sym_step.specs.private.Demands.{nodes_of}
use Rattle.sym_step.specs.declared.frame.Frame.{Frame}
use Rattle.sym_step.specs.Frame.{AreOpen, IsFrame, IsOpen, is_listed, mark_count}
use Rattle.sym_step.specs.private.Frames.{HaveLatches, HaveOpen, StayRight}
use Rattle.sym_step.specs.declared.latches.LatchSet.{LatchSet}
use Rattle.sym_step.specs.private.Latches.{HaveLatchSets}
use Rattle.sym_step.specs.private.Readers.{AreReaders, flag_at}
use Rattle.gate_sets.specs.NetSets.{AreNetRails, AreNetRefs, net_at}
use Rattle.sym_step.specs.private.Parts.{HaveNets, HaveSources, asks}
use Rattle.sym_step.proofs.Framing.{listed_at, not_first, unlisted}
use Rattle.sym_step.proofs.Listed.{unless_both}
use Rattle.gate_sets.proofs.NetRefs.{Net-keeps}
use Rattle.sym_step.proofs.Sourced.{all_unknown, before_by, known, unknown, unknown_net}
use Rattle.sym_step.proofs.Turning.{Net-same}

-- what follows where a call has answered
pub ok_then : {A P Q : Type 0} (r : Result A OpFault) → (P → Q) → OnOk r P → OnOk r Q
ok_then (Ok a) f h = f h
ok_then (Err e) f h = tt

-- the nets of cuts are nets
cut_nodes_inside : (n : ℕ) (cuts : List Cut) → All (λ c. c.node.0 < n) cuts → All (λ node. node.0 < n) (map (λ (c : Cut). c.node) cuts)
cut_nodes_inside n [] h = All-nil (λ (node : NodeId). node.0 < n)
cut_nodes_inside n (c ∷ cs) h = All-cons (λ (node : NodeId). node.0 < n) c.node (map (λ (x : Cut). x.node) cs) (All-head (λ (x : Cut). x.node.0 < n) c cs h) (cut_nodes_inside n cs (All-tail (λ (x : Cut). x.node.0 < n) c cs h))

-- those of which something is asked are nets
pub nodes_inside : (n : ℕ) (weak : List NodeId) (cuts : List Cut) → All (λ node. node.0 < n) weak → All (λ c. c.node.0 < n) cuts → All (λ node. node.0 < n) (nodes_of weak cuts)
nodes_inside n weak cuts w h = All-append (λ (node : NodeId). node.0 < n) weak (map (λ (c : Cut). c.node) cuts) w (cut_nodes_inside n cuts h)

at_replicate : {X : Type 0} (n k : ℕ) (x d : X) → k < n → get_or (replicate n x) k d ≡ x
at_replicate zero k x d lt = absurd (omega (arith, lt))
at_replicate (suc n) zero x d lt = refl
at_replicate (suc n) (suc k) x d lt = at_replicate n k x d (omega (arith, lt))

-- a frame of no time is one
pub blank_is : (s : Store) (net : RawNet) (frame : Frame) → IsGood s → frame.board.nets.items ≡ replicate net.nets unknown → frame.board.due.flags.items ≡ replicate (mark_count net) true → IsSettledOrder net frame.board.due.order.items → IfSome frame.spare (AreReaders net) → frame.board.full ≡ false → frame.asked.items ≡ [] → frame.first ≡ None → frame.listed ≡ false
    → All (λ gate. length gate.inputs < length frame.products.items) net.gates → IsFrame s net frame
blank_is s net frame gs nets due order spare full asked none listed room = record {
  room = room;
  long = ap length nets ∙ length-replicate net.nets unknown;
  refs = subst (All (AreNetRefs s)) (sym nets) (all_unknown s net.nets gs);
  full = λ yes. absurd (false≢true (sym full ∙ yes));
  due = ap length due ∙ length-replicate (mark_count net) true;
  order = order;
  inside = subst (All (λ (node : NodeId). node.0 < net.nets)) (sym asked) (All-nil (λ (node : NodeId). node.0 < net.nets));
  first = not_first s net frame.first none;
  undriven = λ id lt is listed. subst (AreNetRails s everything) (sym (ap (λ (xs : List NetRails). net_at xs id) nets ∙ at_replicate net.nets id unknown unknown lt)) (unknown_net s gs);
  blank = λ begun k lt. marked k lt;
  lists = λ yes. absurd (false≢true (sym listed ∙ yes));
  spare = spare;
  kept = λ k d lt flag set_before_cuts. absurd (false≢true (sym flag ∙ marked k (omega (arith, lt))));
  carried = λ k d lt flag set_before_cuts. absurd (false≢true (sym flag ∙ marked (length net.gates + k) (omega (arith, lt))));
}
  where
    marked : (k : ℕ) → k < length net.gates + length net.latches → flag_at frame.board.due.flags.items k ≡ true
    marked k lt = ap (λ (xs : List Bool). flag_at xs k) due ∙ at_replicate (length net.gates + length net.latches) k true false lt

-- no two latches drive one net
one_latch : (latches : List Latch) → AllPairs (λ one other. one.output.0 ≢ other.output.0) latches → (j k : ℕ) (d : Latch) → j < length latches → k < length latches → (get_or latches j d).output.0 ≡ (get_or latches k d).output.0 → j ≡ k
one_latch latches apart j k d l m same = elim (cases_lt j k) [
  | inl less ↦ absurd (apart j k d less m same)
  | inr more ↦ elim (cases_lt k j) [
    | inl less ↦ absurd (apart k j d less l (sym same))
    | inr other ↦ omega arith
  ]
]

-- the latch that drives a net is its source
pub latch_source : (net : RawNet) → HasOneDriver net → (k : ℕ) (d : Latch) → k < length net.latches → source_of net (get_or net.latches k d).output.0 ≡ OfLatch k
latch_source net one k d lt = by (source_of net id) refl
  where
    id : ℕ
    id = (get_or net.latches k d).output.0

    by : (src : Source) → src ≡ source_of net id → source_of net id ≡ OfLatch k
    by Input e = absurd ((known net one id Input e).1 k d lt refl)
    by Free e = absurd ((known net one id Free e).1 k d lt refl)
    by (OfGate g) e = absurd ((known net one id (OfGate g) e).2 k d lt refl)
    by (OfLatch l) e =
        let f : Facts net id (OfLatch l) = known net one id (OfLatch l) e in
        sym e ∙ ap OfLatch (one_latch net.latches one.latches l k d f.0 lt (f.1 d))

-- the set of a latch's output before its cuts
pub latch_before : (net : RawNet) → HasOneDriver net → (weak : List ℕ) (ls : List SymbolicSet) (sets : ℕ → SymbolicSet) (l : ℕ) (d : Latch) → l < length net.latches
    → set_before_cuts net weak ls sets (get_or net.latches l d).output.0 ≡ unless_weakened (is_weakened weak (get_or net.latches l d).output.0) (get_or ls l everything)
latch_before net one weak ls sets l d lt = before_by net weak ls sets (get_or net.latches l d).output.0 (OfLatch l) (sym (latch_source net one l d lt))

-- ---- one net is written

pub stay_put : (sets : ℕ → SymbolicSet) (t u : Store) (nets : List NetRails) (id : ℕ) (r : NetRails) → IsGood t → IsGood u → Keeps t u → id < length nets
    → (AreNetRails t (sets id) (net_at nets id) → AreNetRails u (sets id) r) → StayRight sets t nets u (set nets id r)
stay_put sets t u nets id r gt gu k lt give j h = elim (cases_eq j id) [
  | inl here ↦ subst (λ (i : ℕ). AreNetRails u (sets i) (net_at (set nets id r) i)) (sym here)
      (subst (AreNetRails u (sets id)) (sym (get_or-set_same nets id r unknown lt)) (give (subst (λ (i : ℕ). AreNetRails t (sets i) (net_at nets i)) here h)))
  | inr other ↦ subst (AreNetRails u (sets j)) (sym (get_or-set_other nets id j r unknown other)) (Net-keeps t u (sets j) (net_at nets j) gt gu k h)
]

pub here_put : (sets : ℕ → SymbolicSet) (u : Store) (nets : List NetRails) (id : ℕ) (r : NetRails) → id < length nets → AreNetRails u (sets id) r → AreNetRails u (sets id) (net_at (set nets id r) id)
here_put sets u nets id r lt h = subst (AreNetRails u (sets id)) (sym (get_or-set_same nets id r unknown lt)) h

pub stay_start : (sets : ℕ → SymbolicSet) (t : Store) (nets : List NetRails) → StayRight sets t nets t nets
stay_start sets t nets id h = h

pub stay_then : (sets : ℕ → SymbolicSet) (s t u : Store) (xs ys zs : List NetRails) → StayRight sets s xs t ys → StayRight sets t ys u zs → StayRight sets s xs u zs
stay_then sets s t u xs ys zs early late id h = late id (early id h)

-- one latch more
pub latches_next : (family : ℕ → SymbolicSet) (t u : Store) (sets : List LatchSet) (nets new : List NetRails) (n : ℕ) (set : LatchSet) → set ≡ get_or sets n set → HaveLatchSets family t sets n nets → StayRight family t nets u new
    → AreNetRails u (family set.output.0) (net_at new set.output.0) → HaveLatchSets family u sets (n + 1) new
latches_next family t u sets nets new n set is have stay here k d lt inside = elim (cases_lt k n) [
  | inl early ↦ stay (get_or sets k d).output.0 (have k d early inside)
  | inr late ↦
      let e : n ≡ k = omega (arith, lt, late) in
      let same : set ≡ get_or sets k d = is ∙ ap (λ (i : ℕ). get_or sets i set) e ∙ get_or_default sets k set d inside in
      subst (λ (x : LatchSet). AreNetRails u (family x.output.0) (net_at new x.output.0)) same here
]

-- one net more that nothing drives
pub open_next : (net : RawNet) (sets : ℕ → SymbolicSet) (t u : Store) (ids : List NodeId) (nets new : List NetRails) (n : ℕ) (node : NodeId) → node ≡ get_or ids n node → HaveOpen net sets t ids n nets → StayRight sets t nets u new
    → (IsOpen net node.0 → AreNetRails u (sets node.0) (net_at new node.0)) → HaveOpen net sets u ids (n + 1) new
open_next net sets t u ids nets new n node is have stay here k d lt inside open_ = elim (cases_lt k n) [
  | inl early ↦ stay (get_or ids k d).0 (have k d early inside open_)
  | inr late ↦
      let e : n ≡ k = omega (arith, lt, late) in
      let same : node ≡ get_or ids k d = is ∙ ap (λ (i : ℕ). get_or ids i node) e ∙ get_or_default ids k node d inside in
      subst (λ (x : NodeId). IsOpen net x.0 → AreNetRails u (sets x.0) (net_at new x.0)) same here open_
]

-- ---- all nets that no gate drives

module _ (net : RawNet) (range : IsInRange net) (one : HasOneDriver net) (ls : List SymbolicSet) (weak : List NodeId) (ds : List SymbolicCut) (sets : ℕ → SymbolicSet) (long : length ls ≡ length net.latches) where
  -- the set behind the cuts is that of the family
  pub set_is : (s u : Store) (id : ℕ) (r : NetRails) → Keeps s u → ArePossibleEach s.vars net ls (asks weak ds) sets → AreNetRails u (after_cuts ds (set_before_cuts net (ids_of weak) ls sets) id) r → AreNetRails u (sets id) r
  set_is s u id r k family h = Net-same u (after_cuts ds (set_before_cuts net (ids_of weak) ls sets) id) (sets id) r (λ bits l. fixed net s.vars ls (asks weak ds) sets bits range one long family (l ∙ k.vars) id) h

  pub set_was : (s u : Store) (id : ℕ) (r : NetRails) → Keeps s u → ArePossibleEach s.vars net ls (asks weak ds) sets → AreNetRails u (sets id) r → AreNetRails u (after_cuts ds (set_before_cuts net (ids_of weak) ls sets) id) r
  set_was s u id r k family h = Net-same u (sets id) (after_cuts ds (set_before_cuts net (ids_of weak) ls sets) id) r (λ bits l. sym (fixed net s.vars ls (asks weak ds) sets bits range one long family (l ∙ k.vars) id)) h

  open_before : (id : ℕ) → IsOpen net id → set_before_cuts net (ids_of weak) ls sets id ≡ everything
  open_before id (inl e) = before_by net (ids_of weak) ls sets id Input (sym e) ∙ unless_both (is_weakened (ids_of weak) id)
  open_before id (inr e) = before_by net (ids_of weak) ls sets id Free (sym e) ∙ unless_both (is_weakened (ids_of weak) id)

  -- a net of which nothing is asked now is among those that are left where it was among the old ones
  abbrev IsLeft : List NodeId → List NodeId → List NodeId → Type 0
  IsLeft asked old before = (id : ℕ) → is_listed asked id ≡ false → is_listed before id ≡ is_listed old id

  -- a net that nothing drives, now or before
  open_has : (s t u v : Store) (cuts : List Cut) (old before : List NodeId) (xs ys zs ws : List NetRails) → IsGood s → IsGood v → Keeps s t → ArePossibleEach s.vars net ls (asks weak ds) sets → AllZip (IsCutBy s) ds cuts
      → AreOpen s net old xs → IsLeft (nodes_of weak cuts) old before → StayRight sets s xs t ys → HaveOpen net sets u before (length before) zs → StayRight sets t ys u zs
      → HaveOpen net sets v (nodes_of weak cuts) (length (nodes_of weak cuts)) ws → StayRight sets u zs v ws → (id : ℕ) → id < net.nets → IsOpen net id → AreNetRails v (sets id) (net_at ws id)
  open_has s t u v cuts old before xs ys zs ws gs gv kst family zip was left to_t have_before to_u have_now to_v id lt is =
      by (is_listed asked id) refl (is_listed before id) refl
    where
      asked : List NodeId
      asked = nodes_of weak cuts

      d0 : NodeId
      d0 = record { 0 = 0 }

      by : (a : Bool) → is_listed asked id ≡ a → (b : Bool) → is_listed before id ≡ b → AreNetRails v (sets id) (net_at ws id)
      by true e b f =
          let at = listed_at asked id e in
          subst (λ (i : ℕ). AreNetRails v (sets i) (net_at ws i)) (at.2 d0) (have_now at.0 d0 at.1 at.1 (subst (IsOpen net) (sym (at.2 d0)) is))
      by false e true f =
          let at = listed_at before id f in
          to_v id (subst (λ (i : ℕ). AreNetRails u (sets i) (net_at zs i)) (at.2 d0) (have_before at.0 d0 at.1 at.1 (subst (IsOpen net) (sym (at.2 d0)) is)))
      by false e false f =
          let here : AreNetRails s (after_cuts ds (set_before_cuts net (ids_of weak) ls sets) id) (net_at xs id) = subst (λ (w : SymbolicSet). AreNetRails s w (net_at xs id)) (sym (unlisted s ds weak cuts id (set_before_cuts net (ids_of weak) ls sets) zip e ∙ open_before id is)) (was id lt is (sym (left id e) ∙ f)) in
          to_v id (to_u id (to_t id (set_is s s id (net_at xs id) (Keeps-refl s) family here)))

  pub all_sources : (s t u v : Store) (cuts : List Cut) (old before : List NodeId) (xs ys zs ws : List NetRails) → IsGood s → IsGood v → Keeps s t → ArePossibleEach s.vars net ls (asks weak ds) sets → AllZip (IsCutBy s) ds cuts
      → AreOpen s net old xs → IsLeft (nodes_of weak cuts) old before → HaveLatches net sets t (length net.latches) ys → StayRight sets s xs t ys → HaveOpen net sets u before (length before) zs → StayRight sets t ys u zs
      → HaveOpen net sets v (nodes_of weak cuts) (length (nodes_of weak cuts)) ws → StayRight sets u zs v ws → HaveSources net sets v net.nets ws
  all_sources s t u v cuts old before xs ys zs ws gs gv kst family zip was left latches to_t have_before to_u have_now to_v id lt source = by (source_of net id) refl
    where
      by : (src : Source) → src ≡ source_of net id → AreNetRails v (sets id) (net_at ws id)
      by Input e = open_has s t u v cuts old before xs ys zs ws gs gv kst family zip was left to_t have_before to_u have_now to_v id lt (inl (sym e))
      by Free e = open_has s t u v cuts old before xs ys zs ws gs gv kst family zip was left to_t have_before to_u have_now to_v id lt (inr (sym e))
      by (OfGate g) e = absurd (source g (sym e))
      by (OfLatch l) e =
          let f : Facts net id (OfLatch l) = known net one id (OfLatch l) e in
          let d : Latch = record { input = record { 0 = 0 }; output = record { 0 = 0 }; init = Zero } in
          to_v id (to_u id (subst (λ (i : ℕ). AreNetRails t (sets i) (net_at ys i)) (f.1 d) (latches l d f.0 f.0)))

  -- at the end of a time each net that nothing drives and of which nothing was asked has both bits
  pub undriven_here : (s u : Store) (cuts : List Cut) (ids : List NodeId) (nets : List NetRails) → Keeps s u → ArePossibleEach s.vars net ls (asks weak ds) sets → AllZip (IsCutBy s) ds cuts → ids ≡ nodes_of weak cuts
      → HaveNets net sets u nets → AreOpen u net ids nets
  undriven_here s u cuts ids nets k family zip are have id lt is none =
      let same : after_cuts ds (set_before_cuts net (ids_of weak) ls sets) id ≡ everything = unlisted s ds weak cuts id (set_before_cuts net (ids_of weak) ls sets) zip (ap (λ (xs : List NodeId). is_listed xs id) (sym are) ∙ none) ∙ open_before id is in
      subst (λ (w : SymbolicSet). AreNetRails u w (net_at nets id)) same (set_was s u id (net_at nets id) k family (have id lt))
