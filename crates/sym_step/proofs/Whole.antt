-- A step in plain words: there are sets to put into its clause, and they are what its rails say.
use Rattle.std.proofs.Common.{◌≡◌, ℕ, zero, suc, ◌<◌, ◌≤◌, Bool, true, false, List, [], ◌∷◌, length, map, get_or, refl, sym, ◌∙◌, ap, subst, arith, inl, inr, All, Result, Ok, Err, IfOk}
use Rattle.std.specs.List.{AllZip}
use Rattle.std.proofs.lemmas.Bool.{cases_lt}
use Rattle.std.proofs.lemmas.List.{length-map, get_or_default}
use Rattle.std.proofs.lemmas.List.Elements.{All-head, All-tail, All-nil, All-cons}
use Rattle.dd_nodes.specs.declared.node.Ref.{Ref}
use Rattle.ste_base.specs.Functions.{Function}
use Rattle.dd_nodes.specs.Stores.{Store, IsRef, function}
use Rattle.dd_nodes.proofs.Stores.{IsGood}
use Rattle.dd_ops.specs.declared.fault.OpFault.{OpFault}
use Rattle.dd_ops.proofs.Terminal.{one_bit}
use Rattle.net_core.specs.declared.bit_set.BitSet.{BitSet}
use Rattle.net_core.specs.declared.raw.RawNet.{RawNet}
use Rattle.net_core.specs.Flat.{IsInRange}
use Rattle.net_core.specs.Possible.{Asked, ArePossible}
use Rattle.net_core.specs.Run.{IsSettled}
use Rattle.net_core.specs.Sets.{IsIn, both}
use Rattle.net_core.specs.Work.{ArePossibleEach, SymbolicAsked, SymbolicCut, SymbolicSet, asked_under, cut_at, set_at, time_work}
use Rattle.net_core.proofs.OneTime.{by_index}
use Rattle.net_core.proofs.Possible.{one_possible, same_fields, same_set}
use Rattle.dual_rail.specs.declared.rails.Rails.{Rails}
use Rattle.dual_rail.specs.Rail.{AreRails, AreRefs, Built, set_of}
use Rattle.dual_rail.proofs.Works.{set_where, refs_of}
use Rattle.dual_rail.proofs.Turns.{own_zip}
use Rattle.sym_step.specs.declared.cut.Cut.{Cut}
use Rattle.sym_step.specs.declared.frame.Frame.{Frame}
use Rattle.sym_step.specs.declared.made.Step.{Step}
use Rattle.sym_step.specs.Frame.{step_of}
use Rattle.sym_step.specs.private.Parts.{asks}
use Rattle.sym_step.specs.Step.{IsCutBy, IsCutOf, IsPossibleStep, IsStep, asked_of, ids_of, rails_at, sets_of}
use Rattle.sym_step.proofs.Cutting.{own_demands}
use Rattle.ste_base.specs.declared.id.NodeId.{NodeId}

-- there are sets of one time, for all assignments at once
pub sets_exist : (net : RawNet) (vars : ℕ) (ls : List SymbolicSet) (asked : SymbolicAsked) → IsSettled net → length ls ≡ length net.latches → (sets : ℕ → SymbolicSet) × ArePossibleEach vars net ls asked sets
sets_exist net vars ls asked settled long =
    let one : (bits : List Bool) → (sets : ℕ → BitSet) × ArePossible net (map (set_at bits) ls) (asked_under bits asked) sets = λ bits. one_possible.some net (map (set_at bits) ls) (asked_under bits asked) settled (length-map ls (set_at bits) ∙ long) in
    (λ id. record { zero = λ bits. ((one bits).0 id).zero; one = λ bits. ((one bits).0 id).one }, λ bits l. (one bits).1)

-- a number that is no net has both bits
beyond : (net : RawNet) (latches : List BitSet) (asked : Asked) (sets : ℕ → BitSet) (id : ℕ) → IsInRange net → ArePossible net latches asked sets → All (λ cut. cut.node < net.nets) asked.cuts → net.nets ≤ id → sets id ≡ both
beyond net latches asked sets id range possible inside le = same_set (sets id) both (λ bit h. any bit) (λ bit h. (possible.each id bit).1 (record {
  source = λ driven. record {
    by_gate = λ k d lt e. let out = range.gate_outputs k d lt in absurd (omega (arith, out, le, e));
    by_latch = by_index id bit net.latches latches possible.long (λ k lt l e. let out = range.latch_outputs k l lt in absurd (omega (arith, out, le, e)));
  };
  left = λ k d lt on e. let node = inside k d lt in absurd (omega (arith, node, le, e));
}))
  where
    any : (bit : Bool) → IsIn bit both
    any true = refl
    any false = refl

get_or-none : (xs : List Rails) (k : ℕ) (d : Rails) → length xs ≤ k → get_or xs k d ≡ d
get_or-none [] k d le = refl
get_or-none (x ∷ xs) zero d le = absurd (omega arith)
get_or-none (x ∷ xs) (suc k) d le = get_or-none xs k d (omega arith)

own_cut : Store → Cut → SymbolicCut
own_cut s c = record { node = c.node.0; guard = function s c.guard; value = function s c.value }

latches_are : (s : Store) (bits : List Bool) (latches : List Rails) → map (set_at bits) (map (set_where s) latches) ≡ map (set_of s bits) latches
latches_are s bits [] = refl
latches_are s bits (r ∷ rs) = ap (λ xs. set_of s bits r ∷ xs) (latches_are s bits rs)

cuts_are : (s : Store) (bits : List Bool) (weak : List NodeId) (cuts : List Cut) → asked_under bits (asks weak (map (λ (c : Cut). record { node = c.node.0; guard = function s c.guard; value = function s c.value }) cuts)) ≡ asked_of s bits weak cuts
cuts_are s bits weak cuts = let make : List _ → Asked = λ cs. record { cuts = cs; weak = ids_of weak } in ap make (go cuts)
  where
    go : (cs : List Cut) → map (cut_at bits) (map (λ (c : Cut). record { node = c.node.0; guard = function s c.guard; value = function s c.value }) cs) ≡ (asked_of s bits weak cs).cuts
    go [] = refl
    go (c ∷ cs) = ap (λ xs. record { node = c.node.0; on = function s c.guard bits; value = function s c.value bits } ∷ xs) (go cs)

nodes_inside : (s : Store) (net : RawNet) (bits : List Bool) (weak : List NodeId) (cuts : List Cut) → All (IsCutOf s net) cuts → All (λ cut. cut.node < net.nets) (asked_of s bits weak cuts).cuts
nodes_inside s net bits weak [] h = λ k d lt. absurd (omega arith)
nodes_inside s net bits weak (c ∷ cs) h = All-cons (λ cut. cut.node < net.nets) (record { node = c.node.0; on = function s c.guard bits; value = function s c.value bits }) (asked_of s bits weak cs).cuts (All-head (IsCutOf s net) c cs h).node (nodes_inside s net bits weak cs (All-tail (IsCutOf s net) c cs h))

zip_refs : (t : Store) (ws : List SymbolicSet) (rails : List Rails) → AllZip (AreRails t) ws rails → All (AreRefs t) rails
zip_refs t [] [] h = All-nil (AreRefs t)
zip_refs t [] (r ∷ rs) h = absurd h
zip_refs t (w ∷ ws) [] h = absurd h
zip_refs t (w ∷ ws) (r ∷ rs) h = All-cons (AreRefs t) r rs (refs_of t w r h.0) (zip_refs t ws rs h.1)

-- what is left of a step, without sets
pub record StepLeft (net : RawNet) (latches : List Rails) (weak : List NodeId) (cuts : List Cut) (s t : Store) (r : Step) : Type 0 where
  pub nets : All (AreRefs t) r.nets
  pub contradictory : IsRef t r.contradictory
  pub next : All (AreRefs t) r.next
  pub possible : IsPossibleStep net latches weak cuts s t r

module _ (net : RawNet) (range : IsInRange net) (settled : IsSettled net) (latches : List Rails) (weak : List NodeId) (cuts : List Cut) (s t : Store) (dt : IsGood t) (long : length latches ≡ length net.latches) (refs : All (AreRefs s) latches) (good : All (IsCutOf s net) cuts) where
  abbrev pub ls : List SymbolicSet
  ls = map (set_where s) latches

  abbrev pub asked : SymbolicAsked
  asked = asks weak (map (λ (c : Cut). record { node = c.node.0; guard = function s c.guard; value = function s c.value }) cuts)

  abbrev pub exist : (sets : ℕ → SymbolicSet) × ArePossibleEach s.vars net ls asked sets
  exist = sets_exist net s.vars ls asked settled (length-map latches (set_where s) ∙ long)

  -- the clause of a call at the references' own functions
  pub own_call : {A : Type 0} (right : (ℕ → SymbolicSet) → Store → A → Type 0) (result : Result A OpFault)
      → ((ls : List SymbolicSet) (asked : SymbolicAsked) (sets : ℕ → SymbolicSet) → AllZip (AreRails s) ls latches → AllZip (IsCutBy s) asked.cuts cuts → asked.weak ≡ ids_of weak → ArePossibleEach s.vars net ls asked sets → Built (time_work net ls asked sets) (right sets) s t result)
      → Built (time_work net ls asked exist.0) (right exist.0) s t result
  own_call right result call = call ls asked exist.0 (own_zip s latches refs) (own_demands s cuts (λ k d l. (good k d l).guard) (λ k d l. (good k d l).value)) refl exist.1

  pub own_built : (result : Result Step OpFault)
      → ((ls : List SymbolicSet) (asked : SymbolicAsked) (sets : ℕ → SymbolicSet) → AllZip (AreRails s) ls latches → AllZip (IsCutBy s) asked.cuts cuts → asked.weak ≡ ids_of weak → ArePossibleEach s.vars net ls asked sets → Built (time_work net ls asked sets) (IsStep net sets) s t result)
      → Built (time_work net ls asked exist.0) (IsStep net exist.0) s t result
  own_built result call = own_call (IsStep net) result call

  pub step_left : (r : Step) → Built (time_work net ls asked exist.0) (IsStep net exist.0) s t (Ok r) → StepLeft net latches weak cuts s t r
  step_left r made = record {
    nets = λ k d lt. subst (AreRefs t) (same_default r k d lt) (refs_of t (exist.0 k) (rails_at r.nets k) (made.ok.nets k (let n = made.ok.long in omega (arith, n, lt))));
    contradictory = made.ok.contradictory.ref;
    next = zip_refs t (map (λ latch. exist.0 latch.input.0) net.latches) r.next made.ok.next;
    possible = λ bits l.
        let fam : ArePossible net (map (set_at bits) ls) (asked_under bits asked) (λ id. set_at bits (exist.0 id)) = exist.1 bits l in
        let known : ArePossible net (map (set_of s bits) latches) (asked_of s bits weak cuts) (λ id. set_at bits (exist.0 id)) =
        subst (λ (xs : List BitSet). ArePossible net xs (asked_of s bits weak cuts) (λ id. set_at bits (exist.0 id))) (latches_are s bits latches)
        (subst (λ (a : Asked). ArePossible net (map (set_at bits) ls) a (λ id. set_at bits (exist.0 id))) (cuts_are s bits weak cuts) fam) in
        let same : (id : ℕ) → set_at bits (exist.0 id) ≡ sets_of t bits r.nets id = λ id. elim (cases_lt id net.nets) [
          | inl lt ↦
              let h = made.ok.nets id lt in
              let lt' : length bits ≡ t.vars = l ∙ sym made.spends.keeps.vars in
              same_fields _ _ _ _ (sym (h.zero.value bits lt')) (sym (h.one.value bits lt'))
          | inr le ↦
              let none : rails_at r.nets id ≡ record { can0 = record { 0 = 1 }; can1 = record { 0 = 1 } } = get_or-none r.nets id _ (let n = made.ok.long in omega (arith, n, le)) in
              beyond net (map (set_of s bits) latches) (asked_of s bits weak cuts) (λ i. set_at bits (exist.0 i)) id range known (nodes_inside s net bits weak cuts good) le
              ∙ sym (ap (set_of t bits) none ∙ same_fields _ _ _ _ (one_bit t (record { 0 = 1 }) bits dt refl) (one_bit t (record { 0 = 1 }) bits dt refl))
        ] in
        let all : (λ (id : ℕ). set_at bits (exist.0 id)) ≡ sets_of t bits r.nets = λ i id. same id i in
        subst (λ (f : ℕ → BitSet). ArePossible net (map (set_of s bits) latches) (asked_of s bits weak cuts) f) all known;
  }
    where
      same_default : (r : Step) (k : ℕ) (d : Rails) → k < length r.nets → rails_at r.nets k ≡ get_or r.nets k d
      same_default r k d lt = get_or_default r.nets k _ d lt

  pub refs_left : (result : Result Step OpFault) → Built (time_work net ls asked exist.0) (IsStep net exist.0) s t result → IfOk result (λ r. All (AreRefs t) r.nets × IsRef t r.contradictory × All (AreRefs t) r.next)
  refs_left (Ok r) made = let h = step_left r made in (h.nets, h.contradictory, h.next)
  refs_left (Err e) made = tt

  pub possible_left : (result : Result Step OpFault) → Built (time_work net ls asked exist.0) (IsStep net exist.0) s t result → IfOk result (λ r. IsPossibleStep net latches weak cuts s t r)
  possible_left (Ok r) made = (step_left r made).possible
  possible_left (Err e) made = tt

-- where some net is empty is held
pub empty_ref : (net : RawNet) (sets : ℕ → SymbolicSet) (frame : Frame) (work : List Function) (s t : Store) (result : Result Ref OpFault) → Built work (λ (u : Store) (r : Ref). IsStep net sets u (step_of net frame r)) s t result → IfOk result (λ r. IsRef t r)
empty_ref net sets frame work s t (Ok r) made = made.ok.contradictory.ref
empty_ref net sets frame work s t (Err e) made = tt
