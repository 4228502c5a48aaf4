-- Chains of slots, one for each net: they grow slot by slot, and are walked along from their heads.
use Rattle.std.proofs.Common.{◌≡◌, ◌≢◌, ℕ, suc, ◌+◌, ◌-◌, ◌<◌, ◌≤◌, Bool, true, false, List, [], ◌∷◌, ◌++◌, length, get_or, set, replicate, arith, sym, ap, refl, subst, ◌∙◌, inl, inr, length-set, get_or-set_same, get_or-set_other}
use Rattle.std.specs.Prelude.{◌⊎◌}
use Rattle.std.proofs.Math.Seq.{get_or-append_seam}
use Rattle.std.proofs.lemmas.Bool.{cases_eq, cases_lt, true≢false}
use Rattle.std.proofs.lemmas.List.{get_or_append_left, get_or_default, get_or-replicate, length-append, length-replicate}
use Rattle.ste_base.specs.declared.id.NodeId.{NodeId}
use Rattle.net_core.specs.declared.raw.Gate.{Gate}
use Rattle.net_core.specs.declared.raw.RawNet.{RawNet}
use Rattle.clock_step.specs.declared.readers.Readers.{Readers}
use Rattle.clock_step.specs.private.Readers.{AreChains, AreMarked, AreReaders, HasSlot, IsLast, IsNoInput, gate_at}
use Rattle.clock_step.specs.Determined.{bit_at}

-- ---- one slot more

longer : (xs : List ℕ) (x : ℕ) → length (xs ++ x ∷ []) ≡ suc (length xs)
longer xs x = length-append xs (x ∷ []) ∙ add_one (length xs)
  where
    add_one : (n : ℕ) → n + 1 ≡ suc n
    add_one n = omega arith

at_end : (xs : List ℕ) (x s : ℕ) → s ≡ length xs → get_or (xs ++ x ∷ []) s 0 ≡ x
at_end xs x s e = ap (λ (i : ℕ). get_or (xs ++ x ∷ []) i 0) e ∙ get_or-append_seam xs x [] 0

before_end : (xs : List ℕ) (x s : ℕ) → s < length xs → get_or (xs ++ x ∷ []) s 0 ≡ get_or xs s 0
before_end xs x s l = get_or_append_left xs (x ∷ []) 0 s l

last_stays : (nets : List ℕ) (x id n link : ℕ) → n ≤ length nets → IsLast nets id n link → IsLast (nets ++ x ∷ []) id n link
last_stays nets x id n link le is = record {
  within = is.within;
  own = λ s e. let w = is.within in before_end nets x s (omega (arith, le, e, w)) ∙ is.own s e;
  none = λ s le' l same. is.none s le' l (sym (before_end nets x s (omega (arith, le, l))) ∙ same);
}

-- the last of all slots
last_here : (nets : List ℕ) (x link : ℕ) → link ≡ length nets + 1 → IsLast (nets ++ x ∷ []) x (length (nets ++ x ∷ [])) link
last_here nets x link e = let long = longer nets x in record {
  within = omega (arith, long, e);
  own = λ s f. at_end nets x s (omega (arith, e, f));
  none = λ s le l. absurd (omega (arith, e, long, le, l));
}

-- the last slot of another net stays the last
last_other : (nets : List ℕ) (x id link : ℕ) → id ≢ x → IsLast nets id (length nets) link → IsLast (nets ++ x ∷ []) id (length (nets ++ x ∷ [])) link
last_other nets x id link other is =
    let long = longer nets x in
    let stays = last_stays nets x id (length nets) link (omega arith) is in
    let w = is.within in
    record {
      within = omega (arith, long, w);
      own = stays.own;
      none = λ s le l same. elim (cases_lt s (length nets)) [
        | inl early ↦ stays.none s le early same
        | inr late ↦ other (sym same ∙ at_end nets x s (omega (arith, long, late, l)))
      ];
    }

slot_stays : (nets places : List ℕ) (x p id place : ℕ) → length places ≡ length nets → HasSlot nets places id place → HasSlot (nets ++ x ∷ []) (places ++ p ∷ []) id place
slot_stays nets places x p id place same has = let long = longer nets x in let w = has.within in record {
  slot = has.slot;
  within = omega (arith, long, w);
  net = before_end nets x has.slot has.within ∙ has.net;
  at = before_end places p has.slot (omega (arith, same, w)) ∙ has.at;
}

slot_here : (nets places : List ℕ) (x p : ℕ) → length places ≡ length nets → HasSlot (nets ++ x ∷ []) (places ++ p ∷ []) x p
slot_here nets places x p same = let long = longer nets x in record {
  slot = length nets;
  within = omega (arith, long);
  net = at_end nets x (length nets) refl;
  at = at_end places p (length nets) (sym same);
}

-- no slots are chains of no gates
pub no_chains : (net : RawNet) (order : List ℕ) (readers : Readers) → readers.heads.items ≡ replicate net.nets 0 → readers.places.items ≡ [] → readers.nexts.items ≡ [] → AreChains net order 0 0 readers
no_chains net order readers heads places nexts = record {
  nets = [];
  tall = ap length heads ∙ length-replicate net.nets 0;
  places = ap length places;
  nexts = ap length nexts;
  head = λ id l. let is = ap (λ (xs : List ℕ). get_or xs id 0) heads ∙ get_or-replicate net.nets id 0 0 l in record {
    within = omega (arith, is);
    own = λ s e. absurd (omega (arith, is, e));
    none = λ s le m. absurd (omega (arith, m));
  };
  next = λ s l. absurd (omega (arith, l));
  inside = λ s l. absurd (omega (arith, l));
  real = λ s d l. absurd (omega (arith, l));
  every = λ k i d e before. absurd (elim before [ inl early ↦ omega (arith, early) | inr here ↦ let h = here.1 in omega (arith, h) ]);
}

module _ (net : RawNet) (order : List ℕ) where
  -- a slot more, for the next input of the gate at place n
  pub slot_added : (n j : ℕ) (old new : Readers) (gate : Gate) (input : NodeId) → n < length order → ((d : Gate) → gate_at net order n d ≡ gate) → j < length gate.inputs → input ≡ get_or gate.inputs j input → input.0 < net.nets
      → new.heads.items ≡ set old.heads.items input.0 (length old.places.items + 1) → new.places.items ≡ old.places.items ++ n ∷ [] → new.nexts.items ≡ old.nexts.items ++ get_or old.heads.items input.0 0 ∷ []
      → AreChains net order n j old → AreChains net order n (j + 1) new
  slot_added n j old new gate input inside gates l is known heads places nexts chains =
      let nets = chains.nets in
      let long = longer nets input.0 in
      let same_places = chains.places in
      let same_nexts = chains.nexts in
      let head_is : (id : ℕ) → get_or new.heads.items id 0 ≡ get_or (set old.heads.items input.0 (length old.places.items + 1)) id 0 = λ id. ap (λ (xs : List ℕ). get_or xs id 0) heads in
      let next_is : (s : ℕ) → get_or new.nexts.items s 0 ≡ get_or (old.nexts.items ++ get_or old.heads.items input.0 0 ∷ []) s 0 = λ s. ap (λ (xs : List ℕ). get_or xs s 0) nexts in
      let place_is : (s : ℕ) → get_or new.places.items s 0 ≡ get_or (old.places.items ++ n ∷ []) s 0 = λ s. ap (λ (xs : List ℕ). get_or xs s 0) places in
      record {
        nets = nets ++ input.0 ∷ [];
        tall = ap length heads ∙ length-set old.heads.items input.0 (length old.places.items + 1) ∙ chains.tall;
        places = ap length places ∙ longer old.places.items n ∙ ap suc same_places ∙ sym long;
        nexts = ap length nexts ∙ longer old.nexts.items (get_or old.heads.items input.0 0) ∙ ap suc same_nexts ∙ sym long;
        head = λ id m. elim (cases_eq id input.0) [
          | inl here ↦
              subst (λ (i : ℕ). IsLast (nets ++ input.0 ∷ []) i (length (nets ++ input.0 ∷ [])) (get_or new.heads.items i 0)) (sym here)
              (last_here nets input.0 (get_or new.heads.items input.0 0) (head_is input.0 ∙ get_or-set_same old.heads.items input.0 (length old.places.items + 1) 0 (let t = chains.tall in omega (arith, t, known)) ∙ ap (λ (k : ℕ). k + 1) same_places))
          | inr other ↦
              last_other nets input.0 id (get_or new.heads.items id 0) other
              (subst (λ (link : ℕ). IsLast nets id (length nets) link) (sym (head_is id ∙ get_or-set_other old.heads.items input.0 id (length old.places.items + 1) 0 other)) (chains.head id m))
        ];
        next = λ s m. elim (cases_lt s (length nets)) [
          | inl early ↦
              subst (λ (i : ℕ). IsLast (nets ++ input.0 ∷ []) i s (get_or new.nexts.items s 0)) (sym (before_end nets input.0 s early))
              (last_stays nets input.0 (get_or nets s 0) s (get_or new.nexts.items s 0) (omega (arith, early))
              (subst (λ (link : ℕ). IsLast nets (get_or nets s 0) s link) (sym (next_is s ∙ before_end old.nexts.items (get_or old.heads.items input.0 0) s (omega (arith, same_nexts, early)))) (chains.next s early)))
          | inr late ↦
              let e : s ≡ length nets = omega (arith, late, m, long) in
              subst (λ (i : ℕ). IsLast (nets ++ input.0 ∷ []) i s (get_or new.nexts.items s 0)) (sym (at_end nets input.0 s e))
              (subst (λ (i : ℕ). IsLast (nets ++ input.0 ∷ []) input.0 i (get_or new.nexts.items s 0)) (sym e)
              (last_stays nets input.0 input.0 (length nets) (get_or new.nexts.items s 0) (omega arith)
              (subst (λ (link : ℕ). IsLast nets input.0 (length nets) link) (sym (next_is s ∙ at_end old.nexts.items (get_or old.heads.items input.0 0) s (e ∙ sym same_nexts))) (chains.head input.0 known))))
        ];
        inside = λ s m. elim (cases_lt s (length nets)) [
          | inl early ↦ subst (λ (p : ℕ). p < length order) (sym (place_is s ∙ before_end old.places.items n s (omega (arith, same_places, early)))) (chains.inside s early)
          | inr late ↦ subst (λ (p : ℕ). p < length order) (sym (place_is s ∙ at_end old.places.items n s (omega (arith, same_places, late, m, long)))) inside
        ];
        real = λ s d m none. elim (cases_lt s (length nets)) [
          | inl early ↦
              chains.real s d early
              (subst (λ (p : ℕ). IsNoInput (get_or nets s 0) (gate_at net order p d)) (place_is s ∙ before_end old.places.items n s (omega (arith, same_places, early)))
              (subst (λ (i : ℕ). IsNoInput i (gate_at net order (get_or new.places.items s 0) d)) (before_end nets input.0 s early) none))
          | inr late ↦
              let e : s ≡ length nets = omega (arith, late, m, long) in
              let at : IsNoInput input.0 gate =
              subst (λ (x : Gate). IsNoInput input.0 x) (ap (λ (p : ℕ). gate_at net order p d) (place_is s ∙ at_end old.places.items n s (e ∙ sym same_places)) ∙ gates d)
              (subst (λ (i : ℕ). IsNoInput i (gate_at net order (get_or new.places.items s 0) d)) (at_end nets input.0 s e) none) in
              at j input l (ap (λ (x : NodeId). x.0) (sym is))
        ];
        every = λ k i d e before m.
            subst (λ (ps : List ℕ). HasSlot (nets ++ input.0 ∷ []) ps (get_or (gate_at net order k d).inputs i e).0 k) (sym places)
            (by chains k i d e before m (cases_eq k n) (cases_lt i j));
      }
    where
      by : (chains : AreChains net order n j old) (k i : ℕ) (d : Gate) (e : NodeId) → (k < n) ⊎ ((k ≡ n) × (i < j + 1)) → i < length (gate_at net order k d).inputs → (k ≡ n) ⊎ (k ≢ n) → (i < j) ⊎ (j ≤ i) → HasSlot (chains.nets ++ input.0 ∷ []) (old.places.items ++ n ∷ []) (get_or (gate_at net order k d).inputs i e).0 k
      by chains k i d e (inl early) m same below = slot_stays chains.nets old.places.items input.0 n _ k chains.places (chains.every k i d e (inl early) m)
      by chains k i d e (inr here) m same (inl below) = slot_stays chains.nets old.places.items input.0 n _ k chains.places (chains.every k i d e (inr (here.0, below)) m)
      by chains k i d e (inr here) m same (inr above) =
          let at : i ≡ j = let h = here.1 in omega (arith, h, above) in
          let net_is : (get_or (gate_at net order k d).inputs i e).0 ≡ input.0 =
          ap (λ (p : ℕ). (get_or (gate_at net order p d).inputs i e).0) here.0 ∙ ap (λ (x : Gate). (get_or x.inputs i e).0) (gates d) ∙ ap (λ (p : ℕ). (get_or gate.inputs p e).0) at
          ∙ ap (λ (x : NodeId). x.0) (get_or_default gate.inputs j e input l ∙ sym is) in
          subst (λ (x : ℕ). HasSlot (chains.nets ++ input.0 ∷ []) (old.places.items ++ n ∷ []) x k) (sym net_is)
          (subst (λ (p : ℕ). HasSlot (chains.nets ++ input.0 ∷ []) (old.places.items ++ n ∷ []) input.0 p) (sym here.0) (slot_here chains.nets old.places.items input.0 n chains.places))

  -- all inputs of one more gate have slots
  pub gate_added : (n j : ℕ) (readers : Readers) (gate : Gate) → ((d : Gate) → gate_at net order n d ≡ gate) → length gate.inputs ≤ j → AreChains net order n j readers → AreChains net order (n + 1) 0 readers
  gate_added n j readers gate gates all chains = record {
    nets = chains.nets;
    tall = chains.tall;
    places = chains.places;
    nexts = chains.nexts;
    head = chains.head;
    next = chains.next;
    inside = chains.inside;
    real = chains.real;
    every = λ k i d e before m. chains.every k i d e (elim before [
      | inl early ↦ elim (cases_lt k n) [
        | inl earlier ↦ inl earlier
        | inr late ↦
            let same : k ≡ n = omega (arith, early, late) in
            let few : i < length gate.inputs = subst (λ (x : Gate). i < length x.inputs) (gates d) (subst (λ (p : ℕ). i < length (gate_at net order p d).inputs) same m) in
            inr (same, omega (arith, few, all))
      ]
      | inr none ↦ let h = none.1 in absurd (omega (arith, h))
    ]) m;
  }

-- ---- a walk along the chain of a net

-- the gates of the slots from a link on are marked, and marks at other places are as they were
pub record AreMet (nets places : List ℕ) (id link : ℕ) (old new : List Bool) : Type 0 where
  pub within : link ≤ length nets
  pub own : (s : ℕ) → link ≡ suc s → get_or nets s 0 ≡ id
  pub marked : (s : ℕ) → link ≤ s → s < length nets → get_or nets s 0 ≡ id → bit_at new (get_or places s 0) ≡ true
  pub stays : (k : ℕ) → bit_at new k ≡ false → bit_at old k ≡ false
  pub kept : (k : ℕ) → ((s : ℕ) → s < length nets → get_or nets s 0 ≡ id → get_or places s 0 ≢ k) → bit_at new k ≡ bit_at old k

module _ (net : RawNet) (order : List ℕ) (readers : Readers) (is : AreReaders net order readers) (id : ℕ) (old : List Bool) where
  pub none_met : (link : ℕ) → id < net.nets → link ≡ get_or readers.heads.items id 0 → AreMet is.nets readers.places.items id link old old
  none_met link l at = let last = subst (λ (x : ℕ). IsLast is.nets id (length is.nets) x) (sym at) (is.head id l) in record {
    within = last.within;
    own = last.own;
    marked = λ s le m same. absurd (last.none s le m same);
    stays = λ k h. h;
    kept = λ k h. refl;
  }

  -- the slot that a link names
  pub slot_inside : (link slot : ℕ) (new : List Bool) → 0 < link → slot ≡ link - 1 → AreMet is.nets readers.places.items id link old new → slot < length is.nets
  slot_inside link slot new l e met = let w = met.within in omega (arith, l, e, w)

  pub next_below : (link slot next : ℕ) (new : List Bool) → 0 < link → slot ≡ link - 1 → next ≡ get_or readers.nexts.items slot 0 → AreMet is.nets readers.places.items id link old new → next < link
  next_below link slot next new l e at met =
      let w = (is.next slot (slot_inside link slot new l e met)).within in
      omega (arith, l, e, at, w)

  -- the gate of one slot more is marked
  pub one_met : (link slot next place : ℕ) (new : List Bool) → 0 < link → slot ≡ link - 1 → next ≡ get_or readers.nexts.items slot 0 → place ≡ get_or readers.places.items slot 0 → length new ≡ length order → AreMet is.nets readers.places.items id link old new → AreMet is.nets readers.places.items id next old (set new place true)
  one_met link slot next place new l e at place_is long met =
      let inside = slot_inside link slot new l e met in
      let own : get_or is.nets slot 0 ≡ id = met.own slot (omega (arith, l, e)) in
      let last : IsLast is.nets id slot next = subst (λ (x : ℕ). IsLast is.nets x slot next) own (subst (λ (x : ℕ). IsLast is.nets (get_or is.nets slot 0) slot x) (sym at) (is.next slot inside)) in
      let place_in : place < length new = let h = is.inside slot inside in omega (arith, h, place_is, long) in
      let set_or : (k : ℕ) → bit_at new k ≡ true → bit_at (set new place true) k ≡ true = λ k h. elim (cases_eq k place) [
        | inl same ↦ ap (λ (i : ℕ). get_or (set new place true) i false) same ∙ get_or-set_same new place true false place_in
        | inr other ↦ get_or-set_other new place k true false other ∙ h
      ] in
      record {
        within = let w = last.within in omega (arith, w, inside);
        own = last.own;
        marked = λ s le m same. elim (cases_lt s link) [
          | inl below ↦ elim (cases_lt s slot) [
            | inl earlier ↦ absurd (last.none s le earlier same)
            | inr late ↦
                let here : s ≡ slot = omega (arith, below, late, e, l) in
                ap (λ (i : ℕ). bit_at (set new place true) (get_or readers.places.items i 0)) here ∙ ap (bit_at (set new place true)) (sym place_is) ∙ get_or-set_same new place true false place_in
          ]
          | inr above ↦ set_or (get_or readers.places.items s 0) (met.marked s above m same)
        ];
        stays = λ k h. elim (cases_eq k place) [
          | inl same ↦ absurd (true≢false (sym (get_or-set_same new place true false place_in) ∙ ap (λ (i : ℕ). get_or (set new place true) i false) (sym same) ∙ h))
          | inr other ↦ met.stays k (sym (get_or-set_other new place k true false other) ∙ h)
        ];
        kept = λ k h. get_or-set_other new place k true false (λ same. h slot inside own (sym place_is ∙ sym same)) ∙ met.kept k h;
      }

  -- at the end of the chain all gates that read the net are marked
  pub all_met : (link : ℕ) (new : List Bool) → link ≤ 0 → length new ≡ length old → AreMet is.nets readers.places.items id link old new → AreMarked net order id old new
  all_met link new none long met = record {
    long = long;
    unmarked = λ k d l h. (
      met.stays k h,
      λ i e m same.
          let slot = is.every k i d e (inl l) m in
          true≢false (sym (met.marked slot.slot (omega (arith, none)) slot.within (slot.net ∙ same)) ∙ ap (bit_at new) slot.at ∙ h),
    );
    kept = λ k d none_of. met.kept k (λ s l own at. is.real s d l (subst (λ (p : ℕ). IsNoInput (get_or is.nets s 0) (gate_at net order p d)) (sym at) (subst (λ (x : ℕ). IsNoInput x (gate_at net order k d)) (sym own) none_of)));
  }
