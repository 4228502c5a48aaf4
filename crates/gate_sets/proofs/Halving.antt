-- A sum over rows by halves: what the calls for both halves leave, and what the node over them is.
use Rattle.std.proofs.Common.{◌≡◌, ℕ, zero, suc, ◌+◌, ◌<◌, ◌≤◌, Bool, true, false, List, [], ◌∷◌, length, map, inl, inr, refl, sym, ◌∙◌, subst, arith, get_or, drop, ◌-◌, Some, Result}
use Rattle.std.proofs.lemmas.List.{drop_more}
use Rattle.std.specs.List.{list_any}
use Rattle.std.specs.Prelude.{IsSome, if◌then◌else◌}
use Rattle.dd_nodes.specs.declared.node.Node.{Node}
use Rattle.ste_base.specs.declared.id.NodeId.{NodeId}
use Rattle.dd_nodes.specs.declared.node.Ref.{Ref}
use Rattle.ste_base.specs.Functions.{Function}
use Rattle.dd_nodes.specs.Diagram.{IsCofactor}
use Rattle.dd_nodes.specs.Stores.{function, Store, IsRef, Keeps, Means, node_of}
use Rattle.dd_nodes.specs.Functions.{IsCofactorOf}
use Rattle.dd_nodes.specs.Spending.{Has, Spends}
use Rattle.dd_nodes.proofs.Walks.{IsCofactor-trans, from_constant}
use Rattle.dd_nodes.proofs.Stores.{IsGood, Builds-weaker, IsSpent-weaker}
use Rattle.dd_nodes.proofs.Spending.{Covers, Means-same}
use Rattle.dd_ops.proofs.Terminal.{one_bit, zero_bit}
use Rattle.dd_ops.specs.declared.fault.OpFault.{OpFault}
use Rattle.dd_ops.specs.Splitting.{Splits}
use Rattle.net_core.specs.declared.cover.Lit.{Lit}
use Rattle.net_core.specs.Cases.{begins_with, half_of_rows, without_first}
use Rattle.net_core.specs.Work.{SymbolicSet}
use Rattle.dual_rail.specs.Rail.{Built, HasFunction}
use Rattle.dual_rail.proofs.Works.{SoFar, Built-covers, Built-good, here, last}
use Rattle.gate_sets.specs.declared.net_rails.NetRails.{NetRails}
use Rattle.gate_sets.specs.NetSets.{HaveInputs, net_at, sets_at}
use Rattle.gate_sets.specs.private.Ordered.{AreOrdered, IsFree, IsVariable}
use Rattle.gate_sets.proofs.NetRefs.{Inputs-keep}
use Rattle.gate_sets.proofs.Ordered.{total, total_end, total_last, ordered-keeps, ordered-less, whole_free, half_cofactor, halves_split}

-- what is made for a cofactor is made for the function
pub spends_below : (f g : Function) (s t : Store) (out : Type 0) → IsCofactor s.vars f g → Spends (g ∷ []) s t out → Spends (f ∷ []) s t out
spends_below f g s t out cofactor x = record {
  keeps = x.keeps;
  limit = x.limit;
  builds = Builds-weaker (IsCofactorOf s.vars (g ∷ [])) (IsCofactorOf s.vars (f ∷ [])) s t weaker x.builds;
  spent = λ o. IsSpent-weaker (IsCofactorOf s.vars (g ∷ [])) (IsCofactorOf s.vars (f ∷ [])) t weaker (x.spent o);
}
  where
    weaker : (h : Function) → IsCofactorOf s.vars (g ∷ []) h → IsCofactorOf s.vars (f ∷ []) h
    weaker h (k, (zero, lt, e), c) = (f, here f [], IsCofactor-trans s.vars f g h cofactor (subst (λ (q : Function). IsCofactor s.vars q h) (sym e) c))
    weaker h (k, (suc n, lt, e), c) = absurd (omega arith)

pub covers_one : (v : ℕ) (h f : Function) → ((bits : List Bool) → length bits ≡ v → f bits ≡ h bits) → Covers v (h ∷ []) (f ∷ [])
covers_one v h f same k (zero, lt, e) = subst (Has v (f ∷ [])) e (f, here f [], same)
covers_one v h f same k (suc n, lt, e) = absurd (omega arith)

-- no row
pub none_of : (s : Store) (rows : List (List Lit)) (ws : List SymbolicSet) → IsGood s → rows ≡ [] → Means s (total rows ws) (record { 0 = 0 })
none_of s rows ws d e = subst (λ (rs : List (List Lit)). Means s (total rs ws) (record { 0 = 0 })) (sym e) (record {
  ref = from_constant s.held 0 (record { 0 = 0 }) (omega arith);
  value = λ bits l. zero_bit s (record { 0 = 0 }) bits d refl;
})

-- some row, of no inputs
pub all_of : (s : Store) (rows : List (List Lit)) (ws : List SymbolicSet) → IsGood s → 0 < length rows → ws ≡ [] → Means s (total rows ws) (record { 0 = 1 })
all_of s [] ws d lt e = absurd (omega arith)
all_of s (row ∷ rows) ws d lt e = subst (λ (vs : List SymbolicSet). Means s (total (row ∷ rows) vs) (record { 0 = 1 })) (sym e) (record {
  ref = from_constant s.held 0 (record { 0 = 1 }) (omega arith);
  value = λ bits l. one_bit s (record { 0 = 1 }) bits d refl ∙ sym (total_end row rows bits);
})

-- the rows of one input that admit its bit
pub last_of : (s : Store) (b : Bool) (rows : List (List Lit)) (ws : List SymbolicSet) (r : Ref) → IsGood s → ws ≡ [] → r ≡ (if (list_any (begins_with b) rows) then record { 0 = 1 } else record { 0 = 0 })
    → Means s (total (half_of_rows b rows) ws) r
last_of s b rows ws r d none is =
    subst (λ (vs : List SymbolicSet). Means s (total (half_of_rows b rows) vs) r) (sym none)
    (subst (λ (x : Ref). Means s (total (half_of_rows b rows) []) x) (sym is) (record { ref = held (list_any (begins_with b) rows); value = λ bits l. bit bits (list_any (begins_with b) rows) ∙ sym (total_last b rows bits) }))
  where
    held : (a : Bool) → IsRef s (if a then record { 0 = 1 } else record { 0 = 0 })
    held true = from_constant s.held 0 (record { 0 = 1 }) (omega arith)
    held false = from_constant s.held 0 (record { 0 = 0 }) (omega arith)

    bit : (bits : List Bool) (a : Bool) → function s (if a then record { 0 = 1 } else record { 0 = 0 }) bits ≡ a
    bit bits true = one_bit s (record { 0 = 1 }) bits d refl
    bit bits false = zero_bit s (record { 0 = 0 }) bits d refl

module _ (s : Store) (sets : ℕ → SymbolicSet) (nets : List NetRails) (ds : IsGood s) (input : NodeId) (others : List NodeId) (rows : List (List Lit)) (have : HaveInputs s sets nets (input ∷ others)) where
  abbrev ws : List SymbolicSet
  ws = sets_at sets others

  abbrev pub f : Function
  f = total rows (sets input.0 ∷ ws)

  abbrev g : Bool → Function
  g b = total (half_of_rows b rows) ws

  -- where the first input is free
  pub free_turn : (t : Store) (rest : List (List Lit)) (result : Result Ref OpFault) → IsFree (net_at nets input.0) → rest ≡ map without_first rows
      → Built (total rest ws ∷ []) (HasFunction (total rest ws)) s t result → Built (f ∷ []) (HasFunction f) s t result
  free_turn t rest result free is b =
      let h : Function = total (map without_first rows) ws in
      let c : Built (h ∷ []) (HasFunction h) s t result = subst (λ (rs : List (List Lit)). Built (total rs ws ∷ []) (HasFunction (total rs ws)) s t result) is b in
      let same : (bits : List Bool) → length bits ≡ s.vars → f bits ≡ h bits = whole_free s sets nets ds input others rows have free in
      Built-good (f ∷ []) (HasFunction h) (HasFunction f) s t result
      (λ r m. Means-same t h f r (λ bits l. sym (same bits (l ∙ c.spends.keeps.vars))) m)
      (Built-covers (f ∷ []) (h ∷ []) (HasFunction h) s t result (covers_one s.vars h f same) c)

  module _ (v : ℕ) (is : IsVariable s v (net_at nets input.0)) (o : AreOrdered s nets (v + 1) others) where
    -- the call for one half is a part of the whole
    pub half_turn : (b : Bool) (t u : Store) (part : List (List Lit)) (result : Result Ref OpFault) → IsGood t → IsGood u → part ≡ half_of_rows b rows → SoFar (f ∷ []) s t
        → Built (total part ws ∷ []) (HasFunction (total part ws)) t u result → Built (f ∷ []) (HasFunction (g b)) s u result
    half_turn b t u part result dt du same so made =
        let m : Built (g b ∷ []) (HasFunction (g b)) t u result = subst (λ (rs : List (List Lit)). Built (total rs ws ∷ []) (HasFunction (total rs ws)) t u result) same made in
        let c : IsCofactor t.vars f (g b) = subst (λ n. IsCofactor n f (g b)) (sym so.keeps.vars) (half_cofactor s sets nets ds input others rows have v is o b) in
        last (f ∷ []) (HasFunction (g b)) s t u result dt du so (record { ok = m.ok; spends = spends_below f (g b) t u _ c m.spends })

    -- both results split the whole in a later store
    pub split_turn : (u : Store) (lo hi : Ref) → IsGood u → Keeps s u → Means u (g false) lo → Means u (g true) hi → Splits u v lo hi f
    split_turn u lo hi du k m n =
        halves_split u sets nets du input others rows (Inputs-keep s u sets nets (input ∷ others) ds du k have) v
        (record { known = is.known; node = k.grows (net_at nets input.0).can1 (node_of v (record { 0 = 0 }) (record { 0 = 1 })) is.node })
        (ordered-keeps s u nets (v + 1) others k o) lo hi m n

-- ---- the inputs of a call

-- the inputs behind the first are in order
pub others_ordered : (s : Store) (nets : List NetRails) (inputs others : List NodeId) (input : NodeId) → inputs ≡ input ∷ others → (from : ℕ) × AreOrdered s nets from inputs → (from : ℕ) × AreOrdered s nets from others
others_ordered s nets inputs others input eq (from, o) = elim (subst (AreOrdered s nets from) eq o) as (λ _. (from : ℕ) × AreOrdered s nets from others) [
  | inl (free, rest) ↦ (from, rest)
  | inr (v, le, is, rest) ↦ (v + 1, rest)
]

-- the first input is a variable, and those behind it come later
pub record AtVariable (s : Store) (nets : List NetRails) (input : NodeId) (others : List NodeId) : Type 0 where
  pub v : ℕ
  pub is : IsVariable s v (net_at nets input.0)
  pub later : AreOrdered s nets (v + 1) others

pub at_variable : (s : Store) (nets : List NetRails) (inputs others : List NodeId) (input : NodeId) (r : NetRails) → inputs ≡ input ∷ others → r ≡ net_at nets input.0 → (IsFree r → ⊥)
    → (from : ℕ) × AreOrdered s nets from inputs → AtVariable s nets input others
at_variable s nets inputs others input r eq same other (from, o) = elim (subst (AreOrdered s nets from) eq o) as (λ _. AtVariable s nets input others) [
  | inl (free, rest) ↦ absurd (other (subst IsFree (sym same) free))
  | inr (v, le, is, rest) ↦ record { v = v; is = is; later = rest }
]

-- the node of the first input's variable
pub node_is : (s t : Store) (v : ℕ) (r q : NetRails) (n : Node) → r ≡ q → Keeps s t → IsVariable s v q → t.held r.can1 ≡ Some n → n.var ≡ v
node_is s t v r q n same k is at =
    let mine : t.held q.can1 ≡ Some (node_of v (record { 0 = 0 }) (record { 0 = 1 })) = k.grows q.can1 (node_of v (record { 0 = 0 }) (record { 0 = 1 })) is.node in
    let theirs : t.held q.can1 ≡ Some n = subst (λ (x : NetRails). t.held x.can1 ≡ Some n) same at in
    cc

pub node_held : (s t : Store) (v : ℕ) (r q : NetRails) → r ≡ q → Keeps s t → IsVariable s v q → IsSome (t.held r.can1)
node_held s t v r q same k is =
    let mine : t.held q.can1 ≡ Some (node_of v (record { 0 = 0 }) (record { 0 = 1 })) = k.grows q.can1 (node_of v (record { 0 = 0 }) (record { 0 = 1 })) is.node in
    subst (λ (x : NetRails). IsSome (t.held x.can1)) (sym same) (subst IsSome (sym mine) refl)

-- one more input before those that are in order
pub next_variable : (s : Store) (nets : List NetRails) (least v k : ℕ) (inputs : List NodeId) (d : NodeId) → 0 < k → k ≤ length inputs → v < least → IsVariable s v (net_at nets (get_or inputs (k - 1) d).0)
    → AreOrdered s nets least (drop k inputs) → AreOrdered s nets v (drop (k - 1) inputs)
next_variable s nets least v k inputs d some le lt is o =
    let here : k ≡ k - 1 + 1 = omega arith in
    subst (AreOrdered s nets v) (sym (drop_more inputs (k - 1) d (omega arith)))
    (inr (v, omega arith, is, ordered-less s nets (v + 1) least (drop (k - 1 + 1) inputs) (omega arith) (subst (λ j. AreOrdered s nets least (drop j inputs)) here o)))
