-- Results that are right in a store are right in each store that holds what it holds.
use Rattle.std.proofs.Common.{◌≡◌, ◌≢◌, ℕ, ◌≤◌, Bool, true, false, List, length, refl, sym, ◌∙◌, subst, inl, inr, arith}
use Rattle.std.specs.Prelude.{Option, Some, None, IfSome, IsSomeAnd, Contains, ◌⊎◌, ◌&&◌, []}
use Rattle.std.proofs.lemmas.Option.{none-some}
use Rattle.dd_nodes.specs.declared.node.Ref.{Ref}
use Rattle.dd_nodes.specs.declared.node.Node.{Node}
use Rattle.dd_nodes.specs.declared.operator.Operator.{Operator}
use Rattle.dd_nodes.specs.Operators.{IsJoined, joined, operator_bit}
use Rattle.dd_nodes.specs.Diagram.{Grows, IsDiagram, value}
use Rattle.dd_nodes.specs.Stores.{IsRef, Store, function}
use Rattle.dd_nodes.proofs.Stores.{IsGood}
use Rattle.dd_nodes.proofs.Walks.{walk-grows}
use Rattle.dd_recent.specs.declared.recent.Joined.{Joined}
use Rattle.dd_recent.specs.declared.recent.RecentMemo.{RecentMemo}
use Rattle.dd_recent.specs.Recent.{AreRight, IsRight, Takes, entries_of, joined_as, nothing, zero_ref}

-- a reference that holds a node holds one of variable 0 or more
ref_by : (i : ℕ) (o : Option Node) → o ≢ None → i ≤ 0 → IsSomeAnd o (λ n. i ≤ n.var)
ref_by i None some' le = absurd (some' refl)
ref_by i (Some n) some' le = omega arith

-- the words of the ghost field, as those of stores
held_ref : (s : Store) (r : Ref) → (2 ≤ r.0 → s.held r ≢ None) → IsRef s r
held_ref s r held two = ref_by 0 (s.held r) (held two) (omega arith)

-- what has a node is not empty
some_by : (o : Option Node) → IsSomeAnd o (λ n. 0 ≤ n.var) → o ≢ None
some_by None is empty = absurd is
some_by (Some n) is empty = none-some n (sym empty)

-- and back
ref_held : (s : Store) (r : Ref) → IsRef s r → 2 ≤ r.0 → s.held r ≢ None
ref_held s r is two = some_by (s.held r) (is two)

-- an entry that is right, in the words of stores
pub IsJoined-of : (s : Store) (o : Operator) (a b c r : Ref) → IsRight s (joined_as o a b c r) → IsJoined s o a b c r
IsJoined-of s o a b c r right = record {
  first = held_ref s a right.first;
  second = held_ref s b right.second;
  third = held_ref s c right.third;
  means = record { ref = held_ref s r right.result; value = right.value };
}

-- and back
pub IsRight-of : (s : Store) (o : Operator) (a b c r : Ref) → IsJoined s o a b c r → IsRight s (joined_as o a b c r)
IsRight-of s o a b c r is = record {
  first = ref_held s a is.first;
  second = ref_held s b is.second;
  third = ref_held s c is.third;
  result = ref_held s r is.means.ref;
  value = is.means.value;
}

-- a bit and itself
twice : (b : Bool) → b ≡ (b && b)
twice true = refl
twice false = refl

-- a place where nothing was put is right in each store
pub IsRight-nothing : (s : Store) → IsRight s nothing
IsRight-nothing s = record {
  first = λ two. absurd (omega arith);
  second = λ two. absurd (omega arith);
  third = λ two. absurd (omega arith);
  result = λ two. absurd (omega arith);
  value = λ bits long. twice (function s zero_ref bits);
}

-- what an operator made of held references stays that where a store grows
IsJoined-grows : (s t : Store) (o : Operator) (a b c r : Ref) → IsGood s → IsGood t → Grows s.held t.held → t.vars ≡ s.vars → IsRef s a → IsRef s b → IsRef s c → IsRef s r
    → ((bits : List Bool) → length bits ≡ s.vars → function s r bits ≡ joined o s a b c bits)
    → (bits : List Bool) → length bits ≡ t.vars → function t r bits ≡ joined o t a b c bits
IsJoined-grows s t o a b c r d d' grows vars fa fb fc fr same bits long =
    let at : (x : Ref) → IsRef s x → function t x bits ≡ function s x bits =
    λ x f. walk-grows s.held t.held s.vars 0 x bits d (subst (λ (v : ℕ). IsDiagram t.held v) vars d') grows f in
    at r fr ∙ same bits (long ∙ vars) ∙ sym (λ i. operator_bit o (at a fa i) (at b fb i) (at c fc i))

-- an entry stays right where a store grows
pub IsRight-keeps : (s t : Store) (e : Joined) → IsGood s → IsGood t → Grows s.held t.held → t.vars ≡ s.vars → IsRight s e → IsRight t e
IsRight-keeps s t e d d' grows vars right =
    let held : (r : Ref) → (2 ≤ r.0 → s.held r ≢ None) → 2 ≤ r.0 → t.held r ≢ None =
    λ r had two. stays r (s.held r) refl (had two) in
    record {
      first = held e.first right.first;
      second = held e.second right.second;
      third = held e.third right.third;
      result = held e.result right.result;
      value = IsJoined-grows s t e.operator e.first e.second e.third e.result d d' grows vars
          (held_ref s e.first right.first) (held_ref s e.second right.second) (held_ref s e.third right.third) (held_ref s e.result right.result) right.value;
    }
  where
    stays : (r : Ref) (o : Option Node) → s.held r ≡ o → s.held r ≢ None → t.held r ≢ None
    stays r None is some' = absurd (some' is)
    stays r (Some n) is some' = λ empty. none-some n (sym empty ∙ grows r n is)

-- and so do all
pub AreRight-keeps : (s t : Store) (recent : RecentMemo) → IsGood s → IsGood t → Grows s.held t.held → t.vars ≡ s.vars → AreRight s recent → AreRight t recent
AreRight-keeps s t recent d d' grows vars right = record { each = λ e has. IsRight-keeps s t e d d' grows vars (right.each e has) }

-- an entry is right in each store of the same nodes and variables
pub IsRight-same : (s t : Store) (e : Joined) → t.held ≡ s.held → t.vars ≡ s.vars → IsRight s e → IsRight t e
IsRight-same s t e held vars right =
    let keeps : (r : Ref) → (2 ≤ r.0 → s.held r ≢ None) → 2 ≤ r.0 → t.held r ≢ None = λ r had two empty. had two (sym (λ i. held i r) ∙ empty) in
    record {
      first = keeps e.first right.first;
      second = keeps e.second right.second;
      third = keeps e.third right.third;
      result = keeps e.result right.result;
      value = λ bits long.
          (λ i. value (held i) e.result bits) ∙ right.value bits (long ∙ vars)
          ∙ sym (λ i. operator_bit e.operator (value (held i) e.first bits) (value (held i) e.second bits) (value (held i) e.third bits));
    }

-- and so are all
pub AreRight-same : (s t : Store) (recent : RecentMemo) → t.held ≡ s.held → t.vars ≡ s.vars → AreRight s recent → AreRight t recent
AreRight-same s t recent held vars right = record { each = λ e has. IsRight-same s t e held vars (right.each e has) }

-- a right result may be put in
pub AreRight-adds : (s : Store) (old new : RecentMemo) (o : Operator) (a b c r : Ref) → Takes (entries_of old) (joined_as o a b c r) (entries_of new)
    → IsJoined s o a b c r → AreRight s old → AreRight s new
AreRight-adds s old new o a b c r takes is right = record { each = λ e has. by e (takes e has) }
  where
    by : (e : Joined) → (Contains (entries_of old) e) ⊎ ((e ≡ joined_as o a b c r) ⊎ (e ≡ nothing)) → IsRight s e
    by e (inl was) = right.each e was
    by e (inr (inl new')) = subst (IsRight s) (sym new') (IsRight-of s o a b c r is)
    by e (inr (inr none')) = subst (IsRight s) (sym none') (IsRight-nothing s)

-- the entries alone tell
pub AreRight-entries : (s : Store) (old new : RecentMemo) → entries_of new ≡ entries_of old → AreRight s old → AreRight s new
AreRight-entries s old new same right = record { each = λ e has. right.each e (subst (λ (xs : List Joined). Contains xs e) same has) }

-- where there is no entry, all are right
pub AreRight-none : (s : Store) (recent : RecentMemo) → entries_of recent ≡ [] → AreRight s recent
AreRight-none s recent none' = record { each = λ e has. let (i, lt, at) = subst (λ (xs : List Joined). Contains xs e) none' has in absurd (omega arith) }

-- what is found is what the operator makes
pub IfSome-joined : (s : Store) (recent : RecentMemo) (o : Operator) (a b c : Ref) (result : Option Ref) → AreRight s recent
    → IfSome result (λ r. Contains (entries_of recent) (joined_as o a b c r)) → IfSome result (λ r. IsJoined s o a b c r)
IfSome-joined s recent o a b c None right has = has
IfSome-joined s recent o a b c (Some r) right has = IsJoined-of s o a b c r (right.each (joined_as o a b c r) has)

-- first more places, then an entry
pub Takes-more : (old mid new : List Joined) (e : Joined) → Takes old nothing mid → Takes mid e new → Takes old e new
Takes-more old mid new e first then x has = by (then x has)
  where
    by : (Contains mid x) ⊎ ((x ≡ e) ⊎ (x ≡ nothing)) → (Contains old x) ⊎ ((x ≡ e) ⊎ (x ≡ nothing))
    by (inr other) = inr other
    by (inl was) = by_first (first x was)
      where
        by_first : (Contains old x) ⊎ ((x ≡ nothing) ⊎ (x ≡ nothing)) → (Contains old x) ⊎ ((x ≡ e) ⊎ (x ≡ nothing))
        by_first (inl had) = inl had
        by_first (inr (inl none')) = inr (inr none')
        by_first (inr (inr none')) = inr (inr none')
