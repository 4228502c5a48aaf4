-- What a call remembers.
use Rattle.std.proofs.Common.{◌≡◌, ℕ, ◌+◌, ◌<◌, ◌≤◌, Bool, true, false, not, List, [], ◌∷◌, ◌++◌, length, get_or, inl, inr, ⊎_elim, refl, sym, ◌∙◌, ap, subst, arith, Contains, Option, Some, None, IfNone, Result, Ok, Err, OnOk}
use Rattle.std.specs.declared.alloc.AllocError.{AllocError}
use Rattle.std.proofs.lemmas.Grind.{common_steps}
use Rattle.std.proofs.lemmas.Bool.Decides.{eqb_tells}
use Rattle.std.proofs.lemmas.Bool.{cases_lt}
use Rattle.std.proofs.lemmas.List.{get_or_default}
use Rattle.std.proofs.lemmas.List.Elements.{Contains-append_left, Contains-append_right, Contains-append_cases}
use Rattle.dd_nodes.specs.declared.node.Ref.{Ref}
use Rattle.dd_nodes.proofs.Walks.{same_numbers}
use Rattle.dd_nodes.proofs.Members.{Contains-head, Contains-none, Contains-cons_cases}
use Rattle.dd_ops.specs.declared.operands.Operands.{Operands}
use Rattle.dd_ops.specs.declared.few.Entry.{Entry}
use Rattle.dd_ops.specs.declared.hashed_memo.HashedMemo.{HashedMemo}
use Rattle.dd_ops.specs.declared.memo.Memo.{Memo}
use Rattle.dd_ops.specs.declared.memo.Memo.TheVariants.{InPlace, InTable}
use Rattle.dd_ops.specs.private.Tables.{AddsEntry, HasEntries, IsOnWalk, entry_at, entry_of, is_used, no_operands, same_operands}
use Rattle.dd_ops.specs.private.Met.{Adds, IsMet}
use Rattle.dd_ops.specs.private.Recursion.{IsOpen}

one_by_one : (x y : Operands) → x.first ≡ y.first → x.second ≡ y.second → x.third ≡ y.third → x ≡ y
one_by_one x y first second third = λ j. record { first = first j; second = second j; third = third j }

pub same_operands-true : (x y : Operands) → same_operands x y ≡ true → x ≡ y
same_operands-true x y e = one_by_one x y
    (same_numbers x.first y.first (grind (arith, common_steps, eqb_tells)))
    (same_numbers x.second y.second (grind (arith, common_steps, eqb_tells)))
    (same_numbers x.third y.third (grind (arith, common_steps, eqb_tells)))

pub same_operands-refl : (x : Operands) → same_operands x x ≡ true
same_operands-refl x = grind (arith, common_steps, eqb_tells)

entry_parts : (x y : Operands) (r q : Ref) → entry_of x r ≡ entry_of y q → (y ≡ x) × (q ≡ r)
entry_parts x y r q e = (sym (ap (λ (a : Entry). a.operands) e), sym (ap (λ (a : Entry). a.result) e))

pub none_before : (es : List Entry) (i : ℕ) (e : Entry) (x : Operands) → i < length es → ((k : ℕ) (d : Entry) → k < i → same_operands (get_or es k d).operands x ≡ false)
    → same_operands (get_or es i e).operands x ≡ false → (k : ℕ) (d : Entry) → k < i + 1 → same_operands (get_or es k d).operands x ≡ false
none_before es i e x within before here k d lt = ⊎_elim (λ (old : k < i). before k d old)
    (λ (last : i ≤ k). let at : i ≡ k = omega arith in
    subst (λ n. same_operands (get_or es n d).operands x ≡ false) at (ap (λ (a : Entry). same_operands a.operands x) (get_or_default es i d e within) ∙ here))
    (cases_lt k i)

-- among different entries there is none
pub absent : (es : List Entry) (x : Operands) → ((k : ℕ) (d : Entry) → k < length es → same_operands (get_or es k d).operands x ≡ false) → (r : Ref) → Contains es (entry_of x r) → ⊥
absent es x differ r (k, lt, e) =
    let is : (get_or es k (entry_of x r)).operands ≡ x = ap (λ (a : Entry). a.operands) e in
    let no_one : same_operands x x ≡ false = ap (λ y. same_operands y x) (sym is) ∙ differ k (entry_of x r) lt in
    let f : true ≡ false = sym (same_operands-refl x) ∙ no_one in cc

pub adds-pushed : (xs : List Entry) (x : Operands) (r : Ref) → is_used x ≡ true → Adds (InPlace xs) x r (InPlace (xs ++ entry_of x r ∷ []))
adds-pushed xs x r used = record {
  only = λ y q (used', has). ⊎_elim (λ (old : Contains xs (entry_of y q)). inl (used', old))
      (λ (new : Contains (entry_of x r ∷ []) (entry_of y q)). ⊎_elim (λ (same : entry_of x r ≡ entry_of y q). inr (entry_parts x y r q same))
      (λ (none : Contains [] (entry_of y q)). absurd (Contains-none (entry_of y q) none)) (Contains-cons_cases (entry_of x r) [] (entry_of y q) new))
      (Contains-append_cases xs (entry_of x r ∷ []) (entry_of y q) has);
  old = λ y (used', (q, has)). (used', (q, Contains-append_left xs (entry_of x r ∷ []) (entry_of y q) has));
  new = (used, (r, Contains-append_right xs (entry_of x r ∷ []) (entry_of x r) (Contains-head (entry_of x r) [])));
}

-- what is among a few entries is found in the table that has them
found_among : (few table : List Entry) → HasEntries few table → (y : Operands) (q : Ref) → is_used y ≡ true → Contains few (entry_of y q) → IsOnWalk table y
found_among few table has y q used (k, lt, at) =
    let is : (entry_at few k).operands ≡ y = ap (λ (a : Entry). a.operands) (get_or_default few k _ (entry_of y q) lt ∙ at) in
    subst (λ (x : Operands). IsOnWalk table x) is (has.all k lt lt (ap is_used is ∙ used))

pub adds-moved : (few : List Entry) (x : Operands) (r : Ref) (mid : List Entry) (n : HashedMemo) → is_used x ≡ true → HasEntries few mid → AddsEntry mid (entry_of x r) n.entries.items
    → Adds (InPlace few) x r (InTable n)
adds-moved few x r mid n used has adds = record {
  only = λ y q (used', at). ⊎_elim (λ (old : Contains mid (entry_of y q)). inl (used', has.only y q used' old)) (λ (new : (y ≡ x) × (q ≡ r)). inr new) (adds.only y q used' at);
  old = λ y (used', (q, at)). (used', adds.kept y used' (found_among few mid has y q used' at));
  new = (used, adds.added);
}

pub adds-put : (x : Operands) (r : Ref) (m n : HashedMemo) → is_used x ≡ true → AddsEntry m.entries.items (entry_of x r) n.entries.items → Adds (InTable m) x r (InTable n)
adds-put x r m n used adds = record {
  only = λ y q (used', at). ⊎_elim (λ (old : Contains m.entries.items (entry_of y q)). inl (used', old)) (λ (new : (y ≡ x) × (q ≡ r)). inr new) (adds.only y q used' at);
  old = λ y (used', on). (used', adds.kept y used' on);
  new = (used, adds.added);
}

pub if_put : (result : Result (Unit {0}) AllocError) (k : Memo) (x : Operands) (r : Ref) (m n : HashedMemo) → is_used x ≡ true → k ≡ InTable m → OnOk result (AddsEntry m.entries.items (entry_of x r) n.entries.items)
    → OnOk result (Adds k x r (InTable n))
if_put (Ok u) k x r m n used is adds = subst (λ (j : Memo). Adds j x r (InTable n)) (sym is) (adds-put x r m n used adds)
if_put (Err f) k x r m n used is adds = tt

pub none_in_place : (result : Option Ref) (few : List Entry) (x : Operands) → IfNone result ((r : Ref) → Contains few (entry_of x r) → ⊥) → IfNone result (IsMet (InPlace few) x → ⊥)
none_in_place (Some r) few x none = tt
none_in_place None few x none = λ met. none met.1.0 met.1.1

-- operands of which one is no constant are used
pub open-used : (x : Operands) → IsOpen x → is_used x ≡ true
open-used x some = used_by (same_operands x no_operands) refl
  where
    used_by : (b : Bool) → same_operands x no_operands ≡ b → is_used x ≡ true
    used_by true e =
        let is = same_operands-true x no_operands e in
        absurd (⊎_elim (λ (a : 2 ≤ x.first.0). absurd (let z : x.first.0 ≡ 0 = ap (λ (y : Operands). y.first.0) is in omega (arith, a, z)))
        (λ rest. ⊎_elim (λ (a : 2 ≤ x.second.0). absurd (let z : x.second.0 ≡ 0 = ap (λ (y : Operands). y.second.0) is in omega (arith, a, z)))
        (λ (a : 2 ≤ x.third.0). absurd (let z : x.third.0 ≡ 0 = ap (λ (y : Operands). y.third.0) is in omega (arith, a, z))) rest) some)
    used_by false e = ap not e
