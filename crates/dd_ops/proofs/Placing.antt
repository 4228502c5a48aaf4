-- Tables that are made of other tables, and what a memo has then met.
use Rattle.std.proofs.Common.{◌≡◌, ℕ, ◌+◌, ◌*◌, ◌<◌, ◌≤◌, Bool, true, false, List, length, get_or, take, replicate, inl, inr, ⊎_elim, sym, ap, ◌∙◌, subst, arith, Contains}
use Rattle.std.specs.List.{sum_by}
use Rattle.std.proofs.Math.Seq.{take-length}
use Rattle.std.proofs.lemmas.List.{get_or_default, get_or-replicate, length-replicate}
use Rattle.std.proofs.lemmas.List.Folds.{sum_by-replicate}
use Rattle.std.proofs.lemmas.List.Sums.{sum_by-take-le, count_by-le-length, count_by_more_no, count_by_more_yes}
use Rattle.std.proofs.lemmas.Bool.{cases_lt}
use Rattle.dd_ops.specs.declared.operands.Operands.{Operands}
use Rattle.dd_ops.specs.declared.few.Entry.{Entry}
use Rattle.dd_ops.specs.private.Tables.{AddsEntry, HasEntries, HasFirst, IsOnWalk, IsPlaced, entry_at, entry_of, is_used, no_operands, taken, walk}
use Rattle.dd_ops.proofs.Walks.{adds_placed, taken_placed, uses, walk_lt}

abbrev used_entry : Entry → Bool
used_entry e = is_used e.operands

-- no more of the entries are used than there are
pub taken_within : (es : List Entry) → taken es ≤ length es
taken_within es = count_by-le-length used_entry es

abbrev free_entry : Entry
free_entry = entry_of no_operands (record { 0 = 0 })

-- a table of which no place is used
pub has_none : (entries : List Entry) (size : ℕ) → HasFirst entries 0 (replicate size free_entry)
has_none entries size = record {
  few =
      let none : sum_by uses (replicate size free_entry) ≡ size * 0 = sum_by-replicate uses size free_entry in
      omega (arith, none);
  only = λ y q used (k, lt, at).
      let inside : k < size = omega (arith, lt, length-replicate size free_entry) in
      let is : free_entry ≡ entry_of y q = sym (get_or-replicate size k free_entry (entry_of y q) inside) ∙ at in
      absurd (let f : true ≡ false = sym used ∙ ap (λ (a : Entry). is_used a.operands) (sym is) in cc f);
  all = λ i lt. absurd (omega arith);
}

-- an entry more that is used
pub has_more : (entries : List Entry) (i : ℕ) (d : Entry) (table new : List Entry) → i < length entries → HasFirst entries i table
    → is_used (get_or entries i d).operands ≡ true → IsPlaced table (get_or entries i d) new → HasFirst entries (i + 1) new
has_more entries i d table new lt has used placed =
    let e : Entry = get_or entries i d in
    let adds = adds_placed table new e placed in
    let more : taken (take (i + 1) entries) ≡ taken (take i entries) + 1 = count_by_more_yes used_entry entries i d lt used in
    let one : taken new ≡ taken table + 1 = taken_placed table new e used placed in
    record {
      few = let few = has.few in omega (arith, more, one, few);
      only = λ y q used' at. ⊎_elim (λ (old : Contains table (entry_of y q)). has.only y q used' old)
          (λ (new' : (y ≡ e.operands) × (q ≡ e.result)).
          let is : get_or entries i (entry_of y q) ≡ entry_of y q = get_or_default entries i (entry_of y q) d lt ∙ (λ j. entry_of (sym new'.0 j) (sym new'.1 j)) in
          (i, lt, is))
          (adds.only y q used' at);
      all = λ k lt' inside used'. ⊎_elim (λ (before : k < i). adds.kept (entry_at entries k).operands used' (has.all k before inside used'))
          (λ (last : i ≤ k).
          let at : k ≡ i = omega arith in
          let is : e ≡ entry_at entries k = get_or_default entries i d _ lt ∙ ap (λ (j : ℕ). entry_at entries j) (sym at) in
          subst (λ (a : Entry). IsOnWalk new a.operands) is adds.added)
          (cases_lt k i);
    }

-- one more that is not
pub has_skipped : (entries : List Entry) (i : ℕ) (d : Entry) (table : List Entry) → i < length entries → HasFirst entries i table
    → is_used (get_or entries i d).operands ≡ false → HasFirst entries (i + 1) table
has_skipped entries i d table lt has unused =
    let same : taken (take (i + 1) entries) ≡ taken (take i entries) = count_by_more_no used_entry entries i d lt unused in
    record {
      few = let few = has.few in omega (arith, same, few);
      only = has.only;
      all = λ k lt' inside used'. ⊎_elim (λ (before : k < i). has.all k before inside used')
          (λ (last : i ≤ k).
          let at : k ≡ i = omega arith in
          let is : get_or entries i d ≡ entry_at entries k = get_or_default entries i d _ lt ∙ ap (λ (j : ℕ). entry_at entries j) (sym at) in
          absurd (let f : true ≡ false = sym used' ∙ ap (λ (a : Entry). is_used a.operands) (sym is) ∙ unused in cc f))
          (cases_lt k i);
    }

-- while entries are put there is room
pub has_room : (entries : List Entry) (i : ℕ) (table : List Entry) → length entries < length table → HasFirst entries i table → taken table < length table
has_room entries i table wide has =
    let some : taken (take i entries) ≤ taken entries = sum_by-take-le uses entries i in
    let few = has.few in
    let all = taken_within entries in
    omega (arith, some, few, all)

-- at the end all are there, and no more are used than before
pub has_taken : (entries table : List Entry) → HasEntries entries table → taken table ≤ taken entries
has_taken entries table has = let few = has.few in subst (λ (es : List Entry). taken table ≤ taken es) (take-length entries) few

-- what is found by a walk through the one is found by a walk through the other
pub found_there : (entries table : List Entry) → HasEntries entries table → (y : Operands) → is_used y ≡ true → IsOnWalk entries y → IsOnWalk table y
found_there entries table has y used (k, lt, is, are) =
    let inside = walk_lt (length entries) y k (omega (arith, lt)) in
    subst (λ (x : Operands). IsOnWalk table x) is (has.all (walk (length entries) y k) inside inside (ap is_used is ∙ used))

-- an entry is put into the wider table
pub adds_wider : (old mid new : List Entry) (e : Entry) → HasEntries old mid → AddsEntry mid e new → AddsEntry old e new
adds_wider old mid new e has adds = record {
  only = λ y q used at. ⊎_elim (λ (before : Contains mid (entry_of y q)). inl (has.only y q used before)) (λ (own : (y ≡ e.operands) × (q ≡ e.result)). inr own) (adds.only y q used at);
  kept = λ y used on. adds.kept y used (found_there old mid has y used on);
  added = adds.added;
}
