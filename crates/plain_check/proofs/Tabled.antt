-- Rows of sets, one for each time, are the possible table.
use Rattle.std.proofs.Common.{◌≡◌, ℕ, ◌<◌, ◌≤◌, ◌+◌, zero, suc, Bool, List, [], ◌∷◌, ◌++◌, length, get_or, arith, sym, ap, refl, subst, ◌∙◌, inl, inr}
use Rattle.std.specs.Prelude.{All}
use Rattle.std.proofs.lemmas.Bool.{cases_lt}
use Rattle.net_core.specs.declared.bit_set.BitSet.{BitSet}
use Rattle.net_core.specs.declared.raw.RawNet.{RawNet}
use Rattle.net_core.specs.Flat.{IsInRange, IsSettledOrder}
use Rattle.net_core.specs.Sets.{both, next_sets}
use Rattle.net_core.specs.Possible.{Asked, ArePossible}
use Rattle.net_core.proofs.Possible.{same_set, some_family}
use Rattle.net_core.proofs.Ordered.{settled_by_order}
use Rattle.ste_model.specs.Table.{latch_sets, IsPossible}
use Rattle.plain_check.specs.private.Outcome.{table_of}
use Rattle.plain_check.specs.private.Sets.{set_at, AreSets}
use Rattle.plain_check.proofs.Allowed.{in_both}
use Rattle.plain_check.proofs.Latched.{by_index}

beyond : (row : List BitSet) (id : ℕ) → length row ≤ id → set_at row id ≡ both
beyond [] id l = refl
beyond (set ∷ row) zero l = absurd (omega arith)
beyond (set ∷ row) (suc id) l = beyond row id (omega arith)

-- what is no net may have both bits
outside : (net : RawNet) (held : List BitSet) (asked : Asked) (family : ℕ → BitSet) (id : ℕ) → IsInRange net → length held ≡ length net.latches → All (λ cut. cut.node < net.nets) asked.cuts → ArePossible net held asked family → net.nets ≤ id → family id ≡ both
outside net held asked family id range long below possible l = same_set (family id) both (λ bit h. in_both bit) (λ bit h. (possible.each id bit).1 (record {
  source = λ off. record {
    by_gate = λ k d m e. let low = range.gate_outputs k d m in absurd (omega (arith, low, e, l));
    by_latch = by_index id bit net.latches held long (λ k m d e. let low = range.latch_outputs k d m in absurd (omega (arith, low, e, l)));
  };
  left = λ k d m on e. let low = below k d m in absurd (omega (arith, low, e, l));
}))

-- a row that agrees with the possible sets on all nets has them
pub possible_row : (net : RawNet) (order : List ℕ) (held : List BitSet) (asked : Asked) (row : List BitSet) → IsInRange net → IsSettledOrder net order → length held ≡ length net.latches → length row ≡ net.nets → All (λ cut. cut.node < net.nets) asked.cuts → ((family : ℕ → BitSet) → ArePossible net held asked family → AreSets net order (length order) family row) → ArePossible net held asked (set_at row)
possible_row net order held asked row range in_order long wide below agrees =
    let some = some_family net held asked (settled_by_order net order in_order) long in
    let same : (id : ℕ) → some.0 id ≡ set_at row id = λ id. elim (cases_lt id net.nets) [
      | inl l ↦ sym (agrees some.0 some.1 id l (λ k d le lt. absurd (omega arith)))
      | inr l ↦ outside net held asked some.0 id range long below some.1 l ∙ sym (beyond row id (omega arith))
    ] in
    let path : some.0 ≡ set_at row = λ i id. same id i in
    subst (λ (sets : ℕ → BitSet). ArePossible net held asked sets) path some.1

-- the latches' sets at a time hang on the times before it
same_latches : (net : RawNet) (reset : Bool) (one other : ℕ → ℕ → BitSet) (t : ℕ) → ((s : ℕ) → s < t → one s ≡ other s) → latch_sets net reset one t ≡ latch_sets net reset other t
same_latches net reset one other zero same = refl
same_latches net reset one other (suc t) same = ap (next_sets net) (same t (omega arith))

early : (rows : List (List BitSet)) (row : List BitSet) (s : ℕ) → s < length rows → get_or (rows ++ row ∷ []) s [] ≡ get_or rows s []
early [] row s l = absurd (omega arith)
early (x ∷ rows) row zero l = refl
early (x ∷ rows) row (suc s) l = early rows row s (omega arith)

last : (rows : List (List BitSet)) (row : List BitSet) → get_or (rows ++ row ∷ []) (length rows) [] ≡ row
last [] row = refl
last (x ∷ rows) row = last rows row

-- no row is no table
pub no_rows : (net : RawNet) (reset : Bool) (asked : ℕ → Asked) (table : ℕ → ℕ → BitSet) → IsPossible net reset asked 0 table
no_rows net reset asked table t l = absurd (omega arith)

-- one row more
pub more_rows : (net : RawNet) (reset : Bool) (asked : ℕ → Asked) (rows : List (List BitSet)) (held row : List BitSet) (t : ℕ) → length rows ≡ t → held ≡ latch_sets net reset (table_of rows) t → IsPossible net reset asked t (table_of rows) → ArePossible net held (asked t) (set_at row) → IsPossible net reset asked (t + 1) (table_of (rows ++ row ∷ []))
more_rows net reset asked rows held row t long is before here s l =
    let more = table_of (rows ++ row ∷ []) in
    let same : (u : ℕ) → u < t → table_of rows u ≡ more u = λ u m. ap set_at (sym (early rows row u (omega arith))) in
    elim (cases_lt s t) [
      | inl old ↦
          subst (λ (sets : ℕ → BitSet). ArePossible net (latch_sets net reset more s) (asked s) sets) (same s old)
          (subst (λ (latches : List BitSet). ArePossible net latches (asked s) (table_of rows s)) (same_latches net reset (table_of rows) more s (λ u m. same u (omega arith))) (before s old))
      | inr new ↦
          let e : t ≡ s = omega arith in
          let at : set_at row ≡ more t = ap set_at (sym (last rows row) ∙ ap (λ (k : ℕ). get_or (rows ++ row ∷ []) k []) long) in
          let latches : held ≡ latch_sets net reset more t = is ∙ same_latches net reset (table_of rows) more t same in
          subst (λ (k : ℕ). ArePossible net (latch_sets net reset more k) (asked k) (more k)) e
          (subst (λ (sets : ℕ → BitSet). ArePossible net (latch_sets net reset more t) (asked t) sets) at
          (subst (λ (held' : List BitSet). ArePossible net held' (asked t) (set_at row)) latches here))
    ]

-- what the latches hold after the last row
pub held_next : (net : RawNet) (reset : Bool) (rows : List (List BitSet)) (row : List BitSet) (t : ℕ) → length rows ≡ t → next_sets net (set_at row) ≡ latch_sets net reset (table_of (rows ++ row ∷ [])) (t + 1)
held_next net reset rows row t long =
    let at : set_at row ≡ table_of (rows ++ row ∷ []) t = ap set_at (sym (last rows row) ∙ ap (λ (k : ℕ). get_or (rows ++ row ∷ []) k []) long) in
    let e : suc t ≡ t + 1 = omega arith in
    ap (next_sets net) at ∙ ap (λ (k : ℕ). latch_sets net reset (table_of (rows ++ row ∷ [])) k) e
