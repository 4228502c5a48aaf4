-- Rows under a block of bits that they do not have yet.
use Rattle.std.proofs.Common.{◌≡◌, ℕ, ◌+◌, ◌<◌, ◌≤◌, Bool, false, List, [], set, length, get_or, arith, sym, ap, refl, ◌∙◌, inl, inr}
use Rattle.std.specs.Prelude.{◌⊎◌}
use Rattle.std.proofs.lemmas.Bool.{cases_lt, le-leb, le-ltb, lt-leb, lt-ltb}
use Rattle.std.proofs.lemmas.List.{get_or_default}
use Rattle.counter_run.specs.declared.block.Block.{Block}
use Rattle.counter_run.specs.private.Block.{block_bit, over_block}
use Rattle.counter_run.specs.private.Matrix.{SameShape, cell}
use Rattle.counter_run.proofs.Cells.{cell_here, cell_there, shape_set, shape_then}

-- ---- what is seen of a block

pub over_inside : (given : ℕ → ℕ → Bool) (block : Block) (s id : ℕ) → block.from ≤ s → s < block.to → over_block given block s id ≡ block_bit block s id
over_inside given block s id l m = rw (le-leb block.from s l) (rw (lt-ltb s block.to m) refl)

pub over_outside : (given : ℕ → ℕ → Bool) (block : Block) (s id : ℕ) → (s < block.from) ⊎ (block.to ≤ s) → over_block given block s id ≡ given s id
over_outside given block s id (inl l) = rw (lt-leb block.from s l) refl
over_outside given block s id (inr l) = rw (le-ltb s block.to l) (elim (cases_lt s block.from) [
  | inl m ↦ rw (lt-leb block.from s m) refl
  | inr m ↦ rw (le-leb block.from s m) refl
])

-- a block of no times
pub over_none : (given : ℕ → ℕ → Bool) (block : Block) (s id : ℕ) → block.from ≡ block.to → over_block given block s id ≡ given s id
over_none given block s id e = over_outside given block s id (elim (cases_lt s block.from) [
  | inl l ↦ inl l
  | inr l ↦ inr (omega arith)
])

-- ---- one more row has its bits

pub rows_turn : (old rows : List (List Bool)) (x row : List Bool) (block : Block) (n : ℕ) → n < length rows → length row ≡ length (get_or rows n x)
    → ((t : ℕ) → block.from ≤ t → t < block.to → get_or row t false ≡ block_bit block t n) → ((t : ℕ) → (t < block.from) ⊎ (block.to ≤ t) → get_or row t false ≡ get_or (get_or rows n x) t false)
    → SameShape old rows → ((s id : ℕ) → id < n → cell rows s id ≡ over_block (cell old) block s id) → ((s id : ℕ) → n ≤ id → cell rows s id ≡ cell old s id)
    → (SameShape old (set rows n row)) × ((s id : ℕ) → id < n + 1 → cell (set rows n row) s id ≡ over_block (cell old) block s id) × ((s id : ℕ) → n + 1 ≤ id → cell (set rows n row) s id ≡ cell old s id)
rows_turn old rows x row block n l size inside outside shape placed others =
    let same : get_or rows n x ≡ get_or rows n [] = get_or_default rows n x [] l in
    let was : (s : ℕ) → get_or (get_or rows n x) s false ≡ cell old s n = λ s. ap (λ (r : List Bool). get_or r s false) same ∙ others s n (omega arith) in
    let here : (s : ℕ) → get_or row s false ≡ over_block (cell old) block s n = λ s. elim (cases_lt s block.from) [
      | inl early ↦ outside s (inl early) ∙ was s ∙ sym (over_outside (cell old) block s n (inl early))
      | inr begun ↦ elim (cases_lt s block.to) [
        | inl within ↦ inside s begun within ∙ sym (over_inside (cell old) block s n begun within)
        | inr behind ↦ outside s (inr behind) ∙ was s ∙ sym (over_outside (cell old) block s n (inr behind))
      ]
    ] in (
      shape_then old rows (set rows n row) shape (shape_set rows n row l (size ∙ ap length same)),
      (λ s id m. elim (cases_lt id n) [
        | inl before ↦ cell_there rows s n id row (λ e. absurd (omega arith)) ∙ placed s id before
        | inr at ↦ let e : id ≡ n = omega arith in ap (λ (k : ℕ). cell (set rows n row) s k) e ∙ cell_here rows s n row l ∙ here s ∙ ap (λ (k : ℕ). over_block (cell old) block s k) (sym e)
      ]),
      λ s id m. cell_there rows s n id row (λ e. absurd (omega arith)) ∙ others s id (omega arith),
    )
