-- Rows of bits, one of them changed.
use Rattle.std.proofs.Common.{◌≡◌, ◌≢◌, ℕ, zero, suc, ◌+◌, ◌<◌, Bool, false, List, [], ◌∷◌, ◌++◌, map, set, replicate, take, drop, length, get_or, length-set, get_or-set_same, get_or-set_other, arith, sym, ap, refl, subst, ◌∙◌, inl, inr}
use Rattle.std.specs.Prelude.{All, AllPairs, ◌⊎◌}
use Rattle.ste_base.specs.declared.id.NodeId.{NodeId}
use Rattle.net_core.specs.declared.raw.Latch.{Latch}
use Rattle.counter_run.specs.private.Asking.{start_bit}
use Rattle.clock_step.specs.Determined.{bit_at}
use Rattle.std.proofs.lemmas.Bool.{cases_eq, cases_lt}
use Rattle.std.proofs.lemmas.List.{get_or_default, length-replicate, take_at}
use Rattle.counter_run.specs.private.Matrix.{IsMatrix, SameShape, cell}

-- ---- the shape

pub shape_then : (one two three : List (List Bool)) → SameShape one two → SameShape two three → SameShape one three
shape_then one two three a b = record { tall = b.tall ∙ a.tall; wide = λ id. b.wide id ∙ a.wide id }

-- a row of as many bits in place of another
pub shape_set : (rows : List (List Bool)) (id : ℕ) (row : List Bool) → id < length rows → length row ≡ length (get_or rows id []) → SameShape rows (set rows id row)
shape_set rows id row l e = record {
  tall = length-set rows id row;
  wide = λ i. elim (cases_eq i id) [
    | inl same ↦ ap (λ (k : ℕ). length (get_or (set rows id row) k [])) same ∙ ap length (get_or-set_same rows id row [] l) ∙ e ∙ ap (λ (k : ℕ). length (get_or rows k [])) (sym same)
    | inr other ↦ ap length (get_or-set_other rows id i row [] other)
  ];
}

-- a matrix is one still after a change that keeps the shape
pub matrix_as : (nets times : ℕ) (one two : List (List Bool)) → IsMatrix nets times one → SameShape one two → IsMatrix nets times two
matrix_as nets times one two m s = record {
  tall = s.tall ∙ m.tall;
  wide = λ k d l. ap length (get_or_default two k d [] l) ∙ s.wide k ∙ (let h = s.tall in m.wide k [] (omega arith));
}

-- ---- the bits

-- the bits of the row that was changed
pub cell_here : (rows : List (List Bool)) (t id : ℕ) (row : List Bool) → id < length rows → cell (set rows id row) t id ≡ get_or row t false
cell_here rows t id row l = ap (λ (r : List Bool). get_or r t false) (get_or-set_same rows id row [] l)

-- those of any other
pub cell_there : (rows : List (List Bool)) (t id i : ℕ) (row : List Bool) → i ≢ id → cell (set rows id row) t i ≡ cell rows t i
cell_there rows t id i row other = ap (λ (r : List Bool). get_or r t false) (get_or-set_other rows id i row [] other)

-- the rows of zeros
pub zero_matrix : (nets times : ℕ) (rows : List (List Bool)) → rows ≡ replicate nets (replicate times false) → IsMatrix nets times rows
zero_matrix nets times rows e = record {
  tall = ap length e ∙ length-replicate nets (replicate times false);
  wide = λ k d l. ap (λ (rs : List (List Bool)). length (get_or rs k d)) e ∙ by nets k d (subst (λ (rs : List (List Bool)). k < length rs) e l);
}
  where
    by : (n k : ℕ) (d : List Bool) → k < length (replicate n (replicate times false)) → length (get_or (replicate n (replicate times false)) k d) ≡ times
    by zero k d l = absurd (omega arith)
    by (suc n) zero d l = length-replicate times false
    by (suc n) (suc k) d l = by n k d (omega arith)

zero_row : (times t : ℕ) → get_or (replicate times false) t false ≡ false
zero_row zero t = refl
zero_row (suc times) zero = refl
zero_row (suc times) (suc t) = zero_row times t

pub zero_cells : (nets times : ℕ) (rows : List (List Bool)) → rows ≡ replicate nets (replicate times false) → (t id : ℕ) → cell rows t id ≡ false
zero_cells nets times rows e t id = ap (λ (rs : List (List Bool)). cell rs t id) e ∙ by nets id
  where
    by : (n id : ℕ) → cell (replicate n (replicate times false)) t id ≡ false
    by zero id = refl
    by (suc n) zero = zero_row times t
    by (suc n) (suc id) = by n id

pub map_same : {X : Type 0} (xs : List X) → map (λ x. x) xs ≡ xs
map_same [] = refl
map_same (x ∷ xs) = ap (λ ys. x ∷ ys) (map_same xs)

-- ---- the turns of loops

-- one cell is written
pub record SetCell (rows new : List (List Bool)) (t id : ℕ) (bit : Bool) : Type 0 where
  pub shape : SameShape rows new
  pub here : cell new t id ≡ bit
  pub others : (s i : ℕ) → (s ≢ t) ⊎ (i ≢ id) → cell new s i ≡ cell rows s i

pub set_cell : (rows : List (List Bool)) (x row : List Bool) (t id : ℕ) (bit : Bool) → id < length rows → t < length (get_or rows id x) → row ≡ set (get_or rows id x) t bit → SetCell rows (set rows id row) t id bit
set_cell rows x row t id bit l m is =
    let old : get_or rows id x ≡ get_or rows id [] = get_or_default rows id x [] l in
    let size : length row ≡ length (get_or rows id []) = ap length is ∙ length-set (get_or rows id x) t bit ∙ ap length old in
    record {
      shape = shape_set rows id row l size;
      here = cell_here rows t id row l ∙ ap (λ (r : List Bool). get_or r t false) is ∙ get_or-set_same (get_or rows id x) t bit false m;
      others = λ s i apart. by s i apart (cases_eq i id);
    }
  where
    by : (s i : ℕ) → (s ≢ t) ⊎ (i ≢ id) → (i ≡ id) ⊎ (i ≢ id) → cell (set rows id row) s i ≡ cell rows s i
    by s i apart (inr other) = cell_there rows s id i row other
    by s i (inr other) (inl same) = absurd (other same)
    by s i (inl other) (inl same) =
        ap (λ (k : ℕ). cell (set rows id row) s k) same ∙ cell_here rows s id row l ∙ ap (λ (r : List Bool). get_or r s false) is
        ∙ get_or-set_other (get_or rows id x) t s bit false other ∙ ap (λ (r : List Bool). get_or r s false) (get_or_default rows id x [] l) ∙ ap (λ (k : ℕ). cell rows s k) (sym same)

-- a row is as long as it was
pub row_long : (old new : List (List Bool)) (id t : ℕ) (x : List Bool) → SameShape old new → id < length new → t < length (get_or old id []) → t < length (get_or new id x)
row_long old new id t x shape l m =
    let e : length (get_or new id x) ≡ length (get_or old id []) = ap length (get_or_default new id x [] l) ∙ shape.wide id in
    omega arith

-- one more net has its bit at a time
pub column_turn : (old rows new : List (List Bool)) (bits : List Bool) (t n : ℕ) → SetCell rows new t n (bit_at bits n) → SameShape old rows
    → ((id : ℕ) → id < n → cell rows t id ≡ bit_at bits id) → ((s id : ℕ) → s ≢ t → cell rows s id ≡ cell old s id)
    → (SameShape old new) × ((id : ℕ) → id < n + 1 → cell new t id ≡ bit_at bits id) × ((s id : ℕ) → s ≢ t → cell new s id ≡ cell old s id)
column_turn old rows new bits t n is shape placed others = (
  shape_then old rows new shape is.shape,
  (λ id l. elim (cases_lt id n) [
    | inl before ↦ is.others t id (inr (λ e. absurd (omega arith))) ∙ placed id before
    | inr at ↦ let same : id ≡ n = omega arith in ap (λ (k : ℕ). cell new t k) same ∙ is.here ∙ ap (bit_at bits) (sym same)
  ]),
  λ s id other. is.others s id (inl other) ∙ others s id other,
)

-- one more latch has its first bit
pub starts_turn : (reset : Bool) (latches : List Latch) (old rows new : List (List Bool)) (n : ℕ) (latch : Latch) → AllPairs (λ one other. one.output.0 ≢ other.output.0) latches → n < length latches → latch ≡ get_or latches n latch
    → SetCell rows new 0 latch.output.0 (start_bit reset latch.init) → SameShape old rows
    → ((k : ℕ) (d : Latch) → k < n → cell rows 0 (get_or latches k d).output.0 ≡ start_bit reset (get_or latches k d).init)
    → ((t id : ℕ) → All (λ x. x.output.0 ≢ id) latches → cell rows t id ≡ cell old t id)
    → (SameShape old new) × ((k : ℕ) (d : Latch) → k < n + 1 → cell new 0 (get_or latches k d).output.0 ≡ start_bit reset (get_or latches k d).init)
    × ((t id : ℕ) → All (λ x. x.output.0 ≢ id) latches → cell new t id ≡ cell old t id)
starts_turn reset latches old rows new n latch apart l at is shape before others = (
  shape_then old rows new shape is.shape,
  (λ k d m. elim (cases_lt k n) [
    | inl early ↦ is.others 0 (get_or latches k d).output.0 (inr (λ e. apart k n d early l (e ∙ ap (λ (x : Latch). x.output.0) (at ∙ get_or_default latches n latch d l)))) ∙ before k d early
    | inr now ↦
        let same : k ≡ n = omega arith in
        let element : get_or latches k d ≡ latch = ap (λ (j : ℕ). get_or latches j d) same ∙ get_or_default latches n d latch l ∙ sym at in
        ap (λ (x : Latch). cell new 0 x.output.0) element ∙ is.here ∙ ap (λ (x : Latch). start_bit reset x.init) (sym element)
  ]),
  λ t id none. is.others t id (inr (λ e. none n latch l (ap (λ (x : Latch). x.output.0) (sym at) ∙ sym e))) ∙ others t id none,
)

-- one node more has its row
pub inputs_turn : (nodes : List NodeId) (inputs old rows : List (List Bool)) (row : List Bool) (n : ℕ) (node : NodeId) → AllPairs (λ one other. one.0 ≢ other.0) nodes → n < length nodes → node ≡ get_or nodes n node → node.0 < length rows
    → length row ≡ length (get_or rows node.0 []) → row ≡ get_or inputs n [] → SameShape old rows
    → ((j : ℕ) (d : NodeId) → j < n → get_or rows (get_or nodes j d).0 [] ≡ get_or inputs j [])
    → (SameShape old (set rows node.0 row)) × ((j : ℕ) (d : NodeId) → j < n + 1 → get_or (set rows node.0 row) (get_or nodes j d).0 [] ≡ get_or inputs j [])
inputs_turn nodes inputs old rows row n node apart l at inside size is shape before = (
  shape_then old rows (set rows node.0 row) shape (shape_set rows node.0 row inside size),
  λ j d m. elim (cases_lt j n) [
    | inl early ↦ get_or-set_other rows node.0 (get_or nodes j d).0 row [] (λ e. apart j n d early l (e ∙ ap (λ (x : NodeId). x.0) (at ∙ get_or_default nodes n node d l))) ∙ before j d early
    | inr now ↦
        let same : j ≡ n = omega arith in
        let element : get_or nodes j d ≡ node = ap (λ (k : ℕ). get_or nodes k d) same ∙ get_or_default nodes n d node l ∙ sym at in
        ap (λ (x : NodeId). get_or (set rows node.0 row) x.0 []) element ∙ get_or-set_same rows node.0 row [] inside ∙ is ∙ ap (λ (k : ℕ). get_or inputs k []) (sym same)
  ],
)

-- rows at nodes, as a list
pub rows_at : (nodes : List NodeId) (inputs rows : List (List Bool)) → length inputs ≡ length nodes → ((j : ℕ) (d : NodeId) → j < length nodes → get_or rows (get_or nodes j d).0 [] ≡ get_or inputs j []) → map (λ node. get_or rows node.0 []) nodes ≡ inputs
rows_at [] [] rows l same = refl
rows_at [] (row ∷ inputs) rows l same = absurd (omega arith)
rows_at (node ∷ nodes) [] rows l same = absurd (omega arith)
rows_at (node ∷ nodes) (row ∷ inputs) rows l same =
    let here = same 0 node (omega arith) in
    let rest = rows_at nodes inputs rows (omega arith) (λ j d m. same (suc j) d (omega arith)) in
    cc

-- ---- what a borrow of all rows writes back

dropped : {X : Type 0} (xs : List X) (k : ℕ) → k ≡ length xs → drop k xs ≡ []
dropped [] zero g = refl
dropped [] (suc k) g = refl
dropped (x ∷ xs) zero g = absurd (omega arith)
dropped (x ∷ xs) (suc k) g = dropped xs k (omega arith)

pub written : (n : ℕ) (items new back : List (List Bool)) → n ≡ length items → length new ≡ length items → back ≡ take n (new ++ drop (length new) items) → back ≡ new
written n items new back e f is =
    is ∙ ap (λ (rest : List (List Bool)). take n (new ++ rest)) (dropped items (length new) f) ∙ ap (λ (k : ℕ). take k (new ++ [])) (e ∙ sym f) ∙ take_at new [] (length new) refl

-- the lists of rows that were written twice
pub lists_written : (n : ℕ) (items put given rows lists : List (List Bool)) → n ≡ length items → length put ≡ length items → given ≡ take n (put ++ drop (length put) items) → length rows ≡ length given
    → lists ≡ map (λ row. row) (take n (rows ++ drop (length rows) (take n (put ++ drop (length put) items)))) → lists ≡ rows
lists_written n items put given rows lists e f is g lists_are =
    let back = written n items put given e f is in
    let size : length given ≡ n = ap length back ∙ f ∙ sym e in
    lists_are ∙ map_same (take n (rows ++ drop (length rows) (take n (put ++ drop (length put) items))))
    ∙ ap (λ (xs : List (List Bool)). take n (rows ++ drop (length rows) xs)) (sym is)
    ∙ written n given rows (take n (rows ++ drop (length rows) given)) (sym size) g refl
