-- Lists of choices as rows and first values, turn by turn.
use Rattle.std.proofs.Common.{◌≡◌, ℕ, suc, ◌+◌, ◌*◌, ◌<◌, ◌≤◌, Bool, true, false, List, [], ◌∷◌, ◌++◌, map, take, drop, length, get_or, arith, sym, ◌∙◌, ap, inl, inr}
use Rattle.std.specs.Prelude.{All, if◌then◌else◌}
use Rattle.std.proofs.Math.Nat.{suc-mul, mul-le-mul_right}
use Rattle.std.proofs.Math.Seq.{get_or-append_seam, take-suc}
use Rattle.std.proofs.lemmas.Bool.{cases_lt}
use Rattle.std.proofs.lemmas.List.{drop-drop, get_or-drop, get_or_append_left, length-drop, map-append}
use Rattle.std.proofs.lemmas.List.Elements.{All-append, All-cons, All-nil}

-- ---- one row

-- one more bit of a row
pub row_turn : (bits row : List Bool) (each k : ℕ) (bit : Bool) → length row ≡ k → bit ≡ get_or (drop (k * each) bits) 0 false → ((t : ℕ) → t < k → get_or row t false ≡ get_or bits (t * each) false) → (t : ℕ) → t < k + 1 → get_or (row ++ bit ∷ []) t false ≡ get_or bits (t * each) false
row_turn bits row each k bit long is before t l = elim (cases_lt t k) [
  | inl early ↦ get_or_append_left row (bit ∷ []) false t (omega (arith, early, long)) ∙ before t early
  | inr late ↦
      let here : t ≡ length row = omega (arith, late, l, long) in
      let same : k ≡ t = omega (arith, here, long) in
      let sum : k * each + 0 ≡ k * each = omega arith in
      ap (λ (n : ℕ). get_or (row ++ bit ∷ []) n false) here ∙ get_or-append_seam row bit [] false ∙ is
      ∙ get_or-drop (k * each) bits 0 false ∙ ap (λ (n : ℕ). get_or bits n false) sum ∙ ap (λ (n : ℕ). get_or bits (n * each) false) same
]

-- what is left behind it
pub rest_turn : (bits rest : List Bool) (each k : ℕ) → rest ≡ drop (k * each) bits → drop each rest ≡ drop ((k + 1) * each) bits
rest_turn bits rest each k is =
    let next : suc k * each ≡ k * each + each = suc-mul k each in
    let same : k + 1 ≡ suc k = omega arith in
    ap (λ (xs : List Bool). drop each xs) is ∙ drop-drop each (k * each) bits ∙ ap (λ (n : ℕ). drop n bits) (sym next) ∙ ap (λ (n : ℕ). drop (n * each) bits) (sym same)

-- ---- all rows

-- a time's bits are all there
below_end : (bits : List Bool) (each times t k : ℕ) → times * each ≤ length bits → t < times → k < each → k < length (drop (t * each) bits)
below_end bits each times t k room l m =
    let next : suc t * each ≡ t * each + each = suc-mul t each in
    let most : suc t * each ≤ times * each = mul-le-mul_right each (omega (arith, l)) in
    simp (length-drop) (omega (arith, room, m, next, most))

-- one more row
pub columns_turn : (bits : List Bool) (rows : List (List Bool)) (row : List Bool) (each times k : ℕ) → times * each ≤ length bits → k < each → ((t : ℕ) → t < times → get_or row t false ≡ get_or (drop k bits) (t * each) false) → ((t : ℕ) → t < times → map (λ row. get_or row t false) rows ≡ take k (drop (t * each) bits)) → (t : ℕ) → t < times → map (λ row. get_or row t false) (rows ++ row ∷ []) ≡ take (k + 1) (drop (t * each) bits)
columns_turn bits rows row each times k room m one before t l =
    let rest : List Bool = drop (t * each) bits in
    let inside : k < length rest = below_end bits each times t k room l m in
    let places : k + t * each ≡ t * each + k = omega arith in
    let same : suc k ≡ k + 1 = omega arith in
    let here : get_or row t false ≡ get_or rest k false = one t l ∙ get_or-drop k bits (t * each) false ∙ ap (λ (n : ℕ). get_or bits n false) places ∙ sym (get_or-drop (t * each) bits k false) in
    map-append (λ (r : List Bool). get_or r t false) rows (row ∷ [])
    ∙ ap (λ (xs : List Bool). xs ++ get_or row t false ∷ []) (before t l)
    ∙ ap (λ (b : Bool). take k rest ++ b ∷ []) here
    ∙ sym (take-suc rest k false inside) ∙ ap (λ (n : ℕ). take n rest) same

pub wide_turn : (rows : List (List Bool)) (row : List Bool) (times : ℕ) → All (λ (r : List Bool). length r ≡ times) rows → length row ≡ times → All (λ (r : List Bool). length r ≡ times) (rows ++ row ∷ [])
wide_turn rows row times all one =
    All-append (λ (r : List Bool). length r ≡ times) rows (row ∷ []) all
    (All-cons (λ (r : List Bool). length r ≡ times) row [] one (All-nil (λ (r : List Bool). length r ≡ times)))

-- ---- first values

-- one more net
pub firsts_turn : (bits firsts : List Bool) (place : ℕ → ℕ) (n : ℕ) (bit : Bool) → length firsts ≡ n → bit ≡ get_or bits (place n) false → ((id : ℕ) → id < n → get_or firsts id false ≡ get_or bits (place id) false) → (id : ℕ) → id < n + 1 → get_or (firsts ++ bit ∷ []) id false ≡ get_or bits (place id) false
firsts_turn bits firsts place n bit long is before id l = elim (cases_lt id n) [
  | inl early ↦ get_or_append_left firsts (bit ∷ []) false id (omega (arith, early, long)) ∙ before id early
  | inr late ↦
      let here : id ≡ length firsts = omega (arith, late, l, long) in
      let same : n ≡ id = omega (arith, here, long) in
      ap (λ (k : ℕ). get_or (firsts ++ bit ∷ []) k false) here ∙ get_or-append_seam firsts bit [] false ∙ is ∙ ap (λ (k : ℕ). get_or bits (place k) false) same
]

-- no more of the nets begin with a choice than there are
pub next_within : (passes : Bool) (next n found : ℕ) → next ≤ n → found ≡ (if passes then next + 1 else next) → found ≤ n + 1
next_within true next n found le e = omega (arith, e, le)
next_within false next n found le e = omega (arith, e, le)
