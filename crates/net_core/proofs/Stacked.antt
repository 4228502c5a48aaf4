-- A stack of rows, on which halves are put and from which they are taken again.
use Rattle.std.proofs.Common.{◌≡◌, ◌≢◌, ℕ, suc, ◌+◌, ◌<◌, ◌≤◌, min, Bool, true, false, Bor, List, [], ◌∷◌, ◌++◌, map, length, get_or, take, drop, arith, refl, sym, ap, ◌∙◌, append_assoc, Option}
use Rattle.std.proofs.Math.Seq.{drop-cons, take-length, drop-length}
use Rattle.std.proofs.lemmas.List.{take-append-le, drop-append-le, get_or-take, length-take}
use Rattle.net_core.specs.declared.literals_at.LiteralAt.{LiteralAt}
use Rattle.net_core.specs.private.Literals.{admits_at, behind_at, first_position_from, half_at}
use Rattle.net_core.proofs.Left.{map_append}

abbrev pub Row : Type 0
Row = Bor (List LiteralAt)

abbrev literals_of : Row → List LiteralAt
literals_of row = row.now

-- a stack is at least as long as what it begins with
longer : (old stack : List Row) → take (length old) stack ≡ old → length old ≤ length stack
longer old stack kept = let e : min (length old) (length stack) ≡ length old = sym (length-take (length old) stack) ∙ ap length kept in omega (arith, e)

-- a row of what a stack begins with
pub row_of : (old stack : List Row) (place : ℕ) (d : Row) → place < length old → take (length old) stack ≡ old → get_or stack place d ≡ get_or old place d
row_of old stack place d l kept = sym (get_or-take (length old) stack place d l) ∙ ap (λ (rows : List Row). get_or rows place d) kept

-- the half of the rows from a place on, by its first row
half_with : (position : ℕ) (bit : Bool) (old : List Row) (place : ℕ) (row : Row) → place < length old → row ≡ get_or old place row → admits_at position bit row.now ≡ true
    → behind_at position row.now ∷ half_at position bit (map (λ row. row.now) (drop (place + 1) old)) ≡ half_at position bit (map (λ row. row.now) (drop place old))
half_with position bit old place row l is admitted =
    let next : place + 1 ≡ suc place = omega arith in
    rw (drop-cons old place row l, sym is, admitted, next) refl

half_without : (position : ℕ) (bit : Bool) (old : List Row) (place : ℕ) (row : Row) → place < length old → row ≡ get_or old place row → admits_at position bit row.now ≡ false
    → half_at position bit (map (λ row. row.now) (drop (place + 1) old)) ≡ half_at position bit (map (λ row. row.now) (drop place old))
half_without position bit old place row l is refused =
    let next : place + 1 ≡ suc place = omega arith in
    rw (drop-cons old place row l, sym is, refused, next) refl

-- a row that is admitted is put on the stack, from behind the position on
pub row_put : (position : ℕ) (bit : Bool) (old stack stack' : List Row) (place : ℕ) (row half : Row) (all : List (List LiteralAt)) → place < length old → row ≡ get_or stack place row → admits_at position bit row.now ≡ true
    → half.now ≡ behind_at position row.now → stack' ≡ stack ++ half ∷ [] → take (length old) stack ≡ old
    → map (λ row. row.now) (drop (length old) stack) ++ half_at position bit (map (λ row. row.now) (drop place old)) ≡ all
    → (take (length old) stack' ≡ old) × (map (λ row. row.now) (drop (length old) stack') ++ half_at position bit (map (λ row. row.now) (drop (place + 1) old)) ≡ all)
row_put position bit old stack stack' place row half all l is admitted behind put kept rest =
    let long = longer old stack kept in
    let dropped : map literals_of (drop (length old) stack') ≡ map literals_of (drop (length old) stack) ++ half.now ∷ [] =
    ap (λ (rows : List Row). map literals_of (drop (length old) rows)) put ∙ ap (map literals_of) (drop-append-le (length old) stack (half ∷ []) long) ∙ map_append literals_of (drop (length old) stack) (half ∷ []) in
    let others : List (List LiteralAt) = half_at position bit (map (λ row. row.now) (drop (place + 1) old)) in (
      ap (take (length old)) put ∙ take-append-le (length old) stack (half ∷ []) long ∙ kept,
      ap (λ (rows : List (List LiteralAt)). rows ++ others) dropped ∙ append_assoc (map literals_of (drop (length old) stack)) (half.now ∷ []) others
          ∙ ap (λ (first : List LiteralAt). map literals_of (drop (length old) stack) ++ first ∷ others) behind
          ∙ ap (λ (rows : List (List LiteralAt)). map literals_of (drop (length old) stack) ++ rows) (half_with position bit old place row l (is ∙ row_of old stack place row l kept) admitted) ∙ rest,
    )

-- a row that is refused is passed over
pub row_passed : (position : ℕ) (bit : Bool) (old stack stack' : List Row) (place : ℕ) (row : Row) (all : List (List LiteralAt)) → place < length old → row ≡ get_or stack place row → admits_at position bit row.now ≡ false
    → stack' ≡ stack → take (length old) stack ≡ old → map (λ row. row.now) (drop (length old) stack) ++ half_at position bit (map (λ row. row.now) (drop place old)) ≡ all
    → (take (length old) stack' ≡ old) × (map (λ row. row.now) (drop (length old) stack') ++ half_at position bit (map (λ row. row.now) (drop (place + 1) old)) ≡ all)
row_passed position bit old stack stack' place row all l is refused same kept rest =
    let others : List (List LiteralAt) = half_at position bit (map (λ row. row.now) (drop (place + 1) old)) in (
      ap (take (length old)) same ∙ kept,
      ap (λ (rows : List Row). map literals_of (drop (length old) rows) ++ others) same
          ∙ ap (λ (rows : List (List LiteralAt)). map literals_of (drop (length old) stack) ++ rows) (half_without position bit old place row l (is ∙ row_of old stack place row l kept) refused) ∙ rest,
    )

-- at the first row of those from a place on nothing has been put
pub none_put : (position : ℕ) (bit : Bool) (begin : ℕ) (old : List Row) →
    (take (length old) old ≡ old) × (map (λ row. row.now) (drop (length old) old) ++ half_at position bit (map (λ row. row.now) (drop begin old)) ≡ half_at position bit (map (λ row. row.now) (drop begin old)))
none_put position bit begin old = (take-length old, ap (λ (rows : List Row). map literals_of rows ++ half_at position bit (map (λ row. row.now) (drop begin old))) (drop-length old))

-- the first position of the rows from a place on
pub least_of : (inputs : ℕ) (rows shown : List Row) (least : Option ℕ) → shown ≡ rows → least ≡ first_position_from inputs (map (λ row. row.now) shown) → first_position_from inputs (map (λ row. row.now) rows) ≡ least
least_of inputs rows shown least same is = ap (λ (rows : List Row). first_position_from inputs (map literals_of rows)) (sym same) ∙ sym is

-- there is no row from the last place on
pub none_from : (rows : List Row) (begin : ℕ) → begin ≡ length rows → map (λ row. row.now) (drop begin rows) ≡ []
none_from rows begin e = ap (λ (n : ℕ). map literals_of (drop n rows)) e ∙ ap (map literals_of) (drop-length rows)

some_asks : (rest : List (List LiteralAt)) (first : List LiteralAt) (all : List (List LiteralAt)) → all ≡ first ∷ rest → all ≢ []
some_asks rest first all is none = let e : first ∷ rest ≡ [] = sym is ∙ none in absurd (cc e)

-- there is a row from an earlier place on
pub some_from : (rows : List Row) (begin : ℕ) → begin < length rows → map (λ row. row.now) (drop begin rows) ≢ []
some_from [] begin l = absurd (omega (arith, l))
some_from (row ∷ rows) begin l = some_asks _ _ _ (ap (map literals_of) (drop-cons (row ∷ rows) begin row l))

-- the half that was put on a stack which is the old one, by the number of rows before it
pub half_on : (end position : ℕ) (bit : Bool) (begin : ℕ) (old same stack : List Row) → same ≡ old → end ≡ length old → take (length same) stack ≡ same
    → map (λ row. row.now) (drop (length same) stack) ≡ half_at position bit (map (λ row. row.now) (drop begin same))
    → (end ≤ length stack) × (map (λ row. row.now) (drop end stack) ≡ half_at position bit (map (λ row. row.now) (drop begin old)))
half_on end position bit begin old same stack e is kept added =
    let long = longer same stack kept in
    let here : end ≡ length same = is ∙ ap length (sym e) in (
      omega (arith, here, long),
      ap (λ (n : ℕ). map literals_of (drop n stack)) here ∙ added ∙ ap (λ (rows : List Row). half_at position bit (map literals_of (drop begin rows))) e,
    )

-- with the half taken from it again, the stack is as it was
pub taken_off : (end : ℕ) (old stack new cut : List Row) → end ≡ length old → take (length old) stack ≡ old → new ≡ stack → cut ≡ take end new → cut ≡ old
taken_off end old stack new cut is kept same off = off ∙ ap (take end) same ∙ ap (λ (n : ℕ). take n stack) is ∙ kept
