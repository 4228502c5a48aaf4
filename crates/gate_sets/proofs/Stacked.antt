-- A stack of rows, on which halves are put and from which they are taken again; rows cut from the list of their literals.
use Rattle.std.specs.List.{flat_map}
use Rattle.std.proofs.Common.{◌≡◌, ℕ, zero, suc, ◌+◌, ◌<◌, ◌≤◌, min, Bool, true, false, Bor, List, [], ◌∷◌, ◌++◌, map, length, get_or, take, drop, arith, refl, sym, ap, subst, ◌∙◌, append_assoc, append-nil}
use Rattle.std.proofs.Math.Seq.{drop-cons, take-append_seam, drop-append_seam, drop-length}
use Rattle.std.proofs.lemmas.List.{take-append-le, drop-append-le, get_or-take, length-take, length-append}
use Rattle.std.proofs.lemmas.List.Concat.{flat_map-append}
use Rattle.std.proofs.lemmas.List.Elements.{All-append, All-head, All-tail}
use Rattle.net_core.specs.declared.cover.Lit.{Lit}
use Rattle.net_core.specs.Cases.{begins_with, half_of_rows, without_first}
use Rattle.net_core.specs.Work.{AreWide}
use Rattle.gate_sets.specs.declared.piece.Piece.{Piece}
use Rattle.gate_sets.specs.declared.piece.Piece.TheVariants.{Put, Close}
use Rattle.gate_sets.specs.private.Pieces.{rows_from}
use Rattle.gate_sets.proofs.Compressing.{full_put, full_close}

abbrev pub Row : Type 0
Row = Bor (List Lit)

-- the rows behind their borrows
abbrev pub rows_of : List Row → List (List Lit)
rows_of rows = map (λ row. row.now) rows

pub map_append : (xs ys : List Row) → rows_of (xs ++ ys) ≡ rows_of xs ++ rows_of ys
map_append [] ys = refl
map_append (x ∷ xs) ys = ap (λ (rest : List (List Lit)). x.now ∷ rest) (map_append xs ys)

-- a stack is at least as long as what it begins with
longer : (old stack : List Row) → take (length old) stack ≡ old → length old ≤ length stack
longer old stack kept = let e : min (length old) (length stack) ≡ length old = sym (length-take (length old) stack) ∙ ap length kept in omega (arith, e)

-- a row of what a stack begins with
row_of : (old stack : List Row) (place : ℕ) (d : Row) → place < length old → take (length old) stack ≡ old → get_or stack place d ≡ get_or old place d
row_of old stack place d l kept = sym (get_or-take (length old) stack place d l) ∙ ap (λ (rows : List Row). get_or rows place d) kept

-- the rows from a place on, by the first of them
rows_at : (old stack : List Row) (place : ℕ) (row : Row) → place < length old → row ≡ get_or stack place row → take (length old) stack ≡ old → rows_of (drop place old) ≡ row.now ∷ rows_of (drop (place + 1) old)
rows_at old stack place row l is kept =
    let next : suc place ≡ place + 1 = omega arith in
    let here : get_or old place row ≡ row = sym (is ∙ row_of old stack place row l kept) in
    ap rows_of (drop-cons old place row l) ∙ ap (λ (x : Row). x.now ∷ rows_of (drop (suc place) old)) here ∙ ap (λ (n : ℕ). row.now ∷ rows_of (drop n old)) next

-- what has been put on a stack, with what is made of the rows that are left
module _ (made : List (List Lit) → List (List Lit)) where
  -- a row that is put on the stack
  pub row_put : (old stack stack' : List Row) (place : ℕ) (row half : Row) (all : List (List Lit)) → place < length old → row ≡ get_or stack place row
      → made (row.now ∷ rows_of (drop (place + 1) old)) ≡ half.now ∷ made (rows_of (drop (place + 1) old))
      → stack' ≡ stack ++ half ∷ [] → take (length old) stack ≡ old
      → rows_of (drop (length old) stack) ++ made (rows_of (drop place old)) ≡ all
      → (take (length old) stack' ≡ old) × (rows_of (drop (length old) stack') ++ made (rows_of (drop (place + 1) old)) ≡ all)
  row_put old stack stack' place row half all l is first put kept rest =
      let long = longer old stack kept in
      let others : List (List Lit) = made (rows_of (drop (place + 1) old)) in
      let done : List (List Lit) = rows_of (drop (length old) stack) in
      let dropped : rows_of (drop (length old) stack') ≡ done ++ half.now ∷ [] =
      ap (λ (rows : List Row). rows_of (drop (length old) rows)) put ∙ ap rows_of (drop-append-le (length old) stack (half ∷ []) long) ∙ map_append (drop (length old) stack) (half ∷ []) in (
        ap (take (length old)) put ∙ take-append-le (length old) stack (half ∷ []) long ∙ kept,
        ap (λ (rows : List (List Lit)). rows ++ others) dropped ∙ append_assoc done (half.now ∷ []) others
            ∙ ap (λ (rows : List (List Lit)). done ++ rows) (sym first ∙ ap made (sym (rows_at old stack place row l is kept))) ∙ rest,
      )

  -- a row that is passed over
  pub row_passed : (old stack stack' : List Row) (place : ℕ) (row : Row) (all : List (List Lit)) → place < length old → row ≡ get_or stack place row
      → made (row.now ∷ rows_of (drop (place + 1) old)) ≡ made (rows_of (drop (place + 1) old))
      → stack' ≡ stack → take (length old) stack ≡ old
      → rows_of (drop (length old) stack) ++ made (rows_of (drop place old)) ≡ all
      → (take (length old) stack' ≡ old) × (rows_of (drop (length old) stack') ++ made (rows_of (drop (place + 1) old)) ≡ all)
  row_passed old stack stack' place row all l is first same kept rest =
      let others : List (List Lit) = made (rows_of (drop (place + 1) old)) in (
        ap (take (length old)) same ∙ kept,
        ap (λ (rows : List Row). rows_of (drop (length old) rows) ++ others) same
            ∙ ap (λ (rows : List (List Lit)). rows_of (drop (length old) stack) ++ rows) (sym first ∙ ap made (sym (rows_at old stack place row l is kept))) ∙ rest,
      )

-- the half by its first row
pub half_with : (bit : Bool) (row half : List Lit) (rows : List (List Lit)) → begins_with bit row ≡ true → half ≡ without_first row → half_of_rows bit (row ∷ rows) ≡ half ∷ half_of_rows bit rows
half_with bit row half rows admitted is = rw (admitted, is) refl

pub half_without : (bit : Bool) (row : List Lit) (rows : List (List Lit)) → begins_with bit row ≡ false → half_of_rows bit (row ∷ rows) ≡ half_of_rows bit rows
half_without bit row rows refused = rw refused refl

-- there is no row from the last place on
pub none_from : (rows : List Row) (begin : ℕ) → begin ≡ length rows → rows_of (drop begin rows) ≡ []
none_from rows begin e = ap (λ (n : ℕ). rows_of (drop n rows)) e ∙ ap rows_of (drop-length rows)

-- there is a row from an earlier place on
pub some_from : (rows : List Row) (begin : ℕ) → begin < length rows → 0 < length (rows_of (drop begin rows))
some_from [] begin l = absurd (omega (arith, l))
some_from (row ∷ rows) begin l = let n : length (rows_of (drop begin (row ∷ rows))) ≡ length (rows_of (drop (suc begin) (row ∷ rows))) + 1 = ap (λ (rs : List Row). length (rows_of rs)) (drop-cons (row ∷ rows) begin row l) ∙ omega arith in omega (arith, n)

-- what was put on a stack which is the old one, by the number of rows before it
pub added_on : (made : List (List Lit) → List (List Lit)) (end begin : ℕ) (old same stack : List Row) → same ≡ old → end ≡ length old → take (length same) stack ≡ same
    → rows_of (drop (length same) stack) ≡ made (rows_of (drop begin same))
    → (end ≤ length stack) × (rows_of (drop end stack) ≡ made (rows_of (drop begin old)))
added_on made end begin old same stack e is kept added =
    let long = longer same stack kept in
    let here : end ≡ length same = is ∙ ap length (sym e) in (
      omega (arith, here, long),
      ap (λ (n : ℕ). rows_of (drop n stack)) here ∙ added ∙ ap (λ (rows : List Row). made (rows_of (drop begin rows))) e,
    )

-- with what was put on it taken from it again, the stack is as it was
pub taken_off : (end : ℕ) (old stack new cut : List Row) → end ≡ length old → take (length old) stack ≡ old → new ≡ stack → cut ≡ take end new → cut ≡ old
taken_off end old stack new cut is kept same off = off ∙ ap (take end) same ∙ ap (λ (n : ℕ). take n stack) is ∙ kept

-- ---- rows cut from their literals

-- the literals of the rows, row behind row
abbrev pub lits_of : List (List Lit) → List Lit
lits_of rows = flat_map (λ row. row) rows

-- of rows of this width some are cut, and the literals are those of the others
pub record AreCut (width : ℕ) (rows cut : List (List Lit)) (lits : List Lit) : Type 0 where
  pub others : List (List Lit)
  pub rows_are : cut ++ others ≡ rows
  pub lits_are : lits ≡ lits_of others
  pub wide : AreWide others width

-- one more row is cut
next_cut : (width : ℕ) (rows cut cut' others : List (List Lit)) (lits row rest : List Lit) → 0 < width → width ≤ length lits → row ≡ take width lits → rest ≡ drop width lits → cut' ≡ cut ++ row ∷ []
    → cut ++ others ≡ rows → lits ≡ lits_of others → AreWide others width → AreCut width rows cut' rest
next_cut width rows cut cut' [] lits row rest some le is left put are lits_are wide = absurd (let n = ap length lits_are in omega (arith, n))
next_cut width rows cut cut' (x ∷ others) lits row rest some le is left put are lits_are wide =
    let long : length x ≡ width = All-head (λ (row : List Lit). length row ≡ width) x others wide in
    let mine : row ≡ x = is ∙ ap (take width) lits_are ∙ ap (λ (n : ℕ). take n (x ++ lits_of others)) (sym long) ∙ take-append_seam x (lits_of others) in
    record {
      others = others;
      rows_are = ap (λ (rs : List (List Lit)). rs ++ others) put ∙ append_assoc cut (row ∷ []) others ∙ ap (λ (r : List Lit). cut ++ r ∷ others) mine ∙ are;
      lits_are = left ∙ ap (drop width) lits_are ∙ ap (λ (n : ℕ). drop n (x ++ lits_of others)) (sym long) ∙ drop-append_seam x (lits_of others);
      wide = All-tail (λ (row : List Lit). length row ≡ width) x others wide;
    }

pub more_cut : (width : ℕ) (rows cut cut' : List (List Lit)) (lits row rest : List Lit) → 0 < width → width ≤ length lits → row ≡ take width lits → rest ≡ drop width lits → cut' ≡ cut ++ row ∷ []
    → AreCut width rows cut lits → AreCut width rows cut' rest
more_cut width rows cut cut' lits row rest some le is left put c = next_cut width rows cut cut' c.others lits row rest some le is left put c.rows_are c.lits_are c.wide

-- where too few literals are left for a row, there is none
no_others : (width : ℕ) (others : List (List Lit)) (lits : List Lit) → length lits < width → lits ≡ lits_of others → AreWide others width → others ≡ []
no_others width [] lits lt is wide = refl
no_others width (x ∷ others) lits lt is wide =
    let long : length x ≡ width = All-head (λ (row : List Lit). length row ≡ width) x others wide in
    let n = ap length is ∙ length-append x (lits_of others) in
    absurd (omega (arith, n, long))

pub all_cut : (width : ℕ) (rows cut : List (List Lit)) (lits : List Lit) → length lits < width → AreCut width rows cut lits → cut ≡ rows
all_cut width rows cut lits lt c = sym (append-nil cut) ∙ ap (λ (rs : List (List Lit)). cut ++ rs) (sym (no_others width c.others lits lt c.lits_are c.wide)) ∙ c.rows_are

-- ---- rows gathered from pieces

-- the literals are those of the rows so far, which have this width, and the others come of the pieces that are left
pub record AreGathered (width : ℕ) (rows : List (List Lit)) (lits begun : List Lit) (left : List Piece) : Type 0 where
  pub done : List (List Lit)
  pub lits_are : lits ≡ lits_of done
  pub wide : AreWide done width
  pub rows_are : done ++ rows_from width begun left ≡ rows

-- one more literal
pub put_gathered : (width : ℕ) (rows : List (List Lit)) (lits begun more : List Lit) (lit : Lit) (pieces rest : List Piece) → pieces ≡ Put lit ∷ rest → more ≡ begun ++ lit ∷ []
    → AreGathered width rows lits begun pieces → AreGathered width rows lits more rest
put_gathered width rows lits begun more lit pieces rest is put g = record {
  done = g.done;
  lits_are = g.lits_are;
  wide = g.wide;
  rows_are = full_put width g.done rows begun more lit pieces rest is put g.rows_are;
}

one_wide : (width : ℕ) (row : List Lit) → length row ≡ width → AreWide (row ∷ []) width
one_wide width row wide zero d lt = wide
one_wide width row wide (suc k) d lt = absurd (omega (arith, lt))

-- one more row, of this width
pub close_gathered : (width : ℕ) (rows : List (List Lit)) (lits lits' begun left : List Lit) (kept : ℕ) (pieces rest : List Piece) → pieces ≡ Close kept ∷ rest → length begun ≡ width → lits' ≡ lits ++ begun
    → left ≡ take kept begun → AreGathered width rows lits begun pieces → AreGathered width rows lits' left rest
close_gathered width rows lits lits' begun left kept pieces rest is wide put cut g = record {
  done = g.done ++ begun ∷ [];
  lits_are = put ∙ ap (λ (ls : List Lit). ls ++ begun) g.lits_are ∙ ap (λ (ls : List Lit). lits_of g.done ++ ls) (sym (append-nil begun)) ∙ sym (flat_map-append (λ (row : List Lit). row) g.done (begun ∷ []));
  wide = All-append (λ (row : List Lit). length row ≡ width) g.done (begun ∷ []) g.wide (one_wide width begun wide);
  rows_are = full_close width g.done (g.done ++ begun ∷ []) rows begun left kept pieces rest is wide refl cut g.rows_are;
}

-- all are gathered
pub all_gathered : (width : ℕ) (rows : List (List Lit)) (lits begun : List Lit) (left : List Piece) → left ≡ [] → AreGathered width rows lits begun left → (lits ≡ lits_of rows) × AreWide rows width
all_gathered width rows lits begun left none g =
    let same : g.done ≡ rows = sym (append-nil g.done) ∙ ap (λ (ps : List Piece). g.done ++ rows_from width begun ps) (sym none) ∙ g.rows_are in
    (g.lits_are ∙ ap lits_of same, subst (λ (rs : List (List Lit)). AreWide rs width) same g.wide)
