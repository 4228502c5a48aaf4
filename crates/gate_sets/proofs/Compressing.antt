-- Pieces lead to the rows that they were made of.
use Rattle.std.proofs.Common.{◌≡◌, ℕ, zero, suc, ◌+◌, ◌-◌, ◌≤◌, ◌<◌, Bool, true, false, List, [], ◌∷◌, ◌++◌, length, take, drop, get_or, replicate, refl, sym, ◌∙◌, ap, subst, arith, lt-ltb}
use Rattle.std.specs.Prelude.{nat_lt}
use Rattle.std.proofs.lemmas.Bool.{and_from, and_parts, ltb-true}
use Rattle.std.proofs.Math.Seq.{take-append_seam, get_or-append_right}
use Rattle.std.proofs.lemmas.List.{append_assoc, append-nil, length-append, length-take-le, take-append-drop, get_or-drop}
use Rattle.net_core.specs.declared.cover.Lit.{Lit}
use Rattle.net_core.specs.declared.cover.Lit.TheVariants.{Any}
use Rattle.gate_sets.specs.declared.piece.Piece.{Piece}
use Rattle.gate_sets.specs.declared.piece.Piece.TheVariants.{Put, Close}
use Rattle.gate_sets.specs.private.Pieces.{padded, rows_from, are_sound, LeadTo}

pub lead_nowhere : (width : ℕ) → LeadTo width [] [] [] false
lead_nowhere width = record { rows = λ rest. refl; sound = λ rest e. e }

-- pieces that go on soundly behind a literal do so behind an end
weaker : (width n : ℕ) (rest : List Piece) → are_sound width n true rest ≡ true → are_sound width n false rest ≡ true
weaker width n [] e = refl
weaker width n (Put lit ∷ rest) e = e
weaker width n (Close kept ∷ rest) e = e

pub lead_open : (width : ℕ) (pieces : List Piece) (done : List (List Lit)) (begun : List Lit) → LeadTo width pieces done begun false → LeadTo width pieces done begun true
lead_open width pieces done begun l = record { rows = l.rows; sound = λ rest e. l.sound rest (weaker width (length begun) rest e) }

pub lead_put : (width : ℕ) (pieces : List Piece) (done : List (List Lit)) (begun : List Lit) (lit : Lit) → length begun < width → LeadTo width pieces done begun true
    → LeadTo width (pieces ++ Put lit ∷ []) done (begun ++ lit ∷ []) true
lead_put width pieces done begun lit lt l = record {
  rows = λ rest. ap (rows_from width []) (append_assoc pieces (Put lit ∷ []) rest) ∙ l.rows (Put lit ∷ rest);
  sound = λ rest e. ap (are_sound width 0 false) (append_assoc pieces (Put lit ∷ []) rest)
      ∙ l.sound (Put lit ∷ rest) (and_from (nat_lt (length begun) width) (are_sound width (length begun + 1) true rest) (lt-ltb (length begun) width lt)
      (subst (λ n. are_sound width n true rest ≡ true) (length-append begun (lit ∷ [])) e));
}

pub lead_close : (width : ℕ) (pieces : List Piece) (done : List (List Lit)) (begun : List Lit) (kept : ℕ) → kept ≤ length begun → LeadTo width pieces done begun true
    → LeadTo width (pieces ++ Close kept ∷ []) (done ++ padded width begun ∷ []) (take kept begun) false
lead_close width pieces done begun kept le l = record {
  rows = λ rest. ap (rows_from width []) (append_assoc pieces (Close kept ∷ []) rest) ∙ l.rows (Close kept ∷ rest)
      ∙ sym (append_assoc done (padded width begun ∷ []) (rows_from width (take kept begun) rest));
  sound = λ rest e. ap (are_sound width 0 false) (append_assoc pieces (Close kept ∷ []) rest)
      ∙ l.sound (Close kept ∷ rest) (and_from (nat_lt kept (length begun + 1)) (are_sound width kept false rest) (lt-ltb kept (length begun + 1) (omega arith))
      (subst (λ n. are_sound width n false rest ≡ true) (length-take-le kept begun le) e));
}

all_any : (xs : List Lit) → ((k : ℕ) → get_or xs k Any ≡ Any) → xs ≡ replicate (length xs) Any
all_any [] h = refl
all_any (x ∷ xs) h = ap (λ y. y ∷ xs) (h 0) ∙ ap (λ ys. Any ∷ ys) (all_any xs (λ k. h (suc k)))

-- a row is its first literals, padded, where only - stand behind them
pub padded_is : (width n : ℕ) (row : List Lit) → length row ≡ width → n ≤ length row → ((k : ℕ) → n ≤ k → get_or row k Any ≡ Any) → padded width (take n row) ≡ row
padded_is width n row long le blank =
    let m = length-take-le n row le in
    let parts : take n row ++ drop n row ≡ row = take-append-drop n row in
    let sum : length (take n row) + length (drop n row) ≡ length row = sym (length-append (take n row) (drop n row)) ∙ ap length parts in
    let left : width - length (take n row) ≡ length (drop n row) = omega (arith, m, sum, long) in
    let rest : drop n row ≡ replicate (length (drop n row)) Any = all_any (drop n row) (λ k. get_or-drop n row k Any ∙ blank (n + k) (omega arith)) in
    ap (λ j. take n row ++ replicate j Any) left ∙ ap (λ ys. take n row ++ ys) (sym rest) ∙ parts

pub take-take : (n m : ℕ) (xs : List Lit) → n ≤ m → take n (take m xs) ≡ take n xs
take-take zero m xs le = refl
take-take (suc n) zero xs le = absurd (omega arith)
take-take (suc n) (suc m) [] le = refl
take-take (suc n) (suc m) (x ∷ xs) le = ap (λ ys. x ∷ ys) (take-take n m xs (omega arith))

-- one more row
pub row_added : (width : ℕ) (before after : List Piece) (done : List (List Lit)) (row next : List Lit) (end kept : ℕ) → length row ≡ width → end ≤ length row
    → ((k : ℕ) → end ≤ k → get_or row k Any ≡ Any) → kept ≤ end → take kept row ≡ take kept next → LeadTo width before done (take end row) true
    → after ≡ before ++ Close kept ∷ [] → LeadTo width after (done ++ row ∷ []) (take kept next) false
row_added width before after done row next end kept long inside blank le same l is =
    let m = length-take-le end row inside in
    let closed = lead_close width before done (take end row) kept (omega (arith, m)) l in
    subst (λ (ps : List Piece). LeadTo width ps (done ++ row ∷ []) (take kept next) false) (sym is)
    (subst (λ (begun : List Lit). LeadTo width (before ++ Close kept ∷ []) (done ++ row ∷ []) begun false) (take-take kept end row le ∙ same)
    (subst (λ (r : List Lit). LeadTo width (before ++ Close kept ∷ []) (done ++ r ∷ []) (take kept (take end row)) false) (padded_is width end row long inside blank) closed))

-- all rows
pub all_led : (width : ℕ) (pieces : List Piece) (done rows : List (List Lit)) (begun : List Lit) → done ≡ rows → LeadTo width pieces done begun false → rows_from width [] pieces ≡ rows
all_led width pieces done rows begun is l = ap (rows_from width []) (sym (append-nil pieces)) ∙ l.rows [] ∙ append-nil done ∙ is

pub all_sound : (width : ℕ) (pieces : List Piece) (done : List (List Lit)) (begun : List Lit) → LeadTo width pieces done begun false → are_sound width 0 false pieces ≡ true
all_sound width pieces done begun l = ap (are_sound width 0 false) (sym (append-nil pieces)) ∙ l.sound [] refl

-- ---- what pieces give

pub padded_long : (width : ℕ) (begun : List Lit) → length begun ≤ width → length (padded width begun) ≡ width
padded_long width begun le = length-append begun (replicate (width - length begun) Any) ∙ let h = length-replicate-any (width - length begun) in omega (arith, h, le)
  where
    length-replicate-any : (n : ℕ) → length (replicate n Any) ≡ n
    length-replicate-any zero = refl
    length-replicate-any (suc n) = ap suc (length-replicate-any n)

-- the first row that comes
pub record NextRow (width : ℕ) (begun : List Lit) (rest : List Piece) : Type 0 where
  pub row : List Lit
  pub others : List (List Lit)
  pub is : rows_from width begun rest ≡ row ∷ others
  pub long : length row ≡ width
  pub begins : take (length begun) row ≡ begun

-- behind a literal a row comes, and it begins with the literals so far
pub next_row : (width : ℕ) (begun : List Lit) (rest : List Piece) → length begun ≤ width → are_sound width (length begun) true rest ≡ true → NextRow width begun rest
next_row width begun [] le e = absurd cc
next_row width begun (Put lit ∷ rest) le e =
    let p = and_parts (nat_lt (length begun) width) (are_sound width (length begun + 1) true rest) e in
    let n : length (begun ++ lit ∷ []) ≡ length begun + 1 = length-append begun (lit ∷ []) in
    let lt : length begun < width = ltb-true (length begun) width p.0 in
    let r = next_row width (begun ++ lit ∷ []) rest (omega (arith, n, lt)) (subst (λ m. are_sound width m true rest ≡ true) (sym n) p.1) in
    record {
      row = r.row;
      others = r.others;
      is = r.is;
      long = r.long;
      begins = sym (take-take (length begun) (length (begun ++ lit ∷ [])) r.row (omega (arith, n))) ∙ ap (take (length begun)) r.begins ∙ take-append_seam begun (lit ∷ []);
    }
next_row width begun (Close kept ∷ rest) le e = record {
  row = padded width begun;
  others = rows_from width (take kept begun) rest;
  is = refl;
  long = padded_long width begun le;
  begins = take-append_seam begun (replicate (width - length begun) Any);
}

pub close_kept : (width n kept : ℕ) (awaits : Bool) (rest : List Piece) → are_sound width n awaits (Close kept ∷ rest) ≡ true → (kept ≤ n) × (are_sound width kept false rest ≡ true)
close_kept width n kept awaits rest e =
    let p = and_parts (nat_lt kept (n + 1)) (are_sound width kept false rest) e in
    let lt : kept < n + 1 = ltb-true kept (n + 1) p.0 in (omega arith, p.1)

pub put_fits : (width n : ℕ) (lit : Lit) (awaits : Bool) (rest : List Piece) → are_sound width n awaits (Put lit ∷ rest) ≡ true → (n < width) × (are_sound width (n + 1) true rest ≡ true)
put_fits width n lit awaits rest e = let p = and_parts (nat_lt n width) (are_sound width (n + 1) true rest) e in (ltb-true n width p.0, p.1)

any_at : (n k : ℕ) → get_or (replicate n Any) k Any ≡ Any
any_at zero k = refl
any_at (suc n) zero = refl
any_at (suc n) (suc k) = any_at n k

pub padded_blank : (width : ℕ) (begun : List Lit) (k : ℕ) → length begun ≤ k → get_or (padded width begun) k Any ≡ Any
padded_blank width begun k le = get_or-append_right begun (replicate (width - length begun) Any) k Any le ∙ any_at (width - length begun) (k - length begun)

-- sound pieces without a row are none
pub no_rows : (width : ℕ) (pieces : List Piece) → are_sound width 0 false pieces ≡ true → rows_from width [] pieces ≡ [] → pieces ≡ []
no_rows width [] e is = refl
no_rows width (Put lit ∷ rest) e is =
    let fit = put_fits width 0 lit false rest e in
    let r = next_row width (lit ∷ []) rest (let lt = fit.0 in omega arith) fit.1 in
    let clash : r.row ∷ r.others ≡ [] = sym r.is ∙ is in
    absurd cc
no_rows width (Close kept ∷ rest) e is = absurd cc

pub nothing_long : (pieces : List Piece) → length pieces ≡ 0 → pieces ≡ []
nothing_long [] e = refl
nothing_long (p ∷ ps) e = absurd (omega (arith, e))

-- ---- rows without -

-- one more literal
pub full_put : (width : ℕ) (full rows : List (List Lit)) (begun more : List Lit) (lit : Lit) (pieces rest : List Piece) → pieces ≡ Put lit ∷ rest → more ≡ begun ++ lit ∷ []
    → full ++ rows_from width begun pieces ≡ rows → full ++ rows_from width more rest ≡ rows
full_put width full rows begun more lit pieces rest is longer so =
    ap (λ (row : List Lit). full ++ rows_from width row rest) longer ∙ sym (ap (λ ps. full ++ rows_from width begun ps) is) ∙ so

-- one more row, as wide as the list
pub full_close : (width : ℕ) (full more rows : List (List Lit)) (begun left : List Lit) (kept : ℕ) (pieces rest : List Piece) → pieces ≡ Close kept ∷ rest → length begun ≡ width → more ≡ full ++ begun ∷ []
    → left ≡ take kept begun → full ++ rows_from width begun pieces ≡ rows → more ++ rows_from width left rest ≡ rows
full_close width full more rows begun left kept pieces rest is wide longer cut so =
    let none : width - length begun ≡ 0 = omega (arith, wide) in
    let whole : padded width begun ≡ begun = ap (λ n. begun ++ replicate n Any) none ∙ append-nil begun in
    ap (λ (rs : List (List Lit)). rs ++ rows_from width left rest) longer
    ∙ append_assoc full (begun ∷ []) (rows_from width left rest)
    ∙ ap (λ (row : List Lit). full ++ (begun ∷ rows_from width row rest)) cut
    ∙ ap (λ (row : List Lit). full ++ (row ∷ rows_from width (take kept begun) rest)) (sym whole)
    ∙ sym (ap (λ ps. full ++ rows_from width begun ps) is) ∙ so
