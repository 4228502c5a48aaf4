-- The lists of all covers by numbers of pairs that are kept: one more cover, with a pair that is there or a new one.
use Rattle.std.proofs.Common.{◌≡◌, ℕ, ◌+◌, ◌<◌, List, [], ◌∷◌, ◌++◌, length, get_or, map, take, refl, sym, ◌∙◌, ap, subst, arith, All}
use Rattle.std.proofs.Math.ListN.{get_or-append}
use Rattle.std.proofs.Math.Seq.{get_or-append_seam}
use Rattle.std.proofs.lemmas.List.{get_or-map, get_or-take, length-append, length-take-le, map-append, take_more}
use Rattle.std.proofs.lemmas.List.Elements.{All-append, All-cons, All-head, All-nil, All-tail}
use Rattle.net_core.specs.declared.cover.Cover.{Cover}
use Rattle.gate_sets.specs.declared.rows.CoverRows.{CoverRows}
use Rattle.gate_sets.specs.Lists.{rows_of}
use Rattle.gate_sets.specs.private.Numbers.{kind_at}

-- so many covers have their numbers
pub record AreNumbered (kinds : List CoverRows) (numbers : List ℕ) (covers : List Cover) (k : ℕ) : Type 0 where
  pub count : length numbers ≡ k
  pub inside : All (λ j. j < length kinds) numbers
  pub each : map (kind_at kinds) numbers ≡ map rows_of (take k covers)

-- the lists of one more
one_more : (kinds : List CoverRows) (numbers : List ℕ) (covers : List Cover) (k number : ℕ) (cover : Cover) → k < length covers → cover ≡ get_or covers k cover → kind_at kinds number ≡ rows_of cover
    → map (kind_at kinds) numbers ≡ map rows_of (take k covers) → map (kind_at kinds) (numbers ++ number ∷ []) ≡ map rows_of (take (k + 1) covers)
one_more kinds numbers covers k number cover lt read is each =
    map-append (kind_at kinds) numbers (number ∷ [])
    ∙ ap (λ ls. ls ++ kind_at kinds number ∷ []) each
    ∙ ap (λ (l : CoverRows). map rows_of (take k covers) ++ l ∷ []) (is ∙ ap rows_of read)
    ∙ sym (map-append rows_of (take k covers) (get_or covers k cover ∷ []))
    ∙ ap (map rows_of) (sym (take_more covers k cover lt))

-- a cover that is the same as an earlier one has its number
pub shared_number : (kinds : List CoverRows) (numbers more : List ℕ) (covers : List Cover) (k before number : ℕ) (cover first : Cover) → k < length covers → before < k → cover ≡ get_or covers k cover → first ≡ get_or covers before first → first ≡ cover
    → number ≡ get_or numbers before number → more ≡ numbers ++ number ∷ [] → AreNumbered kinds numbers covers k → AreNumbered kinds more covers (k + 1)
shared_number kinds numbers more covers k before number cover first lt earlier read read_first same found longer a =
    let count = a.count in
    let within : number < length kinds = subst (λ n. n < length kinds) (sym found) (a.inside before number (omega (arith, count, earlier))) in
    let n : length (take k covers) ≡ k = length-take-le k covers (omega (arith, lt)) in
    let is : kind_at kinds number ≡ rows_of cover =
    ap (kind_at kinds) found
    ∙ sym (get_or-map (kind_at kinds) numbers before number (kind_at kinds number) (omega (arith, count, earlier)))
    ∙ ap (λ ls. get_or ls before (kind_at kinds number)) a.each
    ∙ get_or-map rows_of (take k covers) before first (kind_at kinds number) (omega (arith, n, earlier))
    ∙ ap rows_of (get_or-take k covers before first earlier ∙ sym read_first ∙ same) in
    subst (λ ns. AreNumbered kinds ns covers (k + 1)) (sym longer) (record {
      count = length-append numbers (number ∷ []) ∙ ap (λ m. m + 1) count;
      inside = All-append (λ j. j < length kinds) numbers (number ∷ []) a.inside (All-cons (λ j. j < length kinds) number [] within (All-nil (λ j. j < length kinds)));
      each = one_more kinds numbers covers k number cover lt read is a.each;
    })

-- more pairs leave those that are there
map_longer : (kinds : List CoverRows) (x : CoverRows) (numbers : List ℕ) → All (λ j. j < length kinds) numbers → map (kind_at (kinds ++ x ∷ [])) numbers ≡ map (kind_at kinds) numbers
map_longer kinds x [] all = refl
map_longer kinds x (n ∷ ns) all =
    ap (λ (l : CoverRows). l ∷ map (kind_at (kinds ++ x ∷ [])) ns) (get_or-append kinds (x ∷ []) _ n (All-head (λ j. j < length kinds) n ns all))
    ∙ ap (λ ls. kind_at kinds n ∷ ls) (map_longer kinds x ns (All-tail (λ j. j < length kinds) n ns all))

-- any other has the number of a new pair
pub new_number : (kinds wider : List CoverRows) (numbers more : List ℕ) (covers : List Cover) (k : ℕ) (cover : Cover) (lists : CoverRows) → k < length covers → cover ≡ get_or covers k cover → lists ≡ rows_of cover
    → wider ≡ kinds ++ lists ∷ [] → more ≡ numbers ++ length kinds ∷ [] → AreNumbered kinds numbers covers k → AreNumbered wider more covers (k + 1)
new_number kinds wider numbers more covers k cover lists lt read is wide longer a =
    let big : length (kinds ++ lists ∷ []) ≡ length kinds + 1 = length-append kinds (lists ∷ []) in
    subst (λ ks. AreNumbered ks more covers (k + 1)) (sym wide) (subst (λ ns. AreNumbered (kinds ++ lists ∷ []) ns covers (k + 1)) (sym longer) (record {
      count = length-append numbers (length kinds ∷ []) ∙ ap (λ m. m + 1) a.count;
      inside = All-append (λ j. j < length (kinds ++ lists ∷ [])) numbers (length kinds ∷ []) (λ i d l. let le = a.inside i d l in omega (arith, le, big))
          (All-cons (λ j. j < length (kinds ++ lists ∷ [])) (length kinds) [] (omega (arith, big)) (All-nil (λ j. j < length (kinds ++ lists ∷ []))));
      each = one_more (kinds ++ lists ∷ []) numbers covers k (length kinds) cover lt read (get_or-append_seam kinds lists [] _ ∙ is) (map_longer kinds lists numbers a.inside ∙ a.each);
    }))
