-- The own names of nets.
use Rattle.std.proofs.Common.{◌≡◌, ℕ, zero, suc, ◌+◌, ◌<◌, List, [], ◌∷◌, ◌++◌, map, length, take, drop, get_or, Option, None, Some, slice_get, arith, refl, sym, ap, ◌∙◌, subst, append_assoc, append-nil}
use Rattle.std.specs.Prelude.{codes, option_to_list, slice_index_or}
use Rattle.std.specs.Fmt.{decimal}
use Rattle.std.proofs.lemmas.List.{get_or-map}
use Rattle.hierarchy.specs.Names.{path_text}
use Rattle.instances.specs.declared.table.Row.{Row}
use Rattle.instances.specs.Table.{IsBelow, LinksFit}
use Rattle.instances.specs.Numbers.{own_names_in}

at_place : {X : Type 0} (xs : List X) (k : ℕ) (d : X) → k < length xs → slice_get xs k ≡ Some (get_or xs k d)
at_place [] k d h = absurd (omega arith)
at_place (x ∷ xs) zero d h = refl
at_place (x ∷ xs) (suc k) d h = at_place xs k d (omega arith)

taken : {X : Type 0} (xs : List X) (n k : ℕ) → k < length (take n xs) → slice_get xs k ≡ slice_get (take n xs) k
taken xs zero k h = absurd (omega arith)
taken [] (suc n) k h = absurd (omega arith)
taken (x ∷ xs) (suc n) zero h = refl
taken (x ∷ xs) (suc n) (suc k) h = taken xs n k (omega arith)

module _ (rows : List Row) (place : ℕ) (d : Row) (low : place < length rows) (paths : List (List ℕ)) (links : LinksFit rows paths) (path : List ℕ) (at : slice_get paths place ≡ Some path) where
  link : IsBelow (take place paths) (get_or rows place d).above (get_or rows place d).number path
  link = links.fits place (get_or rows place d) path (at_place rows place d low) at

  -- the top has an empty path
  pub top_path : (text : List ℕ) → (get_or rows place d).above ≡ None → text ≡ text ++ path_text path
  top_path text e =
      let top : path ≡ [] = subst (λ o. IsBelow (take place paths) o (get_or rows place d).number path) e link in
      sym (append-nil text) ∙ ap (λ p. text ++ path_text p) (sym top)

  -- the path of an instance is that of the one above, and its number
  pub below_path : (text before after : List ℕ) (above : ℕ) → (get_or rows place d).above ≡ Some above →
      ((p : List ℕ) → slice_get paths above ≡ Some p → before ≡ text ++ path_text p) → after ≡ before ++ (decimal (get_or rows place d).number ++ codes "/") → after ≡ text ++ path_text path
  below_path text before after above e first then =
      let l : (above < length (take place paths)) × (path ≡ (get_or rows place d).number ∷ slice_index_or (take place paths) above []) = subst (λ o. IsBelow (take place paths) o (get_or rows place d).number path) e link in
      let p = get_or (take place paths) above [] in
      let its : slice_get paths above ≡ Some p = taken paths place above l.0 ∙ at_place (take place paths) above [] l.0 in
      then ∙ ap (λ b. b ++ (decimal (get_or rows place d).number ++ codes "/")) (first p its)
      ∙ append_assoc text (path_text p) (decimal (get_or rows place d).number ++ codes "/")
      ∙ ap (λ q. text ++ path_text q) (sym l.1)

-- one more signal
pub add_next : (path : List ℕ) (words : List (List ℕ)) (bounds : List (Option ℕ)) (k : ℕ) (d : Option ℕ) → k < length words → k < length bounds → own_names_in path (drop k words) (drop k bounds) ≡ own_names_in path (option_to_list (slice_get words k)) (get_or bounds k d ∷ []) ++ own_names_in path (drop (k + 1) words) (drop (k + 1) bounds)
add_next path words bounds k d low low' = grow words bounds k low low' ∙ ap (λ n. own_names_in path (option_to_list (slice_get words k)) (get_or bounds k d ∷ []) ++ own_names_in path (drop n words) (drop n bounds)) (next k)
  where
    next : (k : ℕ) → suc k ≡ k + 1
    next k = omega arith

    first : (w : List ℕ) (words : List (List ℕ)) (b : Option ℕ) (bounds : List (Option ℕ)) → own_names_in path (w ∷ words) (b ∷ bounds) ≡ own_names_in path (w ∷ []) (b ∷ []) ++ own_names_in path words bounds
    first w words None bounds = refl
    first w words (Some n) bounds = refl

    grow : (words : List (List ℕ)) (bounds : List (Option ℕ)) (k : ℕ) → k < length words → k < length bounds → own_names_in path (drop k words) (drop k bounds) ≡ own_names_in path (option_to_list (slice_get words k)) (get_or bounds k d ∷ []) ++ own_names_in path (drop (suc k) words) (drop (suc k) bounds)
    grow [] bounds k e f = absurd (omega arith)
    grow (w ∷ words) [] k e f = absurd (omega arith)
    grow (w ∷ words) (b ∷ bounds) (suc k) e f = grow words bounds k (omega arith) (omega arith)
    grow (w ∷ words) (b ∷ bounds) zero e f = first w words b bounds

pub one_added : (path : List ℕ) (words : List (List ℕ)) (bounds : List (Option ℕ)) (k : ℕ) (d : Option ℕ) (old names added : List (List ℕ)) (word : Option (List ℕ)) → length bounds ≡ length words → k < length bounds → word ≡ slice_get words k → added ≡ names ++ own_names_in path (option_to_list word) (get_or bounds k d ∷ []) →
    names ++ own_names_in path (drop k words) (drop k bounds) ≡ old ++ own_names_in path words bounds → added ++ own_names_in path (drop (k + 1) words) (drop (k + 1) bounds) ≡ old ++ own_names_in path words bounds
one_added path words bounds k d old names added word long low at is inv =
    let low' : k < length words = omega (arith, long, low) in
    ap (λ l. l ++ own_names_in path (drop (k + 1) words) (drop (k + 1) bounds)) (is ∙ ap (λ w. names ++ own_names_in path (option_to_list w) (get_or bounds k d ∷ [])) at)
    ∙ append_assoc names (own_names_in path (option_to_list (slice_get words k)) (get_or bounds k d ∷ [])) (own_names_in path (drop (k + 1) words) (drop (k + 1) bounds))
    ∙ ap (λ l. names ++ l) (sym (add_next path words bounds k d low' low))
    ∙ inv

-- what the entry at a place has
pub keys_at : {X Y : Type 0} (f : X → List Y) (xs : List X) (k : ℕ) (x : X) → k < length xs → x ≡ get_or xs k x → f x ≡ slice_index_or (map f xs) k []
keys_at f xs k x low e = ap f e ∙ sym (get_or-map f xs k x [] low)
