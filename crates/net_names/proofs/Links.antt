-- What leads to an instance leads to no other.
use Rattle.std.proofs.Common.{◌≡◌, ℕ, zero, suc, ◌+◌, ◌<◌, ◌≤◌, Bool, true, false, cond, ◌||◌, ◌&&◌, List, [], ◌∷◌, ◌++◌, map, length, take, get_or, Option, None, Some, slice_get, arith, refl, sym, ap, ◌∙◌, subst}
use Rattle.std.specs.Prelude.{nat_eq, slice_index_or}
use Rattle.std.specs.List.{list_any}
use Rattle.std.specs.Option.{option_eq}
use Rattle.std.proofs.lemmas.Bool.Decides.{Decides-eqb}
use Rattle.std.proofs.lemmas.List.{map-append, take_more}
use Rattle.indexmap.specs.IndexSet.{insert_key}
use Rattle.blif_syntax.specs.declared.models.Model.{Model}
use Rattle.hierarchy.specs.Instances.{instances}
use Rattle.hierarchy.proofs.Members.{In, in_get}
use Rattle.instances.specs.declared.table.Row.{Row}
use Rattle.instances.specs.Table.{IsBelow}
use Rattle.instances.specs.Numbers.{AreRows}
use Rattle.instances.proofs.NoRepeats.{Distinct, walk_distinct}
use Rattle.instances.proofs.Rows.{at_place, below, less, taken}
use Rattle.net_names.specs.declared.names.Link.{Link}
use Rattle.net_names.specs.Names.{is_same_link, link_of}

-- in a list without repeats an element has one place
pub one_place : {X : Type 0} (xs : List X) → Distinct xs → (i k : ℕ) (x : X) → slice_get xs i ≡ Some x → slice_get xs k ≡ Some x → i ≡ k
one_place [] d i k x a b = absurd (cc)
one_place (y ∷ xs) d zero zero x a b = refl
one_place (y ∷ xs) d zero (suc k) x a b = let e : y ≡ x = cc in absurd (d.0 (subst (λ z. In xs z) (sym e) (in_get xs k x b)))
one_place (y ∷ xs) d (suc i) zero x a b = let e : y ≡ x = cc in absurd (d.0 (subst (λ z. In xs z) (sym e) (in_get xs i x a)))
one_place (y ∷ xs) d (suc i) (suc k) x a b = ap suc (one_place xs d.1 i k x a b)

-- the same links are equal
pub same_link : (one other : Link) → is_same_link one other ≡ true → one ≡ other
same_link one other e = by one.above other.above refl refl e
  where
    number_is : nat_eq one.number other.number ≡ true → one.number ≡ other.number
    number_is e = (Decides-eqb one.number other.number).0 e

    link : one.above ≡ other.above → nat_eq one.number other.number ≡ true → one ≡ other
    link a n = let m = number_is n in (λ i. record { above = a i; number = m i })

    inner : (x y : ℕ) → (b : Bool) → (b && nat_eq one.number other.number) ≡ true → (b ≡ true) × (nat_eq one.number other.number ≡ true)
    inner x y true e = (refl, e)
    inner x y false e = absurd (cc)

    by : (o p : Option ℕ) → one.above ≡ o → other.above ≡ p → (option_eq nat_eq o p && nat_eq one.number other.number) ≡ true → one ≡ other
    by None None a b e = link (a ∙ sym b) e
    by None (Some y) a b e = absurd (cc)
    by (Some x) None a b e = absurd (cc)
    by (Some x) (Some y) a b e = let h = inner x y (nat_eq x y) e in link (a ∙ ap Some ((Decides-eqb x y).0 h.0) ∙ sym b) h.1

pub same_itself : (one : Link) → is_same_link one one ≡ true
same_itself one = by one.above
  where
    number : nat_eq one.number one.number ≡ true
    number = (Decides-eqb one.number one.number).1 refl

    by : (o : Option ℕ) → (option_eq nat_eq o o && nat_eq one.number one.number) ≡ true
    by None = number
    by (Some x) = rw ((Decides-eqb x x).1 refl) number

pub same_some : {X : Type 0} {x y : X} → Some x ≡ Some y → x ≡ y
same_some e = cc

module _ (models : List Model) (rows : List Row) (table : AreRows models rows) where
  -- the path of a row that stands below a row
  pub below_is : (k : ℕ) (row : Row) (path : List ℕ) (above : ℕ) (over : List ℕ) → slice_get rows k ≡ Some row → slice_get (instances models) k ≡ Some path → row.above ≡ Some above → slice_get (instances models) above ≡ Some over → path ≡ row.number ∷ over
  below_is k row path above over here its e there =
      let link : (above < length (take k (instances models))) × (path ≡ row.number ∷ slice_index_or (take k (instances models)) above []) = subst (λ o. IsBelow (take k (instances models)) o row.number path) e (table.fits k row path here its).link in
      let found : slice_get (instances models) above ≡ Some (get_or (take k (instances models)) above []) = sym (taken (instances models) k above (less (instances models) k above link.0)) ∙ at_place (take k (instances models)) above [] link.0 in
      link.1 ∙ ap (λ p. row.number ∷ p) (same_some (sym found ∙ there))

  -- rows to which the same leads stand for the same path
  same_path : (i k : ℕ) (one other : Row) (path its : List ℕ) → slice_get rows i ≡ Some one → slice_get rows k ≡ Some other → slice_get (instances models) i ≡ Some path → slice_get (instances models) k ≡ Some its → link_of one ≡ link_of other → path ≡ its
  same_path i k one other path its a b p q e = by other.above refl
    where
      above_same : one.above ≡ other.above
      above_same = ap (λ l. l.above) e

      number_same : one.number ≡ other.number
      number_same = ap (λ l. l.number) e

      by : (o : Option ℕ) → other.above ≡ o → path ≡ its
      by None is =
          let x : path ≡ [] = subst (λ o. IsBelow (take i (instances models)) o one.number path) (above_same ∙ is) (table.fits i one path a p).link in
          let y : its ≡ [] = subst (λ o. IsBelow (take k (instances models)) o other.number its) is (table.fits k other its b q).link in
          x ∙ sym y
      by (Some above) is =
          let link : (above < length (take k (instances models))) × (its ≡ other.number ∷ slice_index_or (take k (instances models)) above []) = subst (λ o. IsBelow (take k (instances models)) o other.number its) is (table.fits k other its b q).link in
          let there = sym (taken (instances models) k above (less (instances models) k above link.0)) ∙ at_place (take k (instances models)) above [] link.0 in
          below_is i one path above (get_or (take k (instances models)) above []) a p (above_same ∙ is) there
          ∙ ap (λ n. n ∷ get_or (take k (instances models)) above []) number_same
          ∙ sym (below_is k other its above (get_or (take k (instances models)) above []) b q is there)

  -- the instance of a row
  path_of : (k : ℕ) (row : Row) → slice_get rows k ≡ Some row → slice_get (instances models) k ≡ Some (get_or (instances models) k [])
  path_of k row here = at_place (instances models) k [] (let low = below rows k row here in let long = table.long in omega (arith, low, long))

  -- what leads to a row leads to none before it
  one_row : (i k : ℕ) (one other : Row) → slice_get rows i ≡ Some one → slice_get rows k ≡ Some other → link_of one ≡ link_of other → i ≡ k
  one_row i k one other a b e =
      let p = path_of i one a in
      let q = path_of k other b in
      let same = same_path i k one other (get_or (instances models) i []) (get_or (instances models) k []) a b p q e in
      one_place (instances models) (walk_distinct models 65 [] (slice_get models 0)) i k (get_or (instances models) k []) (p ∙ ap Some same) q

  fresh : (k : ℕ) (row : Row) → slice_get rows k ≡ Some row → (n : ℕ) → n ≤ k → list_any (is_same_link (link_of row)) (map link_of (take n rows)) ≡ false
  fresh k row here n low = none (take n rows) (λ i other at. apart i other at)
    where
      apart : (i : ℕ) (other : Row) → slice_get (take n rows) i ≡ Some other → is_same_link (link_of row) (link_of other) ≡ true → ⊥
      apart i other at e =
          let small : i < n = less rows n i (below (take n rows) i other at) in
          let there : slice_get rows i ≡ Some other = sym (taken rows n i small) ∙ at in
          let same = one_row i k other row there here (sym (same_link (link_of row) (link_of other) e)) in
          omega (arith, small, low, same)

      none : (others : List Row) → ((i : ℕ) (other : Row) → slice_get others i ≡ Some other → is_same_link (link_of row) (link_of other) ≡ true → ⊥) → list_any (is_same_link (link_of row)) (map link_of others) ≡ false
      none [] differ = refl
      none (other ∷ others) differ = by (is_same_link (link_of row) (link_of other)) refl (none others (λ i r at. differ (suc i) r at))
        where
          by : (b : Bool) → is_same_link (link_of row) (link_of other) ≡ b → list_any (is_same_link (link_of row)) (map link_of others) ≡ false → (b || list_any (is_same_link (link_of row)) (map link_of others)) ≡ false
          by true e rest = absurd (differ 0 other refl e)
          by false e rest = rest

  -- a row's link goes behind those of the rows before it
  pub more_links : (links added : List Link) (k : ℕ) (d : Row) → k < length rows → links ≡ map link_of (take k rows) → added ≡ insert_key is_same_link links (link_of (get_or rows k d)) → added ≡ map link_of (take (k + 1) rows)
  more_links links added k d low before then =
      let row = get_or rows k d in
      let new = fresh k row (at_place rows k d low) k (omega arith) in
      then ∙ ap (λ l. insert_key is_same_link l (link_of row)) before
      ∙ ap (λ b. cond b (map link_of (take k rows)) (map link_of (take k rows) ++ link_of row ∷ [])) new
      ∙ sym (map-append link_of (take k rows) (row ∷ []))
      ∙ ap (λ l. map link_of l) (sym (take_more rows k d low))
