-- The first double name, in terms of places.
use Rattle.std.proofs.Common.{◌≡◌, ◌<◌, ℕ, zero, suc, List, [], ◌∷◌, ◌++◌, Bool, true, false, Option, Some, None, arith, refl, sym, ap, ◌∙◌, inl, inr, eqb-true, eq-eqb}
use Rattle.std.specs.Prelude.{◌⊎◌, nat_eq, slice_get, ◌||◌}
use Rattle.std.specs.List.{list_any}
use Rattle.std.proofs.lemmas.List.Folds.{list_any-append}
use Rattle.clock_step.specs.Order.{first_double_net, is_among, nets_with}
use Rattle.clock_step.specs.Rules.{FirstDoubleIsLeast, IsDouble, net_at}

module _ (net_of : List ℕ → Option ℕ) where
  -- the name at place k names one of these nets, or one that an earlier name names
  abbrev DoubleIn : List ℕ → List (List ℕ) → ℕ → Type 0
  DoubleIn nets names k = (net : ℕ) × (net_at net_of names k ≡ Some net) × ((list_any (nat_eq net) nets ≡ true) ⊎ ((j : ℕ) × (j < k) × (net_at net_of names j ≡ Some net)))

  record FirstIn (nets : List ℕ) (names : List (List ℕ)) (name : List ℕ) : Type 0 where
    place : ℕ
    here : slice_get names place ≡ Some name
    double : DoubleIn nets names place
    least : (k : ℕ) → k < place → DoubleIn nets names k → ⊥

  same_some : (net other : ℕ) → Some net ≡ Some other → net ≡ other
  same_some net other e = cc

  old_or_last : (net last : ℕ) (nets : List ℕ) (b : Bool) → list_any (nat_eq net) nets ≡ b → list_any (nat_eq net) (nets ++ last ∷ []) ≡ true → (list_any (nat_eq net) nets ≡ true) ⊎ (net ≡ last)
  old_or_last net last nets true e t = inl e
  old_or_last net last nets false e t = inr (eqb-true net last (by (nat_eq net last) (sym (ap (λ (c : Bool). c || (nat_eq net last || false)) e) ∙ sym (list_any-append (nat_eq net) nets (last ∷ [])) ∙ t)))
    where
      by : (c : Bool) → (false || (c || false)) ≡ true → c ≡ true
      by true h = refl
      by false h = absurd (cc h)

  with_last : (net last : ℕ) (nets : List ℕ) → list_any (nat_eq net) nets ≡ true → list_any (nat_eq net) (nets ++ last ∷ []) ≡ true
  with_last net last nets t = list_any-append (nat_eq net) nets (last ∷ []) ∙ rw t refl

  at_last : (net : ℕ) (nets : List ℕ) → list_any (nat_eq net) (nets ++ net ∷ []) ≡ true
  at_last net nets = list_any-append (nat_eq net) nets (net ∷ []) ∙ rw (eq-eqb net net refl) (by (list_any (nat_eq net) nets))
    where
      by : (b : Bool) → (b || true) ≡ true
      by true = refl
      by false = refl

  -- behind a name its net is one of the nets
  behind : (nets : List ℕ) (name : List ℕ) (names : List (List ℕ)) (k : ℕ) (o : Option ℕ) → net_of name ≡ o → DoubleIn (nets_with nets o) names k → DoubleIn nets (name ∷ names) (suc k)
  behind nets name names k o e (net, at, inr earlier) = (net, at, inr (suc earlier.0, let less = earlier.1 in omega arith, earlier.2))
  behind nets name names k None e (net, at, inl t) = (net, at, inl t)
  behind nets name names k (Some last) e (net, at, inl t) = elim (old_or_last net last nets (list_any (nat_eq net) nets) refl t) [
    | inl old ↦ (net, at, inl old)
    | inr same ↦ (net, at, inr (0, omega arith, e ∙ ap Some (sym same)))
  ]

  before : (nets : List ℕ) (name : List ℕ) (names : List (List ℕ)) (k : ℕ) (o : Option ℕ) → net_of name ≡ o → DoubleIn nets (name ∷ names) (suc k) → DoubleIn (nets_with nets o) names k
  before nets name names k None e (net, at, inl t) = (net, at, inl t)
  before nets name names k (Some last) e (net, at, inl t) = (net, at, inl (with_last net last nets t))
  before nets name names k None e (net, at, inr (zero, less, f)) = absurd (cc (e, f))
  before nets name names k (Some last) e (net, at, inr (zero, less, f)) = (net, at, inl (rw (same_some last net (sym e ∙ f)) (at_last net nets)))
  before nets name names k o e (net, at, inr (suc j, less, f)) = (net, at, inr (j, omega arith, f))

  -- the first name alone
  at_first : (nets : List ℕ) (name : List ℕ) (names : List (List ℕ)) → DoubleIn nets (name ∷ names) 0 → is_among nets (net_of name) ≡ true
  at_first nets name names (net, at, inl t) = rw at t
  at_first nets name names (net, at, inr (j, less, f)) = absurd (omega arith)

  first_at : (nets : List ℕ) (name : List ℕ) (names : List (List ℕ)) (o : Option ℕ) → net_of name ≡ o → is_among nets o ≡ true → DoubleIn nets (name ∷ names) 0
  first_at nets name names None e t = absurd (cc t)
  first_at nets name names (Some net) e t = (net, e, inl t)

  some_with : (nets : List ℕ) (name found : List ℕ) (names : List (List ℕ)) (b : Bool) → is_among nets (net_of name) ≡ b → first_double_net net_of nets (name ∷ names) ≡ Some found → (first_double_net net_of (nets_with nets (net_of name)) names ≡ Some found → FirstIn (nets_with nets (net_of name)) names found) → FirstIn nets (name ∷ names) found
  some_with nets name found names true t e rest =
      let is : Some name ≡ Some found = rw t at e in record {
        place = 0;
        here = is;
        double = first_at nets name names (net_of name) refl t;
        least = λ k less h. absurd (omega arith);
      }
  some_with nets name found names false f e rest =
      let later = rest (rw f at e) in record {
        place = suc later.place;
        here = later.here;
        double = behind nets name names later.place (net_of name) refl later.double;
        least = least later;
      }
    where
      least : (later : FirstIn (nets_with nets (net_of name)) names found) → (k : ℕ) → k < suc later.place → DoubleIn nets (name ∷ names) k → ⊥
      least later zero less h = absurd (cc (at_first nets name names h, f))
      least later (suc k) less h = later.least k (omega arith) (before nets name names k (net_of name) refl h)

  some_first : (names : List (List ℕ)) (nets : List ℕ) (found : List ℕ) → first_double_net net_of nets names ≡ Some found → FirstIn nets names found
  some_first [] nets found e = absurd (cc e)
  some_first (name ∷ names) nets found e = some_with nets name found names (is_among nets (net_of name)) refl e (some_first names (nets_with nets (net_of name)) found)

  none_with : (nets : List ℕ) (name : List ℕ) (names : List (List ℕ)) (b : Bool) → is_among nets (net_of name) ≡ b → first_double_net net_of nets (name ∷ names) ≡ None → (first_double_net net_of (nets_with nets (net_of name)) names ≡ None → (k : ℕ) → DoubleIn (nets_with nets (net_of name)) names k → ⊥) → (k : ℕ) → DoubleIn nets (name ∷ names) k → ⊥
  none_with nets name names true t e rest k h = let is : Some name ≡ None = rw t at e in absurd (cc is)
  none_with nets name names false f e rest zero h = absurd (cc (at_first nets name names h, f))
  none_with nets name names false f e rest (suc k) h = rest (rw f at e) k (before nets name names k (net_of name) refl h)

  none_first : (names : List (List ℕ)) (nets : List ℕ) → first_double_net net_of nets names ≡ None → (k : ℕ) → DoubleIn nets names k → ⊥
  none_first [] nets e k h = absurd (cc h.1)
  none_first (name ∷ names) nets e k h = none_with nets name names (is_among nets (net_of name)) refl e (none_first names (nets_with nets (net_of name))) k h

  plain : (names : List (List ℕ)) (k : ℕ) → DoubleIn [] names k → IsDouble net_of names k
  plain names k (net, at, inl t) = absurd (cc t)
  plain names k (net, at, inr earlier) = (earlier.0, net, earlier.1, earlier.2, at)

  tied : (names : List (List ℕ)) (k : ℕ) → IsDouble net_of names k → DoubleIn [] names k
  tied names k (j, net, less, first, second) = (net, second, inr (j, less, first))

pub first_double_is_least : FirstDoubleIsLeast
first_double_is_least = record {
  some = λ net_of names name e.
      let found = some_first net_of names [] name e in record {
        place = found.place;
        here = found.here;
        double = plain net_of names found.place found.double;
        least = λ k less h. found.least k less (tied net_of names k h);
      };
  none = λ net_of names e k h. none_first net_of names [] e k (tied net_of names k h);
}
