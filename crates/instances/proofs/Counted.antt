-- The numbers that an instance's signals are given are those of their nets.
use Rattle.std.proofs.Common.{◌≡◌, ℕ, zero, suc, ◌+◌, ◌<◌, ◌≤◌, Bool, true, false, not, cond, List, [], ◌∷◌, ◌++◌, map, length, length-append, take, drop, get_or, Option, None, Some, slice_get, arith, refl, sym, ap, ◌∙◌, subst, append_assoc, append-nil}
use Rattle.std.specs.Prelude.{filter, flat_map, is_none, is_some, option_map, count_by}
use Rattle.std.specs.Option.{option_map_or}
use Rattle.std.specs.List.{position_or_len}
use Rattle.std.proofs.lemmas.List.{length_push, map-append, take_more}
use Rattle.std.proofs.lemmas.Grind.{flat_map-append}
use Rattle.std.proofs.lemmas.List.Sums.{sum_by-cons}
use Rattle.blif_syntax.specs.declared.models.Model.{Model}
use Rattle.hierarchy.specs.Lines.{signals}
use Rattle.hierarchy.specs.Instances.{bound_to, had_by, instances, is_bound, model_at}
use Rattle.hierarchy.specs.Nets.{InstanceSignal, home, is_same_signal, nets, number_at, own_nets}
use Rattle.hierarchy.specs.Names.{own_name, path_text}
use Rattle.instances.specs.Numbers.{numbers_from, numbers_in, own_names_in}
use Rattle.instances.proofs.NoRepeats.{number_of_net}

at_end : {X : Type 0} (before rest : List X) (x d : X) → (length before < length (before ++ x ∷ rest)) × (get_or (before ++ x ∷ rest) (length before) d ≡ x)
at_end [] rest x d = (omega arith, refl)
at_end (b ∷ before) rest x d = let r = at_end before rest x d in (omega arith, r.1)

-- the number of the net of the actual that is bound to a signal, where one is
abbrev pub bound_net : List Model → List ℕ → List ℕ → Option ℕ
bound_net models [] signal = None
bound_net models (number ∷ above) signal = option_map (λ actual. number_at models above actual) (bound_to models above number signal)

one_more : (n : ℕ) → 1 + n ≡ suc n
one_more n = omega arith

zero_more : (n : ℕ) → 0 + n ≡ n
zero_more n = omega arith

module _ (models : List Model) (path : List ℕ) where
  abbrev at : List ℕ → InstanceSignal
  at signal = record { path = path; signal = signal }

  abbrev own : List (List ℕ) → List InstanceSignal
  own words = map at (filter (λ signal. not (is_bound models path signal)) words)

  bound_is : (signal : List ℕ) (number : ℕ) → bound_net models path signal ≡ Some number → (is_bound models path signal ≡ true) × (number ≡ number_at models path signal)
  bound_is signal number e = by path e
    where
      by : (p : List ℕ) → bound_net models p signal ≡ Some number → (is_bound models p signal ≡ true) × (number ≡ number_at models p signal)
      by [] e = absurd (cc)
      by (n ∷ above) e = of (bound_to models above n signal) e
        where
          of : (o : Option (List ℕ)) → option_map (λ actual. number_at models above actual) o ≡ Some number → (is_some o ≡ true) × (number ≡ position_or_len (λ net. is_same_signal (option_map_or (λ actual. home models above actual) o (record { path = n ∷ above; signal = signal })) net) (nets models))
          of None e = absurd (cc)
          of (Some actual) e = (refl, cc)

  free_is : (signal : List ℕ) → bound_net models path signal ≡ None → (is_bound models path signal ≡ false) × (home models path signal ≡ at signal)
  free_is signal e = by path e
    where
      by : (p : List ℕ) → bound_net models p signal ≡ None → (is_bound models p signal ≡ false) × (home models p signal ≡ record { path = p; signal = signal })
      by [] e = (refl, refl)
      by (n ∷ above) e = of (bound_to models above n signal) e
        where
          of : (o : Option (List ℕ)) → option_map (λ actual. number_at models above actual) o ≡ None → (is_some o ≡ false) × (option_map_or (λ actual. home models above actual) o (record { path = n ∷ above; signal = signal }) ≡ record { path = n ∷ above; signal = signal })
          of None e = (refl, refl)
          of (Some actual) e = absurd (cc)

  -- what stands in the list of nets behind so many others has that number
  number_is : (signal : List ℕ) (before rest : List InstanceSignal) → home models path signal ≡ at signal → nets models ≡ before ++ at signal ∷ rest → length before ≡ number_at models path signal
  number_is signal before rest free e =
      let here = at_end before rest (at signal) (at signal) in
      let low : length before < length (nets models) = subst (λ l. length before < length l) (sym e) here.0 in
      let there : get_or (nets models) (length before) (at signal) ≡ at signal = subst (λ l. get_or l (length before) (at signal) ≡ at signal) (sym e) here.1 in
      sym (number_of_net models (length before) (at signal) low)
      ∙ ap (λ p. position_or_len (λ net. is_same_signal (home models p.path p.signal) net) (nets models)) there

  numbered : (words : List (List ℕ)) (before after : List InstanceSignal) → nets models ≡ before ++ (own words ++ after) → numbers_from (length before) (map (bound_net models path) words) ≡ map (λ signal. number_at models path signal) words
  numbered [] before after e = refl
  numbered (s ∷ words) before after e = by (bound_net models path s) refl (λ b f. numbered words b after f)
    where
      by : (o : Option ℕ) → bound_net models path s ≡ o → ((b : List InstanceSignal) → nets models ≡ b ++ (own words ++ after) → numbers_from (length b) (map (bound_net models path) words) ≡ map (λ signal. number_at models path signal) words) → numbers_from (length before) (o ∷ map (bound_net models path) words) ≡ number_at models path s ∷ map (λ signal. number_at models path signal) words
      by (Some number) is again =
          let b = bound_is s number is in
          let e' : nets models ≡ before ++ (own words ++ after) = subst (λ (t : Bool). nets models ≡ before ++ (map at (cond (not t) (s ∷ filter (λ signal. not (is_bound models path signal)) words) (filter (λ signal. not (is_bound models path signal)) words)) ++ after)) b.0 e in
          ap (λ n. n ∷ numbers_from (length before) (map (bound_net models path) words)) b.1 ∙ ap (λ l. number_at models path s ∷ l) (again before e')
      by None is again =
          let f = free_is s is in
          let e' : nets models ≡ before ++ at s ∷ (own words ++ after) = subst (λ (t : Bool). nets models ≡ before ++ (map at (cond (not t) (s ∷ filter (λ signal. not (is_bound models path signal)) words) (filter (λ signal. not (is_bound models path signal)) words)) ++ after)) f.0 e in
          let next : length (before ++ at s ∷ []) ≡ length before + 1 = let l = length_push before (at s) in omega arith in
          ap (λ n. n ∷ numbers_from (length before + 1) (map (bound_net models path) words)) (number_is s before (own words ++ after) f.1 e')
          ∙ ap (λ l. number_at models path s ∷ l) (ap (λ n. numbers_from n (map (bound_net models path) words)) (sym next) ∙ again (before ++ at s ∷ []) (e' ∙ sym (append_assoc before (at s ∷ []) (own words ++ after))))

  counted : (words : List (List ℕ)) → count_by is_none (map (bound_net models path) words) ≡ length (own words)
  counted [] = refl
  counted (s ∷ words) = by (bound_net models path s) refl (counted words)
    where
      by : (o : Option ℕ) → bound_net models path s ≡ o → count_by is_none (map (bound_net models path) words) ≡ length (own words) → count_by is_none (o ∷ map (bound_net models path) words) ≡ length (map at (cond (not (is_bound models path s)) (s ∷ filter (λ signal. not (is_bound models path signal)) words) (filter (λ signal. not (is_bound models path signal)) words)))
      by (Some number) is again = subst (λ (t : Bool). count_by is_none (Some number ∷ map (bound_net models path) words) ≡ length (map at (cond (not t) (s ∷ filter (λ signal. not (is_bound models path signal)) words) (filter (λ signal. not (is_bound models path signal)) words)))) (sym (bound_is s number is).0) (sum_by-cons (λ (o : Option ℕ). cond (is_none o) 1 0) (Some number) (map (bound_net models path) words) ∙ zero_more (count_by is_none (map (bound_net models path) words)) ∙ again)
      by None is again = subst (λ (t : Bool). count_by is_none (None ∷ map (bound_net models path) words) ≡ length (map at (cond (not t) (s ∷ filter (λ signal. not (is_bound models path signal)) words) (filter (λ signal. not (is_bound models path signal)) words)))) (sym (free_is s is).0) (sum_by-cons (λ (o : Option ℕ). cond (is_none o) 1 0) None (map (bound_net models path) words) ∙ ap (λ n. 1 + n) again ∙ one_more (length (own words)))

  -- the own names of what is not bound are those of the nets that it makes
  named : (words : List (List ℕ)) → own_names_in (path_text path) words (map (bound_net models path) words) ≡ map own_name (own words)
  named [] = refl
  named (s ∷ words) = by (bound_net models path s) refl (named words)
    where
      by : (o : Option ℕ) → bound_net models path s ≡ o → own_names_in (path_text path) words (map (bound_net models path) words) ≡ map own_name (own words) → own_names_in (path_text path) (s ∷ words) (o ∷ map (bound_net models path) words) ≡ map own_name (map at (cond (not (is_bound models path s)) (s ∷ filter (λ signal. not (is_bound models path signal)) words) (filter (λ signal. not (is_bound models path signal)) words)))
      by (Some number) is again = subst (λ (t : Bool). own_names_in (path_text path) words (map (bound_net models path) words) ≡ map own_name (map at (cond (not t) (s ∷ filter (λ signal. not (is_bound models path signal)) words) (filter (λ signal. not (is_bound models path signal)) words)))) (sym (bound_is s number is).0) again
      by None is again = subst (λ (t : Bool). (path_text path ++ s) ∷ own_names_in (path_text path) words (map (bound_net models path) words) ≡ map own_name (map at (cond (not t) (s ∷ filter (λ signal. not (is_bound models path signal)) words) (filter (λ signal. not (is_bound models path signal)) words)))) (sym (free_is s is).0) (ap (λ l. (path_text path ++ s) ∷ l) again)

split_at : {X : Type 0} (xs : List X) (k : ℕ) (x : X) → slice_get xs k ≡ Some x → xs ≡ take k xs ++ x ∷ drop (suc k) xs
split_at [] k x e = absurd (cc)
split_at (y ∷ xs) zero x e = ap (λ z. z ∷ xs) (one y x e)
  where
    one : {X : Type 0} (y x : X) → Some y ≡ Some x → y ≡ x
    one y x e = cc
split_at (y ∷ xs) (suc k) x e = ap (λ l. y ∷ l) (split_at xs k x e)

from_get : {X : Type 0} (xs : List X) (k : ℕ) (x : X) → slice_get xs k ≡ Some x → (k < length xs) × (get_or xs k x ≡ x)
from_get [] k x e = absurd (cc)
from_get (y ∷ xs) zero x e = (omega arith, one y x e)
  where
    one : {X : Type 0} (y x : X) → Some y ≡ Some x → y ≡ x
    one y x e = cc
from_get (y ∷ xs) (suc k) x e = let r = from_get xs k x e in (omega arith, r.1)

pub take_next : {X : Type 0} (xs : List X) (k : ℕ) (x : X) → slice_get xs k ≡ Some x → take (k + 1) xs ≡ take k xs ++ x ∷ []
take_next xs k x e = let at = from_get xs k x e in take_more xs k x at.0 ∙ ap (λ y. take k xs ++ y ∷ []) at.1

module _ (models : List Model) (k : ℕ) (path : List ℕ) (here : slice_get (instances models) k ≡ Some path) where
  -- the nets of the instances before it, its own, and the others
  nets_split : nets models ≡ flat_map (λ p. own_nets models p) (take k (instances models)) ++ (own_nets models path ++ flat_map (λ p. own_nets models p) (drop (suc k) (instances models)))
  nets_split = ap (λ l. flat_map (λ p. own_nets models p) l) (split_at (instances models) k path here)
      ∙ flat_map-append (λ p. own_nets models p) (take k (instances models)) (path ∷ drop (suc k) (instances models))

  before_next : flat_map (λ p. own_nets models p) (take (k + 1) (instances models)) ≡ flat_map (λ p. own_nets models p) (take k (instances models)) ++ own_nets models path
  before_next =
      ap (λ l. flat_map (λ p. own_nets models p) l) (take_next (instances models) k path here)
      ∙ flat_map-append (λ p. own_nets models p) (take k (instances models)) (path ∷ [])
      ∙ ap (λ l. flat_map (λ p. own_nets models p) (take k (instances models)) ++ l) (append-nil (own_nets models path))

  module _ (model : Model) (has : model_at models path ≡ Some model) (next : ℕ) (is : next ≡ length (flat_map (λ p. own_nets models p) (take k (instances models)))) (bounds : List (Option ℕ)) (bound : bounds ≡ map (bound_net models path) (signals model)) where
    own_is : own_nets models path ≡ own models path (signals model)
    own_is = ap (λ m. own models path (had_by signals m)) has

    -- an instance's signals, counted on from the nets before, have the numbers of their nets
    pub numbers_are : numbers_from next bounds ≡ numbers_in models path
    numbers_are =
        ap (λ n. numbers_from n bounds) is
        ∙ ap (λ b. numbers_from (length (flat_map (λ p. own_nets models p) (take k (instances models)))) b) bound
        ∙ numbered models path (signals model) (flat_map (λ p. own_nets models p) (take k (instances models))) (flat_map (λ p. own_nets models p) (drop (suc k) (instances models)))
        (nets_split ∙ ap (λ o. flat_map (λ p. own_nets models p) (take k (instances models)) ++ (o ++ flat_map (λ p. own_nets models p) (drop (suc k) (instances models)))) own_is)
        ∙ ap (λ m. map (λ signal. number_at models path signal) (had_by signals m)) (sym has)

    pub next_is : next + count_by is_none bounds ≡ length (flat_map (λ p. own_nets models p) (take (k + 1) (instances models)))
    next_is =
        let a : length (flat_map (λ p. own_nets models p) (take (k + 1) (instances models))) ≡ length (flat_map (λ p. own_nets models p) (take k (instances models))) + length (own_nets models path) = ap (λ l. length l) before_next ∙ length-append (flat_map (λ p. own_nets models p) (take k (instances models))) (own_nets models path) in
        let b : count_by is_none bounds ≡ length (own_nets models path) = ap (λ l. count_by is_none l) bound ∙ counted models path (signals model) ∙ ap (λ l. length l) (sym own_is) in
        let c = is in
        omega (arith, a, b, c)

    pub next_fits : next + count_by is_none bounds ≤ length (nets models)
    next_fits =
        let a : length (nets models) ≡ length (flat_map (λ p. own_nets models p) (take k (instances models))) + length (own_nets models path ++ flat_map (λ p. own_nets models p) (drop (suc k) (instances models))) = ap (λ l. length l) nets_split ∙ length-append (flat_map (λ p. own_nets models p) (take k (instances models))) (own_nets models path ++ flat_map (λ p. own_nets models p) (drop (suc k) (instances models))) in
        let d = length-append (own_nets models path) (flat_map (λ p. own_nets models p) (drop (suc k) (instances models))) in
        let b : count_by is_none bounds ≡ length (own_nets models path) = ap (λ l. count_by is_none l) bound ∙ counted models path (signals model) ∙ ap (λ l. length l) (sym own_is) in
        let c = is in
        omega (arith, a, b, c, d)

    pub names_are : map own_name (flat_map (λ p. own_nets models p) (take k (instances models))) ++ own_names_in (path_text path) (signals model) bounds ≡ map own_name (flat_map (λ p. own_nets models p) (take (k + 1) (instances models)))
    names_are =
        ap (λ l. map own_name (flat_map (λ p. own_nets models p) (take k (instances models))) ++ l)
        (ap (λ b. own_names_in (path_text path) (signals model) b) bound ∙ named models path (signals model) ∙ ap (λ o. map own_name o) (sym own_is))
        ∙ sym (map-append own_name (flat_map (λ p. own_nets models p) (take k (instances models))) (own_nets models path))
        ∙ ap (λ l. map own_name l) (sym before_next)
