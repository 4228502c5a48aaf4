-- What is left of a bit behind cuts that were put in its place, one after another.
use Rattle.std.proofs.Common.{◌≡◌, ◌≢◌, ℕ, ◌+◌, ◌<◌, ◌≤◌, Bool, true, false, List, [], ◌∷◌, ◌++◌, map, take, length, get_or, arith, sym, ap, refl, subst, ◌∙◌, inl, inr, eq-eqb, eqb-true}
use Rattle.std.specs.Prelude.{IsTrue, ◌&&◌, ◌==◌, if◌then◌else◌}
use Rattle.std.proofs.lemmas.Bool.{and_from, and_parts}
use Rattle.std.proofs.lemmas.List.{get_or_append_left, length-append, map_more, take_all}
use Rattle.std.proofs.lemmas.List.Elements.{All-contains, All-push}
use Rattle.std.proofs.lemmas.List.Quantifiers.{Any-push}
use Rattle.net_core.specs.Run.{Cut}
use Rattle.net_core.specs.Possible.{IsLeft}
use Rattle.ste_model.specs.Shown.{IsOpen}
use Rattle.counter_run.specs.Along.{DoAgree}
use Rattle.counter_run.specs.private.Asking.{IsAskedFor, IsAskedOr, after_cut}

-- ---- one more cut

asked_longer : (cuts : List Cut) (cut : Cut) (id : ℕ) (bit : Bool) → IsAskedFor cuts id bit → IsAskedFor (cuts ++ cut ∷ []) id bit
asked_longer cuts cut id bit asked =
    let long = length-append cuts (cut ∷ []) in
    (asked.0, asked.1, omega arith, get_or_append_left cuts (cut ∷ []) asked.1 asked.0 asked.2 ∙ asked.3, asked.4)

asked_more : (cuts : List Cut) (cut : Cut) (id : ℕ) (other old new : Bool) → new ≡ after_cut cut id old → IsAskedOr cuts id other old → IsAskedOr (cuts ++ cut ∷ []) id other new
asked_more cuts cut id other old new after before = by (cut.on && (cut.node == id)) refl before
  where
    by : (b : Bool) → (cut.on && (cut.node == id)) ≡ b → IsAskedOr cuts id other old → IsAskedOr (cuts ++ cut ∷ []) id other new
    by true e before =
        let parts = and_parts cut.on _ e in
        let here : new ≡ cut.value = after ∙ ap (λ (c : Bool). if c then cut.value else old) e in
        inl (Any-push (λ c. IsTrue c.on × (c.node ≡ id) × (c.value ≡ new)) cuts cut (parts.0, eqb-true cut.node id parts.1, sym here))
    by false e (inl asked) =
        let same : new ≡ old = after ∙ ap (λ (c : Bool). if c then cut.value else old) e in
        subst (λ (b : Bool). IsAskedOr (cuts ++ cut ∷ []) id other b) (sym same) (inl (asked_longer cuts cut id old asked))
    by false e (inr none) =
        let same : new ≡ old = after ∙ ap (λ (c : Bool). if c then cut.value else old) e in
        let here : IsTrue cut.on → cut.node ≢ id = λ on at. let both = and_from cut.on (cut.node == id) on (eq-eqb cut.node id at) in cc (e, both) in
        inr (All-push (λ c. IsTrue c.on → c.node ≢ id) cuts cut none.0 here, same ∙ none.1)

-- one thing more that asks
pub asked_turn : {X : Type 0} (at : X → Cut) (xs : List X) (n id : ℕ) (x : X) (other old new : Bool) → n < length xs → x ≡ get_or xs n x → new ≡ after_cut (at x) id old → IsAskedOr (map at (take n xs)) id other old → IsAskedOr (map at (take (n + 1) xs)) id other new
asked_turn at xs n id x other old new l is after before =
    subst (λ (cuts : List Cut). IsAskedOr cuts id other new) (sym (map_more at xs n x l ∙ ap (λ y. map at (take n xs) ++ at y ∷ []) (sym is)))
    (asked_more (map at (take n xs)) (at x) id other old new after before)

-- they are all
pub asked_all : {X : Type 0} (at : X → Cut) (xs : List X) (n id : ℕ) (other bit : Bool) → length xs ≤ n → IsAskedOr (map at (take n xs)) id other bit → IsAskedOr (map at xs) id other bit
asked_all at xs n id other bit l asked = subst (λ ys. IsAskedOr (map at ys) id other bit) (take_all n xs l) asked

-- ---- what is asked

-- what is asked for is what is left
pub asked_left : (cuts : List Cut) (id : ℕ) (bit left : Bool) → IsAskedFor cuts id bit → IsLeft cuts id left → bit ≡ left
asked_left cuts id bit left asked all =
    sym asked.4.2 ∙ All-contains (λ cut. IsTrue cut.on → cut.node ≡ id → cut.value ≡ left) cuts asked.1 all (asked.0, asked.2, asked.3) asked.4.0 asked.4.1

-- where nothing is asked each bit is left
pub left_open : (cuts : List Cut) (id : ℕ) (bit : Bool) → IsOpen cuts id → IsLeft cuts id bit
left_open cuts id bit none k d l on at = absurd (none k d l on at)

-- a bit that is asked for, or nothing is, agrees with all that is asked
pub left_by : (cuts : List Cut) (id : ℕ) (other bit left : Bool) → IsLeft cuts id left → IsAskedOr cuts id other bit → IsLeft cuts id bit
left_by cuts id other bit left all (inl asked) = subst (IsLeft cuts id) (sym (asked_left cuts id bit left asked all)) all
left_by cuts id other bit left all (inr none) = left_open cuts id bit none.0

-- the same where no net is asked for both bits
pub left_agreed : (cuts : List Cut) (id : ℕ) (other bit : Bool) → DoAgree cuts → IsAskedOr cuts id other bit → IsLeft cuts id bit
left_agreed cuts id other bit agree (inl asked) k d l on at =
    All-contains (λ cut. IsTrue (get_or cuts k d).on → IsTrue cut.on → (get_or cuts k d).node ≡ cut.node → (get_or cuts k d).value ≡ cut.value) cuts asked.1 (agree k d l) (asked.0, asked.2, asked.3) on asked.4.0 (at ∙ sym asked.4.1) ∙ asked.4.2
left_agreed cuts id other bit agree (inr none) k d l on at = left_open cuts id bit none.0 k d l on at

-- a bit is asked for only where something is asked
pub asked_not_open : (cuts : List Cut) (id : ℕ) (bit : Bool)
    → IsAskedFor cuts id bit → ¬ IsOpen cuts id
asked_not_open cuts id bit asked none =
    All-contains (λ cut. IsTrue cut.on → cut.node ≢ id) cuts asked.1 none
    (asked.0, asked.2, asked.3) asked.4.0 asked.4.1

-- where nothing is asked of the net the bit is the other one
pub open_by : (cuts : List Cut) (id : ℕ) (other bit : Bool) → IsOpen cuts id → IsAskedOr cuts id other bit → bit ≡ other
open_by cuts id other bit none (inl asked) = absurd (asked_not_open cuts id bit asked none)
open_by cuts id other bit none (inr all) = all.1
