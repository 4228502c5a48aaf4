-- A compare-exchange in a search keeps the rules, and shows what it should.
use Rattle.std.proofs.Common.{◌≡◌, ◌≢◌, ℕ, ◌+◌, ◌<◌, ◌==◌, length, set, Some, refl, sym, ap, ◌∙◌, subst, arith, eqb, eq-eqb, ne_eqb}
use Rattle.std.proofs.lemmas.List.{set-get_or}
use Rattle.std.specs.Prelude.{slice_index}
use mathlib.Core.Logic.{dite}
use native.Mathlib.Decide.{ℕ_discrete}
use prog.Atomic.{either}
use Rattle.std.specs.FinMap.{get}
use Rattle.atomic_table.specs.Table.{Me, Allows, keeps}
use Rattle.dd_table.specs.declared.views.View.{View}
use Rattle.dd_table.specs.declared.rule.Sizes.{Sizes}
use Rattle.dd_table.specs.Layout.{walk_slot, node_in_word}
use Rattle.dd_table.specs.Views.{met_view, found_view, made_view}
use Rattle.dd_table.specs.Rules.{IsView, KeepsRules, RulesHold}
use Rattle.dd_table.specs.Tells.{TryTells, MayMake, HasWalked}
use Rattle.dd_table.proofs.Walks.{walk_lt}
use Rattle.dd_table.proofs.OneView.{words_kept, sizes_of, view_kept, view_met, view_found}
use Rattle.dd_table.proofs.StepsKeep.{no_word, writes}
use Rattle.dd_table.proofs.Tellings.{told_after, not_held, more_after}

pub tries : (k : Sizes) (z id : ℕ) (m : Me Unit View) (w n i : ℕ) → 0 < m.0.slots → MayMake m.0 w → length m.0.made < m.0.limit → HasWalked m.0 w n → i ≡ walk_slot m.0.slots w n
    → Allows (RulesHold k) z id m i (λ x. either (x == 0) w x) (TryTells i w m)
tries k z id m w n i live may left walked at_i s h homes at wide =
    let v = m.0 in
    let view = h.views id v at in
    let sizes = sizes_of k.vars k.slots s.words v view live in
    let is_i : i ≡ walk_slot k.slots w n = at_i ∙ ap (λ (y : ℕ). walk_slot y w n) sizes.1 in
    let x = slice_index s.words i in
    let seen : (j : ℕ) → j < n → (u : ℕ) × (get v.met (walk_slot k.slots w j) ≡ Some u) × (u ≢ w) = λ j lt.
    subst (λ (y : ℕ). (u : ℕ) × (get v.met (walk_slot y w j) ≡ Some u) × (u ≢ w)) sizes.1 (walked.others j lt) in
    let two = h.two in
    let in' : i < k.slots = subst (λ (y : ℕ). y < k.slots) (sym is_i) (walk_lt k.slots w n (omega arith)) in
    dite (ℕ_discrete x 0)
    (λ empty'.
    let f : either (eqb x 0) w x ≡ w = ap (λ b. either b w x) (eq-eqb x 0 empty') in
    let v' = made_view v i w in
    let empty_there = ap (slice_index s.words) (sym is_i) ∙ empty' in
    let within : n < k.slots = let a = walked.within in let b = sizes.1 in omega arith in
    let kept : KeepsRules k.vars k.slots (set s.words i w) (set s.views id v') =
    subst (λ (y : ℕ). KeepsRules k.vars k.slots (set s.words y w) (set s.views id (made_view v y w))) (sym is_i)
    (writes k.vars k.slots s.words s.views id v w n h at sizes may left within seen empty_there) in
    let view' = view_kept k.vars k.slots s.words (set s.words i w) v (words_kept s.words i w empty') view in (
      v',
      keeps,
      tt,
      subst (λ (y : ℕ). KeepsRules k.vars k.slots (set s.words i y) (set s.views id v')) (sym f) kept,
      (
        refl,
        told_after k.vars k.slots _ s.views id v v' at kept live,
        (λ _. (refl, not_held k.vars k.slots s.words s.views v w n h view seen empty_there)),
        (λ ne. absurd (ne empty')),
        (λ ne. absurd (ne empty')),
        more_after k.vars k.slots (set s.words i w) s.views id v v' (i + 2) (node_in_word w) view' at kept refl,
      ),
    ))
    (λ full.
    let f : either (eqb x 0) w x ≡ x = ap (λ b. either b w x) (ne_eqb x 0 full) in
    let stays : set s.words i (either (eqb x 0) w x) ≡ s.words = ap (set s.words i) f ∙ set-get_or s.words i 0 in
    dite (ℕ_discrete x w)
    (λ is.
    let v' = found_view v i x in
    let found = view_found k.vars k.slots s.words v i w view sizes in' is may in
    let kept : KeepsRules k.vars k.slots s.words (set s.views id v') =
    no_word k.vars k.slots s.words s.views id v v' h at
    (subst (λ (y : ℕ). IsView k.vars k.slots s.words (found_view v i y)) (sym is) found) refl refl in (
      v',
      keeps,
      tt,
      subst (λ ws. KeepsRules k.vars k.slots ws (set s.views id v')) (sym stays) kept,
      (
        refl,
        told_after k.vars k.slots s.words s.views id v v' at kept live,
        (λ e. absurd (full e)),
        (λ _ _. refl),
        (λ _ ne. absurd (ne is)),
        more_after k.vars k.slots s.words s.views id v v' (i + 2) (node_in_word x) view at kept refl,
      ),
    ))
    (λ other.
    let v' = met_view v i x in
    let met = view_met k.vars k.slots s.words v i view sizes in' full in
    let kept : KeepsRules k.vars k.slots s.words (set s.views id v') = no_word k.vars k.slots s.words s.views id v v' h at met refl refl in (
      v',
      keeps,
      tt,
      subst (λ ws. KeepsRules k.vars k.slots ws (set s.views id v')) (sym stays) kept,
      (
        refl,
        told_after k.vars k.slots s.words s.views id v v' at kept live,
        (λ e. absurd (full e)),
        (λ _ e. absurd (other e)),
        (λ _ _. refl),
        (λ q m e. e),
      ),
    )))
