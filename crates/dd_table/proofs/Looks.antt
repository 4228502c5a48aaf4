-- A load keeps the rules, and shows what it should: in a search where no step is left, and of a slot that is held.
use Rattle.std.proofs.Common.{◌≡◌, ◌≢◌, ℕ, ◌+◌, ◌<◌, set, Some, refl, sym, ap, ◌∙◌, subst, arith}
use Rattle.std.proofs.lemmas.List.{set-get_or}
use Rattle.std.specs.Prelude.{slice_index}
use mathlib.Core.Logic.{dite}
use native.Mathlib.Decide.{ℕ_discrete}
use Rattle.std.specs.FinMap.{get}
use Rattle.atomic_table.specs.Table.{Me, Allows, keeps}
use Rattle.atomic_table.proofs.Lists.{set_again}
use Rattle.dd_table.specs.declared.views.View.{View}
use Rattle.dd_table.specs.declared.rule.Sizes.{Sizes}
use Rattle.dd_table.specs.Layout.{walk_slot, node_in_word}
use Rattle.dd_table.specs.Views.{met_view, found_view}
use Rattle.dd_table.specs.Rules.{IsView, KeepsRules, RulesHold}
use Rattle.dd_table.specs.Tells.{LookTells, ReadTells, MayMake, HasWalked}
use Rattle.dd_table.proofs.Walks.{walk_lt}
use Rattle.dd_table.proofs.OneView.{sizes_of, view_met, view_found}
use Rattle.dd_table.proofs.StepsKeep.{no_word}
use Rattle.dd_table.proofs.Tellings.{half, told_after, sound, not_held, more_after}

pub looks : (k : Sizes) (z id : ℕ) (m : Me Unit View) (w n i : ℕ) → 0 < m.0.slots → MayMake m.0 w → HasWalked m.0 w n → i ≡ walk_slot m.0.slots w n
    → Allows (RulesHold k) z id m i (λ x. x) (LookTells i w m)
looks k z id m w n i live may walked at_i s h homes at wide =
    let v = m.0 in
    let view = h.views id v at in
    let sizes = sizes_of k.vars k.slots s.words v view live in
    let is_i : i ≡ walk_slot k.slots w n = at_i ∙ ap (λ (y : ℕ). walk_slot y w n) sizes.1 in
    let x = slice_index s.words i in
    let seen : (j : ℕ) → j < n → (u : ℕ) × (get v.met (walk_slot k.slots w j) ≡ Some u) × (u ≢ w) = λ j lt.
    subst (λ (y : ℕ). (u : ℕ) × (get v.met (walk_slot y w j) ≡ Some u) × (u ≢ w)) sizes.1 (walked.others j lt) in
    let two = h.two in
    let in' : i < k.slots = subst (λ (y : ℕ). y < k.slots) (sym is_i) (walk_lt k.slots w n (omega arith)) in
    let stays : set s.words i x ≡ s.words = set-get_or s.words i 0 in
    let done : (v' : View) → KeepsRules k.vars k.slots s.words (set s.views id v') → KeepsRules k.vars k.slots (set s.words i x) (set s.views id v') = λ v'.
    subst (λ ws. KeepsRules k.vars k.slots ws (set s.views id v')) (sym stays) in
    dite (ℕ_discrete x 0)
    (λ empty'.
    let kept = no_word k.vars k.slots s.words s.views id v v h at view refl refl in
    let empty_there = ap (slice_index s.words) (sym is_i) ∙ empty' in (
      v,
      keeps,
      tt,
      done v kept,
      (
        refl,
        told_after k.vars k.slots s.words s.views id v v at kept live,
        (λ _. (refl, not_held k.vars k.slots s.words s.views v w n h view seen empty_there)),
        (λ ne. absurd (ne empty')),
        (λ ne. absurd (ne empty')),
        (λ q m e. e),
      ),
    ))
    (λ full. dite (ℕ_discrete x w)
    (λ is.
    let v' = found_view v i x in
    let found = view_found k.vars k.slots s.words v i w view sizes in' is may in
    let kept : KeepsRules k.vars k.slots s.words (set s.views id v') =
    no_word k.vars k.slots s.words s.views id v v' h at
    (subst (λ (y : ℕ). IsView k.vars k.slots s.words (found_view v i y)) (sym is) found) refl refl in (
      v',
      keeps,
      tt,
      done v' kept,
      (
        refl,
        told_after k.vars k.slots s.words s.views id v v' at kept live,
        (λ e. absurd (full e)),
        (λ _ _. refl),
        (λ _ ne. absurd (ne is)),
        more_after k.vars k.slots s.words s.views id v v' (i + 2) (node_in_word x) view at kept refl,
      ),
    ))
    (λ other.
    let v' = met_view v i x in
    let met = view_met k.vars k.slots s.words v i view sizes in' full in
    let kept : KeepsRules k.vars k.slots s.words (set s.views id v') = no_word k.vars k.slots s.words s.views id v v' h at met refl refl in (
      v',
      keeps,
      tt,
      done v' kept,
      (
        refl,
        told_after k.vars k.slots s.words s.views id v v' at kept live,
        (λ e. absurd (full e)),
        (λ _ e. absurd (other e)),
        (λ _ _. refl),
        (λ q m e. e),
      ),
    )))

pub reads : (k : Sizes) (z id : ℕ) (m : Me Unit View) (i : ℕ) → 0 < m.0.slots → Allows (RulesHold k) z id m i (λ x. x) (ReadTells i m)
reads k z id m i live s h homes at wide =
    let stays : set s.words i (slice_index s.words i) ≡ s.words = set-get_or s.words i 0 in
    let same : KeepsRules k.vars k.slots s.words (set s.views id m.0) = subst (KeepsRules k.vars k.slots s.words) (sym (set_again s.views id m.0 at)) h in
    let kept = subst (λ ws. KeepsRules k.vars k.slots ws (set s.views id m.0)) (sym stays) same in (
      m.0,
      keeps,
      tt,
      kept,
      (
        refl,
        sound k.vars k.slots s.words s.views id m.0 h at live,
        half k.vars k.slots s.words s.views id m.0 h at live,
        λ w e. ((h.views id m.0 at).met i w e).1,
      ),
    )
