-- Every list of steps keeps the rules, and two seats agree after it.
use Rattle.std.proofs.Common.{◌≡◌, ◌≢◌, ℕ, zero, suc, ◌<◌, ◌≤◌, List, [], ◌∷◌, length, set, replicate, Some, refl, sym, ap, ◌∙◌, subst, inl, inr, arith, get_or-set_other}
use Rattle.std.specs.Prelude.{slice_index}
use mathlib.Core.Option.{some, some-injective, some-ne-none}
use lib.ListN.{get_elem?}
use Rattle.std.specs.FinMap.{get}
use Rattle.atomic_table.proofs.Lists.{set_else}
use Rattle.dd_table.specs.declared.views.View.{View}
use Rattle.dd_table.specs.declared.rule.Sizes.{Sizes}
use Rattle.dd_table.specs.Layout.{walk_slot}
use Rattle.dd_table.specs.Views.{made_view, first_view, joined_view}
use Rattle.dd_table.specs.Rules.{one_if_taken, taken_slots, IsView, KeepsRules}
use Rattle.dd_table.specs.Schedules.{Move, writes, finds, passes, reads, splits, joins, TableState, MoveMakes, MovesMake, open_state, SchedulesKeepRules, NodesStandOnce, MovesAddWords, SeatsAgree}
use Rattle.dd_table.proofs.Layouts.{word_once}
use Rattle.dd_table.proofs.Walks.{walk_lt}
use Rattle.dd_table.proofs.OneView.{sizes_of, view_met, view_found, view_first, one_node}
use Rattle.dd_table.proofs.StepsKeep as steps
use Rattle.dd_table.proofs.Tellings.{stands_once, one_reference}

zeros_at : (n i : ℕ) → slice_index (replicate n 0) i ≡ 0
zeros_at zero i = refl
zeros_at (suc n) zero = refl
zeros_at (suc n) (suc i) = zeros_at n i

zeros_taken : (n : ℕ) → taken_slots (replicate n 0) ≡ 0
zeros_taken zero = refl
zeros_taken (suc n) = zeros_taken n

zeros_length : (n : ℕ) → length {A = ℕ} (replicate n 0) ≡ n
zeros_length zero = refl
zeros_length (suc n) = ap suc (zeros_length n)

-- a table that was just opened
pub opens : (k : Sizes) (ws : List ℕ) → 2 ≤ k.slots → ws ≡ replicate k.slots 0 → KeepsRules k.vars k.slots ws (first_view k ∷ [])
opens k ws two is = subst (λ (l : List ℕ). KeepsRules k.vars k.slots l (first_view k ∷ [])) (sym is) record {
  size = zeros_length k.slots;
  two = two;
  nodes = λ s ne. absurd (ne (zeros_at k.slots s));
  walks = λ w n i some' in' e lt. absurd (some' (sym e ∙ zeros_at k.slots (walk_slot k.slots w n)));
  views = one_view;
  limits = omega arith;
  used = sym (zeros_taken k.slots);
  owners = λ s. ap one_if_taken (sym (zeros_at k.slots s));
}
  where
    one_view : (i : ℕ) (v : View) → get_elem? (first_view k ∷ []) i ≡ some v → IsView k.vars k.slots (replicate k.slots 0) v
    one_view zero v e = subst (IsView k.vars k.slots (replicate k.slots 0)) (some-injective _ _ e) (view_first k (replicate k.slots 0))
    one_view (suc i) v e = absurd (some-ne-none v (sym e))

abbrev Good : Sizes → TableState → Type 0
Good k s = KeepsRules k.vars k.slots s.0 s.1

one_move : (k : Sizes) (m : Move) (s t : TableState) → Good k s → MoveMakes m s t → Good k t
one_move k (writes id w n) s t h (v, (at, live), (may, walked), left, empty', is) =
    let view = h.views id v at in
    let sizes = sizes_of k.vars k.slots s.0 v view live in
    let within : n < k.slots = let a = walked.within in let b = sizes.1 in omega arith in
    let seen : (j : ℕ) → j < n → (u : ℕ) × (get v.met (walk_slot k.slots w j) ≡ Some u) × (u ≢ w) = λ j lt.
    subst (λ (y : ℕ). (u : ℕ) × (get v.met (walk_slot y w j) ≡ Some u) × (u ≢ w)) sizes.1 (walked.others j lt) in
    let empty_there = ap (λ (y : ℕ). slice_index s.0 (walk_slot y w n)) (sym sizes.1) ∙ empty' in
    let kept = steps.writes k.vars k.slots s.0 s.1 id v w n h at sizes may left within seen empty_there in
    subst (Good k) (sym is)
    (subst (λ (y : ℕ). KeepsRules k.vars k.slots (set s.0 (walk_slot y w n) w) (set s.1 id (made_view v (walk_slot y w n) w))) (sym sizes.1) kept)
one_move k (finds id w n) s t h (v, (at, live), (may, walked), found, is) =
    let view = h.views id v at in
    let sizes = sizes_of k.vars k.slots s.0 v view live in
    let in' : walk_slot v.slots w n < k.slots = subst (λ (y : ℕ). walk_slot v.slots w n < y) sizes.1 (walk_lt v.slots w n live) in
    let view' = view_found k.vars k.slots s.0 v (walk_slot v.slots w n) w view sizes in' found may in
    subst (Good k) (sym is) (steps.no_word k.vars k.slots s.0 s.1 id v _ h at view' refl refl)
one_move k (passes id i) s t h (v, (at, live), in', ne, is) =
    let view = h.views id v at in
    let sizes = sizes_of k.vars k.slots s.0 v view live in
    let view' = view_met k.vars k.slots s.0 v i view sizes (subst (λ (y : ℕ). i < y) sizes.1 in') ne in
    subst (Good k) (sym is) (steps.no_word k.vars k.slots s.0 s.1 id v _ h at view' refl refl)
one_move k (reads id) s t h is = subst (Good k) (sym is) h
one_move k (splits id q) s t h (v, (at, live), room, is) =
    subst (Good k) (sym is) (steps.splits k id v q live room record { words = s.0; homes = []; views = s.1 } h at)
one_move k (joins id other) s t h (v, u, (at, live), (there, _), apart, is) =
    let there' : get_elem? (set s.1 id (joined_view v u)) other ≡ some u = set_else s.1 id other (joined_view v u) apart ∙ there in
    subst (Good k) (sym is) (steps.joins k id v other u live record { words = s.0; homes = []; views = s.1 } h at apart there')

all_moves : (k : Sizes) (ms : List Move) (s t : TableState) → Good k s → MovesMake ms s t → Good k t
all_moves k [] s t h r = subst (Good k) (sym r) h
all_moves k (m ∷ ms) s t h r = all_moves k ms r.0 t (one_move k m s r.0 h r.1) r.2

pub always : SchedulesKeepRules
always k t two r = all_moves k r.0 (open_state k) t (opens k (open_state k).0 two refl) r.1

-- a slot behind the last one has no word
beyond : (ws : List ℕ) (i : ℕ) → slice_index ws i ≢ 0 → i < length ws
beyond [] i ne = absurd (ne refl)
beyond (w ∷ ws) zero ne = omega arith
beyond (w ∷ ws) (suc i) ne = let lt = beyond ws i ne in omega arith

pub stand_once : NodesStandOnce
stand_once k t two r i j some_i some_j same =
    let h = always k t two r in
    let size = h.size in
    let in_i = beyond t.0 i some_i in
    let in_j = beyond t.0 j some_j in
    stands_once k.vars k.slots t.0 t.1 i j h (omega arith) (omega arith) some_i (word_once (slice_index t.0 i) (slice_index t.0 j) same)

pub appends : MovesAddWords
appends (writes id w n) s t (v, sees, seeks, left, empty', is) =
    inr (walk_slot v.slots w n, empty', λ j ne. ap (λ (x : TableState). slice_index x.0 j) is ∙ get_or-set_other s.0 (walk_slot v.slots w n) j w 0 ne)
appends (finds id w n) s t (v, sees, seeks, found, is) = inl (ap (λ (x : TableState). x.0) is)
appends (passes id i) s t (v, sees, in', ne, is) = inl (ap (λ (x : TableState). x.0) is)
appends (reads id) s t is = inl (ap (λ (x : TableState). x.0) is)
appends (splits id q) s t (v, sees, room, is) = inl (ap (λ (x : TableState). x.0) is)
appends (joins id other) s t (v, u, sees, there, apart, is) = inl (ap (λ (x : TableState). x.0) is)

pub agree : SeatsAgree
agree k t two r i j v u (at, live) (there, live') =
    let h = always k t two r in
    let f = h.views i v at in
    let g = h.views j u there in
    record {
      one_reference = λ r q n e d. one_reference k.vars k.slots t.0 t.1 v u r q n h f g e d;
      one_node = λ r m n e d. one_node k.vars k.slots t.0 v u r m n f g e d;
    }
