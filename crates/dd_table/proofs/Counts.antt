-- A view holds no more references than slots are taken.
use Rattle.std.proofs.Common.{◌≡◌, ◌≢◌, ℕ, suc, ◌+◌, ◌-◌, ◌<◌, ◌≤◌, ◌&&◌, List, [], ◌∷◌, length, drop, cond, Some, Bool, true, false, T, refl, sym, ap, ◌∙◌, subst, arith, lt_of_not-le}
use Rattle.std.specs.Prelude.{slice_index}
use Rattle.std.specs.Ordering.{nat_cmp, is_lt}
use Rattle.std.specs.Cmp.{nat_cmp_is}
use Rattle.std.specs.declared.cmp.Ordering.TheVariants.{Equal, Greater}
use Rattle.std.specs.FinMap.{len, entries, find, is_sorted, entries_sorted, get-entries, len-entries}
use Rattle.std.specs.FinMap.Entries.{below_all}
use mathlib.Core.Logic.{dite}
use native.Mathlib.Decide.{ℕ_discrete, dec_le}
use Rattle.dd_nodes.specs.declared.node.Node.{Node}
use Rattle.dd_table.specs.declared.views.View.{View}
use Rattle.dd_table.specs.Rules.{taken_slots, IsView}
use Rattle.dd_table.proofs.Maps.{tie_same, tie_other, none_or_some}
use Rattle.dd_table.proofs.Sums.{taken_behind}
use Rattle.dd_table.proofs.Walks.{lt_of_le}

first : (a b : Bool) → T (a && b) → T a
first true b p = tt
first false b p = p

second : (a b : Bool) → T (a && b) → T b
second true b p = p
second false b p = absurd p

less_is : (x y : ℕ) → T (is_lt (nat_cmp x y)) → x < y
less_is x y t = dite (dec_le y x)
    (λ le. dite (ℕ_discrete x y)
    (λ same. absurd (subst (λ o. T (is_lt o)) (sym (nat_cmp_is x y Equal same)) t))
    (λ ne.
    let lt : y < x = lt_of_le y x le (λ e. ne (sym e)) in
    absurd (subst (λ o. T (is_lt o)) (sym (nat_cmp_is x y Greater lt)) t)))
    (λ not. lt_of_not-le not)

-- what is found behind a key is above it
above : (x r : ℕ) (n : Node) (es : List (ℕ × Node)) → T (below_all nat_cmp x es) → find nat_cmp r es ≡ Some n → x < r
above x r n [] h e = absurd (none_or_some (find nat_cmp r []) n refl e)
above x r n (a ∷ es) h e = dite (ℕ_discrete r a.0)
    (λ same. subst (λ (y : ℕ). x < y) (sym same) (less_is x a.0 (first _ _ h)))
    (λ ne. above x r n es (second _ _ h) (ap (λ b. cond b (Some a.1) (find nat_cmp r es)) (sym (tie_other r a.0 ne)) ∙ e))

one_more : (a b c : ℕ) → a ≤ b → b + 1 ≤ c → suc a ≤ c
one_more a b c le lt = omega arith

-- sorted entries of taken slots from b on are no more than these slots
counts : (ws : List ℕ) (es : List (ℕ × Node)) (b : ℕ) → T (is_sorted nat_cmp es)
    → ((r : ℕ) (n : Node) → find nat_cmp r es ≡ Some n → (2 ≤ r) × (b ≤ r - 2) × (slice_index ws (r - 2) ≢ 0)) → length es ≤ taken_slots (drop b ws)
counts ws [] b sorted each = omega arith
counts ws (a ∷ es) b sorted each =
    let here = each a.0 a.1 (ap (λ b. cond b (Some a.1) (find nat_cmp a.0 es)) (tie_same a.0)) in
    let behind : (r : ℕ) (n : Node) → find nat_cmp r es ≡ Some n → (2 ≤ r) × (suc (a.0 - 2) ≤ r - 2) × (slice_index ws (r - 2) ≢ 0) = λ r n e.
    let up : a.0 < r = above a.0 r n es (first _ _ sorted) e in
    let skipped = ap (λ b. cond b (Some a.1) (find nat_cmp r es)) (tie_other r a.0 (λ same. absurd (omega arith))) in
    let old = each r n (skipped ∙ e) in
    let two = here.0 in
    (old.0, omega arith, old.2) in
    let rest : length es ≤ taken_slots (drop (suc (a.0 - 2)) ws) = counts ws es (suc (a.0 - 2)) (second _ _ sorted) behind in
    one_more _ _ _ rest (taken_behind ws b (a.0 - 2) here.1 here.2)

pub held_at_most : (vars slots : ℕ) (ws : List ℕ) (v : View) → IsView vars slots ws v → len v.held ≤ taken_slots ws
held_at_most vars slots ws v f =
    let c = counts ws (entries v.held) 0 (entries_sorted v.held) (λ r n e.
    let a = f.held r n (get-entries v.held r ∙ e) in
    let b = f.met (r - 2) a.1.0 a.1.1 in
    (a.0, omega arith, λ z. b.2 (sym b.1 ∙ z))) in
    omega (arith, len-entries v.held)
