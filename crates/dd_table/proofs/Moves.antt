-- Each operation of the code is one of the moves.
use Rattle.std.proofs.Common.{◌≡◌, ℕ, ◌+◌, ◌-◌, ◌<◌, ◌≤◌, ◌==◌, ◌++◌, List, [], length, set, if◌then◌else◌, refl, sym, ap, ◌∙◌, subst, eq-eqb, ne_eqb}
use Rattle.std.proofs.lemmas.List.{set-get_or}
use Rattle.std.specs.Prelude.{slice_index}
use mathlib.Core.Logic.{dite}
use native.Mathlib.Decide.{ℕ_discrete}
use Rattle.atomic_table.proofs.Lists.{set_again}
use Rattle.dd_table.specs.declared.views.View.{View}
use Rattle.dd_table.specs.Layout.{walk_slot}
use Rattle.dd_table.specs.Sessions.{SessionValue, Shows, gives_quota, gets_quota, session_union}
use Rattle.dd_table.specs.Views.{found_view, met_view, giving_view, given_view, joined_view, union}
use Rattle.dd_table.specs.Tells.{TryTells, LookTells}
use Rattle.dd_table.specs.Schedules.{writes, finds, passes, reads, splits, joins, TableState, Sees, Seeks, IsMove, exchanged_state, loaded_state, split_state, joined_state, OperationsAreMoves}
use Rattle.dd_table.proofs.Walks.{walk_lt}

try_is : (s : TableState) (id w n : ℕ) (v u : View) → Sees s id v → Seeks v w n → length v.made < v.limit
    → TryTells (walk_slot v.slots w n) w (v, []) (slice_index s.0 (walk_slot v.slots w n)) (u, [])
    → IsMove s (exchanged_state s id (walk_slot v.slots w n) w u)
try_is s id w n v u sees seeks left told =
    let i = walk_slot v.slots w n in
    let x = slice_index s.0 i in
    dite (ℕ_discrete x 0)
    (λ empty'.
    let f : (if (x == 0) then w else x) ≡ w = ap (λ b. if b then w else x) (eq-eqb x 0 empty') in
    let u_is = (told.2 empty').0 in
    (writes id w n, (v, sees, seeks, left, empty', λ k. (set s.0 i (f k), set s.1 id (u_is k)))))
    (λ full.
    let f : (if (x == 0) then w else x) ≡ x = ap (λ b. if b then w else x) (ne_eqb x 0 full) in
    let stays : set s.0 i (if (x == 0) then w else x) ≡ s.0 = ap (set s.0 i) f ∙ set-get_or s.0 i 0 in
    dite (ℕ_discrete x w)
    (λ is.
    let u_is : u ≡ found_view v i w = told.3 full is ∙ ap (found_view v i) is in
    (finds id w n, (v, sees, seeks, is, λ k. (stays k, set s.1 id (u_is k)))))
    (λ other.
    let u_is : u ≡ met_view v i x = told.4 full other in
    (passes id i, (v, sees, walk_lt v.slots w n sees.1, full, λ k. (stays k, set s.1 id (u_is k))))))

-- a view that stays
same_view : (s : TableState) (id : ℕ) (v u : View) → Sees s id v → u ≡ v → IsMove s (loaded_state s id u)
same_view s id v u sees u_is =
    let views : set s.1 id u ≡ s.1 = ap (set s.1 id) u_is ∙ set_again s.1 id v sees.0 in
    (reads id, λ k. (s.0, views k))

look_is : (s : TableState) (id w n : ℕ) (v u : View) → Sees s id v → Seeks v w n
    → LookTells (walk_slot v.slots w n) w (v, []) (slice_index s.0 (walk_slot v.slots w n)) (u, [])
    → IsMove s (loaded_state s id u)
look_is s id w n v u sees seeks told =
    let i = walk_slot v.slots w n in
    let x = slice_index s.0 i in
    dite (ℕ_discrete x 0)
    (λ empty'. same_view s id v u sees (told.2 empty').0)
    (λ full. dite (ℕ_discrete x w)
    (λ is.
    let u_is : u ≡ found_view v i w = told.3 full is ∙ ap (found_view v i) is in
    (finds id w n, (v, sees, seeks, is, λ k. (s.0, set s.1 id (u_is k)))))
    (λ other.
    let u_is : u ≡ met_view v i x = told.4 full other in
    (passes id i, (v, sees, walk_lt v.slots w n sees.1, full, λ k. (s.0, set s.1 id (u_is k))))))

fork_is : (s : TableState) (id q : ℕ) (v : View) (k : SessionValue) → Sees s id v → Shows v k → q + length k.made ≤ k.limit
    → IsMove s (split_state s id q v) × Shows (giving_view q v) (gives_quota q k) × Shows (given_view q v) (gets_quota q k)
fork_is s id q v k sees shown left = (
  (splits id q, (v, sees, subst (λ n. q + length v.made ≤ n) (sym shown.limit) (subst (λ xs. q + length xs ≤ k.limit) (sym shown.made) left), refl)),
  record { vars = shown.vars; slots = shown.slots; held = shown.held; made = shown.made; limit = ap (λ n. n - q) shown.limit },
  record { vars = shown.vars; slots = shown.slots; held = shown.held; made = refl; limit = refl },
)

merge_is : (s : TableState) (id other : ℕ) (v u : View) (k j : SessionValue) → Sees s id v → Sees s other u → ¬ (other ≡ id) → Shows v k → Shows u j
    → IsMove s (joined_state s id other v u) × Shows (joined_view v u) (session_union k j)
merge_is s id other v u k j sees there apart shown taken = (
  (joins id other, (v, u, sees, there, apart, refl)),
  record {
    vars = shown.vars;
    slots = shown.slots;
    held = ap (λ m. union m u.held) shown.held ∙ ap (union k.held) taken.held;
    made = ap (λ xs. xs ++ u.made) shown.made ∙ ap (λ xs. k.made ++ xs) taken.made;
    limit = ap (λ n. n + u.limit) shown.limit ∙ ap (λ n. k.limit + n) taken.limit;
  },
)

pub operations : OperationsAreMoves
operations = record {
  try = try_is;
  look = look_is;
  read = λ s id slot v u sees told. same_view s id v u sees (ap (λ (m : View × List (ℕ × Unit)). m.0) told.0);
  fork = fork_is;
  merge = merge_is;
}
