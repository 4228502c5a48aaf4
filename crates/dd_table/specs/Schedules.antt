-- Meaning and laws: steps of any seats as data, what a list of them makes of a table, and what
-- holds after each list.
use Rattle.std.specs.Prelude.{◌≡◌, ◌≢◌, ℕ, ◌+◌, ◌<◌, ◌≤◌, ◌==◌, if◌then◌else◌, List, [], ◌∷◌, ◌++◌, length, slice_index, slice_set, replicate, Some, ◌⊎◌}
use mathlib.Core.Option.{some}
use lib.ListN.{get_elem?}
use Rattle.std.specs.FinMap.{get}
use Rattle.dd_nodes.specs.declared.node.Node.{Node}
use Rattle.dd_table.specs.declared.views.View.{View}
use Rattle.dd_table.specs.declared.rule.Sizes.{Sizes}
use Rattle.dd_table.specs.Layout.{node_in_word, walk_slot}
use Rattle.dd_table.specs.Views.{made_view, found_view, met_view, giving_view, given_view, joined_view, spent_view, first_view}
use Rattle.dd_table.specs.Rules.{KeepsRules}
use Rattle.dd_table.specs.Sessions.{SessionValue, Shows, gives_quota, gets_quota, session_union}
use Rattle.dd_table.specs.Tells.{MayMake, HasWalked, TryTells, LookTells, ReadTells}

-- one step of one seat, which comes first: it writes a word to the n-th slot of its walk, finds it
-- there, passes a slot with some word, reads without learning, splits off a seat with a quota, or
-- joins another seat
pub data Move : Type 0 where
  writes : ℕ → ℕ → ℕ → Move
  finds : ℕ → ℕ → ℕ → Move
  passes : ℕ → ℕ → Move
  reads : ℕ → Move
  splits : ℕ → ℕ → Move
  joins : ℕ → ℕ → Move

-- the words, and the views of all seats
abbrev pub TableState : Type 0
TableState = List ℕ × List View

-- the seat has the view v, which is not spent
abbrev pub Sees : TableState → ℕ → View → Type 0
Sees s id v = (get_elem? s.1 id ≡ some v) × (0 < v.slots)

-- the seat may seek w, and comes to the n-th slot of its walk
abbrev pub Seeks : View → ℕ → ℕ → Type 0
Seeks v w n = MayMake v w × HasWalked v w n

-- the move may be made in the state s, and makes t of it
abbrev pub MoveMakes : Move → TableState → TableState → Type 0
MoveMakes (writes id w n) s t =
    (v : View) × Sees s id v × Seeks v w n × (length v.made < v.limit) ×
    (slice_index s.0 (walk_slot v.slots w n) ≡ 0)
    × (t ≡ (
      slice_set s.0 (walk_slot v.slots w n) w,
      slice_set s.1 id (made_view v (walk_slot v.slots w n) w),
    ))
MoveMakes (finds id w n) s t =
    (v : View) × Sees s id v × Seeks v w n × (slice_index s.0 (walk_slot v.slots w n) ≡ w)
    × (t ≡ (s.0, slice_set s.1 id (found_view v (walk_slot v.slots w n) w)))
MoveMakes (passes id i) s t =
    (v : View) × Sees s id v × (i < v.slots) × (slice_index s.0 i ≢ 0)
    × (t ≡ (s.0, slice_set s.1 id (met_view v i (slice_index s.0 i))))
MoveMakes (reads id) s t = t ≡ s
MoveMakes (splits id q) s t =
    (v : View) × Sees s id v × (q + length v.made ≤ v.limit)
    × (t ≡ (s.0, slice_set s.1 id (giving_view q v) ++ given_view q v ∷ []))
MoveMakes (joins id other) s t =
    (v : View) × (u : View) × Sees s id v × Sees s other u × (¬ (other ≡ id))
    × (t ≡ (s.0, slice_set (slice_set s.1 id (joined_view v u)) other spent_view))

-- some move makes t of s
abbrev pub IsMove : TableState → TableState → Type 0
IsMove s t = (m : Move) × MoveMakes m s t

-- the list of moves, in turn, makes t of s
abbrev pub MovesMake : List Move → TableState → TableState → Type 0
MovesMake [] s t = t ≡ s
MovesMake (m ∷ ms) s t = (r : TableState) × MoveMakes m s r × MovesMake ms r t

-- a table that was just opened: all slots are empty, and there is one seat
abbrev pub open_state : Sizes → TableState
open_state k = (replicate k.slots 0, first_view k ∷ [])

-- t is reached from a table that was just opened, by some list of steps of any seats
abbrev pub IsReached : Sizes → TableState → Type 0
IsReached k t = (moves : List Move) × MovesMake moves (open_state k) t

-- law: after every list of steps of any seats the rules hold
abbrev pub SchedulesKeepRules : Type 0
SchedulesKeepRules =
    (k : Sizes) (t : TableState) → 2 ≤ k.slots → IsReached k t → KeepsRules k.vars k.slots t.0 t.1

-- law: after every list of steps no node stands in two slots
abbrev pub NodesStandOnce : Type 0
NodesStandOnce =
    (k : Sizes) (t : TableState) → 2 ≤ k.slots → IsReached k t
    → (i j : ℕ) → slice_index t.0 i ≢ 0 → slice_index t.0 j ≢ 0
    → node_in_word (slice_index t.0 i) ≡ node_in_word (slice_index t.0 j) → i ≡ j

-- at most one word changes, and that from 0
abbrev pub AddsOneWord : List ℕ → List ℕ → Type 0
AddsOneWord ws xs =
    (xs ≡ ws) ⊎ ((i : ℕ) × (slice_index ws i ≡ 0) ×
    ((j : ℕ) → j ≢ i → slice_index xs j ≡ slice_index ws j))

-- law, the append-only rule: a step changes at most one word, and that from 0
abbrev pub MovesAddWords : Type 0
MovesAddWords = (m : Move) (s t : TableState) → MoveMakes m s t → AddsOneWord s.0 t.0

-- two seats never hold one node under two references, or two nodes under one
pub record Agree (v u : View) : Type 0 where
  pub one_reference : (r q : ℕ) (n : Node) → get v.held r ≡ Some n → get u.held q ≡ Some n → r ≡ q
  pub one_node : (r : ℕ) (m n : Node) → get v.held r ≡ Some m → get u.held r ≡ Some n → m ≡ n

-- law: after every list of steps any two seats agree
abbrev pub SeatsAgree : Type 0
SeatsAgree =
    (k : Sizes) (t : TableState) → 2 ≤ k.slots → IsReached k t
    → (i j : ℕ) (v u : View) → Sees t i v → Sees t j u → Agree v u

-- the words after a compare-exchange at a slot from 0 to w, and the views after it, where that of
-- its seat is v
abbrev pub exchanged_state : TableState → ℕ → ℕ → ℕ → View → TableState
exchanged_state s id slot w v =
    let x = slice_index s.0 slot in
    (slice_set s.0 slot (if x == 0 then w else x), slice_set s.1 id v)

-- the state after a load, where the view of its seat is v
abbrev pub loaded_state : TableState → ℕ → View → TableState
loaded_state s id v = (s.0, slice_set s.1 id v)

-- the state after a split of a seat, which gives up q of its steps; the new seat comes last
abbrev pub split_state : TableState → ℕ → ℕ → View → TableState
split_state s id q v = (s.0, slice_set s.1 id (giving_view q v) ++ given_view q v ∷ [])

-- the state after a join of two seats, whose views are v and u
abbrev pub joined_state : TableState → ℕ → ℕ → View → View → TableState
joined_state s id other v u = (s.0, slice_set (slice_set s.1 id (joined_view v u)) other spent_view)

-- law: an operation of the code, under its conditions, is one of the moves, whatever it reads
pub record OperationsAreMoves : Type 0 where
  pub try : (s : TableState) (id w n : ℕ) (v u : View) → Sees s id v → Seeks v w n →
      length v.made < v.limit
      → TryTells (walk_slot v.slots w n) w (v, []) (slice_index s.0 (walk_slot v.slots w n)) (u, [])
      → IsMove s (exchanged_state s id (walk_slot v.slots w n) w u)
  pub look : (s : TableState) (id w n : ℕ) (v u : View) → Sees s id v → Seeks v w n
      → LookTells (walk_slot v.slots w n) w (v, []) (slice_index s.0 (walk_slot v.slots w n))
      (u, [])
      → IsMove s (loaded_state s id u)
  pub read : (s : TableState) (id slot : ℕ) (v u : View) → Sees s id v
      → ReadTells slot (v, []) (slice_index s.0 slot) (u, [])
      → IsMove s (loaded_state s id u)
  -- a fork: the views of both seats show what it makes of the session
  pub fork : (s : TableState) (id q : ℕ) (v : View) (k : SessionValue) → Sees s id v → Shows v k
      → q + length k.made ≤ k.limit
      → IsMove s (split_state s id q v)
      × Shows (giving_view q v) (gives_quota q k) × Shows (given_view q v) (gets_quota q k)
  -- a merge: the view of the seat that is left shows the union of the sessions
  pub merge : (s : TableState) (id other : ℕ) (v u : View) (k j : SessionValue) → Sees s id v →
      Sees s other u
      → ¬ (other ≡ id) → Shows v k → Shows u j
      → IsMove s (joined_state s id other v u) × Shows (joined_view v u) (session_union k j)
