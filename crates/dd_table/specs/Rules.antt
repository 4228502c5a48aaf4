-- Meaning: the rules of the table, which hold between any two steps of any threads. They speak of
-- the list of words and of the views of all seats: the node-word rule, the walk rule, the view rule
-- and the quota rule. That words are only added is a law of its own.
use Rattle.std.specs.Prelude.{◌≡◌, ◌≢◌, ℕ, zero, suc, ◌+◌, ◌-◌, ◌/◌, ◌<◌, ◌≤◌, ◌==◌, List, length, slice_index, Some, ◌⊎◌, sum_by, count_by}
use mathlib.Core.Option.{some}
use lib.ListN.{get_elem?}
use Rattle.std.specs.Ordering.{nat_cmp}
use Rattle.std.specs.FinMap.{FinMap, get}
use Rattle.atomic_table.specs.Table.{State}
use Rattle.dd_nodes.specs.declared.node.Ref.{Ref}
use Rattle.dd_nodes.specs.declared.node.Node.{Node}
use Rattle.dd_table.specs.Layout.{node_in_word, walk_slot}
use Rattle.dd_table.specs.Views.{spent_view}
use Rattle.dd_table.specs.declared.views.View.{View}
use Rattle.dd_table.specs.declared.rule.Sizes.{Sizes}

-- 1 for the word of a taken slot, and 0 for that of an empty one
abbrev pub one_if_taken : ℕ → ℕ
one_if_taken zero = 0
one_if_taken (suc n) = 1

-- the number of taken slots
abbrev pub taken_slots : List ℕ → ℕ
taken_slots ws = sum_by one_if_taken ws

-- how often the reference r stands in a list
abbrev pub count_of : ℕ → List Ref → ℕ
count_of r refs = count_by (λ q. q.0 == r) refs

-- r is a constant, or the reference of a taken slot whose node has a greater variable than x
abbrev pub IsTakenChild : List ℕ → ℕ → ℕ → Type 0
IsTakenChild ws x r =
    2 ≤ r → (slice_index ws (r - 2) ≢ 0) × (x < (node_in_word (slice_index ws (r - 2))).var)

-- the node-word rule: what holds of the node in a word that is not 0
pub record IsTableNode (vars : ℕ) (ws : List ℕ) (n : Node) : Type 0 where
  pub var : n.var < vars
  pub apart : n.lo.0 ≢ n.hi.0
  pub lo : IsTakenChild ws n.var n.lo.0
  pub hi : IsTakenChild ws n.var n.hi.0

-- r is a constant, or held with a greater variable than x
abbrev pub IsHeldChild : FinMap nat_cmp Node → ℕ → ℕ → Type 0
IsHeldChild held x r = 2 ≤ r → (m : Node) × (get held r ≡ Some m) × (x < m.var)

-- the view has the numbers of the table
abbrev pub HasSizes : ℕ → ℕ → View → Type 0
HasSizes vars slots v = (v.vars ≡ vars) × (v.slots ≡ slots)

-- the view rule: what holds of one seat's view over the words
pub record IsView (vars slots : ℕ) (ws : List ℕ) (v : View) : Type 0 where
  pub sizes : (v ≡ spent_view) ⊎ HasSizes vars slots v
  -- what was met stands there still
  pub met : (s w : ℕ) → get v.met s ≡ Some w → (s < slots) × (slice_index ws s ≡ w) × (w ≢ 0)
  -- what is held was met
  pub held : (r : ℕ) (n : Node) → get v.held r ≡ Some n
      → (2 ≤ r) × ((w : ℕ) × (get v.met (r - 2) ≡ Some w) × (n ≡ node_in_word w))
  -- the children of what is held are held
  pub closed : (r : ℕ) (n : Node) → get v.held r ≡ Some n
      → IsHeldChild v.held n.var n.lo.0 × IsHeldChild v.held n.var n.hi.0
  -- what was made is held
  pub made : (r : ℕ) → 0 < count_of r v.made → (n : Node) × (get v.held r ≡ Some n)
  -- no more was made than may be made
  pub used : length v.made ≤ v.limit
  -- what the last join brought in is held
  pub last : (r : ℕ) (n : Node) → get v.last r ≡ Some n → get v.held r ≡ Some n

-- all rules at once, for the words and the views of all seats
pub record KeepsRules (vars slots : ℕ) (ws : List ℕ) (vs : List View) : Type 0 where
  pub size : length ws ≡ slots
  pub two : 2 ≤ slots
  -- the node-word rule
  pub nodes : (s : ℕ) → slice_index ws s ≢ 0 → IsTableNode vars ws (node_in_word (slice_index ws s))
  -- the walk rule: before the slot of a word its walk has taken slots alone, with other words
  pub walks : (w n k : ℕ) → w ≢ 0 → n < slots → slice_index ws (walk_slot slots w n) ≡ w → k < n
      → (slice_index ws (walk_slot slots w k) ≢ 0) × (slice_index ws (walk_slot slots w k) ≢ w)
  -- the view rule
  pub views : (i : ℕ) (v : View) → get_elem? vs i ≡ some v → IsView vars slots ws v
  -- the quota rule: all limits together are half of the slots
  pub limits : sum_by (λ v. v.limit) vs ≡ slots / 2
  -- as many references were made as slots are taken
  pub used : sum_by (λ v. length v.made) vs ≡ taken_slots ws
  -- the reference of a taken slot was made once in all, and that of an empty one never
  pub owners : (s : ℕ) → sum_by (λ v. count_of (s + 2) v.made) vs ≡ one_if_taken (slice_index ws s)

-- the rules of a table with these numbers
abbrev pub RulesHold : Sizes → State Unit View → Type 0
RulesHold k s = KeepsRules k.vars k.slots s.words s.views
