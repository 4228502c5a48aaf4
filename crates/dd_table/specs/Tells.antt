-- What each step on the table asks for, which is meaning (`MayMake`, `HasWalked`), and what it
-- shows of the seat's view, which is for private functions and for the law that each operation of
-- the code is one of the moves.
use Rattle.std.specs.Prelude.{◌≡◌, ◌≢◌, ℕ, ◌+◌, ◌-◌, ◌/◌, ◌<◌, ◌≤◌, [], ◌∷◌, ◌++◌, length, Option, Some, None, Bool, true, false}
use Rattle.std.specs.FinMap.{get, insert}
use Rattle.atomic_table.specs.Table.{Me}
use Rattle.dd_nodes.specs.declared.node.Node.{Node}
use Rattle.dd_table.specs.Codes.{ref}
use Rattle.dd_table.specs.Layout.{node_in_word, walk_slot}
use Rattle.dd_table.specs.Views.{made_view, found_view, met_view, union}
use Rattle.dd_table.specs.Rules.{IsHeldChild, count_of}
use Rattle.dd_table.specs.declared.views.View.{View}

-- some slot was not met
abbrev pub HasRoom : View → Type 0
HasRoom v = (s : ℕ) × (s < v.slots) × (get v.met s ≡ None)

-- the node in w is held under no reference
abbrev pub IsNotHeld : View → ℕ → Type 0
IsNotHeld v w = (r : ℕ) → get v.held r ≢ Some (node_in_word w)

-- nothing is held
abbrev pub HoldsNothing : View → Type 0
HoldsNothing v = (r : ℕ) (n : Node) → get v.held r ≢ Some n

-- x is held by one of the two views
abbrev pub IsHeldByOne : View → View → ℕ → Type 0
IsHeldByOne v u x =
    (2 ≤ x) × (x < v.slots + 2) × ((n : Node) × (get (union v.held u.held) x ≡ Some n))

-- no held node is lost
abbrev pub HoldsMore : View → View → Type 0
HoldsMore v u = (q : ℕ) (m : Node) → get v.held q ≡ Some m → get u.held q ≡ Some m

-- what the rules say of one view, in words of the view alone
pub record IsSound (v : View) : Type 0 where
  pub near : (r : ℕ) (n : Node) → get v.held r ≡ Some n → (2 ≤ r) × (r < v.slots + 2)
  pub nodes : (r : ℕ) (n : Node) → get v.held r ≡ Some n → (n.var < v.vars) × (n.lo.0 ≢ n.hi.0)
  pub closed : (r : ℕ) (n : Node) → get v.held r ≡ Some n
      → IsHeldChild v.held n.var n.lo.0 × IsHeldChild v.held n.var n.hi.0
  pub once : (r q : ℕ) (n : Node) → get v.held r ≡ Some n → get v.held q ≡ Some n → r ≡ q
  pub word : (r : ℕ) (n : Node) → get v.held r ≡ Some n
      → (w : ℕ) × (get v.met (r - 2) ≡ Some w) × (n ≡ node_in_word w)
  pub made : (r : ℕ) → 0 < count_of r v.made → (n : Node) × (get v.held r ≡ Some n)
  pub apart : (r : ℕ) → count_of r v.made ≤ 1
  pub used : length v.made ≤ v.limit
  pub last : (r : ℕ) (n : Node) → get v.last r ≡ Some n → get v.held r ≡ Some n

-- what is known of a view after each step of a search
abbrev pub IsSoundWithRoom : View → Type 0
IsSoundWithRoom v = HasRoom v × IsSound v

-- the node in w may be made: its children are constants, or held with greater variables
pub record MayMake (v : View) (w : ℕ) : Type 0 where
  pub some : w ≢ 0
  pub var : (node_in_word w).var < v.vars
  pub apart : (node_in_word w).lo.0 ≢ (node_in_word w).hi.0
  pub lo : IsHeldChild v.held (node_in_word w).var (node_in_word w).lo.0
  pub hi : IsHeldChild v.held (node_in_word w).var (node_in_word w).hi.0

-- the first n slots on the walk of w were met with other words
pub record HasWalked (v : View) (w n : ℕ) : Type 0 where
  pub within : n < v.slots
  pub others : (k : ℕ) → k < n → (x : ℕ) × (get v.met (walk_slot v.slots w k) ≡ Some x) × (x ≢ w)

-- the slot comes next on the walk of w
abbrev pub ComesNext : View → ℕ → ℕ → Type 0
ComesNext v w slot = (n : ℕ) × HasWalked v w n × (slot ≡ walk_slot v.slots w n)

-- a compare-exchange at a slot, from 0 to the word w, which found the word n
abbrev pub TryTells : ℕ → ℕ → Me Unit View → ℕ → Me Unit View → Type 0
TryTells slot w m n m' =
    (m'.1 ≡ m.1) × IsSoundWithRoom m'.0
    × (n ≡ 0 → (m'.0 ≡ made_view m.0 slot w) × IsNotHeld m.0 w)
    × (n ≢ 0 → n ≡ w → m'.0 ≡ found_view m.0 slot n)
    × (n ≢ 0 → n ≢ w → m'.0 ≡ met_view m.0 slot n)
    × HoldsMore m.0 m'.0

-- a load at a slot, in a search for w, which found the word n
abbrev pub LookTells : ℕ → ℕ → Me Unit View → ℕ → Me Unit View → Type 0
LookTells slot w m n m' =
    (m'.1 ≡ m.1) × IsSoundWithRoom m'.0
    × (n ≡ 0 → (m'.0 ≡ m.0) × IsNotHeld m.0 w)
    × (n ≢ 0 → n ≡ w → m'.0 ≡ found_view m.0 slot n)
    × (n ≢ 0 → n ≢ w → m'.0 ≡ met_view m.0 slot n)
    × HoldsMore m.0 m'.0

-- a load at a slot, outside of a search, which found the word n
abbrev pub ReadTells : ℕ → Me Unit View → ℕ → Me Unit View → Type 0
ReadTells slot m n m' =
    (m' ≡ m) × IsSound m.0 × (m.0.limit ≤ m.0.slots / 2) ×
    ((w : ℕ) → get m.0.met slot ≡ Some w → n ≡ w)

-- only `met` may differ
pub record DiffersInMet (v u : View) : Type 0 where
  pub held : u.held ≡ v.held
  pub made : u.made ≡ v.made
  pub limit : u.limit ≡ v.limit
  pub vars : u.vars ≡ v.vars
  pub slots : u.slots ≡ v.slots

-- what a search for w has seen before its n-th slot, which is `at`
pub record IsSearching (w n at : ℕ) (v u : View) : Type 0 where
  pub more : DiffersInMet v u
  pub at_is : at ≡ walk_slot u.slots w n
  pub others : (k : ℕ) → k < n → (x : ℕ) × (get u.met (walk_slot u.slots w k) ≡ Some x) × (x ≢ w)
  pub room : 0 < n → HasRoom u

-- a search for w ended at the slot s, where w is
pub record EndsFound (w : ℕ) (v u : View) (s : ℕ) (wrote : Bool) : Type 0 where
  pub within : s < v.slots
  pub sound : IsSound u
  pub limit : u.limit ≡ v.limit
  pub vars : u.vars ≡ v.vars
  pub slots : u.slots ≡ v.slots
  pub held : u.held ≡ insert v.held (s + 2) (node_in_word w)
  pub grows : HoldsMore v u
  pub kept : wrote ≡ false → u.made ≡ v.made
  pub added : wrote ≡ true
      → (u.made ≡ v.made ++ ref (s + 2) ∷ []) × IsNotHeld v w × (length v.made < v.limit)

-- a search for w with no step left ended at an empty slot
pub record EndsOut (w : ℕ) (v u : View) : Type 0 where
  pub more : DiffersInMet v u
  pub sound : IsSound u
  pub full : v.limit ≤ length v.made
  pub none : IsNotHeld v w

-- how a search ended: the slot and whether the word was written, or nothing
abbrev pub SearchEnds : ℕ → View → View → Option (ℕ × Bool) → Type 0
SearchEnds w v u (Some p) = EndsFound w v u p.0 p.1
SearchEnds w v u None = EndsOut w v u

-- the slot comes after n others on the walk of w, and n + 1 steps were counted
abbrev pub CameTo : ℕ → ℕ → ℕ → ℕ → ℕ → Type 0
CameTo slots w slot before after =
    (n : ℕ) × (slot ≡ walk_slot slots w n) × (after ≡ before + (n + 1))
