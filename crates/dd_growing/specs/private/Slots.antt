-- For private functions. A table of slots that says where a node stands, and is searched by walks.
use Rattle.std.specs.Prelude.{◌≡◌, ◌<◌, ◌≤◌, ◌+◌, ◌-◌, ◌*◌, ◌/◌, ◌%◌, ◌^◌, ◌&&◌, ◌==◌, ℕ, Bool, true, false, cond, nat_lt, List, length, get_or, set, Some, slice_get}
use Rattle.std.specs.List.{count_by}
use Rattle.dd_nodes.specs.declared.node.Ref.{Ref}
use Rattle.dd_nodes.specs.declared.node.Node.{Node}
use Rattle.dd_nodes.specs.Diagram.{same_ref}
use Rattle.dd_nodes.specs.Plain.{plain_held, ref_at}

-- the hash of a node: the upper half of a number that is made of it, modulo 2^64 (multiplicative
-- hashing)
unfoldable pub hash_of : Node → ℕ
hash_of n =
    ((n.var * 11400714819323198485 % 2 ^ 64 + n.lo.0 * 14029467366897019727 % 2 ^ 64) % 2 ^ 64 + n.hi.0 * 9650029242287828579 % 2 ^ 64) % 2 ^ 64 / 2 ^ 32

-- whether two nodes are the same, part by part
abbrev pub same_node : Node → Node → Bool
same_node m n = m.var == n.var && (same_ref m.lo n.lo && same_ref m.hi n.hi)

-- the slot of a node: the lower 8 bits of its hash, and its reference in 24 bits
abbrev pub slot_of : ℕ → Ref → ℕ
slot_of hash r = hash % 256 * 16777216 + r.0

-- the reference in a slot
abbrev pub ref_in : ℕ → Ref
ref_in slot = record { 0 = slot % 16777216 }

-- a slot that is 0 has no node
abbrev pub is_used : ℕ → Bool
is_used slot = nat_lt 0 slot

-- what stands at a place; an unused slot behind the last
abbrev pub slot_at : List ℕ → ℕ → ℕ
slot_at slots i = get_or slots i 0

-- how many slots are used
abbrev pub taken : List ℕ → ℕ
taken slots = count_by is_used slots

-- the newer child of a node; one that was made later has a greater reference
abbrev pub newer : Node → ℕ
newer n = cond (nat_lt n.lo.0 n.hi.0) n.hi.0 n.lo.0

-- the place where the walk of a node begins: at twice its newer child, where there is such a place
unfoldable pub near_of : ℕ → Node → ℕ
near_of size n = cond (nat_lt (newer n * 2) size) (newer n * 2) 0

-- the place where it goes on after eight, which the hash gives
unfoldable pub far_of : ℕ → Node → ℕ
far_of size n = hash_of n * size / 2 ^ 32

-- The place that the walk of a node comes to after k others: eight near the newer child, and then
-- all from the one that the hash gives. The first place comes behind the last.
unfoldable pub walk : ℕ → Node → ℕ → ℕ
walk size n k = cond (nat_lt k 8) (near_of size n + k) (far_of size n + (k - 8)) % size

-- the slot there
abbrev pub slot_on : List ℕ → Node → ℕ → ℕ
slot_on slots n k = slot_at slots (walk (length slots) n k)

-- the first k slots on the walk are used
abbrev pub AreUsed : List ℕ → Node → ℕ → Type 0
AreUsed slots n k = (i : ℕ) → i < k → is_used (slot_on slots n i) ≡ true

-- the slot stands on the walk of the node, behind used ones
abbrev pub IsOnWalk : List ℕ → Node → ℕ → Type 0
IsOnWalk slots n slot =
    (k : ℕ) × (k < length slots + 8) × (slot_on slots n k ≡ slot) × AreUsed slots n k

-- the walk of the node has come to its n-th place, behind used ones
pub record IsAt (slots : List ℕ) (node : Node) (n at : ℕ) : Type 0 where
  pub is : at ≡ walk (length slots) node n
  pub inside : at < length slots
  pub used : AreUsed slots node n

-- the slot is put at the first unused place of the walk of the node
pub record IsPlaced (old : List ℕ) (node : Node) (slot : ℕ) (new : List ℕ) : Type 0 where
  pub steps : ℕ
  pub within : steps < length old + 8
  pub inside : walk (length old) node steps < length old
  pub used : AreUsed old node steps
  pub free : is_used (slot_on old node steps) ≡ false
  pub is : new ≡ set old (walk (length old) node steps) slot

-- the slot of a node at place k of the list stands on the walk of the node
abbrev pub IsFindable : List ℕ → ℕ → Node → Type 0
IsFindable slots k n = IsOnWalk slots n (slot_of (hash_of n) (ref_at k))

-- the references of used slots are those of the first n nodes
abbrev pub AreInside : ℕ → List ℕ → Type 0
AreInside n slots =
    (i : ℕ) → is_used (slot_at slots i) ≡ true → (2 ≤ (ref_in (slot_at slots i)).0) ×
    ((ref_in (slot_at slots i)).0 < n + 2)

-- no slot on the first n places of the walk of a node is that of the node
abbrev pub IsPassed : List Node → List ℕ → Node → ℕ → Type 0
IsPassed nodes slots node n =
    (i : ℕ) → i < n → (r : Ref) → slot_on slots node i ≡ slot_of (hash_of node) r →
    plain_held nodes r ≡ Some node → ⊥

-- the table has a slot for each of the first n nodes, and no others
pub record HasFirst (nodes : List Node) (n : ℕ) (table : List ℕ) : Type 0 where
  pub few : taken table ≤ n
  pub inside : AreInside n table
  pub all : (k : ℕ) (node : Node) → k < n → slice_get nodes k ≡ Some node → IsFindable table k node

-- The slots say where each node stands, in words that a ghost field may use: each node has a slot
-- on its walk, each used slot has a node, and no node stands twice.
pub record IsIndexed (nodes : List Node) (slots : List ℕ) : Type 0 where
  pub placed : (k : ℕ) (n : Node) → slice_get nodes k ≡ Some n → (IsFindable slots k n → ⊥) → ⊥
  pub inside : AreInside (length nodes) slots
  pub distinct : (i k : ℕ) (n : Node) → slice_get nodes i ≡ Some n → slice_get nodes k ≡ Some n →
      i ≡ k
