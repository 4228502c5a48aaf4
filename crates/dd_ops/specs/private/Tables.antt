-- A table of results that is searched by walks: for private functions.
use Rattle.std.specs.Prelude.{◌≡◌, ◌<◌, ◌≤◌, ◌+◌, ◌*◌, ◌/◌, ◌%◌, ◌^◌, ◌&&◌, ◌⊎◌, ℕ, Bool, true, false, not, List, length, get_or, set, take, Contains}
use Rattle.std.specs.List.{count_by}
use Rattle.dd_nodes.specs.declared.node.Ref.{Ref}
use Rattle.dd_nodes.specs.Diagram.{same_ref}
use Rattle.dd_ops.specs.declared.operands.Operands.{Operands}
use Rattle.dd_ops.specs.declared.few.Entry.{Entry}

-- whether operands are the same, one by one
abbrev pub same_operands : Operands → Operands → Bool
same_operands x y =
    same_ref x.first y.first && (same_ref x.second y.second && same_ref x.third y.third)

abbrev pub entry_of : Operands → Ref → Entry
entry_of x r = record { operands = x; result = r }

-- the operands of an unused place
abbrev pub no_operands : Operands
no_operands =
    record { first = record { 0 = 0 }; second = record { 0 = 0 }; third = record { 0 = 0 } }

abbrev pub is_used : Operands → Bool
is_used x = not (same_operands x no_operands)

-- what stands at a place; an unused entry behind the last
abbrev pub entry_at : List Entry → ℕ → Entry
entry_at es i = get_or es i (entry_of no_operands (record { 0 = 0 }))

-- how many entries are used
abbrev pub taken : List Entry → ℕ
taken es = count_by (λ e. is_used e.operands) es

-- the number that is made of operands, modulo 2^64 (multiplicative hashing)
unfoldable pub mixed : Operands → ℕ
mixed x =
    ((x.first.0 * 11400714819323198485 % 2 ^ 64 + x.second.0 * 14029467366897019727 % 2 ^ 64) % 2 ^ 64 + x.third.0 * 9650029242287828579 % 2 ^ 64) % 2 ^ 64

-- the place where the walk of operands begins
unfoldable pub home : ℕ → Operands → ℕ
home size x = mixed x * size / 2 ^ 64

-- the place that the walk comes to after k others: from the home on, and from the last one to the
-- first
unfoldable pub walk : ℕ → Operands → ℕ → ℕ
walk size x k = (home size x + k) % size

-- the entry there
abbrev pub entry_on : List Entry → Operands → ℕ → Entry
entry_on es x k = entry_at es (walk (length es) x k)

-- the first k entries on the walk are used
abbrev pub AreUsed : List Entry → Operands → ℕ → Type 0
AreUsed es x k = (i : ℕ) → i < k → is_used (entry_on es x i).operands ≡ true

-- a search for these operands finds them
abbrev pub IsOnWalk : List Entry → Operands → Type 0
IsOnWalk es x = (k : ℕ) × (k < length es) × ((entry_on es x k).operands ≡ x) × AreUsed es x k

-- the walk has come to its n-th place, behind used ones
pub record IsAt (es : List Entry) (x : Operands) (n at : ℕ) : Type 0 where
  pub is : at ≡ walk (length es) x n
  pub inside : at < length es
  pub used : AreUsed es x n

-- the first n entries on the walk have other operands
abbrev pub Differ : List Entry → Operands → ℕ → Type 0
Differ es x n = (i : ℕ) → i < n → (entry_on es x i).operands ≡ x → ⊥

-- the entry is put at the first unused place of its walk
pub record IsPlaced (old : List Entry) (e : Entry) (new : List Entry) : Type 0 where
  pub steps : ℕ
  pub within : steps < length old
  pub used : AreUsed old e.operands steps
  pub free : is_used (entry_on old e.operands steps).operands ≡ false
  pub is : new ≡ set old (walk (length old) e.operands steps) e

-- what a search finds in the one table stands in the other, or is the entry, and all that it found
-- there it finds here, and the entry
pub record AddsEntry (old : List Entry) (e : Entry) (new : List Entry) : Type 0 where
  pub only : (y : Operands) (q : Ref) → is_used y ≡ true → Contains new (entry_of y q) →
      Contains old (entry_of y q) ⊎ ((y ≡ e.operands) × (q ≡ e.result))
  pub kept : (y : Operands) → is_used y ≡ true → IsOnWalk old y → IsOnWalk new y
  pub added : IsOnWalk new e.operands

-- the table has just the first n of these entries that are used, each where a search finds it
pub record HasFirst (entries : List Entry) (n : ℕ) (table : List Entry) : Type 0 where
  pub few : taken table ≤ taken (take n entries)
  pub only : (y : Operands) (q : Ref) → is_used y ≡ true → Contains table (entry_of y q) →
      Contains entries (entry_of y q)
  pub all : (i : ℕ) → i < n → i < length entries → is_used (entry_at entries i).operands ≡ true →
      IsOnWalk table (entry_at entries i).operands

-- the table has just these entries that are used, each where a search finds it
abbrev pub HasEntries : List Entry → List Entry → Type 0
HasEntries entries table = HasFirst entries (length entries) table
