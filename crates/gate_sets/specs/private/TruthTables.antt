-- For private functions. Gates of few inputs by tables: a number whose bits say, for each choice of
-- bits for the inputs, whether some row matches it. A choice is the place of a bit: the first
-- input's bit is its lowest digit. Where there are fewer than six inputs, nothing is said of the
-- other places.
use Rattle.std.specs.Prelude.{◌≡◌, ◌<◌, ◌≤◌, ◌+◌, ◌*◌, ◌&&◌, ◌||◌, ℕ, zero, suc, Bool, true, false, List, [], ◌∷◌, All, IfSome, Option, drop, get_or, length, map, set, take}
use Rattle.std.specs.Int.{bit_at}
use Rattle.dd_nodes.specs.declared.node.Ref.{Ref}
use Rattle.ste_base.specs.Functions.{Function}
use Rattle.dd_nodes.specs.Diagram.{Held, IsDiagram, IsFrom, child}
use Rattle.dd_nodes.specs.Stores.{Means, Store, function}
use Rattle.net_core.specs.declared.cover.Lit.{Lit}
use Rattle.net_core.specs.Cover.{some_matches}
use Rattle.net_core.specs.Work.{SymbolicSet}
use Rattle.dual_rail.specs.declared.rails.Rails.{Rails}
use Rattle.dual_rail.specs.Rail.{AreRails, AreRefs}
use Rattle.gate_sets.specs.declared.net_rails.NetRails.{NetRails}
use Rattle.gate_sets.specs.declared.rows.CoverRows.{CoverRows}
use Rattle.gate_sets.specs.declared.truth_table.TruthTables.{TruthTables}
use Rattle.gate_sets.specs.declared.gate_memo.Entry.{Entry}
use Rattle.gate_sets.specs.declared.gate_memo.GateMemo.{GateMemo}

-- the place of a choice in a table
abbrev pub choice_place : List Bool → ℕ
choice_place [] = 0
choice_place (true ∷ choice) = 1 + 2 * choice_place choice
choice_place (false ∷ choice) = 2 * choice_place choice

-- whether a bit is 1
abbrev pub is_one : ℕ → Bool
is_one zero = false
is_one (suc n) = true

-- whether a choice is in a table
abbrev pub in_table : ℕ → List Bool → Bool
in_table table choice = is_one (bit_at table (choice_place choice))

-- where the sets have bits that are one of these choices
abbrev pub some_choice : (List Bool → Bool) → List SymbolicSet → Function
some_choice p [] bits = p []
some_choice p (w ∷ ws) bits =
    (w.zero bits && some_choice (λ choice. p (false ∷ choice)) ws bits) ||
    (w.one bits && some_choice (λ choice. p (true ∷ choice)) ws bits)

-- where they have bits that are a choice of the table
abbrev pub table_choice : ℕ → List SymbolicSet → Function
table_choice table = some_choice (in_table table)

-- the own set of two references
abbrev pub own_set_of : Store → Rails → SymbolicSet
own_set_of s r = record { zero = function s r.can0; one = function s r.can1 }

-- the same, where the sets are those of references
abbrev pub choice_of_rails : ℕ → Store → List Rails → Function
choice_of_rails table s operands = table_choice table (map (own_set_of s) operands)

-- the set of a gate with these tables, whose inputs have the sets of these references
abbrev pub set_by_tables : TruthTables → Store → List Rails → SymbolicSet
set_by_tables tables s operands =
    record {
      zero = choice_of_rails tables.can0 s operands;
      one = choice_of_rails tables.can1 s operands;
    }

-- the references have some bit under this assignment
abbrev pub HasBit : Store → List Bool → Rails → Type 0
HasBit s bits r = (function s r.can0 bits || function s r.can1 bits) ≡ true

-- they have one under each
abbrev pub IsFull : Store → Rails → Type 0
IsFull s r = (bits : List Bool) → length bits ≡ s.vars → HasBit s bits r

-- the set of both bits
abbrev pub free_rails : Rails
free_rails = record { can0 = record { 0 = 1 }; can1 = record { 0 = 1 } }

-- with the input at a place free, the second table has a choice where the first one has one of the
-- inputs as they were, whatever the other inputs are
abbrev pub IsSettled : ℕ → ℕ → ℕ → Rails → Type 0
IsSettled before after place r =
    (s : Store) → IsDiagram s.held s.vars → (operands : List Rails) (bits : List Bool) →
    length operands ≤ 6 → length bits ≡ s.vars
    → place < length operands → r ≡ get_or operands place r → All (HasBit s bits) operands
    → choice_of_rails before s operands bits ≡ choice_of_rails after s
    (set operands place free_rails) bits

-- of both tables
pub record AreSettled (before after : TruthTables) (place : ℕ) (r : Rails) : Type 0 where
  pub zero : IsSettled before.can0 after.can0 place r
  pub one : IsSettled before.can1 after.can1 place r

-- the second table has a choice of these references where the first one has one of those, and they
-- are held and have a bit where those are and do
pub record AreAlike (before after : TruthTables) (old new : List Rails) : Type 0 where
  pub long : length new ≡ length old
  pub zero : (s : Store) → IsDiagram s.held s.vars → All (IsFull s) old → (bits : List Bool) →
      length bits ≡ s.vars →
      choice_of_rails before.can0 s old bits ≡ choice_of_rails after.can0 s new bits
  pub one : (s : Store) → IsDiagram s.held s.vars → All (IsFull s) old → (bits : List Bool) →
      length bits ≡ s.vars →
      choice_of_rails before.can1 s old bits ≡ choice_of_rails after.can1 s new bits
  pub refs : (s : Store) → IsDiagram s.held s.vars → All (AreRefs s) old → All (AreRefs s) new
  pub full : (s : Store) → IsDiagram s.held s.vars → All (IsFull s) old → All (IsFull s) new

-- a reference is where the sets of these references have bits that are a choice of the table
abbrev pub IsDecided : ℕ → List Rails → Ref → Type 0
IsDecided table operands r =
    (s : Store) → IsDiagram s.held s.vars → All (AreRefs s) operands → All (IsFull s) operands →
    Means s (choice_of_rails table s operands) r

-- both are, for two tables
pub record AreBothDecided (tables : TruthTables) (operands : List Rails) (r : Rails) : Type 0 where
  pub zero : IsDecided tables.can0 operands r.can0
  pub one : IsDecided tables.can1 operands r.can1

-- references with a variable fixed to a bit
abbrev pub half_rails : Held → ℕ → Bool → Rails → Rails
half_rails h var bit r = record { can0 = child h var bit r.can0; can1 = child h var bit r.can1 }

-- neither reference reads a variable before this one
pub record AreFrom (h : Held) (var : ℕ) (r : Rails) : Type 0 where
  pub zero : IsFrom h var r.can0
  pub one : IsFrom h var r.can1

-- the first two references of a net's set
abbrev pub rails_of : NetRails → Rails
rails_of r = record { can0 = r.can0; can1 = r.can1 }

-- what is found, if anything, has this set
abbrev pub HasSetOrNot : SymbolicSet → Store → Option Rails → Type 0
HasSetOrNot w s found = IfSome found (λ r. AreRails s w r)

-- the so many references of an entry of what was met
abbrev pub entry_operands : ℕ → List Rails → Entry → List Rails
entry_operands n operands e = take n (drop e.begin operands)

-- an entry has so many references, and the set for them
pub record IsEntry (s : Store) (n : ℕ) (operands : List Rails) (e : Entry) : Type 0 where
  pub inside : e.begin + n ≤ length operands
  pub refs : All (AreRefs s) (entry_operands n operands e)
  pub set : AreRails s (set_by_tables e.tables s (entry_operands n operands e)) e.rails

-- all entries do
abbrev pub AreMet : Store → ℕ → GateMemo → Type 0
AreMet s n m = All (IsEntry s n m.operands.items) m.entries.items

-- the tables are those of both lists of rows
pub record AreTables (on off : List (List Lit)) (n : ℕ) (t : TruthTables) : Type 0 where
  pub zero : (choice : List Bool) → length choice ≡ n →
      in_table t.can0 choice ≡ some_matches off choice
  pub one : (choice : List Bool) → length choice ≡ n →
      in_table t.can1 choice ≡ some_matches on choice

-- they are those of the lists of a cover, where it has at most six inputs
abbrev pub HaveTables : CoverRows → TruthTables → Type 0
HaveTables rows t = rows.on.width ≤ 6 → AreTables rows.on.list rows.off.list rows.on.width t
