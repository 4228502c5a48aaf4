-- Meaning. The sets of one time under all assignments at once, and the functions that a check of
-- them has to build: a bit for each assignment, in place of diagrams. Source: the dual rail of
-- Seger and Bryant 1995; which functions are built, and in which order products and sums are taken,
-- is a choice of this project.
use Rattle.std.specs.Prelude.{◌≡◌, All, ◌==◌, ◌&&◌, ◌||◌, ℕ, zero, suc, ◌++◌, ◌∷◌, [], Bool, true, false, not, List, length, map, Option, None, Some, if◌then◌else◌, slice_get, slice_index_or}
use Rattle.ste_base.specs.Functions.{Function}
use Rattle.net_core.specs.declared.bit_set.BitSet.{BitSet}
use Rattle.net_core.specs.declared.cover.Cover.{Cover}
use Rattle.net_core.specs.declared.cover.Lit.{Lit}
use Rattle.net_core.specs.declared.cover.Lit.TheVariants.{Zero, One, Any}
use Rattle.net_core.specs.declared.raw.Gate.{Gate}
use Rattle.net_core.specs.declared.raw.RawNet.{RawNet}
use Rattle.net_core.specs.declared.source.Source.{Source}
use Rattle.net_core.specs.declared.source.Source.TheVariants.{Input, Free, Gate as OfGate, Latch as OfLatch}
use Rattle.net_core.specs.Cases.{on_rows, off_rows}
use Rattle.net_core.specs.Possible.{Asked, ArePossible, is_weakened}
use Rattle.net_core.specs.Run.{Cut}
use Rattle.net_core.specs.Source.{source_of}

-- ---- functions

-- 0 under every assignment
abbrev pub never : Function
never bits = false

-- 1 under every assignment
abbrev pub always : Function
always bits = true

-- !f
abbrev pub negation : Function → Function
negation f bits = not (f bits)

-- f & g
abbrev pub conjunction : Function → Function → Function
conjunction f g bits = f bits && g bits

-- f | g
abbrev pub disjunction : Function → Function → Function
disjunction f g bits = f bits || g bits

-- f joined with the first of the functions, with the first two, and so on to all
abbrev pub chain : (Function → Function → Function) → Function → List Function → List Function
chain join f [] = []
chain join f (g ∷ gs) = join f g ∷ chain join (join f g) gs

-- f joined with all of the functions
abbrev pub whole : (Function → Function → Function) → Function → List Function → Function
whole join f [] = f
whole join f (g ∷ gs) = whole join (join f g) gs

-- the products: the first function, the product of the first two, and so on to all
abbrev pub products : List Function → List Function
products fs = chain conjunction always fs

-- the product of all, which is 1 where there is none
abbrev pub product : List Function → Function
product fs = whole conjunction always fs

-- the sums: the first function, the sum of the first two, and so on to all
abbrev pub sums : List Function → List Function
sums fs = chain disjunction never fs

-- the sum of all, which is 0 where there is none
abbrev pub sum : List Function → Function
sum fs = whole disjunction never fs

-- ---- sets

-- a set of bits for each assignment: where it has 0, and where it has 1
pub record SymbolicSet : Type 0 where
  pub zero : Function
  pub one : Function

-- the set under one assignment
abbrev pub set_at : List Bool → SymbolicSet → BitSet
set_at bits w = record { zero = w.zero bits; one = w.one bits }

-- both bits under every assignment
abbrev pub everything : SymbolicSet
everything = record { zero = always; one = always }

-- z | o: where the set has a bit
abbrev pub some_bit : SymbolicSet → Function
some_bit w = disjunction w.zero w.one

-- !(z | o): where it is empty
abbrev pub no_bit : SymbolicSet → Function
no_bit w = negation (some_bit w)

-- the functions for the test whether a set is empty
abbrev pub empty_work : SymbolicSet → List Function
empty_work w = some_bit w ∷ no_bit w ∷ []

-- the union of two sets
abbrev pub union : SymbolicSet → SymbolicSet → SymbolicSet
union v w = record { zero = disjunction v.zero w.zero; one = disjunction v.one w.one }

-- the functions for a union
abbrev pub union_work : SymbolicSet → SymbolicSet → List Function
union_work v w = (union v w).zero ∷ (union v w).one ∷ []

-- ---- cuts

-- a cut under all assignments: where the guard is 1, the net has the value
pub record SymbolicCut : Type 0 where
  pub node : ℕ
  pub guard : Function
  pub value : Function

-- the cut under one assignment
abbrev pub cut_at : List Bool → SymbolicCut → Cut
cut_at bits d = record { node = d.node; on = d.guard bits; value = d.value bits }

-- what is asked at one time under all assignments: cuts of nets, and which nets are weakened
pub record SymbolicAsked : Type 0 where
  pub cuts : List SymbolicCut
  pub weak : List ℕ

-- what is asked under one assignment
abbrev pub asked_under : List Bool → SymbolicAsked → Asked
asked_under bits asked = record { cuts = map (cut_at bits) asked.cuts; weak = asked.weak }

-- a set without the opposite of the value x where the guard g is 1
abbrev pub cut_set : SymbolicSet → Function → Function → SymbolicSet
cut_set w g x = record {
  zero = conjunction w.zero (negation (conjunction g x));
  one = conjunction w.one (negation (conjunction g (negation x)));
}

-- the functions for a cut: !x, g & x, g & !x, !(g & x), !(g & !x), and the new z and o
abbrev pub cut_work : SymbolicSet → Function → Function → List Function
cut_work w g x =
    negation x ∷ conjunction g x ∷ conjunction g (negation x)
    ∷ negation (conjunction g x) ∷ negation (conjunction g (negation x))
    ∷ (cut_set w g x).zero ∷ (cut_set w g x).one ∷ []

-- ---- gates

-- each row has a literal for each of n inputs
abbrev pub AreWide : List (List Lit) → ℕ → Type 0
AreWide rows n = All (λ row. length row ≡ n) rows

-- what a literal asks of a set: z for 0, o for 1, z | o for -
abbrev pub factor : Lit → SymbolicSet → Function
factor Zero w = w.zero
factor One w = w.one
factor Any w = some_bit w

-- what a row asks of the inputs' sets, by position
abbrev pub factors : List Lit → List SymbolicSet → List Function
factors [] sets = []
factors (lit ∷ row) [] = []
factors (lit ∷ row) (w ∷ sets) = factor lit w ∷ factors row sets

-- the whole product of each row
abbrev pub row_products : List (List Lit) → List SymbolicSet → List Function
row_products [] sets = []
row_products (row ∷ rows) sets = product (factors row sets) ∷ row_products rows sets

-- the products of each row
abbrev pub rows_chains : List (List Lit) → List SymbolicSet → List Function
rows_chains [] sets = []
rows_chains (row ∷ rows) sets = products (factors row sets) ++ rows_chains rows sets

-- the set of a gate with these on-rows and off-rows: z is the sum of the off-rows' products, o that
-- of the on-rows'
abbrev pub gate_set : List (List Lit) → List (List Lit) → List SymbolicSet → SymbolicSet
gate_set on off sets =
    record { zero = sum (row_products off sets); one = sum (row_products on sets) }

-- the functions for one list of rows: z | o of each input, the products of each row, and the sums
-- of their whole products
abbrev pub rows_work : List (List Lit) → List SymbolicSet → List Function
rows_work rows sets = map some_bit sets ++ (rows_chains rows sets ++ sums (row_products rows sets))

-- the functions for a gate
abbrev pub gate_work : List (List Lit) → List (List Lit) → List SymbolicSet → List Function
gate_work on off sets = rows_work on sets ++ rows_work off sets

-- ---- one time

-- the sets of a gate's inputs
abbrev pub input_sets : (ℕ → SymbolicSet) → Gate → List SymbolicSet
input_sets sets gate = map (λ input. sets input.0) gate.inputs

-- the set that a cover gives; one that is missing gives 0
abbrev pub cover_set : Option Cover → List SymbolicSet → SymbolicSet
cover_set None sets = record { zero = always; one = never }
cover_set (Some cover) sets = gate_set (on_rows cover) (off_rows cover) sets

-- the functions for it
abbrev pub cover_work : Option Cover → List SymbolicSet → List Function
cover_work None sets = []
cover_work (Some cover) sets = gate_work (on_rows cover) (off_rows cover) sets

-- the set that a gate gives
abbrev pub output_set : RawNet → (ℕ → SymbolicSet) → Gate → SymbolicSet
output_set net sets gate = cover_set (slice_get net.covers gate.cover) (input_sets sets gate)

-- the set of a gate that is there
abbrev pub by_gate : RawNet → (ℕ → SymbolicSet) → Option Gate → SymbolicSet
by_gate net sets None = everything
by_gate net sets (Some gate) = output_set net sets gate

-- the set of a net before its cuts, by what drives it
abbrev pub by_source : RawNet → List SymbolicSet → (ℕ → SymbolicSet) → Source → SymbolicSet
by_source net latches sets Input = everything
by_source net latches sets Free = everything
by_source net latches sets (OfGate g) = by_gate net sets (slice_get net.gates g)
by_source net latches sets (OfLatch l) = slice_index_or latches l everything

-- the set of a net before its cuts: both bits where it is weakened, and else by what drives it
abbrev pub unless_weakened : Bool → SymbolicSet → SymbolicSet
unless_weakened true w = everything
unless_weakened false w = w

-- the set of each net before its cuts, where the nets have these sets after their cuts
abbrev pub set_before_cuts : RawNet → List ℕ → List SymbolicSet → (ℕ → SymbolicSet) → ℕ →
    SymbolicSet
set_before_cuts net weak latches sets id =
    unless_weakened (is_weakened weak id) (by_source net latches sets (source_of net id))

-- sets after one more cut
abbrev pub after_cut : SymbolicCut → (ℕ → SymbolicSet) → ℕ → SymbolicSet
after_cut d sets id = if d.node == id then cut_set (sets id) d.guard d.value else sets id

-- sets after all cuts, in order
abbrev pub after_cuts : List SymbolicCut → (ℕ → SymbolicSet) → ℕ → SymbolicSet
after_cuts [] sets = sets
after_cuts (d ∷ cuts) sets = after_cuts cuts (after_cut d sets)

-- the functions for all cuts, in order
abbrev pub cuts_work : List SymbolicCut → (ℕ → SymbolicSet) → List Function
cuts_work [] sets = []
cuts_work (d ∷ cuts) sets = cut_work (sets d.node) d.guard d.value
    ++ cuts_work cuts (after_cut d sets)

-- the functions for a gate, which are none where its output is weakened
abbrev pub one_gate_work : Bool → RawNet → (ℕ → SymbolicSet) → Gate → List Function
one_gate_work true net sets gate = []
one_gate_work false net sets gate =
    cover_work (slice_get net.covers gate.cover) (input_sets sets gate)

-- the functions for all gates whose outputs are not weakened
abbrev pub gates_work : RawNet → List ℕ → (ℕ → SymbolicSet) → List Gate → List Function
gates_work net weak sets [] = []
gates_work net weak sets (gate ∷ gates) =
    one_gate_work (is_weakened weak gate.output.0) net sets gate ++ gates_work net weak sets gates

-- the sets of the first n nets
abbrev pub sets_below : (ℕ → SymbolicSet) → ℕ → List SymbolicSet
sets_below sets zero = []
sets_below sets (suc n) = sets_below sets n ++ sets n ∷ []

-- where some net is empty
abbrev pub some_empty : RawNet → (ℕ → SymbolicSet) → Function
some_empty net sets = sum (map no_bit (sets_below sets net.nets))

-- The work functions of one time, from a set for each latch and what is asked, where the nets have
-- these sets after their cuts: those of the cuts and of the gates, z | o and !(z | o) of each net,
-- and the sums of the latter by net.
abbrev pub time_work : RawNet → List SymbolicSet → SymbolicAsked → (ℕ → SymbolicSet) → List Function
time_work net latches asked sets =
    let all = sets_below sets net.nets in
    cuts_work asked.cuts (set_before_cuts net asked.weak latches sets)
    ++ (gates_work net asked.weak sets net.gates
    ++ (map some_bit all ++ (map no_bit all ++ sums (map no_bit all))))

-- the sets are the possible ones of one time, under each assignment of so many variables
abbrev pub ArePossibleEach : ℕ → RawNet → List SymbolicSet → SymbolicAsked → (ℕ → SymbolicSet) →
    Type 0
ArePossibleEach vars net latches asked sets =
    (bits : List Bool) → length bits ≡ vars →
    ArePossible net (map (set_at bits) latches) (asked_under bits asked)
    (λ id. set_at bits (sets id))
