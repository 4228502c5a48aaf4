-- Meaning. The sets of one time under all assignments at once, by references.
use Rattle.std.specs.Prelude.{◌≡◌, ◌<◌, ℕ, Bool, List, length, map, slice_index_or}
use Rattle.std.specs.List.{AllZip}
use Rattle.ste_base.specs.declared.id.NodeId.{NodeId}
use Rattle.dd_nodes.specs.Stores.{Store, IsRef, Means, function}
use Rattle.net_core.specs.declared.raw.RawNet.{RawNet}
use Rattle.net_core.specs.Work.{ArePossibleEach, SymbolicAsked, SymbolicSet, SymbolicCut, some_empty}
use Rattle.dual_rail.specs.declared.rails.Rails.{Rails}
use Rattle.dual_rail.specs.Rail.{AreRails, set_of}
use Rattle.net_core.specs.declared.bit_set.BitSet.{BitSet}
use Rattle.net_core.specs.Possible.{Asked, ArePossible}
use Rattle.sym_step.specs.declared.cut.Cut.{Cut}
use Rattle.sym_step.specs.declared.made.Step.{Step}

-- the rails of a net in a list, one for each net; both bits for a number that is no net
abbrev pub rails_at : List Rails → ℕ → Rails
rails_at rails id =
    slice_index_or rails id (record { can0 = record { 0 = 1 }; can1 = record { 0 = 1 } })

-- the references of a cut have the functions of this one
pub record IsCutBy (s : Store) (d : SymbolicCut) (c : Cut) : Type 0 where
  pub node : d.node ≡ c.node.0
  pub guard : Means s d.guard c.guard
  pub value : Means s d.value c.value

-- a cut's references are constants, or held, and its net is one of the net's
pub record IsCutOf (s : Store) (net : RawNet) (c : Cut) : Type 0 where
  pub node : c.node.0 < net.nets
  pub guard : IsRef s c.guard
  pub value : IsRef s c.value

-- the rails are those of the sets, net by net
abbrev pub HaveSets : RawNet → (ℕ → SymbolicSet) → Store → List Rails → Type 0
HaveSets net sets t rails = (id : ℕ) → id < net.nets → AreRails t (sets id) (rails_at rails id)

-- a step has these sets: each net's, where some net is empty, and the sets of the latch inputs
pub record IsStep (net : RawNet) (sets : ℕ → SymbolicSet) (t : Store) (r : Step) : Type 0 where
  pub long : length r.nets ≡ net.nets
  pub nets : HaveSets net sets t r.nets
  pub contradictory : Means t (some_empty net sets) r.contradictory
  pub next : AllZip (AreRails t) (map (λ latch. sets latch.input.0) net.latches) r.next

-- nets by their numbers
abbrev pub ids_of : List NodeId → List ℕ
ids_of nodes = map (λ node. node.0) nodes

-- what is asked under an assignment, where these nets are weakened and these cuts are made
abbrev pub asked_of : Store → List Bool → List NodeId → List Cut → Asked
asked_of s bits weak cuts = record {
  cuts = map (λ c. record {
    node = c.node.0;
    on = function s c.guard bits;
    value = function s c.value bits;
  }) cuts;
  weak = ids_of weak;
}

-- the sets of the nets under an assignment
abbrev pub sets_of : Store → List Bool → List Rails → ℕ → BitSet
sets_of t bits rails id = set_of t bits (rails_at rails id)

-- Under each assignment of so many variables the nets have the possible sets of one time, from the
-- latches' sets and what is asked.
abbrev pub IsPossibleStep : RawNet → List Rails → List NodeId → List Cut → Store → Store → Step →
    Type 0
IsPossibleStep net latches weak cuts s t r =
    (bits : List Bool) → length bits ≡ s.vars →
    ArePossible net (map (set_of s bits) latches) (asked_of s bits weak cuts)
    (sets_of t bits r.nets)

-- For all functions that these references have, of the latches' sets and of what is asked, and all
-- sets that are then possible at one time.
abbrev pub ForPossible : Store → RawNet → List Rails → List NodeId → List Cut →
    (List SymbolicSet → SymbolicAsked → (ℕ → SymbolicSet) → Type 0) → Type 0
ForPossible s net latches weak cuts P =
    (ls : List SymbolicSet) (asked : SymbolicAsked) (sets : ℕ → SymbolicSet) →
    AllZip (AreRails s) ls latches →
    AllZip (IsCutBy s) asked.cuts cuts → asked.weak ≡ ids_of weak →
    ArePossibleEach s.vars net ls asked sets →
    P ls asked sets
