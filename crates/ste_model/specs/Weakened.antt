-- Laws. What weakening more nets does to tables and to findings. A graph has no law like that of an
-- assertion: an edge that no path reached before may be reached when nets are weakened, and then be
-- found strong.
use Rattle.std.specs.Prelude.{◌≡◌, ◌⊎◌, ℕ, ◌<◌, Bool, List, All}
use Rattle.std.specs.List.{AllZip}
use Rattle.net_core.specs.declared.bit_set.BitSet.{BitSet}
use Rattle.net_core.specs.declared.raw.RawNet.{RawNet}
use Rattle.net_core.specs.Possible.{Asked}
use Rattle.net_core.specs.Run.{IsSettled}
use Rattle.net_core.specs.Sets.{IsWithin}
use Rattle.net_core.specs.Weakened.{WeakensMore}
use Rattle.ste_model.specs.declared.task.Assertion.{Assertion}
use Rattle.ste_model.specs.declared.task.Edge.{Edge}
use Rattle.ste_model.specs.declared.task.Graph.{Graph}
use Rattle.ste_model.specs.Asked.{weakened_at}
use Rattle.ste_model.specs.Edges.{weakened_on}
use Rattle.ste_model.specs.Found.{FailsStrongly, FailsWeakly, IsContradictory, IsStrong, IsWeak}
use Rattle.ste_model.specs.GraphFound.{FailsOn}
use Rattle.ste_model.specs.GraphTable.{IsFeasible, IsLeastClosed, IsTableWithin, VertexState}
use Rattle.ste_model.specs.Table.{IsPossible}

-- the same cuts, and each net that the first one weakens
pub record AsksWeaker (one other : Asked) : Type 0 where
  pub cuts : other.cuts ≡ one.cuts
  pub weak : WeakensMore one.weak other.weak

-- the same assertion, with more nets weakened at each time
pub record IsWeakerTask (one other : Assertion) : Type 0 where
  pub reset : other.reset ≡ one.reset
  pub ant : other.ant ≡ one.ant
  pub con : other.con ≡ one.con
  pub weak : (t : ℕ) → WeakensMore (weakened_at one.weak t) (weakened_at other.weak t)

-- the same edge, with more nets weakened
pub record IsWeakerEdge (one other : Edge) : Type 0 where
  pub from : other.from ≡ one.from
  pub to : other.to ≡ one.to
  pub ant : other.ant ≡ one.ant
  pub con : other.con ≡ one.con
  pub weak : WeakensMore (weakened_on one) (weakened_on other)

-- the same graph, with more nets weakened on each edge
pub record IsWeakerGraph (one other : Graph) : Type 0 where
  pub reset : other.reset ≡ one.reset
  pub edges : AllZip IsWeakerEdge one.edges other.edges

-- Law: in a net without loops, with more nets weakened, no bit leaves a possible table, or the
-- least closed table of a graph; an assignment that is not contradictory does not become so, nor
-- strong where it was not; one that is strong or weak stays one of the two; a consequent of an edge
-- that is found strong was found strong before, where the edge was feasible; and an edge with a
-- consequent that is found strong or weak still has one.
pub record WeakenedGrow : Type 0 where
  pub tables : (net : RawNet) (reset : Bool) (one other : ℕ → Asked) (n : ℕ) (small large : ℕ → ℕ →
      BitSet) →
      IsSettled net → ((t : ℕ) → t < n → AsksWeaker (one t) (other t)) →
      IsPossible net reset one n small →
      IsPossible net reset other n large → (t id : ℕ) → t < n → IsWithin (small t id) (large t id)
  pub closed : (net : RawNet) (one other : Graph) (bits : List Bool) (small large : ℕ →
      VertexState) →
      IsSettled net → IsWeakerGraph one other → IsLeastClosed net one bits small →
      IsLeastClosed net other bits large → IsTableWithin small large
  pub strong : (net : RawNet) (one other : Assertion) (bits : List Bool) → IsSettled net →
      IsWeakerTask one other →
      All (λ quint. quint.node.0 < net.nets) one.con → ¬ IsContradictory net one bits →
      IsStrong net other bits →
      IsStrong net one bits
  pub full : (net : RawNet) (one other : Assertion) (bits : List Bool) → IsSettled net →
      IsWeakerTask one other →
      ¬ IsContradictory net one bits → ¬ IsContradictory net other bits
  pub failing : (net : RawNet) (one other : Assertion) (bits : List Bool) → IsSettled net →
      IsWeakerTask one other →
      IsStrong net one bits ⊎ IsWeak net one bits → IsStrong net other bits ⊎ IsWeak net other bits
  pub edges : (net : RawNet) (one other : Edge) (bits : List Bool) (small large : ℕ → VertexState)
      (sets : ℕ → BitSet) → IsSettled net → IsWeakerEdge one other → IsTableWithin small large →
      All (λ bind. bind.node.0 < net.nets) one.con → IsFeasible net bits small one sets →
      FailsOn FailsStrongly net bits large other → FailsOn FailsStrongly net bits small one
  pub failing_edges : (net : RawNet) (one other : Edge) (bits : List Bool) (small large : ℕ →
      VertexState) →
      IsSettled net → IsWeakerEdge one other → IsTableWithin small large →
      FailsOn FailsStrongly net bits small one ⊎ FailsOn FailsWeakly net bits small one →
      FailsOn FailsStrongly net bits large other ⊎ FailsOn FailsWeakly net bits large other
