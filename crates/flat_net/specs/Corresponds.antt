-- Law: flat runs and hierarchical runs correspond one to one, net by net; and the bits of the one
-- from those of the other.
use Rattle.std.specs.Prelude.{◌≡◌, ◌<◌, ℕ, [], List, Some, Bool, All, Contains, slice_index_or}
use Rattle.net_core.specs.Run.{IsRun, MayStart}
use Rattle.net_core.specs.declared.raw.RawNet.{RawNet}
use Rattle.blif_syntax.specs.declared.models.Model.{Model}
use Rattle.hierarchy.specs.Lines.{signals}
use Rattle.hierarchy.specs.Instances.{model_at}
use Rattle.hierarchy.specs.Nets.{nets, number_at}
use Rattle.hierarchy.specs.Sizes.{IsShallow}
use Rattle.flat_net.specs.Flat.{IsFlat}
use Rattle.hierarchy.specs.Runs.{IsHierarchicalRun, StartsAsAsked}

-- the bits of nets, from those of signals: a net has the bit of the signal that it is made for
abbrev pub flat_bits : List Model → (List ℕ → List ℕ → ℕ → Bool) → ℕ → ℕ → Bool
flat_bits models run t id =
    let net = slice_index_or (nets models) id (record { path = []; signal = [] }) in
    run net.path net.signal t

-- the bits of signals, from those of nets: a signal has the bit of its net
abbrev pub signal_bits : List Model → (ℕ → ℕ → Bool) → List ℕ → List ℕ → ℕ → Bool
signal_bits models bit path signal t = bit t (number_at models path signal)

-- Runs of length n of the two kinds correspond: each makes one of the other kind, and both ways
-- together lead back, to the same bit of each signal of an instance, and of each net. What their
-- latches start with corresponds too.
pub record Corresponds (models : List Model) (net : RawNet) (n : ℕ) : Type 0 where
  pub to_flat : (run : List ℕ → List ℕ → ℕ → Bool) →
      IsHierarchicalRun models n run → IsRun net n (flat_bits models run)
  pub to_hierarchy : (bit : ℕ → ℕ → Bool) → IsRun net n bit →
      IsHierarchicalRun models n (signal_bits models bit)
  pub there_and_back : (run : List ℕ → List ℕ → ℕ → Bool) → IsHierarchicalRun models n run →
      (path : List ℕ) (model : Model) → model_at models path ≡ Some model →
      (signal : List ℕ) → Contains (signals model) signal → (t : ℕ) → t < n →
      signal_bits models (flat_bits models run) path signal t ≡ run path signal t
  pub back_and_there : (bit : ℕ → ℕ → Bool) (t id : ℕ) → id < net.nets →
      flat_bits models (signal_bits models bit) t id ≡ bit t id
  pub starts_to_flat : (reset : Bool) (run : List ℕ → List ℕ → ℕ → Bool) → 0 < n →
      IsHierarchicalRun models n run → StartsAsAsked models reset run →
      All (λ latch. MayStart reset latch (flat_bits models run 0 latch.output.0)) net.latches
  pub starts_to_hierarchy : (reset : Bool) (bit : ℕ → ℕ → Bool) →
      All (λ latch. MayStart reset latch (bit 0 latch.output.0)) net.latches →
      StartsAsAsked models reset (signal_bits models bit)

-- Law: where no path is longer than 64 numbers, runs of a hierarchy and of its flat net correspond.
abbrev pub RunsCorrespond : Type 0
RunsCorrespond =
    (models : List Model) (net : RawNet) → IsShallow models → IsFlat models net → (n : ℕ) →
    Corresponds models net n
