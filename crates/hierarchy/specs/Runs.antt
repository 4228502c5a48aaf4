-- Meaning. Two-valued runs of a hierarchy: a bit for each instance, signal and time step, over the
-- lines as they were written, and what they may start with. A run of length n is asked nothing from
-- time n on. Source: Seger and Bryant 1995, read on two-valued runs, over the Berkeley description
-- of BLIF.
use Rattle.std.specs.Prelude.{◌≡◌, ◌<◌, ℕ, suc, ◌∷◌, List, Some, Bool, Contains, IsTrue, map}
use Rattle.net_core.specs.Cover.{cover_bit}
use Rattle.net_core.specs.Run.{IsInitial}
use Rattle.blif_syntax.specs.declared.models.Model.{Model}
use Rattle.hierarchy.specs.Lines.{GateLine, LatchLine, gate_lines, latch_lines}
use Rattle.hierarchy.specs.Instances.{bound_to, model_at}

-- A hierarchical run of length n: in each instance each gate's output follows its inputs, each
-- latch output has at t + 1 the bit of the latch input at t, and a bound formal has the bit of its
-- actual in the instance above.
pub record IsHierarchicalRun (models : List Model) (n : ℕ) (run : List ℕ → List ℕ → ℕ → Bool) :
    Type 0 where
  pub gates : (path : List ℕ) (model : Model) → model_at models path ≡ Some model →
      (gate : GateLine) → Contains (gate_lines model) gate → (t : ℕ) → t < n →
      run path gate.output t ≡ cover_bit gate.cover (map (λ input. run path input t) gate.inputs)
  pub latches : (path : List ℕ) (model : Model) → model_at models path ≡ Some model →
      (latch : LatchLine) → Contains (latch_lines model) latch → (t : ℕ) → suc t < n →
      run path latch.output (suc t) ≡ run path latch.input t
  pub formals : (above : List ℕ) (number : ℕ) (formal actual : List ℕ) →
      bound_to models above number formal ≡ Some actual → (t : ℕ) → t < n →
      run (number ∷ above) formal t ≡ run above actual t

-- each latch has at time 0 a bit that it may start with: with reset that of its initial value, and
-- otherwise either
abbrev pub StartsAsAsked : List Model → Bool → (List ℕ → List ℕ → ℕ → Bool) → Type 0
StartsAsAsked models reset run =
    (path : List ℕ) (model : Model) → model_at models path ≡ Some model →
    (latch : LatchLine) → Contains (latch_lines model) latch →
    IsTrue reset → IsInitial latch.init (run path latch.output 0)
