-- Law: literal runs and the runs of the model that a text is read as correspond one to one on the
-- variables that the text mentions.
use Rattle.std.specs.Prelude.{◌≡◌, ◌<◌, ◌∷◌, ◌+◌, [], ℕ, Bool, false, List, Contains, Some, slice_get, nat_eq, if◌then◌else◌}
use Rattle.hierarchy.specs.Lines.{signals}
use Rattle.hierarchy.specs.Runs.{IsHierarchicalRun, StartsAsAsked}
use Rattle.aig_model.specs.declared.aig.Aig.{Aig}
use Rattle.aig_model.specs.declared.aig.AigOutput.{AigOutput}
use Rattle.aig_model.specs.Literals.{IsLiteralRun, StartsAsGiven, literal_bit}
use Rattle.aig_model.specs.Names.{output_names, own_opposite, variable_name}
use Rattle.aig_model.specs.Netlist.{model_of, opposites}
use Rattle.aig_model.specs.Sound.{IsSoundAig, variables}

-- the bits of variables, from those of signals; variable 0 is 0, mentioned or not
abbrev pub literal_bits : Aig → (List ℕ → List ℕ → ℕ → Bool) → ℕ → ℕ → Bool
literal_bits aig run t v = if nat_eq v 0 then false else run [] (variable_name aig v) t

-- A run of the model has the bits of a literal run: of each variable that is mentioned, of each
-- opposite that a latch takes, and of each output.
pub record HasBitsOf (aig : Aig) (n : ℕ) (bit : ℕ → ℕ → Bool) (run : List ℕ → List ℕ → ℕ →
    Bool) : Type 0 where
  pub mentioned : (t v : ℕ) → t < n → Contains (variables aig) v →
      run [] (variable_name aig v) t ≡ bit t v
  pub opposite : (t v : ℕ) → t < n → Contains (opposites aig) v →
      run [] (own_opposite v) t ≡ literal_bit (bit t) (v + v + 1)
  pub outputs : (t k : ℕ) (out : AigOutput) (name : List ℕ) → t < n →
      slice_get aig.outputs k ≡ Some out →
      slice_get (output_names aig) k ≡ Some name → run [] name t ≡ literal_bit (bit t) out.literal

-- Runs of length n of the two kinds correspond: each has the bits of one of the other kind, and no
-- two runs of the model have the same bits on what is mentioned and differ elsewhere. What latches
-- start with corresponds too.
pub record CorrespondsTo (aig : Aig) (n : ℕ) : Type 0 where
  pub to_literals : (run : List ℕ → List ℕ → ℕ → Bool) →
      IsHierarchicalRun (model_of aig ∷ []) n run →
      IsLiteralRun aig n (literal_bits aig run) × HasBitsOf aig n (literal_bits aig run) run
  pub to_signals : (bit : ℕ → ℕ → Bool) → IsLiteralRun aig n bit →
      (run : List ℕ → List ℕ → ℕ → Bool) × IsHierarchicalRun (model_of aig ∷ []) n run × HasBitsOf
      aig n bit run
  pub one : (run other : List ℕ → List ℕ → ℕ → Bool) → IsHierarchicalRun (model_of aig ∷ []) n run →
      IsHierarchicalRun (model_of aig ∷ []) n other →
      ((t v : ℕ) → t < n → Contains (variables aig) v →
      run [] (variable_name aig v) t ≡ other [] (variable_name aig v) t) →
      (signal : List ℕ) → Contains (signals (model_of aig)) signal →
      (t : ℕ) → t < n → run [] signal t ≡ other [] signal t
  pub starts : (reset : Bool) (bit : ℕ → ℕ → Bool) (run : List ℕ → List ℕ → ℕ → Bool) → 0 < n →
      HasBitsOf aig n bit run →
      (StartsAsAsked (model_of aig ∷ []) reset run → StartsAsGiven aig reset bit)
      × (StartsAsGiven aig reset bit → StartsAsAsked (model_of aig ∷ []) reset run)

-- Law: so it is for each text that is read.
abbrev pub LiteralsCorrespond : Type 0
LiteralsCorrespond = (aig : Aig) → IsSoundAig aig → (n : ℕ) → CorrespondsTo aig n
