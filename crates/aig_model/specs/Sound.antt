-- Meaning. Which variables an AIGER text defines and mentions, and what holds of each text that is
-- read.
use Rattle.std.specs.Prelude.{◌≢◌, ◌<◌, ◌∷◌, ◌++◌, ◌^◌, ℕ, List, [], All, AllPairs, length, map, flat_map}
use Rattle.aig_model.specs.declared.aig.Aig.{Aig}
use Rattle.aig_model.specs.declared.aig.AigAnd.{AigAnd}
use Rattle.aig_model.specs.declared.aig.AigLatch.{AigLatch}
use Rattle.aig_model.specs.declared.aig.AigOutput.{AigOutput}
use Rattle.aig_model.specs.Literals.{variable_of}

-- the variables of the inputs and latches
abbrev pub sources : Aig → List ℕ
sources aig = aig.inputs ++ map (λ (l : AigLatch). l.var) aig.latches

-- the variables that are defined, in the order of lines
abbrev pub defined_variables : Aig → List ℕ
defined_variables aig = sources aig ++ map (λ (a : AigAnd). a.var) aig.ands

-- the literals of an AND that are mentioned
abbrev pub and_literals : AigAnd → List ℕ
and_literals a = a.left ∷ a.right ∷ []

-- the literals that are mentioned but where they are defined: those that latches take, of ANDs and
-- of outputs. The initial value of a latch mentions nothing.
abbrev pub mentioned_literals : Aig → List ℕ
mentioned_literals aig =
    map (λ (l : AigLatch). l.next) aig.latches
    ++ (flat_map and_literals aig.ands ++ map (λ (out : AigOutput). out.literal) aig.outputs)

-- all variables that the text mentions
abbrev pub variables : Aig → List ℕ
variables aig = defined_variables aig ++ map variable_of (mentioned_literals aig)

-- no variable is defined twice, 0 is not defined, and all variables and the number of outputs are
-- below 2^31
pub record IsSoundAig (aig : Aig) : Type 0 where
  pub once : AllPairs (λ one other. one ≢ other) (defined_variables aig)
  pub above : All (λ v. 0 < v) (defined_variables aig)
  pub small : All (λ v. v < 2 ^ 31) (variables aig)
  pub few : length aig.outputs < 2 ^ 31
