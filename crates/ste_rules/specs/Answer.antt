-- Meaning. What the lines of a derivation are answered with.
use Rattle.std.specs.Prelude.{◌≡◌, ℕ, ◌∷◌, [], List, Option, None, Some, Result, Ok, Err}
use Rattle.assert_syntax.specs.Parses.{Parse}
use Rattle.ste_model.specs.declared.task.Tasks.{Tasks}
use Rattle.rule_model.specs.Claims.{claim_of}
use Rattle.ste_rules.specs.declared.fault.ProofFault.{ProofFault}
use Rattle.ste_rules.specs.declared.fault.ProofFault.TheVariants.{BadLine, TooDeep, DoubleName, UnknownName, UnknownVar, UnknownNode, HasReset, BadNumber, NotCovered, TooMany, NoStep, OutOfMemory}
use Rattle.ste_rules.specs.declared.proof.Proof.{Proof}
use Rattle.ste_rules.specs.Forms.{StepEntry}
use Rattle.ste_rules.specs.Steps.{StepFault, Steps, bad, deep, double, unnamed, undeclared, unresolved, with_reset, bad_number, uncovered, many, steps_of}

-- the last of a list
abbrev pub last_of : {X : Type 0} → List X → Option X
last_of [] = None
last_of (x ∷ []) = Some x
last_of (x ∷ y ∷ xs) = last_of (y ∷ xs)

-- these are the last of the steps, its name, and the numbers of the tasks of all leaves
pub record IsLastOf (steps : Steps) (proof : Proof) : Type 0 where
  pub claim : last_of steps.claims ≡ Some (claim_of proof.last)
  pub name : last_of steps.names ≡ Some proof.last.name
  pub leaves : proof.leaves ≡ steps.leaves

-- what steps, or the first faulty line, are answered with
abbrev pub IsAnswerOf : Result Steps (ℕ × StepFault) → Result Proof ProofFault → Type 0
IsAnswerOf found (Ok proof) = (steps : Steps) × (found ≡ Ok steps) × IsLastOf steps proof
IsAnswerOf found (Err (BadLine line)) = found ≡ Err (line, bad)
IsAnswerOf found (Err (TooDeep line)) = found ≡ Err (line, deep)
IsAnswerOf found (Err (DoubleName line name)) = found ≡ Err (line, double name)
IsAnswerOf found (Err (UnknownName line name)) = found ≡ Err (line, unnamed name)
IsAnswerOf found (Err (UnknownVar line name)) = found ≡ Err (line, undeclared name)
IsAnswerOf found (Err (UnknownNode line name)) = found ≡ Err (line, unresolved name)
IsAnswerOf found (Err (HasReset line)) = found ≡ Err (line, with_reset)
IsAnswerOf found (Err (BadNumber line)) = found ≡ Err (line, bad_number)
IsAnswerOf found (Err (NotCovered line)) = found ≡ Err (line, uncovered)
IsAnswerOf found (Err (TooMany line)) = found ≡ Err (line, many)
IsAnswerOf found (Err NoStep) = (steps : Steps) × (found ≡ Ok steps) × (steps.claims ≡ [])
IsAnswerOf found (Err OutOfMemory) = Unit {0}

-- The answer on these lines, over these tasks and with these nets for nodes: the last step and the
-- leaves, or the fault of the first faulty line, or that there is no step, or out of memory.
abbrev pub IsProofAnswer : Parse → (List ℕ → Option ℕ) → Tasks → List StepEntry →
    Result Proof ProofFault → Type 0
IsProofAnswer parse net_of tasks lines answer =
    IsAnswerOf (steps_of parse net_of tasks lines) answer
