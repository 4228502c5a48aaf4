-- What one part of a line is answered with, the line is.
use Rattle.std.proofs.Common.{ℕ, ◌≡◌, refl, ap, sym, subst, arith, Bool, true, false, ◌&&◌, nat_lt, ◌<◌, length, List, [], ◌∷◌, ◌++◌, Option, Result, Ok, Err}
use Rattle.bool_expr.specs.declared.expr.Expr.{Expr}
use Rattle.bool_expr.specs.Grammar.{Expression}
use Rattle.rule_model.specs.Claims.{Claim}
use Rattle.ste_rules.specs.declared.form.Growth.{Growth}
use Rattle.ste_rules.specs.Sizes.{claim_fits}
use Rattle.ste_rules.specs.declared.fault.ProofFault.{ProofFault}
use Rattle.ste_rules.specs.declared.fault.ProofFault.TheVariants.{BadLine, TooDeep, DoubleName, UnknownName, UnknownVar, UnknownNode, HasReset, BadNumber, NotCovered, TooMany, NoStep, OutOfMemory}
use Rattle.ste_rules.specs.Steps.{StepFault, Steps, and_then, begun, many, read_as, unless}
use Rattle.ste_rules.specs.private.Turns.{IsExpressionRead, IsTold, IsTurn}

-- what is wrong is wrong with whatever follows
pub passed : {X Y : Type 0} (line : ℕ) (found : Result X StepFault) (f : X → Result Y StepFault) (fault : ProofFault) → IsTold line found fault → IsTold line (and_then found f) fault
passed line found f (BadLine n) h = (h.0, ap (λ r. and_then r f) h.1)
passed line found f (TooDeep n) h = (h.0, ap (λ r. and_then r f) h.1)
passed line found f (DoubleName n name) h = (h.0, ap (λ r. and_then r f) h.1)
passed line found f (UnknownName n name) h = (h.0, ap (λ r. and_then r f) h.1)
passed line found f (UnknownVar n name) h = (h.0, ap (λ r. and_then r f) h.1)
passed line found f (UnknownNode n name) h = (h.0, ap (λ r. and_then r f) h.1)
passed line found f (HasReset n) h = (h.0, ap (λ r. and_then r f) h.1)
passed line found f (BadNumber n) h = (h.0, ap (λ r. and_then r f) h.1)
passed line found f (NotCovered n) h = (h.0, ap (λ r. and_then r f) h.1)
passed line found f (TooMany n) h = (h.0, ap (λ r. and_then r f) h.1)
passed line found f NoStep h = absurd h
passed line found f OutOfMemory h = tt

-- where nothing is wrong so far, what follows decides
pub told_as : {X : Type 0} (line : ℕ) (found other : Result X StepFault) (fault : ProofFault) → found ≡ other → IsTold line other fault → IsTold line found fault
told_as line found other fault same h = subst (λ r. IsTold line r fault) (sym same) h

pub turned_as : (line : ℕ) (found other : Result Steps StepFault) (new : Steps) (answer : Result (Unit {0}) ProofFault) → found ≡ other → IsTurn line other new answer → IsTurn line found new answer
turned_as line found other new answer same h = subst (λ r. IsTurn line r new answer) (sym same) h

-- a test that is passed, and one that is not
pub passes : {Y : Type 0} (fault : StepFault) (b : Bool) (more : Result Y StepFault) → b ≡ true → and_then (unless fault b) (λ _. more) ≡ more
passes fault b more e = rw e refl

pub fails : {Y : Type 0} (fault : StepFault) (b : Bool) (more : Result Y StepFault) → b ≡ false → and_then (unless fault b) (λ _. more) ≡ Err fault
fails fault b more e = rw e refl

-- a claim that is too large begins no step
pub too_large : (steps : Steps) (name : List ℕ) (claim : Claim) (growth : Growth) → claim_fits claim ≡ false → begun steps name claim growth ≡ Err many
too_large steps name claim growth e = rw e refl

-- a step that is begun
pub begun_as : (steps : Steps) (name : List ℕ) (claim : Claim) (growth : Growth) (names : List (List ℕ)) (claims : List Claim) → claim_fits claim ≡ true → length steps.names < 1000 → names ≡ steps.names ++ name ∷ [] → claims ≡ steps.claims ++ claim ∷ [] → begun steps name claim growth ≡ Ok (record { names = names; claims = claims; leaves = steps.leaves; growth = growth })
begun_as steps name claim growth names claims fits few a b =
    let room : nat_lt (length steps.names) 1000 ≡ true = grind (arith, few) in
    rw a (rw b (passes many (claim_fits claim && nat_lt (length steps.names) 1000) _ (rw fits room)))

-- an expression that is read comes first
pub read_first : {Y : Type 0} (found : Option Expression) (f : Expression → Result Y StepFault) (d : Expression) → read_as found ≡ Ok d → and_then (read_as found) f ≡ f d
read_first found f d e = ap (λ r. and_then r f) e

pub some_expression : (vars : List (List ℕ)) (found : Option Expression) (line : ℕ) (read : Result Expr (List ℕ)) → IsExpressionRead vars found line (Ok read) → (d : Expression) × (read_as found ≡ Ok d)
some_expression vars found line (Ok expr) h = (h.0, h.1)
some_expression vars found line (Err name) h = (h.0, h.1)
