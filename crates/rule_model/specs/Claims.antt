-- Meaning, and a law. What an assertion claims, with trees for its expressions, and when a claim
-- holds of a net. Weakenings are no part of it, since runs know nothing of them.
use Rattle.std.specs.Prelude.{◌≡◌, ◌<◌, ◌≤◌, ◌↔◌, ⊤, ◌∷◌, [], ℕ, Bool, List, map, length, max, IsTrue}
use Rattle.bool_expr.specs.TreeValue.{tree_value}
use Rattle.net_core.specs.declared.raw.RawNet.{RawNet}
use Rattle.ste_model.specs.declared.task.Assertion.{Assertion}
use Rattle.ste_model.specs.Holds.{Holds, IsTaskRun}
use Rattle.ste_model.specs.Trees.{QuintTree, quint_tree}

-- what an assertion claims
pub record Claim : Type 0 where
  pub reset : Bool
  pub ant : List QuintTree
  pub con : List QuintTree

abbrev pub claim_of : Assertion → Claim
claim_of task =
    record { reset = task.reset; ant = map quint_tree task.ant; con = map quint_tree task.con }

-- a run meets a quintuple: where its guard is 1, its net has its value's bit at each of its times
abbrev pub MeetsQuint : List Bool → (ℕ → ℕ → Bool) → QuintTree → Type 0
MeetsQuint bits run quint =
    IsTrue (tree_value bits quint.guard) → (t : ℕ) → quint.from ≤ t → t < quint.to →
    run t quint.node ≡ tree_value bits quint.value

-- a run meets each quintuple of a list
abbrev pub MeetsAll : List Bool → (ℕ → ℕ → Bool) → List QuintTree → Type 0
MeetsAll bits run [] = ⊤
MeetsAll bits run (quint ∷ quints) = MeetsQuint bits run quint × MeetsAll bits run quints

-- the greatest `to`, or 0
abbrev pub latest_of : List QuintTree → ℕ
latest_of [] = 0
latest_of (quint ∷ quints) = max quint.to (latest_of quints)

-- the depth of a claim
abbrev pub claim_depth : Claim → ℕ
claim_depth claim = max (latest_of claim.ant) (latest_of claim.con)

-- the claim holds of runs of length n: each that meets the antecedent meets the consequent
abbrev pub HoldsAt : RawNet → ℕ → Claim → ℕ → Type 0
HoldsAt net vars claim n =
    (bits : List Bool) → length bits ≡ vars → (run : ℕ → ℕ → Bool) →
    IsTaskRun net claim.reset n run →
    MeetsAll bits run claim.ant → MeetsAll bits run claim.con

-- the claim holds: of runs of its depth
abbrev pub ClaimHolds : RawNet → ℕ → Claim → Type 0
ClaimHolds net vars claim = HoldsAt net vars claim (claim_depth claim)

-- Law: an assertion holds exactly where what it claims holds.
abbrev pub ClaimsAreAssertions : Type 0
ClaimsAreAssertions =
    (net : RawNet) (vars : ℕ) (task : Assertion) →
    Holds net vars task ↔ ClaimHolds net vars (claim_of task)
