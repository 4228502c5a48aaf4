-- For private functions. The set of a gate of few inputs, for a choice of constant sets of the
-- inputs. A choice is a number: its digits to the base 4, from the lowest on, are the inputs' sets,
-- 1 where a set has 0, and 2 more where it has 1.
use Rattle.std.specs.Prelude.{◌≡◌, ◌<◌, ◌≤◌, ◌+◌, ◌*◌, ℕ, List, [], ◌∷◌, All, length}
use Rattle.std.specs.Int.{bit_at}
use Rattle.ste_base.specs.declared.id.NodeId.{NodeId}
use Rattle.net_core.specs.declared.cover.Lit.{Lit}
use Rattle.gate_sets.specs.declared.choices.Choices.{Choices}
use Rattle.gate_sets.specs.declared.rows.CoverRows.{CoverRows}
use Rattle.gate_sets.specs.declared.net_rails.NetRails.{NetRails}
use Rattle.gate_sets.specs.declared.words.Digits.TheVariants.{Sets}
use Rattle.gate_sets.specs.NetSets.{net_at}
use Rattle.gate_sets.specs.private.Words.{rows_bit}

-- for each choice a bit says whether the gate can be 0, and one whether it can be 1
pub record AreChoices (on off : List (List Lit)) (c : Choices) : Type 0 where
  pub zero : (choice : ℕ) → choice < 64 → bit_at c.can0 choice ≡ rows_bit Sets off choice
  pub one : (choice : ℕ) → choice < 64 → bit_at c.can1 choice ≡ rows_bit Sets on choice

-- they are those of both lists, where there are at most three inputs
abbrev pub AreTold : CoverRows → Choices → Type 0
AreTold rows c = rows.on.width ≤ 3 → AreChoices rows.on.list rows.off.list c

-- the set is a constant, with this digit
pub record IsDigit (r : NetRails) (digit : ℕ) : Type 0 where
  pub zero : r.can0.0 < 2
  pub one : r.can1.0 < 2
  pub is : digit ≡ r.can0.0 + 2 * r.can1.0

-- the choice which the sets of these nets are
abbrev pub choice_at : List NetRails → List NodeId → ℕ
choice_at nets [] = 0
choice_at nets (input ∷ inputs) =
    (net_at nets input.0).can0.0 + 2 * (net_at nets input.0).can1.0 + 4 * choice_at nets inputs

-- the sets of at most three nets are constants, and this choice
pub record IsChoice (nets : List NetRails) (inputs : List NodeId) (choice : ℕ) : Type 0 where
  pub few : length inputs ≤ 3
  pub zero : All (λ input. (net_at nets input.0).can0.0 < 2) inputs
  pub one : All (λ input. (net_at nets input.0).can1.0 < 2) inputs
  pub is : choice ≡ choice_at nets inputs
