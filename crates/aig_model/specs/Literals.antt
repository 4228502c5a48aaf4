-- Meaning. Literals, and literal runs: a bit for each variable and time. Source: Biere, The AIGER
-- And-Inverter Graph (AIG) Format, 2007, and its version 1.9 for the initial values of latches. A
-- run of length n is asked nothing from time n on.
use Rattle.std.specs.Prelude.{◌≡◌, ◌<◌, ◌/◌, ◌%◌, ◌&&◌, ℕ, suc, Bool, false, not, All, IsTrue, nat_eq, if◌then◌else◌}
use Rattle.net_core.specs.Run.{IsInitial}
use Rattle.aig_model.specs.declared.aig.Aig.{Aig}
use Rattle.aig_model.specs.declared.aig.AigAnd.{AigAnd}
use Rattle.aig_model.specs.declared.aig.AigLatch.{AigLatch}

-- the variable of a literal
abbrev pub variable_of : ℕ → ℕ
variable_of literal = literal / 2

-- the literal has the opposite of its variable's bit
abbrev pub is_odd : ℕ → Bool
is_odd literal = nat_eq (literal % 2) 1

-- the bit of a literal, from those of the variables
abbrev pub literal_bit : (ℕ → Bool) → ℕ → Bool
literal_bit bit literal = if is_odd literal then not (bit (variable_of literal)) else bit
    (variable_of literal)

-- A literal run of length n: variable 0 is 0, an AND is 1 exactly where both its literals are, and
-- a latch has at t + 1 the bit that its next literal has at t.
pub record IsLiteralRun (aig : Aig) (n : ℕ) (run : ℕ → ℕ → Bool) : Type 0 where
  pub zero : (t : ℕ) → t < n → run t 0 ≡ false
  pub ands : (t : ℕ) → t < n →
      All (λ (a : AigAnd). run t a.var ≡ literal_bit (run t) a.left && literal_bit (run t) a.right)
      aig.ands
  pub latches : (t : ℕ) → suc t < n →
      All (λ (l : AigLatch). run (suc t) l.var ≡ literal_bit (run t) l.next) aig.latches

-- each latch has at time 0 a bit that it may start with: with reset that of its initial value, and
-- otherwise either
abbrev pub StartsAsGiven : Aig → Bool → (ℕ → ℕ → Bool) → Type 0
StartsAsGiven aig reset run = All (λ (l : AigLatch). IsTrue reset →
    IsInitial l.init (run 0 l.var)) aig.latches
