-- A condition between crates: how a consequent fails, in the possible sets and by constants.
use Rattle.std.specs.Prelude.{◌≡◌, ◌==◌, ◌&&◌, ℕ, Bool, not, List, [], ◌∷◌, Option, None, Some, if◌then◌else◌}
use Rattle.bool_expr.specs.declared.expr.Expr.TheVariants.{Const}
use Rattle.bool_expr.specs.Value.{value_of}
use Rattle.dd_nodes.specs.declared.node.Ref.{Ref}
use Rattle.dd_nodes.specs.Stores.{Store, Keeps}
use Rattle.dual_rail.specs.declared.rails.Rails.{Rails}
use Rattle.net_core.specs.declared.bit_set.BitSet.{BitSet}
use Rattle.net_core.specs.Run.{Cut as AskedCut}
use Rattle.ste_base.specs.declared.id.NodeId.{NodeId}
use Rattle.ste_model.specs.declared.task.Quint.{Quint}
use Rattle.ste_model.specs.Found.{FailsStrongly, FailsWeakly}
use Rattle.sym_step.specs.declared.cut.Cut.{Cut}
use Rattle.sym_step.specs.Step.{rails_at}
use Rattle.engine_parts.specs.declared.failing.Failure.{Failure}
use Rattle.engine_parts.specs.declared.failing.Failure.TheVariants.{Strong, Weak}

-- what was held stays, and nothing is made
pub record MakesNothing (s t : Store) : Type 0 where
  pub keeps : Keeps s t
  pub limit : t.limit ≡ s.limit
  pub made : t.made ≡ s.made

-- a consequent fails so
abbrev pub FailsBy : Failure → (ℕ → BitSet) → AskedCut → Type 0
FailsBy Strong = FailsStrongly
FailsBy Weak = FailsWeakly

-- whether a reference is the constant 1
abbrev pub is_true : Ref → Bool
is_true r = r.0 == 1

-- whether a set fails a value so: it has the opposite bit alone, or both bits
abbrev pub misses : Failure → Bool → Bool → Bool → Bool
misses Strong zero one value = if value then zero && not one else one && not zero
misses Weak zero one value = zero && one

-- whether a consequent fails so, by constants alone
abbrev pub fails : Failure → Rails → Cut → Bool
fails failure r c =
    is_true c.guard && misses failure (is_true r.can0) (is_true r.can1) (is_true c.value)

-- the net of the first consequent that fails so
abbrev pub first_failing : Failure → List Rails → List Cut → Option NodeId
first_failing failure nets [] = None
first_failing failure nets (c ∷ cuts) =
    if fails failure (rails_at nets c.node.0) c then Some c.node else first_failing failure nets
    cuts

-- the constant of a bit
abbrev pub constant_ref : Bool → Ref
constant_ref bit = if bit then record { 0 = 1 } else record { 0 = 0 }

-- a quintuple with its guard and value under an assignment
abbrev pub fixed_quint : List Bool → Quint → Quint
fixed_quint bits quint =
    record quint {
      guard = Const (value_of quint.guard bits);
      value = Const (value_of quint.value bits);
    }
