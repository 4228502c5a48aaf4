-- For private functions. One edge under one assignment, by constants.
use Rattle.std.specs.Prelude.{◌≡◌, ◌↔◌, ℕ, Bool, List, Option, None, Some, IsTrue}
use Rattle.bool_expr.specs.Value.{value_of}
use Rattle.dd_nodes.specs.Stores.{Store, function}
use Rattle.dual_rail.specs.declared.rails.Rails.{Rails}
use Rattle.net_core.specs.declared.bit_set.BitSet.{BitSet}
use Rattle.net_core.specs.declared.raw.RawNet.{RawNet}
use Rattle.net_core.specs.Possible.{ArePossible}
use Rattle.ste_base.specs.declared.id.NodeId.{NodeId}
use Rattle.engine_parts.specs.declared.failing.Failure.{Failure}
use Rattle.engine_parts.specs.Failing.{FailsBy, constant_ref}
use Rattle.ste_model.specs.declared.task.Bind.{Bind}
use Rattle.ste_model.specs.declared.task.Edge.{Edge}
use Rattle.ste_model.specs.Edges.{asked_on, bind_cuts}
use Rattle.ste_model.specs.GraphFound.{FailsOn}
use Rattle.ste_model.specs.GraphShown.{IsFirstFailing}
use Rattle.ste_model.specs.GraphTable.{IsFeasible, VertexState}
use Rattle.ste_model.specs.GraphWork.{SymbolicState, state_at}
use Rattle.ste_model.specs.Work.{constant_set}
use Rattle.sym_step.specs.declared.cut.Cut.{Cut}
use Rattle.sym_step.specs.declared.made.Step.{Step}
use Rattle.sym_step.specs.Step.{IsStep}
use Rattle.gste_engine.specs.declared.taken.Taken.{Taken}

-- the constants of a set under an assignment
abbrev pub fixed_rails : Store → List Bool → Rails → Rails
fixed_rails s bits r =
    record {
      can0 = constant_ref (function s r.can0 bits);
      can1 = constant_ref (function s r.can1 bits);
    }

-- what a binding asks under an assignment, by constants
abbrev pub fixed_bind : List Bool → Bind → Cut
fixed_bind bits bind = record {
  node = bind.node;
  guard = constant_ref (value_of bind.guard bits);
  value = constant_ref (value_of bind.value bits);
}

-- a table under an assignment
abbrev pub table_at : List Bool → (ℕ → SymbolicState) → ℕ → VertexState
table_at bits states vertex = state_at bits (states vertex)

-- whatever the possible sets of an edge under an assignment are, from these latch sets, the step
-- has them
abbrev pub IsStepOn : RawNet → List Bool → List BitSet → Edge → Store → Step → Type 0
IsStepOn net bits latches edge t made =
    (sets : ℕ → BitSet) → ArePossible net latches (asked_on edge bits) sets →
    IsStep net (λ id. constant_set (sets id)) t made

-- the edge is feasible, and this is the net of its first consequent that fails so
pub record IsFirstNode (failure : Failure) (net : RawNet) (bits : List Bool)
    (table : ℕ → VertexState) (edge : Edge) (node : NodeId) : Type 0 where
  pub sets : ℕ → BitSet
  pub feasible : IsFeasible net bits table edge sets
  pub number : ℕ
  pub first : IsFirstFailing (FailsBy failure) sets (bind_cuts edge.con bits) number
  pub is : node.0 ≡ first.cut.node

-- what is known of an edge's consequents: the net of the first that fails so, or that none does
abbrev pub IsFirstOn : Failure → RawNet → List Bool → (ℕ → VertexState) → Edge → Option NodeId →
    Type 0
IsFirstOn failure net bits table edge None = ¬ FailsOn (FailsBy failure) net bits table edge
IsFirstOn failure net bits table edge (Some node) = IsFirstNode failure net bits table edge node

-- what is known of an edge under a table: whether it is feasible, and its first consequent that
-- fails so
pub record IsTaken (failure : Failure) (net : RawNet) (bits : List Bool) (table : ℕ → VertexState)
    (edge : Edge) (taken : Taken) : Type 0 where
  pub feasible : IsTrue taken.feasible ↔ ((sets : ℕ → BitSet) × IsFeasible net bits table edge sets)
  pub first : IsFirstOn failure net bits table edge taken.first
