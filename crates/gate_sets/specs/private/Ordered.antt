-- For private functions. Inputs that are variables in order, or free.
use Rattle.std.specs.Prelude.{◌≡◌, ◌≤◌, ℕ, ◌+◌, true, List, [], ◌∷◌, Some, ◌⊎◌}
use Rattle.ste_base.specs.declared.id.NodeId.{NodeId}
use Rattle.dd_nodes.specs.Stores.{Store, node_of}
use Rattle.gate_sets.specs.declared.net_rails.NetRails.{NetRails}
use Rattle.gate_sets.specs.NetSets.{net_at}

-- the set has both bits everywhere
pub record IsFree (r : NetRails) : Type 0 where
  pub zero : r.can0 ≡ record { 0 = 1 }
  pub one : r.can1 ≡ record { 0 = 1 }

-- the set has exactly one bit, which is that of the variable
pub record IsVariable (s : Store) (v : ℕ) (r : NetRails) : Type 0 where
  pub known : r.known ≡ true
  pub node : s.held r.can1 ≡ Some (node_of v (record { 0 = 0 }) (record { 0 = 1 }))

-- each input is free, or a variable, no less than this number and less than those behind it
abbrev pub AreOrdered : Store → List NetRails → ℕ → List NodeId → Type 0
AreOrdered s nets from [] = Unit {0}
AreOrdered s nets from (input ∷ inputs) =
    (IsFree (net_at nets input.0) × AreOrdered s nets from inputs)
    ⊎ ((v : ℕ) × (from ≤ v) × IsVariable s v (net_at nets input.0) ×
    AreOrdered s nets (v + 1) inputs)
