-- A condition between crates. The sets of nets by three references, as a gate's inputs have them.
use Rattle.std.specs.Prelude.{◌≡◌, ℕ, Bool, false, not, List, IsTrue, length, map, All, slice_index_or}
use Rattle.ste_base.specs.declared.id.NodeId.{NodeId}
use Rattle.dd_nodes.specs.Stores.{Store, IsRef, Means, function}
use Rattle.net_core.specs.Work.{SymbolicSet, some_bit, disjunction}
use Rattle.dual_rail.specs.Rail.{AreRails, AreRefs}
use Rattle.gate_sets.specs.declared.flagged.FlaggedRails.{FlaggedRails}
use Rattle.gate_sets.specs.declared.net_rails.NetRails.{NetRails}

-- the set has exactly one bit under each assignment of so many variables
abbrev pub IsKnown : ℕ → SymbolicSet → Type 0
IsKnown vars w = (bits : List Bool) → length bits ≡ vars → w.zero bits ≡ not (w.one bits)

-- the references are those of the set: where it has 0, where it has 1, and where it has a bit; a
-- flag that it has exactly one is right
pub record AreNetRails (s : Store) (w : SymbolicSet) (r : NetRails) : Type 0 where
  pub zero : Means s w.zero r.can0
  pub one : Means s w.one r.can1
  pub some : Means s (some_bit w) r.some
  pub known : IsTrue r.known → IsKnown s.vars w

-- the set of two references
abbrev pub own_where : Store → NetRails → SymbolicSet
own_where s r = record { zero = function s r.can0; one = function s r.can1 }

-- all three are constants, or held, the third is the sum of the others, and the flag is right
pub record AreNetRefs (s : Store) (r : NetRails) : Type 0 where
  pub zero : IsRef s r.can0
  pub one : IsRef s r.can1
  pub some : Means s (disjunction (function s r.can0) (function s r.can1)) r.some
  pub known : IsTrue r.known → IsKnown s.vars (own_where s r)

-- the rails are those of the set, and a flag that it has exactly one bit is right
pub record AreFlagged (s : Store) (w : SymbolicSet) (r : FlaggedRails) : Type 0 where
  pub rails : AreRails s w r.rails
  pub known : IsTrue r.known → IsKnown s.vars w

-- the rails are constants, or held, and the flag is right
pub record AreFlaggedRefs (s : Store) (r : FlaggedRails) : Type 0 where
  pub rails : AreRefs s r.rails
  pub known : IsTrue r.known →
      IsKnown s.vars (record { zero = function s r.rails.can0; one = function s r.rails.can1 })

abbrev pub HasFlagged : SymbolicSet → Store → FlaggedRails → Type 0
HasFlagged w s r = AreFlagged s w r

-- the references have this set
abbrev pub HasNetSet : SymbolicSet → Store → NetRails → Type 0
HasNetSet w s r = AreNetRails s w r

-- the references of a net in a list, one for each net; both bits for a number that is no net
abbrev pub net_at : List NetRails → ℕ → NetRails
net_at nets id =
    slice_index_or nets id (record {
      can0 = record { 0 = 1 };
      can1 = record { 0 = 1 };
      some = record { 0 = 1 };
      known = false;
    })

-- the sets of these nets, in order
abbrev pub sets_at : (ℕ → SymbolicSet) → List NodeId → List SymbolicSet
sets_at sets inputs = map (λ input. sets input.0) inputs

-- these nets have their sets
abbrev pub HaveInputs : Store → (ℕ → SymbolicSet) → List NetRails → List NodeId → Type 0
HaveInputs s sets nets inputs =
    All (λ input. AreNetRails s (sets input.0) (net_at nets input.0)) inputs
