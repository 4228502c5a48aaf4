-- Meaning. Sets of bits under all assignments as pairs of references, and what calls leave that
-- build functions.
use Rattle.std.specs.Prelude.{◌≡◌, List, Bool, IfOk, Result, Err}
use Rattle.dd_nodes.specs.declared.node.Ref.{Ref}
use Rattle.ste_base.specs.Functions.{Function}
use Rattle.dd_nodes.specs.Stores.{Store, function, IsRef, Means}
use Rattle.dd_nodes.specs.Spending.{Spends}
use Rattle.dd_ops.specs.declared.fault.OpFault.{OpFault}
use Rattle.dd_ops.specs.declared.fault.OpFault.TheVariants.{StepsOut}
use Rattle.net_core.specs.declared.bit_set.BitSet.{BitSet}
use Rattle.net_core.specs.Work.{SymbolicSet}
use Rattle.dual_rail.specs.declared.rails.Rails.{Rails}

-- What a call leaves that builds the functions fs: its result is good in the new store, each made
-- reference has as its function a cofactor of one of fs, and it answers `StepsOut` only where all
-- steps are spent and such a cofactor is missing.
pub record Built {A : Type 0} (fs : List Function) (Good : Store → A → Type 0) (s t : Store)
    (result : Result A OpFault) : Type 0 where
  pub ok : IfOk result (Good t)
  pub spends : Spends fs s t (result ≡ Err StepsOut)

-- the rails are those of the set
pub record AreRails (s : Store) (w : SymbolicSet) (r : Rails) : Type 0 where
  pub zero : Means s w.zero r.can0
  pub one : Means s w.one r.can1

-- both rails are constants, or held
pub record AreRefs (s : Store) (r : Rails) : Type 0 where
  pub zero : IsRef s r.can0
  pub one : IsRef s r.can1

-- the set that rails stand for under an assignment
abbrev pub set_of : Store → List Bool → Rails → BitSet
set_of s bits r = record { zero = function s r.can0 bits; one = function s r.can1 bits }

-- the reference has this function
abbrev pub HasFunction : Function → Store → Ref → Type 0
HasFunction f s r = Means s f r

-- the rails have this set
abbrev pub HasSet : SymbolicSet → Store → Rails → Type 0
HasSet w s r = AreRails s w r

-- nothing is said of a result
abbrev pub Whatever : {A : Type 0} → Store → A → Type 0
Whatever t a = Unit {0}
