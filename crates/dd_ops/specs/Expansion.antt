-- Meaning. What `apply` counts: the pairs of references that it expands (Bryant 1986). That a step
-- is one such pair is a choice of this project.
use Rattle.std.specs.Prelude.{◌≡◌, ◌≢◌, ◌≤◌, ◌+◌, ◌⊎◌, ℕ, min, Bool, List, [], length, Contains, IfOk, Option, None, Some, Result}
use Rattle.std.specs.List.{AllPairs}
use Rattle.dd_nodes.specs.declared.node.Ref.{Ref}
use Rattle.dd_nodes.specs.declared.node.Node.{Node}
use Rattle.ste_base.specs.Functions.{Function}
use Rattle.dd_nodes.specs.Diagram.{IsDiagram, child}
use Rattle.dd_nodes.specs.Functions.{ReachesNode}
use Rattle.dd_nodes.specs.Stores.{Store, function, IsRef, Means}
use Rattle.dd_ops.specs.declared.fault.OpFault.{OpFault}
use Rattle.dd_ops.specs.declared.ops.Op.{Op}
use Rattle.dd_ops.specs.Answer.{op_bit}

-- the function that an operation makes of those of two references
abbrev pub op_function : Op → Store → Ref → Ref → Function
op_function op s a b bits = op_bit op (function s a bits) (function s b bits)

-- the variable of a node; the number of variables where there is none
abbrev pub variable_by : ℕ → Option Node → ℕ
variable_by vars None = vars
variable_by vars (Some n) = n.var

-- the first variable that a reference reads, or the number of variables
abbrev pub first_variable : Store → Ref → ℕ
first_variable s r = variable_by s.vars (s.held r)

-- a pair with the first variable that one of both reads fixed to a bit
abbrev pub half_pair : Store → Bool → Ref × Ref → Ref × Ref
half_pair s bit p = (
  child s.held (min (first_variable s p.0) (first_variable s p.1)) bit p.0,
  child s.held (min (first_variable s p.0) (first_variable s p.1)) bit p.1,
)

-- a terminal case: whatever the nodes are, one reference has the function that the operation makes
-- of the pair
abbrev pub IsTerminal : Op → Ref × Ref → Type 0
IsTerminal op p = (r : Ref) × ((s : Store) → IsDiagram s.held s.vars
    → IsRef s p.0 → IsRef s p.1 → Means s (op_function op s p.0 p.1) r)

-- the pair is among these, and each half of one of these is too, or is a terminal case
pub record AreWholeExpansion (op : Op) (s : Store) (p : Ref × Ref)
    (pairs : List (Ref × Ref)) : Type 0 where
  pub first : Contains pairs p
  pub halves : (q : Ref × Ref) → Contains pairs q → (bit : Bool) →
      Contains pairs (half_pair s bit q) ⊎ IsTerminal op (half_pair s bit q)

-- What a call for the pair (a, b) expands: each step is one pair, of references that the diagrams
-- of a and b reach, and no pair is expanded twice; each makes at most one node. Where there is a
-- result these are just the pair and the halves behind it, down to terminal cases; or there are
-- none, since the pair is a terminal case or the store remembers its result.
pub record IsExpansion (op : Op) (s t : Store) (a b : Ref) (before after : ℕ)
    (result : Result Ref OpFault) : Type 0 where
  pub pairs : List (Ref × Ref)
  pub count : after ≡ before + length pairs
  pub once : AllPairs (λ p q. p ≢ q) pairs
  pub reached : (p : Ref × Ref) → Contains pairs p → ReachesNode s a p.0 × ReachesNode s b p.1
  pub made : length t.made ≤ length s.made + length pairs
  pub whole : IfOk result (λ _. (pairs ≡ []) ⊎ AreWholeExpansion op s (a, b) pairs)
