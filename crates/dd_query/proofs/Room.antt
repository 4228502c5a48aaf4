-- How many variables are left from a reference on.
use Rattle.std.proofs.Common.{◌≡◌, ℕ, ◌+◌, ◌-◌, ◌<◌, Bool, true, false, get_or, arith, sym, ap, ◌∙◌, subst, inl, inr}
use Rattle.std.specs.Prelude.{Option, Some, None, if◌then◌else◌, length, List}
use Rattle.dd_nodes.specs.declared.node.Ref.{Ref}
use Rattle.dd_nodes.specs.declared.node.Node.{Node}
use Rattle.dd_nodes.specs.Diagram.{IsDiagram, IsFrom, value}
use Rattle.dd_nodes.specs.Stores.{Store, IsRef, function}
use Rattle.dd_nodes.proofs.Walks.{from_cases, IsFrom-less, value-held}

abbrev pub level_by : ℕ → Option Node → ℕ
level_by v None = v
level_by v (Some n) = n.var

-- the number of variables from the node's own on; none at a constant
abbrev pub room : Store → Ref → ℕ
room s r = s.vars - level_by s.vars (s.held r)

-- a child has less room
pub room_falls : (s : Store) (n : Node) (r c : Ref) → IsDiagram s.held s.vars → s.held r ≡ Some n → IsFrom s.held (n.var + 1) c → room s c < room s r
room_falls s n r c d at from =
    let low : n.var < s.vars = d.below r n at in
    elim (from_cases s.held (n.var + 1) c from) [
      | inl constant ↦ rw (at, d.constants c constant) (omega arith)
      | inr (m, here, above) ↦ rw (at, here) (omega arith)
    ]

-- the children of a node are references
pub child_from : (s : Store) (n : Node) (r : Ref) → IsDiagram s.held s.vars → s.held r ≡ Some n → (b : Bool) → IsFrom s.held (n.var + 1) (if b then n.hi else n.lo)
child_from s n r d at true = d.high r n at
child_from s n r d at false = d.low r n at

pub child_ref : (s : Store) (n : Node) (r : Ref) → IsDiagram s.held s.vars → s.held r ≡ Some n → (b : Bool) → IsRef s (if b then n.hi else n.lo)
child_ref s n r d at b = IsFrom-less s.held 0 (n.var + 1) (if b then n.hi else n.lo) (omega arith) (child_from s n r d at b)

-- a held reference has the value of its child
pub value_below : (s : Store) (n : Node) (r : Ref) (bits : List Bool) (b : Bool) → IsDiagram s.held s.vars → s.held r ≡ Some n → length bits ≡ s.vars → get_or bits n.var false ≡ b → function s (if b then n.hi else n.lo) bits ≡ function s r bits
value_below s n r bits b d at l e = ap (λ (c : Bool). value s.held (if c then n.hi else n.lo) bits) (sym e) ∙ sym (value-held s.held s.vars r n bits d at l)

-- what a reference holds in a store that is the same
pub held_in : (s t : Store) (n : Node) (r : Ref) → t ≡ s → t.held r ≡ Some n → s.held r ≡ Some n
held_in s t n r e at = ap (λ (u : Store). u.held r) (sym e) ∙ at

-- in a store that is the same, a child has less room, and is a reference
pub falls_in : (s t : Store) (n : Node) (r : Ref) (b : Bool) (m : ℕ) → IsDiagram s.held s.vars → t ≡ s → s.held r ≡ Some n → room s r ≡ m → room t (if b then n.hi else n.lo) < m
falls_in s t n r b m d e at is =
    let falls = room_falls s n r (if b then n.hi else n.lo) d at (child_from s n r d at b) in
    let here : room t (if b then n.hi else n.lo) ≡ room s (if b then n.hi else n.lo) = ap (λ (u : Store). room u (if b then n.hi else n.lo)) e in
    omega arith

pub ref_in : (s t : Store) (n : Node) (r : Ref) (b : Bool) → IsDiagram s.held s.vars → t ≡ s → s.held r ≡ Some n → IsRef t (if b then n.hi else n.lo)
ref_in s t n r b d e at = subst (λ (u : Store). IsRef u (if b then n.hi else n.lo)) (sym e) (child_ref s n r d at b)
