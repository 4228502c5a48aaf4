-- What a call has expanded: for private functions.
use Rattle.std.specs.Prelude.{◌≡◌, ◌≢◌, ◌≤◌, ◌+◌, ◌⊎◌, ℕ, Bool, List, [], ◌∷◌, length, Contains, IfOk, Result}
use Rattle.std.specs.List.{AllPairs}
use Rattle.dd_nodes.specs.declared.node.Ref.{Ref}
use Rattle.dd_nodes.specs.Functions.{ReachesNode}
use Rattle.dd_nodes.specs.Stores.{Store}
use Rattle.dd_ops.specs.declared.fault.OpFault.{OpFault}
use Rattle.dd_ops.specs.declared.operands.Operands.{Operands}
use Rattle.dd_ops.specs.declared.memo.Memo.{Memo}
use Rattle.dd_ops.specs.private.Met.{HasMet, IsMet}
use Rattle.dd_ops.specs.private.Recursion.{AreFrom, BitRule, IsSettled, children, top}

-- each operand of y is on the walks from that of x, and reads no variable before the first of x
pub record IsBelow (s : Store) (x y : Operands) : Type 0 where
  pub first : ReachesNode s x.first y.first
  pub second : ReachesNode s x.second y.second
  pub third : ReachesNode s x.third y.third
  pub from : AreFrom s.held (top s x) y

-- the operands that a call for x expanded: each is counted once and makes at most one node
pub record Expanded (s t : Store) (x : Operands) (before after : ℕ) : Type 0 where
  pub done : List Operands
  pub count : after ≡ before + length done
  pub made : length t.made ≤ length s.made + length done
  pub apart : AllPairs (λ y z. y ≢ z) done
  pub below : (y : Operands) → Contains done y → IsBelow s x y

-- something was met for y
abbrev pub WasMet : Memo → Operands → Type 0
WasMet m y = (r : Ref) × HasMet m y r

-- the operands settle their result
abbrev pub SettleSome : BitRule → Operands → Type 0
SettleSome k y = (r : Ref) × IsSettled k y r

-- y is among these, or was met before, or is settled
abbrev pub IsReady : BitRule → Memo → List Operands → Operands → Type 0
IsReady k m done y = Contains done y ⊎ (WasMet m y ⊎ SettleSome k y)

-- what calls for ys expanded, from what was met before to what is met now: all that they rest on is
-- there, and nothing else was met on the way
pub record AreClosed (k : BitRule) (s : Store) (m n : Memo) (ys done : List Operands) : Type 0 where
  pub ready : (y : Operands) → Contains ys y → IsReady k m done y
  pub halves : (y : Operands) → Contains done y → (b : Bool) →
      IsReady k m done (children s.held (top s y) b y)
  pub only : (y : Operands) → WasMet n y → WasMet m y ⊎ Contains done y

-- none of them was met before, and where the call has a result all are met then, with all that they
-- rest on
pub record Expands (k : BitRule) (s t : Store) (x : Operands) (m n : Memo) (before after : ℕ)
    (result : Result Ref OpFault) : Type 0 where
  pub work : Expanded s t x before after
  pub new : (y : Operands) → Contains work.done y → IsMet m y → ⊥
  pub kept : IfOk result (λ _. (y : Operands) → IsMet m y → IsMet n y)
  pub met : IfOk result (λ _. (y : Operands) → Contains work.done y → IsMet n y)
  pub some : IfOk result (λ _. (work.done ≡ []) ⊎ Contains work.done x)
  pub closed : IfOk result (λ _. AreClosed k s m n (x ∷ []) work.done)

-- the operands are among these, and each half of one of these is too, or is settled
pub record AreAllBehind (k : BitRule) (s : Store) (x : Operands)
    (done : List Operands) : Type 0 where
  pub first : Contains done x
  pub halves : (y : Operands) → Contains done y → (b : Bool) →
      Contains done (children s.held (top s y) b y) ⊎ SettleSome k (children s.held (top s y) b y)

-- what a call that begins with nothing met expanded: all behind x, or nothing
pub record Unfolded (k : BitRule) (s t : Store) (x : Operands) (before after : ℕ)
    (result : Result Ref OpFault) : Type 0 where
  pub work : Expanded s t x before after
  pub whole : IfOk result (λ _. (work.done ≡ []) ⊎ AreAllBehind k s x work.done)
