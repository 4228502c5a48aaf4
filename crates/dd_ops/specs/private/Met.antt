-- What a call has met: for private functions.
use Rattle.std.specs.Prelude.{◌≡◌, true, List, ◌⊎◌, Contains}
use Rattle.dd_nodes.specs.declared.node.Ref.{Ref}
use Rattle.dd_nodes.specs.Stores.{Store, Means}
use Rattle.dd_ops.specs.declared.operands.Operands.{Operands}
use Rattle.dd_ops.specs.declared.few.Entry.{Entry}
use Rattle.dd_ops.specs.declared.memo.Memo.{Memo}
use Rattle.dd_ops.specs.declared.memo.Memo.TheVariants.{InPlace, InTable}
use Rattle.dd_ops.specs.private.Tables.{IsOnWalk, entry_of, is_used}
use Rattle.dd_ops.specs.private.Recursion.{BitRule, named, AreRefs}

-- what was met, as a list
abbrev pub entries_of : Memo → List Entry
entries_of (InPlace few) = few
entries_of (InTable hashed_memo) = hashed_memo.entries.items

-- r was met for x
abbrev pub HasMet : Memo → Operands → Ref → Type 0
HasMet m x r = (is_used x ≡ true) × Contains (entries_of m) (entry_of x r)

-- something was met for x, where a search finds it
abbrev pub IsMet : Memo → Operands → Type 0
IsMet (InPlace few) x = (is_used x ≡ true) × ((r : Ref) × Contains few (entry_of x r))
IsMet (InTable hashed_memo) x = (is_used x ≡ true) × IsOnWalk hashed_memo.entries.items x

-- nothing was met
abbrev pub IsBlank : Memo → Type 0
IsBlank m = (x : Operands) (r : Ref) → HasMet m x r → ⊥

-- n has met what m has, and r for x
pub record Adds (m : Memo) (x : Operands) (r : Ref) (n : Memo) : Type 0 where
  pub only : (y : Operands) (q : Ref) → HasMet n y q → HasMet m y q ⊎ ((y ≡ x) × (q ≡ r))
  pub old : (y : Operands) → IsMet m y → IsMet n y
  pub new : IsMet n x

-- r is what the rule makes of the operands
pub record IsResult (k : BitRule) (s : Store) (x : Operands) (r : Ref) : Type 0 where
  pub refs : AreRefs s x
  pub means : Means s (named k s x) r

-- each result that was met is right
pub record IsMemo (k : BitRule) (s : Store) (m : Memo) : Type 0 where
  pub each : (x : Operands) (r : Ref) → HasMet m x r → IsResult k s x r
