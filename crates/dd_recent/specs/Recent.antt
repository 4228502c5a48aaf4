-- Meaning. Results of operations that are remembered, and when they are right in a store.
use Rattle.std.specs.Prelude.{◌≡◌, ◌≢◌, ◌≤◌, ◌⊎◌, Bool, List, [], length, Contains, Option, Some, None, Vec}
use Rattle.std.specs.declared.alloc.Global.{Global}
use Rattle.dd_nodes.specs.declared.node.Ref.{Ref}
use Rattle.dd_nodes.specs.declared.operator.Operator.{Operator}
use Rattle.dd_nodes.specs.declared.operator.Operator.TheVariants.{And}
use Rattle.dd_nodes.specs.Operators.{joined}
use Rattle.dd_nodes.specs.Stores.{Store, function}
use Rattle.dd_recent.specs.declared.recent.Joined.{Joined}
use Rattle.dd_recent.specs.declared.recent.RecentMemo.{RecentMemo}

-- what an operator makes of references, as an entry
abbrev pub joined_as : Operator → Ref → Ref → Ref → Ref → Joined
joined_as o a b c r = record { operator = o; first = a; second = b; third = c; result = r }

-- the constant 0
abbrev pub zero_ref : Ref
zero_ref = record { 0 = 0 }

-- the entry at a place where nothing was put: 0 and 0 is 0
abbrev pub nothing : Joined
nothing = joined_as And zero_ref zero_ref zero_ref zero_ref

abbrev pub some_entries : Option (Vec Joined Global) → List Joined
some_entries None = []
some_entries (Some entries) = entries.items

-- the entries
abbrev pub entries_of : RecentMemo → List Joined
entries_of recent = some_entries recent.entries

-- each entry of the one list is one of the other, or e, or such an entry
abbrev pub Takes : List Joined → Joined → List Joined → Type 0
Takes old e new = (x : Joined) → Contains new x → Contains old x ⊎ ((x ≡ e) ⊎ (x ≡ nothing))

-- the entry is right in a store, in words that a ghost field may use: its references are constants
-- or held, and the last has the function that the operator makes of the others
pub record IsRight (s : Store) (e : Joined) : Type 0 where
  pub first : 2 ≤ e.first.0 → s.held e.first ≢ None
  pub second : 2 ≤ e.second.0 → s.held e.second ≢ None
  pub third : 2 ≤ e.third.0 → s.held e.third ≢ None
  pub result : 2 ≤ e.result.0 → s.held e.result ≢ None
  pub value : (bits : List Bool) → length bits ≡ s.vars →
      function s e.result bits ≡ joined e.operator s e.first e.second e.third bits

-- each entry is right
pub record AreRight (s : Store) (recent : RecentMemo) : Type 0 where
  pub each : (e : Joined) → Contains (entries_of recent) e → IsRight s e
