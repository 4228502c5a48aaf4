-- Meaning: what contracts see of a session, and the store of nodes that it is.
use Rattle.std.specs.Prelude.{◌≡◌, ◌≢◌, ℕ, ◌+◌, ◌-◌, ◌<◌, ◌≤◌, List, [], ◌∷◌, ◌++◌, length, Some, None, ◌⊎◌, refl}
use mathlib.Core.Option.{some}
use lib.ListN.{get_elem?}
use Rattle.std.specs.Coded.{Coded, code_by, coded×, coded_ℕ, coded_list}
use Rattle.std.specs.Ordering.{nat_cmp}
use Rattle.std.specs.FinMap as map
use Rattle.std.specs.FinMap.{FinMap, get}
use Rattle.atomic_table.specs.Seated.{TableId, table_id_coded}
use Rattle.dd_nodes.specs.declared.node.Ref.{Ref}
use Rattle.dd_nodes.specs.declared.node.Node.{Node}
use Rattle.ste_base.specs.Functions.{Function}
use Rattle.dd_nodes.specs.Functions.{IsCofactorOf}
use Rattle.dd_nodes.specs.Stores.{Means, Store}
use Rattle.dd_nodes.specs.Plain.{var_or}
use Rattle.dd_table.specs.Codes.{ref, ref_code, node_code}
use Rattle.dd_table.specs.Layout.{node_in_word, walk_slot}
use Rattle.dd_table.specs.Views.{union}
use Rattle.dd_table.specs.Rules.{count_of, taken_slots, IsHeldChild, KeepsRules}
use Rattle.dd_table.specs.declared.views.View.{View}

-- a session: its table, the numbers of variables and slots, the nodes that it holds by the numbers
-- of their references, the references that it made, and how many it may make
pub record SessionValue : Type 0 where
  pub table : TableId
  pub vars : ℕ
  pub slots : ℕ
  pub held : FinMap nat_cmp Node
  pub made : List Ref
  pub limit : ℕ

-- a session as a tuple
abbrev pub session_code : Coded SessionValue
session_code =
    code_by (TableId × (ℕ × (ℕ × (FinMap nat_cmp Node × (List Ref × ℕ)))))
    (coded× table_id_coded (coded× coded_ℕ
    (coded× coded_ℕ (coded× (map.code coded_ℕ node_code)
    (coded× (coded_list ref_code) coded_ℕ)))))
    (λ k. (k.table, (k.vars, (k.slots, (k.held, (k.made, k.limit))))))
    (λ p. record {
      table = p.0;
      vars = p.1.0;
      slots = p.1.1.0;
      held = p.1.1.1.0;
      made = p.1.1.1.1.0;
      limit = p.1.1.1.1.1;
    })
    (λ _. refl)

-- the name of a table, as a list of numbers
abbrev pub table_name : TableId → List ℕ
table_name t = t.words ∷ t.slots ∷ t.views_name ∷ t.atom ∷ t.block ∷ t.offset ∷ t.slot_names

-- the store that a session is
abbrev pub store_of : SessionValue → Store
store_of k = record {
  held = λ r. get k.held r.0;
  made = k.made;
  limit = k.limit;
  vars = k.vars;
  table = table_name k.table;
}

-- each node of some functions has a reference
abbrev pub AreHeld : Store → List Function → Type 0
AreHeld t fs = (f : Function) → IsCofactorOf t.vars fs f → (r : Ref) × Means t f r

-- a session that gives up q of its steps
abbrev pub gives_quota : ℕ → SessionValue → SessionValue
gives_quota q k = record k { limit = k.limit - q }

-- the session that gets them
abbrev pub gets_quota : ℕ → SessionValue → SessionValue
gets_quota q k = record k { made = []; limit = q }

-- two sessions of one table in one
abbrev pub session_union : SessionValue → SessionValue → SessionValue
session_union k j =
    record k { held = union k.held j.held; made = k.made ++ j.made; limit = k.limit + j.limit }

-- the view shows the session: its numbers, what it holds and made, and how many it may make
pub record Shows (v : View) (k : SessionValue) : Type 0 where
  pub vars : v.vars ≡ k.vars
  pub slots : v.slots ≡ k.slots
  pub held : v.held ≡ k.held
  pub made : v.made ≡ k.made
  pub limit : v.limit ≡ k.limit

-- so many slots are taken, of some words that keep the rules with some views, one of which shows
-- the session
pub record CountsTaken (k : SessionValue) (count : ℕ) : Type 0 where
  pub words : List ℕ
  pub views : List View
  pub rules : KeepsRules k.vars k.slots words views
  pub seat : ℕ
  pub view : View
  pub here : get_elem? views seat ≡ some view
  pub shown : Shows view k
  pub is : count ≡ taken_slots words

-- the node may be made: its children differ, and each is a constant, or held with a greater
-- variable
pub record IsMakeable (k : SessionValue) (n : Node) : Type 0 where
  pub var : n.var < k.vars
  pub apart : n.lo.0 ≢ n.hi.0
  pub lo : IsHeldChild k.held n.var n.lo.0
  pub hi : IsHeldChild k.held n.var n.hi.0

-- the node is held under no reference
abbrev pub IsNewTo : SessionValue → Node → Type 0
IsNewTo k n = (r : ℕ) → get k.held r ≢ Some n

-- the node is held under no reference, and no step is left
abbrev pub IsOutFor : SessionValue → Node → Type 0
IsOutFor k n = (length k.made ≡ k.limit) × IsNewTo k n

-- each node that k holds is held by k' under the same reference
abbrev pub HeldStays : SessionValue → SessionValue → Type 0
HeldStays k k' = (r : ℕ) (n : Node) → get k.held r ≡ Some n → get k'.held r ≡ Some n

-- the session k became k', and r is the reference of the node n, whose children differ
pub record MkGives (k k' : SessionValue) (n : Node) (r : ℕ) : Type 0 where
  pub table : k'.table ≡ k.table
  pub vars : k'.vars ≡ k.vars
  pub slots : k'.slots ≡ k.slots
  pub limit : k'.limit ≡ k.limit
  pub here : get k'.held r ≡ Some n
  pub kept : HeldStays k k'
  pub made : (k'.made ≡ k.made) ⊎ ((k'.made ≡ k.made ++ ref r ∷ []) × IsNewTo k n)
  -- where the node was held nothing was made
  pub again : (q : ℕ) → get k.held q ≡ Some n → k'.made ≡ k.made

-- r is the reference of the slot that comes after n others on the walk of the node's word, and n +
-- 1 steps were counted
abbrev pub CountsWalk : ℕ → Node → ℕ → ℕ → ℕ → Type 0
CountsWalk slots node r before after =
    (w : ℕ) × (node_in_word w ≡ node)
    × ((n : ℕ) × (r ≡ walk_slot slots w n + 2) × (after ≡ before + (n + 1)))

-- two sessions never hold one node under two references, or two nodes under one
pub record SessionsAgree (k j : SessionValue) : Type 0 where
  pub one_reference : (r q : ℕ) (n : Node) → get k.held r ≡ Some n → get j.held q ≡ Some n → r ≡ q
  pub one_node : (r : ℕ) (m n : Node) → get k.held r ≡ Some m → get j.held r ≡ Some n → m ≡ n

-- what holds of every session, in words that a ghost field may use
pub record IsGoodSession (k : SessionValue) : Type 0 where
  pub near : (r : ℕ) (n : Node) → get k.held r ≡ Some n → 2 ≤ r
  pub below : (r : ℕ) (n : Node) → get k.held r ≡ Some n → n.var < k.vars
  pub differ : (r : ℕ) (n : Node) → get k.held r ≡ Some n → n.lo.0 ≢ n.hi.0
  pub low : (r : ℕ) (n : Node) → get k.held r ≡ Some n → 2 ≤ n.lo.0 →
      n.var < var_or 0 (get k.held n.lo.0)
  pub high : (r : ℕ) (n : Node) → get k.held r ≡ Some n → 2 ≤ n.hi.0 →
      n.var < var_or 0 (get k.held n.hi.0)
  pub once : (r q : ℕ) (n : Node) → get k.held r ≡ Some n → get k.held q ≡ Some n → r ≡ q
  pub within : length k.made ≤ k.limit
  pub distinct : (r : ℕ) → count_of r k.made ≤ 1
  pub made : (r : ℕ) → 0 < count_of r k.made → get k.held r ≢ None
