-- What a session remembers is right as long as it holds what it held.
use Rattle.std.proofs.Common.{◌≡◌, ℕ, Bool, refl, sym, ◌∙◌, subst, inl, inr}
use Rattle.std.specs.Prelude.{Option, Some, None, IfSome, IfNone, IsTrue, ◌⊎◌}
use Rattle.dd_nodes.specs.declared.node.Ref.{Ref}
use Rattle.dd_nodes.specs.declared.node.Node.{Node}
use Rattle.dd_nodes.specs.Diagram.{Grows}
use Rattle.dd_nodes.specs.Stores.{Keeps}
use Rattle.dd_recent.specs.declared.recent.RecentMemo.{RecentMemo}
use Rattle.dd_recent.specs.Recent.{AreRight, entries_of}
use Rattle.dd_recent.proofs.Remembering.{AreRight-entries, AreRight-keeps, AreRight-same}
use Rattle.dd_table.specs.Sessions.{HeldStays, IsGoodSession, IsOutFor, MkGives, SessionValue, gets_quota, gives_quota, session_union, store_of}
use Rattle.dd_table.specs.StoreLaws.{diagram_of}
use Rattle.dd_table.proofs.Stores.{keeps_of, unites_of}

-- a session holds more and has the same variables
more_right : (k k' : SessionValue) (recent : RecentMemo) → IsGoodSession k → IsGoodSession k' → Grows (store_of k).held (store_of k').held → k'.vars ≡ k.vars
    → AreRight (store_of k) recent → AreRight (store_of k') recent
more_right k k' recent g g' grows vars right = AreRight-keeps (store_of k) (store_of k') recent (diagram_of k g) (diagram_of k' g') grows vars right

-- a node was made, or is held, or no step is left
pub AreRight-made : (k k' : SessionValue) (n : Node) (recent : RecentMemo) (result : Option Ref) → IfSome result (λ r. MkGives k k' n r.0) → IfNone result ((k' ≡ k) × IsOutFor k n)
    → IsGoodSession k → IsGoodSession k' → AreRight (store_of k) recent → AreRight (store_of k') recent
AreRight-made k k' n recent None some' none' g g' right = subst (λ (j : SessionValue). AreRight (store_of j) recent) (sym none'.0) right
AreRight-made k k' n recent (Some r) some' none' g g' right =
    let keeps = keeps_of k k' n r.0 some' in more_right k k' recent g g' keeps.grows keeps.vars right

-- a session that gets steps of another holds what that one holds
pub AreRight-given : (k : SessionValue) (q : ℕ) (recent : RecentMemo) → AreRight (store_of k) recent → AreRight (store_of (gets_quota q k)) recent
AreRight-given k q recent right = AreRight-same (store_of k) (store_of (gets_quota q k)) recent refl refl right

-- a session that gives up steps holds what it held
pub AreRight-quota : (k : SessionValue) (q : ℕ) (recent : RecentMemo) → AreRight (store_of k) recent → AreRight (store_of (gives_quota q k)) recent
AreRight-quota k q recent right = AreRight-same (store_of k) (store_of (gives_quota q k)) recent refl refl right

-- a session takes in another
pub AreRight-merged : (k j k' : SessionValue) (recent : RecentMemo) → k' ≡ session_union k j → HeldStays j k' → IsGoodSession k → IsGoodSession k' → AreRight (store_of k) recent → AreRight (store_of k') recent
AreRight-merged k j k' recent is right g g' was = let united = unites_of k j k' is right in more_right k k' recent g g' united.left united.vars was

-- and keeps what it holds
pub united-keeps : (k j k' : SessionValue) → k' ≡ session_union k j → HeldStays j k' → Keeps (store_of k) (store_of k')
united-keeps k j k' is right = let united = unites_of k j k' is right in record { grows = united.left; vars = united.vars; table = united.table }

-- it keeps what another holds where it takes in a part of that one, and both have as many variables
pub other-keeps : (k o j k' : SessionValue) (q : ℕ) → j ≡ gets_quota q o → k' ≡ session_union k j → HeldStays j k' → (store_of o).table ≡ (store_of k).table → k.vars ≡ o.vars → Keeps (store_of o) (store_of k')
other-keeps k o j k' q part is right table vars =
    let united = unites_of k j k' is right in
    record {
      grows = subst (λ (x : SessionValue). Grows (store_of x).held (store_of k').held) part united.right;
      vars = united.vars ∙ vars;
      table = united.table ∙ sym table;
    }

-- it remembers its own results, or those of the other where both have as many variables
pub AreRight-united : (k j k' : SessionValue) (mine other new : RecentMemo) (may : Bool) → k' ≡ session_union k j → HeldStays j k' → IsGoodSession k → IsGoodSession j → IsGoodSession k'
    → AreRight (store_of k) mine → AreRight (store_of j) other → (IsTrue may → k.vars ≡ j.vars)
    → (entries_of new ≡ entries_of mine) ⊎ (IsTrue may × (entries_of new ≡ entries_of other)) → AreRight (store_of k') new
AreRight-united k j k' mine other new may is right g h g' was theirs same (inl own) =
    let united = unites_of k j k' is right in
    AreRight-entries (store_of k') mine new own (more_right k k' mine g g' united.left united.vars was)
AreRight-united k j k' mine other new may is right g h g' was theirs same (inr (yes', over)) =
    let united = unites_of k j k' is right in
    AreRight-entries (store_of k') other new over (more_right j k' other h g' united.right (united.vars ∙ same yes') theirs)
