-- States by references: what is held stays, and each has its own functions.
use Rattle.std.proofs.Common.{◌≡◌, ℕ, List, length, get_or, map, sym, ◌∙◌, All}
use Rattle.std.proofs.lemmas.List.{length-map}
use Rattle.dd_nodes.specs.Stores.{Store, Keeps, function}
use Rattle.dd_nodes.proofs.Spending.{own}
use Rattle.dd_nodes.proofs.Stores.{IsGood, Means-keeps}
use Rattle.dd_nodes.proofs.Walks.{IsFrom-grows}
use Rattle.net_core.specs.declared.raw.RawNet.{RawNet}
use Rattle.engine_parts.proofs.FirstSets.{zip_refs}
use Rattle.ste_model.specs.GraphWork.{SymbolicState}
use Rattle.dual_rail.specs.Rail.{AreRails}
use Rattle.dual_rail.proofs.Turns.{All-refs-keep, Zip-keep, own_zip, zip_long}
use Rattle.dual_rail.proofs.Works.{set_where}
use Rattle.gste_engine.specs.declared.state.State.{State}
use Rattle.gste_engine.specs.Tables.{AreStateRefs, HasStates, IsState}

pub State-keeps : (s t : Store) (x : SymbolicState) (r : State) → IsGood s → IsGood t → Keeps s t → IsState s x r → IsState t x r
State-keeps s t x r gs gt k h = record { reached = Means-keeps s t x.reached r.reached gs gt k h.reached; latches = Zip-keep s t x.latches r.latches gs gt k h.latches }

pub StateRefs-keep : (s t : Store) (net : RawNet) (r : State) → Keeps s t → AreStateRefs s net r → AreStateRefs t net r
StateRefs-keep s t net r k h = record { long = h.long; reached = IsFrom-grows s.held t.held 0 r.reached k.grows h.reached; latches = All-refs-keep s t r.latches k h.latches }

pub All-states-keep : (s t : Store) (net : RawNet) (rs : List State) → Keeps s t → All (AreStateRefs s net) rs → All (AreStateRefs t net) rs
All-states-keep s t net rs k h = λ i d l. StateRefs-keep s t net (get_or rs i d) k (h i d l)

pub state_refs : (t : Store) (net : RawNet) (x : SymbolicState) (r : State) → length x.latches ≡ length net.latches → IsState t x r → AreStateRefs t net r
state_refs t net x r long h = record { long = sym (zip_long (AreRails t) x.latches r.latches h.latches) ∙ long; reached = h.reached.ref; latches = zip_refs t x.latches r.latches h.latches }

abbrev pub own_state : Store → State → SymbolicState
own_state s r = record { reached = function s r.reached; latches = map (set_where s) r.latches }

pub own_is : (s : Store) (net : RawNet) (r : State) → AreStateRefs s net r → IsState s (own_state s r) r
own_is s net r h = record { reached = own s r.reached h.reached; latches = own_zip s r.latches h.latches }

pub own_long : (s : Store) (net : RawNet) (r : State) → AreStateRefs s net r → length (own_state s r).latches ≡ length net.latches
own_long s net r h = length-map r.latches (set_where s) ∙ h.long

-- a state is as long as its references
pub state_long : (t : Store) (net : RawNet) (x : SymbolicState) (r : State) → AreStateRefs t net r → IsState t x r → length x.latches ≡ length net.latches
state_long t net x r refs h = zip_long (AreRails t) x.latches r.latches h.latches ∙ refs.long

-- a table keeps its functions
pub States-keep : (table : ℕ → SymbolicState) (vertices : ℕ) (s t : Store) (rs : List State) → IsGood s → IsGood t → Keeps s t → HasStates table vertices s rs → HasStates table vertices t rs
States-keep table vertices s t rs gs gt k h = record { long = h.long; each = λ v d lt. State-keeps s t (table v) (get_or rs v d) gs gt k (h.each v d lt) }
