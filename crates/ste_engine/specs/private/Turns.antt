-- For private functions. What one time leaves, and what all times leave.
use Rattle.std.specs.Prelude.{◌<◌, ℕ, List, ◌∷◌, ◌++◌, map, Contains}
use Rattle.std.specs.List.{AllZip}
use Rattle.dd_nodes.specs.declared.node.Ref.{Ref}
use Rattle.ste_base.specs.Functions.{Function}
use Rattle.dd_nodes.specs.Stores.{Store, IsRef, Means}
use Rattle.net_core.specs.declared.raw.RawNet.{RawNet}
use Rattle.net_core.specs.Work.{SymbolicAsked, SymbolicCut, SymbolicSet, disjunction, some_empty, time_work}
use Rattle.dual_rail.specs.declared.rails.Rails.{Rails}
use Rattle.dual_rail.specs.Rail.{AreRails}
use Rattle.ste_model.specs.declared.task.Assertion.{Assertion}
use Rattle.ste_model.specs.declared.task.Quint.{Quint}
use Rattle.ste_model.specs.Need.{kept_functions}
use Rattle.ste_model.specs.Work.{contradictory_where, strong_where, weak_where}
use Rattle.ste_engine.specs.declared.timed_cuts.TimedCut.{TimedCut}
use Rattle.engine_parts.specs.declared.results.Results.{Results}
use Rattle.ste_engine.specs.declared.timeline.Timeline.{Timeline}
use Rattle.ste_engine.specs.declared.turn.Turned.{Turned}
use Rattle.ste_engine.specs.private.TimedCuts.{AreTimedCuts}
use Rattle.ste_engine.specs.private.Finds.{AreFound, AreFoundRefs, found_work, more_strong, more_weak}
use Rattle.ste_engine.specs.private.Times.{IsTimeline}

-- what is asked, where these nets are weakened and these cuts are made
abbrev pub asked_by : List ℕ → List SymbolicCut → SymbolicAsked
asked_by weak cuts = record { cuts = cuts; weak = weak }

-- the timeline of quintuples at time t, by references of this store
pub record IsLine (s : Store) (quints : List Quint) (depth t : ℕ) (line : Timeline) : Type 0 where
  pub timed_cuts : List TimedCut
  pub fit : AreTimedCuts s 0 quints timed_cuts
  pub is : IsTimeline timed_cuts depth t line

-- the sums that one time goes on with
pub record AreTurnedRefs (s : Store) (before : Turned) : Type 0 where
  pub contradictory : IsRef s before.contradictory
  pub found : AreFoundRefs s before.found

-- the functions for one time, with the sums so far
abbrev pub turned_work : RawNet → List SymbolicSet → List ℕ → List SymbolicCut → List SymbolicCut →
    (ℕ → SymbolicSet) → Function → Function → Function → List Function
turned_work net ls weak ds es sets c f h =
    time_work net ls (asked_by weak ds) sets ++
    (disjunction c (some_empty net sets) ∷ found_work sets es f h)

-- one time has been dealt with: each net's set has references, and the latches' next sets and the
-- sums are these
pub record IsTurned (net : RawNet) (es : List SymbolicCut) (sets : ℕ → SymbolicSet)
    (c f h : Function) (held : List Rails) (t : Store) (r : Turned) : Type 0 where
  pub nets : (id : ℕ) → id < net.nets → (rails : Rails) × AreRails t (sets id) rails
  pub next : AllZip (AreRails t) (map (λ latch. sets latch.input.0) net.latches) held
  pub contradictory : Means t (disjunction c (some_empty net sets)) r.contradictory
  pub found : AreFound (more_strong sets es f) (more_weak sets es h) t r.found

-- the references are the results, and each kept function has one
pub record AreResults (net : RawNet) (task : Assertion) (table : ℕ → ℕ → SymbolicSet) (t : Store)
    (r : Results) : Type 0 where
  pub strong : Means t (strong_where net task table) r.strong
  pub weak : Means t (weak_where net task table) r.weak
  pub contradictory : Means t (contradictory_where net task table) r.contradictory
  pub kept : (f : Function) → Contains (kept_functions net task table) f → (x : Ref) × Means t f x
