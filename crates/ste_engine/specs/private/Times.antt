-- For private functions. How far the times of an assertion are.
use Rattle.std.specs.Prelude.{◌≡◌, ◌<◌, ◌+◌, ℕ, List, [], filter, length, slice_index_or}
use Rattle.sym_step.specs.declared.cut.Cut.{Cut}
use Rattle.ste_engine.specs.declared.timed_cuts.TimedCut.{TimedCut}
use Rattle.ste_engine.specs.declared.timeline.Timeline.{Timeline}
use Rattle.ste_engine.specs.private.TimedCuts.{begins_at, cuts_of, ran_before, running_cuts}

-- for each time below the depth what begins then, in order
pub record AreStarts (timed_cuts : List TimedCut) (depth : ℕ)
    (starts : List (List TimedCut)) : Type 0 where
  pub long : length starts ≡ depth
  pub each : (t : ℕ) → t < depth → slice_index_or starts t [] ≡ filter (begins_at t) timed_cuts

-- the timeline of what is asked, when it has come to time t and not dealt with it
pub record IsTimeline (timed_cuts : List TimedCut) (depth t : ℕ) (line : Timeline) : Type 0 where
  pub starts : AreStarts timed_cuts depth line.starts.items
  pub running : line.running.items ≡ filter (ran_before t) timed_cuts
  pub cuts : line.cuts.items ≡ cuts_of line.running.items

-- it has dealt with time t, and given these cuts
pub record HasTurned (timed_cuts : List TimedCut) (depth t : ℕ) (line : Timeline)
    (cuts : List Cut) : Type 0 where
  pub is : IsTimeline timed_cuts depth (t + 1) line
  pub given : cuts ≡ running_cuts t timed_cuts
