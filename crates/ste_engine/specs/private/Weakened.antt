-- For private functions. The nets that an assertion weakens, time after time.
use Rattle.std.specs.Prelude.{◌≡◌, ◌+◌, ℕ, suc, List, [], ◌∷◌, min}
use Rattle.ste_model.specs.declared.task.Weakening.{Weakening}
use Rattle.ste_model.specs.Asked.{weakened_at}
use Rattle.sym_step.specs.Step.{ids_of}
use Rattle.ste_engine.specs.declared.timed_cuts.TimedCut.{TimedCut}
use Rattle.ste_engine.specs.declared.weakened.WeakLine.{WeakLine}
use Rattle.ste_engine.specs.private.Times.{IsTimeline}

-- a weakening as an entry of a timeline, with the times below the depth
abbrev pub weak_timed_cut : ℕ → ℕ → Weakening → TimedCut
weak_timed_cut depth place weakening = record {
  cut = record { node = weakening.node; guard = record { 0 = 0 }; value = record { 0 = 0 } };
  from = weakening.from;
  to = min weakening.to depth;
  place = place;
}

-- the same of lists, from this place on
abbrev pub weak_timed_cuts : ℕ → ℕ → List Weakening → List TimedCut
weak_timed_cuts depth place [] = []
weak_timed_cuts depth place (weakening ∷ weak) =
    weak_timed_cut depth place weakening ∷ weak_timed_cuts depth (suc place) weak

-- the line of weakenings, when it has come to time t and not dealt with it
abbrev pub IsWeakLine : List Weakening → ℕ → ℕ → WeakLine → Type 0
IsWeakLine weak depth t line = IsTimeline (weak_timed_cuts depth 0 weak) depth t line.line

-- it has dealt with time t, and has the nets of that time
pub record HasWeakened (weak : List Weakening) (depth t : ℕ) (line : WeakLine) : Type 0 where
  pub is : IsWeakLine weak depth (t + 1) line
  pub given : weakened_at weak t ≡ ids_of line.nets.items
