use Rattle.std.proofs.Common.{◌≡◌, ◌<◌, ℕ, Bool, length, map, Some}
use Rattle.std.specs.Prelude.{slice_get}
use Rattle.clock_step.specs.Simulation.{IsSimulation, outputs_at}
use Rattle.clock_step.proofs.simulation.outputs_of.Given as goal

-- the rows so far are the outputs of each run on these inputs, and the latches hold what it has next
abbrev pub invariant-loop-row : goal.invariant-loop-row
invariant-loop-row l = record {
  wide : length l.bits ≡ l.net.raw.nets;
  count : length l.held.items ≡ length l.net.raw.latches;
  long : length l.outputs ≡ l.row-index;
  held : (run : ℕ → ℕ → Bool) → IsSimulation l.net.raw l.inputs run → l.row-index < length l.inputs.rows → l.held.items ≡ map (λ latch. run l.row-index latch.output.0) l.net.raw.latches;
  each : (run : ℕ → ℕ → Bool) → IsSimulation l.net.raw l.inputs run → (t : ℕ) → t < l.row-index → slice_get l.outputs t ≡ Some (outputs_at l.net.raw (run t));
}
