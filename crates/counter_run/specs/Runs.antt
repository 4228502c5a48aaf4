-- Meaning, and a law. Runs as data that have given bits at inputs and free nets, and given first
-- bits of the latches.
use Rattle.std.specs.Prelude.{◌≡◌, ◌<◌, ℕ, Bool, [], List, map, slice_index_or}
use Rattle.net_core.specs.declared.raw.RawNet.{RawNet}
use Rattle.net_core.specs.Flat.{HasOneDriver, IsInRange}
use Rattle.net_core.specs.Run.{IsRun, IsSettled}
use Rattle.ste_model.specs.declared.run.Run.{Run}
use Rattle.ste_model.specs.Runs.{HasRows, run_of}
use Rattle.counter_run.specs.Undriven.{undriven_nets}

-- a run with these rows of inputs and free nets, in the order of their numbers, and these first
-- bits of the latches
pub record IsRunOn (net : RawNet) (times : ℕ) (inputs : List (List Bool)) (first : List Bool)
    (run : Run) : Type 0 where
  pub rows : HasRows net.nets times run
  pub is_run : IsRun net times (run_of run)
  pub sources : map (λ node. slice_index_or run.rows node.0 []) (undriven_nets net) ≡ inputs
  pub starts : 0 < times → map (λ latch. run_of run 0 latch.output.0) net.latches ≡ first

-- Law: in a sound net without loops there is one such run at most.
abbrev pub OneRunOn : Type 0
OneRunOn =
    (net : RawNet) → HasOneDriver net → IsInRange net → IsSettled net →
    (times : ℕ) (inputs : List (List Bool)) (first : List Bool) (one other : Run) →
    IsRunOn net times inputs first one → IsRunOn net times inputs first other → one ≡ other
