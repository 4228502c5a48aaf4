-- Meaning and law: the run with given bits.
use Rattle.std.specs.Prelude.{◌≡◌, ℕ, ◌<◌, Bool, List, length}
use Rattle.std.specs.List.{AllZip}
use Rattle.net_core.specs.declared.raw.RawNet.{RawNet}
use Rattle.net_core.specs.Flat.{IsInRange, HasOneDriver}
use Rattle.net_core.specs.Run.{IsRun, IsSettled, IsUndriven}

-- a run of length n that has these bits at inputs and free nets, and these first values, one a
-- latch
pub record IsGivenRun (net : RawNet) (given : ℕ → ℕ → Bool) (first : List Bool) (n : ℕ)
    (run : ℕ → ℕ → Bool) : Type 0 where
  pub is_run : IsRun net n run
  pub sources : (t id : ℕ) → t < n → id < net.nets → IsUndriven net id → run t id ≡ given t id
  pub starts : 0 < n → AllZip (λ latch bit. run 0 latch.output.0 ≡ bit) net.latches first

-- Law: in a sound net without loops there is exactly one run of each length with given bits at
-- inputs and free nets and given first values of the latches.
pub record OneRun : Type 0 where
  pub some : (net : RawNet) → HasOneDriver net → IsSettled net →
      (given : ℕ → ℕ → Bool) (first : List Bool) (n : ℕ) → length first ≡ length net.latches →
      (run : ℕ → ℕ → Bool) × IsGivenRun net given first n run
  pub same : (net : RawNet) → IsInRange net → IsSettled net →
      (given : ℕ → ℕ → Bool) (first : List Bool) (n : ℕ) (one other : ℕ → ℕ → Bool) →
      IsGivenRun net given first n one → IsGivenRun net given first n other →
      (t id : ℕ) → t < n → id < net.nets → one t id ≡ other t id
