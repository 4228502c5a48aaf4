-- Quintuples one by one, and what is asked time by time.
use Rattle.std.proofs.Common.{ℕ, zero, suc, Bool, true, List, [], ◌∷◌, arith}
use Rattle.std.specs.Prelude.{All}
use Rattle.ste_model.specs.declared.task.Quint.{Quint}
use Rattle.ste_model.specs.Asked.{cuts_at}
use Rattle.ste_model.specs.Holds.{RunMeets}
use Rattle.ste_model.specs.private.Meeting.{IsMet}

-- a run that meets each quintuple meets them all
pub met_together : (run : ℕ → ℕ → Bool) (bits : List Bool) (quints : List Quint) → All (IsMet run bits) quints → RunMeets (cuts_at quints bits) run
met_together run bits [] all t k d l on = absurd (omega arith)
met_together run bits (quint ∷ quints) all t zero d l on = all 0 quint (omega arith) t on
met_together run bits (quint ∷ quints) all t (suc k) d l on = met_together run bits quints (λ i e m. all (suc i) e (omega arith)) t k d (omega arith) on

-- and the other way round
pub met_apart : (run : ℕ → ℕ → Bool) (bits : List Bool) (quints : List Quint) → RunMeets (cuts_at quints bits) run → All (IsMet run bits) quints
met_apart run bits [] meets k d l t on = absurd (omega arith)
met_apart run bits (quint ∷ quints) meets zero d l t on = meets t 0 (record { node = 0; on = true; value = true }) (omega arith) on
met_apart run bits (quint ∷ quints) meets (suc k) d l t on = met_apart run bits quints (λ u i e m. meets u (suc i) e (omega arith)) k d (omega arith) t on
