-- Law: what a text says that has no fault is sound, so that its literal runs are those of its
-- model.
use Rattle.std.specs.Prelude.{◌≡◌, ◌≤◌, ℕ, List, None, length}
use Rattle.aig_model.specs.Answer.{spelled_aig}
use Rattle.aig_model.specs.Faults.{text_fault}
use Rattle.aig_model.specs.Sound.{IsSoundAig}

-- Law: a text without a fault defines no variable twice, nor 0, and all its variables, and the
-- number of its outputs, are below 2^31.
abbrev pub ReadIsSound : Type 0
ReadIsSound = (bytes : List ℕ) → length bytes ≤ 67108864 → text_fault bytes ≡ None →
    IsSoundAig (spelled_aig bytes)
