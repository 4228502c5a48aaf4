-- For private functions. The sets of all nets, while they get other ones.
use Rattle.std.specs.Prelude.{◌≡◌, ◌<◌, All, false, IsTrue, ℕ, List, length}
use Rattle.sym_step.specs.declared.board.Board.{Board}
use Rattle.gate_sets.specs.declared.net_rails.NetRails.{NetRails}
use Rattle.gate_sets.specs.NetSets.{net_at}
use Rattle.sym_step.specs.private.Readers.{Lists, flag_at}

-- each set has a bit everywhere, by its references
abbrev pub AreFull : List NetRails → Type 0
AreFull nets = All (λ r. r.some ≡ record { 0 = 1 }) nets

-- What writes leave: a gate or a latch that is not due afterwards was not due before, and each net
-- in whose list it stands has the references of before.
pub record Follows (old new : Board) : Type 0 where
  pub long : length new.nets.items ≡ length old.nets.items
  pub marks : length new.due.flags.items ≡ length old.due.flags.items
  pub order : new.due.order ≡ old.due.order
  pub readers : new.readers ≡ old.readers
  pub full : (IsTrue old.full → AreFull old.nets.items) → IsTrue new.full → AreFull new.nets.items
  pub noted : (k : ℕ) → k < length old.due.flags.items → flag_at new.due.flags.items k ≡ false →
      (flag_at old.due.flags.items k ≡ false) ×
      ((id : ℕ) → Lists old.readers id k → net_at new.nets.items id ≡ net_at old.nets.items id)
