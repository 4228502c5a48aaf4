use Rattle.std.proofs.Common.{◌≡◌, take}
use Rattle.ste_program.specs.Simulated.{sim_text}
use Rattle.ste_program.specs.private.Simulated.{own_names}
use Rattle.ste_program.proofs.simulated.sim_text.Given as goal

-- the rows so far are put
abbrev pub invariant-loop-row : goal.invariant-loop-row
invariant-loop-row l = l.text.items ≡ sim_text (own_names l.names l.ids) (take l.row-index l.rows)
