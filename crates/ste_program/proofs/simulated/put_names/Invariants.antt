use Rattle.std.proofs.Common.{◌≡◌, ◌++◌, take}
use Rattle.std.specs.Prelude.{flat_map}
use Rattle.ste_program.specs.Simulated.{name_part}
use Rattle.ste_program.specs.private.Simulated.{own_names}
use Rattle.ste_program.proofs.simulated.put_names.Given as goal

-- the names so far are put
abbrev pub invariant-loop-id : goal.invariant-loop-id
invariant-loop-id l = l.text.items ≡ l.fn.text.items ++ flat_map name_part (own_names l.names (take l.id-index l.ids))
