use Rattle.std.proofs.Common.{◌≡◌, ◌++◌, map, take}
use Rattle.std.specs.Prelude.{codes, flat_map}
use Rattle.report_text.specs.Text.{cube_text}
use Rattle.report_text.proofs.cubes.put_next_cubes.Given as goal

-- the cubes so far are put
abbrev pub invariant-loop-cube : goal.invariant-loop-cube
invariant-loop-cube l = l.text.items ≡ l.fn.text.items ++ flat_map (λ other. codes " | " ++ other) (map (cube_text l.vars) (take l.cube-index l.cubes))
