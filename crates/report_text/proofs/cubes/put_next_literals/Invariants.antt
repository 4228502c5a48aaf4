use Rattle.std.proofs.Common.{◌≡◌, ◌++◌, map, take}
use Rattle.std.specs.Prelude.{codes, flat_map}
use Rattle.report_text.specs.Text.{literal_text}
use Rattle.report_text.proofs.cubes.put_next_literals.Given as goal

-- the literals so far are put
abbrev pub invariant-loop-literal : goal.invariant-loop-literal
invariant-loop-literal l = l.text.items ≡ l.fn.text.items ++ flat_map (λ other. codes " & " ++ other) (map (literal_text l.vars) (take l.literal-index l.literals))
