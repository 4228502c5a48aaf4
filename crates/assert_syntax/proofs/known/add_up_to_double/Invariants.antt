use Rattle.std.proofs.Common.{◌≡◌, ◌++◌, drop}
use Rattle.assert_syntax.specs.Places.{first_double}
use Rattle.assert_syntax.proofs.known.add_up_to_double.Given as goal

-- the names that are left decide
abbrev pub invariant-loop-name : goal.invariant-loop-name
invariant-loop-name l = (first_double l.vars (drop l.name-index l.names) ≡ first_double l.initial.vars l.names) × (l.vars ++ drop l.name-index l.names ≡ l.initial.vars ++ l.names)
