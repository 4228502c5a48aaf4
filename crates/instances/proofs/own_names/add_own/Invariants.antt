use Rattle.std.proofs.Common.{◌≡◌, ◌++◌, drop}
use Rattle.instances.specs.Numbers.{own_names_in}
use Rattle.instances.proofs.own_names.add_own.Given as goal

abbrev pub invariant-loop-place : goal.invariant-loop-place
invariant-loop-place l = l.names ++ own_names_in l.path (drop l.place l.signals.keys) (drop l.place l.bounds) ≡ l.fn.names ++ own_names_in l.path l.signals.keys l.bounds
