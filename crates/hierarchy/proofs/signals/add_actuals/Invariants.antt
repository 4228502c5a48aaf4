use Rattle.std.proofs.Common.{◌≡◌, drop, map}
use Rattle.std.specs.Prelude.{bytes_eq}
use Rattle.indexmap.specs.IndexSet.{insert_all}
use Rattle.hierarchy.proofs.signals.add_actuals.Given as goal

abbrev pub invariant-loop-binding : goal.invariant-loop-binding
invariant-loop-binding l = insert_all bytes_eq l.set.keys (map (λ binding. binding.1) (drop l.binding-index l.formals)) ≡ insert_all bytes_eq l.initial.set.keys (map (λ binding. binding.1) l.formals)
