use Rattle.std.proofs.Common.{◌≡◌, [], drop, map}
use Rattle.std.specs.Prelude.{bytes_eq}
use Rattle.indexmap.specs.IndexSet.{insert_all}
use Rattle.hierarchy.proofs.unbound.bound_names.Given as goal

abbrev pub invariant-loop-binding : goal.invariant-loop-binding
invariant-loop-binding l = insert_all bytes_eq l.bound.keys (map (λ binding. binding.0) (drop l.binding-index l.used.bindings)) ≡ insert_all bytes_eq [] (map (λ binding. binding.0) l.used.bindings)
