use Rattle.std.proofs.Common.{◌≡◌, drop}
use Rattle.std.specs.Prelude.{bytes_eq, flat_map}
use Rattle.indexmap.specs.IndexSet.{insert_all}
use Rattle.hierarchy.specs.Lines.{formal_words, formals_of}
use Rattle.hierarchy.proofs.signals.formals_of.Given as goal

-- the names so far, with those of the items that are left, are all
abbrev pub invariant-loop-item : goal.invariant-loop-item
invariant-loop-item l = insert_all bytes_eq l.set.keys (flat_map (λ item. formal_words item.what) (drop l.item-index l.model.items)) ≡ formals_of l.model
