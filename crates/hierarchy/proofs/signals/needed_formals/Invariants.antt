use Rattle.std.proofs.Common.{◌≡◌, drop}
use Rattle.std.specs.Prelude.{bytes_eq, flat_map}
use Rattle.indexmap.specs.IndexSet.{insert_all}
use Rattle.hierarchy.specs.Lines.{needed_formals, needed_words}
use Rattle.hierarchy.proofs.signals.needed_formals.Given as goal

-- the names so far, with those of the items that are left, are all
abbrev pub invariant-loop-item : goal.invariant-loop-item
invariant-loop-item l = insert_all bytes_eq l.set.keys (flat_map (λ item. needed_words item.what) (drop l.item-index l.model.items)) ≡ needed_formals l.model
