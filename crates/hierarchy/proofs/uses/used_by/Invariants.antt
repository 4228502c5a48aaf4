use Rattle.std.proofs.Common.{◌≡◌, ◌++◌, drop}
use Rattle.std.specs.Prelude.{bytes_eq, filter_map, position}
use Rattle.hierarchy.specs.Lines.{use_lines, use_of}
use Rattle.hierarchy.proofs.uses.used_by.Given as goal

abbrev pub invariant-loop-item : goal.invariant-loop-item
invariant-loop-item l =
    l.numbers ++ filter_map (λ used. position (bytes_eq used.model) l.names.keys) (filter_map use_of (drop l.item-index l.model.items))
    ≡ filter_map (λ used. position (bytes_eq used.model) l.names.keys) (use_lines l.model)
