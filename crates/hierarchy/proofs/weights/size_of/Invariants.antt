use Rattle.std.proofs.Common.{◌≡◌, ◌≤◌, ◌+◌, drop, length, suc, min}
use Rattle.std.specs.Prelude.{flat_map}
use Rattle.hierarchy.specs.Lines.{signal_words}
use Rattle.hierarchy.specs.Sizes.{words_of_signals}
use Rattle.hierarchy.proofs.weights.size_of.Given as goal

-- the size so far, with the words of the items that are left
abbrev pub invariant-loop-item : goal.invariant-loop-item
invariant-loop-item l = record {
  capped : l.size ≤ l.cap;
  rest : min l.cap (l.size + length (flat_map (λ item. signal_words item.what) (drop l.item-index l.model.items)))
      ≡ min l.cap (suc (length (words_of_signals l.model)));
}
