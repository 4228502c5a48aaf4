use Rattle.std.proofs.Common.{◌≡◌, ◌≤◌, take, length}
use Rattle.blif_lines.specs.Lines.{trimmed_text}
use Rattle.aig_reader.proofs.scan.trimmed_text.Given as goal

-- only blanks are cut off so far
abbrev pub invariant-loop-end : goal.invariant-loop-end
invariant-loop-end l = (l.end ≤ length l.text) × (trimmed_text (take l.end l.text) ≡ trimmed_text
    l.text)

abbrev pub decreases-loop-end : goal.decreases-loop-end
decreases-loop-end l = l.end
