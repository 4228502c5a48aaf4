use Rattle.std.proofs.Common.{◌≡◌, drop}
use Rattle.assert_syntax.specs.Parses.{Parse, IsParse}
use Rattle.net_names.specs.Names.{named_by}
use Rattle.ste_rules.specs.Forms.{step_entries_of}
use Rattle.ste_rules.specs.Steps.{steps_behind, steps_of}
use Rattle.ste_rules.specs.private.Held.{steps_held}
use Rattle.ste_rules.specs.private.Turns.{AreAligned}
use Rattle.ste_rules.proofs.read.proof_from.Given as goal

-- the lines that are left decide, and each claim has a name
abbrev pub invariant-loop-line : goal.invariant-loop-line
invariant-loop-line l = (parse : Parse) → IsParse parse →
    (steps_behind parse (named_by l.names) l.tasks (steps_held l.steps) (step_entries_of (drop l.line-index l.lines)) ≡ steps_of parse (named_by l.names) l.tasks (step_entries_of l.lines))
    × AreAligned (steps_held l.steps)
