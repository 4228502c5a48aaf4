use Rattle.std.proofs.Common.{ap}
use Rattle.assert_syntax.specs.private.Drafts.{context_held}
use Rattle.assert_syntax.specs.Held.{form_held}
use Rattle.assert_syntax.proofs.Turn.{at_form}
use Rattle.assert_syntax.proofs.read.line_read.Goals as goal

pub returns-in-Edge : goal.returns-in-Edge
returns-in-Edge c = λ parse is. at_form parse (context_held c.args.known.now) (context_held c.edge_read.new.known) c.args.draft.now c.edge_read.new.draft c.args.line _ _ c.edge_read.result (ap form_held c.in-Edge.is) (c.edge_read.ensures parse is)

pub returns-in-Clause : goal.returns-in-Clause
returns-in-Clause c = λ parse is. at_form parse (context_held c.args.known.now) (context_held c.args.known.now) c.args.draft.now c.clause_read.new.draft c.args.line _ _ c.clause_read.result (ap form_held c.in-Clause.is) (c.clause_read.ensures parse is)

pub returns-in-Weak : goal.returns-in-Weak
returns-in-Weak c = λ parse is.
    let context = context_held c.args.known.now in
    at_form parse context context c.args.draft.now c.weak_read.new.draft c.args.line _ _
    c.weak_read.result (ap form_held c.in-Weak.is) (c.weak_read.ensures parse context)
