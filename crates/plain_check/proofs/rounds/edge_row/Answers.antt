use Rattle.std.proofs.Common.{List, ◌∙◌, ap, sym, subst}
use Rattle.std.specs.List.{list_any}
use Rattle.net_core.specs.declared.bit_set.BitSet.{BitSet}
use Rattle.net_core.specs.Possible.{ArePossible}
use Rattle.ste_model.specs.Edges.{asked_on}
use Rattle.plain_check.specs.private.Outcome.{is_empty}
use Rattle.plain_check.specs.private.Sets.{set_at}
use Rattle.plain_check.proofs.EdgeRows.{feasible_row, not_full}
use Rattle.plain_check.proofs.rounds.edge_row.Goals as goal

pub returns-then-row_has_empty : goal.returns-then-row_has_empty
returns-then-row_has_empty c = λ table is.
    let net = c.args.net.now.raw in
    not_full net c.args.bits.now table c.args.edge.now c.args.source.now is c.settles.ensures c.in_ok-row.row c.in_ok-row.ensures.long
    (subst (λ (held : List BitSet). ArePossible net held (asked_on c.args.edge.now c.args.bits.now) (set_at c.in_ok-row.row)) c.as_slice.ensures c.in_ok-row.ensures.possible)
    (ap (list_any is_empty) (sym c.as_slice-2.ensures) ∙ sym c.row_has_empty.ensures ∙ c.if-row_has_empty.true)

pub returns : goal.returns
returns c = λ table is.
    let net = c.args.net.now.raw in
    feasible_row net c.args.bits.now table c.args.edge.now c.args.source.now is c.settles.ensures c.in_ok-row.row c.in_ok-row.ensures.long
    (subst (λ (held : List BitSet). ArePossible net held (asked_on c.args.edge.now c.args.bits.now) (set_at c.in_ok-row.row)) c.as_slice.ensures c.in_ok-row.ensures.possible)
    c.if-not-source.false
    (ap (list_any is_empty) (sym c.as_slice-2.ensures) ∙ sym c.row_has_empty.ensures ∙ c.if-row_has_empty.false)
