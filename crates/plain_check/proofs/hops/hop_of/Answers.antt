use Rattle.std.proofs.Common.{List, ap, subst, ◌∙◌}
use Rattle.std.specs.List.{list_any}
use Rattle.net_core.specs.declared.bit_set.BitSet.{BitSet}
use Rattle.plain_check.specs.declared.found.Failure.TheVariants as failure
use Rattle.plain_check.specs.private.Outcome.{bind_fails}
use Rattle.plain_check.specs.States.{IsEdgeRow}
use Rattle.plain_check.proofs.HopFacts.{none_hop, some_hop}
use Rattle.plain_check.proofs.hops.hop_of.Goals as goal

pub returns-in_default : goal.returns-in_default
returns-in_default c = λ table is.
    let net = c.args.net.now.raw in
    none_hop net c.args.bits.now table c.args.edge.now (subst (IsEdgeRow net c.args.bits.now table c.args.edge.now) c.in_default.is (c.in_ok-row.ensures table is))

pub returns : goal.returns
returns c = λ table is.
    let net = c.args.net.now.raw in
    let row = subst (IsEdgeRow net c.args.bits.now table c.args.edge.now) c.in-Some.is (c.in_ok-row.ensures table is) in
    some_hop net c.args.bits.now table c.args.edge.now c.settles.ensures c.in-Some.row row.1 c.some_bind_fails-strong.result c.some_bind_fails-weak.result
    (c.some_bind_fails-strong.ensures ∙ ap (λ (r : List BitSet). list_any (bind_fails failure.Strong r c.args.bits.now) c.as_slice-2.result.now) c.as_slice.ensures ∙ ap (list_any (bind_fails failure.Strong c.in-Some.row c.args.bits.now)) c.as_slice-2.ensures)
    (c.some_bind_fails-weak.ensures ∙ ap (λ (r : List BitSet). list_any (bind_fails failure.Weak r c.args.bits.now) c.as_slice-4.result.now) c.as_slice-3.ensures ∙ ap (list_any (bind_fails failure.Weak c.in-Some.row c.args.bits.now)) c.as_slice-4.ensures)
