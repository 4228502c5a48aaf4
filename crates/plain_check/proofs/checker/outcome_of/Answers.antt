use Rattle.std.proofs.Common.{◌∙◌, sym}
use Rattle.net_core.proofs.Ordered.{settled_by_order}
use Rattle.plain_check.specs.declared.found.Failure.TheVariants as failure
use Rattle.plain_check.proofs.Outcomes.{contradictory_is, contradictory_is_not, none_of, some_of, strong_found, strong_found_not, weak_found, weak_found_not}
use Rattle.plain_check.proofs.checker.outcome_of.Goals as goal

pub returns-then-has_empty : goal.returns-then-has_empty
returns-then-has_empty c =
    let net = c.args.net.now in
    contradictory_is net.raw c.args.task.now c.args.bits.now (settled_by_order net.raw net.settled net.in_order) c.args.rows.now (c.requires.long ∙ c.requires.depth) c.requires.wide c.requires.table
    (sym c.has_empty.ensures ∙ c.if-has_empty.true)

pub returns-then-fails_somewhere : goal.returns-then-fails_somewhere
returns-then-fails_somewhere c =
    let net = c.args.net.now in
    let failing = some_of failure.Strong c.args.rows.now c.args.task.now c.args.bits.now c.args.depth c.as_slice.result.now c.requires.depth c.as_slice.ensures (c.fails_somewhere.ensures.some c.if-fails_somewhere.true) in
    strong_found net.raw c.args.task.now c.args.bits.now (settled_by_order net.raw net.settled net.in_order) c.args.rows.now (c.requires.long ∙ c.requires.depth) c.requires.wide c.requires.table
    (sym c.has_empty.ensures ∙ c.if-has_empty.false) failing

pub returns-then-fails_somewhere-2 : goal.returns-then-fails_somewhere-2
returns-then-fails_somewhere-2 c =
    let net = c.args.net.now in
    let holding = none_of failure.Strong c.args.rows.now c.args.task.now c.args.bits.now c.args.depth c.as_slice.result.now c.requires.depth c.as_slice.ensures (c.fails_somewhere.ensures.none c.if-fails_somewhere.false) in
    let failing = some_of failure.Weak c.args.rows.now c.args.task.now c.args.bits.now c.args.depth c.as_slice-else-fails_somewhere.result.now c.requires.depth c.as_slice-else-fails_somewhere.ensures (c.fails_somewhere-else-fails_somewhere.ensures.some c.if-fails_somewhere-2.true) in
    weak_found net.raw c.args.task.now c.args.bits.now (settled_by_order net.raw net.settled net.in_order) c.args.rows.now (c.requires.long ∙ c.requires.depth) c.requires.wide c.requires.table
    (sym c.has_empty.ensures ∙ c.if-has_empty.false) holding failing

pub returns-else-fails_somewhere-2 : goal.returns-else-fails_somewhere-2
returns-else-fails_somewhere-2 c =
    let net = c.args.net.now in
    let settled = settled_by_order net.raw net.settled net.in_order in
    let long = c.requires.long ∙ c.requires.depth in
    let strong = none_of failure.Strong c.args.rows.now c.args.task.now c.args.bits.now c.args.depth c.as_slice.result.now c.requires.depth c.as_slice.ensures (c.fails_somewhere.ensures.none c.if-fails_somewhere.false) in
    let weak = none_of failure.Weak c.args.rows.now c.args.task.now c.args.bits.now c.args.depth c.as_slice-else-fails_somewhere.result.now c.requires.depth c.as_slice-else-fails_somewhere.ensures (c.fails_somewhere-else-fails_somewhere.ensures.none c.if-fails_somewhere-2.false) in (
      contradictory_is_not net.raw c.args.task.now c.args.bits.now settled c.args.rows.now long c.requires.wide c.requires.table (sym c.has_empty.ensures ∙ c.if-has_empty.false),
      strong_found_not net.raw c.args.task.now c.args.bits.now settled c.args.rows.now long c.requires.wide c.requires.table strong,
      weak_found_not net.raw c.args.task.now c.args.bits.now settled c.args.rows.now long c.requires.wide c.requires.table weak,
    )
