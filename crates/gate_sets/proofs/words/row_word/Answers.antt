use Rattle.std.proofs.Common.{get_or}
use Rattle.std.proofs.lemmas.List.{get_or_default}
use Rattle.net_core.specs.declared.cover.Lit.TheVariants.{Zero}
use Rattle.gate_sets.proofs.WordBits.{row_begins, row_goes_on, row_ends}
use Rattle.gate_sets.proofs.words.row_word.Goals as goal

pub loop-place-init : goal.loop-place-init
loop-place-init c = λ choice l. row_begins c.args.digits c.args.row.now choice l

pub loop-place-preserved : goal.loop-place-preserved
loop-place-preserved c = λ choice l.
    let row = c.args.row.now in
    let place = c.loop-place.place in
    let lit = get_or row place Zero in
    row_goes_on c.args.digits row lit c.loop-place.word c.lit_word-word.result place choice _ c.loop-place-test.true (get_or_default row place Zero lit c.loop-place-test.true) (c.lit_word-word.ensures choice l) (c.loop-place.invariant choice l)

pub returns : goal.returns
returns c = λ choice l. row_ends c.args.digits c.args.row.now c.loop-place.word c.loop-place.place choice _ c.loop-place-test.false (c.loop-place.invariant choice l)
