use Rattle.std.proofs.Common.{drop, refl}
use Rattle.std.specs.Prelude.{flat_map, zip}
use Rattle.report_text.specs.Text.{bit_part}
use Rattle.report_text.proofs.Rest.{at_end, nothing_left}
use Rattle.report_text.proofs.failure.put_bits.Goals as goal

pub returns : goal.returns
returns c =
    at_end (flat_map bit_part) c.loop-place.text.items c.args.text.now.items
    (zip (drop c.loop-place.place c.args.vars.now) (drop c.loop-place.place c.args.bits.now))
    (zip c.args.vars.now c.args.bits.now) refl
    (nothing_left c.args.vars.now c.args.bits.now c.loop-place.place c.loop-place-test.false) c.loop-place.invariant
