use Rattle.std.proofs.Common.{◌≡◌, arith}
use Rattle.gate_sets.proofs.TruthTables.{ones_0, ones_1, ones_2, ones_3, ones_4, ones_5, ones_bits, ones_choices}
use Rattle.gate_sets.proofs.words.ones.Goals as goal

pub returns-then-place-eq0-clause-bits : goal.returns-then-place-eq0-clause-bits
returns-then-place-eq0-clause-bits c = ones_bits 12297829382473034410 0 c.args.place ones_0 c.if-place-eq0.true

pub returns-then-place-eq0-clause-choices : goal.returns-then-place-eq0-clause-choices
returns-then-place-eq0-clause-choices c = ones_choices 12297829382473034410 c.args.place (returns-then-place-eq0-clause-bits c)

pub returns-then-place-eq1-clause-bits : goal.returns-then-place-eq1-clause-bits
returns-then-place-eq1-clause-bits c = ones_bits 14757395258967641292 1 c.args.place ones_1 c.if-place-eq1.true

pub returns-then-place-eq1-clause-choices : goal.returns-then-place-eq1-clause-choices
returns-then-place-eq1-clause-choices c = ones_choices 14757395258967641292 c.args.place (returns-then-place-eq1-clause-bits c)

pub returns-then-place-eq2-clause-bits : goal.returns-then-place-eq2-clause-bits
returns-then-place-eq2-clause-bits c = ones_bits 17361641481138401520 2 c.args.place ones_2 c.if-place-eq2.true

pub returns-then-place-eq2-clause-choices : goal.returns-then-place-eq2-clause-choices
returns-then-place-eq2-clause-choices c = ones_choices 17361641481138401520 c.args.place (returns-then-place-eq2-clause-bits c)

pub returns-then-place-eq3-clause-bits : goal.returns-then-place-eq3-clause-bits
returns-then-place-eq3-clause-bits c = ones_bits 18374966859414961920 3 c.args.place ones_3 c.if-place-eq3.true

pub returns-then-place-eq3-clause-choices : goal.returns-then-place-eq3-clause-choices
returns-then-place-eq3-clause-choices c = ones_choices 18374966859414961920 c.args.place (returns-then-place-eq3-clause-bits c)

pub returns-then-place-eq4-clause-bits : goal.returns-then-place-eq4-clause-bits
returns-then-place-eq4-clause-bits c = ones_bits 18446462603027742720 4 c.args.place ones_4 c.if-place-eq4.true

pub returns-then-place-eq4-clause-choices : goal.returns-then-place-eq4-clause-choices
returns-then-place-eq4-clause-choices c = ones_choices 18446462603027742720 c.args.place (returns-then-place-eq4-clause-bits c)

pub returns-else-place-eq4-clause-bits : goal.returns-else-place-eq4-clause-bits
returns-else-place-eq4-clause-bits c =
    let last : c.args.place ≡ 5 = omega (arith, c.requires, c.if-place-eq0.false, c.if-place-eq1.false, c.if-place-eq2.false, c.if-place-eq3.false, c.if-place-eq4.false) in
    ones_bits 18446744069414584320 5 c.args.place ones_5 last

pub returns-else-place-eq4-clause-choices : goal.returns-else-place-eq4-clause-choices
returns-else-place-eq4-clause-choices c = ones_choices 18446744069414584320 c.args.place (returns-else-place-eq4-clause-bits c)
