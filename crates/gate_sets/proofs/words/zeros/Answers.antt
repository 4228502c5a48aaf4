use Rattle.std.proofs.Common.{◌≡◌, arith}
use Rattle.gate_sets.proofs.TruthTables.{zeros_0, zeros_1, zeros_2, zeros_3, zeros_4, zeros_5, zeros_bits, zeros_choices}
use Rattle.gate_sets.proofs.words.zeros.Goals as goal

pub returns-then-place-eq0-clause-bits : goal.returns-then-place-eq0-clause-bits
returns-then-place-eq0-clause-bits c = zeros_bits 6148914691236517205 0 c.args.place zeros_0 c.if-place-eq0.true

pub returns-then-place-eq0-clause-choices : goal.returns-then-place-eq0-clause-choices
returns-then-place-eq0-clause-choices c = zeros_choices 6148914691236517205 c.args.place (returns-then-place-eq0-clause-bits c)

pub returns-then-place-eq1-clause-bits : goal.returns-then-place-eq1-clause-bits
returns-then-place-eq1-clause-bits c = zeros_bits 3689348814741910323 1 c.args.place zeros_1 c.if-place-eq1.true

pub returns-then-place-eq1-clause-choices : goal.returns-then-place-eq1-clause-choices
returns-then-place-eq1-clause-choices c = zeros_choices 3689348814741910323 c.args.place (returns-then-place-eq1-clause-bits c)

pub returns-then-place-eq2-clause-bits : goal.returns-then-place-eq2-clause-bits
returns-then-place-eq2-clause-bits c = zeros_bits 1085102592571150095 2 c.args.place zeros_2 c.if-place-eq2.true

pub returns-then-place-eq2-clause-choices : goal.returns-then-place-eq2-clause-choices
returns-then-place-eq2-clause-choices c = zeros_choices 1085102592571150095 c.args.place (returns-then-place-eq2-clause-bits c)

pub returns-then-place-eq3-clause-bits : goal.returns-then-place-eq3-clause-bits
returns-then-place-eq3-clause-bits c = zeros_bits 71777214294589695 3 c.args.place zeros_3 c.if-place-eq3.true

pub returns-then-place-eq3-clause-choices : goal.returns-then-place-eq3-clause-choices
returns-then-place-eq3-clause-choices c = zeros_choices 71777214294589695 c.args.place (returns-then-place-eq3-clause-bits c)

pub returns-then-place-eq4-clause-bits : goal.returns-then-place-eq4-clause-bits
returns-then-place-eq4-clause-bits c = zeros_bits 281470681808895 4 c.args.place zeros_4 c.if-place-eq4.true

pub returns-then-place-eq4-clause-choices : goal.returns-then-place-eq4-clause-choices
returns-then-place-eq4-clause-choices c = zeros_choices 281470681808895 c.args.place (returns-then-place-eq4-clause-bits c)

pub returns-else-place-eq4-clause-bits : goal.returns-else-place-eq4-clause-bits
returns-else-place-eq4-clause-bits c =
    let last : c.args.place ≡ 5 = omega (arith, c.requires, c.if-place-eq0.false, c.if-place-eq1.false, c.if-place-eq2.false, c.if-place-eq3.false, c.if-place-eq4.false) in
    zeros_bits 4294967295 5 c.args.place zeros_5 last

pub returns-else-place-eq4-clause-choices : goal.returns-else-place-eq4-clause-choices
returns-else-place-eq4-clause-choices c = zeros_choices 4294967295 c.args.place (returns-else-place-eq4-clause-bits c)
