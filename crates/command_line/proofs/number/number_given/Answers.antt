use Rattle.std.proofs.Common.{ap, ◌∙◌, sym}
use Rattle.command_line.specs.Command.{number_given}
use Rattle.command_line.proofs.Numerals.{none_given}
use Rattle.command_line.proofs.number.number_given.Goals as goal

pub returns-in-Err-clause-given : goal.returns-in-Err-clause-given
returns-in-Err-clause-given c =
    none_given c.args.greatest c.as_bytes-digits.result.now c.read_number.result c.in-Err.field-0 c.in-Err.is (sym c.is_number.ensures ∙ c.if-not-is_number.false) c.read_number.ensures.not_a_number c.read_number.ensures.too_large
    ∙ ap (number_given c.args.greatest) c.as_bytes-digits.ensures.value
