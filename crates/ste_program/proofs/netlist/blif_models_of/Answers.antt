use Rattle.std.proofs.Common.{◌∙◌, ap, arith}
use Rattle.blif_lines.specs.Lines.{lines_of}
use Rattle.blif_syntax.proofs.Fit.{words_fit}
use Rattle.ste_program.proofs.Handed.{handed_on}
use Rattle.ste_program.proofs.NetlistText.{models_read}
use Rattle.ste_program.proofs.Told.{no_models}
use Rattle.ste_program.proofs.netlist.blif_models_of.Goals as goal

pub read_models-requires : goal.read_models-requires
read_models-requires c =
    let small = c.requires in
    record { words = words_fit c.args.text.items c.as_slice.result.now (c.as_slice.ensures ∙ (c.in_ok-lines.ensures ∙ ap lines_of c.deref.ensures.value)) (omega (arith, small)) }

pub returns-in_err-read_models : goal.returns-in_err-read_models
returns-in_err-read_models c =
    handed_on _ _ _ c.from_residual-in_err-read_models.ensures.1
    (no_models c.args.text.items c.as_slice.result.now c.in_err-read_models.field-0.0 (c.as_slice.ensures ∙ (c.in_ok-lines.ensures ∙ ap lines_of c.deref.ensures.value)) c.in_err-read_models.ensures)

pub returns : goal.returns
returns c =
    let read = c.in_ok-read_models in
    models_read c.args.text.items c.as_slice.result.now read.field-0 (c.as_slice.ensures ∙ (c.in_ok-lines.ensures ∙ ap lines_of c.deref.ensures.value)) read.ensures read.field-0.some
