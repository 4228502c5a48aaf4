use Rattle.std.proofs.Common.{◌∙◌, refl}
use Rattle.ste_program.proofs.Handed.{handed_on}
use Rattle.ste_program.proofs.Simulations.{inputs_fail, is_simulated}
use Rattle.ste_program.proofs.simulated.outputs_of.Goals as goal

pub returns-in_err-inputs : goal.returns-in_err-inputs
returns-in_err-inputs c = λ net_text models netlist n.
    handed_on _ _ _ c.from_residual.ensures.1
    (inputs_fail net_text c.args.input_text.items models c.args.flat.now.net.raw c.args.flat.now.names c.in_err-inputs.field-0.0 netlist n c.in_err-inputs.ensures)

pub returns : goal.returns
returns c = λ net_text models netlist n.
    let text = c.in_ok-bytes.ensures in
    (refl, is_simulated net_text c.args.input_text.items models c.args.flat.now.net.raw c.args.flat.now.names c.in_ok-inputs.inputs text.0 _ netlist n c.in_ok-inputs.ensures.answer text.1 (c.into.ensures ∙ text.2))
