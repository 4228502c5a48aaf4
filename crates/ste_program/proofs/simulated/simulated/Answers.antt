use Rattle.ste_program.proofs.Handed.{handed_on}
use Rattle.ste_program.proofs.TextStages.{sim_fails}
use Rattle.ste_program.proofs.simulated.simulated.Goals as goal

pub returns-in_err-flat : goal.returns-in_err-flat
returns-in_err-flat c = handed_on _ _ _ c.from_residual.ensures.1 (sim_fails c.args.net_text.items c.args.input_text.items c.in_err-flat.field-0.0 c.in_err-flat.ensures)

pub returns : goal.returns
returns c = let n = c.in_ok-flat.ensures in c.outputs_of.ensures c.args.net_text.items n.0 n.1 n.2
