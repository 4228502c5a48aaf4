use Rattle.ste_program.proofs.Handed.{handed_on}
use Rattle.ste_program.proofs.Told.{aig_told}
use Rattle.ste_program.proofs.netlist.aig_models_of.Goals as goal

pub returns-in_err-read_aig : goal.returns-in_err-read_aig
returns-in_err-read_aig c =
    handed_on _ _ _ c.from_residual.ensures.1
    (aig_told c.args.text.now c.in_err-read_aig.field-0.0 c.in_err-read_aig.ensures.answer)

pub returns : goal.returns
returns c =
    let read = c.in_ok-read_aig.ensures in
    (record { sound = read.answer.0; spelled = read.answer.1 }, read.covered)
