use Rattle.ste_program.proofs.Fetched.{first_fails, second_fails}
use Rattle.ste_program.proofs.Handed.{handed_on}
use Rattle.ste_program.proofs.texts.texts_of.Goals as goal

pub returns-in_err-net : goal.returns-in_err-net
returns-in_err-net g c =
    handed_on _ _ _ c.from_residual.ensures.1 (first_fails c.args.command.now _ _ c.in_err-net.field-0.0 (rw c.file_of.ensures at c.in_err-net.ensures))

pub returns-in_err-second : goal.returns-in_err-second
returns-in_err-second g c =
    handed_on _ _ _ c.from_residual-in_err-second.ensures.1
    (second_fails c.args.command.now _ _ _ c.in_ok-net.net.items c.in_err-second.field-0.0
    (rw c.file_of.ensures at c.in_ok-net.ensures) (rw c.file_of-2.ensures at c.in_err-second.ensures))
