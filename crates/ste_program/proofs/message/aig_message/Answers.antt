use Rattle.ste_program.proofs.message.aig_message.Goals as goal

pub returns-in-LeftOut : goal.returns-in-LeftOut
returns-in-LeftOut c = rw c.in-LeftOut.is (rw c.bytes.ensures at c.on_word.ensures)
