use Rattle.ste_program.proofs.message.netlist_message.Goals as goal

pub returns-in-LeftOut : goal.returns-in-LeftOut
returns-in-LeftOut c = rw c.in-LeftOut.is (rw c.bytes-in-LeftOut.ensures at c.on_word-in-LeftOut.ensures)
