use Rattle.ste_program.proofs.message.tasks_message.Goals as goal

pub returns-in-DoubleName : goal.returns-in-DoubleName
returns-in-DoubleName c = rw c.in-DoubleName.is (rw c.bytes.ensures at c.on_word.ensures)

pub returns-in-UnknownVar : goal.returns-in-UnknownVar
returns-in-UnknownVar c = rw c.in-UnknownVar.is (rw c.bytes-in-UnknownVar.ensures at c.on_word-in-UnknownVar.ensures)
