use Rattle.ste_program.proofs.message.inputs_message.Goals as goal

pub returns-in-DoubleName : goal.returns-in-DoubleName
returns-in-DoubleName c = rw c.in-DoubleName.is (rw c.bytes.ensures at c.on_word.ensures)

pub returns-in-UnknownNode : goal.returns-in-UnknownNode
returns-in-UnknownNode c = rw c.in-UnknownNode.is (rw c.bytes-in-UnknownNode.ensures at c.on_word-in-UnknownNode.ensures)

pub returns-in-NotAnInput : goal.returns-in-NotAnInput
returns-in-NotAnInput c = rw c.in-NotAnInput.is (rw c.bytes-in-NotAnInput.ensures at c.on_word-in-NotAnInput.ensures)
