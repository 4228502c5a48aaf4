use Rattle.ste_program.proofs.message.binding_message.Goals as goal

pub returns-in-UnknownNode : goal.returns-in-UnknownNode
returns-in-UnknownNode c = rw c.in-UnknownNode.is (rw c.bytes.ensures at c.on_word.ensures)
