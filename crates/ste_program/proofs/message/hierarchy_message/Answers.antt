use Rattle.ste_program.proofs.message.hierarchy_message.Goals as goal

pub returns-in-DoubleModel : goal.returns-in-DoubleModel
returns-in-DoubleModel c = rw c.in-DoubleModel.is (rw c.bytes.ensures at c.on_word.ensures)

pub returns-in-UnknownModel : goal.returns-in-UnknownModel
returns-in-UnknownModel c = rw c.in-UnknownModel.is (rw c.bytes-in-UnknownModel.ensures at c.on_word-in-UnknownModel.ensures)

pub returns-in-Recursive : goal.returns-in-Recursive
returns-in-Recursive c = rw c.in-Recursive.is (rw c.bytes-in-Recursive.ensures at c.on_word-in-Recursive.ensures)

pub returns-in-DrivenTwice : goal.returns-in-DrivenTwice
returns-in-DrivenTwice c = rw c.in-DrivenTwice.is (rw c.bytes-in-DrivenTwice.ensures at c.on_word-in-DrivenTwice.ensures)
