use Rattle.clock_step.proofs.OneAnswer.{one_answer}
use Rattle.clock_step.proofs.laws.one_answer.Goals as goal

pub returns : goal.returns
returns c = one_answer
