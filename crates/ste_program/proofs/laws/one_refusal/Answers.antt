use Rattle.ste_program.proofs.Refusals.{one_refusal}
use Rattle.ste_program.proofs.laws.one_refusal.Goals as goal

pub returns : goal.returns
returns c = one_refusal
