use Rattle.std.proofs.Common.{w64}
use Rattle.std.proofs.lemmas.Nat.Bits.{bit_at_clear_other}
use Rattle.sym_step.proofs.marks.without_bit.Goals as goal

pub returns : goal.returns
returns c = λ k lt ne. bit_at_clear_other w64 c.args.word c.args.bit c.requires k lt ne
