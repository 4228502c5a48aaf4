use Rattle.std.proofs.Common.{◌-◌, length, arith}
use Rattle.ste_rules.proofs.Digits.{shorter_above, shorter_same}
use Rattle.ste_rules.proofs.numbers.is_below_shorter.Goals as goal

pub returns-then-is_above_zero : goal.returns-then-is_above_zero
returns-then-is_above_zero c = shorter_above c.args.one.now c.args.other.now c.split_at.result.0.now c.split_at.result.1.now (length c.args.one.now - length c.args.other.now) c.requires.one c.requires.other c.split_at.ensures.front c.split_at.ensures.back (omega (arith, c.split_at.ensures.back_len, c.requires.shorter)) c.if-is_above_zero.ensures

pub returns : goal.returns
returns c = shorter_same c.args.one.now c.args.other.now c.split_at.result.0.now c.split_at.result.1.now (length c.args.one.now - length c.args.other.now) c.comes_before.result c.split_at.ensures.front c.split_at.ensures.back c.if-is_above_zero.ensures c.comes_before.ensures
