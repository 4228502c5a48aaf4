use Rattle.std.proofs.Common.{◌-◌, length, arith}
use Rattle.ste_rules.proofs.Digits.{longer_above, longer_same}
use Rattle.ste_rules.proofs.numbers.is_below_longer.Goals as goal

pub returns-then-is_above_zero : goal.returns-then-is_above_zero
returns-then-is_above_zero c = longer_above c.args.one.now c.args.other.now c.split_at.result.0.now c.split_at.result.1.now (length c.args.other.now - length c.args.one.now) c.requires.one c.requires.other c.split_at.ensures.front c.split_at.ensures.back (omega (arith, c.split_at.ensures.back_len, c.requires.longer)) c.if-is_above_zero.ensures

pub returns : goal.returns
returns c = longer_same c.args.one.now c.args.other.now c.split_at.result.0.now c.split_at.result.1.now (length c.args.other.now - length c.args.one.now) c.comes_before.result c.split_at.ensures.front c.split_at.ensures.back c.if-is_above_zero.ensures c.comes_before.ensures
