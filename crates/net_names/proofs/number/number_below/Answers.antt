use Rattle.std.proofs.Common.{arith, Err, ap}
use Rattle.net_names.proofs.Numbers.{found, padded_none, too_large}
use Rattle.net_names.proofs.number.number_below.Goals as goal

pub returns-then-is_padded : goal.returns-then-is_padded
returns-then-is_padded c = padded_none c.args.count c.args.text.now c.ranges.count.fits (c.is_padded.ensures.0 c.if-is_padded.true)

pub returns-then-number-count : goal.returns-then-number-count
returns-then-number-count c = found c.args.count c.args.text.now c.in-Ok.number c.ranges.count.fits (λ padded. absurd (cc (c.if-is_padded.false, c.is_padded.ensures.1 padded))) c.in-Ok.ensures.ok c.if-number-count.true

pub returns-else-number-count : goal.returns-else-number-count
returns-else-number-count c = too_large c.args.count c.args.text.now c.ranges.count.fits (λ number. let h = c.in-Ok.ensures.ok in let low = c.if-number-count.false in omega (arith, h.0, low))

pub returns-in-Err-NotANumber : goal.returns-in-Err-NotANumber
returns-in-Err-NotANumber c = too_large c.args.count c.args.text.now c.ranges.count.fits (λ number. absurd (c.in-Err-NotANumber.ensures.not_a_number.0 (ap Err c.in-Err-NotANumber.field-0-is) number))

pub returns-in-Err-TooLarge : goal.returns-in-Err-TooLarge
returns-in-Err-TooLarge c = too_large c.args.count c.args.text.now c.ranges.count.fits (λ number. let h = c.in-Err-TooLarge.ensures.too_large.0 (ap Err c.in-Err-TooLarge.field-0-is) in let small = c.ranges.count.fits in omega (arith, h.1, small))
