use Rattle.std.proofs.Common.{arith, length-append, ◌∙◌, ap, length, refl}
use Rattle.sym_step.proofs.Asleep.{first_cleared}
use Rattle.sym_step.proofs.marks.clear_first.Goals as goal

pub returns-clause-cleared : goal.returns-clause-cleared
returns-clause-cleared c =
    let p = c.split_at_mut-first.ensures in
    let q = c.fill.ensures in
    let same = q.len ∙ p.front_len ∙ c.min.ensures in
    let long = length-append c.fill.new.self c.split_at_mut-first.result.1.now in
    let whole = ap length p.value ∙ length-append c.split_at_mut-first.result.0.now c.split_at_mut-first.result.1.now in
    first_cleared c.fill.new.self c.split_at_mut-first.result.1.now (length c.args.flags.now) c.args.count same (omega (arith, long, whole, q.len)) (λ k d lt. q.clones k d (omega (arith, lt, q.len)) refl)
