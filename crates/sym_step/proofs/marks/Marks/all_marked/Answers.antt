use Rattle.std.proofs.Common.{arith, length}
use Rattle.sym_step.proofs.Asleep.{all_awake, all_resting}
use Rattle.sym_step.proofs.marks.Marks.all_marked.Goals as goal

pub invariant_of-marks-clause-asleep : goal.invariant_of-marks-clause-asleep
invariant_of-marks-clause-asleep c =
    let long = c.args.self.words.ok.0 in
    let wide = c.args.self.wide in
    all_awake c.fill-3.new.self.items c.args.self.order.items c.fill.new.self.items c.args.self.words.len (c.fill.ensures.items (λ y e. e)) (omega (arith, long, wide))

pub invariant_of-marks-clause-resting : goal.invariant_of-marks-clause-resting
invariant_of-marks-clause-resting c =
    let long = c.args.self.latches.ok.0 in
    let held = c.args.self.held in
    let same = c.fill-3.ensures.len in
    all_resting c.fill-3.new.self.items (length c.args.self.order.items) c.fill-2.new.self.items c.args.self.latches.len (c.fill-2.ensures.items (λ y e. e)) (omega (arith, long, held, same))
