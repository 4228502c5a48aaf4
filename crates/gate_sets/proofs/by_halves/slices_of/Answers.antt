use Rattle.std.proofs.Common.{arith, ap, ◌∙◌}
use Rattle.gate_sets.proofs.Stacked.{all_cut, more_cut, rows_of, map_append}
use Rattle.gate_sets.proofs.by_halves.slices_of.Goals as goal

pub loop-rest-preserved : goal.loop-rest-preserved
loop-rest-preserved c = λ rows wide is.
    let le = c.loop-rest-test.true in
    more_cut c.args.width rows (rows_of c.loop-rest.slices.items) (rows_of c.push.new.self.items) c.loop-rest.rest.now c.split_at.result.0.now c.split_at.result.1.now c.requires (omega (arith, le))
    c.split_at.ensures.front c.split_at.ensures.back (ap rows_of c.in_ok-push.ensures.items ∙ map_append c.loop-rest.slices.items _) (c.loop-rest.invariant rows wide is)

pub returns : goal.returns
returns c = λ rows wide is.
    let lt = c.loop-rest-test.false in
    all_cut c.args.width rows (rows_of c.loop-rest.slices.items) c.loop-rest.rest.now (omega (arith, lt)) (c.loop-rest.invariant rows wide is)
