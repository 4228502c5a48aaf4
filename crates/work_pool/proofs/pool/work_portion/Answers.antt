use Rattle.std.proofs.Common.{arith, subst, sym}
use Rattle.std.specs.Prelude.{IfSome}
use Rattle.std.proofs.lemmas.List.{get_or-set_same, length-set}
use Rattle.sym_step.specs.Frame.{IsFrame}
use Rattle.work_pool.proofs.Portions.{done_next, long_next, one_table, rest_next, same_next}
use Rattle.work_pool.proofs.pool.work_portion.Goals as goal

pub loop-i-preserved : goal.loop-i-preserved
loop-i-preserved g c =
    let was = c.loop-i.invariant in
    let one = c.work_at.ensures in
    let first = c.args.jobs.now in
    let jobs = c.loop-i.jobs in
    let next = c.carry_to_next.new.jobs in
    let i = c.loop-i.i in
    let r = c.index-jobs-i.result in
    let new = c.work_at.new.job in
    let lt = c.loop-i-test.true in
    let at = c.index-jobs-i.is in
    record {
      long = long_next (λ j. g.N.Nodes.store j.nodes) (λ j. j.place) (λ j. j.outcome) c.args.batch.now.mode c.args.batch.now.net.now.raw c.args.batch.now.vars c.args.batch.now.cubes c.args.batch.now.tasks.now c.args.numbers.now first jobs next i r new was.long lt at was.same was.done was.rest one.place one.done c.carry_to_next.ensures.hands;
      same = same_next (λ j. g.N.Nodes.store j.nodes) (λ j. j.place) (λ j. j.outcome) c.args.batch.now.mode c.args.batch.now.net.now.raw c.args.batch.now.vars c.args.batch.now.cubes c.args.batch.now.tasks.now c.args.numbers.now first jobs next i r new was.long lt at was.same was.done was.rest one.place one.done c.carry_to_next.ensures.hands;
      done = done_next (λ j. g.N.Nodes.store j.nodes) (λ j. j.place) (λ j. j.outcome) c.args.batch.now.mode c.args.batch.now.net.now.raw c.args.batch.now.vars c.args.batch.now.cubes c.args.batch.now.tasks.now c.args.numbers.now first jobs next i r new was.long lt at was.same was.done was.rest one.place one.done c.carry_to_next.ensures.hands;
      frame = λ j more.
          let long = was.long in
          let e = length-set jobs i new in
          c.carry_to_next.ensures.last c.args.batch.now.net.now.raw j c.args.batch.now.net.now.in_range (omega (arith, more, long, e))
          (subst (λ (job : _). IfSome c.work_at.new.last (IsFrame (g.N.Nodes.store job.nodes) c.args.batch.now.net.now.raw)) (sym (get_or-set_same jobs i new j (omega (arith, lt, long)))) one.last);
      rest = rest_next (λ j. g.N.Nodes.store j.nodes) (λ j. j.place) (λ j. j.outcome) c.args.batch.now.mode c.args.batch.now.net.now.raw c.args.batch.now.vars c.args.batch.now.cubes c.args.batch.now.tasks.now c.args.numbers.now first jobs next i r new was.long lt at was.same was.done was.rest one.place one.done c.carry_to_next.ensures.hands;
    }

pub carry_to_next-requires-clause-table : goal.carry_to_next-requires-clause-table
carry_to_next-requires-clause-table g c =
    one_table (λ j. g.N.Nodes.store j.nodes) (λ j. j.place) (λ j. j.outcome) c.args.jobs.now c.loop-i.jobs c.loop-i.i c.index-jobs-i.result c.work_at.new.job c.loop-i.invariant.long c.loop-i-test.true c.loop-i.invariant.rest c.requires.jobs.table c.work_at.ensures.table

pub returns : goal.returns
returns g c =
    let out = c.loop-i-test.false in
    let was = c.loop-i.invariant in
    let long = was.long in
    record { long = long; same = was.same; done = λ k task job lt. was.done k task job (omega (arith, out, long, lt)) lt }

pub work_at-requires-clause-last : goal.work_at-requires-clause-last
work_at-requires-clause-last g c = c.loop-i.invariant.frame c.index-jobs-i.result c.loop-i-test.true
