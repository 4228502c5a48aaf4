use Rattle.std.proofs.Common.{length}
use Rattle.work_pool.proofs.Portions.{AreDone-whole, AreJobs-part}
use Rattle.work_pool.proofs.pool.work_all.Goals as goal

pub for_each_chunk_mut-requires-clause-accepts : goal.for_each_chunk_mut-requires-clause-accepts
for_each_chunk_mut-requires-clause-accepts g c κs known = λ start p is. (
  c.requires.numbers,
  AreJobs-part (λ j. g.N.Nodes.store j.nodes) (λ j. j.place) (length c.args.numbers.now) c.args.batch.now.width c.args.jobs.now p.now start is.in_bounds is.elements c.requires.jobs,
)

pub returns : goal.returns
returns g c = AreDone-whole (λ j. g.N.Nodes.store j.nodes) (λ j. j.place) (λ j. j.outcome) c.args.batch.now.mode c.args.batch.now.net.now.raw c.args.batch.now.vars c.args.batch.now.cubes c.args.batch.now.tasks.now c.args.numbers.now c.args.jobs.now c.for_each_chunk_mut.new.s c.for_each_chunk_mut.auto.s (λ i d lt.
    let at = (c.for_each_chunk_mut.ensures.by_index i d lt).1 in
    record { part = at.argument.now; after = at.after_call.now; offset = at.offset; inside = at.offset_in_chunk; was = at.old_element; done = at.call; is = at.new_element })
