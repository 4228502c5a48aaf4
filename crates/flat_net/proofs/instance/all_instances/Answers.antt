use Rattle.std.proofs.Common.{◌∙◌}
use Rattle.instances.proofs.Rows.{row_low, row_of}
use Rattle.flat_net.proofs.Placed.{next_instance}
use Rattle.flat_net.proofs.instance.all_instances.Goals as goal

pub instance_of-requires-clause-models : goal.instance_of-requires-clause-models
instance_of-requires-clause-models c = let r = row_of c.args.models.now c.args.rows.now c.loop-place.place _ c.requires.rows c.loop-place-test.true in r.low

pub instance_of-requires-clause-names : goal.instance_of-requires-clause-names
instance_of-requires-clause-names c = row_low (λ set. set.keys) c.args.models.now c.args.rows.now c.args.names.now c.loop-place.place _ c.requires.rows c.requires.names c.loop-place-test.true

pub loop-place-preserved : goal.loop-place-preserved
loop-place-preserved c = λ covers zip.
    next_instance (λ set. set.keys) c.args.models.now c.args.names.now c.args.rows.now c.args.numbers.now c.args.firsts.now c.loop-place.place _
    c.requires.names c.requires.rows c.requires.numbers c.requires.firsts c.loop-place-test.true c.instance_of.result c.instance_of.ensures.model c.instance_of.ensures.names
    c.index-numbers-place.result (c.instance_of.ensures.numbers ∙ c.as_slice.ensures ∙ c.index-numbers-place.is) _ c.instance_of.ensures.cover
    covers c.loop-place.all.items c.push.new.self.items zip c.in_ok-push.ensures.items (c.loop-place.invariant covers zip)
