use Rattle.std.specs.Prelude.{option_copied}
use Rattle.instances.proofs.OwnNames.{one_added}
use Rattle.instances.proofs.own_names.add_own.Goals as goal

pub loop-place-preserved : goal.loop-place-preserved
loop-place-preserved c = one_added c.args.path.now c.args.signals.now.keys c.args.bounds.now c.loop-place.place _ c.args.names.now c.loop-place.names c.add_free.new.names (option_copied c.get_index.result) c.requires c.loop-place-test.true c.get_index.ensures.key c.in_ok-add_free.ensures c.loop-place.invariant
