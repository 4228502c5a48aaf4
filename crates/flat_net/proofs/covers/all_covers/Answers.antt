use Rattle.flat_net.proofs.Covered.{more_firsts, room, still_few, still_narrow}
use Rattle.flat_net.proofs.covers.all_covers.Goals as goal

pub first_cover-requires-clause-few : goal.first_cover-requires-clause-few
first_cover-requires-clause-few c = room c.args.models.now c.args.rows.now c.loop-row.row-index _ c.loop-row-test.true c.loop-row.covers c.loop-row.invariant.few c.requires.few

pub loop-row-preserved : goal.loop-row-preserved
loop-row-preserved c = record {
  long = c.in_ok-first_cover.ensures.long;
  seen = c.in_ok-first_cover.ensures.known;
  firsts = more_firsts c.args.models.now c.args.rows.now c.loop-row.row-index _ c.loop-row-test.true c.loop-row.covers c.loop-row.invariant.few c.loop-row.firsts.items c.push.new.self.items c.first_cover.new.covers c.first_cover.new.seen.items c.in_ok-first_cover.field-0 c.in_ok-first_cover.ensures c.in_ok-push.ensures.items c.loop-row.invariant.firsts;
  narrow = still_narrow c.args.models.now c.args.rows.now c.loop-row.row-index _ c.loop-row-test.true c.requires.narrow c.loop-row.covers c.first_cover.new.covers c.first_cover.new.seen.items c.in_ok-first_cover.field-0 c.in_ok-first_cover.ensures c.loop-row.invariant.narrow;
  few = still_few c.args.models.now c.args.rows.now c.loop-row.row-index _ c.loop-row-test.true c.loop-row.covers c.loop-row.invariant.few c.first_cover.new.covers c.first_cover.new.seen.items c.in_ok-first_cover.field-0 c.in_ok-first_cover.ensures;
}
