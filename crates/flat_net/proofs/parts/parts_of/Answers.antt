use Rattle.std.proofs.Common.{arith, subst, sym}
use Rattle.std.specs.List.{AllZip}
use Rattle.instances.specs.Numbers.{AreRows}
use Rattle.flat_net.specs.private.Passes.{IsFirstCover}
use Rattle.flat_net.proofs.Narrow.{narrow_rows}
use Rattle.flat_net.proofs.Parting.{few_lines, few_nets, known, rows_low}
use Rattle.flat_net.proofs.parts.parts_of.Goals as goal

pub instance_rows-requires-clause-known : goal.instance_rows-requires-clause-known
instance_rows-requires-clause-known c = known c.args.models.now c.requires.free

pub instance_numbers-requires-clause-few : goal.instance_numbers-requires-clause-few
instance_numbers-requires-clause-few c = let f = few_nets c.args.models.now c.requires.free in omega (arith, f)

pub all_covers-requires-clause-rows : goal.all_covers-requires-clause-rows
all_covers-requires-clause-rows c = rows_low c.args.models.now c.as_slice-4.result.now (subst (λ l. AreRows c.args.models.now l) (sym c.as_slice-4.ensures.value) c.in_ok-rows.ensures)

pub all_covers-requires-clause-few : goal.all_covers-requires-clause-few
all_covers-requires-clause-few c = let f = few_lines c.args.models.now c.requires.free c.as_slice-4.result.now (subst (λ l. AreRows c.args.models.now l) (sym c.as_slice-4.ensures.value) c.in_ok-rows.ensures) in omega (arith, f)

pub all_covers-requires-clause-narrow : goal.all_covers-requires-clause-narrow
all_covers-requires-clause-narrow c = narrow_rows c.args.models.now c.requires.free c.requires.covered c.as_slice-4.result.now (subst (λ l. AreRows c.args.models.now l) (sym c.as_slice-4.ensures.value) c.in_ok-rows.ensures)

pub returns : goal.returns
returns c =
    let lines = few_lines c.args.models.now c.requires.free c.as_slice-4.result.now (subst (λ l. AreRows c.args.models.now l) (sym c.as_slice-4.ensures.value) c.in_ok-rows.ensures) in
    let covers = c.in_ok-covers.ensures.few in
    record {
      signals_known = c.in_ok-signals.ensures;
      rows_known = c.in_ok-rows.ensures;
      numbers_known = c.in_ok-numbered.ensures.numbers;
      own_known = c.in_ok-numbered.ensures.names;
      firsts_known = subst (λ l. AllZip (IsFirstCover c.args.models.now c.in_ok-covers.covers.covers) c.in_ok-covers.covers.firsts.items l) c.as_slice-4.ensures.value c.in_ok-covers.ensures.firsts;
      few_nets = few_nets c.args.models.now c.requires.free;
      few_covers = omega (arith, lines, covers);
      narrow = c.in_ok-covers.ensures.narrow;
    }
