use Rattle.std.proofs.Common.{sym, ap, arith, ◌∙◌, ◌≡◌, ◌+◌, ◌++◌, ◌∷◌, [], map, length}
use Rattle.std.specs.Prelude.{count_by, is_none}
use Rattle.instances.specs.Numbers.{numbers_from}
use Rattle.instances.proofs.Rows.{are_linked, row_low, turn_fits, turn_long, turn_names, turn_numbers, turn_next}
use Rattle.instances.proofs.numbers.instance_numbers.Goals as goal

pub row_bounds-requires : goal.row_bounds-requires
row_bounds-requires c = row_low (λ set. set.keys) c.args.models.now c.args.rows.now c.args.names.now c.loop-place.place _ c.requires.rows c.requires.names c.loop-place-test.true

pub add_own_names-requires-clause-linked : goal.add_own_names-requires-clause-linked
add_own_names-requires-clause-linked c = are_linked c.args.models.now c.args.rows.now c.requires.rows

pub add_own_names-requires-clause-model : goal.add_own_names-requires-clause-model
add_own_names-requires-clause-model c = row_low (λ set. set.keys) c.args.models.now c.args.rows.now c.args.names.now c.loop-place.place _ c.requires.rows c.requires.names c.loop-place-test.true

pub add_own_names-requires-clause-long : goal.add_own_names-requires-clause-long
add_own_names-requires-clause-long c = ap (λ l. length l) c.as_slice-in-loop-place-2.ensures.value
    ∙ turn_long c.args.models.now c.as_slice.result.now (map (λ set. set.keys) c.args.names.now) c.args.rows.now c.as_slice-in-loop-place.result.now c.loop-place.next c.loop-place.place _
    c.requires.rows (c.as_slice.ensures.value ∙ c.in_ok-uses.ensures) c.requires.names (c.as_slice-in-loop-place.ensures.value ∙ c.loop-place.invariant.numbers) c.loop-place.invariant.next c.loop-place-test.true c.in_ok-bounds.bounds.items c.in_ok-bounds.ensures

pub numbers_of-requires : goal.numbers_of-requires
numbers_of-requires c =
    let fits = turn_fits c.args.models.now c.as_slice.result.now (map (λ set. set.keys) c.args.names.now) c.args.rows.now c.as_slice-in-loop-place.result.now c.loop-place.next c.loop-place.place _
    c.requires.rows (c.as_slice.ensures.value ∙ c.in_ok-uses.ensures) c.requires.names (c.as_slice-in-loop-place.ensures.value ∙ c.loop-place.invariant.numbers) c.loop-place.invariant.next c.loop-place-test.true
    c.in_ok-bounds.bounds.items c.in_ok-bounds.ensures in
    let few = c.requires.few in
    let same : count_by is_none c.as_slice-in-loop-place-3.result.now ≡ count_by is_none c.in_ok-bounds.bounds.items = ap (λ l. count_by is_none l) c.as_slice-in-loop-place-3.ensures.value in
    omega (arith, fits, few, same)

pub loop-place-preserved : goal.loop-place-preserved
loop-place-preserved c =
    let args = c.as_slice.ensures.value ∙ c.in_ok-uses.ensures in
    record {
      numbers = c.in_ok-push.ensures.items
          ∙ ap (λ x. c.loop-place.numbers.items ++ x ∷ []) (c.in_ok-numbers_of.ensures.value ∙ ap (λ l. numbers_from c.loop-place.next l) c.as_slice-in-loop-place-3.ensures.value)
          ∙ ap (λ l. l ++ numbers_from c.loop-place.next c.in_ok-bounds.bounds.items ∷ []) (sym c.as_slice-in-loop-place.ensures.value)
          ∙ turn_numbers c.args.models.now c.as_slice.result.now (map (λ set. set.keys) c.args.names.now) c.args.rows.now c.as_slice-in-loop-place.result.now c.loop-place.next c.loop-place.place _
          c.requires.rows args c.requires.names (c.as_slice-in-loop-place.ensures.value ∙ c.loop-place.invariant.numbers) c.loop-place.invariant.next c.loop-place-test.true c.in_ok-bounds.bounds.items c.in_ok-bounds.ensures;
      names = turn_names c.args.models.now c.as_slice.result.now (map (λ set. set.keys) c.args.names.now) c.args.rows.now c.as_slice-in-loop-place.result.now c.loop-place.next c.loop-place.place _
          c.requires.rows (c.as_slice.ensures.value ∙ c.in_ok-uses.ensures) c.requires.names (c.as_slice-in-loop-place.ensures.value ∙ c.loop-place.invariant.numbers) c.loop-place.invariant.next c.loop-place-test.true c.in_ok-bounds.bounds.items c.in_ok-bounds.ensures
          c.loop-place.own c.add_own_names.new.names c.as_slice-in-loop-place-2.result.now c.loop-place.invariant.names c.as_slice-in-loop-place-2.ensures.value c.in_ok-add_own_names.ensures;
      next = c.in_ok-numbers_of.ensures.next ∙ ap (λ l. c.loop-place.next + count_by is_none l) c.as_slice-in-loop-place-3.ensures.value
          ∙ turn_next c.args.models.now c.as_slice.result.now (map (λ set. set.keys) c.args.names.now) c.args.rows.now c.as_slice-in-loop-place.result.now c.loop-place.next c.loop-place.place _
          c.requires.rows args c.requires.names (c.as_slice-in-loop-place.ensures.value ∙ c.loop-place.invariant.numbers) c.loop-place.invariant.next c.loop-place-test.true c.in_ok-bounds.bounds.items c.in_ok-bounds.ensures;
    }
