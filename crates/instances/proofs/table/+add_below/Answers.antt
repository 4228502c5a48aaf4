use Rattle.std.proofs.Common.{arith, rules, refl, ◌≡◌, ◌∙◌, ◌-◌, ◌∷◌, ◌++◌, [], ap, sym, length, get_or, ℕ, take}
use Rattle.std.specs.Prelude.{flat_map, slice_index_or, vec_len}
use Rattle.std.specs.List.{enumerate_from}
use Rattle.instances.specs.Table.{instances_on}
use Rattle.instances.proofs.Tabled.{pushed, inner_fits, next_paths, table_same, finished, get_of, no_more, more_left}
use Rattle.instances.proofs.table.+add_below.Goals as goal

pub loop-number-init : goal.loop-number-init
loop-number-init t c = λ paths path table fits. pushed c.args.graph.now c.args.rows.now.items c.push.new.self.items paths c.args.row path c.in_ok-push.ensures.items table fits

pub loop-number-preserved : goal.loop-number-preserved
loop-number-preserved t c = λ paths path table fits.
    let u : c.used_at-model-items.result.now ≡ slice_index_or c.args.graph.now c.args.row.model [] = c.used_at-model-items.ensures in
    let at = get_of c.used_at-model-items.result.now (slice_index_or c.args.graph.now c.args.row.model []) c.loop-number.number (get_or c.used_at-model-items.result.now c.loop-number.number 0) u c.loop-number-test.true refl in
    let before = c.loop-number.invariant paths path table fits in
    let rest = flat_map (λ (at : ℕ × ℕ). instances_on c.args.graph.now (c.args.depth - 1) (at.0 ∷ path) at.1) (enumerate_from 0 (take c.loop-number.number (slice_index_or c.args.graph.now c.args.row.model []))) in
    let here : c.len-here.result ≡ length paths = c.len-here.ensures ∙ (let v : vec_len c.args.rows.now ≡ length c.args.rows.now.items = search rules in v) ∙ table.long in
    let after = c.in_ok-add_below.ensures (paths ++ path ∷ rest) (c.loop-number.number ∷ path) before (inner_fits c.args.graph.now paths rest path c.args.row.model c.len-here.result c.loop-number.number (get_or c.used_at-model-items.result.now c.loop-number.number 0) fits.model here at) in
    table_same (next_paths c.args.graph.now (c.args.depth - 1) paths path (slice_index_or c.args.graph.now c.args.row.model []) c.loop-number.number (get_or c.used_at-model-items.result.now c.loop-number.number 0) (more_left c.used_at-model-items.result.now (slice_index_or c.args.graph.now c.args.row.model []) c.loop-number.number u c.loop-number-test.true) (ap (λ l. get_or l c.loop-number.number 0) (sym u))) after

pub returns : goal.returns
returns t c = λ paths path table fits.
    let u : c.used_at-model-items.result.now ≡ slice_index_or c.args.graph.now c.args.row.model [] = c.used_at-model-items.ensures in
    table_same (finished c.args.graph.now c.args.depth paths path c.args.row.model c.loop-number.number (omega arith) (no_more c.used_at-model-items.result.now (slice_index_or c.args.graph.now c.args.row.model []) c.loop-number.number u c.loop-number-test.false)) (c.loop-number.invariant paths path table fits)
