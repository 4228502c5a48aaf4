use Rattle.std.proofs.Common.{◌≡◌, ◌<◌, ◌∙◌, [], get_or, length, set, arith, ap, subst, sym}
use Rattle.std.specs.Prelude.{Bool, List}
use Rattle.std.proofs.lemmas.List.{get_or_default}
use Rattle.net_core.specs.declared.raw.Latch.{Latch}
use Rattle.net_core.specs.declared.raw.Init.TheVariants.{Zero}
use Rattle.counter_run.proofs.Cells.{row_long, set_cell, starts_turn}
use Rattle.counter_run.proofs.asked.put_starts.Goals as goal

pub set-requires : goal.set-requires
set-requires c =
    let d : Latch = record { input = record { 0 = 0 }; output = record { 0 = 0 }; init = Zero } in
    let items = c.latches-latch-items.result.now in
    let same : items ≡ c.args.net.now.raw.latches = c.latches-latch-items.ensures in
    let tall = c.loop-latch.invariant.shape.tall in
    let n = c.loop-latch.latch-index in
    let within : n < length c.args.net.now.raw.latches = subst (λ (xs : List Latch). n < length xs) same c.loop-latch-test.true in
    let latch = get_or items n d in
    let is : get_or c.args.net.now.raw.latches n d ≡ latch = ap (λ (xs : List Latch). get_or xs n d) (sym same) in
    let inside : latch.output.0 < c.args.net.now.raw.nets = subst (λ (x : Latch). x.output.0 < c.args.net.now.raw.nets) is (c.args.net.now.in_range.latch_outputs n d within) in
    let wide : 0 < length (get_or c.args.rows.now latch.output.0 []) = subst (λ (x : Latch). 0 < length (get_or c.args.rows.now x.output.0 [])) is (c.requires.wide n d within) in
    row_long c.args.rows.now c.loop-latch.rows latch.output.0 0 c.index-rows-latch.result c.loop-latch.invariant.shape (omega arith) wide

pub loop-latch-preserved : goal.loop-latch-preserved
loop-latch-preserved c =
    let d : Latch = record { input = record { 0 = 0 }; output = record { 0 = 0 }; init = Zero } in
    let net = c.args.net.now in
    let items = c.latches-latch-items.result.now in
    let same : items ≡ net.raw.latches = c.latches-latch-items.ensures in
    let tall = c.loop-latch.invariant.shape.tall in
    let n = c.loop-latch.latch-index in
    let within : n < length net.raw.latches = subst (λ (xs : List Latch). n < length xs) same c.loop-latch-test.true in
    let latch = get_or items n d in
    let is : get_or net.raw.latches n d ≡ latch = ap (λ (xs : List Latch). get_or xs n d) (sym same) in
    let inside : latch.output.0 < net.raw.nets = subst (λ (x : Latch). x.output.0 < net.raw.nets) is (net.in_range.latch_outputs n d within) in
    let wide : 0 < length (get_or c.args.rows.now latch.output.0 []) = subst (λ (x : Latch). 0 < length (get_or c.args.rows.now x.output.0 [])) is (c.requires.wide n d within) in
    let long : 0 < length (get_or c.loop-latch.rows latch.output.0 c.index-rows-latch.result) =
    row_long c.args.rows.now c.loop-latch.rows latch.output.0 0 c.index-rows-latch.result c.loop-latch.invariant.shape (omega arith) wide in
    let cell_set = set_cell c.loop-latch.rows c.index-rows-latch.result c.set.new.self 0 latch.output.0 _ (omega arith) long
    (c.set.ensures ∙ ap (λ (b : Bool). set (get_or c.loop-latch.rows latch.output.0 c.index-rows-latch.result) 0 b) c.start_bit.ensures) in
    let turn = starts_turn c.args.reset net.raw.latches c.args.rows.now c.loop-latch.rows _ n latch net.one_driver.latches within (sym is ∙ get_or_default net.raw.latches n d latch within)
    cell_set c.loop-latch.invariant.shape c.loop-latch.invariant.latches c.loop-latch.invariant.others in
    record { shape = turn.0; latches = turn.1; others = turn.2 }
