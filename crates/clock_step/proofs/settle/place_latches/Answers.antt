use Rattle.std.proofs.Common.{◌∙◌, ◌<◌, get_or, length, false, arith}
use Rattle.std.proofs.lemmas.List.{get_or_default, length-set}
use Rattle.net_core.specs.declared.raw.Latch.{Latch}
use Rattle.net_core.specs.declared.raw.Init.TheVariants.{Zero}
use Rattle.clock_step.proofs.Settling.{latch_done}
use Rattle.clock_step.proofs.settle.place_latches.Goals as goal

pub loop-k-preserved : goal.loop-k-preserved
loop-k-preserved c =
    let d : Latch = record { input = record { 0 = 0 }; output = record { 0 = 0 }; init = Zero } in
    let net = c.args.net.now in
    let same = c.latches-latch-items.ensures in
    let within : c.loop-k.k < length net.raw.latches = rw (← same) c.loop-k-test.true in
    let latch = get_or net.raw.latches c.loop-k.k d in
    let b = get_or c.args.held.now c.loop-k.k false in
    let long = length-set c.loop-k.bits latch.output.0 b ∙ c.loop-k.invariant.long in
    record {
      long = rw same long;
      latched = λ bit held begin. rw same (latch_done net.raw bit c.args.held.now c.loop-k.bits c.loop-k.k latch b c.loop-k.invariant.long within
          (get_or_default net.raw.latches c.loop-k.k d latch within) (net.in_range.latch_outputs c.loop-k.k d within)
          (get_or_default c.args.held.now c.loop-k.k false b (omega (arith, c.requires.held, within))) held (c.loop-k.invariant.latched bit held begin));
    }
