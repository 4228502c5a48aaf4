use Rattle.std.proofs.Common.{◌≡◌, ◌∙◌, ◌<◌, ◌+◌, ◌++◌, ◌∷◌, [], ℕ, suc, Bool, List, map, length, length-append, arith, ap, sym, subst}
use Rattle.std.specs.Prelude.{slice_get, Some}
use Rattle.std.proofs.lemmas.List.{length-map}
use Rattle.net_core.specs.declared.raw.Latch.{Latch}
use Rattle.clock_step.specs.Simulation.{IsSimulation, first_bit, outputs_at}
use Rattle.clock_step.specs.Determined.{AreBits, bit_at}
use Rattle.clock_step.proofs.Simulated.{are_outputs, determined, held_first, held_next, more_outputs}
use Rattle.clock_step.proofs.simulation.outputs_of.Goals as goal

pub loop-row-init : goal.loop-row-init
loop-row-init c =
    let net = c.args.net.now.raw in
    record {
      wide = c.requires.long;
      count = ap length c.in_ok-held.ensures ∙ length-map net.latches (λ (latch : Latch). first_bit latch.init);
      long = ap length c.new-outputs.ensures;
      held = λ run simulates l. held_first net c.args.inputs.now c.in_ok-held.held.items c.in_ok-held.ensures run simulates l;
      each = λ run simulates t l. absurd (omega arith);
    }

pub loop-row-preserved : goal.loop-row-preserved
loop-row-preserved c =
    let net = c.args.net.now.raw in
    let inputs = c.args.inputs.now in
    let t = c.loop-row.row-index in
    let bits = c.settle.new.bits in
    let pushed : c.push.new.self ≡ c.loop-row.outputs ++ c.into.result ∷ [] = c.in_ok-push.ensures.ok in
    let known : (run : ℕ → ℕ → Bool) → IsSimulation net inputs run → AreBits net (run t) bits = λ run simulates.
    c.settle.ensures (run t)
    (determined net inputs c.as_slice-nodes.result.now c.as_slice-row-items.result.now c.row-item.result c.as_slice.result.now c.deref.result.now c.loop-row.held.items t
    c.as_slice-nodes.ensures c.as_slice-row-items.ensures c.as_slice.ensures c.deref.ensures.value c.loop-row-test.true c.row-item.is run simulates (c.loop-row.invariant.held run simulates)) in
    record {
      wide = omega arith;
      count = ap length c.in_ok-held-2.ensures ∙ length-map net.latches (λ (latch : Latch). bit_at bits latch.input.0);
      long = ap length pushed ∙ (let more = length-append c.loop-row.outputs (c.into.result ∷ []) in omega (arith, more, c.loop-row.invariant.long));
      held = λ run simulates l.
          let e : suc t ≡ t + 1 = omega arith in
          subst (λ (k : ℕ). c.in_ok-held-2.held.items ≡ map (λ latch. run k latch.output.0) net.latches) e
          (held_next net inputs bits c.in_ok-held-2.held.items t c.args.net.now.in_range c.in_ok-held-2.ensures run simulates (known run simulates) (omega (arith, l)));
      each = λ run simulates. subst (λ (rows : List (List Bool)). (s : ℕ) → s < t + 1 → slice_get rows s ≡ Some (outputs_at net (run s))) (sym pushed)
          (more_outputs net run c.loop-row.outputs c.into.result bits t c.args.net.now.in_range c.loop-row.invariant.long (c.into.ensures ∙ c.in_ok-outputs_at.ensures)
          (known run simulates) (c.loop-row.invariant.each run simulates));
    }

pub returns : goal.returns
returns c =
    let net = c.args.net.now in
    let all = ap length c.as_slice-row-items.ensures in
    are_outputs net.raw net.settled c.args.inputs.now c.loop-row.outputs c.loop-row.row-index net.one_driver net.in_order c.loop-row.invariant.long
    (omega arith) c.loop-row.invariant.each
