use Rattle.std.proofs.Common.{◌∙◌, ◌+◌, ℕ, arith, ap, inr, length, subst, sym, true}
use Rattle.std.proofs.lemmas.List.{length-replicate}
use Rattle.clock_step.proofs.Resettling.{all_due}
use Rattle.counter_run.specs.private.Block.{IsBlock, over_block}
use Rattle.counter_run.specs.private.Matrix.{cell}
use Rattle.counter_run.proofs.Blocks.{over_none, over_outside}
use Rattle.counter_run.proofs.Cells.{matrix_as}
use Rattle.counter_run.proofs.Given.{all_completed, none_completed, one_completed}
use Rattle.counter_run.proofs.completion.complete_many.Goals as goal

pub loop-time-init : goal.loop-time-init
loop-time-init c =
    let block = c.in_ok-block.block in
    let made = c.in_ok-block.ensures in
    record {
      matrix = c.requires.matrix;
      block = subst (λ (n : ℕ). IsBlock n block) c.nets.ensures made.block;
      behind = made.to;
      completed = none_completed c.args.net.now.raw c.args.times c.args.first.now _ (cell c.args.rows.now) (over_block (cell c.args.rows.now) block) c.in_ok-held.ensures c.requires.first (λ s id. over_none (cell c.args.rows.now) block s id (made.from ∙ sym made.to));
      size = c.requires.long;
      marks = ap length c.requires.due ∙ length-replicate (length c.args.net.now.settled) true;
      rest = all_due c.args.net.now.raw c.args.net.now.settled c.args.due.now c.args.bits.now c.requires.due;
    }

pub loop-time-preserved : goal.loop-time-preserved
loop-time-preserved c =
    let net = c.args.net.now in
    let before = c.loop-time.invariant in
    let pushed = c.in_ok-push.ensures in
    let tall = before.matrix.tall in
    let behind = before.behind in
    let block = c.loop-time.block in
    let seen = over_block (cell c.loop-time.rows) block in
    record {
      matrix = matrix_as net.raw.nets c.args.times c.loop-time.rows c.push.new.rows before.matrix pushed.shape;
      block = subst (λ (n : ℕ). IsBlock n c.push.new.self) tall pushed.block;
      behind = pushed.to ∙ ap (λ (t : ℕ). t + 1) behind;
      completed = one_completed net.raw c.args.nodes.now c.args.times c.loop-time.time c.args.first.now c.deref.result.now c.loop-time.held.items c.deref-in-loop-time.result.now c.resettle.new.bits c.hold_next.new.held.items (cell c.args.rows.now) seen (over_block (cell c.push.new.rows) c.push.new.self) (cell c.loop-time.rows c.loop-time.time) net.in_range c.requires.nodes
          c.loop-time-test.true (c.deref.ensures.value ∙ c.in_ok-gather.ensures) (λ id. sym (over_outside (cell c.loop-time.rows) block c.loop-time.time id (inr (omega (arith, behind))))) c.deref-in-loop-time.ensures.value c.resettle.ensures.bits
          (λ id l. ap (λ (t : ℕ). over_block (cell c.push.new.rows) c.push.new.self t id) (sym behind) ∙ pushed.placed id (omega (arith, tall, l))) (λ s id l other. pushed.others s id (omega (arith, tall, l)) (λ e. other (e ∙ behind))) c.in_ok-hold_next.ensures before.completed;
      size = c.resettle.ensures.long;
      marks = c.resettle.ensures.due;
      rest = c.resettle.ensures.rest;
    }

pub returns-clause-run : goal.returns-clause-run
returns-clause-run c =
    let net = c.args.net.now in
    let rows = c.loop-time.rows in
    let tall = c.loop-time.invariant.matrix.tall in
    all_completed net.raw net.settled c.args.times c.loop-time.time c.args.first.now c.loop-time.held.items (cell c.args.rows.now) (over_block (cell rows) c.loop-time.block) (cell c.write_out.new.rows) net.in_range net.one_driver net.in_order c.requires.first (omega (arith, c.loop-time-test.false)) (λ s id l. c.write_out.ensures.placed s id (omega (arith, tall, l))) c.loop-time.invariant.completed

pub returns-clause-matrix : goal.returns-clause-matrix
returns-clause-matrix c = matrix_as c.args.net.now.raw.nets c.args.times c.loop-time.rows c.write_out.new.rows c.loop-time.invariant.matrix c.write_out.ensures.shape
