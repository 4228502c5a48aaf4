use Rattle.std.proofs.Common.{arith}
use Rattle.net_core.specs.Run.{IsUndriven}
use Rattle.ste_model.specs.declared.task.Bind.{Bind}
use Rattle.ste_model.proofs.Bindings.{more_all, not_all, says_no, says_none, says_other, says_yes}
use Rattle.ste_model.proofs.binding.are_binds_free.Goals as goal

pub returns-then-not-is_free : goal.returns-then-not-is_free
returns-then-not-is_free c =
    says_no (not_all (λ (bind : Bind). IsUndriven c.args.net.now.raw bind.node.0) c.args.binds.now c.loop-bind.bind-index c.bind-item.result c.bind-item.is c.loop-bind-test.true
    (says_none c.is_free.result c.if-not-is_free.true c.is_free.ensures))

pub loop-bind-preserved : goal.loop-bind-preserved
loop-bind-preserved c =
    more_all (λ (bind : Bind). IsUndriven c.args.net.now.raw bind.node.0) c.args.binds.now c.loop-bind.bind-index c.bind-item.result c.bind-item.is c.loop-bind-test.true c.loop-bind.invariant
    (says_other c.is_free.result c.if-not-is_free.false c.is_free.ensures)

pub returns : goal.returns
returns c = says_yes (λ k d l. c.loop-bind.invariant k d (omega arith))
