use Rattle.std.proofs.Common.{ap}
use Rattle.dd_nodes.specs.Stores.{Store}
use Rattle.dd_ops.specs.declared.ops.Op.{Op}
use Rattle.dd_ops.specs.Answer.{op_bit}
use Rattle.dd_ops.specs.private.Recursion.{and_rule, or_rule, xor_rule}
use Rattle.dd_ops.proofs.Applies.{applies, applies-bound}
use Rattle.dd_ops.proofs.Pairs.{applies-expansion}
use Rattle.dd_ops.proofs.ops.Ops.apply.Goals as goal

pub returns-in-And-clause-answer : goal.returns-in-And-clause-answer
returns-in-And-clause-answer g c =
    let s : Store = g.N.Nodes.store c.args.nodes.now in
    applies c.args.op and_rule s (g.N.Nodes.store c.answer.new.nodes) c.pair-x.result c.args.a c.args.b c.answer.result c.pair-x.ensures
    (λ p q r. ap (λ (op : Op). op_bit op p q) c.in-And.is) c.answer.ensures.answer

pub returns-in-And-clause-bound : goal.returns-in-And-clause-bound
returns-in-And-clause-bound g c =
    let s : Store = g.N.Nodes.store c.args.nodes.now in
    applies-bound s (g.N.Nodes.store c.answer.new.nodes) c.pair-x.result c.args.a c.args.b c.args.steps.now c.answer.new.steps (g.met.N.Nodes.diagram c.args.nodes.now) c.pair-x.ensures c.answer.ensures.work.work

pub returns-in-Or-clause-answer : goal.returns-in-Or-clause-answer
returns-in-Or-clause-answer g c =
    let s : Store = g.N.Nodes.store c.args.nodes.now in
    applies c.args.op or_rule s (g.N.Nodes.store c.answer-in-Or.new.nodes) c.pair-x.result c.args.a c.args.b c.answer-in-Or.result c.pair-x.ensures
    (λ p q r. ap (λ (op : Op). op_bit op p q) c.in-Or.is) c.answer-in-Or.ensures.answer

pub returns-in-Or-clause-bound : goal.returns-in-Or-clause-bound
returns-in-Or-clause-bound g c =
    let s : Store = g.N.Nodes.store c.args.nodes.now in
    applies-bound s (g.N.Nodes.store c.answer-in-Or.new.nodes) c.pair-x.result c.args.a c.args.b c.args.steps.now c.answer-in-Or.new.steps (g.met.N.Nodes.diagram c.args.nodes.now) c.pair-x.ensures c.answer-in-Or.ensures.work.work

pub returns-in-Xor-clause-answer : goal.returns-in-Xor-clause-answer
returns-in-Xor-clause-answer g c =
    let s : Store = g.N.Nodes.store c.args.nodes.now in
    applies c.args.op xor_rule s (g.N.Nodes.store c.answer-in-Xor.new.nodes) c.pair-x.result c.args.a c.args.b c.answer-in-Xor.result c.pair-x.ensures
    (λ p q r. ap (λ (op : Op). op_bit op p q) c.in-Xor.is) c.answer-in-Xor.ensures.answer

pub returns-in-Xor-clause-bound : goal.returns-in-Xor-clause-bound
returns-in-Xor-clause-bound g c =
    let s : Store = g.N.Nodes.store c.args.nodes.now in
    applies-bound s (g.N.Nodes.store c.answer-in-Xor.new.nodes) c.pair-x.result c.args.a c.args.b c.args.steps.now c.answer-in-Xor.new.steps (g.met.N.Nodes.diagram c.args.nodes.now) c.pair-x.ensures c.answer-in-Xor.ensures.work.work

pub returns-in-And-clause-expansion : goal.returns-in-And-clause-expansion
returns-in-And-clause-expansion g c =
    applies-expansion c.args.op and_rule (g.N.Nodes.store c.args.nodes.now) (g.N.Nodes.store c.answer.new.nodes) c.pair-x.result c.args.a c.args.b c.args.steps.now c.answer.new.steps c.answer.result
    (g.met.N.Nodes.diagram c.args.nodes.now) c.requires.right c.pair-x.ensures (λ p q r. ap (λ (op : Op). op_bit op p q) c.in-And.is) c.answer.ensures.work

pub returns-in-Or-clause-expansion : goal.returns-in-Or-clause-expansion
returns-in-Or-clause-expansion g c =
    applies-expansion c.args.op or_rule (g.N.Nodes.store c.args.nodes.now) (g.N.Nodes.store c.answer-in-Or.new.nodes) c.pair-x.result c.args.a c.args.b c.args.steps.now c.answer-in-Or.new.steps c.answer-in-Or.result
    (g.met.N.Nodes.diagram c.args.nodes.now) c.requires.right c.pair-x.ensures (λ p q r. ap (λ (op : Op). op_bit op p q) c.in-Or.is) c.answer-in-Or.ensures.work

pub returns-in-Xor-clause-expansion : goal.returns-in-Xor-clause-expansion
returns-in-Xor-clause-expansion g c =
    applies-expansion c.args.op xor_rule (g.N.Nodes.store c.args.nodes.now) (g.N.Nodes.store c.answer-in-Xor.new.nodes) c.pair-x.result c.args.a c.args.b c.args.steps.now c.answer-in-Xor.new.steps c.answer-in-Xor.result
    (g.met.N.Nodes.diagram c.args.nodes.now) c.requires.right c.pair-x.ensures (λ p q r. ap (λ (op : Op). op_bit op p q) c.in-Xor.is) c.answer-in-Xor.ensures.work
