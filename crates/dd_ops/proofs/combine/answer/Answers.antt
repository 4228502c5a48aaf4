use Rattle.std.proofs.Common.{Ok, Err}
use Rattle.dd_nodes.specs.Stores.{Store}
use Rattle.dd_ops.specs.private.Recursion.{named}
use Rattle.dd_ops.proofs.Steps.{Answer-settled, IsMemo-blank}
use Rattle.dd_ops.proofs.Expanding.{Unfolded-blank, Unfolded-kept, Unfolded-none, Unfolded-passed}
use Rattle.dd_ops.proofs.Recalled.{Answer-kept, Answer-recalled, IsJoined-answered}
use Rattle.dd_ops.proofs.combine.answer.Goals as goal

pub returns-in-Some-clause-answer : goal.returns-in-Some-clause-answer
returns-in-Some-clause-answer g c =
    let s : Store = g.N.Nodes.store c.args.nodes.now in
    Answer-settled (named g.C.Connective.rule s c.args.x) s c.in-Some.r (c.in-Some.ensures.some s (g.met.N.Nodes.diagram c.args.nodes.now) c.requires.refs)

pub combine-requires-clause-memo : goal.combine-requires-clause-memo
combine-requires-clause-memo g c = IsMemo-blank g.C.Connective.rule (g.N.Nodes.store c.args.nodes.now) c.new.result c.new.ensures

pub returns-in-Some-recall-clause-answer : goal.returns-in-Some-recall-clause-answer
returns-in-Some-recall-clause-answer g c =
    Answer-recalled c.operator.result g.C.Connective.rule (g.N.Nodes.store c.args.nodes.now) c.args.x c.in-Some-recall.r c.operator.ensures c.in-Some-recall.ensures

pub remember-requires : goal.remember-requires
remember-requires g c =
    let good = g.met.N.Nodes.diagram in
    IsJoined-answered c.operator-2.result g.C.Connective.rule (g.N.Nodes.store c.args.nodes.now) (g.N.Nodes.store c.combine.new.nodes) c.args.x c.in_ok-r.r c.operator-2.ensures
    (good c.args.nodes.now) (good c.combine.new.nodes) c.requires.refs c.in_ok-r.ensures.answer

pub returns-clause-answer : goal.returns-clause-answer
returns-clause-answer g c =
    let s : Store = g.N.Nodes.store c.args.nodes.now in
    Answer-kept (named g.C.Connective.rule s c.args.x) s (g.N.Nodes.store c.combine.new.nodes) (g.N.Nodes.store c.remember.new.self) (Ok c.in_ok-r.r) c.remember.ensures c.in_ok-r.ensures.answer

pub returns-in-Some-clause-work : goal.returns-in-Some-clause-work
returns-in-Some-clause-work g c = Unfolded-none g.C.Connective.rule (g.N.Nodes.store c.args.nodes.now) c.args.x c.args.steps.now c.in-Some.r

pub returns-in-Some-recall-clause-work : goal.returns-in-Some-recall-clause-work
returns-in-Some-recall-clause-work g c = Unfolded-none g.C.Connective.rule (g.N.Nodes.store c.args.nodes.now) c.args.x c.args.steps.now c.in-Some-recall.r

pub returns-in_err-r-clause-work : goal.returns-in_err-r-clause-work
returns-in_err-r-clause-work g c =
    Unfolded-passed g.C.Connective.rule (g.N.Nodes.store c.args.nodes.now) (g.N.Nodes.store c.combine.new.nodes) c.args.x c.args.steps.now c.combine.new.steps c.in_err-r.field-0.0 c.from_residual.result c.from_residual.ensures.1
    (Unfolded-blank g.C.Connective.rule (g.N.Nodes.store c.args.nodes.now) (g.N.Nodes.store c.combine.new.nodes) c.args.x c.new.result c.combine.new.memo c.args.steps.now c.combine.new.steps (Err c.in_err-r.field-0.0) c.new.ensures c.in_err-r.ensures.work)

pub returns-clause-work : goal.returns-clause-work
returns-clause-work g c =
    let s : Store = g.N.Nodes.store c.args.nodes.now in
    let t : Store = g.N.Nodes.store c.combine.new.nodes in
    Unfolded-kept g.C.Connective.rule s t (g.N.Nodes.store c.remember.new.self) c.args.x c.args.steps.now c.combine.new.steps (Ok c.in_ok-r.r) c.remember.ensures
    (Unfolded-blank g.C.Connective.rule s t c.args.x c.new.result c.combine.new.memo c.args.steps.now c.combine.new.steps (Ok c.in_ok-r.r) c.new.ensures c.in_ok-r.ensures.work)
