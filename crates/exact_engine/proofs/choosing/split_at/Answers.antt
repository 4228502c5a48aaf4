use Rattle.std.proofs.Common.{ap, Err}
use Rattle.dd_nodes.specs.Stores.{Store}
use Rattle.dd_ops.specs.Answer.{op_fault}
use Rattle.dd_ops.proofs.Steps.{Answer-made, Answer-fault, Answer-passed}
use Rattle.exact_engine.proofs.choosing.split_at.Goals as goal

pub returns-in_err-mk : goal.returns-in_err-mk
returns-in_err-mk g c = λ f splits.
    let s : Store = g.N.Nodes.store c.args.nodes.now in
    let t : Store = g.N.Nodes.store c.mk.new.self in
    let e = c.in_err-mk.ensures in
    let fault = c.in_err-mk.field-0.0 in
    Answer-passed f s t (op_fault fault) c.from_residual.result c.from_residual.ensures.1
    (Answer-fault f s t c.args.var c.args.lo c.args.hi fault (g.met.N.Nodes.diagram c.args.nodes.now) e.keeps e.limit e.err splits (λ out. e.out (ap Err out)) (λ out. e.unchanged (ap Err out)))

pub returns : goal.returns
returns g c = λ f splits.
    let s : Store = g.N.Nodes.store c.args.nodes.now in
    let t : Store = g.N.Nodes.store c.mk.new.self in
    let good = g.met.N.Nodes.diagram in
    let e = c.in_ok-mk.ensures in
    Answer-made f s t c.args.var c.args.lo c.args.hi c.in_ok-mk.field-0 (good c.args.nodes.now) (good c.mk.new.self) e.keeps e.limit splits e.ok e.adds
