use Rattle.std.proofs.Common.{get_or, false, arith}
use Rattle.ste_base.specs.Functions.{Function}
use Rattle.dd_nodes.specs.Functions.{diagram_size}
use Rattle.dd_nodes.specs.Stores.{Store}
use Rattle.dd_nodes.proofs.Stores.{Means-keeps}
use Rattle.diagram_tests.proofs.Variables.{size-variable, nine}
use Rattle.diagram_tests.proofs.bound.product_of_two.Goals as goal

pub returns : goal.returns
returns g c =
    let t : Store = g.N.Nodes.store c.var.new.nodes in
    let u : Store = g.N.Nodes.store c.var-2.new.nodes in
    let dt = g.met.N.Nodes.diagram c.var.new.nodes in
    let du = g.met.N.Nodes.diagram c.var-2.new.nodes in
    let p = c.in_ok-p.p in
    let q = c.in_ok-q.q in
    let f : Function = λ bits. get_or bits 0 false in
    let kept = c.in_ok-p.ensures.keeps.vars in
    let kept_too = c.in_ok-q.ensures.keeps.vars in
    let within = c.requires in
    nine (diagram_size u p) (diagram_size u q) c.args.steps.now c.apply.new.steps
    (size-variable u 0 p du (omega arith) (Means-keeps t u f p dt du c.in_ok-q.ensures.keeps c.in_ok-p.ensures.ok))
    (size-variable u 1 q du (omega arith) c.in_ok-q.ensures.ok) c.apply.ensures.bound
