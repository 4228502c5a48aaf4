use Rattle.std.proofs.Common.{◌≡◌, length, arith, ap, ◌∙◌}
use Rattle.std.proofs.lemmas.List.{length-map}
use Rattle.dd_nodes.specs.Stores.{Store}
use Rattle.gate_sets.proofs.ByTable.{call_made, inputs_full, inputs_refs, none_met, of_net}
use Rattle.gate_sets.proofs.by_table.set_of.Goals as goal

pub sum_of-requires-clause-few : goal.sum_of-requires-clause-few
sum_of-requires-clause-few g c =
    let few = c.requires.few in
    let long : length c.args.scratch.now.stack.items ≡ length c.args.inputs.now = ap length c.requires.stack ∙ length-map c.args.inputs.now (of_net c.args.nets.now) in
    omega (arith, few, long)

pub sum_of-requires-clause-refs : goal.sum_of-requires-clause-refs
sum_of-requires-clause-refs g c =
    let s : Store = g.N.Nodes.store c.args.nodes.now in
    let ds = g.met.N.Nodes.diagram c.args.nodes.now in
    inputs_refs s c.args.nets.now c.args.inputs.now c.args.scratch.now.stack.items ds c.requires.stack c.requires.inside c.requires.refs

pub sum_of-requires-clause-full : goal.sum_of-requires-clause-full
sum_of-requires-clause-full g c =
    let s : Store = g.N.Nodes.store c.args.nodes.now in
    let ds = g.met.N.Nodes.diagram c.args.nodes.now in
    inputs_full s c.args.nets.now c.args.inputs.now c.args.scratch.now.stack.items ds c.requires.stack c.requires.inside c.requires.refs c.requires.full

pub sum_of-requires-clause-met : goal.sum_of-requires-clause-met
sum_of-requires-clause-met g c =
    let s : Store = g.N.Nodes.store c.args.nodes.now in
    none_met s (length c.args.scratch.now.stack.items) c.args.scratch.now.met c.requires.met

pub returns-clause-built : goal.returns-clause-built
returns-clause-built g c = λ sets have.
    let s : Store = g.N.Nodes.store c.args.nodes.now in
    let t : Store = g.N.Nodes.store c.sum_of.new.nodes in
    let ds = g.met.N.Nodes.diagram c.args.nodes.now in
    call_made s c.args.nets.now c.args.inputs.now c.args.scratch.now.stack.items ds c.requires.stack c.requires.inside c.requires.refs sets have c.args.tables t c.sum_of.result c.sum_of.ensures.built
