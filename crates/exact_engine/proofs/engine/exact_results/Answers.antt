use Rattle.std.proofs.Common.{◌≡◌, Err}
use Rattle.dd_nodes.specs.Stores.{Store}
use Rattle.dd_ops.specs.declared.fault.OpFault.TheVariants.{StepsOut}
use Rattle.net_core.specs.declared.raw.RawNet.{RawNet}
use Rattle.net_core.proofs.Ordered.{settled_by_order}
use Rattle.ste_model.specs.declared.task.Assertion.{Assertion}
use Rattle.exact_model.specs.Exact.{IsSoundFor}
use Rattle.exact_model.proofs.ChoiceRuns.{exact_bits}
use Rattle.exact_engine.proofs.Resulting.{short, told}
use Rattle.exact_engine.proofs.engine.exact_results.Goals as goal

pub returns-clause-told : goal.returns-clause-told
returns-clause-told g c =
    let s : Store = g.N.Nodes.store c.args.nodes.now in
    let t : Store = g.N.Nodes.store c.results.new.nodes in
    let full = c.args.net.now in
    let net : RawNet = full.raw in
    let vars = c.args.vars in
    let task : Assertion = c.args.task.now in
    let q = c.requires in
    let settled = settled_by_order net full.settled full.in_order in
    let sound : IsSoundFor net vars task = record { range = full.in_range; driver = full.one_driver; settled = settled; over = record { ant = q.ant; con = q.con }; reads_ant = q.reads_ant; reads_con = q.reads_con } in
    let made = exact_bits net vars task full.one_driver settled in
    told net vars task made.0 sound made.1 s t c.results.result q.room (c.results.ensures made.0 made.1)

pub returns-clause-short : goal.returns-clause-short
returns-clause-short g c =
    let s : Store = g.N.Nodes.store c.args.nodes.now in
    let t : Store = g.N.Nodes.store c.results.new.nodes in
    let full = c.args.net.now in
    let net : RawNet = full.raw in
    let vars = c.args.vars in
    let task : Assertion = c.args.task.now in
    let q = c.requires in
    let settled = settled_by_order net full.settled full.in_order in
    let sound : IsSoundFor net vars task = record { range = full.in_range; driver = full.one_driver; settled = settled; over = record { ant = q.ant; con = q.con }; reads_ant = q.reads_ant; reads_con = q.reads_con } in
    let made = exact_bits net vars task full.one_driver settled in
    λ out need is. short net vars task made.0 sound made.1 s t (c.results.result ≡ Err StepsOut) q.room (g.met.N.Nodes.diagram c.results.new.nodes) (g.met.N.Nodes.distinct c.results.new.nodes) (g.met.N.Nodes.made_held c.results.new.nodes) (c.results.ensures made.0 made.1).spends out need is

pub returns-clause-keeps : goal.returns-clause-keeps
returns-clause-keeps g c =
    let s : Store = g.N.Nodes.store c.args.nodes.now in
    let t : Store = g.N.Nodes.store c.results.new.nodes in
    let full = c.args.net.now in
    let net : RawNet = full.raw in
    let vars = c.args.vars in
    let task : Assertion = c.args.task.now in
    let q = c.requires in
    let settled = settled_by_order net full.settled full.in_order in
    let sound : IsSoundFor net vars task = record { range = full.in_range; driver = full.one_driver; settled = settled; over = record { ant = q.ant; con = q.con }; reads_ant = q.reads_ant; reads_con = q.reads_con } in
    let made = exact_bits net vars task full.one_driver settled in
    (c.results.ensures made.0 made.1).spends.keeps

pub returns-clause-limit : goal.returns-clause-limit
returns-clause-limit g c =
    let s : Store = g.N.Nodes.store c.args.nodes.now in
    let t : Store = g.N.Nodes.store c.results.new.nodes in
    let full = c.args.net.now in
    let net : RawNet = full.raw in
    let vars = c.args.vars in
    let task : Assertion = c.args.task.now in
    let q = c.requires in
    let settled = settled_by_order net full.settled full.in_order in
    let sound : IsSoundFor net vars task = record { range = full.in_range; driver = full.one_driver; settled = settled; over = record { ant = q.ant; con = q.con }; reads_ant = q.reads_ant; reads_con = q.reads_con } in
    let made = exact_bits net vars task full.one_driver settled in
    (c.results.ensures made.0 made.1).spends.limit
