use Rattle.dd_nodes.specs.Stores.{Store}
use Rattle.net_core.proofs.Ordered.{settled_by_order}
use Rattle.sym_step.proofs.Whole.{own_built, refs_left, possible_left}
use Rattle.sym_step.proofs.time.advance.Goals as goal

pub returns-clause-keeps : goal.returns-clause-keeps
returns-clause-keeps g c =
    let s : Store = g.N.Nodes.store c.args.nodes.now in
    let t : Store = g.N.Nodes.store c.made_at.new.nodes in
    let net = c.args.net.now in
    let dt = g.met.N.Nodes.diagram c.made_at.new.nodes in
    let settled = settled_by_order net.raw net.settled net.in_order in
    let made = own_built net.raw net.in_range settled c.args.latches.now c.args.weak.now c.args.cuts.now s t dt c.requires.long c.requires.latches c.requires.cuts c.made_at.result c.made_at.ensures.built in
    made.spends.keeps

pub returns-clause-refs : goal.returns-clause-refs
returns-clause-refs g c =
    let s : Store = g.N.Nodes.store c.args.nodes.now in
    let t : Store = g.N.Nodes.store c.made_at.new.nodes in
    let net = c.args.net.now in
    let dt = g.met.N.Nodes.diagram c.made_at.new.nodes in
    let settled = settled_by_order net.raw net.settled net.in_order in
    let made = own_built net.raw net.in_range settled c.args.latches.now c.args.weak.now c.args.cuts.now s t dt c.requires.long c.requires.latches c.requires.cuts c.made_at.result c.made_at.ensures.built in
    refs_left net.raw net.in_range settled c.args.latches.now c.args.weak.now c.args.cuts.now s t dt c.requires.long c.requires.latches c.requires.cuts c.made_at.result made

pub returns-clause-possible : goal.returns-clause-possible
returns-clause-possible g c =
    let s : Store = g.N.Nodes.store c.args.nodes.now in
    let t : Store = g.N.Nodes.store c.made_at.new.nodes in
    let net = c.args.net.now in
    let dt = g.met.N.Nodes.diagram c.made_at.new.nodes in
    let settled = settled_by_order net.raw net.settled net.in_order in
    let made = own_built net.raw net.in_range settled c.args.latches.now c.args.weak.now c.args.cuts.now s t dt c.requires.long c.requires.latches c.requires.cuts c.made_at.result c.made_at.ensures.built in
    possible_left net.raw net.in_range settled c.args.latches.now c.args.weak.now c.args.cuts.now s t dt c.requires.long c.requires.latches c.requires.cuts c.made_at.result made
