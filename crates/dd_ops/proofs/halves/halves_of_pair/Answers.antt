use Rattle.std.proofs.Common.{arith, ap, ◌∙◌}
use Rattle.dd_nodes.specs.Stores.{Store}
use Rattle.dd_ops.specs.private.Recursion.{seen}
use Rattle.dd_ops.proofs.Seen.{SeesPair, AreHalves-is, first-before, second-before, both-at}
use Rattle.dd_ops.proofs.halves.halves_of_pair.Goals as goal

pub returns-then-first-second-clause-halves : goal.returns-then-first-second-clause-halves
returns-then-first-second-clause-halves g c =
    let s : Store = g.N.Nodes.store c.args.nodes.now in
    let x = c.args.x in
    let m = c.node_of-first.result in
    let n = c.node_of-second.result in
    let sees : SeesPair s x m n = record {
      good = g.met.N.Nodes.diagram c.args.nodes.now;
      refs = c.requires.refs;
      some = c.requires.open;
      pair = c.requires.pair;
      first = c.node_of-first.ensures.node;
      second = c.node_of-second.ensures.node ∙ ap (λ (t : Store). seen t x.second) c.node_of-first.ensures.store;
    } in
    AreHalves-is s x m.var c.pair.result c.pair-then-first-second.result _ _ c.pair.ensures c.pair-then-first-second.ensures (first-before s x m n sees c.if-first-second.true)

pub returns-then-second-first-clause-halves : goal.returns-then-second-first-clause-halves
returns-then-second-first-clause-halves g c =
    let s : Store = g.N.Nodes.store c.args.nodes.now in
    let x = c.args.x in
    let m = c.node_of-first.result in
    let n = c.node_of-second.result in
    let sees : SeesPair s x m n = record {
      good = g.met.N.Nodes.diagram c.args.nodes.now;
      refs = c.requires.refs;
      some = c.requires.open;
      pair = c.requires.pair;
      first = c.node_of-first.ensures.node;
      second = c.node_of-second.ensures.node ∙ ap (λ (t : Store). seen t x.second) c.node_of-first.ensures.store;
    } in
    AreHalves-is s x n.var c.pair-then-second-first.result c.pair-then-second-first-2.result _ _ c.pair-then-second-first.ensures c.pair-then-second-first-2.ensures (second-before s x m n sees c.if-second-first.true)

pub returns-clause-halves : goal.returns-clause-halves
returns-clause-halves g c =
    let s : Store = g.N.Nodes.store c.args.nodes.now in
    let x = c.args.x in
    let m = c.node_of-first.result in
    let n = c.node_of-second.result in
    let sees : SeesPair s x m n = record {
      good = g.met.N.Nodes.diagram c.args.nodes.now;
      refs = c.requires.refs;
      some = c.requires.open;
      pair = c.requires.pair;
      first = c.node_of-first.ensures.node;
      second = c.node_of-second.ensures.node ∙ ap (λ (t : Store). seen t x.second) c.node_of-first.ensures.store;
    } in
    AreHalves-is s x m.var c.pair-2.result c.pair-3.result _ _ c.pair-2.ensures c.pair-3.ensures (both-at s x m n sees (let a = c.if-first-second.false in omega arith) (let b = c.if-second-first.false in omega arith))
