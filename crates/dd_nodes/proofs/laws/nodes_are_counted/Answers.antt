use Rattle.std.proofs.lemmas.List.Elements.{All-contains}
use Rattle.dd_nodes.specs.Stores.{Store}
use Rattle.dd_nodes.specs.Functions.{IsNodeRef}
use Rattle.dd_nodes.proofs.Counts.{count_nodes}
use Rattle.dd_nodes.proofs.Sizes.{size-nodes}
use Rattle.dd_nodes.proofs.laws.nodes_are_counted.Goals as goal

pub returns : goal.returns
returns g c =
    let s : Store = g.N.Nodes.store c.args.nodes.now in
    let d = g.met.N.Nodes.diagram c.args.nodes.now in
    record {
      refs = λ fs rs each apart. count_nodes s fs rs d (λ r has. All-contains (IsNodeRef s fs) rs r each has) apart;
      size = λ r f. size-nodes s r d f;
    }
