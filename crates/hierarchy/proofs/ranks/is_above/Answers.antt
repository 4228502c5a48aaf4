use Rattle.std.proofs.lemmas.Bool.{ltb-true}
use Rattle.hierarchy.proofs.Ranked.{not_reached}
use Rattle.hierarchy.proofs.ranks.is_above.Goals as goal

pub returns : goal.returns
returns c = λ less reached. not_reached c.args.graph.now c.args.ranks.now c.args.from c.args.to c.rank_of.result c.rank_of-2.result c.requires c.rank_of.ensures c.rank_of-2.ensures (ltb-true c.rank_of.result c.rank_of-2.result less) reached
