use Rattle.std.proofs.Common.{◌∙◌, [], ap}
use Rattle.dd_nodes.specs.Stores.{Store, function}
use Rattle.ste_model.specs.Cubes.{cubes_of, first_cubes}
use Rattle.dd_query.proofs.CubePaths.{at_start, no_path}
use Rattle.dd_query.proofs.paths.cubes.Goals as goal

pub returns-clause-list : goal.returns-clause-list
returns-clause-list g c =
    let s : Store = g.N.Nodes.store c.args.nodes.now in
    let cubes = cubes_of s.vars (function s c.args.r) in
    c.in_ok-add_cubes.ensures.list [] (at_start c.args.max c.new.result c.new.ensures) ∙ ap (first_cubes c.args.max) (no_path c.new-path.result.items cubes c.new-path.ensures.items)
