use Rattle.std.specs.Prelude.{bytes_eq}
use Rattle.instances.proofs.Bound.{bound_at, bound_nowhere, place_is}
use Rattle.instances.proofs.bounds.bind.Goals as goal

pub returns-in-Some : goal.returns-in-Some
returns-in-Some c = λ f e.
    let at = place_is (bytes_eq c.args.formal.now) c.args.names.now.keys c.unwrap_or-place.result c.len.result c.get_index_of.result c.unwrap_or-place.ensures c.get_index_of.ensures.index c.len.ensures.len in
    bound_at f c.args.number c.args.formal.now c.args.names.now.keys c.args.bounds.now.items c.unwrap_or-place.result e at c.in-Some.ensures.item.3.0 c.len.ensures.unique

pub returns-in_default : goal.returns-in_default
returns-in_default c = λ f e.
    let at = place_is (bytes_eq c.args.formal.now) c.args.names.now.keys c.unwrap_or-place.result c.len.result c.get_index_of.result c.unwrap_or-place.ensures c.get_index_of.ensures.index c.len.ensures.len in
    bound_nowhere f c.args.number c.args.formal.now c.args.names.now.keys c.args.bounds.now.items c.unwrap_or-place.result e at c.in_default.ensures.item.3
