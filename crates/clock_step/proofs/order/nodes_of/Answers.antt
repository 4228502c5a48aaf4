use Rattle.std.proofs.Common.{[], ◌≡◌, sym, subst}
use Rattle.clock_step.specs.Order.{first_double_net, first_driven, first_unknown_net}
use Rattle.clock_step.specs.private.Answers.{AreNodes}
use Rattle.clock_step.proofs.Named.{are_nodes, is_none, no_fault}
use Rattle.clock_step.proofs.order.nodes_of.Goals as goal

pub returns : goal.returns
returns g c =
    let net_of = g.N.Resolve.net_of c.args.names.now in
    let net = c.args.net.now.raw in
    let names = c.args.words.now in
    let keys = c.add_up_to_double.new.nodes.keys in
    let unknown = is_none (first_unknown_net net_of names) c.in_ok-name-2.ensures c.in_default-2.is in
    let driven = is_none (first_driven net_of net names) c.in_ok-name-3.ensures c.in_default-3.is in
    let vec = c.in_ok-to_vec.ensures.items_if_clones_equal (λ a e h. h) in
    let copied : c.into.result ≡ keys = rw (c.into.ensures, vec) c.as_slice.ensures.keys in (
      no_fault net_of net c.args.line names (is_none (first_double_net net_of [] names) c.in_ok-name.ensures.double c.in_default.is) unknown driven,
      subst (AreNodes net_of net names) (sym copied) (are_nodes net_of net names keys (c.in_ok-name.ensures.nodes c.in_default.is) c.as_slice.ensures.unique unknown driven),
    )
