use Rattle.std.proofs.Common.{◌≡◌, ◌≢◌, ◌∙◌, sym, ap, eqb-true, true, false, [], ◌∷◌, ◌++◌}
use Rattle.std.proofs.lemmas.Bool.{eqb-false}
use Rattle.dd_nodes.specs.Stores.{Store, function}
use Rattle.ste_model.specs.Cubes.{cubes_of}
use Rattle.dd_query.proofs.Room.{falls_in, ref_in}
use Rattle.dd_query.proofs.CubePaths.{behind, both_turns, full_behind, has_more, has_same, of_any, of_false, of_node_in, of_true, one_behind, popped}
use Rattle.dd_query.proofs.paths.+add_cubes.Goals as goal

pub returns-then-list-clause-list : goal.returns-then-list-clause-list
returns-then-list-clause-list g t c =
    let s : Store = g.N.Nodes.store c.args.nodes.now in
    λ before is. has_more c.args.max before (behind c.args.path.now.items (cubes_of s.vars (function s c.args.r))) c.args.list.now is c.if-list.true

pub returns-then-eq-clause-list : goal.returns-then-eq-clause-list
returns-then-eq-clause-list g t c =
    let s : Store = g.N.Nodes.store c.args.nodes.now in
    let is_zero : c.args.r.0 ≡ 0 = eqb-true _ _ (sym c.eq.ensures ∙ c.if-eq.true) in
    λ before is. has_same c.args.max before (behind c.args.path.now.items (cubes_of s.vars (function s c.args.r))) c.args.list.now is
    (ap (behind c.args.path.now.items) (of_false s.held s.vars c.args.r (g.met.N.Nodes.diagram c.args.nodes.now) is_zero))

pub returns-then-len-max-clause-list : goal.returns-then-len-max-clause-list
returns-then-len-max-clause-list g t c =
    let s : Store = g.N.Nodes.store c.args.nodes.now in
    let nonzero : c.args.r.0 ≢ 0 = eqb-false _ _ (sym c.eq.ensures ∙ c.if-eq.false) in
    λ before is. full_behind c.args.max before c.args.path.now.items (cubes_of s.vars (function s c.args.r)) c.args.list.now is c.if-list.false (sym c.len.ensures ∙ c.if-len-max.true)
    (of_any s.held s.vars c.args.r (g.met.N.Nodes.diagram c.args.nodes.now) c.requires.held nonzero)

pub returns-then-eq-2-clause-list : goal.returns-then-eq-2-clause-list
returns-then-eq-2-clause-list g t c =
    let s : Store = g.N.Nodes.store c.args.nodes.now in
    let is_one : c.args.r.0 ≡ 1 = eqb-true _ _ (sym c.eq-2.ensures ∙ c.if-eq-2.true) in
    let pushed : c.push.new.self ≡ c.args.list.now.cubes ++ c.in_ok-cube.cube ∷ [] = c.in_ok-push.ensures.ok in
    let cube : c.in_ok-cube.cube ≡ c.args.path.now.items = c.in_ok-cube.ensures ∙ c.as_slice.ensures.value in
    λ before is. one_behind c.args.max before c.args.path.now.items c.in_ok-cube.cube (cubes_of s.vars (function s c.args.r)) c.push.new.self c.args.list.now is c.if-list.false
    (λ e. c.if-len-max.false (c.len.ensures ∙ e)) pushed cube (of_true s.held s.vars c.args.r (g.met.N.Nodes.diagram c.args.nodes.now) is_one)

pub add_cubes-requires : goal.add_cubes-requires
add_cubes-requires g t c κs within =
    let s : Store = g.N.Nodes.store c.args.nodes.now in
    let d = g.met.N.Nodes.diagram c.args.nodes.now in
    let n = c.node-node.result in
    let u : Store = g.N.Nodes.store c.node-node.new.self in
    (falls_in s u n c.args.r false t d c.node-node.ensures.store c.node-node.ensures.node c.decreases, (within, ref_in s u n c.args.r false d c.node-node.ensures.store c.node-node.ensures.node))

pub add_cubes-requires-2 : goal.add_cubes-requires-2
add_cubes-requires-2 g t c κs within =
    let s : Store = g.N.Nodes.store c.args.nodes.now in
    let d = g.met.N.Nodes.diagram c.args.nodes.now in
    let n = c.node-node.result in
    let u : Store = g.N.Nodes.store c.add_cubes.new.nodes in
    let same : u ≡ s = c.in_ok-add_cubes.ensures.store ∙ c.node-node.ensures.store in
    (falls_in s u n c.args.r true t d same c.node-node.ensures.node c.decreases, (within, ref_in s u n c.args.r true d same c.node-node.ensures.node))

pub returns-clause-list : goal.returns-clause-list
returns-clause-list g t c =
    let s : Store = g.N.Nodes.store c.args.nodes.now in
    let n = c.node-node.result in
    let u : Store = g.N.Nodes.store c.node-node.new.self in
    let w : Store = g.N.Nodes.store c.add_cubes.new.nodes in
    let path = c.args.path.now.items in
    let middle : c.pop.new.self.items ≡ path = popped path c.add_cubes.new.path.items c.pop.new.self.items _ _ (c.in_ok-add_cubes.ensures.path ∙ c.in_ok-push-2.ensures.items) c.add_cubes.new.path.ok.0 c.pop.ensures.rest in
    let both = of_node_in s u w c.args.r n (g.met.N.Nodes.diagram c.args.nodes.now) c.node-node.ensures.store (c.in_ok-add_cubes.ensures.store ∙ c.node-node.ensures.store) c.node-node.ensures.node in
    both_turns c.args.max path c.push-2.new.self.items c.pop.new.self.items c.push-3.new.self.items n.var (cubes_of s.vars (function s c.args.r)) (cubes_of u.vars (function u n.lo)) (cubes_of w.vars (function w n.hi))
    c.args.list.now c.add_cubes.new.list c.add_cubes-2.new.list both c.in_ok-push-2.ensures.items middle c.in_ok-push-3.ensures.items c.in_ok-add_cubes.ensures.list c.in_ok-add_cubes-2.ensures.list
