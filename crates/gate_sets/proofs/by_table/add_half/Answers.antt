use Rattle.std.proofs.Common.{List, drop, map, ◌<◌, arith, length, sym, ◌∙◌, subst}
use Rattle.dd_nodes.specs.Stores.{Store}
use Rattle.dual_rail.specs.declared.rails.Rails.{Rails}
use Rattle.dual_rail.specs.Rail.{AreRefs}
use Rattle.gate_sets.specs.private.TruthTables.{half_rails}
use Rattle.gate_sets.proofs.ByTable.{at_place, half_put, halved}
use Rattle.gate_sets.proofs.by_table.add_half.Goals as goal

pub child_of-can0-requires : goal.child_of-can0-requires
child_of-can0-requires g c =
    let s : Store = g.N.Nodes.store c.args.nodes.now in
    let before = c.loop-place.invariant in
    let inside : c.loop-place.place < length c.args.stack.now.items = let l = c.loop-place-test.true in let end = c.len-place-end.ensures in omega (arith, l, end) in
    let refs : AreRefs s c.index-r.result.now = at_place (AreRefs s) c.args.stack.now.items c.loop-place.stack.items c.args.begin c.loop-place.place c.index-r.result.now before.begun inside c.index-r.ensures before.kept c.requires.refs in
    record { refs = (subst (λ (x : Store). AreRefs x c.index-r.result.now) (sym before.store) refs).zero }

pub child_of-can1-requires : goal.child_of-can1-requires
child_of-can1-requires g c =
    let s : Store = g.N.Nodes.store c.args.nodes.now in
    let before = c.loop-place.invariant in
    let inside : c.loop-place.place < length c.args.stack.now.items = let l = c.loop-place-test.true in let end = c.len-place-end.ensures in omega (arith, l, end) in
    let refs : AreRefs s c.index-r.result.now = at_place (AreRefs s) c.args.stack.now.items c.loop-place.stack.items c.args.begin c.loop-place.place c.index-r.result.now before.begun inside c.index-r.ensures before.kept c.requires.refs in
    record { refs = (subst (λ (x : Store). AreRefs x c.index-r.result.now) (sym (c.child_of-can0.ensures.store ∙ before.store)) refs).one }

pub loop-place-preserved : goal.loop-place-preserved
loop-place-preserved g c =
    let s : Store = g.N.Nodes.store c.args.nodes.now in
    let before = c.loop-place.invariant in
    let old = c.args.stack.now.items in
    let stack = c.loop-place.stack.items in
    let place = c.loop-place.place in
    let r : Rails = c.index-r.result.now in
    let inside : place < length old = let l = c.loop-place-test.true in let end = c.len-place-end.ensures in omega (arith, l, end) in
    let kids : Rails = record { can0 = c.child_of-can0.result; can1 = c.child_of-can1.result } in
    let all : List Rails = map (half_rails s.held c.args.var c.args.bit) (drop c.args.begin old) in
    let half = halved s (g.N.Nodes.store c.loop-place.nodes) (g.N.Nodes.store c.child_of-can0.new.nodes) c.args.var c.args.bit r c.child_of-can0.result c.child_of-can1.result
    before.store (c.child_of-can0.ensures.store ∙ before.store) c.child_of-can0.ensures.child c.child_of-can1.ensures.child in
    let both = half_put (half_rails s.held c.args.var c.args.bit) old stack c.push.new.self.items all place r kids inside c.index-r.ensures half c.in_ok-push.ensures.items before.kept before.half in
    record { begun = omega (arith, before.begun); store = c.child_of-can1.ensures.store ∙ c.child_of-can0.ensures.store ∙ before.store; kept = both.0; half = both.1 }
