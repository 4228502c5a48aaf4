use Rattle.std.proofs.Common.{◌≡◌, ℕ, Bool, true, false, ◌∙◌, ap, arith}
use Rattle.dd_nodes.specs.declared.node.Node.{Node}
use Rattle.dd_nodes.specs.declared.node.Ref.{Ref}
use Rattle.dd_nodes.specs.Diagram.{child}
use Rattle.dd_nodes.specs.Stores.{Store}
use Rattle.dd_ops.specs.private.Recursion.{child_of_node, level, seen, top}
use Rattle.dd_ops.proofs.Seen.{child_of-is}
use Rattle.dd_ops.proofs.Steps.{AreHalves-make}
use Rattle.dd_ops.proofs.halves.halves_of_three.Goals as goal

child_is : (s : Store) (r : Ref) (n : Node) (i : ℕ) (b : Bool) (x : Ref) → n ≡ seen s r → x ≡ child_of_node i b r n → x ≡ child s.held i b r
child_is s r n i b x at is = is ∙ ap (child_of_node i b r) at ∙ child_of-is s.vars i b r (s.held r)

pub returns-clause-halves : goal.returns-clause-halves
returns-clause-halves g c =
    let s : Store = g.N.Nodes.store c.args.nodes.now in
    let x = c.args.x in
    let i = c.min-var.result in
    let first : c.node_of-first.result ≡ seen s x.first = c.node_of-first.ensures.node in
    let second : c.node_of-second.result ≡ seen s x.second = c.node_of-second.ensures.node ∙ ap (λ (t : Store). seen t x.second) c.node_of-first.ensures.store in
    let third : c.node_of-third.result ≡ seen s x.third = c.node_of-third.ensures.node ∙ ap (λ (t : Store). seen t x.third) (c.node_of-second.ensures.store ∙ c.node_of-first.ensures.store) in
    let l1 : c.node_of-first.result.var ≡ level s x.first = ap (λ (n : Node). n.var) first in
    let l2 : c.node_of-second.result.var ≡ level s x.second = ap (λ (n : Node). n.var) second in
    let l3 : c.node_of-third.result.var ≡ level s x.third = ap (λ (n : Node). n.var) third in
    let least : i ≡ top s x = let later = c.min.ensures in let m = c.min-var.ensures in omega arith in
    let p : c.child_of.result ≡ child s.held i false x.first = child_is s x.first c.node_of-first.result i false c.child_of.result first c.child_of.ensures in
    let q : c.child_of-2.result ≡ child s.held i false x.second = child_is s x.second c.node_of-second.result i false c.child_of-2.result second c.child_of-2.ensures in
    let r : c.child_of-3.result ≡ child s.held i false x.third = child_is s x.third c.node_of-third.result i false c.child_of-3.result third c.child_of-3.ensures in
    let t : c.child_of-4.result ≡ child s.held i true x.first = child_is s x.first c.node_of-first.result i true c.child_of-4.result first c.child_of-4.ensures in
    let u : c.child_of-5.result ≡ child s.held i true x.second = child_is s x.second c.node_of-second.result i true c.child_of-5.result second c.child_of-5.ensures in
    let w : c.child_of-6.result ≡ child s.held i true x.third = child_is s x.third c.node_of-third.result i true c.child_of-6.result third c.child_of-6.ensures in
    AreHalves-make s x i _ _ (g.met.N.Nodes.diagram c.args.nodes.now) c.requires.refs c.requires.open least
    (λ j. record { first = p j; second = q j; third = r j }) (λ j. record { first = t j; second = u j; third = w j })
