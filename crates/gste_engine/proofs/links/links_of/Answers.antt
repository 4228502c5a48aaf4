use Rattle.std.proofs.Common.{◌≡◌, ◌+◌, ◌-◌, ◌<◌, ℕ, suc, List, length, get_or, set, refl, sym, ◌∙◌, ap, subst, arith}
use Rattle.std.proofs.lemmas.List.{get_or_default}
use Rattle.std.specs.Vec.{with_item}
use Rattle.ste_model.specs.declared.task.Edge.{Edge}
use Rattle.gste_engine.specs.declared.links.Links.{Links}
use Rattle.gste_engine.specs.private.Links.{AreLinksFrom, end_of}
use Rattle.gste_engine.proofs.Linked.{links_more}
use Rattle.gste_engine.proofs.links.links_of.Goals as goal

pub loop-i-preserved : goal.loop-i-preserved
loop-i-preserved c =
    let edges : List Edge = c.args.edges.now in
    let n = length edges in
    let i = c.loop-i.i in
    let k = n - 1 - i in
    let lt : i < n = c.loop-i-test.true in
    let inside : k < n = omega (arith, lt) in
    let edge : Edge = c.index-edges-k.result in
    let is : edge ≡ get_or edges k edge = c.index-edges-k.is in
    let vertex = c.vertex_at-vertex.result in
    let end : vertex ≡ end_of c.args.end edge = c.vertex_at-vertex.ensures in
    let below : vertex < c.args.vertices = subst (λ (v : ℕ). v < c.args.vertices) (sym end) (subst (λ (e : Edge). end_of c.args.end e < c.args.vertices) (sym is) (c.requires k edge inside)) in
    let firsts : List ℕ = c.loop-i.links.first.items in
    let p = subst (λ m. AreLinksFrom c.args.end c.args.vertices edges m c.loop-i.links) (let e : n - i ≡ suc k = omega (arith, lt) in e) c.loop-i.invariant in
    let read : c.index.result.now ≡ get_or firsts vertex 0 = c.index.ensures ∙ sym (get_or_default firsts vertex 0 c.index.result.now (let l = p.firsts in omega (arith, l, below))) in
    let now : Links = record { first = with_item c.loop-i.links.first vertex k; next = with_item c.loop-i.links.next k c.index.result.now } in
    subst (λ m. AreLinksFrom c.args.end c.args.vertices edges m now) (let e : k ≡ n - (i + 1) = omega (arith, lt) in e)
    (links_more c.args.end c.args.vertices edges k vertex edge c.loop-i.links now inside is end below p (ap (λ (x : ℕ). set c.loop-i.links.next.items k x) read) refl)

pub returns : goal.returns
returns c = subst (λ m. AreLinksFrom c.args.end c.args.vertices c.args.edges.now m c.loop-i.links) (let out = c.loop-i-test.false in let e : length c.args.edges.now - c.loop-i.i ≡ 0 = omega (arith, out) in e) c.loop-i.invariant
