use Rattle.std.proofs.Common.{◌≡◌, ◌≢◌, ◌<◌, ◌-◌, ◌∙◌, [], ◌∷◌, false, length, get_or, refl, sym, ap, subst, arith}
use Rattle.std.specs.Prelude.{Some, None, slice_get}
use Rattle.std.proofs.lemmas.Option.{slice_get-get_or}
use Rattle.std.proofs.lemmas.Bool.{eqb-false, eqb-true}
use Rattle.graph_path.specs.declared.hop.Hop.{Hop}
use Rattle.graph_path.specs.Routes.{IsLeastHopRoute}
use Rattle.std.proofs.lemmas.Option.{slice_get_within}
use Rattle.graph_path.specs.private.Distances.{IsDistance}
use Rattle.graph_path.proofs.Walks.{WalkedSoFar, some_begins, least_last, no_route, walked_more}
use Rattle.graph_path.proofs.route.least_route.Goals as goal

pub returns-then-is_empty-clause-path : goal.returns-then-is_empty-clause-path
returns-then-is_empty-clause-path c = no_route c.args.hops.now (length c.args.far.now) (eqb-true (length c.args.far.now) 0 (sym c.if-is_empty.ensures)) c.requires.ends

pub loop-n-init : goal.loop-n-init
loop-n-init c = subst (WalkedSoFar c.args.hops.now c.args.far.now 0 c.in-Some.fewest) (sym c.new-path.ensures)
    (record { fewest = c.requires.distances.some 0 c.in-Some.fewest (slice_get-get_or c.args.far.now 0 None (let h = eqb-false (length c.args.far.now) 0 (sym c.if-is_empty.ensures) in let n : length c.args.far.now ≢ 0 = h in omega (arith, n)) ∙ ap Some c.in-Some.is); ahead = λ rest is. is })

pub unreachable-requires : goal.unreachable-requires
unreachable-requires c =
    let some = some_begins c.args.hops.now c.args.far.now c.requires.distances c.requires.ends c.loop-n.vertex c.loop-n.left c.loop-n.invariant.fewest in
    c.in_default-first_beginning.ensures.none refl some.0 some.1

pub overflow_cast-n : goal.overflow_cast-n
overflow_cast-n c =
    let l = slice_get_within c.args.hops.now c.in-Some-first_beginning.n c.in-Some-first_beginning.ensures.some.0.0 c.in-Some-first_beginning.ensures.some.0.1 in
    omega (arith, l, c.requires.few)

pub returns-then-left-eq0-clause-path : goal.returns-then-left-eq0-clause-path
returns-then-left-eq0-clause-path c = subst (IsLeastHopRoute c.args.hops.now 0) (sym c.in_ok-push.ensures.ok)
    (c.loop-n.invariant.ahead (c.in-Some-first_beginning.n ∷ [])
    (least_last c.args.hops.now c.args.far.now c.requires.distances c.requires.ends c.loop-n.vertex c.loop-n.left c.in-Some-first_beginning.n c.if-left-eq0.true c.loop-n.invariant.fewest c.in-Some-first_beginning.ensures.some))

pub offset_bounds-hops-n : goal.offset_bounds-hops-n
offset_bounds-hops-n c =
    let l = slice_get_within c.args.hops.now c.in-Some-first_beginning.n c.in-Some-first_beginning.ensures.some.0.0 c.in-Some-first_beginning.ensures.some.0.1 in
    omega (arith, l, c.requires.few)

pub bounds-hops-n : goal.bounds-hops-n
bounds-hops-n c = slice_get_within c.args.hops.now c.in-Some-first_beginning.n c.in-Some-first_beginning.ensures.some.0.0 c.in-Some-first_beginning.ensures.some.0.1

pub loop-n-smaller : goal.loop-n-smaller
loop-n-smaller c = let h = c.if-left-eq0.false in omega (arith, h)

pub loop-n-preserved : goal.loop-n-preserved
loop-n-preserved c =
    let n = c.in-Some-first_beginning.n in
    let hops = c.args.hops.now in
    let d : Hop = record { from = 0; to = 0; feasible = false; fails = false } in
    let l = slice_get_within hops n c.in-Some-first_beginning.ensures.some.0.0 c.in-Some-first_beginning.ensures.some.0.1 in
    let at = slice_get-get_or hops n d l in
    subst (WalkedSoFar hops c.args.far.now (get_or hops n d).to (c.loop-n.left - 1)) (sym c.in_ok-push.ensures.ok)
    (walked_more hops c.args.far.now c.requires.distances c.requires.ends c.loop-n.vertex c.loop-n.left n (get_or hops n d) c.loop-n.path c.in-Some-first_beginning.ensures.some at c.if-left-eq0.false c.loop-n.invariant)

pub returns-then-left-eq0-clause-short : goal.returns-then-left-eq0-clause-short
returns-then-left-eq0-clause-short c =
    let fewest = c.in-Some.fewest in
    let at : slice_get c.args.far.now 0 ≡ Some (Some fewest) = slice_get-get_or c.args.far.now 0 None (let h = eqb-false (length c.args.far.now) 0 (sym c.if-is_empty.ensures) in let n : length c.args.far.now ≢ 0 = h in omega (arith, n)) ∙ ap Some c.in-Some.is in
    let distance : IsDistance c.args.hops.now 0 fewest = c.requires.distances.some 0 fewest at in
    let near : fewest < length c.args.far.now = c.requires.near 0 fewest at in
    let n = c.in-Some-first_beginning.n in
    let path : IsLeastHopRoute c.args.hops.now 0 c.push.new.self = subst (IsLeastHopRoute c.args.hops.now 0) (sym c.in_ok-push.ensures.ok)
    (c.loop-n.invariant.ahead (n ∷ [])
    (least_last c.args.hops.now c.args.far.now c.requires.distances c.requires.ends c.loop-n.vertex c.loop-n.left n c.if-left-eq0.true c.loop-n.invariant.fewest c.in-Some-first_beginning.ensures.some)) in
    let l = (path.least distance.some.0 distance.some.1).0 in
    let e = distance.some.2 in
    omega (arith, l, e, near)
