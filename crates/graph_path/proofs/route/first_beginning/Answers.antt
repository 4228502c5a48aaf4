use Rattle.std.proofs.Common.{false, get_or, arith}
use Rattle.std.proofs.lemmas.Option.{slice_get-get_or}
use Rattle.graph_path.specs.declared.hop.Hop.{Hop}
use Rattle.std.proofs.lemmas.Option.{slice_get_within}
use Rattle.graph_path.proofs.Walks.{none_more}
use Rattle.graph_path.proofs.route.first_beginning.Goals as goal
use Rattle.graph_path.proofs.route.first_beginning.Goals.{else-hop-vertex-via-then-hop-vertex+else-may_begin, else-hop-vertex-via-else-hop-vertex}

-- what a list of hops gives where there is none
abbrev no_hop : Hop
no_hop = record { from = 0; to = 0; feasible = false; fails = false }

pub loop-k-init : goal.loop-k-init
loop-k-init c = λ m l. absurd (omega arith)

pub returns-then-may_begin-clause-some : goal.returns-then-may_begin-clause-some
returns-then-may_begin-clause-some c =
    let k = c.loop-k.k in
    ((get_or c.args.hops.now k no_hop, slice_get-get_or c.args.hops.now k no_hop c.loop-k-test.true, c.if-hop-vertex.true, c.may_begin.ensures.0 c.if-may_begin.true), c.loop-k.invariant)

pub loop-k-preserved : goal.loop-k-preserved
loop-k-preserved c =
    let k = c.loop-k.k in
    let hops = c.args.hops.now in
    let at = slice_get-get_or hops k no_hop c.loop-k-test.true in
    none_more hops c.args.far.now c.args.vertex c.args.left k (get_or hops k no_hop) at
    (elim c.else-hop-vertex.branch [
      | else-hop-vertex-via-then-hop-vertex+else-may_begin w ↦ λ e l. let t = w.may_begin.ensures.1 l in let f = w.if-may_begin.false in cc
      | else-hop-vertex-via-else-hop-vertex w ↦ λ e l. w.if-hop-vertex.false e
    ]) c.loop-k.invariant

pub returns-clause-none : goal.returns-clause-none
returns-clause-none c = λ e n is.
    let l = slice_get_within c.args.hops.now n is.0 is.1 in
    c.loop-k.invariant n (omega (arith, l, c.loop-k-test.false)) is
