use Rattle.std.proofs.Common.{◌+◌, false, get_or, sym, subst}
use Rattle.std.proofs.lemmas.Option.{slice_get-get_or}
use Rattle.graph_path.specs.declared.hop.Hop.{Hop}
use Rattle.graph_path.proofs.Levels.{MarkedSoFar, marked_start, marked_more, marked_pass, marked_end}
use Rattle.graph_path.proofs.distances.mark_level.Goals as goal
use Rattle.graph_path.proofs.distances.mark_level.Goals.{then-visit, else-visit}

pub loop-hop-init : goal.loop-hop-init
loop-hop-init c = marked_start c.args.hops.now c.args.level c.args.far.now.items

pub loop-hop-preserved : goal.loop-hop-preserved
loop-hop-preserved c =
    let hops = c.args.hops.now in
    let j = c.loop-hop.hop-index in
    let d : Hop = record { from = 0; to = 0; feasible = false; fails = false } in
    let at = slice_get-get_or hops j d c.loop-hop-test.true in
    let old = c.args.far.now.items in
    elim c.if-visit.branch [
      | then-visit w ↦
          let v = c.visit.ensures.changed w.if-visit.true in
          subst (MarkedSoFar hops c.args.level old c.visit.new.far.items (j + 1)) (sym w.changed-is)
          (marked_more hops c.args.level old c.loop-hop.far.items c.visit.new.far.items j c.loop-hop.changed (get_or hops j d) c.requires.below at v.0 v.1 v.2 c.loop-hop.invariant)
      | else-visit w ↦
          subst (MarkedSoFar hops c.args.level old c.visit.new.far.items (j + 1)) (sym w.changed-is)
          (marked_pass hops c.args.level old c.loop-hop.far.items c.visit.new.far.items j c.loop-hop.changed (get_or hops j d) at (c.visit.ensures.same w.if-visit.false) (c.visit.ensures.kept w.if-visit.false) c.loop-hop.invariant)
    ]

pub returns-clause-below : goal.returns-clause-below
returns-clause-below c = marked_end c.args.hops.now c.args.level c.args.far.now.items c.loop-hop.far.items c.loop-hop.hop-index c.loop-hop.changed c.requires.ends c.requires.below c.loop-hop-test.false c.loop-hop.invariant

pub returns-clause-same : goal.returns-clause-same
returns-clause-same c = c.loop-hop.invariant.same

pub returns-clause-fewer : goal.returns-clause-fewer
returns-clause-fewer c = c.loop-hop.invariant.fewer
