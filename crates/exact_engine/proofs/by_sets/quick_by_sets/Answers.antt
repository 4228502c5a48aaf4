use Rattle.std.proofs.Common.{◌≡◌, ◌∙◌, ℕ, Bool, true, false, not, eqb-true, refl, sym, subst}
use Rattle.std.specs.Prelude.{◌==◌}
use Rattle.dd_nodes.specs.Stores.{Store}
use Rattle.exact_engine.specs.private.Reporting.{TellSets}
use Rattle.exact_engine.proofs.BySets.{by_sets, least_strong}
use Rattle.exact_engine.proofs.by_sets.quick_by_sets.Goals as goal

equal_from : (x y : ℕ) (b : Bool) → b ≡ not (x == y) → b ≡ false → x ≡ y
equal_from x y b e is = eqb-true x y (by (x == y) (sym e ∙ is))
  where
    by : (c : Bool) → not c ≡ false → c ≡ true
    by true h = refl
    by false h = absurd (cc h)

pub shown_by_sets-requires-clause-least : goal.shown_by_sets-requires-clause-least
shown_by_sets-requires-clause-least g c =
    let q = c.requires in
    least_strong c.args.net.now.raw c.args.vars c.args.task.now (g.N.Nodes.store c.args.nodes.now) c.args.r (g.met.N.Nodes.diagram c.args.nodes.now) q.bound q.vars q.told (equal_from c.args.r.weak.0 0 c.ne.result c.ne.ensures c.if-ne.false) c.in_ok-least.least c.in_ok-least.ensures.least

pub returns-clause-quick : goal.returns-clause-quick
returns-clause-quick g c =
    let q = c.requires in
    let net = c.args.net.now.raw in
    let s : Store = g.N.Nodes.store c.args.nodes.now in
    let sets : TellSets net c.args.vars c.args.task.now s c.args.r = by_sets net c.args.vars c.args.task.now s c.args.r (g.met.N.Nodes.diagram c.args.nodes.now) q.bound q.vars q.told (equal_from c.args.r.weak.0 0 c.ne.result c.ne.ensures c.if-ne.false) in
    record {
      sets = subst (λ (x : Store). TellSets net c.args.vars c.args.task.now x c.args.r) (sym c.in_ok-least.ensures.store) sets;
      shown = c.in_ok-shown.ensures;
    }
