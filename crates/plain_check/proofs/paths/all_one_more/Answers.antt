use Rattle.std.proofs.Common.{◌≡◌, ◌+◌, ◌++◌, ◌∷◌, [], ℕ, length, length-append, arith, sym, ap, subst, ◌∙◌}
use Rattle.plain_check.specs.private.Hops.{AreBest, IsBest}
use Rattle.plain_check.proofs.Levels.{one_more_best}
use Rattle.plain_check.proofs.paths.all_one_more.Goals as goal

pub loop-vertex-preserved : goal.loop-vertex-preserved
loop-vertex-preserved c =
    let more = c.loop-vertex.more.items in
    let route = c.in_ok-one_hop_more.field-0 in
    let pushed : c.push.new.self.items ≡ more ++ route ∷ [] = c.in_ok-push.ensures.items in
    record {
      long = ap length pushed ∙ (let longer = length-append more (route ∷ []) in omega (arith, longer, c.loop-vertex.invariant.long));
      best = λ how n some are.
          subst (AreBest how c.args.hops.now (n + 1)) (sym pushed)
          (one_more_best how c.args.hops.now (n + 1) more route (c.loop-vertex.invariant.best how n some are)
          (subst (λ (v : ℕ). IsBest how c.args.hops.now (n + 1) v route) (sym c.loop-vertex.invariant.long) (c.in_ok-one_hop_more.ensures how n some are)));
    }
