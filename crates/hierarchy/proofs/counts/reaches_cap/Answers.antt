use Rattle.std.proofs.Common.{◌<◌, ◌+◌, ◌∙◌, ap, ℕ, List, length, map, min, get_or, sym, subst}
use Rattle.hierarchy.specs.private.Counts.{measure_of, uses_weight, weight_below}
use Rattle.hierarchy.proofs.Measured.{count_is, reaches_is}
use Rattle.hierarchy.proofs.Refused.{uses_low}
use Rattle.hierarchy.proofs.counts.reaches_cap.Goals as goal

pub count_below-requires-clause-in_range : goal.count_below-requires-clause-in_range
count_below-requires-clause-in_range c =
    subst (λ graph. (k : ℕ) (d : List ℕ) → k < length graph → (j e : ℕ) → j < length (get_or graph k d) → get_or (get_or graph k d) j e < length graph)
    (sym c.requires.graph) (uses_low c.args.models.now)

pub returns : goal.returns
returns c =
    reaches_is c.args.cap c.add_capped.result (c.index.result.now + c.in_ok-below.below) (measure_of c.args.measure c.args.models.now) c.add_capped.ensures
    (count_is c.args.measure c.args.cap c.args.models.now c.args.names.now.keys c.args.graph.now c.in_ok-weights.weights.items c.in_ok-own.own.items c.index.result.now c.in_ok-below.below
    c.requires.some c.requires.known c.requires.bound c.requires.names c.requires.graph c.in_ok-weights.ensures
    (c.in_ok-own.ensures ∙ ap (λ weights. map (λ model. min c.args.cap (uses_weight c.args.measure weights c.args.names.now.keys model)) c.args.models.now) c.as_slice.ensures.value)
    c.index.ensures
    (c.in_ok-below.ensures ∙ ap (λ own. min c.args.cap (weight_below c.args.graph.now own 64 0)) c.as_slice-2.ensures.value))
