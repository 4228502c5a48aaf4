use Rattle.std.proofs.Common.{◌<◌, List, refl, sym, subst, ℕ, length, get_or}
use Rattle.hierarchy.proofs.Refused.{uses_low}
use Rattle.instances.proofs.Bridge.{rows_of}
use Rattle.instances.proofs.table.instance_rows.Goals as goal

pub rows_on-requires-clause-in_range : goal.rows_on-requires-clause-in_range
rows_on-requires-clause-in_range c =
    subst (λ (graph : List (List ℕ)). (k : ℕ) (d : List ℕ) → k < length graph → (j e : ℕ) → j < length (get_or graph k d) → get_or (get_or graph k d) j e < length graph)
    (sym c.requires.graph) (uses_low c.args.models.now)

pub returns : goal.returns
returns c = rows_of c.args.models.now c.requires.some c.requires.known c.args.graph.now c.in_ok-rows.rows.items 65 refl c.requires.graph c.in_ok-rows.ensures
