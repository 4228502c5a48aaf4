use Rattle.std.proofs.Common.{sym, subst}
use Rattle.dd_nodes.specs.Stores.{Means}
use Rattle.dd_nodes.proofs.Spending.{zero_means}
use Rattle.net_core.specs.declared.cover.Lit.{Lit}
use Rattle.gate_sets.specs.private.Refused.{other_factor}
use Rattle.gate_sets.proofs.net_rails.NetRails.other.Goals as goal

pub returns-in-Any-clause-means : goal.returns-in-Any-clause-means
returns-in-Any-clause-means c = λ s w d m.
    subst (λ (lit : Lit). Means s (other_factor lit w) (record { 0 = 0 })) (sym c.in-Any.is) (zero_means s d)
