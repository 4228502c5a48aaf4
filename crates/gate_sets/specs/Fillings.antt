-- A condition between crates. What is known of the sets of a gate's inputs.
use Rattle.std.specs.Prelude.{◌≡◌, ◌≢◌, true, List, All}
use Rattle.ste_base.specs.declared.id.NodeId.{NodeId}
use Rattle.gate_sets.specs.declared.filling.Filling.{Filling}
use Rattle.gate_sets.specs.declared.filling.Filling.TheVariants.{MayBeEmpty, TwoValued}
use Rattle.gate_sets.specs.declared.net_rails.NetRails.{NetRails}
use Rattle.gate_sets.specs.NetSets.{net_at}

-- by their references, each of these nets has some bit everywhere, or is known to have exactly one
pub record AreFilled (filling : Filling) (nets : List NetRails)
    (inputs : List NodeId) : Type 0 where
  pub full : filling ≢ MayBeEmpty →
      All (λ input. (net_at nets input.0).some ≡ record { 0 = 1 }) inputs
  pub known : filling ≡ TwoValued → All (λ input. (net_at nets input.0).known ≡ true) inputs
