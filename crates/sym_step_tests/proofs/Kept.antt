-- Cuts in a store that has grown.
use Rattle.std.proofs.Common.{List, All}
use Rattle.dd_nodes.specs.Stores.{Store, Keeps}
use Rattle.dd_nodes.proofs.Walks.{IsFrom-grows}
use Rattle.net_core.specs.declared.raw.RawNet.{RawNet}
use Rattle.sym_step.specs.declared.cut.Cut.{Cut}
use Rattle.sym_step.specs.Step.{IsCutOf}

pub cuts_keep : (s t : Store) (net : RawNet) (cuts : List Cut) → Keeps s t → All (IsCutOf s net) cuts → All (IsCutOf t net) cuts
cuts_keep s t net cuts k h i d l =
    let c = h i d l in
    record { node = c.node; guard = IsFrom-grows s.held t.held 0 _ k.grows c.guard; value = IsFrom-grows s.held t.held 0 _ k.grows c.value }
