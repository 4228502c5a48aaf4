-- One turn of a loop that builds, whatever it answers.
use Rattle.std.proofs.Common.{List, Result}
use Rattle.ste_base.specs.Functions.{Function}
use Rattle.dd_nodes.specs.Stores.{Store}
use Rattle.dd_nodes.proofs.Stores.{IsGood}
use Rattle.dd_ops.specs.declared.fault.OpFault.{OpFault}
use Rattle.dual_rail.specs.Rail.{Built}
use Rattle.dual_rail.proofs.Works.{Built-wider, SoFar, Within, last}

pub turned : {A : Type 0} (work part : List Function) (Good : Store → A → Type 0) (s t u : Store) (result : Result A OpFault) → IsGood t → IsGood u → Within part work → SoFar work s t → Built part Good t u result → Built work Good s u result
turned work part Good s t u result gt gu within so b = last work Good s t u result gt gu so (Built-wider work part Good t u result within b)
