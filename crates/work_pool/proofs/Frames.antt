-- The last frame of a worker, from task to task.
use Rattle.std.proofs.Common.{Option, None, Some}
use Rattle.std.specs.Prelude.{IfSome}
use Rattle.dd_nodes.specs.Stores.{Keeps, Store}
use Rattle.dd_nodes.proofs.Stores.{IsGood}
use Rattle.net_core.specs.declared.raw.RawNet.{RawNet}
use Rattle.net_core.specs.Flat.{IsInRange}
use Rattle.sym_step.specs.declared.frame.Frame.{Frame}
use Rattle.sym_step.specs.Frame.{IsFrame}
use Rattle.sym_step.proofs.Framing.{frame_keeps}

-- it stays one in a store that holds what this one holds
pub last_keeps : (s t : Store) (net : RawNet) (last : Option Frame) → IsInRange net → IsGood s → IsGood t → Keeps s t → IfSome last (IsFrame s net) → IfSome last (IsFrame t net)
last_keeps s t net None range ds dt k f = f
last_keeps s t net (Some frame) range ds dt k f = frame_keeps s t net frame range ds dt k f
