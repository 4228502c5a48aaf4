-- For private functions. The run that is printed for a strong assignment.
use Rattle.std.specs.Prelude.{◌≡◌, ◌⊎◌, ℕ, Bool, List, Option, None, Some}
use Rattle.net_core.specs.declared.raw.RawNet.{RawNet}
use Rattle.ste_model.specs.declared.run.Run.{Run}
use Rattle.ste_model.specs.declared.task.Graph.{Graph}
use Rattle.ste_model.specs.declared.task.Task.TheVariants.{Gste}
use Rattle.ste_model.specs.GraphReport.{IsPrintedOnPath}
use Rattle.ste_model.specs.Shown.{IsBindable}

-- the printed run along the path with these numbers, where the antecedents are bindable
abbrev pub IsGraphRunDue : RawNet → Graph → List Bool → List ℕ → Option Run → Type 0
IsGraphRunDue net graph bits numbers run =
    (IsBindable net (Gste graph) × IsPrintedOnPath net graph (Some bits) numbers run)
    ⊎ ((¬ IsBindable net (Gste graph)) × (run ≡ None))
