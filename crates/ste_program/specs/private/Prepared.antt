-- For private functions. What a check has once its texts are read.
use Rattle.std.specs.Prelude.{◌≡◌, ℕ, Bool, false, List, length, map, Option}
use Rattle.blif_syntax.specs.declared.models.Model.{Model}
use Rattle.hierarchy.specs.Names.{own_name}
use Rattle.hierarchy.specs.Nets.{nets}
use Rattle.net_core.specs.declared.raw.RawNet.{RawNet}
use Rattle.ste_model.specs.declared.task.Tasks.{Tasks}
use Rattle.ste_program.specs.Check.{IsCheck, are_too_many}
use Rattle.ste_program.specs.Reading.{IsReading}

-- all is read that a check needs, the nets have these own names, and the steps are not too many
pub record IsPrepared (steps : Option ℕ) (net_text task_text : List ℕ) (names : List (List ℕ))
    (net : RawNet) (tasks : Tasks) : Type 0 where
  pub models : List Model
  pub named : names ≡ map own_name (nets models)
  pub reading : IsReading net_text task_text models net tasks
  pub few : are_too_many steps (length reading.raw.tasks) ≡ false

-- what a check writes, over so many nets
abbrev pub IsCheckOver : Option ℕ → ℕ → Bool → Bool → List ℕ → List ℕ → Bool → List ℕ → ℕ → Type 0
IsCheckOver steps cubes wave nodes net_text task_text passes bytes nets =
    (check : IsCheck steps cubes wave nodes net_text task_text passes bytes) ×
    (nets ≡ check.net.nets)
