-- Meaning, and a law. The reading of two texts: the netlist that the one spells, its flat net, and
-- over this net the tasks that the other spells. Source: this project's own choice.
use Rattle.std.specs.Prelude.{◌≡◌, ℕ, List, length, map, Ok}
use Rattle.blif_syntax.specs.declared.models.Model.{Model}
use Rattle.hierarchy.specs.Names.{net_named}
use Rattle.hierarchy.specs.Nets.{nets}
use Rattle.net_core.specs.declared.raw.RawNet.{RawNet}
use Rattle.assert_syntax.specs.declared.tasks.RawTasks.{RawTasks}
use Rattle.ste_model.specs.declared.task.Tasks.{Tasks}
use Rattle.ste_model.specs.Trees.{task_tree}
use Rattle.task_binding.specs.Answer.{IsBindAnswer}
use Rattle.ste_program.specs.Netlist.{IsFlattened}
use Rattle.ste_program.specs.TaskFile.{AreTasks}

-- The reading of two texts: the models that the one spells, with their flat net; and the tasks that
-- the other spells, over this net: each of their nodes names one of its nets. An expression is
-- known by its tree.
pub record IsReading (net_text task_text : List ℕ) (models : List Model) (net : RawNet)
    (tasks : Tasks) : Type 0 where
  pub flattened : IsFlattened net_text models net
  pub raw : RawTasks
  pub spelled : AreTasks task_text raw
  pub bound : IsBindAnswer (net_named models) (length (nets models)) raw (Ok tasks)

-- Law: two texts have one reading at most: one netlist, the same variables, and tasks that say the
-- same.
abbrev pub OneReading : Type 0
OneReading =
    (net_text task_text : List ℕ) (models others : List Model) (net other : RawNet)
    (tasks others_tasks : Tasks) →
    IsReading net_text task_text models net tasks →
    IsReading net_text task_text others other others_tasks →
    (models ≡ others) × (tasks.vars ≡ others_tasks.vars) ×
    (map task_tree tasks.tasks ≡ map task_tree others_tasks.tasks)
