-- Law, and its words. Checks of texts that say the parts of another text's tasks, one behind the
-- other, are a check of that text. Source: this project's own choice.
use Rattle.std.specs.Prelude.{◌≡◌, ◌++◌, ◌&&◌, ℕ, Bool, false, List, Some, length, map}
use Rattle.blif_syntax.specs.declared.models.Model.{Model}
use Rattle.net_core.specs.declared.raw.RawNet.{RawNet}
use Rattle.ste_model.specs.declared.task.Tasks.{Tasks}
use Rattle.ste_model.specs.Trees.{task_tree}
use Rattle.ste_program.specs.Check.{IsCheck, are_too_many}
use Rattle.ste_program.specs.Reading.{IsReading}

-- these tasks and behind them others say what a third list says: over the same variables, the same
-- trees in the same order
pub record SayTogether (one other whole : Tasks) : Type 0 where
  pub vars : one.vars ≡ whole.vars
  pub other_vars : other.vars ≡ whole.vars
  pub trees : map task_tree whole.tasks ≡ map task_tree one.tasks ++ map task_tree other.tasks

-- Law: what checks write on two task texts over one netlist text, one behind the other, a check
-- writes on a text that says the tasks of both, where all three have the same steps for each task,
-- which are not too many for the third.
pub record PartsOfTexts : Type 0 where
  pub joined : (net_text one_text other_text whole_text : List ℕ) (steps cubes : ℕ) (wave : Bool)
      (first second : Bool) (front rest : List ℕ)
      (one : IsCheck (Some steps) cubes wave false net_text one_text first front)
      (other : IsCheck (Some steps) cubes wave false net_text other_text second rest)
      (models : List Model) (net : RawNet) (tasks : Tasks)
      (reading : IsReading net_text whole_text models net tasks) →
      SayTogether one.tasks other.tasks tasks →
      are_too_many (Some steps) (length reading.raw.tasks) ≡ false →
      IsCheck (Some steps) cubes wave false net_text whole_text (first && second) (front ++ rest)
