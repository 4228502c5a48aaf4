-- Meaning. What the text of a task file spells, and why it spells nothing. Source: this project's
-- own choice.
use Rattle.std.specs.Prelude.{◌≢◌, ℕ, List, Ok, Err}
use Rattle.blif_lines.specs.Lines.{lines_of}
use Rattle.assert_syntax.specs.Forms.{Entry}
use Rattle.assert_syntax.specs.Answer.{IsTasksAnswer, task_entries_of}
use Rattle.assert_syntax.specs.Parses.{IsParse, Parse}
use Rattle.assert_syntax.specs.declared.fault.TaskFault.{TaskFault}
use Rattle.assert_syntax.specs.declared.fault.TaskFault.TheVariants.{OutOfMemory}
use Rattle.assert_syntax.specs.declared.tasks.RawTasks.{RawTasks}

-- the logical lines of a task file's text, with their forms
abbrev pub task_lines : List ℕ → List Entry
task_lines text = task_entries_of (lines_of text)

-- the text spells these variables and tasks, whose nodes are names: none of its lines is faulty,
-- and there is at least one task
abbrev pub AreTasks : List ℕ → RawTasks → Type 0
AreTasks text raw = (parse : Parse) → IsParse parse → IsTasksAnswer parse (task_lines text) (Ok raw)

-- the text is refused for this fault: that of its first faulty line, or that it has no task
abbrev pub IsTasksFault : List ℕ → TaskFault → Type 0
IsTasksFault text fault = (fault ≢ OutOfMemory) ×
    ((parse : Parse) → IsParse parse → IsTasksAnswer parse (task_lines text) (Err fault))
