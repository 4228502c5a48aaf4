-- Meaning. What a task file's lines are answered with.
use Rattle.std.specs.Prelude.{◌≡◌, ◌≢◌, [], List, map, Some, None, Result, Ok, Err}
use Rattle.blif_lines.specs.declared.lines.Line.{Line}
use Rattle.assert_syntax.specs.declared.fault.TaskFault.{TaskFault}
use Rattle.assert_syntax.specs.declared.fault.TaskFault.TheVariants.{BadLine, TooDeep, DoubleName, UnknownVar, TooMany, NoTask, OutOfMemory}
use Rattle.assert_syntax.specs.declared.form.LineFault.TheVariants.{Bad, Deep, Double, Unknown, Many}
use Rattle.assert_syntax.specs.declared.tasks.RawTasks.{RawTasks}
use Rattle.assert_syntax.specs.Forms.{Entry, task_form_of}
use Rattle.assert_syntax.specs.Parses.{Parse}
use Rattle.assert_syntax.specs.Places.{first_task_fault}
use Rattle.assert_syntax.specs.Spelled.{raw_task_tree, tasks_of, vars_with}

-- a line with its form
abbrev pub task_entry_of : Line → Entry
task_entry_of line = record { line = line.number; form = task_form_of line.words }

-- lines with their forms
abbrev pub task_entries_of : List Line → List Entry
task_entries_of lines = map task_entry_of lines

-- The answer on these lines: the variables and the tasks that they spell, or the fault of the first
-- faulty line, or that there is no task, or out of memory.
abbrev pub IsTasksAnswer : Parse → List Entry → Result RawTasks TaskFault → Type 0
IsTasksAnswer parse lines (Ok raw) =
    (first_task_fault parse [] lines ≡ None) × (raw.vars ≡ vars_with [] lines)
    × (map raw_task_tree raw.tasks ≡ tasks_of parse [] lines)
    × (tasks_of parse [] lines ≢ [])
IsTasksAnswer parse lines (Err (BadLine line)) = first_task_fault parse [] lines ≡ Some (line, Bad)
IsTasksAnswer parse lines (Err (TooDeep line)) = first_task_fault parse [] lines ≡ Some (line, Deep)
IsTasksAnswer parse lines (Err (DoubleName line name)) =
    first_task_fault parse [] lines ≡ Some (line, Double name)
IsTasksAnswer parse lines (Err (UnknownVar line name)) =
    first_task_fault parse [] lines ≡ Some (line, Unknown name)
IsTasksAnswer parse lines (Err (TooMany line)) = first_task_fault parse [] lines ≡ Some (line, Many)
IsTasksAnswer parse lines (Err NoTask) = (first_task_fault parse [] lines ≡ None)
    × (tasks_of parse [] lines ≡ [])
IsTasksAnswer parse lines (Err OutOfMemory) = Unit {0}
