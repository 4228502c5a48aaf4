-- What a task file's text spells, and its one fault.
use Rattle.std.proofs.Common.{◌≡◌, ℕ, List, [], map, Option, None, Some, Ok, Err, refl, ap, sym, ◌∙◌, subst}
use Rattle.std.specs.Prelude.{◌≢◌}
use Rattle.blif_lines.specs.declared.lines.Line.{Line}
use Rattle.blif_lines.specs.Lines.{lines_of}
use Rattle.assert_syntax.specs.Forms.{Entry}
use Rattle.assert_syntax.specs.Answer.{IsTasksAnswer, task_entries_of}
use Rattle.assert_syntax.specs.Parses.{IsParse, Parse}
use Rattle.assert_syntax.specs.Places.{first_task_fault}
use Rattle.assert_syntax.specs.Spelled.{raw_task_tree}
use Rattle.assert_syntax.specs.declared.fault.TaskFault.{TaskFault}
use Rattle.assert_syntax.specs.declared.fault.TaskFault.TheVariants.{BadLine, TooDeep, DoubleName, UnknownVar, TooMany, NoTask, OutOfMemory}
use Rattle.assert_syntax.specs.declared.form.LineFault.{LineFault}
use Rattle.assert_syntax.specs.declared.form.LineFault.TheVariants.{Bad, Deep, Double, Unknown, Many}
use Rattle.assert_syntax.specs.declared.tasks.RawTasks.{RawTasks}
use Rattle.assert_syntax.proofs.Whole.{a_parse}
use Rattle.ste_program.specs.TaskFile.{AreTasks, IsTasksFault, task_lines}

-- what the reader of task files gives, of the lines of a text
pub tasks_read : (text : List ℕ) (lines : List Line) (raw : RawTasks) → lines ≡ lines_of text → ((parse : Parse) → IsParse parse → IsTasksAnswer parse (task_entries_of lines) (Ok raw)) → AreTasks text raw
tasks_read text lines raw same h = λ parse is. subst (λ (ls : List Line). IsTasksAnswer parse (task_entries_of ls) (Ok raw)) same (h parse is)

-- the fault of a line, by what is wrong with it
abbrev fault_of : ℕ → LineFault → TaskFault
fault_of line Bad = BadLine line
fault_of line Deep = TooDeep line
fault_of line (Double name) = DoubleName line name
fault_of line (Unknown name) = UnknownVar line name
fault_of line Many = TooMany line

-- the fault by number and kind of the first faulty line, or that there is no task
abbrev fault_at : Option (ℕ × LineFault) → TaskFault
fault_at None = NoTask
fault_at (Some (line, kind)) = fault_of line kind

only_fault : (parse : Parse) (lines : List Entry) (found : TaskFault) → found ≢ OutOfMemory → IsTasksAnswer parse lines (Err found) → found ≡ fault_at (first_task_fault parse [] lines)
only_fault parse lines (BadLine line) stated h = sym (ap fault_at h)
only_fault parse lines (TooDeep line) stated h = sym (ap fault_at h)
only_fault parse lines (DoubleName line name) stated h = sym (ap fault_at h)
only_fault parse lines (UnknownVar line name) stated h = sym (ap fault_at h)
only_fault parse lines (TooMany line) stated h = sym (ap fault_at h)
only_fault parse lines NoTask stated h = sym (ap fault_at h.0)
only_fault parse lines OutOfMemory stated h = absurd (stated refl)

-- a text has one fault at most
pub one_fault : (text : List ℕ) (one other : TaskFault) → IsTasksFault text one → IsTasksFault text other → one ≡ other
one_fault text one other f g =
    only_fault a_parse.0 (task_lines text) one f.0 (f.1 a_parse.0 a_parse.1) ∙ sym (only_fault a_parse.0 (task_lines text) other g.0 (g.1 a_parse.0 a_parse.1))

fault_of_lines : (parse : Parse) (lines : List Entry) (raw : RawTasks) (found : TaskFault) → IsTasksAnswer parse lines (Ok raw) → found ≢ OutOfMemory → IsTasksAnswer parse lines (Err found) → ⊥
fault_of_lines parse lines raw (BadLine line) read stated h = let none = read.0 in absurd (cc (none, h))
fault_of_lines parse lines raw (TooDeep line) read stated h = let none = read.0 in absurd (cc (none, h))
fault_of_lines parse lines raw (DoubleName line name) read stated h = let none = read.0 in absurd (cc (none, h))
fault_of_lines parse lines raw (UnknownVar line name) read stated h = let none = read.0 in absurd (cc (none, h))
fault_of_lines parse lines raw (TooMany line) read stated h = let none = read.0 in absurd (cc (none, h))
fault_of_lines parse lines raw NoTask read stated h = read.3 h.1
fault_of_lines parse lines raw OutOfMemory read stated h = stated refl

-- a text that spells tasks has no fault
pub no_fault : (text : List ℕ) (raw : RawTasks) (found : TaskFault) → AreTasks text raw → ¬ IsTasksFault text found
no_fault text raw found read faulty = fault_of_lines a_parse.0 (task_lines text) raw found (read a_parse.0 a_parse.1) faulty.0 (faulty.1 a_parse.0 a_parse.1)

-- a text spells the same variables, and tasks with the same trees
pub same_tasks : (text : List ℕ) (one other : RawTasks) → AreTasks text one → AreTasks text other → (one.vars ≡ other.vars) × (map raw_task_tree one.tasks ≡ map raw_task_tree other.tasks)
same_tasks text one other f g =
    let a = f a_parse.0 a_parse.1 in
    let b = g a_parse.0 a_parse.1 in
    (a.1 ∙ sym b.1, a.2 ∙ sym b.2)
