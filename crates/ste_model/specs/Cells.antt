-- Meaning. The size of tasks over a net. That an assertion counts by its depth, and a graph by its
-- vertices and edges, is this project's own choice.
use Rattle.std.specs.Prelude.{ℕ, ◌+◌, ◌*◌, length, sum_by}
use Rattle.ste_model.specs.declared.task.Task.{Task}
use Rattle.ste_model.specs.declared.task.Task.TheVariants.{Ste, Gste}
use Rattle.ste_model.specs.declared.task.Tasks.{Tasks}
use Rattle.ste_model.specs.Asked.{depth}

-- the cells of a task over so many nets: one for each net and each time below the depth, or for
-- each net and each vertex and edge
abbrev pub cells : ℕ → Task → ℕ
cells nets (Ste task) = nets * depth task
cells nets (Gste task) = nets * (length task.vertices + length task.edges)

-- the cells of all tasks together
abbrev pub all_cells : ℕ → Tasks → ℕ
all_cells nets tasks = sum_by (cells nets) tasks.tasks
