-- Meaning. The size of tasks with nodes by name, and the first task that is too large.
use Rattle.std.specs.Prelude.{◌≡◌, ◌<◌, ◌≤◌, ℕ, suc, ◌+◌, ◌*◌, List, length, take, map, fold, max, sum_by, Some, slice_get}
use Rattle.assert_syntax.specs.declared.tasks.RawQuint.{RawQuint}
use Rattle.assert_syntax.specs.declared.tasks.RawTask.{RawTask}
use Rattle.assert_syntax.specs.declared.tasks.RawTask.TheVariants.{Ste, Gste}

-- the greatest `to`, or 0
abbrev pub raw_latest : List RawQuint → ℕ
raw_latest quints = fold max 0 (map (λ quint. quint.to) quints)

-- the cells of a task over so many nets: one for each net and each time below the depth, which is
-- the greatest `to`; or for each net and each vertex and edge
abbrev pub cells : ℕ → RawTask → ℕ
cells nets (Ste line name reset ant con weak) = nets * max (raw_latest ant) (raw_latest con)
cells nets (Gste line name reset vertices edges) = nets * (length vertices + length edges)

-- the number of a task's first line
abbrev pub head_line : RawTask → ℕ
head_line (Ste line name reset ant con weak) = line
head_line (Gste line name reset vertices edges) = line

-- the cells of all tasks together may be no more than this
abbrev pub most_cells : ℕ
most_cells = 100000000

-- The first task that is too large begins on this line: with it the tasks up to here have too many
-- cells, and without it they have not.
pub record IsFirstLarge (nets : ℕ) (tasks : List RawTask) (line : ℕ) : Type 0 where
  pub place : ℕ
  pub task : RawTask
  pub here : slice_get tasks place ≡ Some task
  pub headed : head_line task ≡ line
  pub large : most_cells < sum_by (cells nets) (take (suc place) tasks)
  pub before : sum_by (cells nets) (take place tasks) ≤ most_cells

-- no task is too large
abbrev pub AllFit : ℕ → List RawTask → Type 0
AllFit nets tasks = sum_by (cells nets) tasks ≤ most_cells
