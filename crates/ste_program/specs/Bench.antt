-- Meaning. What `bench` writes. Source: this project's own choice.
use Rattle.std.specs.Prelude.{◌≡◌, ◌++◌, ℕ, Bool, List, Option, codes}
use Rattle.net_gen.specs.Pipeline.{pipeline_net, pipeline_tasks}
use Rattle.ste_program.specs.Check.{IsCheck}
use Rattle.ste_program.specs.Info.{count_line}

-- What `bench` writes with these steps, so many cubes in a list, all nets in a run or not, and the
-- number of shared nodes or not, and whether the task passes: the report of a check of the texts of
-- a pipeline of so many stages, and a line with the number of its nets.
pub record IsBench (steps : Option ℕ) (cubes : ℕ) (wave nodes : Bool) (stages : ℕ) (passes : Bool)
    (bytes : List ℕ) : Type 0 where
  pub report : List ℕ
  pub check : IsCheck steps cubes wave nodes (pipeline_net stages)
      (pipeline_tasks stages) passes report
  pub written : bytes ≡ report ++ count_line (codes "nets") check.net.nets
