-- For private functions. What the passes over instances work on.
use Rattle.std.specs.Prelude.{◌≡◌, ◌≤◌, ℕ, All, List, length, map}
use Rattle.std.specs.List.{AllZip}
use Rattle.net_core.specs.declared.cover.Cover.{Cover}
use Rattle.blif_syntax.specs.declared.models.Model.{Model}
use Rattle.hierarchy.specs.Instances.{instances}
use Rattle.hierarchy.specs.Lines.{signals}
use Rattle.hierarchy.specs.Names.{own_name}
use Rattle.hierarchy.specs.Nets.{nets}
use Rattle.instances.specs.declared.table.Row.{Row}
use Rattle.instances.specs.Numbers.{AreRows, numbers_in}
use Rattle.flat_net.specs.private.Passes.{IsFirstCover, IsNarrow}

-- the signals of each model, the rows of the instances, by row the numbers of signals and of the
-- first cover, the nets' own names, and the covers
pub record ArePartsOf (models : List Model) (names : List (List (List ℕ))) (rows : List Row)
    (numbers : List (List ℕ)) (own : List (List ℕ)) (firsts : List ℕ) (covers : List Cover) :
    Type 0 where
  pub signals_known : names ≡ map signals models
  pub rows_known : AreRows models rows
  pub numbers_known : numbers ≡ map (λ path. numbers_in models path) (instances models)
  pub own_known : own ≡ map own_name (nets models)
  pub firsts_known : AllZip (IsFirstCover models covers) firsts rows
  pub few_nets : length (nets models) ≤ 200000
  pub few_covers : length covers ≤ 4294967295
  pub narrow : All IsNarrow covers
