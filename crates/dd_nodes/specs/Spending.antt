-- Meaning. What calls that build functions may make, and when they may run out of steps.
use Rattle.std.specs.Prelude.{◌≡◌, ℕ, ◌+◌, ◌<◌, Bool, List, length, Contains}
use Rattle.ste_base.specs.Functions.{Function}
use Rattle.dd_nodes.specs.Stores.{Store, Keeps, Builds, IsSpent}
use Rattle.dd_nodes.specs.Functions.{IsCofactorOf, node_count}

-- one of fs is f, at each assignment of v variables
abbrev pub Has : ℕ → List Function → Function → Type 0
Has v fs f =
    (g : Function) × Contains fs g × ((bits : List Bool) → length bits ≡ v → g bits ≡ f bits)

-- What calls that build the functions fs leave: what was held stays, and the limit too, each made
-- reference has as its function a cofactor of one of fs, and where steps are out all are spent and
-- such a cofactor has no reference.
pub record Spends (fs : List Function) (s t : Store) (out : Type 0) : Type 0 where
  pub keeps : Keeps s t
  pub limit : t.limit ≡ s.limit
  pub builds : Builds (IsCofactorOf s.vars fs) s t
  pub spent : out → IsSpent (IsCofactorOf s.vars fs) t

-- fewer steps were left in s than fs have nodes
abbrev pub IsShort : List Function → Store → Type 0
IsShort fs s = s.limit < length s.made + node_count s.vars fs
