-- For private functions. The bits of all times, and the sums so far.
use Rattle.std.specs.Prelude.{◌<◌, ◌+◌, ◌*◌, ℕ, suc, List}
use Rattle.ste_base.specs.Functions.{Function}
use Rattle.dd_nodes.specs.Stores.{Means, Store}
use Rattle.net_core.specs.declared.raw.RawNet.{RawNet}
use Rattle.net_core.specs.Work.{sum}
use Rattle.ste_model.specs.declared.task.Assertion.{Assertion}
use Rattle.ste_model.specs.declared.task.Quint.{Quint}
use Rattle.ste_model.specs.Asked.{depth}
use Rattle.ste_model.specs.Work.{over_times, symbolic_cuts_at}
use Rattle.exact_engine.specs.declared.results.Broken.{Broken}
use Rattle.exact_engine.specs.private.TimedCuts.{broken_at}
use Rattle.exact_engine.specs.private.Bits.{FollowGates}
use Rattle.exact_engine.specs.private.Counts.{first_count, open_count}
use Rattle.exact_engine.specs.private.Sources.{IsFirstTime, IsNextTime}

-- the variable of the first choice at a time
abbrev pub choice_at : RawNet → ℕ → Assertion → ℕ → ℕ
choice_at net vars task t = vars + first_count net task.reset + t * open_count net

-- The bits of each time below the depth: they follow the gates; at time 0 they begin with the first
-- values; and later latch outputs have what the latch inputs had. Choices are variables, in order.
pub record AreTimes (total : ℕ) (net : RawNet) (vars : ℕ) (task : Assertion)
    (bit : ℕ → ℕ → Function) : Type 0 where
  pub gates : (t : ℕ) → t < depth task → FollowGates total net (bit t)
  pub first : 0 < depth task →
      IsFirstTime total net task.reset vars (vars + first_count net task.reset) (bit 0)
  pub next : (t : ℕ) → suc t < depth task →
      IsNextTime total net (choice_at net vars task (suc t)) (bit t) (bit (suc t))

-- where quintuples are broken at the first n times
abbrev pub broken_before : List Quint → (ℕ → ℕ → Function) → ℕ → Function
broken_before quints bit n = sum (over_times (λ t. broken_at (bit t) (symbolic_cuts_at quints t)) n)

-- the references have the sums of the first n times
pub record AreSums (s : Store) (task : Assertion) (bit : ℕ → ℕ → Function) (n : ℕ)
    (b : Broken) : Type 0 where
  pub ant : Means s (broken_before task.ant bit n) b.ant
  pub con : Means s (broken_before task.con bit n) b.con
