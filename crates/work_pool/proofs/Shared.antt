-- The number of taken slots of the table of a pool is one that may be reported.
use Rattle.std.proofs.Common.{◌≡◌, ℕ, ◌*◌, ◌/◌, ◌≤◌, List, length, arith, subst}
use Rattle.ste_base.specs.Functions.{Function}
use Rattle.dd_nodes.specs.Diagram.{IsCofactor}
use Rattle.dd_nodes.specs.Functions.{node_count}
use Rattle.dd_nodes.specs.Stores.{Means, Store}
use Rattle.dd_nodes.specs.declared.node.Ref.{Ref}
use Rattle.dd_table.specs.Sessions.{AreHeld, SessionValue, store_of}
use Rattle.net_core.specs.declared.raw.RawNet.{RawNet}
use Rattle.ste_model.specs.declared.report.Report.{Report}
use Rattle.ste_model.specs.declared.task.Assertion.{Assertion}
use Rattle.ste_model.specs.declared.task.Task.{Task}
use Rattle.ste_model.specs.declared.task.Task.TheVariants.{Ste, Gste}
use Rattle.work_pool.specs.declared.mode.Mode.{Mode}
use Rattle.work_pool.specs.declared.mode.Mode.TheVariants.{Sets, Exact}
use Rattle.work_pool.specs.Pool.{IsAssertionKept, IsPooled, IsTaskKept}
use Rattle.work_pool.specs.Told.{AreKeptFunctions, IsAssertionKeptFunction, IsKeptFunction, IsSharedCount}

-- the cofactors of a kept function of an assertion that is kept have references
assertion_held : (mode : Mode) (net : RawNet) (vars : ℕ) (task : Assertion) (t : Store) (g f : Function) → IsAssertionKept mode net vars task t → IsAssertionKeptFunction mode net vars t.vars task g → IsCofactor t.vars g f → (r : Ref) × Means t f r
assertion_held Sets net vars task t g f kept (table, whole, has) is = kept table whole f (g, has, is)
assertion_held Exact net vars task t g f kept (bit, exact, has) is = kept bit exact f (g, has, is)

-- the cofactors of a kept function of a task that is kept have references
cofactor_held : (mode : Mode) (net : RawNet) (vars : ℕ) (task : Task) (t : Store) (g f : Function) → IsTaskKept mode net vars task t → IsKeptFunction mode net vars t.vars task g → IsCofactor t.vars g f → (r : Ref) × Means t f r
cofactor_held mode net vars (Ste task) t g f kept function is = assertion_held mode net vars task t g f kept function is
cofactor_held mode net vars (Gste graph) t g f kept (tables, sets, whole, has) is = kept tables sets whole f (g, has, is)

kept_held : (mode : Mode) (net : RawNet) (vars steps cubes : ℕ) (tasks : List Task) (reports : List Report) (t : Store) (fs : List Function) → IsPooled mode net vars steps cubes tasks reports t → AreKeptFunctions mode net vars t.vars tasks reports fs → AreHeld t fs
kept_held mode net vars steps cubes tasks reports t fs pooled kept = λ f is.
    let (g, has, cofactor) = is in
    let (i, task, report, at, told, other, function) = kept g has in
    cofactor_held mode net vars task t g f (pooled.kept i task report at told other) function cofactor

-- what closing a table over so many variables says of the session in which a pool's are united
pub shared_of : (mode : Mode) (net : RawNet) (vars over steps cubes : ℕ) (tasks : List Task) (reports : List Report) (k : SessionValue) (count : ℕ) → IsPooled mode net vars steps cubes tasks reports (store_of k) → k.vars ≡ over → k.slots ≡ 2 * (length tasks * steps) →
    count ≤ k.slots / 2 → length k.made ≤ count → ((fs : List Function) → AreHeld (store_of k) fs → node_count k.vars fs ≤ count) → IsSharedCount mode net vars over steps tasks reports count
shared_of mode net vars over steps cubes tasks reports k count pooled same slots half used nodes =
    subst (λ (v : ℕ). IsSharedCount mode net vars v steps tasks reports count) same (record {
      most = let le : count ≤ (2 * (length tasks * steps)) / 2 = subst (λ (n : ℕ). count ≤ n / 2) slots half in below (length tasks * steps) le;
      spent = let le = pooled.used in omega (arith, le, used);
      kept = λ fs kept. nodes fs (kept_held mode net vars steps cubes tasks reports (store_of k) fs pooled kept);
    })
  where
    below : (n : ℕ) → count ≤ (2 * n) / 2 → count ≤ n
    below n le = omega (arith, le)
