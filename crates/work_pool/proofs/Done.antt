-- What the engines say of a task makes a done job, and what is kept stays where stores grow.
use Rattle.std.proofs.Common.{◌≡◌, ◌<◌, ℕ, ◌+◌, ◌≤◌, [], length, Result, Ok, Err, ⊎_elim, inl, inr, sym, ◌∙◌, ap, subst, arith, refl}
use Rattle.std.specs.Prelude.{◌≢◌, ◌⊎◌, IfOk}
use Rattle.std.specs.declared.alloc.AllocError.{AllocError}
use Rattle.dd_nodes.specs.Functions.{IsCofactorOf}
use Rattle.dd_nodes.specs.Stores.{Store, Keeps}
use Rattle.dd_nodes.proofs.Stores.{IsGood, Means-keeps}
use Rattle.net_core.specs.declared.raw.RawNet.{RawNet}
use Rattle.net_core.specs.Run.{IsSettled}
use Rattle.ste_model.specs.declared.report.Report.{Report}
use Rattle.ste_model.specs.declared.task.Assertion.{Assertion}
use Rattle.ste_model.specs.declared.task.Graph.{Graph}
use Rattle.ste_model.specs.declared.task.Task.{Task}
use Rattle.ste_model.specs.declared.task.Task.TheVariants.{Ste, Gste}
use Rattle.ste_model.specs.declared.verdict.Verdict.{Verdict}
use Rattle.ste_model.specs.declared.verdict.Verdict.TheVariants.{Pass, Weak, Strong, Vacuous, Budget}
use Rattle.ste_model.specs.GraphNeed.{AreWholeRounds, GraphReadsBelow, IsGraphNeed, graph_kept_functions}
use Rattle.ste_model.specs.GraphReport.{IsGraphReportOf}
use Rattle.ste_model.specs.GraphTable.{enough}
use Rattle.ste_model.specs.Need.{IsNeed, IsWholeTable, kept_functions}
use Rattle.ste_model.specs.Report.{IsReportOf, budget_report}
use Rattle.exact_model.specs.Choices.{choices}
use Rattle.exact_model.specs.ExactNeed.{IsExactNeed, exact_kept}
use Rattle.exact_model.specs.ExactReport.{IsExactReportOf}
use Rattle.exact_model.specs.Wider.{bits_over_more}
use Rattle.exact_model.specs.WiderGraphs.{with_first_bits}
use Rattle.exact_engine.specs.Check.{IsExactBudget, IsExactlyKept}
use Rattle.ste_engine.specs.Engine.{IsBudget, IsKept}
use Rattle.gste_engine.specs.Engine.{IsGraphBudget, IsGraphKept}
use Rattle.exact_model.proofs.GraphFirst.{wider_graphs}
use Rattle.work_pool.specs.declared.mode.Mode.{Mode}
use Rattle.work_pool.specs.declared.mode.Mode.TheVariants.{Sets, Exact}
use Rattle.work_pool.specs.Pool.{IsAssertionKept, IsTaskKept}
use Rattle.work_pool.specs.private.Jobs.{IsDone, IsReady}

-- a verdict is budget or not
pub budget_or_not : (verdict : Verdict) → (verdict ≡ Budget) ⊎ (verdict ≢ Budget)
budget_or_not Pass = inr (λ (f : Pass ≡ Budget). cc f)
budget_or_not Weak = inr (λ (f : Weak ≡ Budget). cc f)
budget_or_not Strong = inr (λ (f : Strong ≡ Budget). cc f)
budget_or_not Vacuous = inr (λ (f : Vacuous ≡ Budget). cc f)
budget_or_not Budget = inl refl

-- what is kept of an assertion stays where a store grows
assertion_kept_on : (mode : Mode) (net : RawNet) (vars : ℕ) (task : Assertion) (s t : Store) → IsGood s → IsGood t → Keeps s t → IsAssertionKept mode net vars task s → IsAssertionKept mode net vars task t
assertion_kept_on Sets net vars task s t ds dt k kept = λ table whole f is.
    let one = kept table (subst (λ v. IsWholeTable net v task table) k.vars whole) f (subst (λ v. IsCofactorOf v (kept_functions net task table) f) k.vars is) in
    (one.0, Means-keeps s t f one.0 ds dt k one.1)
assertion_kept_on Exact net vars task s t ds dt k kept = λ bit exact f is.
    let one = kept bit exact f (subst (λ v. IsCofactorOf v (exact_kept net vars task (bits_over_more (vars + length (choices net task)) bit)) f) k.vars is) in
    (one.0, Means-keeps s t f one.0 ds dt k one.1)

-- what is kept stays where a store grows
pub kept_on : (mode : Mode) (net : RawNet) (vars : ℕ) (task : Task) (s t : Store) → IsGood s → IsGood t → Keeps s t → IsTaskKept mode net vars task s → IsTaskKept mode net vars task t
kept_on mode net vars (Ste task) s t ds dt k kept = assertion_kept_on mode net vars task s t ds dt k kept
kept_on mode net vars (Gste graph) s t ds dt k kept = λ tables sets whole f is.
    let one = kept tables sets (subst (λ v. AreWholeRounds net v graph tables sets) k.vars whole) f
    (subst (λ v. IsCofactorOf v (graph_kept_functions net v graph (tables (enough net graph)) (sets (enough net graph))) f) k.vars is) in
    (one.0, Means-keeps s t f one.0 ds dt k one.1)

-- a job without a report
pub refused : (mode : Mode) (net : RawNet) (vars steps cubes : ℕ) (task : Task) (s t : Store) (fault : AllocError) → steps ≡ s.limit → Keeps s t → t.limit ≡ s.limit → IsDone mode net vars steps cubes task s t (Err fault)
refused mode net vars steps cubes task s t fault limit keeps stays = record {
  limit = stays ∙ sym limit;
  vars = keeps.vars;
  table = keeps.table;
  told = tt;
  full = tt;
  kept = tt;
}

-- what the engine says of an assertion, over a store that made nothing
pub assertion_done : (net : RawNet) (vars steps cubes : ℕ) (task : Assertion) (s t : Store) (outcome : Result Report AllocError) → s.made ≡ [] → steps ≡ s.limit → Keeps s t → t.limit ≡ s.limit → s.vars ≡ vars
    → IfOk outcome (λ report. report.verdict ≢ Budget → IsReportOf net s.vars cubes task report)
    → IfOk outcome (λ report. report.verdict ≡ Budget → (report ≡ budget_report task.name) × IsBudget net task s t)
    → IfOk outcome (λ report. report.verdict ≢ Budget → IsKept net task t)
    → IsDone Sets net vars steps cubes (Ste task) s t outcome
assertion_done net vars steps cubes task s t (Err fault) made limit keeps stays width told short kept = refused Sets net vars steps cubes (Ste task) s t fault limit keeps stays
assertion_done net vars steps cubes task s t (Ok report) made limit keeps stays width told short kept = record {
  limit = stays ∙ sym limit;
  vars = keeps.vars;
  table = keeps.table;
  told = ⊎_elim (λ (is : report.verdict ≡ Budget). let answer = short is in inr (answer.0, few answer.1)) (λ (other : report.verdict ≢ Budget). inl (subst (λ v. IsReportOf net v cubes task report) width (told other))) (budget_or_not report.verdict);
  full = λ is. (short is).1.spent ∙ stays ∙ sym limit;
  kept = kept;
}
  where
    few : IsBudget net task s t → (need : ℕ) → IsNeed net vars task need → steps < need
    few budget need is =
        let less = budget.few need (subst (λ v. IsNeed net v task need) (sym width) is) in
        let none = ap length made in omega arith

-- the same of an assertion that is checked on runs
pub exact_done : (net : RawNet) (vars steps cubes : ℕ) (task : Assertion) (s t : Store) (outcome : Result Report AllocError) → s.made ≡ [] → steps ≡ s.limit → Keeps s t → t.limit ≡ s.limit
    → IfOk outcome (λ report. report.verdict ≢ Budget → IsExactReportOf net vars cubes task report)
    → IfOk outcome (λ report. report.verdict ≡ Budget → (report ≡ budget_report task.name) × IsExactBudget net vars task s t)
    → IfOk outcome (λ report. report.verdict ≢ Budget → IsExactlyKept net vars task t)
    → IsDone Exact net vars steps cubes (Ste task) s t outcome
exact_done net vars steps cubes task s t (Err fault) made limit keeps stays told short kept = refused Exact net vars steps cubes (Ste task) s t fault limit keeps stays
exact_done net vars steps cubes task s t (Ok report) made limit keeps stays told short kept = record {
  limit = stays ∙ sym limit;
  vars = keeps.vars;
  table = keeps.table;
  told = ⊎_elim (λ (is : report.verdict ≡ Budget). let answer = short is in inr (answer.0, few answer.1)) (λ (other : report.verdict ≢ Budget). inl (told other)) (budget_or_not report.verdict);
  full = λ is. (short is).1.spent ∙ stays ∙ sym limit;
  kept = kept;
}
  where
    few : IsExactBudget net vars task s t → (need : ℕ) → IsExactNeed net vars task need → steps < need
    few budget need is = let less = budget.few need is in let none = ap length made in omega arith

-- what the engine says of a graph, over a store that made nothing and has the variables of the
-- tasks, or more
pub graph_done : (mode : Mode) (net : RawNet) (vars steps cubes : ℕ) (graph : Graph) (s t : Store) (report : Report) → s.made ≡ [] → steps ≡ s.limit → Keeps s t → t.limit ≡ s.limit
    → vars ≤ s.vars → IsSettled net → GraphReadsBelow vars graph
    → (report.verdict ≢ Budget → IsGraphReportOf net s.vars cubes graph report)
    → (report.verdict ≡ Budget → (report ≡ budget_report graph.name) × IsGraphBudget net graph s t)
    → (report.verdict ≢ Budget → IsGraphKept net graph t)
    → IsDone mode net vars steps cubes (Gste graph) s t (Ok (with_first_bits vars report))
graph_done mode net vars steps cubes graph s t report made limit keeps stays wide settled reads told short kept = record {
  limit = stays ∙ sym limit;
  vars = keeps.vars;
  table = keeps.table;
  told = ⊎_elim (λ (is : report.verdict ≡ Budget). let answer = short is in inr (ap (with_first_bits vars) answer.0, few answer.1))
      (λ (other : report.verdict ≢ Budget). inl (wider_graphs.report net vars s.vars cubes graph report wide reads (told other))) (budget_or_not report.verdict);
  full = λ is. (short is).1.spent ∙ stays ∙ sym limit;
  kept = kept;
}
  where
    few : IsGraphBudget net graph s t → (need : ℕ) → IsGraphNeed net vars graph need → steps < need
    few budget need is =
        let less = budget.few need (wider_graphs.need net vars s.vars graph need settled wide reads is) in
        let none = ap length made in omega arith

-- a job that was ready and is done, seen from the store that its own was cut from
pub done_of : (mode : Mode) (net : RawNet) (vars steps cubes : ℕ) (task : Task) (start s t : Store) (outcome : Result Report AllocError) → IsReady steps start s → IsDone mode net vars s.limit cubes task s t outcome → IsDone mode net vars steps cubes task start t outcome
done_of mode net vars steps cubes task start s t outcome ready work =
    let done = subst (λ n. IsDone mode net vars n cubes task s t outcome) ready.limit work in
    record {
      limit = done.limit;
      vars = done.vars ∙ ready.vars;
      table = done.table ∙ ready.table;
      told = done.told;
      full = done.full;
      kept = done.kept;
    }
