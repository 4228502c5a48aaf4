-- Two checks of the same tasks agree on each task.
use Rattle.std.proofs.Common.{◌≡◌, ℕ, List, [], ◌∷◌, ap, inl, inr, refl}
use Rattle.std.specs.List.{AllZip}
use Rattle.net_core.specs.declared.raw.RawNet.{RawNet}
use Rattle.net_core.specs.Flat.{HasOneDriver, IsInRange}
use Rattle.net_core.specs.Run.{IsSettled}
use Rattle.ste_model.specs.declared.report.Report.{Report}
use Rattle.ste_model.specs.declared.task.Assertion.{Assertion}
use Rattle.ste_model.specs.declared.task.Task.{Task}
use Rattle.ste_model.specs.declared.task.Task.TheVariants.{Ste, Gste}
use Rattle.ste_model.proofs.GraphReports.{one_graph_report_of}
use Rattle.ste_model.proofs.Reports.{one_report_of}
use Rattle.exact_model.proofs.ExactReports.{one_exact_report_of}
use Rattle.work_pool.specs.declared.mode.Mode.{Mode}
use Rattle.work_pool.specs.declared.mode.Mode.TheVariants.{Sets, Exact}
use Rattle.work_pool.specs.Pool.{PoolsAgree}
use Rattle.work_pool.specs.Told.{Agree, IsAssertionReport, IsToldOf}

module _ (net : RawNet) (range : IsInRange net) (settled : IsSettled net) (vars steps others cubes : ℕ) where
  one_report : (mode : Mode) → (mode ≡ Exact → HasOneDriver net) → (task : Assertion) (one other : Report) → IsAssertionReport mode net vars cubes task one → IsAssertionReport mode net vars cubes task other → one ≡ other
  one_report Sets driver task one other f g = one_report_of net range settled vars cubes task one other f g
  one_report Exact driver task one other f g = one_exact_report_of net range (driver refl) settled vars cubes task one other f g

  module _ (mode : Mode) (driver : mode ≡ Exact → HasOneDriver net) where
    told_agree : (task : Task) (one other : Report) → IsToldOf mode net vars steps cubes task one → IsToldOf mode net vars others cubes task other → Agree one other
    told_agree (Ste task) one other (inr f) g = inr (inl (ap (λ (r : Report). r.verdict) f.0))
    told_agree (Ste task) one other (inl f) (inr g) = inr (inr (ap (λ (r : Report). r.verdict) g.0))
    told_agree (Ste task) one other (inl f) (inl g) = inl (one_report mode driver task one other f g)
    told_agree (Gste graph) one other (inr f) g = inr (inl (ap (λ (r : Report). r.verdict) f.0))
    told_agree (Gste graph) one other (inl f) (inr g) = inr (inr (ap (λ (r : Report). r.verdict) g.0))
    told_agree (Gste graph) one other (inl f) (inl g) = inl (one_graph_report_of net range settled vars cubes graph one other f g)

    all_agree : (tasks : List Task) (reports twins : List Report) → AllZip (IsToldOf mode net vars steps cubes) tasks reports → AllZip (IsToldOf mode net vars others cubes) tasks twins → AllZip Agree reports twins
    all_agree [] [] [] f g = tt
    all_agree [] [] (q ∷ twins) f g = absurd g
    all_agree [] (r ∷ reports) twins f g = absurd f
    all_agree (t ∷ tasks) [] twins f g = absurd f
    all_agree (t ∷ tasks) (r ∷ reports) [] f g = absurd g
    all_agree (t ∷ tasks) (r ∷ reports) (q ∷ twins) f g = (told_agree t r q f.0 g.0, all_agree tasks reports twins f.1 g.1)

pub agree : PoolsAgree
agree mode net range settled driver vars steps others cubes tasks reports twins s t one other =
    all_agree net range settled vars steps others cubes mode driver tasks reports twins one.told other.told
