-- The exact report, from its parts.
use Rattle.std.proofs.Common.{◌≡◌, ℕ, zero, suc, Bool, List, [], length, refl, sym, ◌∙◌, ap, subst, arith}
use Rattle.std.specs.Prelude.{IsTrue, ◌↔◌}
use Rattle.std.proofs.lemmas.Bool.{both_ways}
use Rattle.dd_nodes.specs.declared.node.Ref.{Ref}
use Rattle.dd_nodes.specs.Functions.{IsCofactorOf}
use Rattle.dd_nodes.specs.Stores.{Means, Store, function}
use Rattle.dd_nodes.proofs.Spending.{zero_means}
use Rattle.dd_nodes.proofs.Stores.{IsGood}
use Rattle.dd_nodes.proofs.Walks.{same_numbers}
use Rattle.net_core.specs.declared.raw.RawNet.{RawNet}
use Rattle.ste_base.specs.Functions.{Function}
use Rattle.ste_model.specs.declared.report.Guards.{Guards}
use Rattle.ste_model.specs.declared.report.Report.{Report}
use Rattle.ste_model.specs.declared.task.Assertion.{Assertion}
use Rattle.ste_model.specs.declared.verdict.Verdict.TheVariants.{Budget}
use Rattle.engine_parts.specs.declared.results.Results.{Results}
use Rattle.engine_parts.specs.Reporting.{AreGuards}
use Rattle.engine_parts.proofs.Cofactors.{held_cofactor}
use Rattle.exact_model.specs.Exact.{IsExactVerdictOf, IsExactlyContradictory, IsExactlyStrong}
use Rattle.exact_model.specs.ExactNeed.{exact_kept}
use Rattle.exact_model.specs.ExactReport.{IsExactReportOf}
use Rattle.exact_model.specs.ExactWork.{exactly_contradictory_where, exactly_strong_where}
use Rattle.exact_engine.specs.declared.results.ExactResults.{ExactResults}
use Rattle.exact_engine.specs.declared.showing.Shown.{Shown}
use Rattle.exact_engine.specs.private.Reporting.{DoTell, IsShownExactly, TellSets}
use Rattle.exact_engine.specs.Results.{AreExactRefs}
use Rattle.exact_model.proofs.WiderCubes.{are_cubes}

-- the results as those of a check that finds nothing weak
abbrev pub no_weak : ExactResults → Results
no_weak r = record { strong = r.strong; weak = record { 0 = 0 }; contradictory = r.contradictory }

-- they tell both sets
pub sets_of : (net : RawNet) (vars : ℕ) (task : Assertion) (s : Store) (r : ExactResults) → IsGood s → DoTell net vars task s r → TellSets net vars task s (no_weak r)
sets_of net vars task s r good told = record {
  within = let h = told.room in omega (arith, h);
  refs = record { strong = told.findings.strong_ref; weak = (zero_means s good).ref; contradictory = told.findings.contradictory_ref };
  none = refl;
  strong = told.findings.strong;
  contradictory = told.findings.contradictory;
}

module _ (net : RawNet) (vars : ℕ) (task : Assertion) (s : Store) (r : Results) (good : IsGood s) (told : TellSets net vars task s r) where
  never : (bits : List Bool) → length bits ≡ s.vars → IsTrue (function s r.weak bits) ↔ ⊥
  never bits l =
      let zero_ref : Ref = record { 0 = 0 } in
      let same : r.weak ≡ zero_ref = same_numbers r.weak zero_ref told.none in (
        (λ h. both_ways (function s r.weak bits) (ap (λ (x : Ref). function s x bits) same ∙ (zero_means s good).value bits l) h),
        (λ no. absurd no),
      )

  pub whole_report : (max : ℕ) (guards : Guards) (shown : Shown) (report : Report) → AreGuards max s r guards → IsShownExactly net vars task shown → report.name ≡ task.name → report.verdict ≡ shown.verdict → report.guards ≡ guards → report.least ≡ shown.least → report.path ≡ [] → report.fails ≡ shown.fails → report.run ≡ shown.run → IsExactReportOf net vars max task report
  whole_report max guards shown report cubes shows name verdict lists least path fails run = record {
    named = name;
    judged = subst (IsExactVerdictOf net vars task) (sym verdict) shows.judged;
    strong = are_cubes max vars s.vars (function s r.strong) (IsExactlyStrong net task) report.guards.strong told.within told.strong (ap (λ (g : Guards). g.strong) lists ∙ cubes.strong);
    weak = are_cubes max vars s.vars (function s r.weak) (λ bits. ⊥) report.guards.weak told.within never (ap (λ (g : Guards). g.weak) lists ∙ cubes.weak);
    contradictory = are_cubes max vars s.vars (function s r.contradictory) (IsExactlyContradictory net task) report.guards.contradictory told.within told.contradictory (ap (λ (g : Guards). g.contradictory) lists ∙ cubes.contradictory);
    shown = shows.shows report verdict least fails run;
    path = path;
  }

-- an exact report says something
pub never_budget : (net : RawNet) (vars max : ℕ) (task : Assertion) (report : Report) → IsExactReportOf net vars max task report → report.verdict ≡ Budget → ⊥
never_budget net vars max task report is e = subst (IsExactVerdictOf net vars task) e is.judged

-- where both sets have their references, so have their nodes
pub kept_of : (net : RawNet) (vars : ℕ) (task : Assertion) (bit : ℕ → ℕ → Function) (u : Store) (strong contradictory : Ref) → IsGood u
    → Means u (exactly_strong_where net vars task bit) strong → Means u (exactly_contradictory_where net vars task bit) contradictory
    → (f : Function) → IsCofactorOf u.vars (exact_kept net vars task bit) f → (x : Ref) × Means u f x
kept_of net vars task bit u strong contradictory good m h f (k, (zero, lt, e), cofactor) = held_cofactor u k f strong good (subst (λ (h : Function). Means u h strong) e m) cofactor
kept_of net vars task bit u strong contradictory good m h f (k, (suc zero, lt, e), cofactor) = held_cofactor u k f contradictory good (subst (λ (h : Function). Means u h contradictory) e h) cofactor
kept_of net vars task bit u strong contradictory good m h f (k, (suc (suc i), lt, e), cofactor) = absurd (omega arith)
