-- Reports on the parts of a list of tasks, one behind the other, are a report on all of them.
use Rattle.std.proofs.Common.{◌≡◌, ℕ, Bool, false, List, [], ◌∷◌, ◌++◌, length, Option, None, Some, refl, ap, sym, ◌∙◌, append-nil}
use Rattle.std.specs.Prelude.{◌&&◌, is_some, zip}
use Rattle.std.specs.List.{AllZip, flat_map, list_all}
use Rattle.std.proofs.lemmas.Grind.{flat_map-append}
use Rattle.std.proofs.lemmas.List.Folds.{list_all-append}
use Rattle.net_core.specs.declared.raw.RawNet.{RawNet}
use Rattle.ste_model.specs.declared.report.Report.{Report}
use Rattle.ste_model.specs.declared.task.Task.{Task}
use Rattle.report_text.specs.Text.{nodes_line, report_text, task_text}
use Rattle.work_pool.specs.declared.mode.Mode.TheVariants.{Sets}
use Rattle.work_pool.specs.Told.{IsToldOf}
use Rattle.ste_program.specs.Check.{IsReportOn, is_pass}
use Rattle.report_laws.specs.PartsReport.{AreTwoReports, PartsReport, tasks_over}

module _ {A B : Type 0} (P : A → B → Type 0) where
  -- what holds of two pairs of lists, place by place, holds of both joined
  both_told : (xs ys : List A) (rs qs : List B) → AllZip P xs rs → AllZip P ys qs → AllZip P (xs ++ ys) (rs ++ qs)
  both_told [] ys [] qs h k = k
  both_told [] ys (r ∷ rs) qs h k = absurd h
  both_told (x ∷ xs) ys [] qs h k = absurd h
  both_told (x ∷ xs) ys (r ∷ rs) qs h k = (h.0, both_told xs ys rs qs h.1 k)

  -- lists of one length are zipped part by part
  zip_parts : (xs ys : List A) (rs qs : List B) → AllZip P xs rs → zip (xs ++ ys) (rs ++ qs) ≡ zip xs rs ++ zip ys qs
  zip_parts [] ys [] qs h = refl
  zip_parts [] ys (r ∷ rs) qs h = absurd h
  zip_parts (x ∷ xs) ys [] qs h = absurd h
  zip_parts (x ∷ xs) ys (r ∷ rs) qs h = ap (λ (l : List (A × B)). (x, r) ∷ l) (zip_parts xs ys rs qs h.1)

  -- what stands beside two lists that are joined
  told_in_parts : (xs ys : List A) (rs : List B) → AllZip P (xs ++ ys) rs →
      (front : List B) × (rest : List B) × (rs ≡ front ++ rest) × AllZip P xs front × AllZip P ys rest
  told_in_parts [] ys rs h = ([], rs, refl, tt, h)
  told_in_parts (x ∷ xs) ys [] h = absurd h
  told_in_parts (x ∷ xs) ys (r ∷ rs) h =
      let later = told_in_parts xs ys rs h.1 in
      (r ∷ later.0, later.1, ap (λ (l : List B). r ∷ l) later.2, (h.0, later.3), later.4)

-- the verdict of a report is pass
abbrev passes_of : Report → Bool
passes_of report = is_pass report.verdict

-- where the number of shared nodes is not asked for there is no line on it
no_line : (shared : Option ℕ) → is_some shared ≡ false → nodes_line shared ≡ []
no_line None e = refl
no_line (Some count) e = absurd (cc e)

module _ (names vars : List (List ℕ)) (wave : Bool) where
  -- the lines of tasks alone
  pub without_line : (shared : Option ℕ) (tasks : List Task) (reports : List Report) → is_some shared ≡ false →
      report_text names vars wave shared tasks reports ≡ flat_map (task_text names vars wave) (zip tasks reports)
  without_line shared tasks reports e =
      ap (λ (l : List ℕ). flat_map (task_text names vars wave) (zip tasks reports) ++ l) (no_line shared e)
      ∙ append-nil (flat_map (task_text names vars wave) (zip tasks reports))

  -- the lines of two lists of tasks, one behind the other
  lines_parts : (P : Task → Report → Type 0) (one other : List Task) (reports others : List Report) → AllZip P one reports →
      flat_map (task_text names vars wave) (zip (one ++ other) (reports ++ others))
      ≡ flat_map (task_text names vars wave) (zip one reports) ++ flat_map (task_text names vars wave) (zip other others)
  lines_parts P one other reports others told =
      ap (flat_map (task_text names vars wave)) (zip_parts P one other reports others told)
      ∙ flat_map-append (task_text names vars wave) (zip one reports) (zip other others)

module _ (names : List (List ℕ)) (net : RawNet) (steps cubes : ℕ) (wave : Bool) (vars : List (List ℕ)) (one other : List Task) (passes : Bool) (bytes : List ℕ) where
  abbrev Told : Task → Report → Type 0
  Told = IsToldOf Sets net (length vars) steps cubes

  pub joined_of : AreTwoReports names net steps cubes wave vars one other passes bytes → IsReportOn names net steps cubes wave false (tasks_over vars (one ++ other)) passes bytes
  joined_of h =
      let f = h.one_report in
      let g = h.other_report in record {
        reports = f.reports ++ g.reports;
        shared = None;
        told = both_told Told one other f.reports g.reports f.told g.told;
        shown = refl;
        counted = tt;
        passing = h.passing
            ∙ (ap (λ (b : Bool). b && h.second) f.passing
            ∙ (ap (λ (b : Bool). list_all passes_of f.reports && b) g.passing
            ∙ sym (list_all-append passes_of f.reports g.reports)));
        written = h.bytes_are
            ∙ (ap (λ (l : List ℕ). l ++ h.rest) (f.written ∙ without_line names vars wave f.shared one f.reports f.shown)
            ∙ (ap (λ (l : List ℕ). flat_map (task_text names vars wave) (zip one f.reports) ++ l) (g.written ∙ without_line names vars wave g.shared other g.reports g.shown)
            ∙ (sym (lines_parts names vars wave Told one other f.reports g.reports f.told)
            ∙ sym (without_line names vars wave None (one ++ other) (f.reports ++ g.reports) refl))));
      }

  -- a report on some tasks, from what is reported for them
  part_of : (tasks : List Task) (reports : List Report) → AllZip Told tasks reports →
      IsReportOn names net steps cubes wave false (tasks_over vars tasks) (list_all passes_of reports) (flat_map (task_text names vars wave) (zip tasks reports))
  part_of tasks reports told = record {
    reports = reports;
    shared = None;
    told = told;
    shown = refl;
    counted = tt;
    passing = refl;
    written = sym (without_line names vars wave None tasks reports refl);
  }

  parted_of : IsReportOn names net steps cubes wave false (tasks_over vars (one ++ other)) passes bytes → AreTwoReports names net steps cubes wave vars one other passes bytes
  parted_of h =
      let parts = told_in_parts Told one other h.reports h.told in record {
        first = list_all passes_of parts.0;
        second = list_all passes_of parts.1;
        front = flat_map (task_text names vars wave) (zip one parts.0);
        rest = flat_map (task_text names vars wave) (zip other parts.1);
        one_report = part_of one parts.0 parts.3;
        other_report = part_of other parts.1 parts.4;
        passing = h.passing ∙ (ap (list_all passes_of) parts.2 ∙ list_all-append passes_of parts.0 parts.1);
        bytes_are = h.written
            ∙ (without_line names vars wave h.shared (one ++ other) h.reports h.shown
            ∙ (ap (λ (l : List Report). flat_map (task_text names vars wave) (zip (one ++ other) l)) parts.2
            ∙ lines_parts names vars wave Told one other parts.0 parts.1 parts.3));
      }

pub parts_report : PartsReport
parts_report = record { joined = joined_of; parted = parted_of }
