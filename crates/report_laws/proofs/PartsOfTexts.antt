-- Checks of texts that say the parts of another text's tasks, one behind the other, are a check of that text.
use Rattle.std.proofs.Common.{◌≡◌, ℕ, Bool, false, List, ◌++◌, length, map, None, Some, refl, ap, sym, ◌∙◌, subst}
use Rattle.std.specs.Prelude.{◌&&◌, zip}
use Rattle.std.specs.List.{AllZip, flat_map}
use Rattle.std.proofs.lemmas.List.{map-append}
use Rattle.blif_syntax.specs.declared.models.Model.{Model}
use Rattle.flat_net.specs.Flat.{IsFlat}
use Rattle.hierarchy.specs.Names.{own_name}
use Rattle.hierarchy.specs.Nets.{nets}
use Rattle.net_core.specs.declared.raw.RawNet.{RawNet}
use Rattle.ste_model.specs.declared.task.Task.{Task}
use Rattle.ste_model.specs.declared.task.Tasks.{Tasks}
use Rattle.ste_model.specs.Trees.{task_tree}
use Rattle.report_text.specs.Text.{task_text}
use Rattle.work_pool.specs.declared.mode.Mode.TheVariants.{Sets}
use Rattle.work_pool.specs.Told.{IsToldOf}
use Rattle.ste_program.specs.Check.{IsCheck, IsReportOn}
use Rattle.ste_program.specs.Reading.{IsReading}
use Rattle.ste_program.proofs.NetlistText.{one_netlist}
use Rattle.report_laws.specs.PartsReport.{tasks_over}
use Rattle.report_laws.specs.PartsOfTexts.{PartsOfTexts}
use Rattle.report_laws.proofs.PartsReport.{joined_of, without_line}
use Rattle.report_laws.proofs.SameNeeds.{all_told_moved, twins_of}

-- a check of a part is a report on its tasks over the net and the variables of the whole
part_on : (net_text part_text whole_text : List ℕ) (steps cubes : ℕ) (wave passes : Bool) (bytes : List ℕ) (part : IsCheck (Some steps) cubes wave false net_text part_text passes bytes)
    (models : List Model) (net : RawNet) (tasks : Tasks) → IsReading net_text whole_text models net tasks → part.tasks.vars ≡ tasks.vars →
    IsReportOn (map own_name (nets models)) net steps cubes wave false (tasks_over tasks.vars part.tasks.tasks) passes bytes
part_on net_text part_text whole_text steps cubes wave passes bytes part models net tasks reading vars =
    let same = one_netlist net_text part.models models part.reading.flattened.netlist reading.flattened.netlist in
    let flat = subst (λ (ms : List Model). IsFlat ms part.net) same part.reading.flattened.flat in
    let told = subst (λ (vs : List (List ℕ)). AllZip (IsToldOf Sets part.net (length vs) steps cubes) part.tasks.tasks part.report.reports) vars part.report.told in
    record {
      reports = part.report.reports;
      shared = None;
      told = all_told_moved part.net net (twins_of models part.net net flat reading.flattened.flat) (twins_of models net part.net reading.flattened.flat flat)
          (length tasks.vars) steps cubes part.tasks.tasks part.report.reports told;
      shown = refl;
      counted = tt;
      passing = part.report.passing;
      written = part.report.written
          ∙ (without_line (map own_name (nets part.models)) part.tasks.vars wave part.report.shared part.tasks.tasks part.report.reports part.report.shown
          ∙ (ap (λ (ms : List Model). flat_map (task_text (map own_name (nets ms)) part.tasks.vars wave) (zip part.tasks.tasks part.report.reports)) same
          ∙ (ap (λ (vs : List (List ℕ)). flat_map (task_text (map own_name (nets models)) vs wave) (zip part.tasks.tasks part.report.reports)) vars
          ∙ sym (without_line (map own_name (nets models)) tasks.vars wave None part.tasks.tasks part.report.reports refl))));
    }

-- tasks that have the same trees over the same variables are read in the text as well
abbrev reading_with : (net_text task_text : List ℕ) (models : List Model) (net : RawNet) (tasks : Tasks) (others : List Task) → map task_tree others ≡ map task_tree tasks.tasks →
    IsReading net_text task_text models net tasks → IsReading net_text task_text models net (tasks_over tasks.vars others)
reading_with net_text task_text models net tasks others trees h = record {
  flattened = h.flattened;
  raw = h.raw;
  spelled = h.spelled;
  bound = (h.bound.0, h.bound.1, (h.bound.2.0, trees ∙ h.bound.2.1));
}

pub parts_of_texts : PartsOfTexts
parts_of_texts = record {
  joined = λ net_text one_text other_text whole_text steps cubes wave first second front rest one other models net tasks reading say few.
      let trees = map-append task_tree one.tasks.tasks other.tasks.tasks ∙ sym say.trees in
      record {
        models = models;
        net = net;
        tasks = tasks_over tasks.vars (one.tasks.tasks ++ other.tasks.tasks);
        reading = reading_with net_text whole_text models net tasks (one.tasks.tasks ++ other.tasks.tasks) trees reading;
        few = few;
        report = joined_of (map own_name (nets models)) net steps cubes wave tasks.vars one.tasks.tasks other.tasks.tasks (first && second) (front ++ rest) (record {
          first = first;
          second = second;
          front = front;
          rest = rest;
          one_report = part_on net_text one_text whole_text steps cubes wave first front one models net tasks reading say.vars;
          other_report = part_on net_text other_text whole_text steps cubes wave second rest other models net tasks reading say.other_vars;
          passing = refl;
          bytes_are = refl;
        });
      };
}
