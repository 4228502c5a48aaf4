use Rattle.std.proofs.Common.{List, All, length, sym, subst, ap, ◌∙◌}
use Rattle.std.specs.List.{list_all}
use Rattle.command_line.specs.Command.{Command}
use Rattle.ste_model.specs.declared.report.Report.{Report}
use Rattle.report_text.specs.Text.{report_text}
use Rattle.ste_program.specs.Check.{is_pass}
use Rattle.ste_program.proofs.Fits.{Fits, all_fit, fails_fit, rows_fit}
use Rattle.ste_program.proofs.check.report_on.Goals as goal

pub render-requires-clause-fails : goal.render-requires-clause-fails
render-requires-clause-fails g c =
    let made = c.args.prepared.now in
    fails_fit (length made.flat.names.own) c.deref.result.now (subst (λ (rs : List Report). All (Fits (length made.flat.names.own)) rs) (sym c.deref.ensures.value)
    (all_fit made.flat.net.raw (length made.tasks.vars) c.args.steps c.args.asked.now.cubes (length made.flat.names.own) made.tasks.tasks c.in_ok-told.told.reports.items (sym made.named) made.checkable c.in_ok-told.ensures.told))

pub render-requires-clause-rows : goal.render-requires-clause-rows
render-requires-clause-rows g c =
    let made = c.args.prepared.now in
    rows_fit (length made.flat.names.own) c.deref.result.now (subst (λ (rs : List Report). All (Fits (length made.flat.names.own)) rs) (sym c.deref.ensures.value)
    (all_fit made.flat.net.raw (length made.tasks.vars) c.args.steps c.args.asked.now.cubes (length made.flat.names.own) made.tasks.tasks c.in_ok-told.told.reports.items (sym made.named) made.checkable c.in_ok-told.ensures.told))

pub returns-clause-report : goal.returns-clause-report
returns-clause-report g c =
    let made = c.args.prepared.now in
    let told = c.in_ok-told.told in
    record {
      reports = told.reports.items;
      shared = told.shared;
      told = c.in_ok-told.ensures.told;
      shown = c.in_ok-told.ensures.shown;
      counted = c.in_ok-told.ensures.counted;
      passing = c.all_pass.ensures ∙ ap (list_all (λ (report : Report). is_pass report.verdict)) c.deref-2.ensures.value;
      written = c.in_ok-text.ensures
          ∙ (ap (λ (rs : List Report). report_text made.flat.names.own made.tasks.vars c.asked.inside.wave told.shared made.tasks.tasks rs) c.deref.ensures.value
          ∙ ap (λ (asked : Command). report_text made.flat.names.own made.tasks.vars asked.wave told.shared made.tasks.tasks told.reports.items) c.asked.view_is);
    }
