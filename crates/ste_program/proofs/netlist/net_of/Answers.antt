use Rattle.std.proofs.Common.{◌∙◌, Err, Some, ap, inr, refl, subst, sym}
use Rattle.std.specs.Prelude.{◌≤◌, All}
use Rattle.flat_net.specs.Flat.{IsFlat}
use Rattle.net_core.specs.Cases.{cases_of}
use Rattle.net_core.specs.Flat.{IsInRange}
use Rattle.net_core.specs.Run.{IsSettled}
use Rattle.net_core.specs.declared.raw.RawNet.{RawNet}
use Rattle.ste_program.proofs.Handed.{handed_on}
use Rattle.ste_program.proofs.Told.{hierarchy_told, loop_told}
use Rattle.ste_program.proofs.netlist.net_of.Goals as goal

pub returns-in_err-raw : goal.returns-in_err-raw
returns-in_err-raw c = handed_on _ _ _ c.from_residual.ensures.1 (hierarchy_told c.args.models.models c.in_err-raw.field-0.0 c.in_err-raw.ensures.err)

pub returns-in-Ok : goal.returns-in-Ok
returns-in-Ok c =
    let made = c.in_ok-raw.ensures in
    let is = c.in-Ok.ensures in
    record {
      sound = made.ok;
      flat = subst (λ (raw : RawNet). IsFlat c.args.models.models raw) (sym is.same) made.flat;
      in_range = subst (λ (raw : RawNet). IsInRange raw) (sym is.same) made.in_range;
      settled = subst (λ (raw : RawNet). IsSettled raw) (sym is.same) is.settles;
      named = made.names;
      inputs = subst (λ (raw : RawNet). All (λ cover. cover.inputs ≤ 1000) raw.covers) (sym is.same) made.inputs;
      cases = subst (λ (raw : RawNet). All (λ cover. cases_of cover.inputs cover.rows ≤ 65536) raw.covers) (sym is.same) made.cases;
    }

pub returns-in-Err-Loop : goal.returns-in-Err-Loop
returns-in-Err-Loop c =
    let made = c.in_ok-raw.ensures in
    let cloned = c.in_ok-clone-in-Err-Loop in
    let looped = loop_told c.args.models.models c.in_ok-raw.raw c.in_ok-raw.names c.in-Err-Loop.net.0 cloned.field-0 made.flat made.names (c.in-Err-Loop.ensures.looped c.in-Err-Loop.net (ap Err c.in-Err-Loop.field-0-is))
    (c.name.ensures.entry ∙ ap Some (sym cloned.ensures.cases)) in
    inr (inr (cloned.field-0, refl, made.ok, looped))
