use Rattle.std.proofs.Common.{◌∙◌, sym, arith, map}
use Rattle.ste_rules.specs.private.Held.{step_claim, steps_held}
use Rattle.ste_rules.proofs.Times.{held_more}
use Rattle.ste_rules.proofs.Told.{begun_as}
use Rattle.ste_rules.proofs.steps.Steps.begin.Goals as goal

pub returns : goal.returns
returns c = begun_as (steps_held c.args.self.now) c.args.name.now (step_claim c.args.step) c.args.growth c.add_name.new.names.keys (map step_claim c.push.new.self.items) (sym c.step_fits.ensures ∙ c.if-not-step_fits.false) (omega (arith, c.if-len-ge-MAX_STEPS.false, c.len.ensures.len)) c.in_ok-add_name.ensures (sym (held_more c.push.new.self.items c.args.self.now.claims.items c.args.step c.in_ok-push.ensures.items))
