use Rattle.std.proofs.Common.{◌∙◌, ap, sym, refl, Some}
use Rattle.ste_rules.specs.private.Held.{steps_held}
use Rattle.ste_rules.proofs.Lines.{last_claim, last_name, some_name}
use Rattle.ste_rules.proofs.read.proof_of.Goals as goal

pub returns-in-None : goal.returns-in-None
returns-in-None c = λ aligned. absurd (cc (c.in-None.ensures.found.1 (some_name c.args.steps.now.names.keys c.args.steps.now.claims.items c.pop.new.self.items c.in-Some.step aligned c.in-Some.ensures.items)))

pub returns : goal.returns
returns c = λ aligned. (
  steps_held c.args.steps.now,
  refl,
  record {
    claim = last_claim c.args.steps.now.claims.items c.pop.new.self.items c.in-Some.step c.in-Some.ensures.items;
    name = last_name c.args.steps.now.names.keys c.in-Some-last.name.now c.in-Some-last.ensures.key ∙ ap Some (sym c.in_ok-clone.ensures.cases);
    leaves = c.replace-leaves.ensures.value;
  },
)
