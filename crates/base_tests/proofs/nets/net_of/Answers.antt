use Rattle.std.proofs.Common.{◌∙◌, ◌+◌, List, length, subst, sym, arith, refl}
use Rattle.net_core.specs.declared.raw.Gate.{Gate}
use Rattle.base_tests.proofs.Samples.{AreSampleGates, next_sample, sample_gate, all_samples, sample_in_range, sample_one_driver}
use Rattle.base_tests.proofs.nets.net_of.Goals as goal

pub loop-number-preserved : goal.loop-number-preserved
loop-number-preserved c =
    let count = length c.args.rows.now in
    subst (λ (gates : List Gate). AreSampleGates count gates (c.loop-number.number + 1)) (sym c.in_ok-push.ensures.ok)
    (next_sample count c.loop-number.number c.loop-number.gates _ c.loop-number.invariant
    (sample_gate count c.loop-number.number c.from.result _ _ _ (c.from.ensures ∙ c.in_ok-from_array.ensures.items) (omega (arith, c.min.ensures)) (omega (arith, c.min-in-loop-number.ensures)) (omega (arith, c.min-in-loop-number-2.ensures))))

pub returns-clause-in_range : goal.returns-clause-in_range
returns-clause-in_range c =
    let count = length c.args.rows.now in
    sample_in_range _ count _ _ refl c.new-2.ensures c.new-3.ensures (all_samples count c.loop-number.number c.loop-number.gates c.gates-2.inside.vec.items c.gates-2.view_is c.loop-number-test.false c.loop-number.auto.number-end c.loop-number.invariant)
    (c.from-2.ensures ∙ c.in_ok-from_array-2.ensures.items) (c.from-3.ensures ∙ c.in_ok-from_array-3.ensures.items) refl refl refl c.new.ensures refl

pub returns-clause-one_driver : goal.returns-clause-one_driver
returns-clause-one_driver c =
    let count = length c.args.rows.now in
    sample_one_driver _ count _ _ refl c.new-2.ensures c.new-3.ensures (all_samples count c.loop-number.number c.loop-number.gates c.gates-2.inside.vec.items c.gates-2.view_is c.loop-number-test.false c.loop-number.auto.number-end c.loop-number.invariant)
    (c.from-2.ensures ∙ c.in_ok-from_array-2.ensures.items) (c.from-3.ensures ∙ c.in_ok-from_array-3.ensures.items) refl refl refl c.new.ensures refl
