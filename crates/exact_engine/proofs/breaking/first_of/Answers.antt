use Rattle.std.proofs.Math.Seq.{take-suc}
use Rattle.std.proofs.Common.{◌≡◌, ◌+◌, ◌<◌, ◌∷◌, ◌++◌, [], suc, length, take, sym, ◌∙◌, ap, subst, arith, List}
use Rattle.std.proofs.lemmas.List.{take_all}
use Rattle.ste_model.specs.declared.task.Quint.{Quint}
use Rattle.ste_model.specs.Runs.{run_of}
use Rattle.exact_engine.specs.private.Breaching.{IsFirstOf}
use Rattle.exact_engine.proofs.breaking.first_of.Goals as goal

pub loop-quint-preserved : goal.loop-quint-preserved
loop-quint-preserved c =
    let quints : List Quint = c.args.quints.now in
    let k = c.loop-quint.quint-index in
    let q : Quint = c.quint-item.result in
    let lt : k < length quints = omega (arith, c.loop-quint-test.true) in
    let quints_are : take (k + 1) quints ≡ take k quints ++ q ∷ [] = ap (λ j. take j quints) (let e : k + 1 ≡ suc k = omega arith in e) ∙ take-suc quints k q lt ∙ ap (λ x. take k quints ++ x ∷ []) (sym c.quint-item.is) in
    subst (λ (xs : List Quint). IsFirstOf (run_of c.args.run.now) c.args.bits.now c.args.depth xs c.with_one_more-place.result) (sym quints_are)
    (c.with_one_more-place.ensures (take k quints) c.loop-quint.invariant)

pub returns : goal.returns
returns c =
    subst (λ (xs : List Quint). IsFirstOf (run_of c.args.run.now) c.args.bits.now c.args.depth xs c.loop-quint.place)
    (take_all c.loop-quint.quint-index c.args.quints.now (omega (arith, c.loop-quint-test.false))) c.loop-quint.invariant
