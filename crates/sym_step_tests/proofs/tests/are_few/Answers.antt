use Rattle.std.proofs.Common.{◌≡◌, ◌≤◌, ◌<◌, ◌+◌, ℕ, List, length, take, get_or, All, sym, ◌∙◌, ap, subst, arith, inl, inr}
use Rattle.std.proofs.lemmas.Bool.{cases_eq}
use Rattle.std.proofs.lemmas.List.{get_or_default, length-take-le, get_or-take}
use Rattle.std.proofs.Math.Seq.{take-length}
use Rattle.net_core.specs.declared.cover.Cover.{Cover}
use Rattle.net_core.specs.Cases.{cases_of}
use Rattle.sym_step_tests.proofs.tests.are_few.Goals as goal

module _ (P : Cover → Type 0) (xs : List Cover) (k : ℕ) (h : All P (take k xs)) where
  -- one more
  more : (x : Cover) → get_or xs k x ≡ x → P x → k < length xs → All P (take (k + 1) xs)
  more x is px lt i d l =
      let long = length-take-le (k + 1) xs (omega (arith, lt)) in
      let before = length-take-le k xs (omega (arith, lt)) in
      let here : get_or (take (k + 1) xs) i d ≡ get_or xs i d = get_or-take (k + 1) xs i d (omega (arith, l, long)) in
      elim (cases_eq i k) [
        | inl now ↦ subst P (sym is ∙ (let same : get_or xs k x ≡ get_or xs k d = get_or_default xs k x d lt in same) ∙ ap (λ n. get_or xs n d) (sym now) ∙ sym here) px
        | inr other ↦
            let old : i < k = omega (arith, l, long, other) in
            subst P (get_or-take k xs i d old ∙ sym here) (h i d (omega (arith, old, before)))
      ]

  -- all
  whole : k ≡ length xs → All P xs
  whole e = subst (All P) (ap (λ n. take n xs) e ∙ take-length xs) h

abbrev Narrow : Cover → Type 0
Narrow cover = cover.inputs ≤ 1000

abbrev Few : Cover → Type 0
Few cover = cases_of cover.inputs cover.rows ≤ 65536

pub loop-cover-preserved : goal.loop-cover-preserved
loop-cover-preserved c =
    let xs : List Cover = c.args.covers.now in
    let k = c.loop-cover.cover-index in
    let x = c.cover-item.result in
    let lt : k < length xs = let t = c.loop-cover-test.true in let e = c.loop-cover.auto.cover-index-end in omega (arith, t, e) in
    let narrow : Narrow x = let t = c.if-cover-gt1000.false in omega (arith, t) in
    let few : Few x = let t = c.if-branch-gt65536.false in let e = c.in_ok-cases.ensures in omega (arith, t, e) in
    record {
      inputs = more Narrow xs k c.loop-cover.invariant.inputs x (sym c.cover-item.is) narrow lt;
      cases = more Few xs k c.loop-cover.invariant.cases x (sym c.cover-item.is) few lt;
    }

pub returns-clause-inputs : goal.returns-clause-inputs
returns-clause-inputs c = λ told.
    let t = c.loop-cover-test.false in let e = c.loop-cover.auto.cover-index-end in
    whole Narrow c.args.covers.now c.loop-cover.cover-index c.loop-cover.invariant.inputs (omega (arith, t, e))

pub returns-clause-cases : goal.returns-clause-cases
returns-clause-cases c = λ told.
    let t = c.loop-cover-test.false in let e = c.loop-cover.auto.cover-index-end in
    whole Few c.args.covers.now c.loop-cover.cover-index c.loop-cover.invariant.cases (omega (arith, t, e))
