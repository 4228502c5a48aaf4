use Rattle.std.specs.Prelude.{vec_len}
use Rattle.std.proofs.Common.{rules, ◌≡◌, ◌<◌, ◌+◌, ℕ, List, [], ◌∷◌, ◌++◌, length, get_or, refl, sym, ◌∙◌, ap, subst, arith, length-set, Vec, Global}
use Rattle.net_core.specs.declared.cover.Cover.{Cover}
use Rattle.gate_sets.specs.declared.rows.CoverRows.{CoverRows}
use Rattle.gate_sets.proofs.Numbered.{AreNumbered, shared_number, new_number}
use Rattle.gate_sets.proofs.rows.GateRows.of.Goals.{then-before-k+then-same_cover+in_ok-push, else-before-k+in_ok-push-2+in_ok-cover_rows+in_ok-push-3}
use Rattle.gate_sets.proofs.rows.GateRows.of.Goals as goal

pub index-number-requires : goal.index-number-requires
index-number-requires c =
    let view : vec_len c.loop-k.numbers ≡ length c.loop-k.numbers.items = search rules in
    let count = c.loop-k.invariant.led.count in
    let earlier = c.if-before-k.true in
    omega (arith, view, count, earlier)

pub loop-k-preserved : goal.loop-k-preserved
loop-k-preserved c =
    let covers : List Cover = c.args.net.now.raw.covers in
    let k = c.loop-k.k in
    let p = c.loop-k.invariant in
    let kinds : List CoverRows = c.loop-k.kinds in
    let numbers : List ℕ = c.loop-k.numbers.items in
    let cover : Cover = c.index-covers-k.result in
    let same = ap length c.covers-covers.ensures in
    let lt : k < length covers = omega (arith, c.loop-k-test.true, same) in
    let read : cover ≡ get_or covers k cover = c.index-covers-k.is ∙ ap (λ (xs : List Cover). get_or xs k cover) c.covers-covers.ensures in
    record {
      within = omega (arith, lt);
      places = length-set c.loop-k.met.items c.place_of-place.result k ∙ p.places;
      led = elim c.if-before-k.branch as (λ _. AreNumbered c.if-before-k.kinds c.if-before-k.numbers.items covers (k + 1)) [
        | then-before-k+then-same_cover+in_ok-push w ↦
            let first : Cover = w.index-covers-before.result in
            subst (λ (ks : List CoverRows). AreNumbered ks c.if-before-k.numbers.items covers (k + 1)) (sym w.kinds-is)
            (shared_number kinds numbers c.if-before-k.numbers.items covers k c.index-before.result.now w.index-number.result.now cover first lt w.if-before-k.true read
            (w.index-covers-before.is ∙ ap (λ (xs : List Cover). get_or xs c.index-before.result.now first) c.covers-covers.ensures)
            (w.if-same_cover.ensures refl) w.index-number.ensures (ap (λ (v : Vec ℕ Global). v.items) w.numbers-is ∙ w.in_ok-push.ensures.items) p.led)
        | else-before-k+in_ok-push-2+in_ok-cover_rows+in_ok-push-3 w ↦
            new_number kinds c.if-before-k.kinds numbers c.if-before-k.numbers.items covers k cover w.in_ok-cover_rows.field-0 lt read w.in_ok-cover_rows.ensures
            (w.kinds-is ∙ w.in_ok-push-3.ensures.ok)
            (ap (λ (v : Vec ℕ Global). v.items) w.numbers-is ∙ w.in_ok-push-2.ensures.items ∙ ap (λ n. numbers ++ n ∷ []) w.len.ensures) p.led
      ];
    }
