use Rattle.std.proofs.Common.{ℕ, ◌≡◌, ◌<◌, ◌+◌, ◌-◌, Bool, true, false, List, length, get_or, set, refl, sym, ap, ◌∙◌, subst, arith}
use Rattle.std.proofs.lemmas.List.{length-set}
use Rattle.sym_step.specs.declared.cut.Cut.{Cut}
use Rattle.sym_step.specs.private.Demands.{AreLinked, no_cut, node_at, place_of_cut}
use Rattle.sym_step.proofs.CutLists.{flags_before, turn}
use Rattle.sym_step.proofs.demands.links_of.Goals as goal

pub loop-at-preserved : goal.loop-at-preserved
loop-at-preserved c =
    let cuts : List Cut = c.args.cuts.now in
    let marks : List Bool = c.loop-at.is_asked.items in
    let first : List ℕ = c.loop-at.first.items in
    let next : List ℕ = c.loop-at.next.items in
    let k : ℕ = c.loop-at.at - 1 in
    let id : ℕ = node_at cuts k in
    let within = c.loop-at.invariant.within in
    let long = c.loop-at.invariant.long in
    let more : c.loop-at.at ≡ k + 1 = omega (arith, c.loop-at-test.true) in
    let lt : k < length cuts = omega (arith, more, within) in
    let low = c.requires.cuts k no_cut lt in
    let inside : id < length marks = omega (arith, long, low) in
    let told : c.place_of_cut.result ≡ place_of_cut (get_or marks id false) (get_or first id 0) (length cuts) =
    c.place_of_cut.ensures
    ∙ ap (λ (xs : List Bool). place_of_cut (get_or xs id false) (get_or c.deref-in-loop-at.result.now id 0) (length cuts)) c.deref.ensures.value
    ∙ ap (λ (xs : List ℕ). place_of_cut (get_or marks id false) (get_or xs id 0) (length cuts)) c.deref-in-loop-at.ensures.value in
    record {
      within = omega (arith, more, within);
      long = length-set marks id true ∙ long;
      linked = subst (λ (p : ℕ). AreLinked cuts k (set marks id true) (set first id k) (set next k p)) (sym told)
          (turn cuts marks first next k c.loop-at.at id more lt refl inside c.loop-at.invariant.linked);
      flagged = λ other none. c.loop-at.invariant.flagged other (flags_before marks id other none);
    }
