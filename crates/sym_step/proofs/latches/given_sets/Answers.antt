use Rattle.std.proofs.Common.{◌≡◌, ◌<◌, ℕ, List, Option, None, Some, ap, arith, get_or, inl, inr, length, subst, sym, ◌∙◌}
use Rattle.std.specs.Prelude.{IfSome}
use Rattle.std.proofs.lemmas.List.{get_or_default}
use Rattle.ste_base.specs.declared.id.NodeId.{NodeId}
use Rattle.net_core.specs.declared.raw.Latch.{Latch}
use Rattle.net_core.specs.declared.raw.Init.TheVariants.{Zero}
use Rattle.dual_rail.specs.declared.rails.Rails.{Rails}
use Rattle.sym_step.specs.declared.latches.LatchSet.{LatchSet}
use Rattle.gate_sets.specs.declared.net_rails.NetRails.{NetRails}
use Rattle.sym_step.specs.private.Demands.{nodes_of}
use Rattle.sym_step.specs.private.Latches.{IsInPlace}
use Rattle.gate_sets.specs.NetSets.{net_at}
use Rattle.sym_step.proofs.Latched.{Grows, own_next, own_set, places_next}
use Rattle.net_core.specs.Possible.{is_weakened}
use Rattle.sym_step.specs.Step.{ids_of}
use Rattle.sym_step.specs.private.Latches.{rails_unless}
use Rattle.sym_step.proofs.latches.given_sets.Goals as goal
use Rattle.sym_step.proofs.latches.given_sets.Goals.{in-Some+in_ok-push, in_default}

pub loop-l-preserved : goal.loop-l-preserved
loop-l-preserved c =
    let net = c.args.net.now in
    let asked : List NodeId = nodes_of c.args.demands.now.weak c.args.demands.now.cuts in
    let latches : List Latch = net.raw.latches in
    let told : List Rails = c.args.told.now in
    let nets : List NetRails = c.args.nets.now in
    let zeroth : Latch = record { input = record { 0 = 0 }; output = record { 0 = 0 }; init = Zero } in
    let n : ℕ = c.loop-l.l in
    let sets : List LatchSet = c.loop-l.sets.items in
    let more : List LatchSet = c.match-given_set.sets.items in
    let inv = c.loop-l.invariant in
    let p = c.given_set.ensures in
    let inside : n < length latches = let same = ap (λ (xs : List Latch). length xs) c.latches-latches.ensures in omega (arith, same, c.loop-l-test.true) in
    let latch : Latch = get_or c.latches-latches.result.now n zeroth in
    let is : latch ≡ get_or latches n latch = ap (λ (xs : List Latch). get_or xs n zeroth) c.latches-latches.ensures ∙ get_or_default latches n zeroth latch inside in
    let within : n < length told = let size = c.requires.told in omega (arith, size, inside) in
    let rails : Rails = get_or told n (record { can0 = record { 0 = 0 }; can1 = record { 0 = 0 } }) in
    let own : LatchSet = record { output = latch.output; rails = rails_unless (is_weakened (ids_of c.args.demands.now.weak) latch.output.0) rails; given = net_at nets latch.input.0 } in
    let grows : Grows c.given_set.result sets more = elim c.match-given_set.branch [
      | in-Some+in_ok-push w ↦ inl (w.in-Some.set, w.in-Some.is, ap (λ v. v.items) w.sets-is ∙ w.in_ok-push.ensures.items)
      | in_default w ↦ inr (w.in_default.is, ap (λ v. v.items) w.sets-is)
    ] in
    let some_is : (set : LatchSet) → c.given_set.result ≡ Some set → set ≡ own =
    λ set e. subst (λ (o : Option LatchSet). IfSome o (λ x. x ≡ own)) e p.some in
    let place : c.given_set.result ≡ None → IsInPlace told asked nets n latch = λ e.
    let h = p.none e in
    record {
      uncut = h.0;
      rails = λ d. get_or_default told n d _ within ∙ h.1;
    } in
    record {
      own = own_next net.raw told c.args.demands.now.weak nets c.given_set.result sets more grows
          (λ set e. own_set net.raw told c.args.demands.now.weak nets n latch set inside is (ap (λ (x : LatchSet). x.output) (some_is set e))
          (λ d. ap (rails_unless (is_weakened (ids_of c.args.demands.now.weak) latch.output.0)) (get_or_default told n d _ within) ∙ ap (λ (x : LatchSet). x.rails) (sym (some_is set e)))
          (ap (λ (x : LatchSet). x.given) (sym (some_is set e)))) inv.own;
      each =
          places_next net.raw told asked nets c.given_set.result sets more n latch inside is grows (λ set e. ap (λ (x : LatchSet). x.output) (some_is set e)) place inv.each;
    }

pub returns : goal.returns
returns c = record {
  own = c.loop-l.invariant.own;
  each = λ k d lt. c.loop-l.invariant.each k d (let same = ap (λ (xs : List Latch). length xs) c.latches-latches.ensures in omega (arith, same, lt, c.loop-l-test.false)) lt;
}
