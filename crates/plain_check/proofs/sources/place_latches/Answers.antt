use Rattle.std.proofs.Common.{◌≡◌, ◌∙◌, ◌↔◌, Bool, List, get_or, length, arith, ap, subst, ◌<◌, false}
use Rattle.std.proofs.lemmas.List.{get_or_default, length-set}
use Rattle.net_core.specs.declared.bit_set.BitSet.{BitSet}
use Rattle.net_core.specs.declared.raw.Latch.{Latch}
use Rattle.net_core.specs.declared.raw.Init.TheVariants.{Zero}
use Rattle.net_core.specs.Sets.{IsIn}
use Rattle.plain_check.proofs.Latched.{IsPlaced, latch_done}
use Rattle.plain_check.proofs.sources.place_latches.Goals as goal

pub loop-k-preserved : goal.loop-k-preserved
loop-k-preserved c =
    let d : Latch = record { input = record { 0 = 0 }; output = record { 0 = 0 }; init = Zero } in
    let net = c.args.net.now in
    let held = c.args.held.now in
    let weak = c.args.weak.now in
    let same = c.latches-latch-items.ensures in
    let within : c.loop-k.k < length net.raw.latches = rw (← same) c.loop-k-test.true in
    let latch = get_or net.raw.latches c.loop-k.k d in
    let none : BitSet = record { zero = false; one = false } in
    let long = length-set c.loop-k.sets.items latch.output.0 c.meet-set.result ∙ c.loop-k.invariant.long in
    let at = c.loop-k.k in
    let set = get_or held at none in
    let given = c.unless_weak-source.result in
    let allowed = c.args.allowed.now in
    let flag : c.is_weak.result ≡ get_or weak latch.output.0 false =
    c.is_weak.ensures
    ∙ ap (λ (latches : List Latch). get_or weak (get_or latches at d).output.0 false) same in
    let left = get_or allowed latch.output.0 none in
    let placed : IsPlaced latch.output.0 set given left c.meet-set.result weak =
    record {
      gives = λ bit. subst (λ (b : Bool). IsIn bit given ↔ (b ≡ false → IsIn bit set)) flag
          (c.unless_weak-source.ensures bit);
      meets = rw same at c.meet-set.ensures;
    } in
    record {
      long = rw same long;
      sets = λ asked family allows flags possible begin.
          let before = c.loop-k.invariant.sets asked family allows flags possible begin in
          rw same (latch_done net.raw held asked weak allowed family net.one_driver c.requires.held
          c.requires.allowed allows flags possible at latch none none given c.meet-set.result
          c.loop-k.sets.items c.loop-k.invariant.long
          (net.in_range.latch_outputs at d within) within
          (get_or_default net.raw.latches at d latch within) placed before);
    }

pub returns-clause-sets : goal.returns-clause-sets
returns-clause-sets c = λ asked family allows flags possible begin id l no_gate none.
    let same = ap length c.latches-latch-items.ensures in
    c.loop-k.invariant.sets asked family allows flags possible begin id l no_gate
    (λ k d m. none k d (omega arith))
