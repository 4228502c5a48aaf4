use Rattle.std.proofs.Common.{refl, ◌≡◌, ◌≤◌, ◌<◌, List, arith, length, sym, ap, subst}
use Rattle.std.specs.Prelude.{Option}
use Rattle.std.proofs.lemmas.Option.{get_or_from_slice_get}
use Rattle.ste_base.specs.declared.id.NodeId.{NodeId}
use Rattle.net_core.specs.declared.cover.Cover.{Cover}
use Rattle.net_core.specs.declared.raw.Gate.{Gate}
use Rattle.net_core.specs.Cover.{IsCover}
use Rattle.net_core.specs.Work.{SymbolicSet, cover_set, gate_set}
use Rattle.net_core.proofs.Among.{get_some}
use Rattle.gate_sets.specs.declared.net_rails.NetRails.{NetRails}
use Rattle.gate_sets.specs.declared.rows.CoverRows.{CoverRows}
use Rattle.gate_sets.specs.Constants.{HaveChoice}
use Rattle.gate_sets.specs.Lists.{rows_of}
use Rattle.gate_sets.specs.NetSets.{AreNetRails, sets_at}
use Rattle.gate_sets.specs.private.Choices.{AreChoices, IsChoice}
use Rattle.gate_sets.proofs.Choosing.{choice_net}
use Rattle.gate_sets.proofs.Placed.{BothLists, cover_lists}
use Rattle.gate_sets.proofs.ways.constant_set.Goals as goal

pub returns-clause-set : goal.returns-clause-set
returns-clause-set c = λ s sets good have.
    let covers : List Cover = c.args.net.now.raw.covers in
    let gate : Gate = c.args.g.now in
    let k = gate.cover in
    let nets : List NetRails = c.args.nets.now in
    let ws : List SymbolicSet = sets_at sets gate.inputs in
    let known = get_some covers k c.requires.cover in
    let cover : Cover = known.0 in
    let lists : CoverRows = rows_of cover in
    let width : cover.inputs ≡ length gate.inputs = c.requires.width cover known.1 in
    let sound : IsCover cover = subst IsCover (get_or_from_slice_get covers k cover cover known.1) (c.args.net.now.in_range.sound k cover c.requires.cover) in
    let both : BothLists lists (length gate.inputs) = cover_lists cover lists (length gate.inputs) refl sound width in
    let n = c.choice_of-choice.result in
    let less : n < 64 = omega (arith, c.if-choice-ge-CHOICES.false) in
    let choice : IsChoice nets gate.inputs n = subst (λ (ids : List NodeId). IsChoice nets ids n) c.as_slice.ensures (c.choice_of-choice.ensures.choice less) in
    let narrow : lists.on.width ≤ 3 = let few = choice.few in omega (arith, few, width) in
    let told : AreChoices lists.on.list lists.off.list c.choices.result = c.choices.ensures cover known.1 narrow in
    let r : NetRails = c.net.result in
    let given : AreNetRails s (gate_set lists.on.list lists.off.list ws) r =
    choice_net s good sets nets gate.inputs lists.on.list lists.off.list c.choices.result n r both.wide_on both.wide_off told choice less have
    c.net.ensures.zero c.net.ensures.one c.net.ensures.some c.net.ensures.known.0 in
    subst (λ (w : SymbolicSet). AreNetRails s w r) (ap (λ (o : Option Cover). cover_set o ws) (sym known.1)) given

pub returns-then-choice-ge-CHOICES-clause-none : goal.returns-then-choice-ge-CHOICES-clause-none
returns-then-choice-ge-CHOICES-clause-none c = λ none have.
    let less = c.choice_of-choice.ensures.constant.1 (subst (λ (ids : List NodeId). HaveChoice c.args.nets.now ids) (sym c.as_slice.ensures) have) in
    absurd (omega (arith, less, c.if-choice-ge-CHOICES.true))
