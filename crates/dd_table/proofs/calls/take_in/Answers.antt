use Rattle.std.proofs.Common.{◌≡◌, length, length-append, sym, ap, ◌∙◌, subst, inl, inr, arith}
use Rattle.std.specs.Prelude.{Some}
use Rattle.std.specs.FinMap.{get}
use Rattle.atomic_table.specs.Table.{Me}
use Rattle.atomic_table.specs.Seated.{TableId}
use Rattle.dd_nodes.specs.declared.node.Node.{Node}
use Rattle.dd_table.specs.declared.views.View.{View}
use Rattle.dd_table.specs.Tells.{IsSound, HoldsNothing}
use Rattle.dd_table.specs.Sessions.{SessionValue}
use Rattle.dd_table.proofs.Unions.{Picked, same_slots, picked_some, picked_nothing}
use Rattle.dd_table.proofs.calls.take_in.Goals.{then-session-eq0, else-session-eq0}
use Rattle.dd_table.proofs.calls.take_in.Goals as goal

abbrev Seated : Type 0
Seated = Me Unit View

pub unite-requires-clause-some : goal.unite-requires-clause-some
unite-requires-clause-some c =
    let s = c.session.inside in
    let o = c.other.inside in
    let picked : Picked s o c.if-session-eq0.some = elim c.if-session-eq0.branch [
      | then-session-eq0 w ↦ inl (w.if-session-eq0.true, w.some-is)
      | else-session-eq0 w ↦ inr (w.if-session-eq0.false, w.some-is)
    ] in
    let here = ap (λ (k : SessionValue). k.table) c.session.view_is ∙ c.requires.table in
    let there = ap (λ (k : SessionValue). k.table) c.other.view_is ∙ c.requires.other in
    picked_some s o c.if-session-eq0.some c.session.invariant c.other.invariant
    (same_slots s o c.args.table.now c.session.invariant c.other.invariant here there) picked

pub invariant_of-session : goal.invariant_of-session
invariant_of-session c =
    let s = c.session.inside in
    let o = c.other.inside in
    let i = c.session.invariant in
    let j = c.other.invariant in
    let x = c.if-session-eq0.some in
    let picked : Picked s o x = elim c.if-session-eq0.branch [
      | then-session-eq0 w ↦ inl (w.if-session-eq0.true, w.some-is)
      | else-session-eq0 w ↦ inr (w.if-session-eq0.false, w.some-is)
    ] in
    let here = ap (λ (k : SessionValue). k.table) c.session.view_is ∙ c.requires.table in
    let there = ap (λ (k : SessionValue). k.table) c.other.view_is ∙ c.requires.other in
    let slots = same_slots s o c.args.table.now i j here there in
    let last = c.add_limits-session-inside.ensures in
    let me = last.same ∙ c.unite.ensures.both in
    record {
      bare = ap (λ (m : Seated). m.1) me ∙ i.bare;
      vars = ap (λ (m : Seated). m.0.vars) me ∙ i.vars;
      slots = ap (λ (m : Seated). m.0.slots) me ∙ i.slots;
      used = ap (λ (m : Seated). length m.0.made) me ∙ length-append s.seat.me.0.made o.seat.me.0.made ∙ (let a = i.used in let b = j.used in omega arith);
      limit = ap (λ (m : Seated). m.0.limit) me ∙ (let a = i.limit in let b = j.limit in let d = last.sum in omega arith);
      words = ap (λ (t : TableId). t.words) (last.table ∙ c.unite.ensures.table) ∙ i.words;
      two = i.two;
      most = i.most;
      few = i.few;
      sound = subst (λ (m : Seated). IsSound m.0) (sym last.same) c.unite.ensures.sound;
      none = λ z. subst (λ (m : Seated). HoldsNothing m.0) (sym me) (picked_nothing s o x i j picked z);
      some = λ ne. subst (λ (m : Seated). (n : Node) × (get m.0.held x ≡ Some n)) (sym me) (picked_some s o x i j slots picked ne).2;
    }

pub returns-clause-right : goal.returns-clause-right
returns-clause-right c = λ r n e.
    let me = c.unite.ensures.both in
    let held = ap (λ (k : SessionValue). get k.held r) c.other.view_is ∙ e in
    let there = c.unite.ensures.sound.last r n (ap (λ (m : Seated). get m.0.last r) me ∙ held) in
    ap (λ (m : Seated). get m.0.held r) c.add_limits-session-inside.ensures.same ∙ there
