use Rattle.std.proofs.Common.{◌≡◌, ℕ, ◌+◌, ◌-◌, ◌≤◌, length, sym, ap, ◌∙◌, subst, arith}
use Rattle.std.specs.FinMap.{get}
use Rattle.std.specs.Prelude.{Some}
use Rattle.atomic_table.specs.Table.{Me}
use Rattle.atomic_table.specs.Seated.{TableId}
use Rattle.dd_nodes.specs.declared.node.Node.{Node}
use Rattle.dd_table.specs.declared.views.View.{View}
use Rattle.dd_table.specs.Tells.{IsSound, HoldsNothing}
use Rattle.dd_table.specs.Sessions.{SessionValue}
use Rattle.dd_table.proofs.SessionSteps.{sound_giving}
use Rattle.dd_table.proofs.calls.part.Goals as goal

abbrev Seated : Type 0
Seated = Me Unit View

pub invariant_of-session : goal.invariant_of-session
invariant_of-session c =
    let i = c.session.invariant in
    let me = c.split-seat.ensures.old in
    let was = c.session.view_is in
    let v = c.session.inside.seat.me.0 in
    let room : c.args.quota + length v.made ≤ v.limit =
    let a = c.requires.left in
    let b : length v.made ≡ length c.args.session.now.made = ap (λ (k : SessionValue). length k.made) was in
    let d : c.session.inside.limit ≡ c.args.session.now.limit = ap (λ (k : SessionValue). k.limit) was in
    let e = i.limit in
    omega arith in
    record {
      bare = ap (λ (m : Seated). m.1) me ∙ i.bare;
      vars = ap (λ (m : Seated). m.0.vars) me ∙ i.vars;
      slots = ap (λ (m : Seated). m.0.slots) me ∙ i.slots;
      used = ap (λ (m : Seated). length m.0.made) me ∙ i.used;
      limit = ap (λ (m : Seated). m.0.limit) me ∙ ap (λ (y : ℕ). y - c.args.quota) i.limit;
      words = ap (λ (t : TableId). t.words) c.split-seat.ensures.table ∙ i.words;
      two = i.two;
      most = i.most;
      few = i.few;
      sound = subst (λ (m : Seated). IsSound m.0) (sym me) (sound_giving c.args.quota v i.sound room);
      none = λ z. subst (λ (m : Seated). HoldsNothing m.0) (sym me) (i.none z);
      some = λ ne. subst (λ (m : Seated). (n : Node) × (get m.0.held c.session.inside.some ≡ Some n)) (sym me) (i.some ne);
    }
