use Rattle.std.proofs.Common.{refl, sym, ap, ◌∙◌, subst, length}
use Rattle.atomic_table.specs.Seated.{TableId}
use Rattle.atomic_table.specs.Table.{Me}
use Rattle.dd_table.specs.declared.views.View.{View}
use Rattle.dd_table.specs.Tells.{IsSound, HoldsNothing}
use Rattle.dd_table.proofs.Maps.{no_entry}
use Rattle.dd_table.proofs.Schedules.{opens}
use Rattle.dd_table.proofs.SessionSteps.{sound_first}
use Rattle.dd_table.proofs.table.SharedTable.open.Goals as goal

pub of_words-requires : goal.of_words-requires
of_words-requires c = opens _ c.as_slice.result.now c.requires.slots.0 (c.as_slice.ensures.value ∙ c.in_ok-zeros.ensures.items_if_clones_equal (λ y e. e))

abbrev Seated : Type 0
Seated = Me Unit View

pub invariant_of-session : goal.invariant_of-session
invariant_of-session c =
    let e = c.in_ok-table.ensures in
    let me = e.4 in
    record {
      bare = ap (λ (m : Seated). m.1) me;
      vars = ap (λ (m : Seated). m.0.vars) me;
      slots = ap (λ (m : Seated). m.0.slots) me;
      used = ap (λ (m : Seated). length m.0.made) me;
      limit = ap (λ (m : Seated). m.0.limit) me;
      words = ap (λ (t : TableId). t.words) e.2 ∙ e.0 ∙ c.as_slice.ensures.len ∙ c.in_ok-zeros.ensures.len;
      two = c.requires.slots.0;
      most = c.requires.slots.1;
      few = c.requires.vars;
      sound = subst (λ (m : Seated). IsSound m.0) (sym me) (sound_first record { vars = c.args.vars; slots = c.args.slots });
      none = λ _. subst (λ (m : Seated). HoldsNothing m.0) (sym me) (λ r n e. no_entry r n e);
      some = λ ne. absurd (ne refl);
    }
