use Rattle.std.proofs.Common.{sym, subst}
use Rattle.atomic_table.specs.Table.{Me}
use Rattle.dd_table.specs.declared.views.View.{View}
use Rattle.dd_table.specs.Tells.{IsSound}
use Rattle.dd_table.proofs.Unions.{sound_nothing}
use Rattle.dd_table.proofs.steps.unite.Goals as goal

abbrev Seated : Type 0
Seated = Me Unit View

pub returns-else-some-ne0-clause-sound : goal.returns-else-some-ne0-clause-sound
returns-else-some-ne0-clause-sound c =
    let b = c.requires.bare c.if-some-ne0.false in
    let s = c.requires.sound in
    subst (λ (m : Seated). IsSound m.0) (sym c.join.ensures.both) (sound_nothing c.args.seat.now.me.0 c.args.other.me.0 s.0 s.1 b.0 b.1)
