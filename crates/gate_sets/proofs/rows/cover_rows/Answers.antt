use Rattle.std.proofs.Common.{◌≡◌, List, length, All, sym, ◌∙◌, subst}
use Rattle.net_core.specs.declared.cover.Lit.{Lit}
use Rattle.net_core.proofs.Complement.{others_complement}
use Rattle.gate_sets.proofs.rows.cover_rows.Goals as goal

pub kind_of-requires-clause-off : goal.kind_of-requires-clause-off
kind_of-requires-clause-off c =
    subst (λ (rows : List (List Lit)). All (λ row. length row ≡ c.args.cover.now.inputs) rows) (sym (c.as_slice.ensures ∙ c.in_ok-others.ensures)) (others_complement.wide c.args.cover.now)

pub kind_of-requires-else-cover-clause-on : goal.kind_of-requires-else-cover-clause-on
kind_of-requires-else-cover-clause-on c =
    subst (λ (rows : List (List Lit)). All (λ row. length row ≡ c.args.cover.now.inputs) rows) (sym (c.as_slice-else-cover.ensures ∙ c.in_ok-others.ensures)) (others_complement.wide c.args.cover.now)
