use Rattle.std.proofs.Common.{ap, sym, subst, ◌∙◌, ◌≡◌, slice_get, unwrap_or}
use Rattle.std.specs.Prelude.{IfOk, nat_eq, option_and_then}
use Rattle.std.specs.List.{position}
use Rattle.std.specs.Option.{option_copied}
use Rattle.aig_model.specs.declared.aig.Aig.{Aig}
use Rattle.aig_model.specs.Names.{own_variable, variable_name}
use Rattle.aig_reader.proofs.Placing.{name_found}
use Rattle.aig_reader.proofs.naming.Naming.variable_name.Goals as goal

pub returns-in-None : goal.returns-in-None
returns-in-None c =
    let found = c.name_placed.ensures ∙ ap (λ xs. option_and_then (slice_get xs) (position (nat_eq
    c.args.var) c.self.inside.places)) c.as_slice.ensures in
    let same = name_found c.self.inside.aig.now c.self.inside.places c.self.inside.found c.args.var
    (option_copied c.name_placed.result) c.self.invariant.0 c.self.invariant.1 found in
    let own = sym (ap (λ (aig : Aig). variable_name aig c.args.var) c.self.view_is) ∙ same ∙ ap
    (λ o. unwrap_or (option_copied o) (own_variable c.args.var)) c.in-None.is in
    subst (λ x. IfOk c.own_variable.result (λ name. name ≡ x)) (sym own) c.own_variable.ensures
