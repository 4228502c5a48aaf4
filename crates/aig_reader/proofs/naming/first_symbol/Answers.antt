use Rattle.std.proofs.Common.{ap, sym, ◌∙◌, slice_get}
use Rattle.std.specs.Prelude.{nat_eq, option_and_then, option_map}
use Rattle.std.specs.List.{position}
use Rattle.aig_model.specs.declared.aig.Symbol.{Symbol}
use Rattle.aig_reader.proofs.Placing.{symbol_placed}
use Rattle.aig_reader.proofs.naming.first_symbol.Goals as goal

pub returns-in-None : goal.returns-in-None
returns-in-None c =
    ap (λ o. option_map (λ (symbol : Symbol). symbol.name) (option_and_then (slice_get
    c.args.symbols.now) o)) (sym c.in-None.is)
    ∙ symbol_placed c.args.symbols.now c.args.number c.place.result (c.place.ensures
    ∙ ap (position (nat_eq c.args.number)) c.requires)

pub returns-in-Some : goal.returns-in-Some
returns-in-Some c =
    c.name_at.ensures
    ∙ ap (λ o. option_map (λ (symbol : Symbol). symbol.name) (option_and_then (slice_get
    c.args.symbols.now) o)) (sym c.in-Some.is)
    ∙ symbol_placed c.args.symbols.now c.args.number c.place.result (c.place.ensures
    ∙ ap (position (nat_eq c.args.number)) c.requires)
