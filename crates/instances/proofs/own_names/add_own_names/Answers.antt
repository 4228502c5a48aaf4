use Rattle.std.proofs.Common.{◌∙◌, ◌++◌, ap, sym, length}
use Rattle.hierarchy.specs.Names.{path_text}
use Rattle.instances.specs.Numbers.{own_names_in}
use Rattle.instances.proofs.OwnNames.{keys_at}
use Rattle.instances.proofs.own_names.add_own_names.Goals as goal

pub add_own-requires : goal.add_own-requires
add_own-requires c = c.requires.long ∙ ap (λ l. length l) (sym (keys_at (λ set. set.keys) c.args.signals.now c.args.model c.index-signals-model.result c.requires.model c.index-signals-model.is))

pub returns : goal.returns
returns c = λ paths links path at. c.in_ok-add_own.ensures
    ∙ ap (λ p. c.args.names.now ++ own_names_in p c.index-signals-model.result.keys c.args.bounds.now) (c.deref.ensures.value ∙ c.in_ok-add_path.ensures paths links path at ∙ ap (λ t. t ++ path_text path) c.new-path.ensures.items)
    ∙ ap (λ k. c.args.names.now ++ own_names_in (path_text path) k c.args.bounds.now) (keys_at (λ set. set.keys) c.args.signals.now c.args.model c.index-signals-model.result c.requires.model c.index-signals-model.is)
