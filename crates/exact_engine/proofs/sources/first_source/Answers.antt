use Rattle.std.proofs.Common.{◌≡◌, List, sym, ◌∙◌, ap, subst, refl, get_or}
use Rattle.net_core.specs.declared.raw.Latch.{Latch}
use Rattle.std.specs.Prelude.{IsTrue}
use Rattle.net_core.specs.declared.source.Source.{Source}
use Rattle.net_core.specs.declared.raw.Init.TheVariants as init
use Rattle.std.proofs.lemmas.List.{get_or_default}
use Rattle.exact_model.specs.Choices.{is_open}
use Rattle.exact_engine.proofs.Starts.{first_latch, gate_source, latch_inside, open_source}
use Rattle.exact_engine.proofs.sources.first_source.Goals as goal

pub returns-in-Input-clause-built : goal.returns-in-Input-clause-built
returns-in-Input-clause-built g c = λ bit first choice starts.
    let net = c.args.net.now in
    open_source net.raw net.one_driver c.args.node.0 (g.N.Nodes.store c.args.nodes.now) (g.N.Nodes.store c.var.new.nodes) bit c.source.result c.args.choice c.var.result c.requires.inside c.source.ensures
    (subst (λ (x : Source). IsTrue (is_open x)) (sym c.in-Input.is) refl) choice c.var.ensures

pub returns-in-Free-clause-built : goal.returns-in-Free-clause-built
returns-in-Free-clause-built g c = λ bit first choice starts.
    let net = c.args.net.now in
    open_source net.raw net.one_driver c.args.node.0 (g.N.Nodes.store c.args.nodes.now) (g.N.Nodes.store c.var-in-Free.new.nodes) bit c.source.result c.args.choice c.var-in-Free.result c.requires.inside c.source.ensures
    (subst (λ (x : Source). IsTrue (is_open x)) (sym c.in-Free.is) refl) choice c.var-in-Free.ensures

pub returns-in-Gate-clause-built : goal.returns-in-Gate-clause-built
returns-in-Gate-clause-built g c = λ bit first choice starts.
    let net = c.args.net.now in
    gate_source net.raw net.one_driver c.args.node.0 (g.N.Nodes.store c.args.nodes.now) bit c.source.result c.in-Gate.field-0 (record { 0 = 0 }) c.source.ensures c.in-Gate.is

pub returns-in-Latch-clause-built : goal.returns-in-Latch-clause-built
returns-in-Latch-clause-built g c = λ bit first choice starts.
    let net = c.args.net.now in
    let l = c.in-Latch.number in
    let d : Latch = record { input = record { 0 = 0 }; output = record { 0 = 0 }; init = init.Zero } in
    let latch : Latch = get_or c.latches.result.now l d in
    let inside = latch_inside net.raw net.one_driver c.args.node.0 c.source.result l c.source.ensures c.in-Latch.is in
    let at : latch ≡ get_or net.raw.latches l latch = ap (λ (xs : List Latch). get_or xs l d) c.latches.ensures ∙ get_or_default net.raw.latches l d latch inside in
    first_latch net.raw net.one_driver c.args.node.0 (g.N.Nodes.store c.args.nodes.now) (g.N.Nodes.store c.first_bit.new.nodes) bit c.source.result l latch c.args.reset c.args.first c.first_bit.result c.requires.inside c.source.ensures c.in-Latch.is at first starts c.first_bit.ensures.built
