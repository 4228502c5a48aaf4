use Rattle.std.proofs.Common.{refl, ◌≡◌, not, List, ◌∷◌, ◌++◌, ◌∙◌, ap, sym, subst, Ok, Err}
use Rattle.std.specs.Prelude.{slice_get}
use Rattle.std.proofs.lemmas.List.Elements.{Contains-append_left, Contains-append_right}
use Rattle.ste_base.specs.Functions.{Function}
use Rattle.dd_nodes.specs.Stores.{Store}
use Rattle.dd_nodes.proofs.Walks.{IsFrom-grows}
use Rattle.net_core.specs.declared.cover.Cover.{Cover}
use Rattle.net_core.specs.declared.raw.Gate.{Gate}
use Rattle.net_core.specs.Work.{SymbolicSet, after_cuts, cover_work, cuts_work, input_sets, output_set, some_bit}
use Rattle.net_core.proofs.Among.{get_some}
use Rattle.dual_rail.specs.Rail.{AreRails, Built, HasSet}
use Rattle.dual_rail.proofs.Works.{Within, here, behind, So-start, Built-wider, first, last, pass, refs_of}
use Rattle.dual_rail.proofs.Turns.{within_more}
use Rattle.gate_sets.specs.Fillings.{AreFilled}
use Rattle.gate_sets.specs.Lists.{rows_of}
use Rattle.gate_sets.specs.NetSets.{HasNetSet, net_at, own_where}
use Rattle.gate_sets.proofs.NetRefs.{own_inputs}
use Rattle.gate_sets.proofs.Placed.{RowsAt, full_output, known_output}
use Rattle.sym_step.proofs.Cutting.{Demands-keep}
use Rattle.sym_step.proofs.place.driven.Goals as goal

pub gate_set-requires-clause-filled : goal.gate_set-requires-clause-filled
gate_set-requires-clause-filled g c = subst (AreFilled c.filling_of-filling.result c.args.nets.now) c.as_slice.ensures c.filling_of-filling.ensures

pub cut_full-requires-clause-rails : goal.cut_full-requires-clause-rails
cut_full-requires-clause-rails g c =
    let s : Store = g.N.Nodes.store c.args.nodes.now in
    let t : Store = g.N.Nodes.store c.gate_set.new.nodes in
    let nets = c.args.nets.now in
    let mine = c.in_ok-given.ensures.built (λ id. own_where s (net_at nets id)) (own_inputs s nets c.args.g.now.inputs c.requires.inside c.requires.refs) in
    refs_of t _ c.in_ok-given.given mine.ok

pub cut_full-requires-clause-guards : goal.cut_full-requires-clause-guards
cut_full-requires-clause-guards g c =
    let s : Store = g.N.Nodes.store c.args.nodes.now in
    let t : Store = g.N.Nodes.store c.gate_set.new.nodes in
    let nets = c.args.nets.now in
    let mine = c.in_ok-given.ensures.built (λ id. own_where s (net_at nets id)) (own_inputs s nets c.args.g.now.inputs c.requires.inside c.requires.refs) in
    λ i d l. IsFrom-grows s.held t.held 0 _ mine.spends.keeps.grows (c.requires.guards i d l)

pub cut_full-requires-clause-values : goal.cut_full-requires-clause-values
cut_full-requires-clause-values g c =
    let s : Store = g.N.Nodes.store c.args.nodes.now in
    let t : Store = g.N.Nodes.store c.gate_set.new.nodes in
    let nets = c.args.nets.now in
    let mine = c.in_ok-given.ensures.built (λ id. own_where s (net_at nets id)) (own_inputs s nets c.args.g.now.inputs c.requires.inside c.requires.refs) in
    λ i d l. IsFrom-grows s.held t.held 0 _ mine.spends.keeps.grows (c.requires.values i d l)

pub returns-in_err-given-clause-built : goal.returns-in_err-given-clause-built
returns-in_err-given-clause-built g c = λ ds before sets zip have is.
    let s : Store = g.N.Nodes.store c.args.nodes.now in
    let t : Store = g.N.Nodes.store c.gate_set.new.nodes in
    let ds' = g.met.N.Nodes.diagram c.args.nodes.now in
    let dt = g.met.N.Nodes.diagram c.gate_set.new.nodes in
    let gate : Gate = c.args.g.now in
    let fault = c.in_err-given.field-0.0 in
    let some : Function = some_bit (after_cuts ds before gate.output.0) in
    let given_work : List Function = cover_work (slice_get c.args.net.now.raw.covers gate.cover) (input_sets sets gate) in
    let work : List Function = some ∷ (given_work ++ cuts_work ds before) in
    let given_in : Within given_work work = λ f h. behind some (given_work ++ cuts_work ds before) f (Contains-append_left given_work (cuts_work ds before) f h) in
    let is_given = HasSet (output_set c.args.net.now.raw sets gate) in
    pass work is_given (HasNetSet (after_cuts ds before gate.output.0)) s s t fault c.from_residual.result ds' dt (So-start work s)
    (Built-wider work given_work is_given s t (Err fault) given_in (c.in_err-given.ensures.built sets have)) c.from_residual.ensures.1

pub returns-clause-built : goal.returns-clause-built
returns-clause-built g c = λ ds before sets zip have is.
    let s : Store = g.N.Nodes.store c.args.nodes.now in
    let t : Store = g.N.Nodes.store c.gate_set.new.nodes in
    let ds' = g.met.N.Nodes.diagram c.args.nodes.now in
    let dt = g.met.N.Nodes.diagram c.gate_set.new.nodes in
    let u : Store = g.N.Nodes.store c.cut_full.new.nodes in
    let du = g.met.N.Nodes.diagram c.cut_full.new.nodes in
    let net = c.args.net.now in
    let covers : List Cover = net.raw.covers in
    let gate : Gate = c.args.g.now in
    let k = gate.cover in
    let nets = c.args.nets.now in
    let known = get_some covers k c.requires.cover in
    let at : RowsAt covers k (rows_of known.0) = record { cover = known.0; is = known.1; lists_are = refl } in
    let width = c.requires.width known.0 known.1 in
    let filled : AreFilled c.filling_of-filling.result nets gate.inputs = subst (AreFilled c.filling_of-filling.result nets) c.as_slice.ensures c.filling_of-filling.ensures in
    let given = c.in_ok-given.given in
    let some : Function = some_bit (after_cuts ds before gate.output.0) in
    let given_work : List Function = cover_work (slice_get covers k) (input_sets sets gate) in
    let work : List Function = some ∷ (given_work ++ cuts_work ds before) in
    let given_in : Within given_work work = λ f h. behind some (given_work ++ cuts_work ds before) f (Contains-append_left given_work (cuts_work ds before) f h) in
    let is_given = HasSet (output_set net.raw sets gate) in
    let a : Built work is_given s t (Ok given) = Built-wider work given_work is_given s t (Ok given) given_in (c.in_ok-given.ensures.built sets have) in
    last work (HasNetSet (after_cuts ds before gate.output.0)) s t u c.cut_full.result dt du (first work is_given s t (Ok given) a)
    (Built-wider work (some ∷ cuts_work ds before) (HasNetSet (after_cuts ds before gate.output.0)) t u c.cut_full.result
    (within_more some (cuts_work ds before) work (here some (given_work ++ cuts_work ds before)) (λ f h. behind some (given_work ++ cuts_work ds before) f (Contains-append_right given_work (cuts_work ds before) f h)))
    (c.cut_full.ensures ds before (Demands-keep s t ds c.args.demands.now.cuts ds' dt a.spends.keeps zip) (subst (λ (w : SymbolicSet). AreRails t w given) (sym is) a.ok)
    (λ yes bits l. ap (λ (w : SymbolicSet). some_bit w bits) is
    ∙ full_output covers k (rows_of known.0) sets nets gate.inputs s ds' at net.in_range.sound c.requires.cover width (filled.full yes) have bits (l ∙ a.spends.keeps.vars))
    (λ yes bits l. subst (λ (w : SymbolicSet). w.zero bits ≡ not (w.one bits)) (sym is)
    (known_output covers k (rows_of known.0) sets nets gate.inputs s at net.in_range.sound c.requires.cover width (filled.known yes) have bits (l ∙ a.spends.keeps.vars)))))
