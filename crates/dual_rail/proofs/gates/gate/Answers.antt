use Rattle.std.proofs.Common.{◌≡◌, ◌↔◌, ◌∷◌, [], Bool, List, length, map, refl, sym, ◌∙◌, ap, subst, Ok, Err}
use Rattle.std.specs.List.{AllZip}
use Rattle.ste_base.specs.Functions.{Function}
use Rattle.dd_nodes.specs.Stores.{Store, function}
use Rattle.net_core.specs.Work.{SymbolicSet, sum, row_products, rows_work, gate_set, gate_work}
use Rattle.dual_rail.specs.declared.rails.Rails.{Rails}
use Rattle.dual_rail.specs.Rail.{AreRails, Built, HasFunction, HasSet, set_of}
use Rattle.dual_rail.proofs.Works.{So-start, Built-made, Built-wider, first, more, pass}
use Rattle.dd_nodes.proofs.Stores.{Means-keeps}
use Rattle.std.specs.Prelude.{◌↔◌}
use Rattle.net_core.specs.declared.bit_set.BitSet.{BitSet}
use Rattle.net_core.specs.Cover.{some_matches}
use Rattle.net_core.specs.Sets.{IsIn}
use Rattle.net_core.specs.Possible.{MayGive}
use Rattle.net_core.specs.Work.{AreWide, set_at}
use Rattle.net_core.proofs.Possible.{same_fields}
use Rattle.std.proofs.lemmas.List.{length-map}
use Rattle.std.proofs.lemmas.List.Elements.{Contains-append_left, Contains-append_right}
use Rattle.dual_rail.proofs.Works.{set_where}
use Rattle.net_core.proofs.GateSets.{gate_exact}
use Rattle.dual_rail.proofs.Turns.{own_zip, Zip-keep, All-refs-keep}
use Rattle.dual_rail.proofs.gates.gate.Goals as goal

pub rows_sum-requires-2-clause-refs : goal.rows_sum-requires-2-clause-refs
rows_sum-requires-2-clause-refs g c =
    let s : Store = g.N.Nodes.store c.args.nodes.now in
    let t : Store = g.N.Nodes.store c.rows_sum.new.nodes in
    All-refs-keep s t c.args.inputs.now (c.in_ok-can1.ensures (map (set_where s) c.args.inputs.now) (own_zip s c.args.inputs.now c.requires.refs)).spends.keeps c.requires.refs

pub returns-in_err-can1-clause-built : goal.returns-in_err-can1-clause-built
returns-in_err-can1-clause-built g c = λ sets zip.
    let s : Store = g.N.Nodes.store c.args.nodes.now in
    let t : Store = g.N.Nodes.store c.rows_sum.new.nodes in
    let on = c.args.on.now in
    let off = c.args.off.now in
    let work : List Function = gate_work on off sets in
    let one : Function = sum (row_products on sets) in
    let fault = c.in_err-can1.field-0.0 in
    pass work (HasFunction one) (HasSet (gate_set on off sets)) s s t fault c.from_residual.result (g.met.N.Nodes.diagram c.args.nodes.now) (g.met.N.Nodes.diagram c.rows_sum.new.nodes) (So-start work s)
    (Built-wider work (rows_work on sets) (HasFunction one) s t (Err fault) (Contains-append_left (rows_work on sets) (rows_work off sets)) (c.in_err-can1.ensures sets zip)) c.from_residual.ensures.1

pub returns-in_err-can0-clause-built : goal.returns-in_err-can0-clause-built
returns-in_err-can0-clause-built g c = λ sets zip.
    let s : Store = g.N.Nodes.store c.args.nodes.now in
    let t : Store = g.N.Nodes.store c.rows_sum.new.nodes in
    let u : Store = g.N.Nodes.store c.rows_sum-2.new.nodes in
    let ds = g.met.N.Nodes.diagram c.args.nodes.now in
    let dt = g.met.N.Nodes.diagram c.rows_sum.new.nodes in
    let on = c.args.on.now in
    let off = c.args.off.now in
    let work : List Function = gate_work on off sets in
    let one : Function = sum (row_products on sets) in
    let zero : Function = sum (row_products off sets) in
    let fault = c.in_err-can0.field-0.0 in
    let made : Built work (HasFunction one) s t (Ok c.in_ok-can1.can1) = Built-wider work (rows_work on sets) (HasFunction one) s t (Ok c.in_ok-can1.can1) (Contains-append_left (rows_work on sets) (rows_work off sets)) (c.in_ok-can1.ensures sets zip) in
    pass work (HasFunction zero) (HasSet (gate_set on off sets)) s t u fault c.from_residual-in_err-can0.result dt (g.met.N.Nodes.diagram c.rows_sum-2.new.nodes) (first work (HasFunction one) s t (Ok c.in_ok-can1.can1) made)
    (Built-wider work (rows_work off sets) (HasFunction zero) t u (Err fault) (Contains-append_right (rows_work on sets) (rows_work off sets)) (c.in_err-can0.ensures sets (Zip-keep s t sets c.args.inputs.now ds dt made.spends.keeps zip))) c.from_residual-in_err-can0.ensures.1

built : (g : _) (c : goal.In_ok-can0 g) (sets : List SymbolicSet) → AllZip (AreRails (g.N.Nodes.store c.args.nodes.now)) sets c.args.inputs.now → Built (gate_work c.args.on.now c.args.off.now sets) (HasSet (gate_set c.args.on.now c.args.off.now sets)) (g.N.Nodes.store c.args.nodes.now) (g.N.Nodes.store c.rows_sum-2.new.nodes) (Ok (record { can0 = c.in_ok-can0.can0; can1 = c.in_ok-can1.can1 }))
built g c sets zip =
    let s : Store = g.N.Nodes.store c.args.nodes.now in
    let t : Store = g.N.Nodes.store c.rows_sum.new.nodes in
    let u : Store = g.N.Nodes.store c.rows_sum-2.new.nodes in
    let ds = g.met.N.Nodes.diagram c.args.nodes.now in
    let dt = g.met.N.Nodes.diagram c.rows_sum.new.nodes in
    let du = g.met.N.Nodes.diagram c.rows_sum-2.new.nodes in
    let on = c.args.on.now in
    let off = c.args.off.now in
    let work : List Function = gate_work on off sets in
    let one : Function = sum (row_products on sets) in
    let zero : Function = sum (row_products off sets) in
    let can1 = c.in_ok-can1.can1 in
    let can0 = c.in_ok-can0.can0 in
    let rails : Rails = record { can0 = can0; can1 = can1 } in
    let made : Built work (HasFunction one) s t (Ok can1) = Built-wider work (rows_work on sets) (HasFunction one) s t (Ok can1) (Contains-append_left (rows_work on sets) (rows_work off sets)) (c.in_ok-can1.ensures sets zip) in
    let next : Built work (HasFunction zero) t u (Ok can0) = Built-wider work (rows_work off sets) (HasFunction zero) t u (Ok can0) (Contains-append_right (rows_work on sets) (rows_work off sets)) (c.in_ok-can0.ensures sets (Zip-keep s t sets c.args.inputs.now ds dt made.spends.keeps zip)) in
    Built-made work (HasSet (gate_set on off sets)) s u rails (more work (HasFunction zero) s t u (Ok can0) dt du (first work (HasFunction one) s t (Ok can1) made) next)
    (record { zero = next.ok; one = Means-keeps t u one can1 dt du next.spends.keeps made.ok })

pub returns-clause-built : goal.returns-clause-built
returns-clause-built g c = λ sets zip. built g c sets zip

same_sets : (s : Store) (bits : List Bool) (inputs : List Rails) → map (set_at bits) (map (set_where s) inputs) ≡ map (set_of s bits) inputs
same_sets s bits [] = refl
same_sets s bits (r ∷ rs) = ap (λ xs. set_of s bits r ∷ xs) (same_sets s bits rs)

pub returns-clause-exact : goal.returns-clause-exact
returns-clause-exact g c = λ bits l bit.
    let s : Store = g.N.Nodes.store c.args.nodes.now in
    let u : Store = g.N.Nodes.store c.rows_sum-2.new.nodes in
    let on = c.args.on.now in
    let off = c.args.off.now in
    let sets : List SymbolicSet = map (set_where s) c.args.inputs.now in
    let n : length sets ≡ length c.args.inputs.now = length-map c.args.inputs.now (set_where s) in
    let b = built g c sets (own_zip s c.args.inputs.now c.requires.refs) in
    let rails : Rails = record { can0 = c.in_ok-can0.can0; can1 = c.in_ok-can1.can1 } in
    let w : SymbolicSet = gate_set on off sets in
    let lu = l ∙ sym b.spends.keeps.vars in
    let same : set_at bits w ≡ set_of u bits rails = same_fields (w.zero bits) (function u c.in_ok-can0.can0 bits) (w.one bits) (function u c.in_ok-can1.can1 bits) (sym (b.ok.zero.value bits lu)) (sym (b.ok.one.value bits lu)) in
    let exact = gate_exact on off sets bits bit (subst (AreWide on) (sym n) c.requires.on) (subst (AreWide off) (sym n) c.requires.off) (λ bs m. c.requires.apart bs (m ∙ n)) in
    subst (λ (x : BitSet). IsIn bit x ↔ MayGive (some_matches on) (map (set_of s bits) c.args.inputs.now) bit) same
    (subst (λ (xs : List BitSet). IsIn bit (set_at bits w) ↔ MayGive (some_matches on) xs bit) (same_sets s bits c.args.inputs.now) exact)
