use Rattle.std.proofs.Common.{false, ◌≡◌, ◌≢◌, ◌<◌, ℕ, Bool, not, List, [], ◌∷◌, All, length, get_or, sym, ◌∙◌, ap, subst, arith, Ok, Err, Result}
use Rattle.std.proofs.lemmas.List.{get_or_default}
use Rattle.std.proofs.Math.Bool.{not-not}
use Rattle.ste_base.specs.declared.id.NodeId.{NodeId}
use Rattle.ste_base.specs.Functions.{Function}
use Rattle.dd_nodes.specs.Stores.{Store}
use Rattle.dd_nodes.proofs.Stores.{IsGood}
use Rattle.net_core.specs.declared.cover.Lit.{Lit}
use Rattle.net_core.specs.declared.cover.Lit.TheVariants.{Any}
use Rattle.net_core.specs.Cover.{some_matches}
use Rattle.net_core.specs.Work.{AreWide, SymbolicSet, gate_set, gate_work}
use Rattle.dual_rail.specs.declared.rails.Rails.{Rails}
use Rattle.dual_rail.specs.Rail.{Built, HasSet}
use Rattle.dual_rail.proofs.Works.{So-start, Built-made, first, pass}
use Rattle.gate_sets.specs.declared.net_rails.NetRails.{NetRails}
use Rattle.gate_sets.specs.NetSets.{AreNetRails, HaveInputs, net_at, sets_at}
use Rattle.gate_sets.proofs.NetRefs.{input_here}
use Rattle.gate_sets.proofs.Known.{exclusive_gate}
use Rattle.gate_sets.proofs.Pairs.{SwappedSet, TwoInputs, pair_row, pair_on, pair_off, two_inputs, two_known}
use Rattle.net_core.specs.declared.cover.Cover.{Cover}
use Rattle.net_core.specs.Cases.{on_rows, off_rows}
use Rattle.dd_ops.specs.declared.fault.OpFault.{OpFault}
use Rattle.gate_sets.specs.declared.rows.CoverRows.{CoverRows}
use Rattle.gate_sets.specs.Lists.{rows_of}
use Rattle.gate_sets.proofs.Placed.{BothLists, cover_lists}
use Rattle.gate_sets.proofs.ways.cover_set.Goals as goal

abbrev no_net : NodeId
no_net = record { 0 = 0 }

abbrev no_rails : NetRails
no_rails = record { can0 = record { 0 = 0 }; can1 = record { 0 = 0 }; some = record { 0 = 0 }; known = false }

-- what is known of the two inputs, as they were read
known : (x y : Lit) (rows others : List (List Lit)) (nets : List NetRails) (inputs : List NodeId) (s : Store) → IsGood s → length inputs ≡ 2
    → All (λ input. input.0 < length nets) inputs → All (λ input. (net_at nets input.0).some ≡ record { 0 = 1 }) inputs
    → rows ≡ pair_row x y → y ≢ Any → AreWide others (length inputs) → ((bs : List Bool) → length bs ≡ length inputs → some_matches others bs ≡ not (some_matches rows bs))
    → (sets : ℕ → SymbolicSet) → HaveInputs s sets nets inputs
    → TwoInputs x y others nets inputs (get_or inputs 0 no_net) (get_or inputs 1 no_net) (get_or nets (get_or inputs 0 no_net).0 no_rails) (get_or nets (get_or inputs 1 no_net).0 no_rails) s sets
known x y rows others nets inputs s d two inside full =
    let first : 0 < length inputs = omega (arith, two) in
    let second : 1 < length inputs = omega (arith, two) in
    two_known x y rows others nets inputs _ _ _ _ s d two (get_or_default inputs 0 _ no_net first) (get_or_default inputs 1 _ no_net second)
    (get_or_default nets _ _ no_rails (inside 0 no_net first)) (get_or_default nets _ _ no_rails (inside 1 no_net second)) inside full

-- what is made of both lists is made of the cover's rows
by_lists : (cover : Cover) (lists : CoverRows) (ws : List SymbolicSet) (s t : Store) (result : Result Rails OpFault) → lists ≡ rows_of cover
    → Built (gate_work lists.on.list lists.off.list ws) (HasSet (gate_set lists.on.list lists.off.list ws)) s t result
    → Built (gate_work (on_rows cover) (off_rows cover) ws) (HasSet (gate_set (on_rows cover) (off_rows cover) ws)) s t result
by_lists cover lists ws s t result are = subst (λ (r : CoverRows). Built (gate_work r.on.list r.off.list ws) (HasSet (gate_set r.on.list r.off.list ws)) s t result) are

pub returns-in-Some-clause-built : goal.returns-in-Some-clause-built
returns-in-Some-clause-built g c = λ sets have.
    let both : BothLists c.args.rows.now (length c.args.inputs.now) = cover_lists c.args.cover.now c.args.rows.now (length c.args.inputs.now) c.requires.rows c.requires.sound c.requires.width in
    let s : Store = g.N.Nodes.store c.args.nodes.now in
    let t : Store = g.N.Nodes.store c.pair.new.nodes in
    let inputs : List NodeId = c.args.inputs.now in
    let on = c.args.rows.now.on.list in
    let off = c.args.rows.now.off.list in
    let x = c.in-Some.x in
    let y = c.in-Some.y in
    let v : SymbolicSet = sets (get_or inputs 0 no_net).0 in
    let w : SymbolicSet = sets (get_or inputs 1 no_net).0 in
    let k = known x y on off c.args.nets.now inputs s (g.met.N.Nodes.diagram c.args.nodes.now) c.if-inputs-eq2.true c.requires.inside (c.requires.filled.full (c.is_full-full.ensures.0 c.if-full.true))
    c.in-Some.ensures.row c.in-Some.ensures.some both.wide_off both.apart sets have in
    by_lists c.args.cover.now c.args.rows.now (sets_at sets inputs) s t c.pair.result c.requires.rows
    (subst (λ (ids : List NodeId). Built (gate_work on off (sets_at sets ids)) (HasSet (gate_set on off (sets_at sets ids))) s t c.pair.result) (sym k.are)
    (subst (λ (rows : List (List Lit)). Built (gate_work rows off (v ∷ w ∷ [])) (HasSet (gate_set rows off (v ∷ w ∷ []))) s t c.pair.result) (sym c.in-Some.ensures.row)
    (pair_on x y off v w s t c.pair.result k.against (c.pair.ensures v w k.left k.right))))

-- the rows that stand against the off-rows
against_off : (on off : List (List Lit)) (n : ℕ) → ((bs : List Bool) → length bs ≡ n → some_matches off bs ≡ not (some_matches on bs)) → (bs : List Bool) → length bs ≡ n → some_matches on bs ≡ not (some_matches off bs)
against_off on off n apart bs l = sym (ap not (apart bs l) ∙ not-not (some_matches on bs))

pub returns-in_err-swapped-clause-built : goal.returns-in_err-swapped-clause-built
returns-in_err-swapped-clause-built g c = λ sets have.
    let both : BothLists c.args.rows.now (length c.args.inputs.now) = cover_lists c.args.cover.now c.args.rows.now (length c.args.inputs.now) c.requires.rows c.requires.sound c.requires.width in
    let s : Store = g.N.Nodes.store c.args.nodes.now in
    let t : Store = g.N.Nodes.store c.pair-in-Some-only_pair.new.nodes in
    let ds = g.met.N.Nodes.diagram c.args.nodes.now in
    let dt = g.met.N.Nodes.diagram c.pair-in-Some-only_pair.new.nodes in
    let inputs : List NodeId = c.args.inputs.now in
    let on = c.args.rows.now.on.list in
    let off = c.args.rows.now.off.list in
    let x = c.in-Some-only_pair.x in
    let y = c.in-Some-only_pair.y in
    let v : SymbolicSet = sets (get_or inputs 0 no_net).0 in
    let w : SymbolicSet = sets (get_or inputs 1 no_net).0 in
    let fault = c.in_err-swapped.field-0.0 in
    let k = known x y off on c.args.nets.now inputs s ds c.if-inputs-eq2.true c.requires.inside (c.requires.filled.full (c.is_full-full.ensures.0 c.if-full.true))
    c.in-Some-only_pair.ensures.row c.in-Some-only_pair.ensures.some both.wide_on (against_off on off (length inputs) both.apart) sets have in
    let work : List Function = gate_work on off (v ∷ w ∷ []) in
    by_lists c.args.cover.now c.args.rows.now (sets_at sets inputs) s t c.from_residual.result c.requires.rows
    (subst (λ (ids : List NodeId). Built (gate_work on off (sets_at sets ids)) (HasSet (gate_set on off (sets_at sets ids))) s t c.from_residual.result) (sym k.are)
    (pass work (SwappedSet x y on v w) (HasSet (gate_set on off (v ∷ w ∷ []))) s s t fault c.from_residual.result ds dt (So-start work s)
    (subst (λ (rows : List (List Lit)). Built (gate_work on rows (v ∷ w ∷ [])) (SwappedSet x y on v w) s t (Err fault)) (sym c.in-Some-only_pair.ensures.row)
    (pair_off x y on v w s t (Err fault) k.against (c.in_err-swapped.ensures v w k.left k.right))) c.from_residual.ensures.1))

pub returns-in-Some-only_pair-clause-built : goal.returns-in-Some-only_pair-clause-built
returns-in-Some-only_pair-clause-built g c = λ sets have.
    let both : BothLists c.args.rows.now (length c.args.inputs.now) = cover_lists c.args.cover.now c.args.rows.now (length c.args.inputs.now) c.requires.rows c.requires.sound c.requires.width in
    let s : Store = g.N.Nodes.store c.args.nodes.now in
    let t : Store = g.N.Nodes.store c.pair-in-Some-only_pair.new.nodes in
    let ds = g.met.N.Nodes.diagram c.args.nodes.now in
    let inputs : List NodeId = c.args.inputs.now in
    let on = c.args.rows.now.on.list in
    let off = c.args.rows.now.off.list in
    let x = c.in-Some-only_pair.x in
    let y = c.in-Some-only_pair.y in
    let v : SymbolicSet = sets (get_or inputs 0 no_net).0 in
    let w : SymbolicSet = sets (get_or inputs 1 no_net).0 in
    let swapped = c.in_ok-swapped.swapped in
    let rails : Rails = record { can0 = swapped.can1; can1 = swapped.can0 } in
    let k = known x y off on c.args.nets.now inputs s ds c.if-inputs-eq2.true c.requires.inside (c.requires.filled.full (c.is_full-full.ensures.0 c.if-full.true))
    c.in-Some-only_pair.ensures.row c.in-Some-only_pair.ensures.some both.wide_on (against_off on off (length inputs) both.apart) sets have in
    let b = pair_off x y on v w s t (Ok swapped) k.against (c.in_ok-swapped.ensures v w k.left k.right) in
    by_lists c.args.cover.now c.args.rows.now (sets_at sets inputs) s t (Ok rails) c.requires.rows
    (subst (λ (ids : List NodeId). Built (gate_work on off (sets_at sets ids)) (HasSet (gate_set on off (sets_at sets ids))) s t (Ok rails)) (sym k.are)
    (subst (λ (rows : List (List Lit)). Built (gate_work on rows (v ∷ w ∷ [])) (HasSet (gate_set on rows (v ∷ w ∷ []))) s t (Ok rails)) (sym c.in-Some-only_pair.ensures.row)
    (Built-made (gate_work on (pair_row x y) (v ∷ w ∷ [])) (HasSet (gate_set on (pair_row x y) (v ∷ w ∷ []))) s t rails (first (gate_work on (pair_row x y) (v ∷ w ∷ [])) (SwappedSet x y on v w) s t (Ok swapped) b) b.ok)))

pub returns-in-Some-only_exclusive-clause-built : goal.returns-in-Some-only_exclusive-clause-built
returns-in-Some-only_exclusive-clause-built g c = λ sets have.
    let both : BothLists c.args.rows.now (length c.args.inputs.now) = cover_lists c.args.cover.now c.args.rows.now (length c.args.inputs.now) c.requires.rows c.requires.sound c.requires.width in
    let s : Store = g.N.Nodes.store c.args.nodes.now in
    let t : Store = g.N.Nodes.store c.exclusive.new.nodes in
    let nets : List NetRails = c.args.nets.now in
    let inputs : List NodeId = c.args.inputs.now in
    let on = c.args.rows.now.on.list in
    let off = c.args.rows.now.off.list in
    let x = c.in-Some-only_exclusive.x in
    let y = c.in-Some-only_exclusive.y in
    let i : NodeId = get_or inputs 0 no_net in
    let j : NodeId = get_or inputs 1 no_net in
    let a : NetRails = get_or nets i.0 no_rails in
    let b : NetRails = get_or nets j.0 no_rails in
    let v : SymbolicSet = sets i.0 in
    let w : SymbolicSet = sets j.0 in
    let two : length inputs ≡ 2 = c.if-inputs-eq2.true in
    let first : 0 < length inputs = omega (arith, two) in
    let second : 1 < length inputs = omega (arith, two) in
    let is_i : get_or inputs 0 i ≡ i = get_or_default inputs 0 i no_net first in
    let is_j : get_or inputs 1 j ≡ j = get_or_default inputs 1 j no_net second in
    let ma : AreNetRails s v a = input_here s sets nets inputs 0 i a c.requires.inside first is_i (get_or_default nets i.0 a no_rails (c.requires.inside 0 no_net first)) have in
    let mb : AreNetRails s w b = input_here s sets nets inputs 1 j b c.requires.inside second is_j (get_or_default nets j.0 b no_rails (c.requires.inside 1 no_net second)) have in
    let e = c.in-Some-only_exclusive.ensures in
    by_lists c.args.cover.now c.args.rows.now (sets_at sets inputs) s t c.exclusive.result c.requires.rows
    (subst (λ (ids : List NodeId). Built (gate_work on off (sets_at sets ids)) (HasSet (gate_set on off (sets_at sets ids))) s t c.exclusive.result) (sym (two_inputs inputs i j two is_i is_j))
    (subst (λ (rows : List (List Lit)). Built (gate_work rows off (v ∷ w ∷ [])) (HasSet (gate_set rows off (v ∷ w ∷ []))) s t c.exclusive.result) (sym e.rows)
    (exclusive_gate x y off v w s t c.exclusive.result e.first e.second (subst (AreWide off) two both.wide_off)
    (λ bs l. both.apart bs (l ∙ sym two) ∙ ap (λ (rows : List (List Lit)). not (some_matches rows bs)) e.rows)
    (ma.known c.if-a.true) (mb.known c.if-b.true) (c.exclusive.ensures v w ma mb))))

pub few_gate-requires-clause-wide_on : goal.few_gate-requires-clause-wide_on
few_gate-requires-clause-wide_on g c = (cover_lists c.args.cover.now c.args.rows.now (length c.args.inputs.now) c.requires.rows c.requires.sound c.requires.width).wide_on

pub few_gate-requires-clause-wide_off : goal.few_gate-requires-clause-wide_off
few_gate-requires-clause-wide_off g c = (cover_lists c.args.cover.now c.args.rows.now (length c.args.inputs.now) c.requires.rows c.requires.sound c.requires.width).wide_off

pub few_gate-requires-clause-apart : goal.few_gate-requires-clause-apart
few_gate-requires-clause-apart g c = (cover_lists c.args.cover.now c.args.rows.now (length c.args.inputs.now) c.requires.rows c.requires.sound c.requires.width).apart

pub by_sums-requires-clause-wide_on : goal.by_sums-requires-clause-wide_on
by_sums-requires-clause-wide_on g c = (cover_lists c.args.cover.now c.args.rows.now (length c.args.inputs.now) c.requires.rows c.requires.sound c.requires.width).wide_on

pub by_sums-requires-clause-wide_off : goal.by_sums-requires-clause-wide_off
by_sums-requires-clause-wide_off g c = (cover_lists c.args.cover.now c.args.rows.now (length c.args.inputs.now) c.requires.rows c.requires.sound c.requires.width).wide_off

pub by_sums-requires-clause-apart : goal.by_sums-requires-clause-apart
by_sums-requires-clause-apart g c = (cover_lists c.args.cover.now c.args.rows.now (length c.args.inputs.now) c.requires.rows c.requires.sound c.requires.width).apart

pub returns-then-is_few-clause-built : goal.returns-then-is_few-clause-built
returns-then-is_few-clause-built g c = λ sets have.
    by_lists c.args.cover.now c.args.rows.now (sets_at sets c.args.inputs.now) (g.N.Nodes.store c.args.nodes.now) (g.N.Nodes.store c.few_gate.new.nodes) c.few_gate.result c.requires.rows (c.few_gate.ensures.built sets have)

pub returns-clause-built : goal.returns-clause-built
returns-clause-built g c = λ sets have.
    by_lists c.args.cover.now c.args.rows.now (sets_at sets c.args.inputs.now) (g.N.Nodes.store c.args.nodes.now) (g.N.Nodes.store c.by_sums.new.nodes) c.by_sums.result c.requires.rows (c.by_sums.ensures.built sets have)
