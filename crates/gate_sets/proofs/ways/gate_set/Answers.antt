use Rattle.std.proofs.Common.{List, length, sym, ◌∙◌, ap, subst}
use Rattle.std.proofs.lemmas.Option.{get_or_from_slice_get}
use Rattle.ste_base.specs.declared.id.NodeId.{NodeId}
use Rattle.dd_nodes.specs.Stores.{Store}
use Rattle.net_core.specs.declared.cover.Cover.{Cover}
use Rattle.net_core.specs.declared.raw.Gate.{Gate}
use Rattle.net_core.specs.Cases.{on_rows, off_rows}
use Rattle.net_core.specs.Cover.{IsCover}
use Rattle.net_core.specs.Work.{gate_set, gate_work, input_sets}
use Rattle.dual_rail.specs.Rail.{Built, HasSet}
use Rattle.gate_sets.specs.declared.rows.CoverRows.{CoverRows}
use Rattle.gate_sets.specs.NetSets.{HaveInputs, sets_at}
use Rattle.gate_sets.specs.private.TruthTables.{HaveTables}
use Rattle.gate_sets.proofs.Placed.{by_cover}
use Rattle.gate_sets.proofs.ways.gate_set.Goals as goal

pub cover_set-requires-clause-sound : goal.cover_set-requires-clause-sound
cover_set-requires-clause-sound g c =
    let covers : List Cover = c.args.net.now.raw.covers in
    let cover : Cover = c.cover-cover.result.now in
    subst IsCover (get_or_from_slice_get covers c.args.g.now.cover cover cover c.cover-cover.ensures) (c.args.net.now.in_range.sound c.args.g.now.cover cover c.requires.cover)

pub cover_set-requires-clause-width : goal.cover_set-requires-clause-width
cover_set-requires-clause-width g c = c.requires.width c.cover-cover.result.now c.cover-cover.ensures ∙ ap length (sym c.as_slice-inputs.ensures)

pub cover_set-requires-clause-rows : goal.cover_set-requires-clause-rows
cover_set-requires-clause-rows g c = c.lists-rows.ensures c.cover-cover.result.now c.cover-cover.ensures

pub cover_set-requires-clause-tables : goal.cover_set-requires-clause-tables
cover_set-requires-clause-tables g c =
    let cover : Cover = c.cover-cover.result.now in
    subst (λ (r : CoverRows). HaveTables r c.tables-tables.result) (sym (c.lists-rows.ensures cover c.cover-cover.ensures)) (c.tables-tables.ensures cover c.cover-cover.ensures)

pub returns-clause-built : goal.returns-clause-built
returns-clause-built g c = λ sets have.
    let s : Store = g.N.Nodes.store c.args.nodes.now in
    let t : Store = g.N.Nodes.store c.cover_set.new.nodes in
    let gate : Gate = c.args.g.now in
    let cover : Cover = c.cover-cover.result.now in
    by_cover c.args.net.now.raw.covers gate.cover cover (input_sets sets gate) s t c.cover_set.result c.cover-cover.ensures
    (subst (λ (ids : List NodeId). Built (gate_work (on_rows cover) (off_rows cover) (sets_at sets ids)) (HasSet (gate_set (on_rows cover) (off_rows cover) (sets_at sets ids))) s t c.cover_set.result) c.as_slice-inputs.ensures
    (c.cover_set.ensures.built sets (subst (λ (ids : List NodeId). HaveInputs s sets c.args.nets.now ids) (sym c.as_slice-inputs.ensures) have)))
