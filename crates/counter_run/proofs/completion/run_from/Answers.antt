use Rattle.std.proofs.Common.{◌≡◌, ◌∙◌, Bool, List, map, length, ap, refl, sym}
use Rattle.net_core.specs.declared.raw.Latch.{Latch}
use Rattle.counter_run.specs.private.Matrix.{cell}
use Rattle.counter_run.proofs.Cells.{map_same, written}
use Rattle.counter_run.proofs.Given.{given_as}
use Rattle.counter_run.proofs.SourceNodes.{source_nodes}
use Rattle.counter_run.proofs.completion.run_from.Goals as goal

pub complete-requires-clause-nodes : goal.complete-requires-clause-nodes
complete-requires-clause-nodes c = source_nodes c.args.net.now.raw c.as_slice-2.result.now c.args.net.now.one_driver (c.as_slice-2.ensures.value ∙ c.in_ok-nodes.ensures)

pub returns-clause-run : goal.returns-clause-run
returns-clause-run c =
    let net = c.args.net.now.raw in
    let items = c.args.rows.items in
    let rows = c.complete.new.rows in
    let tall : length rows ≡ length items = c.in_ok-complete.ensures.matrix.tall ∙ sym c.requires.tall in
    let lists = c.in_ok-lists_of.ensures ∙ map_same _ ∙ written c.args.rows.len items rows _ c.args.rows.ok.0 tall refl in
    let first = c.as_slice-3.ensures.value ∙ c.in_ok-first.ensures ∙ ap (λ (r : List (List Bool)). map (λ (latch : Latch). cell r 0 latch.output.0) net.latches) c.as_slice.ensures.value in
    given_as net c.args.times items c.as_mut_slice.result.now rows c.in_ok-lists_of.field-0 c.as_slice-3.result.now c.as_mut_slice.ensures.value lists first c.in_ok-complete.ensures.run
