use Rattle.std.proofs.Common.{◌≡◌, ◌<◌, ◌∙◌, [], ap, get_or, length, arith, sym}
use Rattle.std.proofs.lemmas.List.{get_or_default}
use Rattle.ste_base.specs.declared.id.NodeId.{NodeId}
use Rattle.counter_run.proofs.Cells.{inputs_turn, rows_at}
use Rattle.counter_run.proofs.simple.put_inputs.Goals as goal

pub assign-requires : goal.assign-requires
assign-requires c =
    let d : NodeId = record { 0 = 0 } in
    let k = c.loop-k.k in
    let node = get_or c.args.nodes.now k d in
    let tall = c.loop-k.invariant.shape.tall in
    let inside : node.0 < length c.args.rows.now = c.requires.within k d c.loop-k-test.true in
    let row = c.requires.wide k d c.loop-k-test.true in
    let input : get_or c.args.inputs.now k c.index-inputs-k.result ≡ get_or c.args.inputs.now k [] = get_or_default c.args.inputs.now k c.index-inputs-k.result [] (omega (arith, c.requires.tall, c.loop-k-test.true)) in
    ap length (c.as_slice.ensures ∙ c.index-inputs-k.is ∙ input) ∙ row ∙ sym (c.loop-k.invariant.shape.wide node.0) ∙ ap length (sym (get_or_default c.loop-k.rows node.0 c.index-rows-node.result [] (omega arith)))

pub loop-k-preserved : goal.loop-k-preserved
loop-k-preserved c =
    let d : NodeId = record { 0 = 0 } in
    let k = c.loop-k.k in
    let node = get_or c.args.nodes.now k d in
    let tall = c.loop-k.invariant.shape.tall in
    let inside : node.0 < length c.args.rows.now = c.requires.within k d c.loop-k-test.true in
    let wide = c.requires.wide k d c.loop-k-test.true in
    let input : get_or c.args.inputs.now k c.index-inputs-k.result ≡ get_or c.args.inputs.now k [] = get_or_default c.args.inputs.now k c.index-inputs-k.result [] (omega (arith, c.requires.tall, c.loop-k-test.true)) in
    let row : c.assign.new.self ≡ get_or c.args.inputs.now k [] = c.assign.ensures ∙ c.as_slice.ensures ∙ c.index-inputs-k.is ∙ input in
    let turn = inputs_turn c.args.nodes.now c.args.inputs.now c.args.rows.now c.loop-k.rows c.assign.new.self k node c.requires.different c.loop-k-test.true (get_or_default c.args.nodes.now k d node c.loop-k-test.true) (omega arith)
    (ap length row ∙ wide ∙ sym (c.loop-k.invariant.shape.wide node.0)) row c.loop-k.invariant.shape c.loop-k.invariant.done in
    record { shape = turn.0; done = turn.1 }

pub returns-clause-rows : goal.returns-clause-rows
returns-clause-rows c = rows_at c.args.nodes.now c.args.inputs.now c.loop-k.rows c.requires.tall (λ j d m. c.loop-k.invariant.done j d (omega (arith, c.loop-k-test.false)))
