use Rattle.std.proofs.Common.{◌≡◌, ◌∙◌, ℕ, Bool, List, [], map, length, get_or, arith, ap, refl, sym, subst}
use Rattle.ste_base.specs.declared.id.NodeId.{NodeId}
use Rattle.counter_run.specs.Undriven.{undriven_nets}
use Rattle.counter_run.specs.private.Matrix.{IsMatrix}
use Rattle.counter_run.proofs.Cells.{lists_written, matrix_as, written, zero_matrix}
use Rattle.counter_run.proofs.OnInputs.{run_on}
use Rattle.counter_run.proofs.SourceNodes.{source_nodes}
use Rattle.counter_run.proofs.simple.two_valued.Goals as goal

pub put_inputs-requires-clause-within : goal.put_inputs-requires-clause-within
put_inputs-requires-clause-within c =
    let net = c.args.net.now in
    let nodes = source_nodes net.raw c.as_slice.result.now net.one_driver (c.as_slice.ensures.value ∙ c.in_ok-nodes.ensures) in
    let zero = zero_matrix c.nets.result c.args.times c.as_mut_slice.result.now (c.as_mut_slice.ensures.value ∙ c.in_ok-rows.ensures) in
    λ k d l. let h = nodes.within k d l in let t = zero.tall in let n = c.nets.ensures in omega arith

pub put_inputs-requires-clause-different : goal.put_inputs-requires-clause-different
put_inputs-requires-clause-different c =
    (source_nodes c.args.net.now.raw c.as_slice.result.now c.args.net.now.one_driver (c.as_slice.ensures.value ∙ c.in_ok-nodes.ensures)).different

pub put_inputs-requires-clause-wide : goal.put_inputs-requires-clause-wide
put_inputs-requires-clause-wide c =
    let net = c.args.net.now in
    let is : c.as_slice.result.now ≡ undriven_nets net.raw = c.as_slice.ensures.value ∙ c.in_ok-nodes.ensures in
    let size = ap length is in
    let nodes = source_nodes net.raw c.as_slice.result.now net.one_driver is in
    let zero = zero_matrix c.nets.result c.args.times c.as_mut_slice.result.now (c.as_mut_slice.ensures.value ∙ c.in_ok-rows.ensures) in
    λ k d l.
    let h = nodes.within k d l in
    let t = zero.tall in
    let n = c.nets.ensures in
    let tall = c.requires.tall in
    c.requires.wide k [] (omega arith) ∙ sym (zero.wide (get_or c.as_slice.result.now k d).0 [] (omega arith))

pub complete-requires-clause-nodes : goal.complete-requires-clause-nodes
complete-requires-clause-nodes c = source_nodes c.args.net.now.raw c.as_slice-2.result.now c.args.net.now.one_driver (c.as_slice-2.ensures.value ∙ c.in_ok-nodes.ensures)

pub complete-requires-clause-matrix : goal.complete-requires-clause-matrix
complete-requires-clause-matrix c =
    let net = c.args.net.now in
    let zero = zero_matrix c.nets.result c.args.times c.as_mut_slice.result.now (c.as_mut_slice.ensures.value ∙ c.in_ok-rows.ensures) in
    let put = matrix_as c.nets.result c.args.times c.as_mut_slice.result.now c.put_inputs.new.rows zero c.put_inputs.ensures.shape in
    let back = written c.in_ok-rows.rows.len c.in_ok-rows.rows.items c.put_inputs.new.rows c.as_mut_slice-2.result.now c.in_ok-rows.rows.ok.0 (c.put_inputs.ensures.shape.tall ∙ ap length c.as_mut_slice.ensures.value) c.as_mut_slice-2.ensures.value in
    subst (λ (n : ℕ). IsMatrix n c.args.times c.as_mut_slice-2.result.now) c.nets.ensures (subst (IsMatrix c.nets.result c.args.times) (sym back) put)

pub returns : goal.returns
returns c =
    let net = c.args.net.now in
    let is : c.as_slice.result.now ≡ undriven_nets net.raw = c.as_slice.ensures.value ∙ c.in_ok-nodes.ensures in
    let zero = zero_matrix c.nets.result c.args.times c.as_mut_slice.result.now (c.as_mut_slice.ensures.value ∙ c.in_ok-rows.ensures) in
    let put = matrix_as c.nets.result c.args.times c.as_mut_slice.result.now c.put_inputs.new.rows zero c.put_inputs.ensures.shape in
    let given = c.as_mut_slice-2.result.now in
    let back : given ≡ c.put_inputs.new.rows = written c.in_ok-rows.rows.len c.in_ok-rows.rows.items c.put_inputs.new.rows given c.in_ok-rows.rows.ok.0 (c.put_inputs.ensures.shape.tall ∙ ap length c.as_mut_slice.ensures.value) c.as_mut_slice-2.ensures.value in
    let m = subst (λ (n : ℕ). IsMatrix n c.args.times given) c.nets.ensures (subst (IsMatrix c.nets.result c.args.times) (sym back) put) in
    let at : map (λ node. get_or given node.0 []) (undriven_nets net.raw) ≡ c.args.inputs.now =
    ap (map (λ (node : NodeId). get_or given node.0 [])) (sym is) ∙ ap (λ (rows : List (List Bool)). map (λ (node : NodeId). get_or rows node.0 []) c.as_slice.result.now) back ∙ c.put_inputs.ensures.rows in
    let tall : length c.complete.new.rows ≡ length given = c.in_ok-complete.ensures.matrix.tall ∙ sym m.tall in
    let lists = lists_written c.in_ok-rows.rows.len c.in_ok-rows.rows.items c.put_inputs.new.rows given c.complete.new.rows c.in_ok-lists_of.field-0 c.in_ok-rows.rows.ok.0 (c.put_inputs.ensures.shape.tall ∙ ap length c.as_mut_slice.ensures.value) c.as_mut_slice-2.ensures.value tall c.in_ok-lists_of.ensures in
    run_on net.raw c.args.times given c.complete.new.rows c.args.inputs.now c.args.first.now _ net.one_driver refl lists m c.in_ok-complete.ensures.matrix at c.in_ok-complete.ensures.run
