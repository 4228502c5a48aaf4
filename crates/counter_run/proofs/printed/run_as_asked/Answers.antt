use Rattle.std.proofs.Common.{◌≤◌, ◌∙◌, ℕ, Bool, List, [], length, get_or, ap, refl, sym, subst}
use Rattle.std.specs.Prelude.{All}
use Rattle.net_core.proofs.Ordered.{settled_by_order}
use Rattle.ste_model.specs.declared.task.Quint.{Quint}
use Rattle.ste_model.specs.Asked.{cuts_at}
use Rattle.ste_model.specs.Runs.{HasRows, run_of}
use Rattle.counter_run.specs.private.Asking.{IsAskedOr}
use Rattle.counter_run.specs.private.Matrix.{IsMatrix, cell}
use Rattle.counter_run.proofs.Cells.{matrix_as, written}
use Rattle.counter_run.proofs.Printing.{ant_within, printed_as}
use Rattle.counter_run.proofs.printed.run_as_asked.Goals as goal

pub put_quints-requires-clause-below : goal.put_quints-requires-clause-below
put_quints-requires-clause-below c =
    let net = c.args.net.now in
    let old = c.as_mut_slice.result.now in
    let m : IsMatrix net.raw.nets c.depth-times.result old = subst (IsMatrix net.raw.nets c.depth-times.result) (sym c.as_mut_slice.ensures.value) c.in_ok-rows.ensures.matrix in
    subst (λ (quints : List Quint). All (λ quint. quint.to ≤ length (get_or old quint.node.0 [])) quints) (sym c.as_slice.ensures)
    (ant_within c.args.task.now old net.raw.nets c.depth-times.result c.depth-times.ensures m c.requires.nets)

pub run_from-requires : goal.run_from-requires
run_from-requires c =
    let nets = c.args.net.now.raw.nets in
    let times = c.depth-times.result in
    let old = c.as_mut_slice.result.now in
    let m : IsMatrix nets times old = subst (IsMatrix nets times) (sym c.as_mut_slice.ensures.value) c.in_ok-rows.ensures.matrix in
    let put = matrix_as nets times old c.put_quints.new.rows m c.put_quints.ensures.shape in
    let back = written c.in_ok-rows.rows.len c.in_ok-rows.rows.items c.put_quints.new.rows _ c.in_ok-rows.rows.ok.0 (c.put_quints.ensures.shape.tall ∙ ap length c.as_mut_slice.ensures.value) refl in
    subst (IsMatrix nets times) (sym back) put

pub returns-clause-rows : goal.returns-clause-rows
returns-clause-rows c = subst (λ (n : ℕ). HasRows c.args.net.now.raw.nets n c.in_ok-made.made) c.depth-times.ensures c.in_ok-made.ensures.rows

pub returns-clause-printed : goal.returns-clause-printed
returns-clause-printed c possible begins =
    let net = c.args.net.now in
    let task = c.args.task.now in
    let bits = c.args.bits.now in
    let start = c.in_ok-rows.rows.items in
    let old = c.as_mut_slice.result.now in
    let asked = c.put_quints.new.rows in
    let back = written c.in_ok-rows.rows.len start asked _ c.in_ok-rows.rows.ok.0 (c.put_quints.ensures.shape.tall ∙ ap length c.as_mut_slice.ensures.value) refl in
    let each : (t id : ℕ) → IsAskedOr (cuts_at task.ant bits t) id (cell start t id) (cell asked t id) = λ t id.
    subst (λ (rows : List (List Bool)). IsAskedOr (cuts_at task.ant bits t) id (cell rows t id) (cell asked t id)) c.as_mut_slice.ensures.value
    (subst (λ (quints : List Quint). IsAskedOr (cuts_at quints bits t) id (cell old t id) (cell asked t id)) c.as_slice.ensures (c.put_quints.ensures.each t id)) in
    let settled = settled_by_order net.raw net.settled net.in_order in
    let run = run_of c.in_ok-made.made in
    printed_as net.raw task bits settled net.in_range possible begins start asked _
    c.depth-times.result run
    c.depth-times.ensures back c.in_ok-rows.ensures.latches c.in_ok-rows.ensures.others each c.in_ok-made.ensures.run
