use Rattle.std.proofs.Common.{ℕ, List, All, length, arith, subst, sym}
use Rattle.ste_model.specs.declared.task.Task.{Task}
use Rattle.work_pool.specs.Pool.{table_width}
use Rattle.work_pool.specs.private.Ready.{IsTaskReady}
use Rattle.work_pool.proofs.TableWidths.{all_ready, vars_within}
use Rattle.work_pool.proofs.batch.batch_of.Goals as goal

pub overflow_cast-result : goal.overflow_cast-result
overflow_cast-result c =
    let within = vars_within c.args.mode c.args.net.now.raw c.args.tasks.now in
    let few = c.requires.vars in
    let is = c.len.ensures in
    omega (arith, within, few, is)

pub table_width-requires : goal.table_width-requires
table_width-requires c = record {
  vars = let within = vars_within c.args.mode c.args.net.now.raw c.args.tasks.now in let few = c.requires.vars in omega (arith, within, few);
}

pub overflow_cast-result-2 : goal.overflow_cast-result-2
overflow_cast-result-2 c = let few = c.requires.vars in let is = c.table_width.ensures in omega (arith, few, is)

pub invariant_of-result : goal.invariant_of-result
invariant_of-result c = record {
  of_net = c.requires.rows;
  ready =
      let net = c.args.net.now.raw in
      let mode = c.args.mode in
      subst (λ (vars : ℕ). All (IsTaskReady mode net vars c.table_width.result) c.as_slice.result.now) (sym c.len.ensures)
      (subst (λ (width : ℕ). All (IsTaskReady mode net (length c.args.tasks.now.vars) width) c.as_slice.result.now) (sym c.table_width.ensures)
      (subst (λ (ts : List Task). All (IsTaskReady mode net (length c.args.tasks.now.vars) (table_width mode net c.args.tasks.now)) ts) (sym c.as_slice.ensures)
      (all_ready mode net c.args.tasks.now c.requires.over)));
}
