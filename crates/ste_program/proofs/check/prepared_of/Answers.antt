use Rattle.std.proofs.Common.{List, ℕ, length, ◌∙◌, ap, arith, sym}
use Rattle.std.proofs.lemmas.List.{length-map}
use Rattle.hierarchy.specs.Names.{own_name}
use Rattle.hierarchy.specs.Nets.{nets}
use Rattle.ste_program.proofs.Handed.{handed_on}
use Rattle.ste_program.proofs.TasksDeclared.{tasks_declared}
use Rattle.ste_program.proofs.TaskLists.{as_many, few_vars, promised, some_tasks}
use Rattle.ste_program.proofs.TextStages.{check_net_fails, is_prepared}
use Rattle.ste_program.proofs.check.prepared_of.Goals as goal

pub returns-in_err-flat : goal.returns-in_err-flat
returns-in_err-flat c = λ net_text task_text spelled read.
    handed_on _ _ _ c.from_residual.ensures.1
    (check_net_fails c.args.steps net_text task_text c.args.models.models spelled c.args.raw.now read c.in_err-flat.field-0.0 c.in_err-flat.ensures)

pub returns-in_err-tasks : goal.returns-in_err-tasks
returns-in_err-tasks c = λ net_text task_text spelled read.
    handed_on _ _ _ c.from_residual-in_err-tasks.ensures.1 (c.in_err-tasks.ensures net_text task_text c.args.models.models spelled read c.in_ok-flat.ensures)

pub invariant_of-result : goal.invariant_of-result
invariant_of-result c =
    let n = c.in_ok-flat.ensures in
    let models = c.args.models.models in
    let raw = c.args.raw.now in
    let tasks = c.in_ok-tasks.tasks in
    let texts = c.requires.read in
    let task_text = texts.1 in
    let read = texts.2.1 in
    let over = c.in_ok-tasks.ensures texts.0 task_text models texts.2.0 read n in
    let bound = over.0 in
    let declared = tasks_declared models task_text raw tasks read bound in
    record {
      named = ap (λ (own : List (List ℕ)). length own) n.named.own_known ∙ length-map (nets models) own_name ∙ sym n.flat.nets;
      inputs = n.inputs;
      cases = n.cases;
      checkable = promised models raw c.in_ok-flat.flat.net.raw tasks n.flat bound declared;
      some = some_tasks models task_text raw tasks read bound;
      few = few_vars models raw tasks raw.declared bound;
      few_tasks = let same = as_many models raw tasks bound in let few = raw.few in omega (arith, same, few);
    }

pub returns : goal.returns
returns c = λ net_text task_text spelled read.
    let n = c.in_ok-flat.ensures in
    let over = c.in_ok-tasks.ensures net_text task_text c.args.models.models spelled read n in
    is_prepared c.args.steps net_text task_text c.args.models.models spelled c.args.raw.now read
    c.in_ok-flat.flat.net.raw c.in_ok-flat.flat.names n c.in_ok-tasks.tasks over.0 over.1
