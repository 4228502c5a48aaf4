use Rattle.std.proofs.Common.{subst}
use Rattle.std.specs.Prelude.{All}
use Rattle.ste_model.specs.declared.task.Edge.{Edge}
use Rattle.ste_model.specs.Edges.{IsPathFrom, bind_cuts}
use Rattle.ste_model.specs.Runs.{run_of}
use Rattle.ste_model.proofs.DueAlong.{due_breaks_along}
use Rattle.counter_run.specs.Along.{DoAgree}
use Rattle.counter_run.proofs.PrintedAlong.{numbers_within, one_path}
use Rattle.counter_run.proofs.along.graph_run.Goals as goal

pub run_along-requires-clause-numbers : goal.run_along-requires-clause-numbers
run_along-requires-clause-numbers c = numbers_within c.args.task.now.edges c.args.path.now c.requires.path.path c.requires.path.are

pub returns-clause-printed : goal.returns-clause-printed
returns-clause-printed c edges are =
    let path = c.requires.path in
    let same = one_path c.args.task.now.edges c.args.path.now path.path edges path.are are in
    c.in_ok-made.ensures.printed c.requires.bindable edges are (subst (All (λ (edge : Edge). DoAgree (bind_cuts edge.ant c.args.bits.now))) same path.agree)

pub returns-clause-meets : goal.returns-clause-meets
returns-clause-meets c edges are =
    let path = c.requires.path in
    let graph = c.args.task.now in
    let same = one_path graph.edges c.args.path.now path.path edges path.are are in
    let printed = c.in_ok-made.ensures.printed c.requires.bindable edges are (subst (All (λ (edge : Edge). DoAgree (bind_cuts edge.ant c.args.bits.now))) same path.agree) in
    due_breaks_along.meets c.args.net.now.raw graph c.args.bits.now edges (run_of c.in_ok-made.made) c.requires.nets c.requires.bindable (subst (IsPathFrom graph.edges 0) same path.is_path) printed
