-- Tasks, their verdicts and their nets, as the loops over them see them.
use Rattle.std.proofs.Common.{◌≡◌, ◌≤◌, ◌<◌, ℕ, zero, suc, ◌*◌, List, [], ◌∷◌, ◌++◌, length, map, get_or, Bool, false, Option, None, Some, Ok, refl, ap, sym, ◌∙◌, subst, arith}
use Rattle.std.specs.Prelude.{◌&&◌, ◌/◌, All, IfSome, IsSome, IsTrue, unwrap_or}
use Rattle.std.specs.List.{flat_map}
use Rattle.std.proofs.lemmas.List.Elements.{All-cons}
use Rattle.std.proofs.lemmas.List.{length-map}
use Rattle.std.proofs.Math.Nat.{le-div_iff_mul-le, mul-div-le, mul-le-mul_left, mul_comm}
use Rattle.ste_base.specs.Limits.{most_variables}
use Rattle.blif_syntax.specs.declared.models.Model.{Model}
use Rattle.hierarchy.specs.Names.{net_named}
use Rattle.hierarchy.specs.Nets.{nets}
use Rattle.net_core.specs.declared.raw.RawNet.{RawNet}
use Rattle.net_names.proofs.Named.{named_in_range}
use Rattle.flat_net.specs.Flat.{IsFlat}
use Rattle.assert_syntax.specs.declared.tasks.RawQuint.{RawQuint}
use Rattle.assert_syntax.specs.declared.tasks.RawTask.{RawTask}
use Rattle.assert_syntax.specs.declared.tasks.RawTask.TheVariants as raw
use Rattle.assert_syntax.specs.declared.tasks.RawTasks.{RawTasks}
use Rattle.ste_model.specs.Expressions.{reads}
use Rattle.ste_model.specs.Need.{ReadBelow}
use Rattle.ste_model.specs.Trees as tree
use Rattle.ste_model.specs.declared.task.Assertion.{Assertion}
use Rattle.ste_model.specs.declared.task.Quint.{Quint}
use Rattle.ste_model.specs.declared.task.Task.{Task}
use Rattle.ste_model.specs.declared.task.Task.TheVariants.{Ste, Gste}
use Rattle.ste_model.specs.declared.task.Tasks.{Tasks}
use Rattle.task_binding.specs.Answer.{IsBindAnswer}
use Rattle.task_binding.specs.Bound.{bind_bound, edge_bound, mark_bound, net_by, quint_bound, task_bound, weak_bound}
use Rattle.task_binding.specs.Mentions.{AllNamed, bind_mention, edge_mentions, mark_mention, mentions_of, quint_mention, task_mentions, weak_mention}
use Rattle.task_binding.specs.declared.unknown.Mention.{Mention}
use Rattle.assert_syntax.specs.Spelled.{raw_task_tree}
use Rattle.assert_syntax.proofs.Whole.{a_parse}
use Rattle.ste_program.specs.TaskFile.{AreTasks}
use Rattle.work_pool.specs.Pool.{IsTaskOver}
use Rattle.ste_program.specs.Check.{IsReportOn, are_too_many, task_steps}
use Rattle.ste_program.specs.private.Made.{AreBindsIn, IsCheckable, IsEdgeFit, IsGraphFit}
use Rattle.ste_model.specs.declared.task.Bind.{Bind}
use Rattle.ste_model.specs.declared.task.Edge.{Edge}
use Rattle.ste_model.specs.declared.task.Graph.{Graph}
use Rattle.ste_model.specs.declared.task.Weakening.{Weakening}
use Rattle.ste_base.specs.declared.id.NodeId.{NodeId}
use Rattle.gste_engine.specs.Tables.{AreConsequentsOver, IsGraphOver}
use Rattle.assert_syntax.specs.declared.tasks.RawBind.{RawBind}
use Rattle.assert_syntax.specs.declared.tasks.RawEdge.{RawEdge}
use Rattle.assert_syntax.specs.declared.tasks.RawMark.{RawMark}
use Rattle.assert_syntax.specs.declared.tasks.RawWeak.{RawWeak}
use Rattle.ste_program.proofs.GraphsDeclared.{IsEdgeDeclared}
use Rattle.ste_program.proofs.TasksDeclared.{AreDeclared}
use Rattle.ste_program.specs.private.Prepared.{IsCheckOver, IsPrepared}

-- what holds of all of two lists in a row holds of both
all_left : {X : Type 0} (P : X → Type 0) (xs ys : List X) → All P (xs ++ ys) → All P xs
all_left P [] ys all = λ k d l. absurd (omega (arith, l))
all_left P (x ∷ xs) ys all = All-cons P x xs (all 0 x (omega arith)) (all_left P xs ys (λ j e m. all (suc j) e (omega (arith, m))))

all_right : {X : Type 0} (P : X → Type 0) (xs ys : List X) → All P (xs ++ ys) → All P ys
all_right P [] ys all = all
all_right P (x ∷ xs) ys all = all_right P xs ys (λ j e m. all (suc j) e (omega (arith, m)))

all_both : {X : Type 0} (P : X → Type 0) (xs ys : List X) → All P xs → All P ys → All P (xs ++ ys)
all_both P [] ys first rest = rest
all_both P (x ∷ xs) ys first rest = All-cons P x (xs ++ ys) (first 0 x (omega arith)) (all_both P xs ys (λ j e m. first (suc j) e (omega (arith, m))) rest)

-- an assertion that may be checked: its nets are in range, and its variables are declared
pub checkable_ant : (nets vars : ℕ) (task : Assertion) → IsCheckable nets vars (Ste task) → All (λ quint. quint.node.0 < nets) task.ant
checkable_ant nets vars task h = all_left (λ (quint : Quint). quint.node.0 < nets) task.ant task.con h.0

pub checkable_con : (nets vars : ℕ) (task : Assertion) → IsCheckable nets vars (Ste task) → All (λ quint. quint.node.0 < nets) task.con
checkable_con nets vars task h = all_right (λ (quint : Quint). quint.node.0 < nets) task.ant task.con h.0

pub declared_ant : (nets vars : ℕ) (task : Assertion) → IsCheckable nets vars (Ste task) → ReadBelow vars task.ant
declared_ant nets vars task h = all_left (λ (quint : Quint). IsTrue (reads vars quint.guard && reads vars quint.value)) task.ant task.con h.1

pub declared_con : (nets vars : ℕ) (task : Assertion) → IsCheckable nets vars (Ste task) → ReadBelow vars task.con
declared_con nets vars task h = all_right (λ (quint : Quint). IsTrue (reads vars quint.guard && reads vars quint.value)) task.ant task.con h.1

pub checkable_weak : (nets vars : ℕ) (task : Assertion) → IsCheckable nets vars (Ste task) → All (λ weakening. weakening.node.0 < nets) task.weak
checkable_weak nets vars task h = h.3

-- a graph that may be checked, as the engine asks for it
fit_graph : (nets vars : ℕ) (graph : Graph) → IsCheckable nets vars (Gste graph) → IsGraphFit nets vars graph
fit_graph nets vars graph h = h.2 0 graph (omega arith)

pub graph_over : (net : RawNet) (vars : ℕ) (graph : Graph) → IsCheckable net.nets vars (Gste graph) → IsGraphOver net vars graph
graph_over net vars graph h =
    let fit = fit_graph net.nets vars graph h in
    record {
      sound = record { some = fit.0; ends = λ k d l. (fit.1 k d l).1 };
      edges = λ k d l. let edge = fit.2 k d l in record { start = (fit.1 k d l).0; nets = edge.0; weak = edge.4; reads = edge.2 };
    }

pub consequents_over : (net : RawNet) (vars : ℕ) (graph : Graph) → IsCheckable net.nets vars (Gste graph) → AreConsequentsOver net vars graph
consequents_over net vars graph h = λ k d l. let edge = (fit_graph net.nets vars graph h).2 k d l in (edge.1, edge.3)

-- the bindings of its edges name nets that there are
pub ants_in : (nets vars : ℕ) (graph : Graph) → IsCheckable nets vars (Gste graph) → All (λ edge. AreBindsIn nets edge.ant) graph.edges
ants_in nets vars graph h = λ k d l. ((fit_graph nets vars graph h).2 k d l).0

pub cons_in : (nets vars : ℕ) (graph : Graph) → IsCheckable nets vars (Gste graph) → All (λ edge. AreBindsIn nets edge.con) graph.edges
cons_in nets vars graph h = λ k d l. ((fit_graph nets vars graph h).2 k d l).1

-- a task that may be checked, as the pool asks for it
over_one : (net : RawNet) (vars : ℕ) (task : Task) → IsCheckable net.nets vars task → IsTaskOver net vars task
over_one net vars (Ste task) h = (checkable_ant net.nets vars task h, checkable_con net.nets vars task h, declared_ant net.nets vars task h, declared_con net.nets vars task h, checkable_weak net.nets vars task h)
over_one net vars (Gste graph) h = (graph_over net vars graph h, consequents_over net vars graph h)

pub over_all : (net : RawNet) (vars : ℕ) (tasks : List Task) → All (IsCheckable net.nets vars) tasks → All (IsTaskOver net vars) tasks
over_all net vars tasks all = λ k d l. over_one net vars (get_or tasks k d) (all k d l)

-- a number that a text names is that of a net
in_range : (models : List Model) (text : List ℕ) (found : Option ℕ) → net_named models text ≡ found → IsSome found → unwrap_or found 0 < length (nets models)
in_range models text None e some = absurd (cc some)
in_range models text (Some n) e some = named_in_range models text n e

-- the nets of bound quintuples are in range
nets_in : (models : List Model) (raws : List RawQuint) (quints : List Quint) → AllNamed (net_named models) (map quint_mention raws) → map tree.quint_tree quints ≡ map (quint_bound (net_by (net_named models))) raws →
    All (λ quint. quint.node.0 < length (nets models)) quints
nets_in models [] [] all e = λ k d l. absurd (omega (arith, l))
nets_in models [] (q ∷ quints) all e = absurd (cc e)
nets_in models (r ∷ raws) [] all e = absurd (cc e)
nets_in models (r ∷ raws) (q ∷ quints) all e =
    let first : tree.quint_tree q ≡ quint_bound (net_by (net_named models)) r = cc e in
    let rest : map tree.quint_tree quints ≡ map (quint_bound (net_by (net_named models))) raws = cc e in
    let node : q.node.0 ≡ unwrap_or (net_named models r.node) 0 = ap (λ (t : tree.QuintTree). t.node) first in
    let low : unwrap_or (net_named models r.node) 0 < length (nets models) = in_range models r.node (net_named models r.node) refl (all 0 (quint_mention r) (omega arith)) in
    All-cons (λ (quint : Quint). quint.node.0 < length (nets models)) q quints (subst (λ n. n < length (nets models)) (sym node) low)
    (nets_in models raws quints (λ j d m. all (suc j) d (omega (arith, m))) rest)

-- the nets of bound bindings are in range
binds_in : (models : List Model) (raws : List RawBind) (binds : List Bind) → AllNamed (net_named models) (map bind_mention raws) → map tree.bind_tree binds ≡ map (bind_bound (net_by (net_named models))) raws → AreBindsIn (length (nets models)) binds
binds_in models [] [] all e = λ k d l. absurd (omega (arith, l))
binds_in models [] (q ∷ binds) all e = absurd (cc e)
binds_in models (r ∷ raws) [] all e = absurd (cc e)
binds_in models (r ∷ raws) (q ∷ binds) all e =
    let first : tree.bind_tree q ≡ bind_bound (net_by (net_named models)) r = cc e in
    let rest : map tree.bind_tree binds ≡ map (bind_bound (net_by (net_named models))) raws = cc e in
    let node : q.node.0 ≡ unwrap_or (net_named models r.node) 0 = ap (λ (t : tree.BindTree). t.node) first in
    let low : unwrap_or (net_named models r.node) 0 < length (nets models) = in_range models r.node (net_named models r.node) refl (all 0 (bind_mention r) (omega arith)) in
    All-cons (λ (bind : Bind). bind.node.0 < length (nets models)) q binds (subst (λ n. n < length (nets models)) (sym node) low)
    (binds_in models raws binds (λ j d m. all (suc j) d (omega (arith, m))) rest)

-- the nets of bound weakenings are in range
weaks_in : (models : List Model) (raws : List RawWeak) (weaks : List Weakening) → AllNamed (net_named models) (map weak_mention raws) → map tree.weak_tree weaks ≡ map (weak_bound (net_by (net_named models))) raws →
    All (λ weakening. weakening.node.0 < length (nets models)) weaks
weaks_in models [] [] all e = λ k d l. absurd (omega (arith, l))
weaks_in models [] (q ∷ weaks) all e = absurd (cc e)
weaks_in models (r ∷ raws) [] all e = absurd (cc e)
weaks_in models (r ∷ raws) (q ∷ weaks) all e =
    let first : tree.weak_tree q ≡ weak_bound (net_by (net_named models)) r = cc e in
    let rest : map tree.weak_tree weaks ≡ map (weak_bound (net_by (net_named models))) raws = cc e in
    let node : q.node.0 ≡ unwrap_or (net_named models r.node) 0 = ap (λ (t : tree.WeakTree). t.node) first in
    let low : unwrap_or (net_named models r.node) 0 < length (nets models) = in_range models r.node (net_named models r.node) refl (all 0 (weak_mention r) (omega arith)) in
    All-cons (λ (weakening : Weakening). weakening.node.0 < length (nets models)) q weaks (subst (λ n. n < length (nets models)) (sym node) low)
    (weaks_in models raws weaks (λ j d m. all (suc j) d (omega (arith, m))) rest)

-- the weakened nets of a bound edge are in range
marks_in : (models : List Model) (raws : List RawMark) (nodes : List NodeId) → AllNamed (net_named models) (map mark_mention raws) → map (λ (node : NodeId). node.0) nodes ≡ map (mark_bound (net_by (net_named models))) raws →
    All (λ node. node.0 < length (nets models)) nodes
marks_in models [] [] all e = λ k d l. absurd (omega (arith, l))
marks_in models [] (q ∷ nodes) all e = absurd (cc e)
marks_in models (r ∷ raws) [] all e = absurd (cc e)
marks_in models (r ∷ raws) (q ∷ nodes) all e =
    let node : q.0 ≡ unwrap_or (net_named models r.node) 0 = cc e in
    let rest : map (λ (one : NodeId). one.0) nodes ≡ map (mark_bound (net_by (net_named models))) raws = cc e in
    let low : unwrap_or (net_named models r.node) 0 < length (nets models) = in_range models r.node (net_named models r.node) refl (all 0 (mark_mention r) (omega arith)) in
    All-cons (λ (one : NodeId). one.0 < length (nets models)) q nodes (subst (λ n. n < length (nets models)) (sym node) low)
    (marks_in models raws nodes (λ j d m. all (suc j) d (omega (arith, m))) rest)

-- the nodes of all edges are named
abbrev AreNamed : List Model → List Mention → Type 0
AreNamed models mentions = All (λ (m : Mention). IsSome (net_named models m.node)) mentions

edges_in : (models : List Model) (vars vertices : ℕ) (raws : List RawEdge) (edges : List Edge) → AreNamed models (flat_map edge_mentions raws) → map tree.edge_tree edges ≡ map (edge_bound (net_by (net_named models))) raws → All (IsEdgeDeclared vars vertices) edges →
    All (IsEdgeFit (length (nets models)) vars) edges
edges_in models vars vertices [] [] all e declared = λ k d l. absurd (omega (arith, l))
edges_in models vars vertices [] (q ∷ edges) all e declared = absurd (cc e)
edges_in models vars vertices (r ∷ raws) [] all e declared = absurd (cc e)
edges_in models vars vertices (r ∷ raws) (q ∷ edges) all e declared =
    let first : tree.edge_tree q ≡ edge_bound (net_by (net_named models)) r = cc e in
    let rest : map tree.edge_tree edges ≡ map (edge_bound (net_by (net_named models))) raws = cc e in
    let here = all_left (λ (m : Mention). IsSome (net_named models m.node)) (edge_mentions r) (flat_map edge_mentions raws) all in
    let there = all_right (λ (m : Mention). IsSome (net_named models m.node)) (edge_mentions r) (flat_map edge_mentions raws) all in
    let fit : IsEdgeDeclared vars vertices q = declared 0 q (omega arith) in
    let behind = all_right (λ (m : Mention). IsSome (net_named models m.node)) (map bind_mention r.ant) (map bind_mention r.con ++ map mark_mention r.weak) here in
    All-cons (IsEdgeFit (length (nets models)) vars) q edges (
      binds_in models r.ant q.ant (all_left (λ (m : Mention). IsSome (net_named models m.node)) (map bind_mention r.ant) (map bind_mention r.con ++ map mark_mention r.weak) here) (ap (λ (t : tree.EdgeTree). t.ant) first),
      binds_in models r.con q.con (all_left (λ (m : Mention). IsSome (net_named models m.node)) (map bind_mention r.con) (map mark_mention r.weak) behind) (ap (λ (t : tree.EdgeTree). t.con) first),
      fit.ant,
      fit.con,
      marks_in models r.weak q.weak (all_right (λ (m : Mention). IsSome (net_named models m.node)) (map bind_mention r.con) (map mark_mention r.weak) behind) (ap (λ (t : tree.EdgeTree). t.weak) first),
    )
    (edges_in models vars vertices raws edges there rest (λ k d l. declared (suc k) d (omega (arith, l))))

-- a bound task may be checked
one_checkable : (models : List Model) (vars : ℕ) (task_raw : RawTask) (task : Task) → AllNamed (net_named models) (task_mentions task_raw) → tree.task_tree task ≡ task_bound (net_by (net_named models)) task_raw →
    AreDeclared vars task → IsCheckable (length (nets models)) vars task
one_checkable models vars (raw.Ste line name reset ant con weak) (Ste task) all e declared =
    let ants : map tree.quint_tree task.ant ≡ map (quint_bound (net_by (net_named models))) ant = cc e in
    let cons : map tree.quint_tree task.con ≡ map (quint_bound (net_by (net_named models))) con = cc e in
    let weaks : map tree.weak_tree task.weak ≡ map (weak_bound (net_by (net_named models))) weak = cc e in
    let behind = all_right (λ (m : Mention). IsSome (net_named models m.node)) (map quint_mention ant) (map quint_mention con ++ map weak_mention weak) all in (
      all_both (λ (quint : Quint). quint.node.0 < length (nets models)) task.ant task.con
          (nets_in models ant task.ant (all_left (λ (m : Mention). IsSome (net_named models m.node)) (map quint_mention ant) (map quint_mention con ++ map weak_mention weak) all) ants)
          (nets_in models con task.con (all_left (λ (m : Mention). IsSome (net_named models m.node)) (map quint_mention con) (map weak_mention weak) behind) cons),
      all_both (λ (quint : Quint). IsTrue (reads vars quint.guard && reads vars quint.value)) task.ant task.con declared.0 declared.1,
      (λ k d l. absurd (omega (arith, l))),
      weaks_in models weak task.weak (all_right (λ (m : Mention). IsSome (net_named models m.node)) (map quint_mention con) (map weak_mention weak) behind) weaks,
    )
one_checkable models vars (raw.Ste line name reset ant con weak) (Gste graph) all e declared = absurd (cc e)
one_checkable models vars (raw.Gste line name reset vertices edges) (Ste task) all e declared = absurd (cc e)
one_checkable models vars (raw.Gste line name reset vertices edges) (Gste graph) all e declared =
    let trees : map tree.edge_tree graph.edges ≡ map (edge_bound (net_by (net_named models))) edges = cc e in
    let fit : IsGraphFit (length (nets models)) vars graph =
    (declared.some, (λ k d l. let edge = declared.edges k d l in (edge.from, edge.to)), edges_in models vars (length graph.vertices) edges graph.edges all trees declared.edges) in
    ((λ k d l. absurd (omega (arith, l))), (λ k d l. absurd (omega (arith, l))), All-cons (IsGraphFit (length (nets models)) vars) graph [] fit (λ k d l. absurd (omega (arith, l))), (λ k d l. absurd (omega (arith, l))))

all_checkable : (models : List Model) (vars : ℕ) (raws : List RawTask) (tasks : List Task) → AllNamed (net_named models) (mentions_of raws) →
    map tree.task_tree tasks ≡ map (task_bound (net_by (net_named models))) raws → All (AreDeclared vars) tasks → All (IsCheckable (length (nets models)) vars) tasks
all_checkable models vars [] [] all e declared = λ k d l. absurd (omega (arith, l))
all_checkable models vars [] (t ∷ tasks) all e declared = absurd (cc e)
all_checkable models vars (r ∷ raws) [] all e declared = absurd (cc e)
all_checkable models vars (r ∷ raws) (t ∷ tasks) all e declared =
    let first : tree.task_tree t ≡ task_bound (net_by (net_named models)) r = cc e in
    let rest : map tree.task_tree tasks ≡ map (task_bound (net_by (net_named models))) raws = cc e in
    All-cons (IsCheckable (length (nets models)) vars) t tasks
    (one_checkable models vars r t (all_left (λ (m : Mention). IsSome (net_named models m.node)) (task_mentions r) (mentions_of raws) all) first (declared 0 t (omega arith)))
    (all_checkable models vars raws tasks (all_right (λ (m : Mention). IsSome (net_named models m.node)) (task_mentions r) (mentions_of raws) all) rest (λ k d l. declared (suc k) d (omega (arith, l))))

-- tasks that are read and bound keep the promises of what is prepared
pub promised : (models : List Model) (raws : RawTasks) (net : RawNet) (tasks : Tasks) → IsFlat models net → IsBindAnswer (net_named models) (length (nets models)) raws (Ok tasks) → All (AreDeclared (length tasks.vars)) tasks.tasks →
    All (IsCheckable net.nets (length tasks.vars)) tasks.tasks
promised models raws net tasks flat bound declared =
    subst (λ n. All (IsCheckable n (length tasks.vars)) tasks.tasks) (sym flat.nets) (all_checkable models (length tasks.vars) raws.tasks tasks.tasks bound.0 bound.2.1 declared)

-- there are as many bound tasks as there were
pub as_many : (models : List Model) (raws : RawTasks) (tasks : Tasks) → IsBindAnswer (net_named models) (length (nets models)) raws (Ok tasks) → length raws.tasks ≡ length tasks.tasks
as_many models raws tasks bound =
    sym (length-map raws.tasks (task_bound (net_by (net_named models)))) ∙ (sym (ap length bound.2.1) ∙ length-map tasks.tasks tree.task_tree)

-- a task file that is read has a task
pub some_tasks : (models : List Model) (task_text : List ℕ) (raws : RawTasks) (tasks : Tasks) → AreTasks task_text raws → IsBindAnswer (net_named models) (length (nets models)) raws (Ok tasks) → 0 < length tasks.tasks
some_tasks models task_text raws tasks read bound =
    let h = read a_parse.0 a_parse.1 in
    let same = as_many models raws tasks bound in
    let some : 0 < length raws.tasks = not_none raws.tasks (λ e. h.3 (sym h.2 ∙ ap (map raw_task_tree) e)) in
    omega (arith, same, some)
  where
    not_none : (raw : List RawTask) → (raw ≡ [] → ⊥) → 0 < length raw
    not_none [] some = absurd (some refl)
    not_none (task ∷ raw) some = omega arith

-- the variables of bound tasks are as few as those that were read
pub few_vars : (models : List Model) (raws : RawTasks) (tasks : Tasks) → length raws.vars ≤ most_variables → IsBindAnswer (net_named models) (length (nets models)) raws (Ok tasks) → length tasks.vars ≤ most_variables
few_vars models raws tasks few bound = subst (λ (vars : List (List ℕ)). length vars ≤ most_variables) (sym bound.2.0) few

-- the steps of all tasks together are bounded
all_steps : (steps : Option ℕ) (raws tasks : ℕ) → are_too_many steps raws ≡ false → raws ≡ tasks → 0 < tasks → tasks * task_steps steps tasks ≤ 16000000
all_steps None raws tasks few same some =
    let least : task_steps None tasks ≤ 16000000 / tasks = omega arith in
    let more : tasks * task_steps None tasks ≤ tasks * (16000000 / tasks) = mul-le-mul_left tasks least in
    let share : tasks * (16000000 / tasks) ≤ 16000000 = mul-div-le 16000000 tasks in
    omega (arith, more, share)
all_steps (Some steps) raws tasks few same some =
    let within : steps * raws ≤ 16000000 = grind (arith, few) in
    let product : steps * raws ≡ tasks * steps = ap (λ n. steps * n) same ∙ mul_comm steps tasks in
    omega (arith, within, product)

-- the steps of all tasks, in what is prepared
pub all_bounded : (steps : Option ℕ) (net_text task_text : List ℕ) (names : List (List ℕ)) (net : RawNet) (tasks : Tasks) (each count : ℕ) → IsPrepared steps net_text task_text names net tasks → 0 < length tasks.tasks → each ≡ task_steps steps count → count ≡ length tasks.tasks → length tasks.tasks * each ≤ 16000000
all_bounded steps net_text task_text names net tasks each count made some is counted =
    subst (λ n. length tasks.tasks * n ≤ 16000000) (sym (is ∙ ap (task_steps steps) counted))
    (all_steps steps (length made.reading.raw.tasks) (length tasks.tasks) made.few (as_many made.models made.reading.raw tasks made.reading.bound) some)

-- the steps of a task are no more than those of all
pub each_bounded : (tasks each : ℕ) → 0 < tasks → tasks * each ≤ 16000000 → each ≤ 16000000
each_bounded zero each some within = absurd (omega (arith, some))
each_bounded (suc tasks) each some within = let least : each ≤ suc tasks * each = grind arith in omega (arith, within, least)

-- each of at most 256 tasks has a step
pub each_some : (steps : Option ℕ) (tasks : ℕ) → IfSome steps (λ (n : ℕ). (1 ≤ n) × (n ≤ 16000000)) → 0 < tasks → tasks ≤ 256 → 1 ≤ task_steps steps tasks
each_some None tasks given some few =
    let share : 1 ≤ 16000000 / tasks = (le-div_iff_mul-le {k = tasks} {x = 1} {y = 16000000} some).1 (omega (arith, few)) in
    omega (arith, share)
each_some (Some steps) tasks given some few = given.0

-- what a check writes, over so many nets
pub is_check_over : (steps : Option ℕ) (cubes : ℕ) (wave nodes : Bool) (net_text task_text : List ℕ) (names : List (List ℕ)) (net : RawNet) (tasks : Tasks) (each count : ℕ) (passes : Bool) (bytes : List ℕ) (many : ℕ) → IsPrepared steps net_text task_text names net tasks → each ≡ task_steps steps count → count ≡ length tasks.tasks →
    IsReportOn names net each cubes wave nodes tasks passes bytes → many ≡ net.nets → IsCheckOver steps cubes wave nodes net_text task_text passes bytes many
is_check_over steps cubes wave nodes net_text task_text names net tasks each count passes bytes many made is counted report same = (
  record {
    models = made.models;
    net = net;
    tasks = tasks;
    reading = made.reading;
    few = made.few;
    report = subst (λ ns. IsReportOn ns net (task_steps steps (length tasks.tasks)) cubes wave nodes tasks passes bytes) made.named
        (subst (λ n. IsReportOn names net n cubes wave nodes tasks passes bytes) (is ∙ ap (task_steps steps) counted) report);
  },
  same,
)
