-- What is read has its variables declared, and its graphs are fit to be checked.
use Rattle.std.proofs.Common.{◌≡◌, ℕ, ◌≤◌, ◌<◌, List, [], ◌∷◌, length, map, Bool, true, None, Ok, refl, ap, sym, ◌∙◌, subst, arith, lt-ltb}
use Rattle.std.specs.Prelude.{◌&&◌, All, nat_lt}
use Rattle.std.specs.List.{list_all}
use Rattle.std.proofs.lemmas.Bool.{and_from, and_parts}
use Rattle.std.proofs.lemmas.List.Elements.{All-cons}
use Rattle.blif_syntax.specs.declared.models.Model.{Model}
use Rattle.hierarchy.specs.Names.{net_named}
use Rattle.hierarchy.specs.Nets.{nets}
use Rattle.assert_syntax.specs.Forms.{Entry, Form}
use Rattle.assert_syntax.specs.Forms as form
use Rattle.assert_syntax.specs.Parses.{Parse}
use Rattle.assert_syntax.specs.Places.{context_of, first_task_fault, line_fault, vars_behind}
use Rattle.assert_syntax.specs.Spelled as said
use Rattle.assert_syntax.specs.declared.form.Side.{Side}
use Rattle.assert_syntax.specs.declared.form.Side.TheVariants.{Antecedent, Consequent}
use Rattle.assert_syntax.specs.declared.tasks.RawEdge.{RawEdge}
use Rattle.assert_syntax.specs.declared.tasks.RawTask.{RawTask}
use Rattle.assert_syntax.specs.declared.tasks.RawTask.TheVariants as raw
use Rattle.assert_syntax.specs.declared.tasks.RawTasks.{RawTasks}
use Rattle.assert_syntax.proofs.Whole.{a_parse}
use Rattle.ste_model.specs.Need.{ReadBelow}
use Rattle.ste_model.specs.Trees as bound
use Rattle.ste_model.specs.declared.task.Graph.{Graph}
use Rattle.ste_model.specs.declared.task.Task.{Task}
use Rattle.ste_model.specs.declared.task.Task.TheVariants.{Ste, Gste}
use Rattle.ste_model.specs.declared.task.Tasks.{Tasks}
use Rattle.task_binding.specs.Answer.{IsBindAnswer}
use Rattle.task_binding.specs.Bound.{edge_bound, net_by, quint_bound, task_bound}
use Rattle.ste_program.specs.TaskFile.{AreTasks, task_lines}
use Rattle.ste_program.proofs.Declared.{bound_reads, no_fault_or, quint_reads, quints_read, vars_grow}
use Rattle.ste_program.proofs.GraphsDeclared.{IsEdgeDeclared, bound_edges, edge_fits, edges_fit, vertices_grow}

-- a graph has a vertex, and its edges lie between its vertices, with their variables below this number
pub record IsGraphDeclared (vars : ℕ) (graph : Graph) : Type 0 where
  pub some : 0 < length graph.vertices
  pub edges : All (IsEdgeDeclared vars (length graph.vertices)) graph.edges

-- the variables of a task are below this number, and a graph is fit
abbrev pub AreDeclared : ℕ → Task → Type 0
AreDeclared vars (Ste task) = ReadBelow vars task.ant × ReadBelow vars task.con
AreDeclared vars (Gste graph) = IsGraphDeclared vars graph

-- the same of what is spelled
abbrev graph_fits : ℕ → List (List ℕ) → List said.RawEdgeTree → Bool
graph_fits vars vertices edges = nat_lt 0 (length vertices) && list_all (edge_fits vars (length vertices)) edges

abbrev task_fits : ℕ → said.RawTaskTree → Bool
task_fits vars (said.assertion line name reset ant con weak) = list_all (quint_reads vars) ant && list_all (quint_reads vars) con
task_fits vars (said.graph line name reset vertices edges) = graph_fits vars vertices edges

with_task : (parse : Parse) (names : List (List ℕ)) (vars line : ℕ) (shape : Form) (lines : List Entry) (later : List said.RawTaskTree) →
    ((side : Side) → list_all (quint_reads vars) (said.quints_of parse side (vars_behind shape names) lines) ≡ true) →
    ((name vertex : List ℕ) (reset : Bool) → shape ≡ form.gste name vertex reset → graph_fits vars (said.vertices_of (vertex ∷ []) lines) (said.edges_of parse names (vertex ∷ []) lines) ≡ true) →
    list_all (task_fits vars) later ≡ true → list_all (task_fits vars) (said.tasks_with parse names line shape lines later) ≡ true
with_task parse names vars line (form.ste name reset) lines later quints graphs all =
    let ant = said.quints_of parse Antecedent names lines in
    let con = said.quints_of parse Consequent names lines in
    and_from (list_all (quint_reads vars) ant && list_all (quint_reads vars) con) (list_all (task_fits vars) later)
    (and_from (list_all (quint_reads vars) ant) (list_all (quint_reads vars) con) (quints Antecedent) (quints Consequent)) all
with_task parse names vars line (form.gste name vertex reset) lines later quints graphs all =
    and_from (graph_fits vars (said.vertices_of (vertex ∷ []) lines) (said.edges_of parse names (vertex ∷ []) lines)) (list_all (task_fits vars) later) (graphs name vertex reset refl) all
with_task parse names vars line (form.vars others) lines later quints graphs all = all
with_task parse names vars line (form.edge from to) lines later quints graphs all = all
with_task parse names vars line (form.clause clause) lines later quints graphs all = all
with_task parse names vars line (form.weak node times) lines later quints graphs all = all
with_task parse names vars line form.ending lines later quints graphs all = all
with_task parse names vars line form.wrong lines later quints graphs all = all

-- the graph that a line starts
started : (parse : Parse) (vars : ℕ) (earlier : List Entry) (line : Entry) (lines : List Entry) (name vertex : List ℕ) (reset : Bool) → line.form ≡ form.gste name vertex reset → first_task_fault parse (line ∷ earlier) lines ≡ None →
    length (said.vars_with (vars_behind line.form (context_of earlier).vars) lines) ≤ vars → graph_fits vars (said.vertices_of (vertex ∷ []) lines) (said.edges_of parse (context_of earlier).vars (vertex ∷ []) lines) ≡ true
started parse vars earlier line lines name vertex reset is fine l =
    let entry : Entry = record { line = line.line; form = form.gste name vertex reset } in
    let same : line ≡ entry = ap (λ (f : Form). with_form f) is in
    let none : first_task_fault parse (entry ∷ earlier) lines ≡ None = subst (λ (e : Entry). first_task_fault parse (e ∷ earlier) lines ≡ None) same fine in
    let below : length (said.vars_with (context_of earlier).vars lines) ≤ vars = subst (λ (e : Entry). length (said.vars_with (vars_behind e.form (context_of earlier).vars) lines) ≤ vars) same l in
    let vertices = said.vertices_of (vertex ∷ []) lines in
    let edges = said.edges_of parse (context_of earlier).vars (vertex ∷ []) lines in
    let some : 0 < length vertices = (let grown = vertices_grow (vertex ∷ []) lines in omega (arith, grown)) in
    and_from (nat_lt 0 (length vertices)) (list_all (edge_fits vars (length vertices)) edges) (lt-ltb 0 (length vertices) some) (edges_fit parse vars (entry ∷ earlier) lines none vars_grow below)
  where
    with_form : Form → Entry
    with_form f = record { line = line.line; form = f }

spelled_fits : (parse : Parse) (vars : ℕ) (earlier lines : List Entry) → first_task_fault parse earlier lines ≡ None → length (said.vars_with (context_of earlier).vars lines) ≤ vars →
    list_all (task_fits vars) (said.tasks_of parse (context_of earlier).vars lines) ≡ true
spelled_fits parse vars earlier [] e l = refl
spelled_fits parse vars earlier (line ∷ lines) e l =
    let both = no_fault_or line.line (line_fault parse (context_of earlier) line.form) (first_task_fault parse (line ∷ earlier) lines) e in
    with_task parse (context_of earlier).vars vars line.line line.form lines (said.tasks_of parse (vars_behind line.form (context_of earlier).vars) lines)
    (λ side. quints_read parse side vars (line ∷ earlier) lines both.1 l)
    (λ name vertex reset is. started parse vars earlier line lines name vertex reset is both.1 l)
    (spelled_fits parse vars (line ∷ earlier) lines both.1 l)

graph_declared : (vars : ℕ) (net : List ℕ → ℕ) (line : ℕ) (name : List ℕ) (reset : Bool) (vertices : List (List ℕ)) (edges : List RawEdge) (graph : Graph) → graph_fits vars vertices (map said.raw_edge_tree edges) ≡ true → graph.vertices ≡ vertices →
    map bound.edge_tree graph.edges ≡ map (edge_bound net) edges → IsGraphDeclared vars graph
graph_declared vars net line name reset vertices edges graph fits same trees =
    let one = and_parts (nat_lt 0 (length vertices)) (list_all (edge_fits vars (length vertices)) (map said.raw_edge_tree edges)) fits in
    let some : 0 < length vertices = (let there = one.0 in grind (arith, there)) in
    record {
      some = subst (λ (vs : List (List ℕ)). 0 < length vs) (sym same) some;
      edges = subst (λ (vs : List (List ℕ)). All (IsEdgeDeclared vars (length vs)) graph.edges) (sym same) (bound_edges vars (length vertices) net edges graph.edges one.1 trees);
    }

one_declared : (vars : ℕ) (net : List ℕ → ℕ) (task_raw : RawTask) (task : Task) → task_fits vars (said.raw_task_tree task_raw) ≡ true → bound.task_tree task ≡ task_bound net task_raw → AreDeclared vars task
one_declared vars net (raw.Ste line name reset ant con weak) (Ste task) all e =
    let both = and_parts (list_all (quint_reads vars) (map said.raw_quint_tree ant)) (list_all (quint_reads vars) (map said.raw_quint_tree con)) all in
    let same_ant : map bound.quint_tree task.ant ≡ map (quint_bound net) ant = cc e in
    let same_con : map bound.quint_tree task.con ≡ map (quint_bound net) con = cc e in
    (bound_reads vars net ant task.ant both.0 same_ant, bound_reads vars net con task.con both.1 same_con)
one_declared vars net (raw.Gste line name reset vertices edges) (Ste task) all e = absurd (cc e)
one_declared vars net (raw.Ste line name reset ant con weak) (Gste graph) all e = absurd (cc e)
one_declared vars net (raw.Gste line name reset vertices edges) (Gste graph) all e =
    let same : graph.vertices ≡ vertices = cc e in
    let trees : map bound.edge_tree graph.edges ≡ map (edge_bound net) edges = cc e in
    graph_declared vars net line name reset vertices edges graph all same trees

all_declared : (vars : ℕ) (net : List ℕ → ℕ) (raws : List RawTask) (tasks : List Task) → list_all (task_fits vars) (map said.raw_task_tree raws) ≡ true → map bound.task_tree tasks ≡ map (task_bound net) raws → All (AreDeclared vars) tasks
all_declared vars net [] [] all e = λ k d l. absurd (omega (arith, l))
all_declared vars net [] (t ∷ tasks) all e = absurd (cc e)
all_declared vars net (r ∷ raws) [] all e = absurd (cc e)
all_declared vars net (r ∷ raws) (t ∷ tasks) all e =
    let both = and_parts (task_fits vars (said.raw_task_tree r)) (list_all (task_fits vars) (map said.raw_task_tree raws)) all in
    let first : bound.task_tree t ≡ task_bound net r = cc e in
    let rest : map bound.task_tree tasks ≡ map (task_bound net) raws = cc e in
    All-cons (AreDeclared vars) t tasks (one_declared vars net r t both.0 first) (all_declared vars net raws tasks both.1 rest)

-- the tasks that are read and bound are declared
pub tasks_declared : (models : List Model) (task_text : List ℕ) (raw : RawTasks) (tasks : Tasks) → AreTasks task_text raw → IsBindAnswer (net_named models) (length (nets models)) raw (Ok tasks) →
    All (λ task. AreDeclared (length tasks.vars) task) tasks.tasks
tasks_declared models task_text raw tasks read answer =
    let lines = task_lines task_text in
    let is = read a_parse.0 a_parse.1 in
    let count : length tasks.vars ≡ length (said.vars_with [] lines) = ap length (answer.2.0 ∙ is.1) in
    let spelled = spelled_fits a_parse.0 (length tasks.vars) [] lines is.0 (omega (arith, count)) in
    all_declared (length tasks.vars) (net_by (net_named models)) raw.tasks tasks.tasks
    (ap (list_all (task_fits (length tasks.vars))) is.2 ∙ spelled) answer.2.1
