-- Meaning. The bytes of a report: the lines of each task, in order. Source: this project's own
-- choice.
use Rattle.std.specs.Prelude.{◌++◌, ◌||◌, ℕ, Bool, if◌then◌else◌, List, [], ◌∷◌, Option, None, Some, codes, map, nat_eq, slice_index_or, zip}
use Rattle.std.specs.Fmt.{decimal}
use Rattle.std.specs.List.{enumerate_from, flat_map, list_any}
use Rattle.ste_base.specs.declared.id.NodeId.{NodeId}
use Rattle.ste_base.specs.declared.id.VarId.{VarId}
use Rattle.ste_model.specs.declared.cubes.CubeList.{CubeList}
use Rattle.ste_model.specs.declared.report.Guards.{Guards}
use Rattle.ste_model.specs.declared.report.Report.{Report}
use Rattle.ste_model.specs.declared.run.Run.{Run}
use Rattle.ste_model.specs.declared.task.Bind.{Bind}
use Rattle.ste_model.specs.declared.task.Edge.{Edge}
use Rattle.ste_model.specs.declared.task.Quint.{Quint}
use Rattle.ste_model.specs.declared.task.Task.{Task}
use Rattle.ste_model.specs.declared.task.Task.TheVariants.{Ste, Gste}
use Rattle.ste_model.specs.declared.verdict.Verdict.{Verdict}
use Rattle.ste_model.specs.declared.verdict.Verdict.TheVariants.{Pass, Weak, Strong, Vacuous, Budget}

-- the words of a verdict
abbrev pub verdict_words : Verdict → List ℕ
verdict_words Pass = codes "pass"
verdict_words Weak = codes "weak failure"
verdict_words Strong = codes "strong failure"
verdict_words Vacuous = codes "contradictory antecedent"
verdict_words Budget = codes "budget"

-- pieces with a separator between two of them
abbrev pub joined_text : List ℕ → List (List ℕ) → List ℕ
joined_text separator [] = []
joined_text separator (piece ∷ pieces) = piece ++ flat_map (λ other. separator ++ other) pieces

-- the character of a bit
abbrev pub bit_code : Bool → ℕ
bit_code bit = if bit then 49 else 48

-- a literal: the name of its variable, behind `!` where its bit is 0
abbrev pub literal_text : List (List ℕ) → (VarId × Bool) → List ℕ
literal_text vars literal = (if literal.1 then [] else codes "!")
    ++ slice_index_or vars literal.0.0 []

-- a cube: its literals, joined by ` & `; the blank cube is `1`
abbrev pub cube_text : List (List ℕ) → List (VarId × Bool) → List ℕ
cube_text vars [] = codes "1"
cube_text vars (literal ∷ literals) =
    joined_text (codes " & ") (map (literal_text vars) (literal ∷ literals))

-- The line of cubes with a title, joined by ` | `, with ` | ...` behind them where there are more;
-- without cubes there is no line.
abbrev pub cubes_line : List ℕ → List (List ℕ) → List (List (VarId × Bool)) → Bool → List ℕ
cubes_line title vars [] more = []
cubes_line title vars (cube ∷ cubes) more =
    codes "  " ++ title ++ codes ": " ++ joined_text (codes " | ")
    (map (cube_text vars) (cube ∷ cubes))
    ++ (if more then codes " | ..." else []) ++ codes "\n"

-- the line of a list of cubes
abbrev pub list_line : List ℕ → List (List ℕ) → CubeList → List ℕ
list_line title vars list = cubes_line title vars list.cubes list.more

-- the lines of the strong, the weak and the contradictory assignments
abbrev pub guards_text : List (List ℕ) → Guards → List ℕ
guards_text vars guards =
    list_line (codes "strong") vars guards.strong
    ++ list_line (codes "weak") vars guards.weak
    ++ list_line (codes "contradictory") vars guards.contradictory

-- a variable and its bit, behind a space
abbrev pub bit_part : List ℕ × Bool → List ℕ
bit_part at = codes " " ++ at.0 ++ codes "=" ++ bit_code at.1 ∷ []

-- the line of the least assignment, where there is one: each variable and its bit
abbrev pub least_line : List (List ℕ) → Option (List Bool) → List ℕ
least_line vars None = []
least_line vars (Some bits) = codes "  least:" ++ flat_map bit_part (zip vars bits) ++ codes "\n"

-- the number of an edge, behind a space
abbrev pub edge_part : ℕ → List ℕ
edge_part edge = codes " " ++ decimal edge

-- the line of the shown path, where there is one: the numbers of its edges
abbrev pub path_line : List ℕ → List ℕ
path_line [] = []
path_line (edge ∷ edges) = codes "  path:" ++ flat_map edge_part (edge ∷ edges) ++ codes "\n"

-- the line of the failing place, where there is one: the net's own name, and the time
abbrev pub fails_line : List (List ℕ) → Option (NodeId × ℕ) → List ℕ
fails_line names None = []
fails_line names (Some place) =
    codes "  fails: " ++ slice_index_or names place.0.0 [] ++ codes " at " ++ decimal place.1
    ++ codes "\n"

-- the task names the net, in a quintuple of an assertion or a binding of a graph's edge
abbrev pub names_net : Task → ℕ → Bool
names_net (Ste task) id =
    list_any (λ (quint : Quint). nat_eq quint.node.0 id) task.ant
    || list_any (λ (quint : Quint). nat_eq quint.node.0 id) task.con
names_net (Gste graph) id =
    list_any (λ (edge : Edge). list_any (λ (bind : Bind). nat_eq bind.node.0 id) edge.ant
    || list_any (λ (bind : Bind). nat_eq bind.node.0 id) edge.con) graph.edges

-- the net is shown in a run: the task names it, or all nets are shown
abbrev pub is_shown : Bool → Task → ℕ → Bool
is_shown wave task id = wave || names_net task id

-- the line of a net in a run: its own name, and its bits from time 0 on
abbrev pub net_line : List ℕ × List Bool → List ℕ
net_line net = codes "    " ++ net.0 ++ codes ": " ++ map bit_code net.1 ++ codes "\n"

-- the line of a net in a run, where it is shown
abbrev pub row_line : Bool → Task → ℕ × (List ℕ × List Bool) → List ℕ
row_line wave task at = if is_shown wave task at.0 then net_line at.1 else []

-- the lines of the printed run, where there is one: a line for each shown net, in the order of the
-- nets
abbrev pub run_text : List (List ℕ) → Bool → Task → Option Run → List ℕ
run_text names wave task None = []
run_text names wave task (Some run) =
    codes "  run:\n" ++ flat_map (row_line wave task) (enumerate_from 0 (zip names run.rows))

-- The lines of a task, over nets with these own names and variables with these names: its name and
-- verdict, its assignments, and what a failure shows.
abbrev pub task_text : List (List ℕ) → List (List ℕ) → Bool → Task × Report → List ℕ
task_text names vars wave at =
    at.1.name ++ codes ": " ++ verdict_words at.1.verdict ++ codes "\n"
    ++ guards_text vars at.1.guards
    ++ least_line vars at.1.least
    ++ path_line at.1.path
    ++ fails_line names at.1.fails
    ++ run_text names wave at.0 at.1.run

-- the line of the number of shared nodes, where it is asked for
abbrev pub nodes_line : Option ℕ → List ℕ
nodes_line None = []
nodes_line (Some nodes) = codes "shared nodes: " ++ decimal nodes ++ codes "\n"

-- the whole text: the lines of each task in order, and the number of shared nodes
abbrev pub report_text : List (List ℕ) → List (List ℕ) → Bool → Option ℕ → List Task → List Report →
    List ℕ
report_text names vars wave nodes tasks reports =
    flat_map (task_text names vars wave) (zip tasks reports) ++ nodes_line nodes
