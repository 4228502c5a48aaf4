-- Law: tasks that are written out as lines are read back; and how they are written.
use Rattle.std.specs.Prelude.{◌≡◌, ◌≤◌, ℕ, ◌++◌, ◌∷◌, [], List, length, map, filter, All, Bool, true, false, Option, Some, None, if◌then◌else◌, bytes_eq, codes}
use Rattle.std.specs.List.{flat_map, list_all}
use Rattle.ste_base.specs.Limits.{most_variables}
use Rattle.indexmap.specs.IndexSet.{insert_all}
use Rattle.blif_lines.specs.declared.lines.Line.{Line}
use Rattle.blif_lines.specs.Laws.{text_of_words}
use Rattle.bool_expr.specs.Grammar.{Expression, nesting, spelling}
use Rattle.bool_expr.specs.Read.{Spells, first_unknown, number_in}
use Rattle.assert_syntax.specs.declared.form.Moment.TheVariants as moment
use Rattle.assert_syntax.specs.declared.form.Side.{Side}
use Rattle.assert_syntax.specs.declared.form.Side.TheVariants.{Antecedent, Consequent}
use Rattle.assert_syntax.specs.Answer.{task_entries_of}
use Rattle.assert_syntax.specs.Parses.{Parse, IsParse, tree_over}
use Rattle.assert_syntax.specs.Places.{first_task_fault}
use Rattle.assert_syntax.specs.Rules.{IsFirstDouble}
use Rattle.assert_syntax.specs.Spelled.{RawQuintTree, RawBindTree, RawEdgeTree, MarkTree, RawTaskTree, RawWeakTree, assertion, graph, is_side, tasks_of, vars_with, vertex_number}
use Rattle.assert_syntax.specs.Words.{ends_expression, is_variable, moment_of}

-- the times of a clause: how they are written, and what they are
pub record SaidTimes : Type 0 where
  pub first : List ℕ
  pub last : List ℕ
  pub from : ℕ
  pub to : ℕ

-- a clause: the words of its value, those of its guard where one is written, and its times where it
-- has them
pub record SaidClause : Type 0 where
  pub line : ℕ
  pub side : Side
  pub node : List ℕ
  pub value : List (List ℕ)
  pub guard : Option (List (List ℕ))
  pub times : Option SaidTimes

-- a weakening: its times where it has them
pub record SaidWeak : Type 0 where
  pub line : ℕ
  pub node : List ℕ
  pub times : Option SaidTimes

-- an edge between two vertices, with its clauses and its weakenings, each in order
pub record SaidEdge : Type 0 where
  pub line : ℕ
  pub from : List ℕ
  pub to : List ℕ
  pub clauses : List SaidClause
  pub weaks : List SaidWeak

-- a task
pub data SaidTask : Type 0 where
  -- line, name, reset, clauses in order and weakenings in order
  ste : ℕ → List ℕ → Bool → List SaidClause → List SaidWeak → SaidTask
  -- line, name, initial vertex, reset and edges in order
  gste : ℕ → List ℕ → List ℕ → Bool → List SaidEdge → SaidTask

-- the words of a clause
abbrev pub side_word : Side → List ℕ
side_word Antecedent = codes ".ant"
side_word Consequent = codes ".con"

abbrev pub guard_words : Option (List (List ℕ)) → List (List ℕ)
guard_words None = []
guard_words (Some words) = codes "when" ∷ words

abbrev pub times_words : Option SaidTimes → List (List ℕ)
times_words None = []
times_words (Some times) = codes "from" ∷ times.first ∷ codes "to" ∷ times.last ∷ []

abbrev pub clause_words : SaidClause → List (List ℕ)
clause_words clause =
    side_word clause.side ∷ clause.node ∷ codes "=" ∷ (clause.value
    ++ (guard_words clause.guard ++ times_words clause.times))

-- a line of these words
abbrev pub line_of : ℕ → List (List ℕ) → Line
line_of number words = record { number = number; words = words }

abbrev pub clause_line : SaidClause → Line
clause_line clause = line_of clause.line (clause_words clause)

-- the line of a weakening
abbrev pub weak_line : SaidWeak → Line
weak_line weak = line_of weak.line (codes ".weak" ∷ weak.node ∷ times_words weak.times)

-- the lines of an edge
abbrev pub edge_lines : SaidEdge → List Line
edge_lines edge =
    line_of edge.line (codes ".edge" ∷ edge.from ∷ edge.to ∷ [])
    ∷ (map clause_line edge.clauses ++ map weak_line edge.weaks)

-- the lines of a task
abbrev pub reset_words : Bool → List (List ℕ)
reset_words reset = if reset then codes "reset" ∷ [] else []

abbrev pub task_lines : SaidTask → List Line
task_lines (ste line name reset clauses weaks) =
    line_of line (codes ".ste" ∷ name ∷ reset_words reset)
    ∷ (map clause_line clauses ++ (map weak_line weaks ++ line_of line (codes ".end" ∷ []) ∷ []))
task_lines (gste line name vertex reset edges) =
    line_of line (codes ".gste" ∷ name ∷ vertex ∷ reset_words reset)
    ∷ (flat_map edge_lines edges ++ line_of line (codes ".end" ∷ []) ∷ [])

-- the line of the variables, where there are any
abbrev pub vars_lines : List (List ℕ) → List Line
vars_lines [] = []
vars_lines (name ∷ names) = line_of 1 (codes ".vars" ∷ name ∷ names) ∷ []

-- the variables and the tasks, written out
abbrev pub written : List (List ℕ) → List SaidTask → List Line
written vars tasks = vars_lines vars ++ flat_map task_lines tasks

-- the text of a guard; without one it is 1
abbrev pub guard_text : Option (List (List ℕ)) → List ℕ
guard_text None = codes "1"
guard_text (Some words) = text_of_words words

-- the two times, or 0
abbrev pub said_from : Option SaidTimes → ℕ
said_from None = 0
said_from (Some times) = times.from

abbrev pub said_to : Option SaidTimes → ℕ
said_to None = 0
said_to (Some times) = times.to

-- what a clause says over these variables
abbrev pub said_quint : Parse → List (List ℕ) → SaidClause → RawQuintTree
said_quint parse vars clause = record {
  line = clause.line;
  guard = tree_over vars (parse (guard_text clause.guard));
  node = clause.node;
  value = tree_over vars (parse (text_of_words clause.value));
  from = said_from clause.times;
  to = said_to clause.times;
}

abbrev pub said_bind : Parse → List (List ℕ) → SaidClause → RawBindTree
said_bind parse vars clause = record {
  line = clause.line;
  guard = tree_over vars (parse (guard_text clause.guard));
  node = clause.node;
  value = tree_over vars (parse (text_of_words clause.value));
}

-- what a weakening says, in an assertion and behind an edge
abbrev pub said_weak : SaidWeak → RawWeakTree
said_weak weak =
    record {
      line = weak.line;
      node = weak.node;
      from = said_from weak.times;
      to = said_to weak.times;
    }

abbrev pub said_mark : SaidWeak → MarkTree
said_mark weak = record { line = weak.line; node = weak.node }

-- the clauses of one side
abbrev pub on_side : Side → List SaidClause → List SaidClause
on_side side clauses = filter (λ clause. is_side side clause.side) clauses

-- the vertices of a graph, in the order of first mention
abbrev pub ends_of : SaidEdge → List (List ℕ)
ends_of edge = edge.from ∷ edge.to ∷ []

abbrev pub vertices_said : List ℕ → List SaidEdge → List (List ℕ)
vertices_said vertex edges = insert_all bytes_eq (vertex ∷ []) (flat_map ends_of edges)

-- what an edge says, between these vertices
abbrev pub said_edge : Parse → List (List ℕ) → List (List ℕ) → SaidEdge → RawEdgeTree
said_edge parse vars vertices edge = record {
  line = edge.line;
  from = vertex_number vertices edge.from;
  to = vertex_number vertices edge.to;
  ant = map (said_bind parse vars) (on_side Antecedent edge.clauses);
  con = map (said_bind parse vars) (on_side Consequent edge.clauses);
  weak = map said_mark edge.weaks;
}

-- what a task says
abbrev pub said_task : Parse → List (List ℕ) → SaidTask → RawTaskTree
said_task parse vars (ste line name reset clauses weaks) =
    assertion line name reset (map (said_quint parse vars) (on_side Antecedent clauses))
    (map (said_quint parse vars) (on_side Consequent clauses))
    (map said_weak weaks)
said_task parse vars (gste line name vertex reset edges) =
    graph line name reset (vertices_said vertex edges) (map
    (said_edge parse vars (vertices_said vertex edges)) edges)

-- the words can stand for an expression over these variables: none of them ends one, and together
-- they spell one that is nested at most 100
pub record IsExpression (vars words : List (List ℕ)) : Type 0 where
  pub goes_on : All (λ word. ends_expression word ≡ false) words
  pub d : Expression
  pub spells : Spells d (text_of_words words)
  pub flat : nesting d ≤ 100
  pub known : first_unknown (number_in vars) (spelling d) ≡ None

-- the words of the times say them, in order
pub record AreTimes (times : SaidTimes) : Type 0 where
  pub first : moment_of times.first ≡ moment.At times.from
  pub last : moment_of times.last ≡ moment.At times.to
  pub ordered : times.from ≤ times.to

-- a clause that can be written: with times in an assertion, without behind an edge
abbrev pub IsGuard : List (List ℕ) → Option (List (List ℕ)) → Type 0
IsGuard vars None = Unit {0}
IsGuard vars (Some words) = IsExpression vars words

abbrev pub IsTimed : Option SaidTimes → Type 0
IsTimed None = ⊥
IsTimed (Some times) = AreTimes times

pub record IsQuintSaid (vars : List (List ℕ)) (clause : SaidClause) : Type 0 where
  pub value : IsExpression vars clause.value
  pub guard : IsGuard vars clause.guard
  pub times : IsTimed clause.times

pub record IsBindSaid (vars : List (List ℕ)) (clause : SaidClause) : Type 0 where
  pub value : IsExpression vars clause.value
  pub guard : IsGuard vars clause.guard
  pub times : clause.times ≡ None

-- an edge that can be written: its weakenings have no times
pub record IsEdgeSaid (vars : List (List ℕ)) (edge : SaidEdge) : Type 0 where
  pub clauses : All (IsBindSaid vars) edge.clauses
  pub weaks : All (λ weak. weak.times ≡ None) edge.weaks

-- a task that can be written
abbrev pub IsSayable : List (List ℕ) → SaidTask → Type 0
IsSayable vars (ste line name reset clauses weaks) =
    All (IsQuintSaid vars) clauses × All (λ weak. IsTimed weak.times) weaks
IsSayable vars (gste line name vertex reset edges) =
    (length (vertices_said vertex edges) ≤ 1000) × (length edges ≤ 10000)
    × All (IsEdgeSaid vars) edges

-- the name of a task
abbrev pub said_name : SaidTask → List ℕ
said_name (ste line name reset clauses weaks) = name
said_name (gste line name vertex reset edges) = name

-- variables and tasks that can be written: no more than there may be, and no name twice
pub record AreSayable (vars : List (List ℕ)) (tasks : List SaidTask) : Type 0 where
  pub variables : list_all is_variable vars ≡ true
  pub few_vars : length vars ≤ most_variables
  pub vars_once : (name : List ℕ) → IsFirstDouble [] vars name → ⊥
  pub few_tasks : length tasks ≤ 256
  pub names_once : (name : List ℕ) → IsFirstDouble [] (map said_name tasks) name → ⊥
  pub each : All (IsSayable vars) tasks

-- Law: tasks that are written out are read back, with no fault.
pub record WrittenIsRead : Type 0 where
  pub sound : (parse : Parse) (vars : List (List ℕ)) (tasks : List SaidTask) → IsParse parse →
      AreSayable vars tasks →
      first_task_fault parse [] (task_entries_of (written vars tasks)) ≡ None
  pub vars : (vars : List (List ℕ)) (tasks : List SaidTask) → AreSayable vars tasks →
      vars_with [] (task_entries_of (written vars tasks)) ≡ vars
  pub same : (parse : Parse) (vars : List (List ℕ)) (tasks : List SaidTask) →
      AreSayable vars tasks →
      tasks_of parse [] (task_entries_of (written vars tasks)) ≡ map (said_task parse vars) tasks
