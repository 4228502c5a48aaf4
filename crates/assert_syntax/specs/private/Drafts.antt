-- For private functions. What the reader holds of the lines that it has read, and what its parts
-- answer.
use Rattle.std.specs.Prelude.{◌≤◌, ℕ, ◌++◌, ◌∷◌, [], List, length, Option, Some, None, Result, Ok, Err}
use Rattle.ste_base.specs.Limits.{most_variables}
use Rattle.bool_expr.specs.declared.expr.Expr.{Expr}
use Rattle.bool_expr.specs.declared.fault.ExprFault.{ExprFault}
use Rattle.bool_expr.specs.declared.fault.ExprFault.TheVariants as expr_fault
use Rattle.assert_syntax.specs.declared.draft.OpenTask.{OpenTask}
use Rattle.assert_syntax.specs.declared.draft.OpenTask.TheVariants as task
use Rattle.assert_syntax.specs.declared.fault.TaskFault.{TaskFault}
use Rattle.assert_syntax.specs.declared.fault.TaskFault.TheVariants.{BadLine, TooDeep, UnknownVar, TooMany, OutOfMemory}
use Rattle.assert_syntax.specs.declared.form.Side.{Side}
use Rattle.assert_syntax.specs.declared.form.Side.TheVariants.{Antecedent, Consequent}
use Rattle.assert_syntax.specs.declared.form.Span.{Span}
use Rattle.assert_syntax.specs.declared.form.Span.TheVariants as span
use Rattle.assert_syntax.specs.declared.known.Known.{Known}
use Rattle.assert_syntax.specs.declared.tasks.RawBind.{RawBind}
use Rattle.assert_syntax.specs.declared.tasks.RawEdge.{RawEdge}
use Rattle.assert_syntax.specs.declared.tasks.RawMark.{RawMark}
use Rattle.assert_syntax.specs.declared.tasks.RawQuint.{RawQuint}
use Rattle.assert_syntax.specs.declared.tasks.RawTask.{RawTask}
use Rattle.assert_syntax.specs.declared.tasks.RawTask.TheVariants.{Ste, Gste}
use Rattle.assert_syntax.specs.declared.tasks.RawWeak.{RawWeak}
use Rattle.assert_syntax.specs.Forms.{Clause}
use Rattle.assert_syntax.specs.Places.{Context}
use Rattle.assert_syntax.specs.Spelled.{from_of, to_of}

-- what is known of the earlier lines
abbrev pub context_held : Known → Context
context_held known =
    record {
      place = known.position;
      vars = known.vars;
      names = known.names.keys;
      vertices = known.vertices.keys;
      edges = known.edges;
    }

-- there are no more of anything than there may be
pub record HasRoom (context : Context) : Type 0 where
  pub vars : length context.vars ≤ most_variables
  pub names : length context.names ≤ 256
  pub vertices : length context.vertices ≤ 1000
  pub edges : context.edges ≤ 10000

-- the expressions of a clause, or its fault, by what its value and its guard are read as
abbrev pub both_read : ℕ → Result Expr ExprFault → Result Expr ExprFault → Span →
    Result (Expr × Expr) TaskFault
both_read line (Err expr_fault.OutOfMemory) guard times = Err OutOfMemory
both_read line value (Err expr_fault.OutOfMemory) times = Err OutOfMemory
both_read line (Err expr_fault.BadExpr) guard times = Err (BadLine line)
both_read line value (Err expr_fault.BadExpr) times = Err (BadLine line)
both_read line (Err expr_fault.TooDeep) guard times = Err (TooDeep line)
both_read line value (Err expr_fault.TooDeep) times = Err (TooDeep line)
both_read line (Err (expr_fault.UnknownVar name)) guard times = Err (UnknownVar line name)
both_read line value (Err (expr_fault.UnknownVar name)) times = Err (UnknownVar line name)
both_read line (Ok value) (Ok guard) span.Late = Err (TooMany line)
both_read line (Ok value) (Ok guard) times = Ok (value, guard)

-- one more on this side of two lists
abbrev pub side_added : {T : Type 0} → Side → List T → List T → T → List T × List T
side_added Antecedent ant con item = (ant ++ item ∷ [], con)
side_added Consequent ant con item = (ant, con ++ item ∷ [])

-- the quintuple of a line
abbrev pub quint_of : ℕ → Clause → Expr → Expr → RawQuint
quint_of line clause value guard =
    record {
      line = line;
      guard = guard;
      node = clause.node;
      value = value;
      from = from_of clause.span;
      to = to_of clause.span;
    }

-- the binding of a line
abbrev pub bind_of : ℕ → Clause → Expr → Expr → RawBind
bind_of line clause value guard =
    record { line = line; guard = guard; node = clause.node; value = value }

-- the edge, with one more clause
abbrev pub edge_with : Option RawEdge → Side → RawBind → Option RawEdge
edge_with None side bind = None
edge_with (Some edge) side bind =
    let both = side_added side edge.ant edge.con bind in
    Some (record edge { ant = both.0; con = both.1 })

-- the open task, with one more clause
abbrev pub clause_added : OpenTask → ℕ → Clause → Expr → Expr → OpenTask
clause_added task.Closed line clause value guard = task.Closed
clause_added (task.Ste head name reset ant con weak) line clause value guard =
    let both = side_added clause.side ant con (quint_of line clause value guard) in
    task.Ste head name reset both.0 both.1 weak
clause_added (task.Gste head name reset edges edge) line clause value guard =
    task.Gste head name reset edges (edge_with edge clause.side (bind_of line clause value guard))

-- the edge, with one more weakened node
abbrev pub mark_added : Option RawEdge → RawMark → Option RawEdge
mark_added None mark = None
mark_added (Some edge) mark = Some (record edge { weak = edge.weak ++ mark ∷ [] })

-- the weakening of a line
abbrev pub weakening_of : ℕ → List ℕ → Span → RawWeak
weakening_of line node times =
    record { line = line; node = node; from = from_of times; to = to_of times }

-- the open task, with one more weakening
abbrev pub weak_added : OpenTask → ℕ → List ℕ → Span → OpenTask
weak_added task.Closed line node times = task.Closed
weak_added (task.Ste head name reset ant con weak) line node times =
    task.Ste head name reset ant con (weak ++ weakening_of line node times ∷ [])
weak_added (task.Gste head name reset edges edge) line node times =
    task.Gste head name reset edges (mark_added edge (record { line = line; node = node }))

-- the edges, and the one that was open
abbrev pub edges_closed : List RawEdge → Option RawEdge → List RawEdge
edges_closed edges None = edges
edges_closed edges (Some edge) = edges ++ edge ∷ []

-- the open task, with one more edge
abbrev pub edge_added : OpenTask → ℕ → ℕ → ℕ → OpenTask
edge_added (task.Gste head name reset edges edge) line from to =
    task.Gste head name reset (edges_closed edges edge)
    (Some (record { line = line; from = from; to = to; ant = []; con = []; weak = [] }))
edge_added other line from to = other

-- the tasks, and the one that was open, whose vertices are these
abbrev pub tasks_closed : List RawTask → OpenTask → List (List ℕ) → List RawTask
tasks_closed tasks task.Closed vertices = tasks
tasks_closed tasks (task.Ste line name reset ant con weak) vertices =
    tasks ++ Ste line name reset ant con weak ∷ []
tasks_closed tasks (task.Gste line name reset edges edge) vertices =
    tasks ++ Gste line name reset vertices (edges_closed edges edge) ∷ []
