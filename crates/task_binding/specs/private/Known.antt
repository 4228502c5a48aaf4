-- For private functions. Whether the nodes of tasks name nets, by the net that each text names, or
-- none.
use Rattle.std.specs.Prelude.{ℕ, List, Bool, Option, is_some, ◌&&◌}
use Rattle.std.specs.List.{list_all}
use Rattle.assert_syntax.specs.declared.tasks.RawBind.{RawBind}
use Rattle.assert_syntax.specs.declared.tasks.RawEdge.{RawEdge}
use Rattle.assert_syntax.specs.declared.tasks.RawMark.{RawMark}
use Rattle.assert_syntax.specs.declared.tasks.RawQuint.{RawQuint}
use Rattle.assert_syntax.specs.declared.tasks.RawTask.{RawTask}
use Rattle.assert_syntax.specs.declared.tasks.RawTask.TheVariants.{Ste, Gste}
use Rattle.assert_syntax.specs.declared.tasks.RawWeak.{RawWeak}

-- the node of a quintuple names a net, and that of a binding of an edge
abbrev pub quint_known : (List ℕ → Option ℕ) → RawQuint → Bool
quint_known net_of quint = is_some (net_of quint.node)

abbrev pub bind_known : (List ℕ → Option ℕ) → RawBind → Bool
bind_known net_of bind = is_some (net_of bind.node)

-- so does that of a weakening, and of a weakened node of an edge
abbrev pub weak_known : (List ℕ → Option ℕ) → RawWeak → Bool
weak_known net_of weak = is_some (net_of weak.node)

abbrev pub mark_known : (List ℕ → Option ℕ) → RawMark → Bool
mark_known net_of mark = is_some (net_of mark.node)

-- so does each node of an edge, and of a task
abbrev pub edge_known : (List ℕ → Option ℕ) → RawEdge → Bool
edge_known net_of edge =
    list_all (bind_known net_of) edge.ant
    && (list_all (bind_known net_of) edge.con && list_all (mark_known net_of) edge.weak)

abbrev pub task_known : (List ℕ → Option ℕ) → RawTask → Bool
task_known net_of (Ste line name reset ant con weak) =
    list_all (quint_known net_of) ant
    && (list_all (quint_known net_of) con && list_all (weak_known net_of) weak)
task_known net_of (Gste line name reset vertices edges) = list_all (edge_known net_of) edges
