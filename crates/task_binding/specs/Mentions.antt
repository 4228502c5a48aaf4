-- Meaning. The nodes that tasks name, and the first that names no net.
use Rattle.std.specs.Prelude.{◌≡◌, ◌<◌, ◌≤◌, ℕ, ◌++◌, List, map, take, All, Option, None, Some, IsSome, slice_get}
use Rattle.std.specs.List.{flat_map}
use Rattle.assert_syntax.specs.declared.tasks.RawBind.{RawBind}
use Rattle.assert_syntax.specs.declared.tasks.RawEdge.{RawEdge}
use Rattle.assert_syntax.specs.declared.tasks.RawMark.{RawMark}
use Rattle.assert_syntax.specs.declared.tasks.RawQuint.{RawQuint}
use Rattle.assert_syntax.specs.declared.tasks.RawTask.{RawTask}
use Rattle.assert_syntax.specs.declared.tasks.RawWeak.{RawWeak}
use Rattle.assert_syntax.specs.declared.tasks.RawTask.TheVariants.{Ste, Gste}
use Rattle.task_binding.specs.declared.unknown.Mention.{Mention}

-- the node of a clause, with its line
abbrev pub quint_mention : RawQuint → Mention
quint_mention quint = record { line = quint.line; node = quint.node }

abbrev pub bind_mention : RawBind → Mention
bind_mention bind = record { line = bind.line; node = bind.node }

-- the node of a weakening, with its line
abbrev pub weak_mention : RawWeak → Mention
weak_mention weak = record { line = weak.line; node = weak.node }

abbrev pub mark_mention : RawMark → Mention
mark_mention mark = record { line = mark.line; node = mark.node }

-- the nodes of an edge
abbrev pub edge_mentions : RawEdge → List Mention
edge_mentions edge =
    map bind_mention edge.ant ++ (map bind_mention edge.con ++ map mark_mention edge.weak)

-- the nodes of a task
abbrev pub task_mentions : RawTask → List Mention
task_mentions (Ste line name reset ant con weak) = map quint_mention ant
    ++ (map quint_mention con ++ map weak_mention weak)
task_mentions (Gste line name reset vertices edges) = flat_map edge_mentions edges

-- the nodes of all tasks
abbrev pub mentions_of : List RawTask → List Mention
mentions_of tasks = flat_map task_mentions tasks

-- each node names a net, by the net that each text names, or none
abbrev pub AllNamed : (List ℕ → Option ℕ) → List Mention → Type 0
AllNamed net_of mentions = All (λ mention. IsSome (net_of mention.node)) mentions

-- The node on this line names no net, and no node on an earlier line names none; among nodes on one
-- line it is the first.
pub record IsFirstUnknown (net_of : List ℕ → Option ℕ) (mentions : List Mention)
    (mention : Mention) : Type 0 where
  pub place : ℕ
  pub here : slice_get mentions place ≡ Some mention
  pub unknown : net_of mention.node ≡ None
  pub least : All (λ other. net_of other.node ≡ None → mention.line ≤ other.line) mentions
  pub first : All (λ other. net_of other.node ≡ None → mention.line < other.line)
      (take place mentions)
