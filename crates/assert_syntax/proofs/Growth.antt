-- The tasks where the open one is ended, from what is read so far.
use Rattle.std.proofs.Common.{ℕ, ◌≡◌, refl, ap, sym, ◌∙◌, List, [], ◌∷◌, ◌++◌, map, Option, Some, None, append-nil}
use Rattle.assert_syntax.specs.declared.draft.OpenTask.{OpenTask}
use Rattle.assert_syntax.specs.declared.draft.OpenTask.TheVariants.{Closed, Ste, Gste}
use Rattle.assert_syntax.specs.declared.tasks.RawEdge.{RawEdge}
use Rattle.assert_syntax.specs.declared.tasks.RawTask.{RawTask}
use Rattle.assert_syntax.specs.declared.tasks.RawTask.TheVariants as raw
use Rattle.assert_syntax.specs.Parses.{Parse}
use Rattle.assert_syntax.specs.Spelled.{RawTaskTree, RawEdgeTree, assertion, graph, raw_bind_tree, raw_edge_tree, mark_tree, raw_quint_tree, raw_task_tree, raw_weak_tree}
use Rattle.assert_syntax.specs.private.Drafts.{edges_closed, tasks_closed}
use Rattle.assert_syntax.specs.private.Steps.{open_task_with, grown_edge}

map_more : {A B : Type 0} (f : A → B) (xs : List A) (x : A) (ys : List B) → map f (xs ++ x ∷ []) ++ ys ≡ map f xs ++ f x ∷ ys
map_more f [] x ys = refl
map_more f (y ∷ xs) x ys = ap (λ l. f y ∷ l) (map_more f xs x ys)

-- an edge to which nothing is added any more
abbrev edge_so_far : RawEdge → RawEdgeTree
edge_so_far edge = record {
  line = edge.line;
  from = edge.from;
  to = edge.to;
  ant = map raw_bind_tree edge.ant ++ [];
  con = map raw_bind_tree edge.con ++ [];
  weak = map mark_tree edge.weak ++ [];
}

edge_whole : (edge : RawEdge) → raw_edge_tree edge ≡ edge_so_far edge
edge_whole edge =
    rw (append-nil (map raw_bind_tree edge.ant))
    (rw (append-nil (map raw_bind_tree edge.con)) (rw (append-nil (map mark_tree edge.weak)) refl))

edges_whole : (parse : Parse) (vars : List (List ℕ)) (edges : List RawEdge) (edge : Option RawEdge) (later : List RawEdgeTree) → map raw_edge_tree (edges_closed edges edge) ++ later ≡ map raw_edge_tree edges ++ (grown_edge parse vars edge [] ++ later)
edges_whole parse vars edges None later = refl
edges_whole parse vars edges (Some edge) later = map_more raw_edge_tree edges edge later ∙ ap (λ e. map raw_edge_tree edges ++ e ∷ later) (edge_whole edge)

-- the open task is ended
pub closed : (parse : Parse) (vars vertices : List (List ℕ)) (tasks : List RawTask) (task : OpenTask) (later : List RawTaskTree) → map raw_task_tree (tasks_closed tasks task vertices) ++ later ≡ map raw_task_tree tasks ++ (open_task_with parse vars vertices task [] ++ later)
closed parse vars vertices tasks Closed later = refl
closed parse vars vertices tasks (Ste head name reset ant con weak) later =
    let before = map raw_task_tree tasks in
    let given = map raw_quint_tree ant in
    let asked = map raw_quint_tree con in
    let weakened = map raw_weak_tree weak in
    map_more raw_task_tree tasks (raw.Ste head name reset ant con weak) later
    ∙ ap (λ a. before ++ assertion head name reset a asked weakened ∷ later)
    (sym (append-nil given))
    ∙ ap (λ a. before ++ assertion head name reset (given ++ []) a weakened ∷ later)
    (sym (append-nil asked))
    ∙ ap (λ a. before ++ assertion head name reset (given ++ []) (asked ++ []) a ∷ later)
    (sym (append-nil weakened))
closed parse vars vertices tasks (Gste head name reset edges edge) later =
    map_more raw_task_tree tasks (raw.Gste head name reset vertices (edges_closed edges edge)) later
    ∙ ap (λ e. map raw_task_tree tasks ++ graph head name reset vertices e ∷ later)
    (sym (append-nil (map raw_edge_tree (edges_closed edges edge))) ∙ edges_whole parse vars edges edge [])
