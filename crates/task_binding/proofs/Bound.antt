-- The cells of tasks are those of the tasks with names.
use Rattle.std.proofs.Common.{ℕ, suc, ◌+◌, ◌*◌, ◌≤◌, ◌≡◌, refl, sym, ap, subst, ◌∙◌, List, [], ◌∷◌, length, map, max, fold}
use Rattle.std.specs.Prelude.{sum_by}
use Rattle.std.proofs.lemmas.List.Sums.{sum_by-cons}
use Rattle.ste_model.specs.declared.task.Quint.{Quint}
use Rattle.ste_model.specs.declared.task.Task.{Task}
use Rattle.ste_model.specs.declared.task.Task.TheVariants as task
use Rattle.ste_model.specs.Cells as model
use Rattle.ste_model.specs.Trees.{QuintTree, TaskTree, assertion, graph, quint_tree, edge_tree, task_tree}
use Rattle.assert_syntax.specs.declared.tasks.RawQuint.{RawQuint}
use Rattle.assert_syntax.specs.declared.tasks.RawTask.{RawTask}
use Rattle.assert_syntax.specs.declared.tasks.RawTask.TheVariants.{Ste, Gste}
use Rattle.task_binding.specs.Bound.{quint_bound, edge_bound, task_bound}
use Rattle.task_binding.specs.Sizes.{cells}

abbrev latest : List QuintTree → ℕ
latest quints = fold max 0 (map (λ quint. quint.to) quints)

-- the cells of what a task says
abbrev said_cells : ℕ → TaskTree → ℕ
said_cells nets (assertion name reset ant con weak) = nets * max (latest ant) (latest con)
said_cells nets (graph name reset vertices edges) = nets * (length vertices + length edges)

tos : (quints : List Quint) → map (λ (quint : QuintTree). quint.to) (map quint_tree quints) ≡ map (λ (quint : Quint). quint.to) quints
tos [] = refl
tos (quint ∷ quints) = ap (λ k. quint.to ∷ k) (tos quints)

raw_tos : (net : List ℕ → ℕ) (quints : List RawQuint) → map (λ (quint : QuintTree). quint.to) (map (quint_bound net) quints) ≡ map (λ (quint : RawQuint). quint.to) quints
raw_tos net [] = refl
raw_tos net (quint ∷ quints) = ap (λ k. quint.to ∷ k) (raw_tos net quints)

same_length : {A B : Type 0} (f : A → B) (xs : List A) → length (map f xs) ≡ length xs
same_length f [] = refl
same_length f (x ∷ xs) = ap (λ n. suc n) (same_length f xs)

of_task : (nets : ℕ) (t : Task) → said_cells nets (task_tree t) ≡ model.cells nets t
of_task nets (task.Ste t) =
    ap (λ k. nets * max (fold max 0 k) (latest (map quint_tree t.con))) (tos t.ant) ∙ ap (λ k. nets * max (fold max 0 (map (λ quint. quint.to) t.ant)) (fold max 0 k)) (tos t.con)
of_task nets (task.Gste t) = ap (λ n. nets * (length t.vertices + n)) (same_length edge_tree t.edges)

of_raw : (nets : ℕ) (net : List ℕ → ℕ) (raw : RawTask) → said_cells nets (task_bound net raw) ≡ cells nets raw
of_raw nets net (Ste line name reset ant con weak) =
    ap (λ k. nets * max (fold max 0 k) (latest (map (quint_bound net) con))) (raw_tos net ant) ∙ ap (λ k. nets * max (fold max 0 (map (λ quint. quint.to) ant)) (fold max 0 k)) (raw_tos net con)
of_raw nets net (Gste line name reset vertices edges) = ap (λ n. nets * (length vertices + n)) (same_length (edge_bound net) edges)

sum_on : {A : Type 0} (f : A → ℕ) (g : TaskTree → ℕ) (said : A → TaskTree) → ((x : A) → g (said x) ≡ f x) → (xs : List A) → sum_by g (map said xs) ≡ sum_by f xs
sum_on f g said same [] = refl
sum_on f g said same (x ∷ xs) =
    sum_by-cons g (said x) (map said xs) ∙ ap (λ n. n + sum_by g (map said xs)) (same x) ∙ ap (λ n. f x + n) (sum_on f g said same xs) ∙ sym (sum_by-cons f x xs)

-- bound tasks have as many cells as the tasks with names
pub bound_fit : (nets most : ℕ) (net : List ℕ → ℕ) (tasks : List Task) (raw : List RawTask) → map task_tree tasks ≡ map (task_bound net) raw → sum_by (cells nets) raw ≤ most → sum_by (model.cells nets) tasks ≤ most
bound_fit nets most net tasks raw e h =
    let a = sum_on (model.cells nets) (said_cells nets) task_tree (of_task nets) tasks in
    let b = sum_on (cells nets) (said_cells nets) (task_bound net) (of_raw nets net) raw in
    subst (λ n. n ≤ most) (sym b ∙ ap (sum_by (said_cells nets)) (sym e) ∙ a) h
