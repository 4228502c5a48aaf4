-- Tasks with the same trees are answered alike.
use Rattle.std.proofs.Common.{ℕ, zero, suc, ◌+◌, ◌*◌, ◌<◌, ◌≤◌, ◌≡◌, refl, sym, ap, subst, ◌∙◌, List, [], ◌∷◌, ◌++◌, length, map, take, max, fold, Option, None, Some, Result, Ok, Err, arith, inl, inr}
use Rattle.std.specs.Prelude.{◌≢◌, ◌⊎◌, All, IsSome, sum_by, slice_get}
use Rattle.std.specs.List.{flat_map}
use Rattle.std.proofs.lemmas.Bool.{cases_order}
use Rattle.std.proofs.lemmas.List.Sums.{sum_by-cons}
use Rattle.ste_model.specs.Trees as model
use Rattle.ste_model.specs.declared.task.Tasks.{Tasks}
use Rattle.assert_syntax.specs.declared.tasks.RawBind.{RawBind}
use Rattle.assert_syntax.specs.declared.tasks.RawEdge.{RawEdge}
use Rattle.assert_syntax.specs.declared.tasks.RawMark.{RawMark}
use Rattle.assert_syntax.specs.declared.tasks.RawQuint.{RawQuint}
use Rattle.assert_syntax.specs.declared.tasks.RawTask.{RawTask}
use Rattle.assert_syntax.specs.declared.tasks.RawTask.TheVariants.{Ste, Gste}
use Rattle.assert_syntax.specs.declared.tasks.RawTasks.{RawTasks}
use Rattle.assert_syntax.specs.declared.tasks.RawWeak.{RawWeak}
use Rattle.assert_syntax.specs.Spelled.{RawBindTree, RawEdgeTree, MarkTree, RawQuintTree, RawTaskTree, RawWeakTree, assertion, graph, raw_bind_tree, raw_edge_tree, mark_tree, raw_quint_tree, raw_task_tree, raw_weak_tree}
use Rattle.task_binding.specs.declared.fault.BindFault.{BindFault}
use Rattle.task_binding.specs.declared.fault.BindFault.TheVariants.{UnknownNode, TooLarge, OutOfMemory}
use Rattle.task_binding.specs.declared.unknown.Mention.{Mention}
use Rattle.task_binding.specs.Answer.{IsBindAnswer}
use Rattle.task_binding.specs.Bound.{bind_bound, edge_bound, mark_bound, net_by, quint_bound, task_bound, weak_bound}
use Rattle.task_binding.specs.Mentions.{AllNamed, IsFirstUnknown, bind_mention, edge_mentions, mark_mention, mentions_of, quint_mention, task_mentions, weak_mention}
use Rattle.task_binding.specs.Sizes.{AllFit, IsFirstLarge, cells, head_line, raw_latest, most_cells}

-- a map over trees, and the same map over what has the trees
over_trees : {A B C : Type 0} (tree : A → B) (f : A → C) (g : B → C) → ((a : A) → f a ≡ g (tree a)) → (xs : List A) → map f xs ≡ map g (map tree xs)
over_trees tree f g same [] = refl
over_trees tree f g same (x ∷ xs) = ap (λ c. c ∷ map f xs) (same x) ∙ ap (λ l. g (tree x) ∷ l) (over_trees tree f g same xs)

flat_over_trees : {A B C : Type 0} (tree : A → B) (f : A → List C) (g : B → List C) → ((a : A) → f a ≡ g (tree a)) → (xs : List A) → flat_map f xs ≡ flat_map g (map tree xs)
flat_over_trees tree f g same [] = refl
flat_over_trees tree f g same (x ∷ xs) = ap (λ c. c ++ flat_map f xs) (same x) ∙ ap (λ l. g (tree x) ++ l) (flat_over_trees tree f g same xs)

-- a function by trees gives the same of what has the same trees
alike : {A B C : Type 0} (tree : A → B) (f : List A → C) (g : List B → C) → ((xs : List A) → f xs ≡ g (map tree xs)) → (one other : List A) → map tree one ≡ map tree other → f one ≡ f other
alike tree f g same one other e = same one ∙ (ap g e ∙ sym (same other))

-- the nodes, by trees
abbrev quint_said : RawQuintTree → Mention
quint_said quint = record { line = quint.line; node = quint.node }

abbrev bind_said : RawBindTree → Mention
bind_said bind = record { line = bind.line; node = bind.node }

abbrev weak_said : RawWeakTree → Mention
weak_said weak = record { line = weak.line; node = weak.node }

abbrev mark_said : MarkTree → Mention
mark_said mark = record { line = mark.line; node = mark.node }

abbrev edge_said : RawEdgeTree → List Mention
edge_said edge = map bind_said edge.ant ++ (map bind_said edge.con ++ map mark_said edge.weak)

abbrev task_said : RawTaskTree → List Mention
task_said (assertion line name reset ant con weak) =
    map quint_said ant ++ (map quint_said con ++ map weak_said weak)
task_said (graph line name reset vertices edges) = flat_map edge_said edges

quints_said : (quints : List RawQuint) → map quint_mention quints ≡ map quint_said (map raw_quint_tree quints)
quints_said quints = over_trees raw_quint_tree quint_mention quint_said (λ quint. refl) quints

binds_said : (binds : List RawBind) → map bind_mention binds ≡ map bind_said (map raw_bind_tree binds)
binds_said binds = over_trees raw_bind_tree bind_mention bind_said (λ bind. refl) binds

weaks_said : (weaks : List RawWeak) → map weak_mention weaks ≡ map weak_said (map raw_weak_tree weaks)
weaks_said weaks = over_trees raw_weak_tree weak_mention weak_said (λ weak. refl) weaks

marks_said : (marks : List RawMark) → map mark_mention marks ≡ map mark_said (map mark_tree marks)
marks_said marks = over_trees mark_tree mark_mention mark_said (λ mark. refl) marks

-- three lists, one behind the other
three : {one one2 other other2 third third2 : List Mention} → one ≡ one2 → other ≡ other2 →
    third ≡ third2 → one ++ (other ++ third) ≡ one2 ++ (other2 ++ third2)
three e f g = rw e (rw f (rw g refl))

edge_is : (edge : RawEdge) → edge_mentions edge ≡ edge_said (raw_edge_tree edge)
edge_is edge = three (binds_said edge.ant) (binds_said edge.con) (marks_said edge.weak)

task_is : (task : RawTask) → task_mentions task ≡ task_said (raw_task_tree task)
task_is (Ste line name reset ant con weak) =
    three (quints_said ant) (quints_said con) (weaks_said weak)
task_is (Gste line name reset vertices edges) = flat_over_trees raw_edge_tree edge_mentions edge_said edge_is edges

mentions_alike : (one other : List RawTask) → map raw_task_tree one ≡ map raw_task_tree other → mentions_of one ≡ mentions_of other
mentions_alike one other e = alike raw_task_tree mentions_of (flat_map task_said) (flat_over_trees raw_task_tree task_mentions task_said task_is) one other e

-- the sizes, by trees
abbrev latest_said : List RawQuintTree → ℕ
latest_said quints = fold max 0 (map (λ quint. quint.to) quints)

abbrev cells_said : ℕ → RawTaskTree → ℕ
cells_said nets (assertion line name reset ant con weak) =
    nets * max (latest_said ant) (latest_said con)
cells_said nets (graph line name reset vertices edges) = nets * (length vertices + length edges)

latest_is : (quints : List RawQuint) → raw_latest quints ≡ latest_said (map raw_quint_tree quints)
latest_is quints = ap (fold max 0) (over_trees raw_quint_tree (λ (quint : RawQuint). quint.to) (λ (quint : RawQuintTree). quint.to) (λ quint. refl) quints)

as_long : {A B : Type 0} (f : A → B) (xs : List A) → length xs ≡ length (map f xs)
as_long f [] = refl
as_long f (x ∷ xs) = ap suc (as_long f xs)

cells_are : (nets : ℕ) (task : RawTask) → cells nets task ≡ cells_said nets (raw_task_tree task)
cells_are nets (Ste line name reset ant con weak) =
    ap (λ n. nets * max n (raw_latest con)) (latest_is ant) ∙ ap (λ n. nets * max (latest_said (map raw_quint_tree ant)) n) (latest_is con)
cells_are nets (Gste line name reset vertices edges) = ap (λ n. nets * (length vertices + n)) (as_long raw_edge_tree edges)

sums_are : (nets : ℕ) (tasks : List RawTask) → sum_by (cells nets) tasks ≡ sum_by (cells_said nets) (map raw_task_tree tasks)
sums_are nets [] = refl
sums_are nets (task ∷ tasks) =
    sum_by-cons (cells nets) task tasks ∙ (ap (λ n. n + sum_by (cells nets) tasks) (cells_are nets task) ∙ (ap (λ n. cells_said nets (raw_task_tree task) + n) (sums_are nets tasks) ∙ sym (sum_by-cons (cells_said nets) (raw_task_tree task) (map raw_task_tree tasks))))

taken : {A B : Type 0} (f : A → B) (n : ℕ) (xs : List A) → map f (take n xs) ≡ take n (map f xs)
taken f zero xs = refl
taken f (suc n) [] = refl
taken f (suc n) (x ∷ xs) = ap (λ l. f x ∷ l) (taken f n xs)

leading_sums : (nets n : ℕ) (one other : List RawTask) → map raw_task_tree one ≡ map raw_task_tree other → sum_by (cells nets) (take n one) ≡ sum_by (cells nets) (take n other)
leading_sums nets n one other e =
    alike raw_task_tree (sum_by (cells nets)) (sum_by (cells_said nets)) (sums_are nets) (take n one) (take n other)
    (taken raw_task_tree n one ∙ (ap (take n) e ∙ sym (taken raw_task_tree n other)))

-- the first lines, by trees
abbrev line_said : RawTaskTree → ℕ
line_said (assertion line name reset ant con weak) = line
line_said (graph line name reset vertices edges) = line

line_is : (task : RawTask) → head_line task ≡ line_said (raw_task_tree task)
line_is (Ste line name reset ant con weak) = refl
line_is (Gste line name reset vertices edges) = refl

abbrev maybe : {A B : Type 0} → (A → B) → Option A → Option B
maybe f None = None
maybe f (Some x) = Some (f x)

got : {A B : Type 0} (f : A → B) (xs : List A) (k : ℕ) → slice_get (map f xs) k ≡ maybe f (slice_get xs k)
got f [] k = refl
got f (x ∷ xs) zero = refl
got f (x ∷ xs) (suc k) = got f xs k

-- what has an image is there
there : {A B : Type 0} (f : A → B) (found : Option A) (y : B) → maybe f found ≡ Some y → (x : A) × (found ≡ Some x) × (f x ≡ y)
there f None y e = absurd (cc e)
there f (Some x) y e = (x, refl, let same : f x ≡ y = cc in same)

other_task : (one other : List RawTask) (k : ℕ) (task : RawTask) → map raw_task_tree one ≡ map raw_task_tree other → slice_get one k ≡ Some task → (twin : RawTask) × (slice_get other k ≡ Some twin) × (raw_task_tree twin ≡ raw_task_tree task)
other_task one other k task e here =
    there raw_task_tree (slice_get other k) (raw_task_tree task)
    (sym (got raw_task_tree other k) ∙ (ap (λ l. slice_get l k) (sym e) ∙ (got raw_task_tree one k ∙ ap (maybe raw_task_tree) here)))

-- what is bound, by trees
abbrev quint_over : (List ℕ → ℕ) → RawQuintTree → model.QuintTree
quint_over net quint = record { guard = quint.guard; node = net quint.node; value = quint.value; from = quint.from; to = quint.to }

abbrev bind_over : (List ℕ → ℕ) → RawBindTree → model.BindTree
bind_over net bind = record { guard = bind.guard; node = net bind.node; value = bind.value }

abbrev weak_over : (List ℕ → ℕ) → RawWeakTree → model.WeakTree
weak_over net weak = record { node = net weak.node; from = weak.from; to = weak.to }

abbrev mark_over : (List ℕ → ℕ) → MarkTree → ℕ
mark_over net mark = net mark.node

abbrev edge_of : ℕ → ℕ → List model.BindTree → List model.BindTree → List ℕ → model.EdgeTree
edge_of from to ant con weak =
    record { from = from; to = to; ant = ant; con = con; weak = weak }

abbrev edge_over : (List ℕ → ℕ) → RawEdgeTree → model.EdgeTree
edge_over net edge =
    edge_of edge.from edge.to (map (bind_over net) edge.ant) (map (bind_over net) edge.con)
    (map (mark_over net) edge.weak)

abbrev task_over : (List ℕ → ℕ) → RawTaskTree → model.TaskTree
task_over net (assertion line name reset ant con weak) =
    model.assertion name reset (map (quint_over net) ant) (map (quint_over net) con)
    (map (weak_over net) weak)
task_over net (graph line name reset vertices edges) = model.graph name reset vertices (map (edge_over net) edges)

quints_over : (net : List ℕ → ℕ) (quints : List RawQuint) → map (quint_bound net) quints ≡ map (quint_over net) (map raw_quint_tree quints)
quints_over net quints = over_trees raw_quint_tree (quint_bound net) (quint_over net) (λ quint. refl) quints

binds_over : (net : List ℕ → ℕ) (binds : List RawBind) → map (bind_bound net) binds ≡ map (bind_over net) (map raw_bind_tree binds)
binds_over net binds = over_trees raw_bind_tree (bind_bound net) (bind_over net) (λ bind. refl) binds

weaks_over : (net : List ℕ → ℕ) (weaks : List RawWeak) →
    map (weak_bound net) weaks ≡ map (weak_over net) (map raw_weak_tree weaks)
weaks_over net weaks = over_trees raw_weak_tree (weak_bound net) (weak_over net) (λ weak. refl) weaks

marks_over : (net : List ℕ → ℕ) (marks : List RawMark) →
    map (mark_bound net) marks ≡ map (mark_over net) (map mark_tree marks)
marks_over net marks = over_trees mark_tree (mark_bound net) (mark_over net) (λ mark. refl) marks

edge_bound_is : (net : List ℕ → ℕ) (edge : RawEdge) → edge_bound net edge ≡ edge_over net (raw_edge_tree edge)
edge_bound_is net edge =
    let given = map (bind_over net) (map raw_bind_tree edge.ant) in
    let asked = map (bind_over net) (map raw_bind_tree edge.con) in
    let marks = map (mark_bound net) edge.weak in
    ap (λ l. edge_of edge.from edge.to l (map (bind_bound net) edge.con) marks)
    (binds_over net edge.ant)
    ∙ ap (λ l. edge_of edge.from edge.to given l marks) (binds_over net edge.con)
    ∙ ap (edge_of edge.from edge.to given asked) (marks_over net edge.weak)

task_bound_is : (net : List ℕ → ℕ) (task : RawTask) → task_bound net task ≡ task_over net (raw_task_tree task)
task_bound_is net (Ste line name reset ant con weak) =
    let given = map (quint_over net) (map raw_quint_tree ant) in
    let asked = map (quint_over net) (map raw_quint_tree con) in
    let weaks = map (weak_bound net) weak in
    ap (λ l. model.assertion name reset l (map (quint_bound net) con) weaks) (quints_over net ant)
    ∙ ap (λ l. model.assertion name reset given l weaks) (quints_over net con)
    ∙ ap (model.assertion name reset given asked) (weaks_over net weak)
task_bound_is net (Gste line name reset vertices edges) =
    ap (λ l. model.graph name reset vertices l) (over_trees raw_edge_tree (edge_bound net) (edge_over net) (edge_bound_is net) edges)

bound_alike : (net : List ℕ → ℕ) (one other : List RawTask) → map raw_task_tree one ≡ map raw_task_tree other → map (task_bound net) one ≡ map (task_bound net) other
bound_alike net one other e = alike raw_task_tree (map (task_bound net)) (map (task_over net)) (over_trees raw_task_tree (task_bound net) (task_over net) (task_bound_is net)) one other e

-- Tasks with the same variables and the same trees have the same answers.
pub answered_alike : (net_of : List ℕ → Option ℕ) (nets : ℕ) (one other : RawTasks) (answer : Result Tasks BindFault) → one.vars ≡ other.vars → map raw_task_tree one.tasks ≡ map raw_task_tree other.tasks → IsBindAnswer net_of nets one answer → IsBindAnswer net_of nets other answer
answered_alike net_of nets one other (Ok tasks) vars trees h = (
  subst (AllNamed net_of) (mentions_alike one.tasks other.tasks trees) h.0,
  subst (λ n. n ≤ most_cells) (alike raw_task_tree (sum_by (cells nets)) (sum_by (cells_said nets)) (sums_are nets) one.tasks other.tasks trees) h.1,
  (h.2.0 ∙ vars, h.2.1 ∙ bound_alike (net_by net_of) one.tasks other.tasks trees),
)
answered_alike net_of nets one other (Err (UnknownNode line name)) vars trees h =
    subst (λ mentions. IsFirstUnknown net_of mentions (record { line = line; node = name })) (mentions_alike one.tasks other.tasks trees) h
answered_alike net_of nets one other (Err (TooLarge line)) vars trees h =
    let twin = other_task one.tasks other.tasks h.1.place h.1.task trees h.1.here in (
      subst (AllNamed net_of) (mentions_alike one.tasks other.tasks trees) h.0,
      record {
        place = h.1.place;
        task = twin.0;
        here = twin.1;
        headed = line_is twin.0 ∙ (ap line_said twin.2 ∙ (sym (line_is h.1.task) ∙ h.1.headed));
        large = subst (λ n. most_cells < n) (leading_sums nets (suc h.1.place) one.tasks other.tasks trees) h.1.large;
        before = subst (λ n. n ≤ most_cells) (leading_sums nets h.1.place one.tasks other.tasks trees) h.1.before;
      },
    )
answered_alike net_of nets one other (Err OutOfMemory) vars trees h = tt

-- sums grow
grows : (f : RawTask → ℕ) (tasks : List RawTask) (i j : ℕ) → i ≤ j → sum_by f (take i tasks) ≤ sum_by f (take j tasks)
grows f tasks zero j h = omega arith
grows f [] (suc i) zero h = absurd (omega (arith, h))
grows f [] (suc i) (suc j) h = omega arith
grows f (task ∷ tasks) (suc i) zero h = absurd (omega (arith, h))
grows f (task ∷ tasks) (suc i) (suc j) h =
    let rest = grows f tasks i j (omega (arith, h)) in
    let one = sum_by-cons f task (take i tasks) in
    let other = sum_by-cons f task (take j tasks) in
    omega (arith, rest, one, other)

-- at most one node is the first that names no net
got_in : {T : Type 0} (xs : List T) (k : ℕ) (x d : T) → slice_get xs k ≡ Some x → (P : T → Type 0) → (n : ℕ) → k < n → All P (take n xs) → P x
got_in [] k x d e P n l all = absurd (cc e)
got_in (y ∷ ys) k x d e P zero l all = absurd (omega (arith, l))
got_in (y ∷ ys) zero x d e P (suc n) l all = let same : y ≡ x = cc in subst P same (all 0 d (omega arith))
got_in (y ∷ ys) (suc k) x d e P (suc n) l all = got_in ys k x d e P n (omega (arith, l)) (λ j b inside. all (suc j) b (omega (arith, inside)))

got_all : {T : Type 0} (xs : List T) (k : ℕ) (x d : T) → slice_get xs k ≡ Some x → (P : T → Type 0) → All P xs → P x
got_all [] k x d e P all = absurd (cc e)
got_all (y ∷ ys) zero x d e P all = let same : y ≡ x = cc in subst P same (all 0 d (omega arith))
got_all (y ∷ ys) (suc k) x d e P all = got_all ys k x d e P (λ j b inside. all (suc j) b (omega (arith, inside)))

not_earlier : (net_of : List ℕ → Option ℕ) (mentions : List Mention) (one other : Mention) → (f : IsFirstUnknown net_of mentions one) → (g : IsFirstUnknown net_of mentions other) → f.place < g.place → ⊥
not_earlier net_of mentions one other f g l =
    let strict : net_of one.node ≡ None → other.line < one.line = got_in mentions f.place one one f.here (λ m. net_of m.node ≡ None → other.line < m.line) g.place l g.first in
    let least : net_of other.node ≡ None → one.line ≤ other.line = got_all mentions g.place other other g.here (λ m. net_of m.node ≡ None → one.line ≤ m.line) f.least in
    let a = strict f.unknown in
    let b = least g.unknown in
    omega (arith, a, b)

unknown_by : (net_of : List ℕ → Option ℕ) (mentions : List Mention) (one other : Mention) → (f : IsFirstUnknown net_of mentions one) → (g : IsFirstUnknown net_of mentions other) → (f.place ≡ g.place) ⊎ ((f.place < g.place) ⊎ (g.place < f.place)) → one ≡ other
unknown_by net_of mentions one other f g (inl e) = let both : Some one ≡ Some other = sym f.here ∙ (ap (slice_get mentions) e ∙ g.here) in let same : one ≡ other = cc in same
unknown_by net_of mentions one other f g (inr (inl l)) = absurd (not_earlier net_of mentions one other f g l)
unknown_by net_of mentions one other f g (inr (inr l)) = absurd (not_earlier net_of mentions other one g f l)

one_unknown : (net_of : List ℕ → Option ℕ) (mentions : List Mention) (one other : Mention) → IsFirstUnknown net_of mentions one → IsFirstUnknown net_of mentions other → one ≡ other
one_unknown net_of mentions one other f g = unknown_by net_of mentions one other f g (cases_order f.place g.place)

-- where each node names a net, none is unknown
known : (found : Option ℕ) → IsSome found → found ≡ None → ⊥
known None h e = absurd (cc h)
known (Some n) h e = absurd (cc e)

none_unknown : (net_of : List ℕ → Option ℕ) (mentions : List Mention) (one : Mention) → AllNamed net_of mentions → IsFirstUnknown net_of mentions one → ⊥
none_unknown net_of mentions one all f = known (net_of one.node) (got_all mentions f.place one one f.here (λ m. IsSome (net_of m.node)) all) f.unknown

-- at most one task is the first that is too large
large_by : (nets : ℕ) (tasks : List RawTask) (one other : ℕ) → (f : IsFirstLarge nets tasks one) → (g : IsFirstLarge nets tasks other) → (f.place ≡ g.place) ⊎ ((f.place < g.place) ⊎ (g.place < f.place)) → one ≡ other
large_by nets tasks one other f g (inl e) =
    let both : Some f.task ≡ Some g.task = sym f.here ∙ (ap (slice_get tasks) e ∙ g.here) in
    let same : f.task ≡ g.task = cc in
    sym f.headed ∙ (ap head_line same ∙ g.headed)
large_by nets tasks one other f g (inr (inl l)) =
    let more = grows (cells nets) tasks (suc f.place) g.place (omega (arith, l)) in
    let large = f.large in
    let before = g.before in
    absurd (omega (arith, more, large, before))
large_by nets tasks one other f g (inr (inr l)) =
    let more = grows (cells nets) tasks (suc g.place) f.place (omega (arith, l)) in
    let large = g.large in
    let before = f.before in
    absurd (omega (arith, more, large, before))

-- where all fit, none is too large
as_all : (f : RawTask → ℕ) (tasks : List RawTask) (i : ℕ) → sum_by f (take i tasks) ≤ sum_by f tasks
as_all f [] zero = omega arith
as_all f [] (suc i) = omega arith
as_all f (task ∷ tasks) zero = omega arith
as_all f (task ∷ tasks) (suc i) =
    let rest = as_all f tasks i in
    let one = sum_by-cons f task (take i tasks) in
    let other = sum_by-cons f task tasks in
    omega (arith, rest, one, other)

none_large : (nets : ℕ) (tasks : List RawTask) (line : ℕ) → AllFit nets tasks → IsFirstLarge nets tasks line → ⊥
none_large nets tasks line fit f =
    let all = as_all (cells nets) tasks (suc f.place) in
    let large = f.large in
    omega (arith, all, large, fit)

-- Tasks have one fault at most.
pub one_fault : (net_of : List ℕ → Option ℕ) (nets : ℕ) (raw : RawTasks) (one other : BindFault) → one ≢ OutOfMemory → other ≢ OutOfMemory → IsBindAnswer net_of nets raw (Err one) → IsBindAnswer net_of nets raw (Err other) → one ≡ other
one_fault net_of nets raw (UnknownNode line name) (UnknownNode other word) told stated f g =
    let same = one_unknown net_of (mentions_of raw.tasks) _ _ f g in
    ap (λ (m : Mention). UnknownNode m.line m.node) same
one_fault net_of nets raw (UnknownNode line name) (TooLarge other) told stated f g = absurd (none_unknown net_of (mentions_of raw.tasks) _ g.0 f)
one_fault net_of nets raw (TooLarge line) (UnknownNode other word) told stated f g = absurd (none_unknown net_of (mentions_of raw.tasks) _ f.0 g)
one_fault net_of nets raw (TooLarge line) (TooLarge other) told stated f g = ap TooLarge (large_by nets raw.tasks line other f.1 g.1 (cases_order f.1.place g.1.place))
one_fault net_of nets raw OutOfMemory other told stated f g = absurd (told refl)
one_fault net_of nets raw (UnknownNode line name) OutOfMemory told stated f g = absurd (stated refl)
one_fault net_of nets raw (TooLarge line) OutOfMemory told stated f g = absurd (stated refl)

-- Tasks that are bound have none.
pub no_fault : (net_of : List ℕ → Option ℕ) (nets : ℕ) (raw : RawTasks) (tasks : Tasks) (fault : BindFault) → fault ≢ OutOfMemory → IsBindAnswer net_of nets raw (Ok tasks) → IsBindAnswer net_of nets raw (Err fault) → ⊥
no_fault net_of nets raw tasks (UnknownNode line name) told f g = none_unknown net_of (mentions_of raw.tasks) _ f.0 g
no_fault net_of nets raw tasks (TooLarge line) told f g = none_large nets raw.tasks line f.1 g.1
no_fault net_of nets raw tasks OutOfMemory told f g = told refl
