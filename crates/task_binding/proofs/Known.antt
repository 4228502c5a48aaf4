-- Nodes that are known name nets.
use Rattle.std.proofs.Common.{ℕ, ◌≡◌, refl, sym, ap, ◌∙◌, List, [], ◌∷◌, ◌++◌, map, Bool, true, false, ◌&&◌, Option, IsSome}
use Rattle.std.specs.List.{list_all, flat_map}
use Rattle.std.proofs.lemmas.List.Elements.{All-append, All-cons, All-nil}
use Rattle.assert_syntax.specs.declared.tasks.RawEdge.{RawEdge}
use Rattle.assert_syntax.specs.declared.tasks.RawQuint.{RawQuint}
use Rattle.assert_syntax.specs.declared.tasks.RawTask.{RawTask}
use Rattle.assert_syntax.specs.declared.tasks.RawTask.TheVariants.{Ste, Gste}
use Rattle.assert_syntax.specs.declared.tasks.RawWeak.{RawWeak}
use Rattle.task_binding.specs.declared.unknown.Mention.{Mention}
use Rattle.task_binding.specs.Mentions.{AllNamed, quint_mention, bind_mention, weak_mention, mark_mention, edge_mentions, task_mentions, mentions_of}
use Rattle.task_binding.specs.private.Known.{quint_known, bind_known, weak_known, mark_known, edge_known, task_known}

both : (a b : Bool) → (a && b) ≡ true → (a ≡ true) × (b ≡ true)
both true b e = (refl, e)
both false b e = absurd (cc e)

abbrev NetOf : Type 0
NetOf = List ℕ → Option ℕ

together : (net_of : NetOf) (one other : List Mention) → AllNamed net_of one → AllNamed net_of other → AllNamed net_of (one ++ other)
together net_of one other a b = All-append (λ m. IsSome (net_of m.node)) one other a b

-- of items with one node each
nodes_named : {T : Type 0} (net_of : NetOf) (known : T → Bool) (f : T → Mention) → ((x : T) → known x ≡ true → IsSome (net_of (f x).node)) → (items : List T) → list_all known items ≡ true → AllNamed net_of (map f items)
nodes_named net_of known f one [] e = All-nil (λ m. IsSome (net_of m.node))
nodes_named net_of known f one (x ∷ xs) e =
    let h = both (known x) (list_all known xs) e in
    All-cons (λ m. IsSome (net_of m.node)) (f x) (map f xs) (one x h.0) (nodes_named net_of known f one xs h.1)

-- of items with several
lists_named : {T : Type 0} (net_of : NetOf) (known : T → Bool) (f : T → List Mention) → ((x : T) → known x ≡ true → AllNamed net_of (f x)) → (items : List T) → list_all known items ≡ true → AllNamed net_of (flat_map f items)
lists_named net_of known f one [] e = All-nil (λ m. IsSome (net_of m.node))
lists_named net_of known f one (x ∷ xs) e =
    let h = both (known x) (list_all known xs) e in
    together net_of (f x) (flat_map f xs) (one x h.0) (lists_named net_of known f one xs h.1)

edge_named : (net_of : NetOf) (edge : RawEdge) → edge_known net_of edge ≡ true →
    AllNamed net_of (edge_mentions edge)
edge_named net_of edge e =
    let given = list_all (bind_known net_of) edge.ant in
    let asked = list_all (bind_known net_of) edge.con in
    let weakened = list_all (mark_known net_of) edge.weak in
    let h = both given (asked && weakened) e in
    let k = both asked weakened h.1 in
    together net_of (map bind_mention edge.ant)
    (map bind_mention edge.con ++ map mark_mention edge.weak)
    (nodes_named net_of (bind_known net_of) bind_mention (λ x k. k) edge.ant h.0)
    (together net_of (map bind_mention edge.con) (map mark_mention edge.weak)
    (nodes_named net_of (bind_known net_of) bind_mention (λ x k. k) edge.con k.0)
    (nodes_named net_of (mark_known net_of) mark_mention (λ x k. k) edge.weak k.1))

task_named : (net_of : NetOf) (task : RawTask) → task_known net_of task ≡ true →
    AllNamed net_of (task_mentions task)
task_named net_of (Ste line name reset ant con weak) e =
    let given = list_all (quint_known net_of) ant in
    let asked = list_all (quint_known net_of) con in
    let weakened = list_all (weak_known net_of) weak in
    let h = both given (asked && weakened) e in
    let k = both asked weakened h.1 in
    together net_of (map quint_mention ant) (map quint_mention con ++ map weak_mention weak)
    (nodes_named net_of (quint_known net_of) quint_mention (λ x k. k) ant h.0)
    (together net_of (map quint_mention con) (map weak_mention weak)
    (nodes_named net_of (quint_known net_of) quint_mention (λ x k. k) con k.0)
    (nodes_named net_of (weak_known net_of) weak_mention (λ x k. k) weak k.1))
task_named net_of (Gste line name reset vertices edges) e = lists_named net_of (edge_known net_of) edge_mentions (edge_named net_of) edges e

-- of all tasks
pub all_named : (net_of : NetOf) (tasks : List RawTask) → list_all (task_known net_of) tasks ≡ true → AllNamed net_of (mentions_of tasks)
all_named net_of tasks e = lists_named net_of (task_known net_of) task_mentions (task_named net_of) tasks e

grouped : (a b c : Bool) → ((a && b) && c) ≡ (a && (b && c))
grouped true b c = refl
grouped false b c = refl

-- what is known behind three lists, one after the other
three_known : (old given asked weakened next more last : Bool) → next ≡ (old && given) →
    more ≡ (next && asked) → last ≡ (more && weakened) →
    last ≡ (old && (given && (asked && weakened)))
three_known old given asked weakened next more last n m l =
    l ∙ ap (λ k. k && weakened) m ∙ ap (λ k. (k && asked) && weakened) n
    ∙ grouped (old && given) asked weakened ∙ grouped old given (asked && weakened)

-- what is known behind an assertion, and behind a graph
pub ste_known : (net_of : NetOf) (task : RawTask) (line : ℕ) (name : List ℕ) (reset : Bool)
    (ant con one other : List RawQuint) (weak third : List RawWeak) (old next more last : Bool) →
    task ≡ Ste line name reset ant con weak → one ≡ ant → other ≡ con → third ≡ weak →
    next ≡ (old && list_all (quint_known net_of) one) →
    more ≡ (next && list_all (quint_known net_of) other) →
    last ≡ (more && list_all (weak_known net_of) third) → last ≡ (old && task_known net_of task)
ste_known net_of task line name reset ant con one other weak third old next more last
    t a b c n m l =
    let p = list_all (quint_known net_of) in
    let q = list_all (weak_known net_of) in
    three_known old (p ant) (p con) (q weak) next more last
    (n ∙ ap (λ xs. old && p xs) a) (m ∙ ap (λ xs. next && p xs) b) (l ∙ ap (λ xs. more && q xs) c)
    ∙ sym (ap (λ k. old && task_known net_of k) t)

pub gste_known : (net_of : NetOf) (task : RawTask) (line : ℕ) (name : List ℕ) (reset : Bool) (vertices : List (List ℕ)) (edges one : List RawEdge) (old last : Bool) → task ≡ Gste line name reset vertices edges → one ≡ edges → last ≡ (old && list_all (edge_known net_of) one) → last ≡ (old && task_known net_of task)
gste_known net_of task line name reset vertices edges one old last t a l =
    l ∙ ap (λ xs. old && list_all (edge_known net_of) xs) a ∙ sym (ap (λ k. old && task_known net_of k) t)
