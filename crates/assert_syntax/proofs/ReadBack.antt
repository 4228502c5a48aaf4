-- Tasks that are written out are read back.
use Rattle.std.proofs.Common.{ℕ, suc, ◌+◌, ◌<◌, ◌≤◌, ◌≡◌, refl, sym, ap, subst, ◌∙◌, List, [], ◌∷◌, ◌++◌, length, get_or, take, drop, map, arith, Bool, true, false, if◌then◌else◌, Option, None, Some, codes, nat_le, nat_lt, bytes_eq, append_assoc, append-nil, length-append}
use Rattle.std.specs.Prelude.{All, cond}
use Rattle.std.specs.List.{flat_map, list_all, list_any}
use Rattle.std.proofs.Math.Seq.{take-append_seam, drop-append_seam}
use Rattle.std.proofs.Math.ListN.{get_or-append}
use Rattle.std.proofs.lemmas.List.{get_or-append-add, map-append}
use Rattle.std.proofs.lemmas.List.Elements.{All-head, All-tail}
use Rattle.std.proofs.lemmas.List.Sums.{fold-append, position_or_len_is}
use Rattle.ste_base.specs.Limits.{most_variables}
use Rattle.indexmap.specs.IndexSet.{insert_all, insert_key}
use Rattle.blif_lines.specs.Laws.{text_of_words}
use Rattle.bool_expr.specs.Grammar.{Expression, literal, nesting, single, spelling}
use Rattle.bool_expr.specs.declared.token.Sign.TheVariants.{Or, Xor, And}
use Rattle.bool_expr.specs.Read.{Spells, first_unknown, number_in}
use Rattle.bool_expr.proofs.Answered.{one_tree}
use Rattle.assert_syntax.specs.declared.form.LineFault.{LineFault}
use Rattle.assert_syntax.specs.declared.form.Side.{Side}
use Rattle.assert_syntax.specs.declared.form.Side.TheVariants.{Antecedent, Consequent}
use Rattle.assert_syntax.specs.declared.form.Span.{Span}
use Rattle.assert_syntax.specs.declared.form.Span.TheVariants as span
use Rattle.assert_syntax.specs.declared.position.Position.{Position}
use Rattle.assert_syntax.specs.declared.position.Position.TheVariants as position
use Rattle.assert_syntax.specs.declared.form.LineFault.TheVariants.{Bad}
use Rattle.assert_syntax.specs.Answer.{task_entry_of, task_entries_of}
use Rattle.assert_syntax.specs.Forms.{Clause, Entry, Form, clause_of, clause_with, expression_length, task_form_of, guarded_form, span_of, valued_form, weak_with}
use Rattle.assert_syntax.specs.Forms as form
use Rattle.assert_syntax.specs.Parses.{Parse, IsParse, IsSpelled, is_deep, tree_over}
use Rattle.assert_syntax.specs.Places.{Context, clause_fault, context_of, fault_or, first_double, first_task_fault, graph_fault, holds_edges, names_fault, span_fault, span_fits}
use Rattle.assert_syntax.specs.Rules.{IsFirstDouble}
use Rattle.assert_syntax.specs.Spelled.{RawBindTree, RawEdgeTree, MarkTree, RawQuintTree, RawWeakTree, assertion, graph, bind_said, binds_of, edges_of, from_of, is_side, marks_of, quint_said, quints_of, tasks_of, to_of, vars_with, vertex_number, vertices_of, weaks_of}
use Rattle.assert_syntax.specs.Words.{ends_expression, is_variable}
use Rattle.assert_syntax.specs.Written.{SaidClause, SaidEdge, SaidTask, SaidTimes, SaidWeak, ste, gste, AreSayable, AreTimes, IsBindSaid, IsEdgeSaid, IsExpression, IsGuard, IsQuintSaid, IsSayable, IsTimed, WrittenIsRead, clause_line, clause_words, edge_lines, ends_of, guard_text, guard_words, line_of, on_side, reset_words, said_bind, said_edge, said_from, said_mark, said_name, said_quint, said_task, said_to, said_weak, side_word, task_lines, times_words, vars_lines, vertices_said, weak_line, written}
use Rattle.assert_syntax.proofs.Faults.{fault_from, same_fault}
use Rattle.assert_syntax.proofs.Named.{double_found}
use Rattle.assert_syntax.proofs.Numbered.{inserted, number_stays, place_is, stays_in}

-- the clause that is read
abbrev said_span : Option SaidTimes → Span
said_span None = span.Absent
said_span (Some times) = span.During times.from times.to

abbrev said_clause : SaidClause → Clause
said_clause c = record { side = c.side; node = c.node; value = text_of_words c.value; guard = guard_text c.guard; span = said_span c.times }

-- the lines with their forms
abbrev entry : ℕ → Form → Entry
entry line form = record { line = line; form = form }

abbrev clause_entry : SaidClause → Entry
clause_entry c = entry c.line (form.clause (said_clause c))

abbrev weak_entry : SaidWeak → Entry
weak_entry w = entry w.line (form.weak w.node (said_span w.times))

abbrev edge_entries : SaidEdge → List Entry
edge_entries e =
    entry e.line (form.edge e.from e.to) ∷ (map clause_entry e.clauses ++ map weak_entry e.weaks)

abbrev task_entries : SaidTask → List Entry
task_entries (ste line name reset clauses weaks) =
    entry line (form.ste name reset)
    ∷ (map clause_entry clauses ++ (map weak_entry weaks ++ entry line form.ending ∷ []))
task_entries (gste line name vertex reset edges) = entry line (form.gste name vertex reset) ∷ (flat_map edge_entries edges ++ entry line form.ending ∷ [])

abbrev vars_entries : List (List ℕ) → List Entry
vars_entries [] = []
vars_entries (name ∷ names) = entry 1 (form.vars (name ∷ names)) ∷ []

-- words that end an expression, or none
abbrev Ends : List (List ℕ) → Type 0
Ends rest = (d : List ℕ) → 0 < length rest → ends_expression (get_or rest 0 d) ≡ true

up_to_end : (words rest : List (List ℕ)) → All (λ word. ends_expression word ≡ false) words → Ends rest → expression_length (words ++ rest) ≡ length words
up_to_end words rest goes ends =
    place_is ends_expression (words ++ rest) ∙ position_or_len_is ends_expression (words ++ rest) (length words) [] (let n = length-append words rest in omega (arith, n))
    (λ k h. ap ends_expression (get_or-append words rest [] k h) ∙ goes k [] h)
    (λ h. let n = length-append words rest in
    let zero_more : length words ≡ length words + 0 = omega arith in
    ap (λ i. ends_expression (get_or (words ++ rest) i [])) zero_more ∙ ap ends_expression (get_or-append-add words rest 0 []) ∙ ends [] (omega (arith, h, n)))

times_end : (times : Option SaidTimes) → Ends (times_words times)
times_end None d h = absurd (omega (arith, h))
times_end (Some times) d h = refl

guard_ends : (guard : Option (List (List ℕ))) (times : Option SaidTimes) → Ends (guard_words guard ++ times_words times)
guard_ends None times d h = times_end times d h
guard_ends (Some words) times d h = refl

-- the times as they are written say what they are
abbrev AreSaid : Option SaidTimes → Type 0
AreSaid None = Unit {0}
AreSaid (Some times) = AreTimes times

le_true : (a b : ℕ) → a ≤ b → nat_le a b ≡ true
le_true a b h = grind (arith, h)

span_is : (times : Option SaidTimes) → AreSaid times → span_of (times_words times) ≡ Some (said_span times)
span_is None said = refl
span_is (Some times) said = rw said.first (rw said.last (rw (le_true times.from times.to said.ordered) refl))

-- the words of a guard do not end it
abbrev IsOpen : Option (List (List ℕ)) → Type 0
IsOpen None = Unit {0}
IsOpen (Some words) = All (λ word. ends_expression word ≡ false) words

guard_form : (side : Side) (node value : List ℕ) (words : List (List ℕ)) (times : Option SaidTimes) → All (λ word. ends_expression word ≡ false) words → AreSaid times → guarded_form side node value (words ++ times_words times) ≡ form.clause (record { side = side; node = node; value = value; guard = text_of_words words; span = said_span times })
guard_form side node value words times goes said =
    let rest = times_words times in
    ap (λ n. clause_with side node value (text_of_words (take n (words ++ rest))) (span_of (drop n (words ++ rest)))) (up_to_end words rest goes (times_end times))
    ∙ ap (λ k. clause_with side node value (text_of_words k) (span_of (drop (length words) (words ++ rest)))) (take-append_seam words rest)
    ∙ ap (λ k. clause_with side node value (text_of_words words) (span_of k)) (drop-append_seam words rest)
    ∙ ap (clause_with side node value (text_of_words words)) (span_is times said)

valued_is : (side : Side) (node value : List ℕ) (guard : Option (List (List ℕ))) (times : Option SaidTimes) → IsOpen guard → AreSaid times → valued_form side node value (guard_words guard ++ times_words times) ≡ form.clause (record { side = side; node = node; value = value; guard = guard_text guard; span = said_span times })
valued_is side node value None None goes said = refl
valued_is side node value None (Some times) goes said = ap (clause_with side node value (codes "1")) (span_is (Some times) said)
valued_is side node value (Some words) times goes said = guard_form side node value words times goes said

behind_equals : (side : Side) (node : List ℕ) (value rest : List (List ℕ)) → All (λ word. ends_expression word ≡ false) value → Ends rest → clause_of side (node ∷ codes "=" ∷ (value ++ rest)) ≡ valued_form side node (text_of_words value) rest
behind_equals side node value rest goes ends =
    ap (λ n. valued_form side node (text_of_words (take n (value ++ rest))) (drop n (value ++ rest))) (up_to_end value rest goes ends)
    ∙ ap (λ k. valued_form side node (text_of_words k) (drop (length value) (value ++ rest))) (take-append_seam value rest)
    ∙ ap (valued_form side node (text_of_words value)) (drop-append_seam value rest)

side_form : (side : Side) (words : List (List ℕ)) → task_form_of (side_word side ∷ words) ≡ clause_of side words
side_form Antecedent words = refl
side_form Consequent words = refl

clause_form : (c : SaidClause) → All (λ word. ends_expression word ≡ false) c.value → IsOpen c.guard → AreSaid c.times → task_form_of (clause_words c) ≡ form.clause (said_clause c)
clause_form c value guard times =
    let rest = guard_words c.guard ++ times_words c.times in
    side_form c.side (c.node ∷ codes "=" ∷ (c.value ++ rest))
    ∙ behind_equals c.side c.node c.value rest value (guard_ends c.guard c.times)
    ∙ valued_is c.side c.node (text_of_words c.value) c.guard c.times guard times

open_guard : (vars : List (List ℕ)) (guard : Option (List (List ℕ))) → IsGuard vars guard → IsOpen guard
open_guard vars None g = tt
open_guard vars (Some words) g = g.goes_on

quint_times : (times : Option SaidTimes) → IsTimed times → AreSaid times
quint_times None t = tt
quint_times (Some times) t = t

bind_times : (times : Option SaidTimes) → times ≡ None → AreSaid times
bind_times None e = tt
bind_times (Some times) e = absurd (cc e)

one_spelled : (c : SaidClause) → task_form_of (clause_words c) ≡ form.clause (said_clause c) → task_entry_of (clause_line c) ≡ clause_entry c
one_spelled c e = ap (entry c.line) e

quints_spelled : (vars : List (List ℕ)) (cs : List SaidClause) → All (IsQuintSaid vars) cs → task_entries_of (map clause_line cs) ≡ map clause_entry cs
quints_spelled vars [] all = refl
quints_spelled vars (c ∷ cs) all =
    let h = All-head (IsQuintSaid vars) c cs all in
    ap (λ e. e ∷ task_entries_of (map clause_line cs)) (one_spelled c (clause_form c h.value.goes_on (open_guard vars c.guard h.guard) (quint_times c.times h.times)))
    ∙ ap (λ es. clause_entry c ∷ es) (quints_spelled vars cs (All-tail (IsQuintSaid vars) c cs all))

binds_spelled : (vars : List (List ℕ)) (cs : List SaidClause) → All (IsBindSaid vars) cs → task_entries_of (map clause_line cs) ≡ map clause_entry cs
binds_spelled vars [] all = refl
binds_spelled vars (c ∷ cs) all =
    let h = All-head (IsBindSaid vars) c cs all in
    ap (λ e. e ∷ task_entries_of (map clause_line cs)) (one_spelled c (clause_form c h.value.goes_on (open_guard vars c.guard h.guard) (bind_times c.times h.times)))
    ∙ ap (λ es. clause_entry c ∷ es) (binds_spelled vars cs (All-tail (IsBindSaid vars) c cs all))

-- weakenings
weak_spelled : (w : SaidWeak) → AreSaid w.times → task_entry_of (weak_line w) ≡ weak_entry w
weak_spelled w said = ap (λ times. entry w.line (weak_with w.node times)) (span_is w.times said)

abbrev WeaksSaid : List SaidWeak → Type 0
WeaksSaid ws = All (λ w. AreSaid w.times) ws

weaks_spelled : (ws : List SaidWeak) → WeaksSaid ws →
    task_entries_of (map weak_line ws) ≡ map weak_entry ws
weaks_spelled [] all = refl
weaks_spelled (w ∷ ws) all =
    ap (λ e. e ∷ task_entries_of (map weak_line ws))
    (weak_spelled w (All-head (λ w. AreSaid w.times) w ws all))
    ∙ ap (λ es. weak_entry w ∷ es)
    (weaks_spelled ws (All-tail (λ w. AreSaid w.times) w ws all))

timed_weaks : (ws : List SaidWeak) → All (λ w. IsTimed w.times) ws → WeaksSaid ws
timed_weaks ws all = λ k d h. quint_times (get_or ws k d).times (all k d h)

bare_weaks : (ws : List SaidWeak) → All (λ w. w.times ≡ None) ws → WeaksSaid ws
bare_weaks ws all = λ k d h. bind_times (get_or ws k d).times (all k d h)

edge_spelled : (vars : List (List ℕ)) (e : SaidEdge) → IsEdgeSaid vars e →
    task_entries_of (edge_lines e) ≡ edge_entries e
edge_spelled vars e said =
    let inner : task_entries_of (map clause_line e.clauses ++ map weak_line e.weaks)
    ≡ map clause_entry e.clauses ++ map weak_entry e.weaks =
    map-append task_entry_of (map clause_line e.clauses) (map weak_line e.weaks)
    ∙ ap (λ k. k ++ task_entries_of (map weak_line e.weaks))
    (binds_spelled vars e.clauses said.clauses)
    ∙ ap (λ k. map clause_entry e.clauses ++ k)
    (weaks_spelled e.weaks (bare_weaks e.weaks said.weaks)) in
    ap (λ k. entry e.line (form.edge e.from e.to) ∷ k) inner

edges_spelled : (vars : List (List ℕ)) (es : List SaidEdge) → All (IsEdgeSaid vars) es →
    task_entries_of (flat_map edge_lines es) ≡ flat_map edge_entries es
edges_spelled vars [] all = refl
edges_spelled vars (e ∷ es) all =
    map-append task_entry_of (edge_lines e) (flat_map edge_lines es)
    ∙ ap (λ k. k ++ task_entries_of (flat_map edge_lines es))
    (edge_spelled vars e (All-head (IsEdgeSaid vars) e es all))
    ∙ ap (λ k. edge_entries e ++ k) (edges_spelled vars es (All-tail (IsEdgeSaid vars) e es all))

ste_form : (name : List ℕ) (reset : Bool) → task_form_of (codes ".ste" ∷ name ∷ reset_words reset) ≡ form.ste name reset
ste_form name true = refl
ste_form name false = refl

gste_form : (name vertex : List ℕ) (reset : Bool) → task_form_of (codes ".gste" ∷ name ∷ vertex ∷ reset_words reset) ≡ form.gste name vertex reset
gste_form name vertex true = refl
gste_form name vertex false = refl

task_spelled : (vars : List (List ℕ)) (t : SaidTask) → IsSayable vars t → task_entries_of (task_lines t) ≡ task_entries t
task_spelled vars (ste line name reset cs ws) say =
    let last = line_of line (codes ".end" ∷ []) ∷ [] in
    let weakened : task_entries_of (map weak_line ws ++ last)
    ≡ map weak_entry ws ++ entry line form.ending ∷ [] =
    map-append task_entry_of (map weak_line ws) last
    ∙ ap (λ k. k ++ entry line form.ending ∷ []) (weaks_spelled ws (timed_weaks ws say.1)) in
    let inner : task_entries_of (map clause_line cs ++ (map weak_line ws ++ last))
    ≡ map clause_entry cs ++ (map weak_entry ws ++ entry line form.ending ∷ []) =
    map-append task_entry_of (map clause_line cs) (map weak_line ws ++ last)
    ∙ ap (λ k. k ++ task_entries_of (map weak_line ws ++ last)) (quints_spelled vars cs say.0)
    ∙ ap (λ k. map clause_entry cs ++ k) weakened in
    ap (λ f. entry line f ∷ task_entries_of (map clause_line cs ++ (map weak_line ws ++ last)))
    (ste_form name reset)
    ∙ ap (λ k. entry line (form.ste name reset) ∷ k) inner
task_spelled vars (gste line name vertex reset es) say =
    ap (λ f. entry line f ∷ task_entries_of (flat_map edge_lines es ++ line_of line (codes ".end" ∷ []) ∷ [])) (gste_form name vertex reset)
    ∙ ap (λ k. entry line (form.gste name vertex reset) ∷ k) (map-append task_entry_of (flat_map edge_lines es) (line_of line (codes ".end" ∷ []) ∷ []) ∙ ap (λ k. k ++ entry line form.ending ∷ []) (edges_spelled vars es say.2))

tasks_spelled : (vars : List (List ℕ)) (ts : List SaidTask) → All (IsSayable vars) ts → task_entries_of (flat_map task_lines ts) ≡ flat_map task_entries ts
tasks_spelled vars [] all = refl
tasks_spelled vars (t ∷ ts) all =
    map-append task_entry_of (task_lines t) (flat_map task_lines ts)
    ∙ ap (λ k. k ++ task_entries_of (flat_map task_lines ts)) (task_spelled vars t (All-head (IsSayable vars) t ts all))
    ∙ ap (λ k. task_entries t ++ k) (tasks_spelled vars ts (All-tail (IsSayable vars) t ts all))

vars_form : (b : Bool) (names : List (List ℕ)) → b ≡ true → (if b then form.vars names else form.wrong) ≡ form.vars names
vars_form true names e = refl
vars_form false names e = absurd (cc e)

vars_spelled : (vars : List (List ℕ)) → list_all is_variable vars ≡ true → task_entries_of (vars_lines vars) ≡ vars_entries vars
vars_spelled [] e = refl
vars_spelled (name ∷ names) e = ap (λ f. entry 1 f ∷ []) (vars_form (list_all is_variable (name ∷ names)) (name ∷ names) e)

all_spelled : (vars : List (List ℕ)) (ts : List SaidTask) → AreSayable vars ts → task_entries_of (written vars ts) ≡ vars_entries vars ++ flat_map task_entries ts
all_spelled vars ts say =
    map-append task_entry_of (vars_lines vars) (flat_map task_lines ts)
    ∙ ap (λ k. k ++ task_entries_of (flat_map task_lines ts)) (vars_spelled vars say.variables)
    ∙ ap (λ k. vars_entries vars ++ k) (tasks_spelled vars ts say.each)

-- what is read
from_is : (times : Option SaidTimes) → from_of (said_span times) ≡ said_from times
from_is None = refl
from_is (Some times) = refl

to_is : (times : Option SaidTimes) → to_of (said_span times) ≡ said_to times
to_is None = refl
to_is (Some times) = refl

quint_is : (parse : Parse) (vars : List (List ℕ)) (c : SaidClause) → quint_said parse vars c.line (said_clause c) ≡ said_quint parse vars c
quint_is parse vars c =
    ap (λ n. record { line = c.line; guard = tree_over vars (parse (guard_text c.guard)); node = c.node; value = tree_over vars (parse (text_of_words c.value)); from = n; to = to_of (said_span c.times) }) (from_is c.times)
    ∙ ap (λ n. record { line = c.line; guard = tree_over vars (parse (guard_text c.guard)); node = c.node; value = tree_over vars (parse (text_of_words c.value)); from = said_from c.times; to = n }) (to_is c.times)

one_more : {A B : Type 0} (b : Bool) (f : A → B) (c : A) (q : B) (ys : List A) (x z : List B) → q ≡ f c → x ≡ map f ys ++ z → (if b then q ∷ x else x) ≡ map f (cond b (c ∷ ys) ys) ++ z
one_more true f c q ys x z e h = ap (λ k. k ∷ x) e ∙ ap (λ k. f c ∷ k) h
one_more false f c q ys x z e h = h

abbrev weak_said : ℕ → List ℕ → ℕ → ℕ → RawWeakTree
weak_said line node from to = record { line = line; node = node; from = from; to = to }

weak_is : (w : SaidWeak) →
    weak_said w.line w.node (from_of (said_span w.times)) (to_of (said_span w.times)) ≡ said_weak w
weak_is w =
    ap (λ n. weak_said w.line w.node n (to_of (said_span w.times))) (from_is w.times)
    ∙ ap (weak_said w.line w.node (said_from w.times)) (to_is w.times)

-- clauses and weakenings, and what is behind them
abbrev inside : List SaidClause → List SaidWeak → List Entry → List Entry
inside cs ws rest = map clause_entry cs ++ (map weak_entry ws ++ rest)

quints_read : (parse : Parse) (side : Side) (vars : List (List ℕ)) (cs : List SaidClause)
    (ws : List SaidWeak) (rest : List Entry) →
    quints_of parse side vars (inside cs ws rest)
    ≡ map (said_quint parse vars) (on_side side cs) ++ quints_of parse side vars rest
quints_read parse side vars [] [] rest = refl
quints_read parse side vars [] (w ∷ ws) rest = quints_read parse side vars [] ws rest
quints_read parse side vars (c ∷ cs) ws rest =
    one_more (is_side side c.side) (said_quint parse vars) c
    (quint_said parse vars c.line (said_clause c)) (on_side side cs) _ _ (quint_is parse vars c)
    (quints_read parse side vars cs ws rest)

binds_read : (parse : Parse) (side : Side) (vars : List (List ℕ)) (cs : List SaidClause)
    (ws : List SaidWeak) (rest : List Entry) →
    binds_of parse side vars (inside cs ws rest)
    ≡ map (said_bind parse vars) (on_side side cs) ++ binds_of parse side vars rest
binds_read parse side vars [] [] rest = refl
binds_read parse side vars [] (w ∷ ws) rest = binds_read parse side vars [] ws rest
binds_read parse side vars (c ∷ cs) ws rest =
    one_more (is_side side c.side) (said_bind parse vars) c
    (bind_said parse vars c.line (said_clause c)) (on_side side cs) _ _ refl
    (binds_read parse side vars cs ws rest)

weaks_read : (cs : List SaidClause) (ws : List SaidWeak) (rest : List Entry) →
    weaks_of (inside cs ws rest) ≡ map said_weak ws ++ weaks_of rest
weaks_read [] [] rest = refl
weaks_read [] (w ∷ ws) rest =
    ap (λ k. k ∷ weaks_of (map weak_entry ws ++ rest)) (weak_is w)
    ∙ ap (λ k. said_weak w ∷ k) (weaks_read [] ws rest)
weaks_read (c ∷ cs) ws rest = weaks_read cs ws rest

marks_read : (cs : List SaidClause) (ws : List SaidWeak) (rest : List Entry) →
    marks_of (inside cs ws rest) ≡ map said_mark ws ++ marks_of rest
marks_read [] [] rest = refl
marks_read [] (w ∷ ws) rest = ap (λ k. said_mark w ∷ k) (marks_read [] ws rest)
marks_read (c ∷ cs) ws rest = marks_read cs ws rest

-- later tasks have no part in one
abbrev Later : List SaidTask → List Entry
Later ts = flat_map task_entries ts

no_quints : (parse : Parse) (side : Side) (vars : List (List ℕ)) (ts : List SaidTask) → quints_of parse side vars (Later ts) ≡ []
no_quints parse side vars [] = refl
no_quints parse side vars (ste line name reset cs ws ∷ ts) = refl
no_quints parse side vars (gste line name vertex reset es ∷ ts) = refl

no_binds : (parse : Parse) (side : Side) (vars : List (List ℕ)) (ts : List SaidTask) → binds_of parse side vars (Later ts) ≡ []
no_binds parse side vars [] = refl
no_binds parse side vars (ste line name reset cs ws ∷ ts) = refl
no_binds parse side vars (gste line name vertex reset es ∷ ts) = refl

no_weaks : (ts : List SaidTask) → weaks_of (Later ts) ≡ []
no_weaks [] = refl
no_weaks (ste line name reset cs ws ∷ ts) = refl
no_weaks (gste line name vertex reset es ∷ ts) = refl

no_marks : (ts : List SaidTask) → marks_of (Later ts) ≡ []
no_marks [] = refl
no_marks (ste line name reset cs ws ∷ ts) = refl
no_marks (gste line name vertex reset es ∷ ts) = refl

no_vertices : (vertices : List (List ℕ)) (ts : List SaidTask) → vertices_of vertices (Later ts) ≡ vertices
no_vertices vertices [] = refl
no_vertices vertices (ste line name reset cs ws ∷ ts) = refl
no_vertices vertices (gste line name vertex reset es ∷ ts) = refl

no_edges : (parse : Parse) (vars vertices : List (List ℕ)) (ts : List SaidTask) → edges_of parse vars vertices (Later ts) ≡ []
no_edges parse vars vertices [] = refl
no_edges parse vars vertices (ste line name reset cs ws ∷ ts) = refl
no_edges parse vars vertices (gste line name vertex reset es ∷ ts) = refl

-- clauses and weakenings are in no list of tasks, vertices or edges
tasks_past : (parse : Parse) (vars : List (List ℕ)) (cs : List SaidClause) (ws : List SaidWeak)
    (rest : List Entry) → tasks_of parse vars (inside cs ws rest) ≡ tasks_of parse vars rest
tasks_past parse vars [] [] rest = refl
tasks_past parse vars [] (w ∷ ws) rest = tasks_past parse vars [] ws rest
tasks_past parse vars (c ∷ cs) ws rest = tasks_past parse vars cs ws rest

vertices_past : (vertices : List (List ℕ)) (cs : List SaidClause) (ws : List SaidWeak)
    (rest : List Entry) → vertices_of vertices (inside cs ws rest) ≡ vertices_of vertices rest
vertices_past vertices [] [] rest = refl
vertices_past vertices [] (w ∷ ws) rest = vertices_past vertices [] ws rest
vertices_past vertices (c ∷ cs) ws rest = vertices_past vertices cs ws rest

edges_past : (parse : Parse) (vars vertices : List (List ℕ)) (cs : List SaidClause)
    (ws : List SaidWeak) (rest : List Entry) →
    edges_of parse vars vertices (inside cs ws rest) ≡ edges_of parse vars vertices rest
edges_past parse vars vertices [] [] rest = refl
edges_past parse vars vertices [] (w ∷ ws) rest = edges_past parse vars vertices [] ws rest
edges_past parse vars vertices (c ∷ cs) ws rest = edges_past parse vars vertices cs ws rest

-- the lines of edges, and what is behind them
edge_apart : (e : SaidEdge) (es : List SaidEdge) (rest : List Entry) →
    flat_map edge_entries (e ∷ es) ++ rest
    ≡ entry e.line (form.edge e.from e.to)
    ∷ inside e.clauses e.weaks (flat_map edge_entries es ++ rest)
edge_apart e es rest =
    let behind = flat_map edge_entries es ++ rest in
    append_assoc (edge_entries e) (flat_map edge_entries es) rest
    ∙ ap (λ k. entry e.line (form.edge e.from e.to) ∷ k)
    (append_assoc (map clause_entry e.clauses) (map weak_entry e.weaks) behind)

tasks_past_edges : (parse : Parse) (vars : List (List ℕ)) (es : List SaidEdge)
    (rest : List Entry) →
    tasks_of parse vars (flat_map edge_entries es ++ rest) ≡ tasks_of parse vars rest
tasks_past_edges parse vars [] rest = refl
tasks_past_edges parse vars (e ∷ es) rest =
    ap (tasks_of parse vars) (edge_apart e es rest)
    ∙ tasks_past parse vars e.clauses e.weaks (flat_map edge_entries es ++ rest)
    ∙ tasks_past_edges parse vars es rest

vertices_read : (vertices : List (List ℕ)) (es : List SaidEdge) (rest : List Entry) →
    ((vs : List (List ℕ)) → vertices_of vs rest ≡ vs) →
    vertices_of vertices (flat_map edge_entries es ++ rest)
    ≡ insert_all bytes_eq vertices (flat_map ends_of es)
vertices_read vertices [] rest none = none vertices
vertices_read vertices (e ∷ es) rest none =
    let more = insert_all bytes_eq vertices (ends_of e) in
    ap (vertices_of vertices) (edge_apart e es rest)
    ∙ vertices_past more e.clauses e.weaks (flat_map edge_entries es ++ rest)
    ∙ vertices_read more es rest none
    ∙ sym (fold-append _ vertices (ends_of e) (flat_map ends_of es))

-- the edges
abbrev one_edge : ℕ → ℕ → ℕ → List RawBindTree → List RawBindTree → List MarkTree → RawEdgeTree
one_edge line from to ant con weak =
    record { line = line; from = from; to = to; ant = ant; con = con; weak = weak }

edges_read : (parse : Parse) (vars vertices all : List (List ℕ)) (es : List SaidEdge)
    (rest : List Entry) → all ≡ insert_all bytes_eq vertices (flat_map ends_of es) →
    ((vs : List (List ℕ)) → edges_of parse vars vs rest ≡ []) →
    ((side : Side) → binds_of parse side vars rest ≡ []) → marks_of rest ≡ [] →
    edges_of parse vars vertices (flat_map edge_entries es ++ rest)
    ≡ map (said_edge parse vars all) es
edges_read parse vars vertices all [] rest e none no_bind no_mark = none vertices
edges_read parse vars vertices all (edge ∷ es) rest e none no_bind no_mark =
    let more = insert_all bytes_eq vertices (ends_of edge) in
    let behind = flat_map edge_entries es ++ rest in
    let lines = inside edge.clauses edge.weaks behind in
    let whole : all ≡ insert_all bytes_eq more (flat_map ends_of es) =
    e ∙ fold-append _ vertices (ends_of edge) (flat_map ends_of es) in
    let first = insert_key bytes_eq vertices edge.from in
    let from : vertex_number more edge.from ≡ vertex_number all edge.from =
    sym (ap (λ vs. vertex_number vs edge.from) whole
    ∙ number_stays more (flat_map ends_of es) edge.from
    (stays_in first (edge.to ∷ []) edge.from (inserted vertices edge.from))) in
    let to : vertex_number more edge.to ≡ vertex_number all edge.to =
    sym (ap (λ vs. vertex_number vs edge.to) whole
    ∙ number_stays more (flat_map ends_of es) edge.to (inserted first edge.to)) in
    let said : Side → List RawBindTree =
    λ side. map (said_bind parse vars) (on_side side edge.clauses) in
    let side_read : (side : Side) → binds_of parse side vars lines ≡ said side =
    λ side. binds_read parse side vars edge.clauses edge.weaks behind
    ∙ ap (λ k. said side ++ k) (no_more es side) ∙ append-nil (said side) in
    let weak_read : marks_of lines ≡ map said_mark edge.weaks =
    marks_read edge.clauses edge.weaks behind
    ∙ ap (λ k. map said_mark edge.weaks ++ k) (none_marked es)
    ∙ append-nil (map said_mark edge.weaks) in
    let given = binds_of parse Antecedent vars lines in
    let asked = binds_of parse Consequent vars lines in
    let marks = marks_of lines in
    let early = vertex_number more edge.to in
    let start = vertex_number all edge.from in
    let end = vertex_number all edge.to in
    let later = map (said_edge parse vars all) es in
    ap (edges_of parse vars vertices) (edge_apart edge es rest)
    ∙ ap (λ k. one_edge edge.line (vertex_number more edge.from) early given asked marks ∷ k)
    (edges_past parse vars more edge.clauses edge.weaks behind
    ∙ edges_read parse vars more all es rest whole none no_bind no_mark)
    ∙ ap (λ k. one_edge edge.line k early given asked marks ∷ later) from
    ∙ ap (λ k. one_edge edge.line start k given asked marks ∷ later) to
    ∙ ap (λ k. one_edge edge.line start end k asked marks ∷ later) (side_read Antecedent)
    ∙ ap (λ k. one_edge edge.line start end (said Antecedent) k marks ∷ later)
    (side_read Consequent)
    ∙ ap (λ k. one_edge edge.line start end (said Antecedent) (said Consequent) k ∷ later) weak_read
  where
    no_more : (es : List SaidEdge) (side : Side) →
        binds_of parse side vars (flat_map edge_entries es ++ rest) ≡ []
    no_more [] side = no_bind side
    no_more (e ∷ es) side = refl

    none_marked : (es : List SaidEdge) → marks_of (flat_map edge_entries es ++ rest) ≡ []
    none_marked [] = no_mark
    none_marked (e ∷ es) = refl

-- a task, and the later ones
ended : (front : List Entry) (line : ℕ) (ts : List SaidTask) → (front ++ entry line form.ending ∷ []) ++ Later ts ≡ front ++ entry line form.ending ∷ Later ts
ended front line ts = append_assoc front (entry line form.ending ∷ []) (Later ts)

ended_inside : (cs : List SaidClause) (ws : List SaidWeak) (line : ℕ) (ts : List SaidTask) →
    inside cs ws (entry line form.ending ∷ []) ++ Later ts
    ≡ inside cs ws (entry line form.ending ∷ Later ts)
ended_inside cs ws line ts =
    append_assoc (map clause_entry cs) (map weak_entry ws ++ entry line form.ending ∷ []) (Later ts)
    ∙ ap (λ k. map clause_entry cs ++ k) (ended (map weak_entry ws) line ts)

task_read : (parse : Parse) (vars : List (List ℕ)) (t : SaidTask) (ts : List SaidTask) →
    tasks_of parse vars (task_entries t ++ Later ts)
    ≡ said_task parse vars t ∷ tasks_of parse vars (Later ts)
task_read parse vars (ste line name reset cs ws) ts =
    let rest = entry line form.ending ∷ Later ts in
    let lines = inside cs ws rest in
    let said : Side → List RawQuintTree = λ side. map (said_quint parse vars) (on_side side cs) in
    let side_read : (side : Side) → quints_of parse side vars lines ≡ said side =
    λ side. quints_read parse side vars cs ws rest
    ∙ ap (λ k. said side ++ k) (no_quints parse side vars ts) ∙ append-nil (said side) in
    let weak_read : weaks_of lines ≡ map said_weak ws =
    weaks_read cs ws rest ∙ ap (λ k. map said_weak ws ++ k) (no_weaks ts)
    ∙ append-nil (map said_weak ws) in
    let asked = quints_of parse Consequent vars lines in
    let later = tasks_of parse vars lines in
    ap (λ k. tasks_of parse vars (entry line (form.ste name reset) ∷ k))
    (ended_inside cs ws line ts)
    ∙ ap (λ k. assertion line name reset k asked (weaks_of lines) ∷ later) (side_read Antecedent)
    ∙ ap (λ k. assertion line name reset (said Antecedent) k (weaks_of lines) ∷ later)
    (side_read Consequent)
    ∙ ap (λ k. assertion line name reset (said Antecedent) (said Consequent) k ∷ later) weak_read
    ∙ ap (λ k. said_task parse vars (ste line name reset cs ws) ∷ k)
    (tasks_past parse vars cs ws rest)
task_read parse vars (gste line name vertex reset es) ts =
    let rest = entry line form.ending ∷ Later ts in
    ap (λ k. tasks_of parse vars (entry line (form.gste name vertex reset) ∷ k)) (ended (flat_map edge_entries es) line ts)
    ∙ ap (λ k. graph line name reset k (edges_of parse vars (vertex ∷ []) (flat_map edge_entries es ++ rest)) ∷ tasks_of parse vars (flat_map edge_entries es ++ rest)) (vertices_read (vertex ∷ []) es rest (λ vs. no_vertices vs ts))
    ∙ ap (λ k. graph line name reset (vertices_said vertex es) k ∷ tasks_of parse vars (flat_map edge_entries es ++ rest))
    (edges_read parse vars (vertex ∷ []) (vertices_said vertex es) es rest refl
    (λ vs. no_edges parse vars vs ts) (λ side. no_binds parse side vars ts) (no_marks ts))
    ∙ ap (λ k. said_task parse vars (gste line name vertex reset es) ∷ k) (tasks_past_edges parse vars es rest)

tasks_read : (parse : Parse) (vars : List (List ℕ)) (ts : List SaidTask) → tasks_of parse vars (Later ts) ≡ map (said_task parse vars) ts
tasks_read parse vars [] = refl
tasks_read parse vars (t ∷ ts) = task_read parse vars t ts ∙ ap (λ k. said_task parse vars t ∷ k) (tasks_read parse vars ts)

all_read : (parse : Parse) (vars : List (List ℕ)) (ts : List SaidTask) → tasks_of parse [] (vars_entries vars ++ Later ts) ≡ map (said_task parse vars) ts
all_read parse [] ts = tasks_read parse [] ts
all_read parse (name ∷ names) ts = tasks_read parse (name ∷ names) ts

-- the variables
vars_past : (vars : List (List ℕ)) (cs : List SaidClause) (ws : List SaidWeak)
    (rest : List Entry) → vars_with vars (inside cs ws rest) ≡ vars_with vars rest
vars_past vars [] [] rest = refl
vars_past vars [] (w ∷ ws) rest = vars_past vars [] ws rest
vars_past vars (c ∷ cs) ws rest = vars_past vars cs ws rest

vars_past_edges : (vars : List (List ℕ)) (es : List SaidEdge) (rest : List Entry) →
    vars_with vars (flat_map edge_entries es ++ rest) ≡ vars_with vars rest
vars_past_edges vars [] rest = refl
vars_past_edges vars (e ∷ es) rest =
    ap (vars_with vars) (edge_apart e es rest)
    ∙ vars_past vars e.clauses e.weaks (flat_map edge_entries es ++ rest)
    ∙ vars_past_edges vars es rest

vars_stay : (vars : List (List ℕ)) (ts : List SaidTask) → vars_with vars (Later ts) ≡ vars
vars_stay vars [] = refl
vars_stay vars (ste line name reset cs ws ∷ ts) =
    ap (vars_with vars) (ended_inside cs ws line ts)
    ∙ vars_past vars cs ws (entry line form.ending ∷ Later ts) ∙ vars_stay vars ts
vars_stay vars (gste line name vertex reset es ∷ ts) = ap (vars_with vars) (ended (flat_map edge_entries es) line ts) ∙ vars_past_edges vars es (entry line form.ending ∷ Later ts) ∙ vars_stay vars ts

vars_read : (vars : List (List ℕ)) (ts : List SaidTask) → vars_with [] (vars_entries vars ++ Later ts) ≡ vars
vars_read [] ts = vars_stay [] ts
vars_read (name ∷ names) ts = vars_stay (name ∷ names) ts

-- no fault
-- a text that spells an expression which may stand is fine, whatever it is parsed as
record IsFine (vars : List (List ℕ)) (found : Option Expression) : Type 0 where
  d : Expression
  is : found ≡ Some d
  flat : is_deep d ≡ false
  known : first_unknown (number_in vars) (spelling d) ≡ None

lt_false : (a b : ℕ) → b ≤ a → nat_lt a b ≡ false
lt_false a b h = grind (arith, h)

fine_by : (vars : List (List ℕ)) (text : List ℕ) (found : Option Expression) (d : Expression) → IsSpelled text found → Spells d text → nesting d ≤ 100 → first_unknown (number_in vars) (spelling d) ≡ None → IsFine vars found
fine_by vars text None d is s flat known = absurd (is d s)
fine_by vars text (Some e) d is s flat known =
    let same = (one_tree text d e s is).0 in
    record { d = e; is = refl; flat = lt_false 100 (nesting e) (omega (arith, same, flat)); known = ap (first_unknown (number_in vars)) (is ∙ sym s) ∙ known }

guard_fine : (parse : Parse) (vars : List (List ℕ)) (guard : Option (List (List ℕ))) → IsParse parse → IsGuard vars guard → IsFine vars (parse (guard_text guard))
guard_fine parse vars None is g = fine_by vars (codes "1") (parse (codes "1")) (single Or (single Xor (single And (literal true)))) (is (codes "1")) refl (omega arith) refl
guard_fine parse vars (Some words) is g = fine_by vars (text_of_words words) (parse (text_of_words words)) g.d (is (text_of_words words)) g.spells g.flat g.known

value_fine : (parse : Parse) (vars words : List (List ℕ)) → IsParse parse → IsExpression vars words → IsFine vars (parse (text_of_words words))
value_fine parse vars words is g = fine_by vars (text_of_words words) (parse (text_of_words words)) g.d (is (text_of_words words)) g.spells g.flat g.known

-- times that are not late
abbrev IsEarly : Span → Type 0
IsEarly span.Late = ⊥
IsEarly other = Unit {0}

early : (times : Option SaidTimes) → IsEarly (said_span times)
early None = tt
early (Some times) = tt

fault_none : (vars : List (List ℕ)) (value guard : Option Expression) (times : Span) → IsFine vars value → IsFine vars guard → IsEarly times → clause_fault vars value guard times ≡ None
fault_none vars value guard times v g t =
    ap (λ k. clause_fault vars k guard times) v.is ∙ ap (λ k. clause_fault vars (Some v.d) k times) g.is ∙ fine_clause times t
  where
    fine_clause : (times : Span) → IsEarly times → clause_fault vars (Some v.d) (Some g.d) times ≡ None
    fine_clause span.Absent t = rw v.flat (rw g.flat (rw v.known (rw g.known refl)))
    fine_clause (span.During a b) t = rw v.flat (rw g.flat (rw v.known (rw g.known refl)))
    fine_clause span.Late t = absurd t

timed_fits : (times : Option SaidTimes) → IsTimed times → span_fits (said_span times) position.Assertion ≡ true
timed_fits None t = absurd t
timed_fits (Some times) t = refl

bare_fits : (times : Option SaidTimes) → times ≡ None → span_fits (said_span times) position.Edge ≡ true
bare_fits None e = refl
bare_fits (Some times) e = absurd (cc e)

-- the context of a position
abbrev context : Position → List (List ℕ) → List (List ℕ) → List (List ℕ) → ℕ → Context
context at vars names vertices edges = record { place = at; vars = vars; names = names; vertices = vertices; edges = edges }

clause_clean : (parse : Parse) (c : Context) (clause : SaidClause) (rest : List Entry) → span_fits (said_span clause.times) c.place ≡ true → clause_fault c.vars (parse (text_of_words clause.value)) (parse (guard_text clause.guard)) (said_span clause.times) ≡ None → fault_from parse c (clause_entry clause ∷ rest) ≡ fault_from parse c rest
clause_clean parse c clause rest fits none =
    ap (λ f. fault_or clause.line f (fault_from parse c rest)) (stood (span_fits (said_span clause.times) c.place) fits none)
  where
    stood : (b : Bool) → b ≡ true → clause_fault c.vars (parse (text_of_words clause.value)) (parse (guard_text clause.guard)) (said_span clause.times) ≡ None → (if b then clause_fault c.vars (parse (text_of_words clause.value)) (parse (guard_text clause.guard)) (said_span clause.times) else Some Bad) ≡ None
    stood true e n = n
    stood false e n = absurd (cc e)

quints_clean : (parse : Parse) (c : Context) (cs : List SaidClause) (rest : List Entry) → IsParse parse → c.place ≡ position.Assertion → All (IsQuintSaid c.vars) cs → fault_from parse c (map clause_entry cs ++ rest) ≡ fault_from parse c rest
quints_clean parse c [] rest is at all = refl
quints_clean parse c (clause ∷ cs) rest is at all =
    let h = All-head (IsQuintSaid c.vars) clause cs all in
    clause_clean parse c clause (map clause_entry cs ++ rest) (ap (span_fits (said_span clause.times)) at ∙ timed_fits clause.times h.times)
    (fault_none c.vars (parse (text_of_words clause.value)) (parse (guard_text clause.guard)) (said_span clause.times) (value_fine parse c.vars clause.value is h.value) (guard_fine parse c.vars clause.guard is h.guard) (early clause.times))
    ∙ quints_clean parse c cs rest is at (All-tail (IsQuintSaid c.vars) clause cs all)

binds_clean : (parse : Parse) (c : Context) (cs : List SaidClause) (rest : List Entry) → IsParse parse → c.place ≡ position.Edge → All (IsBindSaid c.vars) cs → fault_from parse c (map clause_entry cs ++ rest) ≡ fault_from parse c rest
binds_clean parse c [] rest is at all = refl
binds_clean parse c (clause ∷ cs) rest is at all =
    let h = All-head (IsBindSaid c.vars) clause cs all in
    clause_clean parse c clause (map clause_entry cs ++ rest) (ap (span_fits (said_span clause.times)) at ∙ bare_fits clause.times h.times)
    (fault_none c.vars (parse (text_of_words clause.value)) (parse (guard_text clause.guard)) (said_span clause.times) (value_fine parse c.vars clause.value is h.value) (guard_fine parse c.vars clause.guard is h.guard) (early clause.times))
    ∙ binds_clean parse c cs rest is at (All-tail (IsBindSaid c.vars) clause cs all)

if_may : (b : Bool) (found : Option LineFault) → b ≡ true → found ≡ None → (if b then found else Some Bad) ≡ None
if_may true found e n = n
if_may false found e n = absurd (cc e)

not_late : (times : Option SaidTimes) → span_fault (said_span times) ≡ None
not_late None = refl
not_late (Some times) = refl

-- weakenings whose times fit the position
abbrev WeaksFit : Position → List SaidWeak → Type 0
WeaksFit at ws = All (λ w. span_fits (said_span w.times) at ≡ true) ws

weaks_clean : (parse : Parse) (c : Context) (ws : List SaidWeak) (rest : List Entry) →
    WeaksFit c.place ws →
    fault_from parse c (map weak_entry ws ++ rest) ≡ fault_from parse c rest
weaks_clean parse c [] rest all = refl
weaks_clean parse c (w ∷ ws) rest all =
    let fits = All-head (λ w. span_fits (said_span w.times) c.place ≡ true) w ws all in
    ap (λ f. fault_or w.line f (fault_from parse c (map weak_entry ws ++ rest)))
    (if_may (span_fits (said_span w.times) c.place) (span_fault (said_span w.times)) fits
    (not_late w.times))
    ∙ weaks_clean parse c ws rest
    (All-tail (λ w. span_fits (said_span w.times) c.place ≡ true) w ws all)

timed_fit : (ws : List SaidWeak) → All (λ w. IsTimed w.times) ws → WeaksFit position.Assertion ws
timed_fit ws all = λ k d h. timed_fits (get_or ws k d).times (all k d h)

bare_fit : (ws : List SaidWeak) → All (λ w. w.times ≡ None) ws → WeaksFit position.Edge ws
bare_fit ws all = λ k d h. bare_fits (get_or ws k d).times (all k d h)

-- vertices only grow
key_grows : (b : Bool) (vertices : List (List ℕ)) (x : List ℕ) → length vertices ≤ length (if b then vertices else vertices ++ x ∷ [])
key_grows true vertices x = omega arith
key_grows false vertices x = let n = length-append vertices (x ∷ []) in omega (arith, n)

all_grow : (vertices xs : List (List ℕ)) → length vertices ≤ length (insert_all bytes_eq vertices xs)
all_grow vertices [] = omega arith
all_grow vertices (x ∷ xs) =
    let one = key_grows (list_any (bytes_eq x) vertices) vertices x in
    let more = all_grow (insert_key bytes_eq vertices x) xs in
    omega (arith, one, more)

graph_fine : (vertices : List (List ℕ)) (edges : ℕ) → length vertices ≤ 1000 → edges ≤ 10000 → graph_fault vertices edges ≡ None
graph_fine vertices edges v e = rw (le_true (length vertices) 1000 v) (rw (le_true edges 10000 e) refl)

edges_clean : (parse : Parse) (at : Position) (vars names vertices : List (List ℕ)) (edges : ℕ) (es : List SaidEdge) (rest : List Entry) → IsParse parse → holds_edges at ≡ true → length (insert_all bytes_eq vertices (flat_map ends_of es)) ≤ 1000 → edges + length es ≤ 10000 → All (IsEdgeSaid vars) es → ((next : Position) (vs : List (List ℕ)) (k : ℕ) → holds_edges next ≡ true → fault_from parse (context next vars names vs k) rest ≡ None) → fault_from parse (context at vars names vertices edges) (flat_map edge_entries es ++ rest) ≡ None
edges_clean parse at vars names vertices edges [] rest is holds few most all later = later at vertices edges holds
edges_clean parse at vars names vertices edges (e ∷ es) rest is holds few most all later =
    let more = insert_all bytes_eq vertices (ends_of e) in
    let whole : insert_all bytes_eq vertices (flat_map ends_of (e ∷ es)) ≡ insert_all bytes_eq more (flat_map ends_of es) = fold-append _ vertices (ends_of e) (flat_map ends_of es) in
    let few2 : length (insert_all bytes_eq more (flat_map ends_of es)) ≤ 1000 = subst (λ k. length k ≤ 1000) whole few in
    let grown = all_grow more (flat_map ends_of es) in
    let said = All-head (IsEdgeSaid vars) e es all in
    let now = context position.Edge vars names more (suc edges) in
    let behind = flat_map edge_entries es ++ rest in
    let fine : graph_fault more (suc edges) ≡ None = graph_fine more (suc edges) (omega (arith, few2, grown)) (omega (arith, most)) in
    ap (fault_from parse (context at vars names vertices edges)) (edge_apart e es rest)
    ∙ ap (λ f. fault_or e.line f (fault_from parse now (inside e.clauses e.weaks behind)))
    (if_may (holds_edges at) (graph_fault more (suc edges)) holds fine)
    ∙ binds_clean parse now e.clauses (map weak_entry e.weaks ++ behind) is refl said.clauses
    ∙ weaks_clean parse now e.weaks behind (bare_fit e.weaks said.weaks)
    ∙ edges_clean parse position.Edge vars names more (suc edges) es rest is refl few2
    (omega (arith, most)) (All-tail (IsEdgeSaid vars) e es all) later

-- names
first_new : (b : Bool) (name : List ℕ) (later : Option (List ℕ)) → (if b then Some name else later) ≡ None → (b ≡ false) × (later ≡ None)
first_new true name later e = absurd (cc e)
first_new false name later e = (refl, e)

names_fine : (names : List (List ℕ)) (name : List ℕ) → list_any (bytes_eq name) names ≡ false → length names < 256 → names_fault 256 (first_double names (name ∷ [])) (names ++ name ∷ []) ≡ None
names_fine names name new few = rw new (let n = length-append names (name ∷ []) in rw (le_true (length (names ++ name ∷ [])) 256 (omega (arith, n, few))) refl)

-- the end of a graph, and the later tasks
behind_graph : (parse : Parse) (vars names : List (List ℕ)) (line : ℕ) (ts : List SaidTask) → ((vs : List (List ℕ)) (k : ℕ) → fault_from parse (context position.Ended vars names vs k) (Later ts) ≡ None) → (next : Position) (vs : List (List ℕ)) (k : ℕ) → holds_edges next ≡ true → fault_from parse (context next vars names vs k) (entry line form.ending ∷ Later ts) ≡ None
behind_graph parse vars names line ts clean position.Graph vs k h = clean vs k
behind_graph parse vars names line ts clean position.Edge vs k h = clean vs k
behind_graph parse vars names line ts clean position.Start vs k h = absurd (cc h)
behind_graph parse vars names line ts clean position.Assertion vs k h = absurd (cc h)
behind_graph parse vars names line ts clean position.Ended vs k h = absurd (cc h)

tasks_clean : (parse : Parse) (at : Position) (vars names vertices : List (List ℕ)) (edges : ℕ) (ts : List SaidTask) → IsParse parse → All (IsSayable vars) ts → first_double names (map said_name ts) ≡ None → length names + length ts ≤ 256 → fault_from parse (context at vars names vertices edges) (Later ts) ≡ None
tasks_clean parse at vars names vertices edges [] is all new few = refl
tasks_clean parse at vars names vertices edges (ste line name reset cs ws ∷ ts) is all new few =
    let say = All-head (IsSayable vars) (ste line name reset cs ws) ts all in
    let fresh = first_new (list_any (bytes_eq name) names) name (first_double (names ++ name ∷ []) (map said_name ts)) new in
    let n = length-append names (name ∷ []) in
    let now = context position.Assertion vars (names ++ name ∷ []) vertices edges in
    let behind = entry line form.ending ∷ Later ts in
    let before = context at vars names vertices edges in
    ap (λ k. fault_from parse before (entry line (form.ste name reset) ∷ k))
    (ended_inside cs ws line ts)
    ∙ ap (λ f. fault_or line f (fault_from parse now (inside cs ws behind)))
    (names_fine names name fresh.0 (omega (arith, few)))
    ∙ quints_clean parse now cs (map weak_entry ws ++ behind) is refl say.0
    ∙ weaks_clean parse now ws behind (timed_fit ws say.1)
    ∙ tasks_clean parse position.Ended vars (names ++ name ∷ []) vertices edges ts is
    (All-tail (IsSayable vars) (ste line name reset cs ws) ts all) fresh.1 (omega (arith, n, few))
tasks_clean parse at vars names vertices edges (gste line name vertex reset es ∷ ts) is all new few =
    let say = All-head (IsSayable vars) (gste line name vertex reset es) ts all in
    let fresh = first_new (list_any (bytes_eq name) names) name (first_double (names ++ name ∷ []) (map said_name ts)) new in
    let n = length-append names (name ∷ []) in
    let behind = entry line form.ending ∷ Later ts in
    ap (λ k. fault_from parse (context at vars names vertices edges) (entry line (form.gste name vertex reset) ∷ k)) (ended (flat_map edge_entries es) line ts)
    ∙ ap (λ f. fault_or line f (fault_from parse (context position.Graph vars (names ++ name ∷ []) (vertex ∷ []) 0) (flat_map edge_entries es ++ behind))) (names_fine names name fresh.0 (omega (arith, few)))
    ∙ edges_clean parse position.Graph vars (names ++ name ∷ []) (vertex ∷ []) 0 es behind is refl say.0 (omega (arith, say.1)) say.2
    (behind_graph parse vars (names ++ name ∷ []) line ts (λ vs k. tasks_clean parse position.Ended vars (names ++ name ∷ []) vs k ts is (All-tail (IsSayable vars) (gste line name vertex reset es) ts all) fresh.1 (omega (arith, n, few))))

once_by : (names : List (List ℕ)) (found : Option (List ℕ)) → first_double [] names ≡ found → ((name : List ℕ) → IsFirstDouble [] names name → ⊥) → first_double [] names ≡ None
once_by names None e once = e
once_by names (Some name) e once = absurd (once name (double_found [] names name e))

vars_fine : (vars : List (List ℕ)) → first_double [] vars ≡ None → length vars ≤ most_variables → names_fault most_variables (first_double [] vars) vars ≡ None
vars_fine vars new few = rw new (rw (le_true (length vars) most_variables few) refl)

all_clean : (parse : Parse) (vars : List (List ℕ)) (ts : List SaidTask) → IsParse parse → AreSayable vars ts → fault_from parse (context_of []) (vars_entries vars ++ Later ts) ≡ None
all_clean parse [] ts is say = tasks_clean parse position.Start [] [] [] 0 ts is say.each (once_by (map said_name ts) (first_double [] (map said_name ts)) refl say.names_once) (let n = say.few_tasks in omega (arith, n))
all_clean parse (v ∷ vs) ts is say =
    ap (λ f. fault_or 1 f (fault_from parse (context position.Start (v ∷ vs) [] [] 0) (Later ts))) (vars_fine (v ∷ vs) (once_by (v ∷ vs) (first_double [] (v ∷ vs)) refl say.vars_once) say.few_vars)
    ∙ tasks_clean parse position.Start (v ∷ vs) [] [] 0 ts is say.each (once_by (map said_name ts) (first_double [] (map said_name ts)) refl say.names_once) (let n = say.few_tasks in omega (arith, n))

pub written_is_read : WrittenIsRead
written_is_read = record {
  sound = λ parse vars ts is say. ap (first_task_fault parse []) (all_spelled vars ts say) ∙ same_fault parse [] (vars_entries vars ++ Later ts) ∙ all_clean parse vars ts is say;
  vars = λ vars ts say. ap (vars_with []) (all_spelled vars ts say) ∙ vars_read vars ts;
  same = λ parse vars ts say. ap (tasks_of parse []) (all_spelled vars ts say) ∙ all_read parse vars ts;
}
