-- The edges of graphs that are read lie between their vertices, and have their variables declared.
use Rattle.std.proofs.Common.{◌≡◌, ℕ, ◌≤◌, ◌<◌, List, [], ◌∷◌, ◌++◌, length, map, Bool, true, false, None, Some, refl, ap, sym, ◌∙◌, subst, arith, lt-ltb}
use Rattle.std.specs.Prelude.{◌&&◌, ◌||◌, All, IsTrue, bytes_eq, if◌then◌else◌, nat_lt, unwrap_or}
use Rattle.std.specs.List.{list_all, list_any, position_or_len}
use Rattle.std.proofs.lemmas.List.Folds.{Any-from_list_any}
use Rattle.std.proofs.lemmas.List.Sums.{fails_before_first}
use Rattle.std.proofs.Math.Decide.{dec_lt}
use Rattle.std.proofs.lemmas.Bool.{and_from, and_parts}
use Rattle.std.proofs.lemmas.List.{length-append}
use Rattle.std.proofs.lemmas.List.Elements.{All-cons}
use Rattle.std.proofs.lemmas.Slice.Eq.{bytes_eq-Decides}
use Rattle.bool_expr.specs.Tree.{tree_of}
use Rattle.assert_syntax.specs.Forms.{Entry, Form}
use Rattle.assert_syntax.specs.Forms as form
use Rattle.assert_syntax.specs.Parses.{Parse}
use Rattle.assert_syntax.specs.Places.{Context, context_of, first_task_fault, form_fault, line_fault, may_stand_at, vars_behind, vertices_behind}
use Rattle.assert_syntax.specs.Spelled as said
use Rattle.assert_syntax.specs.declared.form.LineFault.TheVariants.{Bad}
use Rattle.assert_syntax.specs.declared.form.Side.{Side}
use Rattle.assert_syntax.specs.declared.form.Side.TheVariants.{Antecedent, Consequent}
use Rattle.assert_syntax.specs.declared.tasks.RawBind.{RawBind}
use Rattle.assert_syntax.specs.declared.tasks.RawEdge.{RawEdge}
use Rattle.ste_model.specs.Expressions.{reads}
use Rattle.ste_model.specs.GraphNeed.{BindsReadBelow}
use Rattle.ste_model.specs.Trees as bound
use Rattle.ste_model.specs.declared.task.Bind.{Bind}
use Rattle.ste_model.specs.declared.task.Edge.{Edge}
use Rattle.task_binding.specs.Bound.{bind_bound, edge_bound}
use Rattle.ste_program.proofs.Declared.{clause_reads, else_none, no_fault_or, reads_tree, tree_read}

-- ---- the variables of bindings

-- the expressions of a binding that is spelled read variables below this number
abbrev pub bind_reads : ℕ → said.RawBindTree → Bool
bind_reads vars bind = reads_tree vars bind.guard && reads_tree vars bind.value

with_clause : (vars : ℕ) (b : Bool) (bind : said.RawBindTree) (later : List said.RawBindTree) → bind_reads vars bind ≡ true → list_all (bind_reads vars) later ≡ true → list_all (bind_reads vars) (if b then bind ∷ later else later) ≡ true
with_clause vars true bind later h all = and_from (bind_reads vars bind) (list_all (bind_reads vars) later) h all
with_clause vars false bind later h all = all

with_line : (parse : Parse) (side : Side) (context : Context) (vars line : ℕ) (form : Form) (later : List said.RawBindTree) → length context.vars ≤ vars → line_fault parse context form ≡ None → list_all (bind_reads vars) later ≡ true →
    list_all (bind_reads vars) (said.binds_with parse side context.vars line form later) ≡ true
with_line parse side context vars line (form.clause clause) later l e all =
    let fine = else_none (may_stand_at (form.clause clause) context.place) (form_fault parse context (form.clause clause)) Bad e in
    with_clause vars (said.is_side side clause.side) (said.bind_said parse context.vars line clause) later
    (clause_reads context.vars vars (parse clause.value) (parse clause.guard) clause.span l fine) all
with_line parse side context vars line (form.vars names) later l e all = all
with_line parse side context vars line (form.ste name reset) later l e all = refl
with_line parse side context vars line (form.gste name vertex reset) later l e all = refl
with_line parse side context vars line (form.edge from to) later l e all = refl
with_line parse side context vars line (form.weak node times) later l e all = all
with_line parse side context vars line form.ending later l e all = all
with_line parse side context vars line form.wrong later l e all = all

pub binds_read : (parse : Parse) (side : Side) (vars : ℕ) (earlier lines : List Entry) → first_task_fault parse earlier lines ≡ None → ((names : List (List ℕ)) (rest : List Entry) → length names ≤ length (said.vars_with names rest)) →
    length (said.vars_with (context_of earlier).vars lines) ≤ vars → list_all (bind_reads vars) (said.binds_of parse side (context_of earlier).vars lines) ≡ true
binds_read parse side vars earlier [] e grow l = refl
binds_read parse side vars earlier (line ∷ lines) e grow l =
    let both = no_fault_or line.line (line_fault parse (context_of earlier) line.form) (first_task_fault parse (line ∷ earlier) lines) e in
    let grown = grow (context_of earlier).vars (line ∷ lines) in
    with_line parse side (context_of earlier) vars line.line line.form (said.binds_of parse side (vars_behind line.form (context_of earlier).vars) lines) (omega (arith, grown, l)) both.0
    (binds_read parse side vars (line ∷ earlier) lines both.1 grow l)

-- ---- the vertices

-- the words with one more, where it is not among them
abbrev with_word : List (List ℕ) → List ℕ → List (List ℕ)
with_word keys word = if list_any (bytes_eq word) keys then keys else keys ++ word ∷ []

-- a list with one more word is no shorter, and a word that is in it stays
inserted_long : (keys : List (List ℕ)) (word : List ℕ) → length keys ≤ length (with_word keys word)
inserted_long keys word = by (list_any (bytes_eq word) keys)
  where
    by : (b : Bool) → length keys ≤ length (if b then keys else keys ++ word ∷ [])
    by true = omega arith
    by false = let long = length-append keys (word ∷ []) in omega (arith, long)

any_before : (p : List ℕ → Bool) (xs ys : List (List ℕ)) → list_any p xs ≡ true → list_any p (xs ++ ys) ≡ true
any_before p [] ys e = absurd (cc e)
any_before p (x ∷ xs) ys e = by (p x) refl e (any_before p xs ys)
  where
    by : (b : Bool) → p x ≡ b → (b || list_any p xs) ≡ true → (list_any p xs ≡ true → list_any p (xs ++ ys) ≡ true) → (p x || list_any p (xs ++ ys)) ≡ true
    by true is h later = ap (λ c. c || list_any p (xs ++ ys)) is
    by false is h later = ap (λ c. c || list_any p (xs ++ ys)) is ∙ later h

any_last : (p : List ℕ → Bool) (xs : List (List ℕ)) (x : List ℕ) → p x ≡ true → list_any p (xs ++ x ∷ []) ≡ true
any_last p [] x e = ap (λ c. c || false) e
any_last p (y ∷ xs) x e = by (p y) (any_last p xs x e)
  where
    by : (b : Bool) → list_any p (xs ++ x ∷ []) ≡ true → (b || list_any p (xs ++ x ∷ [])) ≡ true
    by true later = refl
    by false later = later

same_word : (word : List ℕ) → bytes_eq word word ≡ true
same_word word = (bytes_eq-Decides word word).1 refl

inserted_there : (keys : List (List ℕ)) (word : List ℕ) → list_any (bytes_eq word) (with_word keys word) ≡ true
inserted_there keys word = by (list_any (bytes_eq word) keys) refl
  where
    by : (b : Bool) → list_any (bytes_eq word) keys ≡ b → list_any (bytes_eq word) (if b then keys else keys ++ word ∷ []) ≡ true
    by true is = is
    by false is = any_last (bytes_eq word) keys word (same_word word)

inserted_stays : (keys : List (List ℕ)) (word other : List ℕ) → list_any (bytes_eq other) keys ≡ true → list_any (bytes_eq other) (with_word keys word) ≡ true
inserted_stays keys word other there = by (list_any (bytes_eq word) keys)
  where
    by : (b : Bool) → list_any (bytes_eq other) (if b then keys else keys ++ word ∷ []) ≡ true
    by true = there
    by false = any_before (bytes_eq other) keys (word ∷ []) there

-- a word that is there has a number
number_within : (vertices : List (List ℕ)) (word : List ℕ) → list_any (bytes_eq word) vertices ≡ true → said.vertex_number vertices word < length vertices
number_within vertices word there =
    let any = Any-from_list_any (bytes_eq word) vertices there in
    let place = position_or_len (bytes_eq word) vertices in
    let low : place < length vertices = elim (dec_lt place (length vertices)) [
      | yes l ↦ l
      | no f ↦
          let early : any.0 < place = (let l = any.2 in omega (arith, f, l)) in
          let fails = fails_before_first (bytes_eq word) vertices any.0 any.1 early in
          let finds : bytes_eq word any.1 ≡ true = any.4 in
          let clash : false ≡ true = sym fails ∙ ap (bytes_eq word) any.3 ∙ finds in
          absurd (cc clash)
    ] in
    let is : said.vertex_number vertices word ≡ place = ap (λ (b : Bool). unwrap_or (if b then Some place else None) (length vertices)) (lt-ltb place (length vertices) low) in
    omega (arith, is, low)

-- the vertices behind a line are no fewer
behind_no_fewer : (form : Form) (vertices : List (List ℕ)) (grown : List (List ℕ)) → length (vertices_behind form vertices) ≤ length grown → length vertices ≤ length (said.vertices_with form vertices grown)
behind_no_fewer (form.ste name reset) vertices grown l = omega arith
behind_no_fewer (form.gste name vertex reset) vertices grown l = omega arith
behind_no_fewer (form.edge from to) vertices grown l =
    let one = inserted_long vertices from in
    let two = inserted_long (with_word vertices from) to in
    omega (arith, one, two, l)
behind_no_fewer (form.vars names) vertices grown l = l
behind_no_fewer (form.clause clause) vertices grown l = l
behind_no_fewer (form.weak node times) vertices grown l = l
behind_no_fewer form.ending vertices grown l = l
behind_no_fewer form.wrong vertices grown l = l

pub vertices_grow : (vertices : List (List ℕ)) (lines : List Entry) → length vertices ≤ length (said.vertices_of vertices lines)
vertices_grow vertices [] = omega arith
vertices_grow vertices (line ∷ lines) =
    behind_no_fewer line.form vertices (said.vertices_of (vertices_behind line.form vertices) lines) (vertices_grow (vertices_behind line.form vertices) lines)

-- ---- the edges

-- an edge that is spelled lies between two of so many vertices, and its bindings read variables below this number
abbrev pub edge_fits : ℕ → ℕ → said.RawEdgeTree → Bool
edge_fits vars vertices edge =
    nat_lt edge.from vertices && (nat_lt edge.to vertices && (list_all (bind_reads vars) edge.ant && list_all (bind_reads vars) edge.con))

new_edge : (parse : Parse) (names vertices : List (List ℕ)) (vars line : ℕ) (from to : List ℕ) (lines : List Entry) (count : ℕ) → ((side : Side) → list_all (bind_reads vars) (said.binds_of parse side names lines) ≡ true) →
    length (vertices_behind (form.edge from to) vertices) ≤ count → edge_fits vars count (said.edge_said parse names (vertices_behind (form.edge from to) vertices) line from to lines) ≡ true
new_edge parse names vertices vars line from to lines count binds l =
    let all = vertices_behind (form.edge from to) vertices in
    let one : said.vertex_number all from < length all = number_within all from (inserted_stays (with_word vertices from) to from (inserted_there vertices from)) in
    let two : said.vertex_number all to < length all = number_within all to (inserted_there (with_word vertices from) to) in
    let ant = said.binds_of parse Antecedent names lines in
    let con = said.binds_of parse Consequent names lines in
    and_from (nat_lt (said.vertex_number all from) count) (nat_lt (said.vertex_number all to) count && (list_all (bind_reads vars) ant && list_all (bind_reads vars) con)) (lt-ltb (said.vertex_number all from) count (omega (arith, one, l)))
    (and_from (nat_lt (said.vertex_number all to) count) (list_all (bind_reads vars) ant && list_all (bind_reads vars) con) (lt-ltb (said.vertex_number all to) count (omega (arith, two, l)))
    (and_from (list_all (bind_reads vars) ant) (list_all (bind_reads vars) con) (binds Antecedent) (binds Consequent)))

with_edge : (parse : Parse) (names vertices : List (List ℕ)) (vars line : ℕ) (form : Form) (lines : List Entry) (later : List said.RawEdgeTree) (grown : List (List ℕ)) → ((side : Side) → list_all (bind_reads vars) (said.binds_of parse side (vars_behind form names) lines) ≡ true) →
    length (vertices_behind form vertices) ≤ length grown → list_all (edge_fits vars (length grown)) later ≡ true →
    list_all (edge_fits vars (length (said.vertices_with form vertices grown))) (said.edges_with parse names vertices line form lines later) ≡ true
with_edge parse names vertices vars line (form.edge from to) lines later grown binds l all =
    and_from (edge_fits vars (length grown) (said.edge_said parse names (vertices_behind (form.edge from to) vertices) line from to lines)) (list_all (edge_fits vars (length grown)) later)
    (new_edge parse names vertices vars line from to lines (length grown) binds l) all
with_edge parse names vertices vars line (form.ste name reset) lines later grown binds l all = refl
with_edge parse names vertices vars line (form.gste name vertex reset) lines later grown binds l all = refl
with_edge parse names vertices vars line (form.vars others) lines later grown binds l all = all
with_edge parse names vertices vars line (form.clause clause) lines later grown binds l all = all
with_edge parse names vertices vars line (form.weak node times) lines later grown binds l all = all
with_edge parse names vertices vars line form.ending lines later grown binds l all = all
with_edge parse names vertices vars line form.wrong lines later grown binds l all = all

pub edges_fit : (parse : Parse) (vars : ℕ) (earlier lines : List Entry) → first_task_fault parse earlier lines ≡ None → ((names : List (List ℕ)) (rest : List Entry) → length names ≤ length (said.vars_with names rest)) →
    length (said.vars_with (context_of earlier).vars lines) ≤ vars →
    list_all (edge_fits vars (length (said.vertices_of (context_of earlier).vertices lines))) (said.edges_of parse (context_of earlier).vars (context_of earlier).vertices lines) ≡ true
edges_fit parse vars earlier [] e grow l = refl
edges_fit parse vars earlier (line ∷ lines) e grow l =
    let both = no_fault_or line.line (line_fault parse (context_of earlier) line.form) (first_task_fault parse (line ∷ earlier) lines) e in
    let vertices = (context_of earlier).vertices in
    let behind = vertices_behind line.form vertices in
    with_edge parse (context_of earlier).vars vertices vars line.line line.form lines (said.edges_of parse (vars_behind line.form (context_of earlier).vars) behind lines) (said.vertices_of behind lines)
    (λ side. binds_read parse side vars (line ∷ earlier) lines both.1 grow l) (vertices_grow behind lines) (edges_fit parse vars (line ∷ earlier) lines both.1 grow l)

-- ---- bound graphs

bound_binds : (vars : ℕ) (net : List ℕ → ℕ) (raws : List RawBind) (binds : List Bind) → list_all (bind_reads vars) (map said.raw_bind_tree raws) ≡ true → map bound.bind_tree binds ≡ map (bind_bound net) raws → BindsReadBelow vars binds
bound_binds vars net [] [] all e = λ k d l. absurd (omega (arith, l))
bound_binds vars net [] (q ∷ binds) all e = absurd (cc e)
bound_binds vars net (r ∷ raws) [] all e = absurd (cc e)
bound_binds vars net (r ∷ raws) (q ∷ binds) all e =
    let first : bound.bind_tree q ≡ bind_bound net r = cc e in
    let rest : map bound.bind_tree binds ≡ map (bind_bound net) raws = cc e in
    let both = and_parts (bind_reads vars (said.raw_bind_tree r)) (list_all (bind_reads vars) (map said.raw_bind_tree raws)) all in
    let sides = and_parts (reads_tree vars (tree_of r.guard)) (reads_tree vars (tree_of r.value)) both.0 in
    let guard : reads vars q.guard ≡ true = tree_read vars q.guard ∙ ap (λ (t : bound.BindTree). reads_tree vars t.guard) first ∙ sides.0 in
    let value : reads vars q.value ≡ true = tree_read vars q.value ∙ ap (λ (t : bound.BindTree). reads_tree vars t.value) first ∙ sides.1 in
    All-cons (λ (bind : Bind). IsTrue (reads vars bind.guard && reads vars bind.value)) q binds
    (and_from (reads vars q.guard) (reads vars q.value) guard value)
    (bound_binds vars net raws binds both.1 rest)

-- the edge lies between two of so many vertices, and its bindings read variables below this number
pub record IsEdgeDeclared (vars vertices : ℕ) (edge : Edge) : Type 0 where
  pub from : edge.from < vertices
  pub to : edge.to < vertices
  pub ant : BindsReadBelow vars edge.ant
  pub con : BindsReadBelow vars edge.con

below : (n m : ℕ) → nat_lt n m ≡ true → n < m
below n m e = grind (arith, e)

pub bound_edges : (vars vertices : ℕ) (net : List ℕ → ℕ) (raws : List RawEdge) (edges : List Edge) → list_all (edge_fits vars vertices) (map said.raw_edge_tree raws) ≡ true → map bound.edge_tree edges ≡ map (edge_bound net) raws → All (IsEdgeDeclared vars vertices) edges
bound_edges vars vertices net [] [] all e = λ k d l. absurd (omega (arith, l))
bound_edges vars vertices net [] (q ∷ edges) all e = absurd (cc e)
bound_edges vars vertices net (r ∷ raws) [] all e = absurd (cc e)
bound_edges vars vertices net (r ∷ raws) (q ∷ edges) all e =
    let first : bound.edge_tree q ≡ edge_bound net r = cc e in
    let rest : map bound.edge_tree edges ≡ map (edge_bound net) raws = cc e in
    let ant = list_all (bind_reads vars) (map said.raw_bind_tree r.ant) in
    let con = list_all (bind_reads vars) (map said.raw_bind_tree r.con) in
    let both = and_parts (edge_fits vars vertices (said.raw_edge_tree r)) (list_all (edge_fits vars vertices) (map said.raw_edge_tree raws)) all in
    let one = and_parts (nat_lt r.from vertices) (nat_lt r.to vertices && (ant && con)) both.0 in
    let two = and_parts (nat_lt r.to vertices) (ant && con) one.1 in
    let sides = and_parts ant con two.1 in
    All-cons (IsEdgeDeclared vars vertices) q edges
    (record {
      from = subst (λ (n : ℕ). n < vertices) (sym (ap (λ (t : bound.EdgeTree). t.from) first)) (below r.from vertices one.0);
      to = subst (λ (n : ℕ). n < vertices) (sym (ap (λ (t : bound.EdgeTree). t.to) first)) (below r.to vertices two.0);
      ant = bound_binds vars net r.ant q.ant sides.0 (ap (λ (t : bound.EdgeTree). t.ant) first);
      con = bound_binds vars net r.con q.con sides.1 (ap (λ (t : bound.EdgeTree). t.con) first);
    })
    (bound_edges vars vertices net raws edges both.1 rest)
