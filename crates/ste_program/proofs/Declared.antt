-- The expressions and quintuples that are read have their variables declared.
use Rattle.std.proofs.Common.{◌≡◌, ℕ, ◌≤◌, ◌<◌, List, [], ◌∷◌, ◌++◌, length, map, Bool, true, false, Option, None, Some, refl, ap, sym, ◌∙◌, subst, arith, lt-ltb}
use Rattle.std.specs.Prelude.{◌&&◌, ◌||◌, IsTrue, if◌then◌else◌, is_some, nat_lt, unwrap_or}
use Rattle.std.specs.List.{list_all}
use Rattle.std.proofs.lemmas.Bool.{and_from, and_parts}
use Rattle.std.proofs.lemmas.List.{length-append}
use Rattle.std.proofs.lemmas.List.Elements.{All-cons}
use Rattle.bool_expr.specs.declared.expr.Expr.{Expr, map-Expr}
use Rattle.bool_expr.specs.declared.expr.Expr.TheOpen as layer
use Rattle.bool_expr.specs.declared.expr.Expr.TheFolds.{fold-roll-Expr, ind-Expr}
use Rattle.bool_expr.specs.declared.token.Sign.{Sign}
use Rattle.bool_expr.specs.Grammar.{Level, Phrase, Expression, chained, literal, named, negated, bracketed, single, joined, parts, spelling, tree}
use Rattle.bool_expr.specs.Read.{first_unknown, number_in, place_by}
use Rattle.bool_expr.specs.Tokens.{Token, closing, sign}
use Rattle.bool_expr.specs.Tree.{Tree, Trees, all_of, bit, tree_of_chain, more, none, opposite, place, tree_of, tree_step, under}
use Rattle.bool_expr.proofs.Places.{within_names}
use Rattle.assert_syntax.specs.Forms.{Entry, Form}
use Rattle.assert_syntax.specs.Forms as form
use Rattle.assert_syntax.specs.Parses.{Parse, is_deep, tree_over}
use Rattle.assert_syntax.specs.Places.{Context, clause_fault, context_of, fault_or, first_task_fault, form_fault, line_fault, may_stand_at, unknown_fault, vars_behind}
use Rattle.assert_syntax.specs.Spelled as said
use Rattle.assert_syntax.specs.declared.form.LineFault.{LineFault}
use Rattle.assert_syntax.specs.declared.form.LineFault.TheVariants.{Bad, Deep}
use Rattle.assert_syntax.specs.declared.form.Side.{Side}
use Rattle.assert_syntax.specs.declared.form.Span.{Span}
use Rattle.assert_syntax.specs.declared.tasks.RawQuint.{RawQuint}
use Rattle.assert_syntax.proofs.Named.{or_else, unknown_both}
use Rattle.ste_model.specs.Expressions.{reads, reads_step}
use Rattle.ste_model.specs.Need.{ReadBelow}
use Rattle.ste_model.specs.Trees as bound
use Rattle.ste_model.specs.declared.task.Quint.{Quint}
use Rattle.task_binding.specs.Bound.{quint_bound}

-- each variable of a tree is below this number
abbrev mutual
  pub reads_tree : ℕ → Tree → Bool
  reads_tree vars (bit b) = true
  reads_tree vars (place n) = nat_lt n vars
  reads_tree vars (opposite part) = reads_tree vars part
  reads_tree vars (under s several) = reads_trees vars several

  reads_trees : ℕ → Trees → Bool
  reads_trees vars none = true
  reads_trees vars (more part rest) = reads_tree vars part && reads_trees vars rest

-- an expression reads what its tree reads
abbrev pub IsTreeRead : ℕ → Expr → Type 0
IsTreeRead vars expr = reads vars expr ≡ reads_tree vars (tree_of expr)

each_read : (vars : ℕ) (several : List ((e : Expr) × IsTreeRead vars e)) → list_all (λ b. b) (map (reads vars) (map (λ p. p.0) several)) ≡ reads_trees vars (all_of (map tree_of (map (λ p. p.0) several)))
each_read vars [] = refl
each_read vars (part ∷ rest) =
    ap (λ b. b && list_all (λ c. c) (map (reads vars) (map (λ p. p.0) rest))) part.1
    ∙ ap (λ b. reads_tree vars (tree_of part.0) && b) (each_read vars rest)

layer_read : (vars : ℕ) (one : layer.Expr-F ((e : Expr) × IsTreeRead vars e)) → reads_step vars (map-Expr Expr Bool (reads vars) (map-Expr ((e : Expr) × IsTreeRead vars e) Expr (λ p. p.0) one)) ≡ reads_tree vars (tree_step (map-Expr Expr Tree tree_of (map-Expr ((e : Expr) × IsTreeRead vars e) Expr (λ p. p.0) one)))
layer_read vars (layer.Const b) = refl
layer_read vars (layer.Var variable) = refl
layer_read vars (layer.Not part) = part.value.1
layer_read vars (layer.All several) = each_read vars several.items
layer_read vars (layer.Odd several) = each_read vars several.items
layer_read vars (layer.Any several) = each_read vars several.items

pub tree_read : (vars : ℕ) (expr : Expr) → IsTreeRead vars expr
tree_read vars = ind-Expr (IsTreeRead vars) (λ x y is.
    let here = subst (λ (z : layer.Expr-F Expr). reads_step vars (map-Expr Expr Bool (reads vars) z) ≡ reads_tree vars (tree_step (map-Expr Expr Tree tree_of z))) is (layer_read vars y) in
    fold-roll-Expr Bool (reads_step vars) x ∙ here ∙ ap (reads_tree vars) (sym (fold-roll-Expr Tree tree_step x)))

-- each number of a word is below this one
abbrev IsWithin : (List ℕ → Option ℕ) → ℕ → Type 0
IsWithin number vars = (word : List ℕ) (n : ℕ) → number word ≡ Some n → n < vars

or_none : (one other : Option (List ℕ)) → or_else one other ≡ None → (one ≡ None) × (other ≡ None)
or_none None other e = (refl, e)
or_none (Some word) other e = absurd (cc e)

both_known : (number : List ℕ → Option ℕ) (one other : List Token) → first_unknown number (one ++ other) ≡ None → (first_unknown number one ≡ None) × (first_unknown number other ≡ None)
both_known number one other e = or_none (first_unknown number one) (first_unknown number other) (sym (unknown_both number one other) ∙ e)

named_below : (vars : ℕ) (word : List ℕ) (number : List ℕ → Option ℕ) (found : Option ℕ) → number word ≡ found → IsWithin number vars → (if is_some found then None else Some word) ≡ None → nat_lt (place_by number word) vars ≡ true
named_below vars word number None is within e = absurd (cc e)
named_below vars word number (Some n) is within e =
    lt-ltb (place_by number word) vars (subst (λ (k : Option ℕ). unwrap_or k 0 < vars) (sym is) (within word n is))

-- the tree of a chain reads what its parts read
chain_reads : (vars : ℕ) (s : Sign) (part : Tree) (rest : List Tree) → reads_tree vars part ≡ true → reads_trees vars (all_of rest) ≡ true → reads_tree vars (tree_of_chain s (part ∷ rest)) ≡ true
chain_reads vars s part [] h all = h
chain_reads vars s part (next ∷ rest) h all = and_from (reads_tree vars part) (reads_trees vars (all_of (next ∷ rest))) h all

-- a phrase without unknown variables reads below the numbers' bound
mutual
  phrase_reads : {level : Level} (number : List ℕ → Option ℕ) (vars : ℕ) (d : Phrase level) → IsWithin number vars → first_unknown number (spelling d) ≡ None → reads_tree vars (tree (place_by number) d) ≡ true
  phrase_reads number vars (literal b) within e = refl
  phrase_reads number vars (named word) within e = named_below vars word number (number word) refl within e
  phrase_reads number vars (negated part) within e = phrase_reads number vars part within e
  phrase_reads number vars (bracketed part) within e = phrase_reads number vars part within (both_known number (spelling part) (closing ∷ []) e).0
  phrase_reads number vars (single s part) within e = phrase_reads number vars part within e
  phrase_reads number vars (joined s part rest) within e =
      let both = both_known number (spelling part) (sign s ∷ spelling rest) e in
      chain_reads vars s (tree (place_by number) part) (parts (place_by number) rest) (phrase_reads number vars part within both.0) (parts_read number vars rest within both.1)

  parts_read : {s : Sign} (number : List ℕ → Option ℕ) (vars : ℕ) (d : Phrase (chained s)) → IsWithin number vars → first_unknown number (spelling d) ≡ None → reads_trees vars (all_of (parts (place_by number) d)) ≡ true
  parts_read number vars (single s part) within e = and_from (reads_tree vars (tree (place_by number) part)) true (phrase_reads number vars part within e) refl
  parts_read number vars (joined s part rest) within e =
      let both = both_known number (spelling part) (sign s ∷ spelling rest) e in
      and_from (reads_tree vars (tree (place_by number) part)) (reads_trees vars (all_of (parts (place_by number) rest))) (phrase_reads number vars part within both.0) (parts_read number vars rest within both.1)

-- the numbers of declared variables are below any number that is no less than how many are declared
within_vars : (names : List (List ℕ)) (vars : ℕ) → length names ≤ vars → IsWithin (number_in names) vars
within_vars names vars l = λ word n e. let h = within_names 0 names word n e in omega (arith, h, l)

-- what a test that says nothing is wrong leaves
then_none : {X : Type 0} (b : Bool) (x : X) (other : Option X) → (if b then Some x else other) ≡ None → other ≡ None
then_none true x other e = absurd (cc e)
then_none false x other e = e

pub else_none : {X : Type 0} (b : Bool) (one : Option X) (x : X) → (if b then one else Some x) ≡ None → one ≡ None
else_none true one x e = e
else_none false one x e = absurd (cc e)

pub no_fault_or : (line : ℕ) (one : Option LineFault) (later : Option (ℕ × LineFault)) → fault_or line one later ≡ None → (one ≡ None) × (later ≡ None)
no_fault_or line (Some fault) later e = absurd (cc e)
no_fault_or line None later e = (refl, e)

no_unknown : (one other : Option (List ℕ)) (times : Span) → unknown_fault one other times ≡ None → (one ≡ None) × (other ≡ None)
no_unknown (Some name) other times e = absurd (cc e)
no_unknown None (Some name) times e = absurd (cc e)
no_unknown None None times e = (refl, refl)

-- the two expressions of a clause without fault
pub clause_reads : (names : List (List ℕ)) (vars : ℕ) (value guard : Option Expression) (times : Span) → length names ≤ vars → clause_fault names value guard times ≡ None →
    (reads_tree vars (tree_over names guard) && reads_tree vars (tree_over names value)) ≡ true
clause_reads names vars None guard times l e = absurd (cc e)
clause_reads names vars (Some value) None times l e = absurd (cc e)
clause_reads names vars (Some value) (Some guard) times l e =
    let flat = then_none (is_deep value || is_deep guard) Deep (unknown_fault (first_unknown (number_in names) (spelling value)) (first_unknown (number_in names) (spelling guard)) times) e in
    let both = no_unknown (first_unknown (number_in names) (spelling value)) (first_unknown (number_in names) (spelling guard)) times flat in
    let within = within_vars names vars l in
    and_from (reads_tree vars (tree (place_by (number_in names)) guard)) (reads_tree vars (tree (place_by (number_in names)) value))
    (phrase_reads (number_in names) vars guard within both.1) (phrase_reads (number_in names) vars value within both.0)

-- the same of what is spelled
abbrev pub quint_reads : ℕ → said.RawQuintTree → Bool
quint_reads vars quint = reads_tree vars quint.guard && reads_tree vars quint.value

-- the variables behind some lines are no fewer than those before them
pub behind_grows : (form : Form) (names : List (List ℕ)) → length names ≤ length (vars_behind form names)
behind_grows (form.vars others) names = let long = length-append names others in omega (arith, long)
behind_grows (form.ste name reset) names = omega arith
behind_grows (form.gste name vertex reset) names = omega arith
behind_grows (form.edge from to) names = omega arith
behind_grows (form.clause clause) names = omega arith
behind_grows (form.weak node times) names = omega arith
behind_grows form.ending names = omega arith
behind_grows form.wrong names = omega arith

pub vars_grow : (names : List (List ℕ)) (lines : List Entry) → length names ≤ length (said.vars_with names lines)
vars_grow names [] = omega arith
vars_grow names (line ∷ lines) =
    let here = behind_grows line.form names in
    let rest = vars_grow (vars_behind line.form names) lines in
    omega (arith, here, rest)

-- one more clause of a side or of the other
with_clause : (vars : ℕ) (b : Bool) (quint : said.RawQuintTree) (later : List said.RawQuintTree) → quint_reads vars quint ≡ true → list_all (quint_reads vars) later ≡ true → list_all (quint_reads vars) (if b then quint ∷ later else later) ≡ true
with_clause vars true quint later h all = and_from (quint_reads vars quint) (list_all (quint_reads vars) later) h all
with_clause vars false quint later h all = all

with_line : (parse : Parse) (side : Side) (context : Context) (vars line : ℕ) (form : Form) (later : List said.RawQuintTree) → length context.vars ≤ vars → line_fault parse context form ≡ None → list_all (quint_reads vars) later ≡ true →
    list_all (quint_reads vars) (said.quints_with parse side context.vars line form later) ≡ true
with_line parse side context vars line (form.clause clause) later l e all =
    let fine = else_none (may_stand_at (form.clause clause) context.place) (form_fault parse context (form.clause clause)) Bad e in
    with_clause vars (said.is_side side clause.side) (said.quint_said parse context.vars line clause) later
    (clause_reads context.vars vars (parse clause.value) (parse clause.guard) clause.span l fine) all
with_line parse side context vars line (form.vars names) later l e all = all
with_line parse side context vars line (form.ste name reset) later l e all = refl
with_line parse side context vars line (form.gste name vertex reset) later l e all = refl
with_line parse side context vars line (form.edge from to) later l e all = all
with_line parse side context vars line (form.weak node times) later l e all = all
with_line parse side context vars line form.ending later l e all = all
with_line parse side context vars line form.wrong later l e all = all

pub quints_read : (parse : Parse) (side : Side) (vars : ℕ) (earlier lines : List Entry) → first_task_fault parse earlier lines ≡ None → length (said.vars_with (context_of earlier).vars lines) ≤ vars →
    list_all (quint_reads vars) (said.quints_of parse side (context_of earlier).vars lines) ≡ true
quints_read parse side vars earlier [] e l = refl
quints_read parse side vars earlier (line ∷ lines) e l =
    let both = no_fault_or line.line (line_fault parse (context_of earlier) line.form) (first_task_fault parse (line ∷ earlier) lines) e in
    let grown = vars_grow (context_of earlier).vars (line ∷ lines) in
    with_line parse side (context_of earlier) vars line.line line.form (said.quints_of parse side (vars_behind line.form (context_of earlier).vars) lines) (omega (arith, grown, l)) both.0
    (quints_read parse side vars (line ∷ earlier) lines both.1 l)

-- bound quintuples read what is spelled
pub bound_reads : (vars : ℕ) (net : List ℕ → ℕ) (raws : List RawQuint) (quints : List Quint) → list_all (quint_reads vars) (map said.raw_quint_tree raws) ≡ true → map bound.quint_tree quints ≡ map (quint_bound net) raws → ReadBelow vars quints
bound_reads vars net [] [] all e = λ k d l. absurd (omega (arith, l))
bound_reads vars net [] (q ∷ quints) all e = absurd (cc e)
bound_reads vars net (r ∷ raws) [] all e = absurd (cc e)
bound_reads vars net (r ∷ raws) (q ∷ quints) all e =
    let first : bound.quint_tree q ≡ quint_bound net r = cc e in
    let rest : map bound.quint_tree quints ≡ map (quint_bound net) raws = cc e in
    let both = and_parts (quint_reads vars (said.raw_quint_tree r)) (list_all (quint_reads vars) (map said.raw_quint_tree raws)) all in
    let sides = and_parts (reads_tree vars (tree_of r.guard)) (reads_tree vars (tree_of r.value)) both.0 in
    let guard : reads vars q.guard ≡ true = tree_read vars q.guard ∙ ap (λ (t : bound.QuintTree). reads_tree vars t.guard) first ∙ sides.0 in
    let value : reads vars q.value ≡ true = tree_read vars q.value ∙ ap (λ (t : bound.QuintTree). reads_tree vars t.value) first ∙ sides.1 in
    All-cons (λ (quint : Quint). IsTrue (reads vars quint.guard && reads vars quint.value)) q quints
    (and_from (reads vars q.guard) (reads vars q.value) guard value)
    (bound_reads vars net raws quints both.1 rest)
