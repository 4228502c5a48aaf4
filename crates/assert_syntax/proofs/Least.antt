-- The first fault, in plain terms: what is wrong with a line, kind by kind, and line by line.
use Rattle.std.proofs.Common.{ℕ, zero, suc, ◌<◌, ◌≤◌, ◌≡◌, ◌⊎◌, inl, inr, refl, sym, ap, subst, ◌∙◌, List, [], ◌∷◌, ◌++◌, length, filter, take, drop, Bool, true, false, ◌&&◌, ◌||◌, if◌then◌else◌, nat_le, nat_lt, Option, Some, None, arith, bytes_eq}
use Rattle.std.specs.Prelude.{slice_get}
use Rattle.std.specs.Option.{option_map}
use Rattle.std.specs.List.{flat_map}
use Rattle.std.proofs.Math.Nat.{eq-or-lt_of_le}
use Rattle.std.proofs.lemmas.Option.{slice_get-map}
use Rattle.ste_base.specs.Limits.{most_variables}
use Rattle.indexmap.specs.IndexSet.{insert_all}
use Rattle.bool_expr.specs.Grammar.{Expression, nesting, spelling}
use Rattle.bool_expr.specs.Read.{Spells, first_unknown, number_in}
use Rattle.bool_expr.specs.Tokens.{tokens_of}
use Rattle.bool_expr.proofs.Answered.{one_tree}
use Rattle.assert_syntax.specs.declared.form.LineFault.{LineFault}
use Rattle.assert_syntax.specs.declared.form.LineFault.TheVariants.{Bad, Deep, Double, Unknown, Many}
use Rattle.assert_syntax.specs.declared.form.Span.{Span}
use Rattle.assert_syntax.specs.declared.form.Span.TheVariants as span
use Rattle.assert_syntax.specs.Forms.{Clause, Entry, Form}
use Rattle.assert_syntax.specs.Forms as form
use Rattle.assert_syntax.specs.Parses.{Parse, IsParse, IsSpelled, is_deep}
use Rattle.assert_syntax.specs.Places.{Context, clause_fault, context_behind, context_of, fault_or, first_double, first_task_fault, form_fault, line_fault, may_stand_at, names_behind, names_fault, span_fault, unknown_fault, vars_behind, vertices_behind}
use Rattle.assert_syntax.specs.Rules.{FirstFaultIsLeast, GoesBefore, HasFault, HasForm, IsBad, IsDeep, IsDouble, IsFirstDouble, IsFirstFault, IsFirstUndeclared, IsGraphAt, IsLargeGraph, IsLate, IsMany, IsUnknown, SpellsDeep, SpellsNone, Stands, declared, forms_of, mentions, starts_edge}
use Rattle.assert_syntax.proofs.Faults.{fault_from, same_fault}
use Rattle.assert_syntax.proofs.Placed.{GraphTold, Told, graph_more, names_on, stands, stands_not, told_first, told_on, vars_on}
use Rattle.assert_syntax.proofs.Named.{double_found, double_none, or_else, undeclared_found, undeclared_none, unknown_both}

-- this is wrong with a line first, or nothing is
abbrev pub Decided : List Entry → ℕ → Form → Option LineFault → Type 0
Decided lines i form None = (kind : LineFault) → ¬ HasFault lines i form kind
Decided lines i form (Some kind) = HasFault lines i form kind × ((other : LineFault) → GoesBefore other kind → ¬ HasFault lines i form other)

-- nothing goes before a bad line
none_before : (other : LineFault) → GoesBefore other Bad → ⊥
none_before Bad g = g
none_before Deep g = g
none_before (Double word) g = g
none_before (Unknown word) g = g
none_before Many g = g

bad_first : (lines : List Entry) (i : ℕ) (form : Form) → IsBad lines i form → Decided lines i form (Some Bad)
bad_first lines i form bad = (bad, λ other g. absurd (none_before other g))

-- a line that names something: the kinds that it may have
record Naming (lines : List Entry) (i : ℕ) (form : Form) (most : ℕ) (known words all : List (List ℕ)) : Type 0 where
  good : ¬ IsBad lines i form
  flat : ¬ IsDeep form
  familiar : (word : List ℕ) → ¬ IsUnknown lines i form word
  to_double : (word : List ℕ) → IsFirstDouble known words word → IsDouble lines i form word
  from_double : (word : List ℕ) → IsDouble lines i form word → IsFirstDouble known words word
  to_many : most < length all → IsMany lines i form
  from_many : IsMany lines i form → most < length all

naming_before_double : (lines : List Entry) (i : ℕ) (form : Form) (most : ℕ) (known words all : List (List ℕ)) (word : List ℕ) → Naming lines i form most known words all → (other : LineFault) → GoesBefore other (Double word) → ¬ HasFault lines i form other
naming_before_double lines i form most known words all word n Bad g f = n.good f
naming_before_double lines i form most known words all word n Deep g f = n.flat f
naming_before_double lines i form most known words all word n (Double x) g f = absurd g
naming_before_double lines i form most known words all word n (Unknown x) g f = absurd g
naming_before_double lines i form most known words all word n Many g f = absurd g

naming_before_many : (lines : List Entry) (i : ℕ) (form : Form) (most : ℕ) (known words all : List (List ℕ)) → Naming lines i form most known words all → first_double known words ≡ None → (other : LineFault) → GoesBefore other Many → ¬ HasFault lines i form other
naming_before_many lines i form most known words all n none Bad g f = n.good f
naming_before_many lines i form most known words all n none Deep g f = n.flat f
naming_before_many lines i form most known words all n none (Double x) g f = double_none known words x none (n.from_double x f)
naming_before_many lines i form most known words all n none (Unknown x) g f = n.familiar x f
naming_before_many lines i form most known words all n none Many g f = absurd g

naming_none : (lines : List Entry) (i : ℕ) (form : Form) (most : ℕ) (known words all : List (List ℕ)) → Naming lines i form most known words all → first_double known words ≡ None → length all ≤ most → (kind : LineFault) → ¬ HasFault lines i form kind
naming_none lines i form most known words all n none fits Bad f = n.good f
naming_none lines i form most known words all n none fits Deep f = n.flat f
naming_none lines i form most known words all n none fits (Double x) f = double_none known words x none (n.from_double x f)
naming_none lines i form most known words all n none fits (Unknown x) f = n.familiar x f
naming_none lines i form most known words all n none fits Many f = let h = n.from_many f in absurd (omega (arith, h, fits))

naming_by : (b : Bool) (lines : List Entry) (i : ℕ) (form : Form) (most : ℕ) (known words all : List (List ℕ)) → Naming lines i form most known words all → nat_le (length all) most ≡ b → first_double known words ≡ None → Decided lines i form (if b then None else Some Many)
naming_by true lines i form most known words all n e none = naming_none lines i form most known words all n none (grind (arith, e))
naming_by false lines i form most known words all n e none = (n.to_many (grind (arith, e)), naming_before_many lines i form most known words all n none)

naming_decides : (lines : List Entry) (i : ℕ) (form : Form) (most : ℕ) (known words all : List (List ℕ)) (double : Option (List ℕ)) → Naming lines i form most known words all → first_double known words ≡ double → Decided lines i form (names_fault most double all)
naming_decides lines i form most known words all (Some word) n e = (n.to_double word (double_found known words word e), naming_before_double lines i form most known words all word n)
naming_decides lines i form most known words all None n e = naming_by (nat_le (length all) most) lines i form most known words all n refl e

-- an edge
both_small : (a b : Bool) → (a && b) ≡ true → (a ≡ true) × (b ≡ true)
both_small true b e = (refl, e)
both_small false b e = absurd (cc e)

one_large : (a b : Bool) → (a && b) ≡ false → (a ≡ false) ⊎ (b ≡ false)
one_large false b e = inl refl
one_large true b e = inr e

edge_before : (lines : List Entry) (i : ℕ) (from to : List ℕ) → Stands lines i (form.edge from to) → (other : LineFault) → GoesBefore other Many → ¬ HasFault lines i (form.edge from to) other
edge_before lines i from to s Bad g (inl f) = f s
edge_before lines i from to s Bad g (inr f) = f
edge_before lines i from to s Deep g f = f
edge_before lines i from to s (Double x) g f = f
edge_before lines i from to s (Unknown x) g f = f
edge_before lines i from to s Many g f = absurd g

edge_none : (lines : List Entry) (i : ℕ) (from to : List ℕ) → Stands lines i (form.edge from to) → (¬ IsLargeGraph lines i) → (kind : LineFault) → ¬ HasFault lines i (form.edge from to) kind
edge_none lines i from to s apart Bad (inl f) = f s
edge_none lines i from to s apart Bad (inr f) = f
edge_none lines i from to s apart Deep f = f
edge_none lines i from to s apart (Double x) f = f
edge_none lines i from to s apart (Unknown x) f = f
edge_none lines i from to s apart Many f = apart f

-- what the graph of an edge has with it
edge_told : (lines : List Entry) (i : ℕ) (c : Context) (from to : List ℕ) → Told lines i c → HasForm lines i (form.edge from to) → (start : ℕ) → IsGraphAt lines i start → GraphTold lines (suc i) start (vertices_behind (form.edge from to) c.vertices) (suc c.edges)
edge_told lines i c from to told has start g = graph_more lines i start (form.edge from to) c.vertices c.edges (let h = g.earlier in omega (arith, h)) has (λ e. absurd (cc e)) (told.graph start g)

edge_by : (b : Bool) (lines : List Entry) (i : ℕ) (c : Context) (from to : List ℕ) → Told lines i c → HasForm lines i (form.edge from to) → may_stand_at (form.edge from to) c.place ≡ true → (nat_le (length (vertices_behind (form.edge from to) c.vertices)) 1000 && nat_le (suc c.edges) 10000) ≡ b → Decided lines i (form.edge from to) (if b then None else Some Many)
edge_by true lines i c from to told has may e =
    let both = both_small (nat_le (length (vertices_behind (form.edge from to) c.vertices)) 1000) (nat_le (suc c.edges) 10000) e in
    edge_none lines i from to (stands lines i c.place (form.edge from to) told.position may) apart
  where
    apart : IsLargeGraph lines i → ⊥
    apart large =
        let t = edge_told lines i c from to told has large.start large.graph in
        let a : length (vertices_behind (form.edge from to) c.vertices) ≤ 1000 = grind (arith, (both_small (nat_le (length (vertices_behind (form.edge from to) c.vertices)) 1000) (nat_le (suc c.edges) 10000) e).0) in
        let b : suc c.edges ≤ 10000 = grind (arith, (both_small (nat_le (length (vertices_behind (form.edge from to) c.vertices)) 1000) (nat_le (suc c.edges) 10000) e).1) in
        let u = ap length t.0 in
        let v = t.1 in
        elim large.large [ inl h ↦ absurd (omega (arith, h, u, a)) | inr h ↦ absurd (omega (arith, h, v, b)) ]
edge_by false lines i c from to told has may e =
    let s = told.started may in
    let t = edge_told lines i c from to told has s.0 s.1 in
    let u = ap length t.0 in
    let v = t.1 in
    let large : (1000 < length (insert_all bytes_eq [] (flat_map mentions (drop s.0 (take (suc i) (forms_of lines)))))) ⊎ (10000 < length (filter starts_edge (drop s.0 (take (suc i) (forms_of lines))))) =
    elim (one_large (nat_le (length (vertices_behind (form.edge from to) c.vertices)) 1000) (nat_le (suc c.edges) 10000) e) [
      | inl h ↦ inl (let k : 1000 < length (vertices_behind (form.edge from to) c.vertices) = grind (arith, h) in omega (arith, k, u))
      | inr h ↦ inr (let k : 10000 < suc c.edges = grind (arith, h) in omega (arith, k, v))
    ] in
    (record { start = s.0; graph = s.1; large = large }, edge_before lines i from to (stands lines i c.place (form.edge from to) told.position may))

-- a clause
spelled_not_none : (text : List ℕ) (d : Expression) → Spells d text → ¬ SpellsNone text
spelled_not_none text d s none = none d s

flat_not_deep : (text : List ℕ) (d : Expression) → Spells d text → is_deep d ≡ false → ¬ SpellsDeep text
flat_not_deep text d s flat deep =
    let same = (one_tree text d deep.0 s deep.1).0 in
    let h : nesting d ≤ 100 = grind (arith, flat) in
    let k = deep.2 in
    absurd (omega (arith, same, h, k))

deep_is : (text : List ℕ) (d : Expression) → Spells d text → is_deep d ≡ true → SpellsDeep text
deep_is text d s e = (d, s, grind (arith, e))

one_deep : (a b : Bool) → (a || b) ≡ true → (a ≡ true) ⊎ (b ≡ true)
one_deep true b e = inl refl
one_deep false b e = inr e

none_deep : (a b : Bool) → (a || b) ≡ false → (a ≡ false) × (b ≡ false)
none_deep true b e = absurd (cc e)
none_deep false b e = (refl, e)

-- what is known of a clause whose texts spell expressions that are not nested too deep
record Plain (lines : List Entry) (i : ℕ) (clause : Clause) : Type 0 where
  good : ¬ IsBad lines i (form.clause clause)
  flat : ¬ IsDeep (form.clause clause)

plain_before_unknown : (lines : List Entry) (i : ℕ) (clause : Clause) (word : List ℕ) → Plain lines i clause → (other : LineFault) → GoesBefore other (Unknown word) → ¬ HasFault lines i (form.clause clause) other
plain_before_unknown lines i clause word p Bad g f = p.good f
plain_before_unknown lines i clause word p Deep g f = p.flat f
plain_before_unknown lines i clause word p (Double x) g f = f
plain_before_unknown lines i clause word p (Unknown x) g f = absurd g
plain_before_unknown lines i clause word p Many g f = absurd g

plain_before_many : (lines : List Entry) (i : ℕ) (clause : Clause) → Plain lines i clause → ((word : List ℕ) → ¬ IsUnknown lines i (form.clause clause) word) → (other : LineFault) → GoesBefore other Many → ¬ HasFault lines i (form.clause clause) other
plain_before_many lines i clause p known Bad g f = p.good f
plain_before_many lines i clause p known Deep g f = p.flat f
plain_before_many lines i clause p known (Double x) g f = f
plain_before_many lines i clause p known (Unknown x) g f = known x f
plain_before_many lines i clause p known Many g f = absurd g

plain_none : (lines : List Entry) (i : ℕ) (clause : Clause) → Plain lines i clause → ((word : List ℕ) → ¬ IsUnknown lines i (form.clause clause) word) → (¬ IsLate clause.span) → (kind : LineFault) → ¬ HasFault lines i (form.clause clause) kind
plain_none lines i clause p known early Bad f = p.good f
plain_none lines i clause p known early Deep f = p.flat f
plain_none lines i clause p known early (Double x) f = f
plain_none lines i clause p known early (Unknown x) f = known x f
plain_none lines i clause p known early Many f = early f

times_decide : (lines : List Entry) (i : ℕ) (clause : Clause) (times : Span) → clause.span ≡ times → Plain lines i clause → ((word : List ℕ) → ¬ IsUnknown lines i (form.clause clause) word) → Decided lines i (form.clause clause) (span_fault times)
times_decide lines i clause span.Late e p known = (subst IsLate (sym e) tt, plain_before_many lines i clause p known)
times_decide lines i clause span.Absent e p known = plain_none lines i clause p known (λ late. subst IsLate e late)
times_decide lines i clause (span.During a b) e p known = plain_none lines i clause p known (λ late. subst IsLate e late)

unknown_decide : (lines : List Entry) (i : ℕ) (clause : Clause) (vars : List (List ℕ)) (a b : Option (List ℕ)) → vars ≡ declared lines i → first_unknown (number_in vars) (tokens_of clause.value ++ tokens_of clause.guard) ≡ or_else a b → Plain lines i clause → Decided lines i (form.clause clause) (unknown_fault a b clause.span)
unknown_decide lines i clause vars (Some word) b v e p =
    (subst (λ names. IsFirstUndeclared names (tokens_of clause.value ++ tokens_of clause.guard) word) v (undeclared_found vars (tokens_of clause.value ++ tokens_of clause.guard) word e), plain_before_unknown lines i clause word p)
unknown_decide lines i clause vars None (Some word) v e p =
    (subst (λ names. IsFirstUndeclared names (tokens_of clause.value ++ tokens_of clause.guard) word) v (undeclared_found vars (tokens_of clause.value ++ tokens_of clause.guard) word e), plain_before_unknown lines i clause word p)
unknown_decide lines i clause vars None None v e p =
    times_decide lines i clause clause.span refl p (λ word r. undeclared_none vars (tokens_of clause.value ++ tokens_of clause.guard) word e (subst (λ names. IsFirstUndeclared names (tokens_of clause.value ++ tokens_of clause.guard) word) (sym v) r))

good_clause : (lines : List Entry) (i : ℕ) (clause : Clause) (d e : Expression) → Stands lines i (form.clause clause) → Spells d clause.value → Spells e clause.guard → ¬ IsBad lines i (form.clause clause)
good_clause lines i clause d e s v g (inl f) = f s
good_clause lines i clause d e s v g (inr (inl f)) = f d v
good_clause lines i clause d e s v g (inr (inr f)) = f e g

deep_before : (lines : List Entry) (i : ℕ) (clause : Clause) → (¬ IsBad lines i (form.clause clause)) → (other : LineFault) → GoesBefore other Deep → ¬ HasFault lines i (form.clause clause) other
deep_before lines i clause good Bad g f = good f
deep_before lines i clause good Deep g f = absurd g
deep_before lines i clause good (Double x) g f = absurd g
deep_before lines i clause good (Unknown x) g f = absurd g
deep_before lines i clause good Many g f = absurd g

flat_clause : (clause : Clause) (d e : Expression) → Spells d clause.value → Spells e clause.guard → is_deep d ≡ false → is_deep e ≡ false → ¬ IsDeep (form.clause clause)
flat_clause clause d e v g x y (inl f) = flat_not_deep clause.value d v x f
flat_clause clause d e v g x y (inr f) = flat_not_deep clause.guard e g y f

depth_by : (b : Bool) (lines : List Entry) (i : ℕ) (clause : Clause) (vars : List (List ℕ)) (d e : Expression) → vars ≡ declared lines i → Stands lines i (form.clause clause) → Spells d clause.value → Spells e clause.guard → (is_deep d || is_deep e) ≡ b → Decided lines i (form.clause clause) (if b then Some Deep else unknown_fault (first_unknown (number_in vars) (spelling d)) (first_unknown (number_in vars) (spelling e)) clause.span)
depth_by true lines i clause vars d e known s v g h =
    (elim (one_deep (is_deep d) (is_deep e) h) [ inl x ↦ inl (deep_is clause.value d v x) | inr y ↦ inr (deep_is clause.guard e g y) ], deep_before lines i clause (good_clause lines i clause d e s v g))
depth_by false lines i clause vars d e known s v g h =
    let flat = none_deep (is_deep d) (is_deep e) h in
    let all : first_unknown (number_in vars) (tokens_of clause.value ++ tokens_of clause.guard) ≡ or_else (first_unknown (number_in vars) (spelling d)) (first_unknown (number_in vars) (spelling e)) =
    unknown_both (number_in vars) (tokens_of clause.value) (tokens_of clause.guard) ∙ ap (λ k. or_else (first_unknown (number_in vars) k) (first_unknown (number_in vars) (tokens_of clause.guard))) (sym v) ∙ ap (λ k. or_else (first_unknown (number_in vars) (spelling d)) (first_unknown (number_in vars) k)) (sym g) in
    unknown_decide lines i clause vars _ _ known all (record { good = good_clause lines i clause d e s v g; flat = flat_clause clause d e v g flat.0 flat.1 })

clause_decides : (lines : List Entry) (i : ℕ) (clause : Clause) (vars : List (List ℕ)) (value guard : Option Expression) → vars ≡ declared lines i → Stands lines i (form.clause clause) → IsSpelled clause.value value → IsSpelled clause.guard guard → Decided lines i (form.clause clause) (clause_fault vars value guard clause.span)
clause_decides lines i clause vars None guard known s v g = bad_first lines i (form.clause clause) (inr (inl v))
clause_decides lines i clause vars (Some d) None known s v g = bad_first lines i (form.clause clause) (inr (inr g))
clause_decides lines i clause vars (Some d) (Some e) known s v g = depth_by (is_deep d || is_deep e) lines i clause vars d e known s v g refl

-- a weakening
weak_before : (lines : List Entry) (i : ℕ) (node : List ℕ) (times : Span) →
    Stands lines i (form.weak node times) → (other : LineFault) → GoesBefore other Many →
    ¬ HasFault lines i (form.weak node times) other
weak_before lines i node times s Bad g (inl f) = f s
weak_before lines i node times s Bad g (inr f) = f
weak_before lines i node times s Deep g f = f
weak_before lines i node times s (Double x) g f = f
weak_before lines i node times s (Unknown x) g f = f
weak_before lines i node times s Many g f = absurd g

weak_none : (lines : List Entry) (i : ℕ) (node : List ℕ) (times : Span) →
    Stands lines i (form.weak node times) → (¬ IsLate times) → (kind : LineFault) →
    ¬ HasFault lines i (form.weak node times) kind
weak_none lines i node times s early Bad (inl f) = f s
weak_none lines i node times s early Bad (inr f) = f
weak_none lines i node times s early Deep f = f
weak_none lines i node times s early (Double x) f = f
weak_none lines i node times s early (Unknown x) f = f
weak_none lines i node times s early Many f = early f

weak_decides : (lines : List Entry) (i : ℕ) (node : List ℕ) (times : Span) →
    Stands lines i (form.weak node times) →
    Decided lines i (form.weak node times) (span_fault times)
weak_decides lines i node span.Late s = (tt, weak_before lines i node span.Late s)
weak_decides lines i node span.Absent s = weak_none lines i node span.Absent s (λ late. late)
weak_decides lines i node (span.During a b) s =
    weak_none lines i node (span.During a b) s (λ late. late)

-- a line that ends a task
end_none : (lines : List Entry) (i : ℕ) → Stands lines i form.ending → (kind : LineFault) → ¬ HasFault lines i form.ending kind
end_none lines i s Bad (inl f) = f s
end_none lines i s Bad (inr f) = f
end_none lines i s Deep f = f
end_none lines i s (Double x) f = f
end_none lines i s (Unknown x) f = f
end_none lines i s Many f = f

good_head : (a : Type 0) (b : Type 0) → a → (¬ b) → ((¬ a) ⊎ b) → ⊥
good_head a b s apart (inl f) = f s
good_head a b s apart (inr f) = apart f

-- a line that may stand
form_decides : (parse : Parse) (lines : List Entry) (i : ℕ) (c : Context) (form : Form) → IsParse parse → Told lines i c → HasForm lines i form → may_stand_at form c.place ≡ true → Decided lines i form (form_fault parse c form)
form_decides parse lines i c (form.vars names) is told has may =
    let all = vars_on lines i (form.vars names) c.vars has told.vars in
    naming_decides lines i (form.vars names) most_variables c.vars names (vars_behind (form.vars names) c.vars) (first_double c.vars names) (record {
      good = good_head _ _ (stands lines i c.place (form.vars names) told.position may) (λ f. f);
      flat = λ f. f;
      familiar = λ word f. f;
      to_double = λ word r. subst (λ k. IsFirstDouble k names word) told.vars r;
      from_double = λ word r. subst (λ k. IsFirstDouble k names word) (sym told.vars) r;
      to_many = λ h. subst (λ k. most_variables < length k) all h;
      from_many = λ h. subst (λ k. most_variables < length k) (sym all) h;
    }) refl
form_decides parse lines i c (form.ste name reset) is told has may =
    let all = names_on lines i (form.ste name reset) c.names has told.names in
    naming_decides lines i (form.ste name reset) 256 c.names (name ∷ []) (names_behind (form.ste name reset) c.names) (first_double c.names (name ∷ [])) (record {
      good = good_head _ _ tt (λ f. f);
      flat = λ f. f;
      familiar = λ word f. f;
      to_double = λ word r. subst (λ k. IsFirstDouble k (name ∷ []) word) told.names r;
      from_double = λ word r. subst (λ k. IsFirstDouble k (name ∷ []) word) (sym told.names) r;
      to_many = λ h. subst (λ k. 256 < length k) all h;
      from_many = λ h. subst (λ k. 256 < length k) (sym all) h;
    }) refl
form_decides parse lines i c (form.gste name vertex reset) is told has may =
    let all = names_on lines i (form.gste name vertex reset) c.names has told.names in
    naming_decides lines i (form.gste name vertex reset) 256 c.names (name ∷ []) (names_behind (form.gste name vertex reset) c.names) (first_double c.names (name ∷ [])) (record {
      good = good_head _ _ tt (λ f. f);
      flat = λ f. f;
      familiar = λ word f. f;
      to_double = λ word r. subst (λ k. IsFirstDouble k (name ∷ []) word) told.names r;
      from_double = λ word r. subst (λ k. IsFirstDouble k (name ∷ []) word) (sym told.names) r;
      to_many = λ h. subst (λ k. 256 < length k) all h;
      from_many = λ h. subst (λ k. 256 < length k) (sym all) h;
    }) refl
form_decides parse lines i c (form.edge from to) is told has may = edge_by _ lines i c from to told has may refl
form_decides parse lines i c (form.clause clause) is told has may = clause_decides lines i clause c.vars (parse clause.value) (parse clause.guard) told.vars (stands lines i c.place (form.clause clause) told.position may) (is clause.value) (is clause.guard)
form_decides parse lines i c (form.weak node times) is told has may =
    weak_decides lines i node times (stands lines i c.place (form.weak node times) told.position may)
form_decides parse lines i c form.ending is told has may = end_none lines i (stands lines i c.place form.ending told.position may)
form_decides parse lines i c form.wrong is told has may = absurd (cc may)

-- any line
decided_by : (b : Bool) (parse : Parse) (lines : List Entry) (i : ℕ) (c : Context) (form : Form) → IsParse parse → Told lines i c → HasForm lines i form → may_stand_at form c.place ≡ b → Decided lines i form (if b then form_fault parse c form else Some Bad)
decided_by true parse lines i c form is told has may = form_decides parse lines i c form is told has may
decided_by false parse lines i c form is told has may = bad_first lines i form (inl (stands_not lines i c.place form told.position may))

decided : (parse : Parse) (lines : List Entry) (i : ℕ) (c : Context) (form : Form) → IsParse parse → Told lines i c → HasForm lines i form → Decided lines i form (line_fault parse c form)
decided parse lines i c form is told has = decided_by (may_stand_at form c.place) parse lines i c form is told has refl

stood_by : (b : Bool) (form : Form) (found : Option LineFault) → (if b then found else Some Bad) ≡ None → b ≡ true
stood_by true form found e = refl
stood_by false form found e = absurd (cc e)

-- the lines from a place on
at_head : {A : Type 0} (xs : List A) (i : ℕ) (x : A) (rest : List A) → drop i xs ≡ x ∷ rest → slice_get xs i ≡ Some x
at_head [] zero x rest e = absurd (cc e)
at_head [] (suc i) x rest e = absurd (cc e)
at_head (y ∷ ys) zero x rest e = let same : y ≡ x = cc in ap Some same
at_head (y ∷ ys) (suc i) x rest e = at_head ys i x rest e

behind_head : {A : Type 0} (xs : List A) (i : ℕ) (x : A) (rest : List A) → drop i xs ≡ x ∷ rest → drop (suc i) xs ≡ rest
behind_head [] zero x rest e = absurd (cc e)
behind_head [] (suc i) x rest e = absurd (cc e)
behind_head (y ∷ ys) zero x rest e = cc e
behind_head (y ∷ ys) (suc i) x rest e = behind_head ys i x rest e

past_end : (lines : List Entry) (i k : ℕ) (form : Form) → drop i lines ≡ [] → i ≤ k → HasForm lines k form → ⊥
past_end [] i k form e h has = absurd (cc has)
past_end (y ∷ ys) zero k form e h has = absurd (cc e)
past_end (y ∷ ys) (suc i) zero form e h has = absurd (omega (arith, h))
past_end (y ∷ ys) (suc i) (suc k) form e h has = past_end ys i k form e (omega (arith, h)) has

form_at : (lines : List Entry) (i : ℕ) (entry : Entry) → slice_get lines i ≡ Some entry → HasForm lines i entry.form
form_at lines i entry e = slice_get-map (λ (line : Entry). line.form) lines i ∙ ap (option_map (λ (line : Entry). line.form)) e

-- no line before place i has a fault
abbrev Clean : List Entry → ℕ → Type 0
Clean lines i = (k : ℕ) (form : Form) (kind : LineFault) → k < i → HasForm lines k form → ¬ HasFault lines k form kind

clean_on : (lines : List Entry) (i : ℕ) (form : Form) → Clean lines i → HasForm lines i form → ((kind : LineFault) → ¬ HasFault lines i form kind) → Clean lines (suc i)
clean_on lines i form clean has none k other kind below is f = elim (eq-or-lt_of_le {n = k} {m = i} (omega (arith, below))) [
  | inr before ↦ clean k other kind before is f
  | inl same ↦ none kind (subst (λ o. HasFault lines i o kind) (same_form (subst (λ n. HasForm lines n other) same is) has) (subst (λ n. HasFault lines n other kind) same f))
]
  where
    same_form : {a b : Form} → HasForm lines i a → HasForm lines i b → a ≡ b
    same_form x y = cc (x, y)

-- what the walk from a place on finds
abbrev Walked : List Entry → Option (ℕ × LineFault) → Type 0
Walked lines None = (k : ℕ) (form : Form) (kind : LineFault) → HasForm lines k form → ¬ HasFault lines k form kind
Walked lines (Some found) = IsFirstFault lines found.0 found.1

walk_by : (found : Option LineFault) (parse : Parse) (lines rest : List Entry) (i : ℕ) (c : Context) (entry : Entry) → IsParse parse → drop i lines ≡ entry ∷ rest → Told lines i c → Clean lines i → line_fault parse c entry.form ≡ found → (Told lines (suc i) (context_behind c entry.form) → Clean lines (suc i) → Walked lines (fault_from parse (context_behind c entry.form) rest)) → Walked lines (fault_or entry.line found (fault_from parse (context_behind c entry.form) rest))
walk_by (Some kind) parse lines rest i c entry is e told clean f later =
    let has = form_at lines i entry (at_head lines i entry rest e) in
    let d : Decided lines i entry.form (Some kind) = subst (Decided lines i entry.form) f (decided parse lines i c entry.form is told has) in
    record { place = i; entry = entry; here = at_head lines i entry rest e; numbered = refl; faulty = d.0; kinds = d.1; least = λ k form other below has. clean k form other below has }
walk_by None parse lines rest i c entry is e told clean f later =
    let has = form_at lines i entry (at_head lines i entry rest e) in
    let d : Decided lines i entry.form None = subst (Decided lines i entry.form) f (decided parse lines i c entry.form is told has) in
    later (told_on lines i c entry.form told has (stood_by (may_stand_at entry.form c.place) entry.form (form_fault parse c entry.form) f)) (clean_on lines i entry.form clean has d)

end_by : (b : Bool) (lines : List Entry) (i k : ℕ) (form : Form) (kind : LineFault) → nat_lt k i ≡ b → drop i lines ≡ [] → Clean lines i → HasForm lines k form → ¬ HasFault lines k form kind
end_by true lines i k form kind h e clean has = clean k form kind (grind (arith, h)) has
end_by false lines i k form kind h e clean has = absurd (past_end lines i k form e (grind (arith, h)) has)

walk : (parse : Parse) (lines rest : List Entry) (i : ℕ) (c : Context) → IsParse parse → drop i lines ≡ rest → Told lines i c → Clean lines i → Walked lines (fault_from parse c rest)
walk parse lines [] i c is e told clean = λ k form kind has. end_by (nat_lt k i) lines i k form kind refl e clean has
walk parse lines (entry ∷ rest) i c is e told clean =
    walk_by (line_fault parse c entry.form) parse lines rest i c entry is e told clean refl
    (λ t l. walk parse lines rest (suc i) (context_behind c entry.form) is (behind_head lines i entry rest e) t l)

walked : (parse : Parse) (lines : List Entry) → IsParse parse → Walked lines (first_task_fault parse [] lines)
walked parse lines is = subst (Walked lines) (sym (same_fault parse [] lines)) (walk parse lines lines 0 (context_of []) is refl (told_first lines) (λ k form kind below has f. absurd (omega (arith, below))))

pub first_fault_is_least : FirstFaultIsLeast
first_fault_is_least = record {
  some = λ parse lines number kind is e. subst (Walked lines) e (walked parse lines is);
  none = λ parse lines is e. subst (Walked lines) e (walked parse lines is);
}
