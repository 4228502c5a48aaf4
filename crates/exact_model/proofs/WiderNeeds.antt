-- The exact work functions read the variables of an assertion and its choices alone.
use Rattle.std.proofs.Common.{◌≡◌, ℕ, zero, suc, ◌+◌, ◌≤◌, ◌<◌, Bool, true, false, not, List, [], ◌∷◌, ◌++◌, map, take, filter, length, get_or, Option, None, Some, arith, refl, sym, ◌∙◌, ap, subst}
use Rattle.std.specs.Prelude.{All, IsTrue, ◌&&◌, ◌||◌, slice_get}
use Rattle.std.specs.List.{list_all}
use Rattle.std.proofs.lemmas.Bool.{and_parts}
use Rattle.std.proofs.lemmas.List.{get_or-take}
use Rattle.std.proofs.lemmas.List.Elements.{All-append, All-cons, All-filter, All-head, All-map, All-nil, All-tail}
use Rattle.bool_expr.specs.declared.expr.Expr.{Expr, map-Expr, roll-Expr}
use Rattle.bool_expr.specs.declared.expr.Expr.TheOpen.{Expr-F, Const, Var, Not, All as Every, Odd, Any}
use Rattle.bool_expr.specs.declared.expr.Expr.TheFolds.{fold-roll-Expr, ind-Expr}
use Rattle.bool_expr.specs.Value.{flips, value_of}
use Rattle.dd_nodes.specs.Functions.{node_count}
use Rattle.ste_base.specs.declared.id.NodeId.{NodeId}
use Rattle.net_core.specs.declared.cover.Cover.{Cover}
use Rattle.net_core.specs.declared.cover.Lit.{Lit}
use Rattle.net_core.specs.declared.cover.Lit.TheVariants as lit
use Rattle.net_core.specs.declared.raw.Gate.{Gate}
use Rattle.net_core.specs.declared.raw.RawNet.{RawNet}
use Rattle.ste_base.specs.Functions.{Function}
use Rattle.net_core.specs.Work.{SymbolicCut, always, chain, conjunction, disjunction, negation, never, product, products, sum, sums, whole}
use Rattle.ste_model.specs.declared.task.Assertion.{Assertion}
use Rattle.ste_model.specs.declared.task.Quint.{Quint}
use Rattle.ste_model.specs.Asked.{depth}
use Rattle.ste_model.specs.Expressions.{SymbolicValue, all_work, exclusive_disjunction, joined_parts, reads, reads_step, symbolic_step, symbolic_value}
use Rattle.ste_model.specs.Need.{ReadBelow}
use Rattle.ste_model.specs.Work.{has_time, over_times, quints_work, symbolic_cut, symbolic_cuts_at}
use Rattle.ste_model.proofs.Alike.{Same, count_same}
use Rattle.ste_model.proofs.Values.{functions_are_values}
use Rattle.exact_model.specs.Choices.{choices}
use Rattle.exact_model.specs.ExactWork.{all_broken, all_differ, bit_functions, counter_where, cover_functions, differs, exact_work, exactly_contradictory_where, exactly_strong_where, gates_functions, is_broken, literal_factors, met_where, row_factors, rows_functions, some_choices}
use Rattle.exact_model.specs.Wider.{IsOfFirst, WiderNeedsAsMany, bits_over_more}
use Rattle.exact_model.proofs.ExactNeeds.{one_exact_need, same_some_bits, work_same}
use Rattle.exact_model.proofs.MoreVariables.{take_take, wider_has_as_many_nodes}

module _ (n : ℕ) where
  -- ---- functions

  abbrev pub AreOfFirst : List Function → Type 0
  AreOfFirst fs = All (IsOfFirst n) fs

  none : AreOfFirst []
  none = All-nil (IsOfFirst n)

  more : (f : Function) (fs : List Function) → IsOfFirst n f → AreOfFirst fs → AreOfFirst (f ∷ fs)
  more f fs = All-cons (IsOfFirst n) f fs

  both : (fs gs : List Function) → AreOfFirst fs → AreOfFirst gs → AreOfFirst (fs ++ gs)
  both fs gs = All-append (IsOfFirst n) fs gs

  not_first : (f : Function) → IsOfFirst n f → IsOfFirst n (negation f)
  not_first f h bits l = ap not (h bits l)

  abbrev Keeps : (Function → Function → Function) → Type 0
  Keeps join = (f g : Function) → IsOfFirst n f → IsOfFirst n g → IsOfFirst n (join f g)

  and_keeps : Keeps conjunction
  and_keeps f g h k bits l = ap (λ b. b && g bits) (h bits l) ∙ ap (λ b. f (take n bits) && b) (k bits l)

  or_keeps : Keeps disjunction
  or_keeps f g h k bits l = ap (λ b. b || g bits) (h bits l) ∙ ap (λ b. f (take n bits) || b) (k bits l)

  xor_keeps : Keeps exclusive_disjunction
  xor_keeps f g h k bits l = ap (λ b. flips b (g bits)) (h bits l) ∙ ap (λ b. flips (f (take n bits)) b) (k bits l)

  chain_first : (join : Function → Function → Function) → Keeps join → (f : Function) (fs : List Function) → IsOfFirst n f → AreOfFirst fs → AreOfFirst (chain join f fs)
  chain_first join keeps f [] h all = none
  chain_first join keeps f (g ∷ gs) h all =
      let k = keeps f g h (All-head (IsOfFirst n) g gs all) in
      more (join f g) (chain join (join f g) gs) k (chain_first join keeps (join f g) gs k (All-tail (IsOfFirst n) g gs all))

  whole_first : (join : Function → Function → Function) → Keeps join → (f : Function) (fs : List Function) → IsOfFirst n f → AreOfFirst fs → IsOfFirst n (whole join f fs)
  whole_first join keeps f [] h all = h
  whole_first join keeps f (g ∷ gs) h all = whole_first join keeps (join f g) gs (keeps f g h (All-head (IsOfFirst n) g gs all)) (All-tail (IsOfFirst n) g gs all)

  always_first : IsOfFirst n always
  always_first bits l = refl

  never_first : IsOfFirst n never
  never_first bits l = refl

  -- ---- expressions

  abbrev pub IsValueOfFirst : SymbolicValue → Type 0
  IsValueOfFirst s = IsOfFirst n s.value × AreOfFirst s.work

  values_first : (parts : List SymbolicValue) → All IsValueOfFirst parts → AreOfFirst (map (λ (part : SymbolicValue). part.value) parts)
  values_first [] all = none
  values_first (part ∷ parts) all = more part.value (map (λ (p : SymbolicValue). p.value) parts) (All-head IsValueOfFirst part parts all).0 (values_first parts (All-tail IsValueOfFirst part parts all))

  works_first : (parts : List SymbolicValue) → All IsValueOfFirst parts → AreOfFirst (all_work parts)
  works_first [] all = none
  works_first (part ∷ parts) all = both part.work (all_work parts) (All-head IsValueOfFirst part parts all).1 (works_first parts (All-tail IsValueOfFirst part parts all))

  joined_first : (join : Function → Function → Function) (start : Function) (parts : List SymbolicValue) → Keeps join → IsOfFirst n start → All IsValueOfFirst parts → IsValueOfFirst (joined_parts join start parts)
  joined_first join start parts keeps h all =
      let fs = map (λ (part : SymbolicValue). part.value) parts in
      let value = whole_first join keeps start fs h (values_first parts all) in (
        value,
        both (all_work parts) (chain join start fs ++ whole join start fs ∷ []) (works_first parts all)
            (both (chain join start fs) (whole join start fs ∷ []) (chain_first join keeps start fs h (values_first parts all)) (more (whole join start fs) [] value none)),
      )

  module _ (vars : ℕ) (small : vars ≤ n) where
    abbrev pub IsRead : Expr → Type 0
    IsRead e = IsTrue (reads vars e) → IsValueOfFirst (symbolic_value e)

    abbrev Part : Type 0
    Part = (e : Expr) × IsRead e

    abbrev expr_of : Part → Expr
    expr_of part = part.0

    each : (parts : List Part) → list_all (λ b. b) (map (reads vars) (map expr_of parts)) ≡ true → All IsValueOfFirst (map symbolic_value (map expr_of parts))
    each [] h = All-nil IsValueOfFirst
    each (part ∷ parts) h =
        let p = and_parts (reads vars part.0) (list_all (λ b. b) (map (reads vars) (map expr_of parts))) h in
        All-cons IsValueOfFirst (symbolic_value part.0) (map symbolic_value (map expr_of parts)) (part.1 p.0) (each parts p.1)

    variable_first : (k : ℕ) → k < vars → IsOfFirst n (λ bits. get_or bits k false)
    variable_first k l bits long = sym (get_or-take n bits k false (omega (arith, l, small)))

    layer : (y : Expr-F Part) → IsTrue (reads_step vars (map-Expr Expr Bool (reads vars) (map-Expr Part Expr expr_of y))) → IsValueOfFirst (symbolic_step (map-Expr Expr SymbolicValue symbolic_value (map-Expr Part Expr expr_of y)))
    layer (Const bit) h = let f : IsOfFirst n (λ bits. bit) = λ bits l. refl in (f, more (λ bits. bit) [] f none)
    layer (Var variable) h =
        let f = variable_first variable.0 (grind (arith, h)) in
        (f, more (λ bits. get_or bits variable.0 false) [] f none)
    layer (Not part) h =
        let p = part.value.1 h in
        let s = symbolic_value part.value.0 in
        let f = not_first s.value p.0 in
        (f, both s.work (negation s.value ∷ []) p.1 (more (negation s.value) [] f none))
    layer (Every parts) h = joined_first conjunction always _ and_keeps always_first (each parts.items h)
    layer (Odd parts) h = joined_first exclusive_disjunction never _ xor_keeps never_first (each parts.items h)
    layer (Any parts) h = joined_first disjunction never _ or_keeps never_first (each parts.items h)

    roll_read : (y : Expr-F Part) → IsRead (roll-Expr (map-Expr Part Expr expr_of y))
    roll_read y h =
        let z : Expr-F Expr = map-Expr Part Expr expr_of y in
        subst IsValueOfFirst (sym (fold-roll-Expr SymbolicValue symbolic_step z)) (layer y (sym (fold-roll-Expr Bool (reads_step vars) z) ∙ h))

    pub expr_first : (e : Expr) → IsRead e
    expr_first = ind-Expr IsRead (λ x y is. subst (λ (z : Expr-F Expr). IsRead (roll-Expr z)) is (roll_read y))

    pub value_first : (e : Expr) → IsTrue (reads vars e) → IsOfFirst n (value_of e)
    value_first e h bits l = sym (functions_are_values e bits) ∙ (expr_first e h).0 bits l ∙ functions_are_values e (take n bits)

    quints_first : (quints : List Quint) → ReadBelow vars quints → AreOfFirst (quints_work quints)
    quints_first [] all = none
    quints_first (q ∷ quints) all =
        let p = and_parts (reads vars q.guard) (reads vars q.value) (All-head (λ (quint : Quint). IsTrue (reads vars quint.guard && reads vars quint.value)) q quints all) in
        both (symbolic_value q.guard).work ((symbolic_value q.value).work ++ quints_work quints) (expr_first q.guard p.0).1
        (both (symbolic_value q.value).work (quints_work quints) (expr_first q.value p.1).1
        (quints_first quints (All-tail (λ (quint : Quint). IsTrue (reads vars quint.guard && reads vars quint.value)) q quints all)))

    abbrev IsCutOfFirst : SymbolicCut → Type 0
    IsCutOfFirst d = IsOfFirst n d.guard × IsOfFirst n d.value

    cuts_first : (quints : List Quint) (t : ℕ) → ReadBelow vars quints → All IsCutOfFirst (symbolic_cuts_at quints t)
    cuts_first quints t all =
        All-map IsCutOfFirst symbolic_cut (filter (has_time t) quints) (All-filter (has_time t) (λ (q : Quint). IsCutOfFirst (symbolic_cut q)) quints
        (λ k d l. let p = and_parts (reads vars (get_or quints k d).guard) (reads vars (get_or quints k d).value) (all k d l) in
        (value_first (get_or quints k d).guard p.0, value_first (get_or quints k d).value p.1)))

  -- ---- gates

  literal_first : (l : Lit) (f : Function) → IsOfFirst n f → AreOfFirst (literal_factors l f)
  literal_first lit.Zero f h = more (negation f) [] (not_first f h) none
  literal_first lit.One f h = more f [] h none
  literal_first lit.Any f h = none

  factors_first : (row : List Lit) (fs : List Function) → AreOfFirst fs → AreOfFirst (row_factors row fs)
  factors_first [] fs all = none
  factors_first (l ∷ row) [] all = none
  factors_first (l ∷ row) (f ∷ fs) all =
      both (literal_factors l f) (row_factors row fs) (literal_first l f (All-head (IsOfFirst n) f fs all)) (factors_first row fs (All-tail (IsOfFirst n) f fs all))

  rows_first : (rows : List (List Lit)) (fs : List Function) → AreOfFirst fs → AreOfFirst (rows_functions rows fs)
  rows_first [] fs all = none
  rows_first (row ∷ rows) fs all =
      both (products (row_factors row fs)) (rows_functions rows fs) (chain_first conjunction and_keeps always (row_factors row fs) always_first (factors_first row fs all)) (rows_first rows fs all)

  products_first : (rows : List (List Lit)) (fs : List Function) → AreOfFirst fs → AreOfFirst (map (λ row. product (row_factors row fs)) rows)
  products_first [] fs all = none
  products_first (row ∷ rows) fs all =
      more (product (row_factors row fs)) (map (λ r. product (row_factors r fs)) rows) (whole_first conjunction and_keeps always (row_factors row fs) always_first (factors_first row fs all)) (products_first rows fs all)

  sums_first : (fs : List Function) → AreOfFirst fs → AreOfFirst (sums fs)
  sums_first fs = chain_first disjunction or_keeps never fs never_first

  sum_first : (fs : List Function) → AreOfFirst fs → IsOfFirst n (sum fs)
  sum_first fs = whole_first disjunction or_keeps never fs never_first

  cover_first : (cover : Option Cover) (fs : List Function) → AreOfFirst fs → AreOfFirst (cover_functions cover fs)
  cover_first None fs all = none
  cover_first (Some cover) fs all =
      both (rows_functions cover.rows fs) (sums (map (λ row. product (row_factors row fs)) cover.rows)) (rows_first cover.rows fs all)
      (sums_first (map (λ row. product (row_factors row fs)) cover.rows) (products_first cover.rows fs all))

  -- ---- bits of runs

  module _ (bit : ℕ → Function) (first : (id : ℕ) → IsOfFirst n (bit id)) where
    inputs_first : (inputs : List NodeId) → AreOfFirst (map (λ input. bit input.0) inputs)
    inputs_first [] = none
    inputs_first (input ∷ inputs) = more (bit input.0) (map (λ i. bit i.0) inputs) (first input.0) (inputs_first inputs)

    gates_first : (net : RawNet) (gates : List Gate) → AreOfFirst (gates_functions net bit gates)
    gates_first net [] = none
    gates_first net (gate ∷ gates) =
        both (cover_functions (slice_get net.covers gate.cover) (map (λ input. bit input.0) gate.inputs)) (gates_functions net bit gates)
        (cover_first (slice_get net.covers gate.cover) (map (λ input. bit input.0) gate.inputs) (inputs_first gate.inputs)) (gates_first net gates)

    bits_first : (k : ℕ) → AreOfFirst (bit_functions bit k)
    bits_first zero = none
    bits_first (suc k) =
        both (bit_functions bit k) (bit k ∷ negation (bit k) ∷ []) (bits_first k) (more (bit k) (negation (bit k) ∷ []) (first k) (more (negation (bit k)) [] (not_first (bit k) (first k)) none))

    differ_first : (cuts : List SymbolicCut) → All (λ d. IsOfFirst n d.guard × IsOfFirst n d.value) cuts → AreOfFirst (map (differs bit) cuts)
    differ_first [] all = none
    differ_first (d ∷ cuts) all =
        let h = All-head (λ (c : SymbolicCut). IsOfFirst n c.guard × IsOfFirst n c.value) d cuts all in
        more (differs bit d) (map (differs bit) cuts) (xor_keeps (bit d.node) d.value (first d.node) h.1)
        (differ_first cuts (All-tail (λ (c : SymbolicCut). IsOfFirst n c.guard × IsOfFirst n c.value) d cuts all))

    broken_first : (cuts : List SymbolicCut) → All (λ d. IsOfFirst n d.guard × IsOfFirst n d.value) cuts → AreOfFirst (map (is_broken bit) cuts)
    broken_first [] all = none
    broken_first (d ∷ cuts) all =
        let h = All-head (λ (c : SymbolicCut). IsOfFirst n c.guard × IsOfFirst n c.value) d cuts all in
        more (is_broken bit d) (map (is_broken bit) cuts) (and_keeps d.guard (differs bit d) h.0 (xor_keeps (bit d.node) d.value (first d.node) h.1))
        (broken_first cuts (All-tail (λ (c : SymbolicCut). IsOfFirst n c.guard × IsOfFirst n c.value) d cuts all))

  times_first : (f : ℕ → List Function) (k : ℕ) → ((t : ℕ) → AreOfFirst (f t)) → AreOfFirst (over_times f k)
  times_first f zero each = none
  times_first f (suc k) each = both (over_times f k) (f k) (times_first f k each) (each k)

  -- ---- the whole

  module _ (net : RawNet) (vars : ℕ) (task : Assertion) (small : vars ≤ n) (ant : ReadBelow vars task.ant) (con : ReadBelow vars task.con) (bit : ℕ → ℕ → Function) (first : (t id : ℕ) → IsOfFirst n (bit t id)) where
    breaks_first : (quints : List Quint) → ReadBelow vars quints → AreOfFirst (all_broken task quints bit)
    breaks_first quints below = times_first (λ t. map (is_broken (bit t)) (symbolic_cuts_at quints t)) (depth task) (λ t. broken_first (bit t) (first t) (symbolic_cuts_at quints t) (cuts_first vars small quints t below))

    differs_first : (quints : List Quint) → ReadBelow vars quints → AreOfFirst (all_differ task quints bit)
    differs_first quints below = times_first (λ t. map (differs (bit t)) (symbolic_cuts_at quints t)) (depth task) (λ t. differ_first (bit t) (first t) (symbolic_cuts_at quints t) (cuts_first vars small quints t below))

    some_first : (w : ℕ) (f : Function) → IsOfFirst n (some_choices vars w f)
    some_first w f bits l = same_some_bits w (λ rest. f (take vars bits ++ rest)) (λ rest. f (take vars (take n bits) ++ rest)) (λ rest m. ap (λ front. f (front ++ rest)) (sym (take_take vars n bits small)))

    met_first : IsOfFirst n (met_where task bit)
    met_first = not_first (sum (all_broken task task.ant bit)) (sum_first (all_broken task task.ant bit) (breaks_first task.ant ant))

    counter_first : IsOfFirst n (counter_where task bit)
    counter_first = and_keeps (met_where task bit) (sum (all_broken task task.con bit)) met_first (sum_first (all_broken task task.con bit) (breaks_first task.con con))

    results : List Function
    results =
        met_where task bit ∷ counter_where task bit ∷ exactly_strong_where net vars task bit
        ∷ some_choices vars (length (choices net task)) (met_where task bit) ∷ exactly_contradictory_where net vars task bit ∷ []

    results_first : AreOfFirst results
    unfolding results
    results_first =
        let w : ℕ = length (choices net task) in
        let some : Function = some_choices vars w (met_where task bit) in
        let first : IsOfFirst n some = some_first w (met_where task bit) in
        let last : List Function = exactly_contradictory_where net vars task bit ∷ [] in
        let strong : Function = exactly_strong_where net vars task bit in
        more (met_where task bit) (counter_where task bit ∷ strong ∷ some ∷ last) met_first
        (more (counter_where task bit) (strong ∷ some ∷ last) counter_first
        (more strong (some ∷ last) (some_first w (counter_where task bit))
        (more some last first (more (exactly_contradictory_where net vars task bit) [] (not_first some first) none))))

    at_time : ℕ → List Function
    at_time t = bit_functions (bit t) net.nets ++ gates_functions net (bit t) net.gates

    at_first : (t : ℕ) → AreOfFirst (at_time t)
    unfolding at_time
    at_first t = both (bit_functions (bit t) net.nets) (gates_functions net (bit t) net.gates) (bits_first (bit t) (first t) net.nets) (gates_first (bit t) (first t) net net.gates)

    pub work_first : AreOfFirst (exact_work net vars task bit)
    unfolding results at_time
    work_first =
        let ant_broken : List Function = all_broken task task.ant bit in
        let con_broken : List Function = all_broken task task.con bit in
        let ant_differ : List Function = all_differ task task.ant bit in
        let con_differ : List Function = all_differ task task.con bit in
        let con_sums : List Function = sums con_broken ++ results in
        let all_sums : List Function = sums ant_broken ++ con_sums in
        let con_all : List Function = con_differ ++ (con_broken ++ all_sums) in
        let asked : List Function = ant_differ ++ (ant_broken ++ con_all) in
        let timed : List Function = over_times at_time (depth task) ++ asked in
        both (quints_work task.ant) (quints_work task.con ++ timed) (quints_first vars small task.ant ant)
        (both (quints_work task.con) timed (quints_first vars small task.con con)
        (both (over_times at_time (depth task)) asked (times_first at_time (depth task) at_first)
        (both ant_differ (ant_broken ++ con_all) (differs_first task.ant ant)
        (both ant_broken con_all (breaks_first task.ant ant)
        (both con_differ (con_broken ++ all_sums) (differs_first task.con con)
        (both con_broken all_sums (breaks_first task.con con)
        (both (sums ant_broken) con_sums (sums_first ant_broken (breaks_first task.ant ant))
        (both (sums con_broken) results (sums_first con_broken (breaks_first task.con con)) results_first))))))))

pub take_whole : (n : ℕ) (bits : List Bool) → length bits ≡ n → take n bits ≡ bits
take_whole zero [] l = refl
take_whole zero (b ∷ bits) l = absurd (omega arith)
take_whole (suc n) [] l = absurd (omega arith)
take_whole (suc n) (b ∷ bits) l = ap (λ rest. b ∷ rest) (take_whole n bits (omega arith))

pub wider_needs_as_many : WiderNeedsAsMany
wider_needs_as_many net vars task bit need more sound exact is =
    let n : ℕ = vars + length (choices net task) in
    let wide : ℕ → ℕ → Function = bits_over_more n bit in
    let first : (t id : ℕ) → IsOfFirst n (wide t id) = λ t id bits l. ap (bit t id) (sym (take_take n n bits (omega arith))) in
    let same : (t id : ℕ) → Same n (wide t id) (bit t id) = λ t id. record { at = λ bits l. ap (bit t id) (take_whole n bits l) } in
    wider_has_as_many_nodes n more (exact_work net vars task wide) (work_first n net vars task (omega arith) sound.reads_ant sound.reads_con wide first)
    ∙ count_same (work_same net vars task sound.range sound.over wide bit (λ t id l m. same t id))
    ∙ one_exact_need.same net vars task (node_count n (exact_work net vars task bit)) need sound.range sound.driver sound.settled sound.over (bit, exact, refl) is
