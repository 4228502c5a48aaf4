-- The sums of products of a gate's rows are exact: they say just which bits some choice from the inputs' sets gives.
use Rattle.std.proofs.Common.{All, ◌≡◌, suc, Bool, true, false, not, List, [], ◌∷◌, length, map, refl, sym, ◌∙◌, ap, subst, arith, inl, inr}
use Rattle.std.specs.Prelude.{◌&&◌, ◌||◌, ◌↔◌}
use Rattle.std.specs.List.{AllZip}
use Rattle.std.proofs.lemmas.Bool.{and_parts, and_from, or_cases, or_left, or_right}
use Rattle.std.proofs.lemmas.List.Elements.{All-head, All-tail}
use Rattle.net_core.specs.declared.cover.Lit.{Lit}
use Rattle.net_core.specs.declared.cover.Lit.TheVariants.{Zero, One, Any}
use Rattle.net_core.specs.declared.cover.Cover.{Cover}
use Rattle.net_core.specs.Cover.{IsCover, admits, matches, some_matches, cover_bit}
use Rattle.net_core.specs.Cases.{on_rows, off_rows}
use Rattle.net_core.proofs.Complement.{rows_tell_the_bit}
use Rattle.net_core.specs.Sets.{IsIn}
use Rattle.net_core.specs.Possible.{MayGive}
use Rattle.ste_base.specs.Functions.{Function}
use Rattle.net_core.specs.Work.{AreWide, SymbolicSet, set_at, conjunction, disjunction, whole, product, sum, factor, factors, row_products, gate_set, some_bit}

whole_both : (f : Function) (fs : List Function) (bits : List Bool) → whole conjunction f fs bits ≡ (f bits && product fs bits)
whole_both f [] bits = by (f bits)
  where
    by : (b : Bool) → b ≡ (b && true)
    by true = refl
    by false = refl
whole_both f (g ∷ gs) bits = whole_both (conjunction f g) gs bits ∙ by (f bits) (g bits) (product gs bits) ∙ ap (λ b. f bits && b) (sym (whole_both g gs bits))
  where
    by : (a b c : Bool) → ((a && b) && c) ≡ (a && (b && c))
    by true b c = refl
    by false b c = refl

pub product_cons : (g : Function) (gs : List Function) (bits : List Bool) → product (g ∷ gs) bits ≡ (g bits && product gs bits)
product_cons g gs bits = whole_both g gs bits

whole_either : (f : Function) (fs : List Function) (bits : List Bool) → whole disjunction f fs bits ≡ (f bits || sum fs bits)
whole_either f [] bits = by (f bits)
  where
    by : (b : Bool) → b ≡ (b || false)
    by true = refl
    by false = refl
whole_either f (g ∷ gs) bits = whole_either (disjunction f g) gs bits ∙ by (f bits) (g bits) (sum gs bits) ∙ ap (λ b. f bits || b) (sym (whole_either g gs bits))
  where
    by : (a b c : Bool) → ((a || b) || c) ≡ (a || (b || c))
    by true b c = refl
    by false b c = refl

pub sum_cons : (g : Function) (gs : List Function) (bits : List Bool) → sum (g ∷ gs) bits ≡ (g bits || sum gs bits)
sum_cons g gs bits = whole_either g gs bits

factor_choice : (lit : Lit) (w : SymbolicSet) (bits : List Bool) → factor lit w bits ≡ true → (b : Bool) × IsIn b (set_at bits w) × (admits lit b ≡ true)
factor_choice Zero w bits e = (false, e, refl)
factor_choice One w bits e = (true, e, refl)
factor_choice Any w bits e = elim (or_cases (w.zero bits) (w.one bits) e) [ inl z ↦ (false, z, refl) | inr o ↦ (true, o, refl) ]

choice_factor : (lit : Lit) (w : SymbolicSet) (bits : List Bool) (b : Bool) → IsIn b (set_at bits w) → admits lit b ≡ true → factor lit w bits ≡ true
choice_factor Zero w bits false h e = h
choice_factor Zero w bits true h e = absurd cc
choice_factor One w bits false h e = absurd cc
choice_factor One w bits true h e = h
choice_factor Any w bits false h e = or_left (w.zero bits) (w.one bits) h
choice_factor Any w bits true h e = or_right (w.zero bits) (w.one bits) h

abbrev pub Choice : List SymbolicSet → List Bool → List Bool → Type 0
Choice sets bits bs = AllZip IsIn bs (map (set_at bits) sets)

row_choice : (row : List Lit) (sets : List SymbolicSet) (bits : List Bool) → length row ≡ length sets → product (factors row sets) bits ≡ true → (bs : List Bool) × Choice sets bits bs × (matches row bs ≡ true)
row_choice [] [] bits l e = ([], tt, refl)
row_choice [] (w ∷ ws) bits l e = absurd (omega arith)
row_choice (lit ∷ row) [] bits l e = absurd (omega arith)
row_choice (lit ∷ row) (w ∷ ws) bits l e =
    let p = and_parts (factor lit w bits) (product (factors row ws) bits) (sym (product_cons (factor lit w) (factors row ws) bits) ∙ e) in
    let c = factor_choice lit w bits p.0 in
    let r = row_choice row ws bits (omega arith) p.1 in
    (c.0 ∷ r.0, (c.1, r.1), and_from (admits lit c.0) (matches row r.0) c.2 r.2)

choice_row : (row : List Lit) (sets : List SymbolicSet) (bits bs : List Bool) → length row ≡ length sets → Choice sets bits bs → matches row bs ≡ true → product (factors row sets) bits ≡ true
choice_row [] [] bits bs l h e = refl
choice_row [] (w ∷ ws) bits bs l h e = absurd (omega arith)
choice_row (lit ∷ row) [] bits bs l h e = absurd (omega arith)
choice_row (lit ∷ row) (w ∷ ws) bits [] l h e = absurd h
choice_row (lit ∷ row) (w ∷ ws) bits (b ∷ bs) l h e =
    let p = and_parts (admits lit b) (matches row bs) e in
    product_cons (factor lit w) (factors row ws) bits
    ∙ and_from (factor lit w bits) (product (factors row ws) bits) (choice_factor lit w bits b h.0 p.0) (choice_row row ws bits bs (omega arith) h.1 p.1)

pub rows_choice : (rows : List (List Lit)) (sets : List SymbolicSet) (bits : List Bool) → AreWide rows (length sets) → sum (row_products rows sets) bits ≡ true → (bs : List Bool) × Choice sets bits bs × (some_matches rows bs ≡ true)
rows_choice [] sets bits wide e = absurd cc
rows_choice (row ∷ rows) sets bits wide e = elim (or_cases (product (factors row sets) bits) (sum (row_products rows sets) bits) (sym (sum_cons (product (factors row sets)) (row_products rows sets) bits) ∙ e)) [
  | inl now ↦ let r = row_choice row sets bits (All-head (λ x. length x ≡ length sets) row rows wide) now in (r.0, r.1, or_left (matches row r.0) (some_matches rows r.0) r.2)
  | inr later ↦ let r = rows_choice rows sets bits (All-tail (λ x. length x ≡ length sets) row rows wide) later in (r.0, r.1, or_right (matches row r.0) (some_matches rows r.0) r.2)
]

pub choice_rows : (rows : List (List Lit)) (sets : List SymbolicSet) (bits bs : List Bool) → AreWide rows (length sets) → Choice sets bits bs → some_matches rows bs ≡ true → sum (row_products rows sets) bits ≡ true
choice_rows [] sets bits bs wide h e = absurd cc
choice_rows (row ∷ rows) sets bits bs wide h e =
    sum_cons (product (factors row sets)) (row_products rows sets) bits ∙ elim (or_cases (matches row bs) (some_matches rows bs) e) [
      | inl now ↦ or_left (product (factors row sets) bits) (sum (row_products rows sets) bits) (choice_row row sets bits bs (All-head (λ x. length x ≡ length sets) row rows wide) h now)
      | inr later ↦ or_right (product (factors row sets) bits) (sum (row_products rows sets) bits) (choice_rows rows sets bits bs (All-tail (λ x. length x ≡ length sets) row rows wide) h later)
    ]

pub choice_long : (sets : List SymbolicSet) (bits bs : List Bool) → Choice sets bits bs → length bs ≡ length sets
choice_long [] bits [] h = refl
choice_long [] bits (b ∷ bs) h = absurd h
choice_long (w ∷ ws) bits [] h = absurd h
choice_long (w ∷ ws) bits (b ∷ bs) h = ap suc (choice_long ws bits bs h.1)

-- the gate has a bit just where some choice gives it
pub gate_exact : (on off : List (List Lit)) (sets : List SymbolicSet) (bits : List Bool) (bit : Bool) → AreWide on (length sets) → AreWide off (length sets)
    → ((bs : List Bool) → length bs ≡ length sets → some_matches off bs ≡ not (some_matches on bs))
    → IsIn bit (set_at bits (gate_set on off sets)) ↔ MayGive (some_matches on) (map (set_at bits) sets) bit
gate_exact on off sets bits true won woff apart = (
  λ h. rows_choice on sets bits won h,
  λ given. choice_rows on sets bits given.0 won given.1 given.2,
)
gate_exact on off sets bits false won woff apart = (
  λ h. let r = rows_choice off sets bits woff h in (r.0, r.1, not_back (some_matches on r.0) (sym (apart r.0 (choice_long sets bits r.0 r.1)) ∙ r.2)),
  λ given. choice_rows off sets bits given.0 woff given.1 (apart given.0 (choice_long sets bits given.0 given.1) ∙ ap not given.2),
)
  where
    not_back : (b : Bool) → not b ≡ true → b ≡ false
    not_back true e = sym e
    not_back false e = refl

may_give_same : (f g : List Bool → Bool) (ws : List SymbolicSet) (bits : List Bool) (bit : Bool) → ((bs : List Bool) → length bs ≡ length ws → f bs ≡ g bs) → MayGive f (map (set_at bits) ws) bit → MayGive g (map (set_at bits) ws) bit
may_give_same f g ws bits bit same given = (given.0, given.1, sym (same given.0 (choice_long ws bits given.0 given.1)) ∙ given.2)

-- the set of a cover's gate is that of the gate rule
pub cover_gives : (cover : Cover) (ws : List SymbolicSet) (bits : List Bool) (bit : Bool) → IsCover cover → length ws ≡ cover.inputs
    → IsIn bit (set_at bits (gate_set (on_rows cover) (off_rows cover) ws)) ↔ MayGive (cover_bit cover) (map (set_at bits) ws) bit
cover_gives cover ws bits bit sound long =
    let tells = rows_tell_the_bit in
    let on_is : (bs : List Bool) → length bs ≡ length ws → some_matches (on_rows cover) bs ≡ cover_bit cover bs = λ bs l. tells.on cover bs (l ∙ long) in
    let exact = gate_exact (on_rows cover) (off_rows cover) ws bits bit (subst (AreWide (on_rows cover)) (sym long) (tells.on_wide cover sound)) (subst (AreWide (off_rows cover)) (sym long) (tells.off_wide cover sound))
    (λ bs l. tells.off cover bs (l ∙ long) ∙ ap not (sym (on_is bs l))) in (
      λ h. may_give_same (some_matches (on_rows cover)) (cover_bit cover) ws bits bit on_is (exact.0 h),
      λ given. exact.1 (may_give_same (cover_bit cover) (some_matches (on_rows cover)) ws bits bit (λ bs l. sym (on_is bs l)) given),
    )

-- ---- no empty sets

in_one : (z o : Bool) → (z || o) ≡ true → IsIn o (record { zero = z; one = o })
in_one z true e = refl
in_one true false e = refl
in_one false false e = absurd cc

full_choice : (ws : List SymbolicSet) (bits : List Bool) → All (λ w. some_bit w bits ≡ true) ws → AllZip IsIn (map (λ w. w.one bits) ws) (map (set_at bits) ws)
full_choice [] bits h = tt
full_choice (w ∷ ws) bits h = (in_one (w.zero bits) (w.one bits) (All-head (λ x. some_bit x bits ≡ true) w ws h), full_choice ws bits (All-tail (λ x. some_bit x bits ≡ true) w ws h))

some_in : (b z o : Bool) → IsIn b (record { zero = z; one = o }) → (z || o) ≡ true
some_in true z o h = or_right z o h
some_in false z o h = or_left z o h

-- where no input is empty, the output is not
pub full_gate : (cover : Cover) (ws : List SymbolicSet) (bits : List Bool) → IsCover cover → length ws ≡ cover.inputs → All (λ w. some_bit w bits ≡ true) ws
    → some_bit (gate_set (on_rows cover) (off_rows cover) ws) bits ≡ true
full_gate cover ws bits sound long h =
    let bs : List Bool = map (λ w. w.one bits) ws in
    let made = gate_set (on_rows cover) (off_rows cover) ws in
    some_in (cover_bit cover bs) (made.zero bits) (made.one bits) ((cover_gives cover ws bits (cover_bit cover bs) sound long).1 (bs, full_choice ws bits h, refl))
