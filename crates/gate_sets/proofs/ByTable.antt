-- The sets of gates with few inputs by tables: a stack of references, halves of it, what the calls for both halves leave, and what was met.
use Rattle.std.proofs.Common.{◌≡◌, ℕ, zero, suc, ◌+◌, ◌-◌, ◌<◌, ◌≤◌, min, Bool, true, false, List, [], ◌∷◌, ◌++◌, All, length, map, get_or, take, drop, Some, None, Ok, Option, Result, arith, refl, sym, ap, subst, ◌∙◌, append_assoc}
use Rattle.std.specs.Prelude.{◌&&◌, ◌||◌, slice_index_or}
use Rattle.std.proofs.Math.Seq.{drop-cons}
use Rattle.std.proofs.lemmas.List.{drop-append-le, get_or-drop, get_or-take, length-drop, length-map, length-take, take-append-le}
use Rattle.std.proofs.lemmas.List.Elements.{All-head, All-map, All-tail}
use Rattle.ste_base.specs.declared.id.NodeId.{NodeId}
use Rattle.dd_nodes.specs.declared.node.Ref.{Ref}
use Rattle.ste_base.specs.Functions.{Function}
use Rattle.dd_nodes.specs.Diagram.{IsCofactor, IsFrom, child}
use Rattle.dd_nodes.specs.Stores.{Keeps, Means, Store, function}
use Rattle.dd_nodes.specs.Functions.{IsCofactorOf}
use Rattle.dd_nodes.specs.Spending.{Has, Spends}
use Rattle.dd_nodes.proofs.Walks.{IsCofactor-trans, IsFrom-grows, IsFrom-less, child-from, child-grows, fixed, from_function, length-fixed, length-up_to, up_to, value-child, value-of_child, value-same_from}
use Rattle.dd_nodes.proofs.Stores.{IsGood, IsGood-at, Means-keeps, Builds-weaker, IsSpent-weaker, function-keeps}
use Rattle.dd_nodes.proofs.Spending.{Covers, Means-same}
use Rattle.dd_ops.specs.declared.fault.OpFault.{OpFault}
use Rattle.dd_ops.specs.Answer.{Answer}
use Rattle.dd_ops.specs.Splitting.{Splits, half}
use Rattle.dd_ops.proofs.Terminal.{one_bit}
use Rattle.net_core.specs.Work.{SymbolicSet}
use Rattle.dual_rail.specs.declared.rails.Rails.{Rails}
use Rattle.dual_rail.specs.Rail.{AreRails, AreRefs, Built, HasFunction, HasSet}
use Rattle.dual_rail.proofs.Works.{SoFar, Built-answer, Built-covers, Built-good, Built-made, Rails-keep, So-start, behind, first, here, more}
use Rattle.gate_sets.specs.declared.net_rails.NetRails.{NetRails}
use Rattle.gate_sets.specs.declared.truth_table.TruthTables.{TruthTables}
use Rattle.gate_sets.specs.declared.gate_memo.Entry.{Entry}
use Rattle.gate_sets.specs.declared.gate_memo.GateMemo.{GateMemo}
use Rattle.gate_sets.specs.NetSets.{AreNetRefs, HaveInputs, net_at, sets_at}
use Rattle.gate_sets.specs.private.TruthTables.{AreAlike, AreBothDecided, AreFrom, AreMet, HasSetOrNot, IsEntry, IsFull, choice_of_rails, entry_operands, half_rails, in_table, own_set_of, rails_of, set_by_tables, some_choice, table_choice}

-- ---- a stack of references

-- a stack is at least as long as what it begins with
longer : (old stack : List Rails) → take (length old) stack ≡ old → length old ≤ length stack
longer old stack kept = let e : min (length old) (length stack) ≡ length old = sym (length-take (length old) stack) ∙ ap length kept in omega (arith, e)

-- an element of what a stack begins with
stays : (old stack : List Rails) (place : ℕ) (r : Rails) → place < length old → r ≡ get_or stack place r → take (length old) stack ≡ old → r ≡ get_or old place r
stays old stack place r l is kept = is ∙ sym (get_or-take (length old) stack place r l) ∙ ap (λ (rs : List Rails). get_or rs place r) kept

-- what holds of the references from a place on holds of a later one
pub at_place : (P : Rails → Type 0) (old stack : List Rails) (begin place : ℕ) (r : Rails) → begin ≤ place → place < length old → r ≡ get_or stack place r → take (length old) stack ≡ old
    → All P (drop begin old) → P r
at_place P old stack begin place r le l is kept all =
    let here : begin + (place - begin) ≡ place = omega arith in
    let long = length-drop begin old in
    let same : get_or (drop begin old) (place - begin) r ≡ r = get_or-drop begin old (place - begin) r ∙ ap (λ (k : ℕ). get_or old k r) here ∙ sym (stays old stack place r l is kept) in
    subst P same (all (place - begin) r (omega (arith, long)))

-- a reference with the variable fixed, by its parts
pub halved : (s x y : Store) (v : ℕ) (b : Bool) (r : Rails) (zero_part one_part : Ref) → x ≡ s → y ≡ s → zero_part ≡ child x.held v b r.can0 → one_part ≡ child y.held v b r.can1
    → record { can0 = zero_part; can1 = one_part } ≡ half_rails s.held v b r
halved s x y v b r zero_part one_part e e' is is' =
    let first_is : zero_part ≡ child s.held v b r.can0 = is ∙ ap (λ (z : Store). child z.held v b r.can0) e in
    let second_is : one_part ≡ child s.held v b r.can1 = is' ∙ ap (λ (z : Store). child z.held v b r.can1) e' in
    λ i. record { can0 = first_is i; can1 = second_is i }

-- one more reference is put on the stack
pub half_put : (f : Rails → Rails) (old stack stack' all : List Rails) (place : ℕ) (r h : Rails) → place < length old → r ≡ get_or stack place r → h ≡ f r → stack' ≡ stack ++ h ∷ [] → take (length old) stack ≡ old
    → drop (length old) stack ++ map f (drop place old) ≡ all
    → (take (length old) stack' ≡ old) × (drop (length old) stack' ++ map f (drop (place + 1) old) ≡ all)
half_put f old stack stack' all place r h l is same pushed kept rest =
    let put : stack' ≡ stack ++ f r ∷ [] = pushed ∙ ap (λ (x : Rails). stack ++ x ∷ []) same in
    let long = longer old stack kept in
    let next : suc place ≡ place + 1 = omega arith in
    let others : List Rails = map f (drop (place + 1) old) in
    let mine : map f (drop place old) ≡ f r ∷ others = ap (map f) (drop-cons old place r l) ∙ ap (λ (x : Rails). f x ∷ map f (drop (suc place) old)) (sym (stays old stack place r l is kept)) ∙ ap (λ (n : ℕ). f r ∷ map f (drop n old)) next in (
      ap (take (length old)) put ∙ take-append-le (length old) stack (f r ∷ []) long ∙ kept,
      ap (λ (rs : List Rails). drop (length old) rs ++ others) put ∙ ap (λ (rs : List Rails). rs ++ others) (drop-append-le (length old) stack (f r ∷ []) long)
          ∙ append_assoc (drop (length old) stack) (f r ∷ []) others ∙ ap (λ (rs : List Rails). drop (length old) stack ++ rs) (sym mine) ∙ rest,
    )

-- what was put on a stack which is the old one, by the number of references before it
pub half_on : (f : Rails → Rails) (end begin : ℕ) (old same stack : List Rails) → same ≡ old → end ≡ length old → take (length same) stack ≡ same → drop (length same) stack ≡ map f (drop begin same)
    → (end ≤ length stack) × (drop end stack ≡ map f (drop begin old))
half_on f end begin old same stack e is kept added =
    let long = longer same stack kept in
    let here : end ≡ length same = is ∙ ap length (sym e) in (
      omega (arith, here, long),
      ap (λ (n : ℕ). drop n stack) here ∙ added ∙ ap (λ (rs : List Rails). map f (drop begin rs)) e,
    )

-- with all behind it taken from it again, the stack is as it was, if a call has left its beginning
pub half_off : (end : ℕ) (old same stack new cut : List Rails) → same ≡ old → end ≡ length old → take (length same) stack ≡ same → take end new ≡ take end stack → cut ≡ take end new → cut ≡ old
half_off end old same stack new cut e is kept left off = off ∙ left ∙ ap (λ (n : ℕ). take n stack) (is ∙ ap length (sym e)) ∙ kept ∙ e

-- ---- functions that are made for others

-- what is made for cofactors of two functions is made for these
spends_both : (f f' g g' : Function) (s t : Store) (out : Type 0) → IsCofactor s.vars f g → IsCofactor s.vars f' g' → Spends (g ∷ g' ∷ []) s t out → Spends (f ∷ f' ∷ []) s t out
spends_both f f' g g' s t out c c' x = record {
  keeps = x.keeps;
  limit = x.limit;
  builds = Builds-weaker (IsCofactorOf s.vars (g ∷ g' ∷ [])) (IsCofactorOf s.vars (f ∷ f' ∷ [])) s t weaker x.builds;
  spent = λ o. IsSpent-weaker (IsCofactorOf s.vars (g ∷ g' ∷ [])) (IsCofactorOf s.vars (f ∷ f' ∷ [])) t weaker (x.spent o);
}
  where
    weaker : (h : Function) → IsCofactorOf s.vars (g ∷ g' ∷ []) h → IsCofactorOf s.vars (f ∷ f' ∷ []) h
    weaker h (k, (zero, lt, e), d) = (f, here f (f' ∷ []), IsCofactor-trans s.vars f g h c (subst (λ (q : Function). IsCofactor s.vars q h) (sym e) d))
    weaker h (k, (suc zero, lt, e), d) = (f', behind f (f' ∷ []) f' (here f' []), IsCofactor-trans s.vars f' g' h c' (subst (λ (q : Function). IsCofactor s.vars q h) (sym e) d))
    weaker h (k, (suc (suc n), lt, e), d) = absurd (omega arith)

-- functions with the same values, two by two
covers_both : (v : ℕ) (h h' f f' : Function) → ((bits : List Bool) → length bits ≡ v → f bits ≡ h bits) → ((bits : List Bool) → length bits ≡ v → f' bits ≡ h' bits) → Covers v (h ∷ h' ∷ []) (f ∷ f' ∷ [])
covers_both v h h' f f' same same' k (zero, lt, e) = subst (Has v (f ∷ f' ∷ [])) e (f, here f (f' ∷ []), same)
covers_both v h h' f f' same same' k (suc zero, lt, e) = subst (Has v (f ∷ f' ∷ [])) e (f', behind f (f' ∷ []) f' (here f' []), same')
covers_both v h h' f f' same same' k (suc (suc n), lt, e) = absurd (omega arith)

-- the functions of a set
abbrev pub both_of : SymbolicSet → List Function
both_of w = w.zero ∷ w.one ∷ []

-- references of a set are those of one with the same bits
set_same : (w w' : SymbolicSet) (t : Store) → ((bits : List Bool) → length bits ≡ t.vars → w.zero bits ≡ w'.zero bits) → ((bits : List Bool) → length bits ≡ t.vars → w.one bits ≡ w'.one bits)
    → (found : Option Rails) → HasSetOrNot w t found → HasSetOrNot w' t found
set_same w w' t zeros ones None m = tt
set_same w w' t zeros ones (Some r) m = record { zero = Means-same t w.zero w'.zero r.can0 zeros m.zero; one = Means-same t w.one w'.one r.can1 ones m.one }

-- what is found of one set is found of another with the same bits
found_same : (w w' : SymbolicSet) (s t : Store) (result : Result (Option Rails) OpFault) → ((bits : List Bool) → length bits ≡ s.vars → w.zero bits ≡ w'.zero bits) → ((bits : List Bool) → length bits ≡ s.vars → w.one bits ≡ w'.one bits)
    → Built (both_of w) (HasSetOrNot w) s t result → Built (both_of w') (HasSetOrNot w') s t result
found_same w w' s t result zeros ones m =
    Built-good (both_of w') (HasSetOrNot w) (HasSetOrNot w') s t result (set_same w w' t (λ bits l. zeros bits (l ∙ m.spends.keeps.vars)) (λ bits l. ones bits (l ∙ m.spends.keeps.vars)))
    (Built-covers (both_of w') (both_of w) (HasSetOrNot w) s t result (covers_both s.vars w.zero w.one w'.zero w'.one (λ bits l. sym (zeros bits l)) (λ bits l. sym (ones bits l))) m)

-- ---- choices at given bits

-- sets of the same things that have the same bits
choice_map : {A : Type 0} (p : List Bool → Bool) (f g : A → SymbolicSet) (xs : List A) (bits other : List Bool)
    → All (λ (x : A). ((f x).zero bits ≡ (g x).zero other) × ((f x).one bits ≡ (g x).one other)) xs → some_choice p (map f xs) bits ≡ some_choice p (map g xs) other
choice_map p f g [] bits other a = refl
choice_map {A} p f g (x ∷ xs) bits other a =
    let h = All-head (λ (x : A). ((f x).zero bits ≡ (g x).zero other) × ((f x).one bits ≡ (g x).one other)) x xs a in
    let rest = All-tail (λ (x : A). ((f x).zero bits ≡ (g x).zero other) × ((f x).one bits ≡ (g x).one other)) x xs a in
    let zeros = choice_map (λ c. p (false ∷ c)) f g xs bits other rest in
    let ones = choice_map (λ c. p (true ∷ c)) f g xs bits other rest in
    λ i. (h.0 i && zeros i) || (h.1 i && ones i)

map_twice : {A B C : Type 0} (f : B → C) (g : A → B) (xs : List A) → map f (map g xs) ≡ map (λ x. f (g x)) xs
map_twice f g [] = refl
map_twice {A} {B} {C} f g (x ∷ xs) = ap (λ (ys : List C). f (g x) ∷ ys) (map_twice f g xs)

map_same : {B : Type 0} (f g : Rails → B) (rs : List Rails) → All (λ (r : Rails). f r ≡ g r) rs → map f rs ≡ map g rs
map_same f g [] a = refl
map_same {B} f g (r ∷ rs) a =
    ap (λ (y : B). y ∷ map f rs) (All-head (λ (r : Rails). f r ≡ g r) r rs a) ∙ ap (λ (ys : List B). g r ∷ ys) (map_same f g rs (All-tail (λ (r : Rails). f r ≡ g r) r rs a))

-- ---- references that read no variable before one

-- they are held, have a bit under each assignment, and read no earlier variable
pub record AreOpen (s : Store) (v : ℕ) (ops : List Rails) : Type 0 where
  pub inside : v < s.vars
  pub from : All (AreFrom s.held v) ops
  pub refs : All (AreRefs s) ops
  pub full : All (IsFull s) ops

-- the references with the variable fixed
abbrev pub half_of : Store → ℕ → Bool → List Rails → List Rails
half_of s v b ops = map (half_rails s.held v b) ops

-- the set of them
abbrev half_set : Store → ℕ → Bool → Rails → SymbolicSet
half_set s v b r = own_set_of s (half_rails s.held v b r)

-- references keep their own set
own_kept : (s t : Store) (r : Rails) → IsGood s → IsGood t → Keeps s t → AreRefs s r → own_set_of t r ≡ own_set_of s r
own_kept s t r ds dt k h =
    let zero : function t r.can0 ≡ function s r.can0 = function-keeps s t r.can0 ds dt k h.zero in
    let one : function t r.can1 ≡ function s r.can1 = function-keeps s t r.can1 ds dt k h.one in
    λ i. record { zero = zero i; one = one i }

-- references keep their choices
choice_kept : (table : ℕ) (s t : Store) (ops : List Rails) → IsGood s → IsGood t → Keeps s t → All (AreRefs s) ops → choice_of_rails table t ops ≡ choice_of_rails table s ops
choice_kept table s t ops ds dt k refs =
    let same : map (own_set_of t) ops ≡ map (own_set_of s) ops = map_same (own_set_of t) (own_set_of s) ops (λ n d lt. own_kept s t (slice_index_or ops n d) ds dt k (refs n d lt)) in
    λ i bits. some_choice (in_table table) (same i) bits

-- and their sets by tables
set_kept : (tables : TruthTables) (s t : Store) (ops : List Rails) → IsGood s → IsGood t → Keeps s t → All (AreRefs s) ops → set_by_tables tables t ops ≡ set_by_tables tables s ops
set_kept tables s t ops ds dt k refs =
    let zero : choice_of_rails tables.can0 t ops ≡ choice_of_rails tables.can0 s ops = choice_kept tables.can0 s t ops ds dt k refs in
    let one : choice_of_rails tables.can1 t ops ≡ choice_of_rails tables.can1 s ops = choice_kept tables.can1 s t ops ds dt k refs in
    λ i. record { zero = zero i; one = one i }

-- what is held, full and open stays so
Refs-keep : (s t : Store) (ops : List Rails) → Keeps s t → All (AreRefs s) ops → All (AreRefs t) ops
Refs-keep s t ops k refs = λ n d lt.
    let h = refs n d lt in
    record { zero = IsFrom-grows s.held t.held 0 (slice_index_or ops n d).can0 k.grows h.zero; one = IsFrom-grows s.held t.held 0 (slice_index_or ops n d).can1 k.grows h.one }

Full-keep : (s t : Store) (ops : List Rails) → IsGood s → IsGood t → Keeps s t → All (AreRefs s) ops → All (IsFull s) ops → All (IsFull t) ops
Full-keep s t ops ds dt k refs full = λ n d lt bits l.
    let w = own_kept s t (slice_index_or ops n d) ds dt k (refs n d lt) in
    ap (λ (w : SymbolicSet). w.zero bits || w.one bits) w ∙ full n d lt bits (l ∙ k.vars)

pub Open-keeps : (s t : Store) (v : ℕ) (ops : List Rails) → IsGood s → IsGood t → Keeps s t → AreOpen s v ops → AreOpen t v ops
Open-keeps s t v ops ds dt k o = record {
  inside = let here = k.vars in let lt = o.inside in omega (arith, here, lt);
  from = λ n d lt.
      let h = o.from n d lt in
      record { zero = IsFrom-grows s.held t.held v (slice_index_or ops n d).can0 k.grows h.zero; one = IsFrom-grows s.held t.held v (slice_index_or ops n d).can1 k.grows h.one };
  refs = Refs-keep s t ops k o.refs;
  full = Full-keep s t ops ds dt k o.refs o.full;
}

module _ (s : Store) (v : ℕ) (ops : List Rails) (ds : IsGood s) (o : AreOpen s v ops) where
  -- the references with the variable fixed are as they were
  half_refs : (b : Bool) → All (AreRefs s) (half_of s v b ops)
  half_refs b = All-map (AreRefs s) (half_rails s.held v b) ops (λ n d lt.
      let h = o.from n d lt in
      let r : Rails = slice_index_or ops n d in
      record {
        zero = IsFrom-less s.held 0 (v + 1) (child s.held v b r.can0) (omega arith) (child-from s.held s.vars v b r.can0 ds h.zero);
        one = IsFrom-less s.held 0 (v + 1) (child s.held v b r.can1) (omega arith) (child-from s.held s.vars v b r.can1 ds h.one);
      })

  half_full : (b : Bool) → All (IsFull s) (half_of s v b ops)
  half_full b = All-map (IsFull s) (half_rails s.held v b) ops (λ n d lt bits l.
      let h = o.from n d lt in
      let r : Rails = slice_index_or ops n d in
      let here = o.inside in
      ap (λ x. x || function s (child s.held v b r.can1) bits) (value-of_child s.held s.vars v b r.can0 bits ds h.zero (omega (arith, here, l)))
      ∙ ap (λ x. function s r.can0 (fixed v b bits) || x) (value-of_child s.held s.vars v b r.can1 bits ds h.one (omega (arith, here, l)))
      ∙ o.full n d lt (fixed v b bits) (length-fixed v b bits (omega (arith, here, l)) ∙ l))

  -- they are the same in a later store
  half_kept : (t : Store) (b : Bool) → IsGood t → Keeps s t → half_of t v b ops ≡ half_of s v b ops
  half_kept t b dt k = map_same (half_rails t.held v b) (half_rails s.held v b) ops (λ n d lt.
      let h = o.from n d lt in
      let r : Rails = slice_index_or ops n d in
      let dt' = IsGood-at s t k dt in
      let zero : child t.held v b r.can0 ≡ child s.held v b r.can0 = child-grows s.held t.held s.vars v b r.can0 ds dt' k.grows h.zero in
      let one : child t.held v b r.can1 ≡ child s.held v b r.can1 = child-grows s.held t.held s.vars v b r.can1 ds dt' k.grows h.one in
      λ i. record { can0 = zero i; can1 = one i })

  module _ (table : ℕ) where
    abbrev f : Function
    f = choice_of_rails table s ops

    abbrev g : Bool → Function
    g b = choice_of_rails table s (half_of s v b ops)

    -- a half by its references
    by_half : (b : Bool) (bits : List Bool) → g b bits ≡ table_choice table (map (half_set s v b) ops) bits
    by_half b bits = ap (λ (ws : List SymbolicSet). table_choice table ws bits) (map_twice (own_set_of s) (half_rails s.held v b) ops)

    g_kept : (t : Store) (b : Bool) → IsGood t → Keeps s t → choice_of_rails table t (half_of t v b ops) ≡ g b
    g_kept t b dt k = ap (choice_of_rails table t) (half_kept t b dt k) ∙ choice_kept table s t (half_of s v b ops) ds dt k (half_refs b)

    -- a half has the bits of the whole with the variable fixed
    half_fixed : (b : Bool) (bits : List Bool) → length bits ≡ s.vars → g b bits ≡ f (fixed v b bits)
    half_fixed b bits l =
        let here = o.inside in
        by_half b bits ∙ choice_map (in_table table) (half_set s v b) (own_set_of s) ops bits (fixed v b bits) (λ n d lt.
        let h = o.from n d lt in
        let r : Rails = slice_index_or ops n d in (
          value-of_child s.held s.vars v b r.can0 bits ds h.zero (omega (arith, here, l)),
          value-of_child s.held s.vars v b r.can1 bits ds h.one (omega (arith, here, l)),
        ))

    half_cofactor : (b : Bool) → IsCofactor s.vars f (g b)
    half_cofactor b = let n = length-up_to v b in let lt = o.inside in (up_to v b, omega (arith, n, lt), half_fixed b)

    -- at each bit of the variable the half for it is left
    whole_at : (bits : List Bool) → length bits ≡ s.vars → f bits ≡ g (get_or bits v false) bits
    whole_at bits l =
        let here = o.inside in
        let b : Bool = get_or bits v false in
        choice_map (in_table table) (own_set_of s) (half_set s v b) ops bits bits (λ n d lt.
        let h = o.from n d lt in
        let r : Rails = slice_index_or ops n d in (
          value-child s.held s.vars v r.can0 bits ds h.zero (omega (arith, here, l)),
          value-child s.held s.vars v r.can1 bits ds h.one (omega (arith, here, l)),
        )) ∙ sym (by_half b bits)

    -- and a half reads later variables alone
    half_same : (b : Bool) (bits other : List Bool) → length bits ≡ s.vars → length other ≡ s.vars → drop (v + 1) bits ≡ drop (v + 1) other → g b bits ≡ g b other
    half_same b bits other l l' e =
        let here = o.inside in
        by_half b bits ∙ choice_map (in_table table) (half_set s v b) (half_set s v b) ops bits other (λ n d lt.
        let h = o.from n d lt in
        let r : Rails = slice_index_or ops n d in (
          value-same_from s.held s.vars (v + 1) (child s.held v b r.can0) bits other ds (child-from s.held s.vars v b r.can0 ds h.zero) (omega (arith, here, l)) (omega (arith, here, l')) e,
          value-same_from s.held s.vars (v + 1) (child s.held v b r.can1) bits other ds (child-from s.held s.vars v b r.can1 ds h.one) (omega (arith, here, l)) (omega (arith, here, l')) e,
        )) ∙ sym (by_half b other)

    half_from : (u : Store) (b : Bool) (r : Ref) → IsGood u → Keeps s u → Means u (g b) r → IsFrom u.held (v + 1) r
    half_from u b r du k m =
        let here = o.inside in
        let vars = k.vars in
        from_function u.held u.vars (v + 1) 0 (v + 1) r du (omega arith) (omega (arith, here, vars)) m.ref
        (λ bits other l l' e. m.value bits l ∙ half_same b bits other (l ∙ vars) (l' ∙ vars) e ∙ sym (m.value other l'))

    -- references with the functions of both halves split the whole
    both_split : (u : Store) (lo hi : Ref) → IsGood u → Keeps s u → Means u (g false) lo → Means u (g true) hi → Splits u v lo hi f
    both_split u lo hi du k low high = record {
      inside = let here = o.inside in let vars = k.vars in omega (arith, here, vars);
      low = half_from u false lo du k low;
      high = half_from u true hi du k high;
      halves = λ bits l. whole_at bits (l ∙ k.vars) ∙ at_bit (get_or bits v false) bits l;
    }
      where
        at_bit : (b : Bool) (bits : List Bool) → length bits ≡ u.vars → g b bits ≡ function u (half lo hi b) bits
        at_bit true bits l = sym (high.value bits l)
        at_bit false bits l = sym (low.value bits l)

  module _ (tables : TruthTables) where
    abbrev whole : SymbolicSet
    whole = set_by_tables tables s ops

    abbrev part : Bool → SymbolicSet
    part b = set_by_tables tables s (half_of s v b ops)

    -- a half has the same set in a later store
    part_kept : (t : Store) (b : Bool) → IsGood t → Keeps s t → set_by_tables tables t (half_of t v b ops) ≡ part b
    part_kept t b dt k =
        let zero : choice_of_rails tables.can0 t (half_of t v b ops) ≡ choice_of_rails tables.can0 s (half_of s v b ops) = g_kept tables.can0 t b dt k in
        let one : choice_of_rails tables.can1 t (half_of t v b ops) ≡ choice_of_rails tables.can1 s (half_of s v b ops) = g_kept tables.can1 t b dt k in
        λ i. record { zero = zero i; one = one i }

    -- a call for a half is a part of the whole
    half_turn : (b : Bool) (t : Store) (result : Result (Option Rails) OpFault) → Built (both_of (part b)) (HasSetOrNot (part b)) s t result → Built (both_of whole) (HasSetOrNot (part b)) s t result
    half_turn b t result m = record { ok = m.ok; spends = spends_both whole.zero whole.one (part b).zero (part b).one s t _ (half_cofactor tables.can0 b) (half_cofactor tables.can1 b) m.spends }

    -- the call for the references with the variable fixed
    half_done : (b : Bool) (x y t : Store) (shown : List Rails) (result : Result (Option Rails) OpFault) → x ≡ s → y ≡ s → shown ≡ half_of x v b ops
        → Built (both_of (set_by_tables tables y shown)) (HasSetOrNot (set_by_tables tables y shown)) y t result → Built (both_of whole) (HasSetOrNot (part b)) s t result
    half_done b x y t shown result e e' is call =
        let here : shown ≡ half_of s v b ops = is ∙ ap (λ (z : Store). half_of z v b ops) e in
        half_turn b t result
        (subst (λ (rs : List Rails). Built (both_of (set_by_tables tables s rs)) (HasSetOrNot (set_by_tables tables s rs)) s t result) here
        (subst (λ (z : Store). Built (both_of (set_by_tables tables z shown)) (HasSetOrNot (set_by_tables tables z shown)) z t result) e' call))

    -- what both calls have left
    pub record AreDone (u : Store) (lo hi : Rails) : Type 0 where
      pub so : SoFar (both_of whole) s u
      pub low : AreRails u (part false) lo
      pub high : AreRails u (part true) hi

    -- references of a half read later variables alone
    pub part_from : (u : Store) (b : Bool) (r : Rails) → IsGood u → Keeps s u → AreRails u (part b) r → AreFrom u.held (v + 1) r
    part_from u b r du k m = record { zero = half_from tables.can0 u b r.can0 du k m.zero; one = half_from tables.can1 u b r.can1 du k m.one }

    -- with the nodes over both
    pub split_done : (u w : Store) (lo hi : Rails) (result : Result Rails OpFault) → IsGood u → AreDone u lo hi
        → ((h k : Function) → Splits u v lo.can0 hi.can0 h → Splits u v lo.can1 hi.can1 k → Built (h ∷ k ∷ []) (HasSet (record { zero = h; one = k })) u w result)
        → Built (both_of whole) (HasSet whole) u w result
    split_done u w lo hi result du done call =
        call whole.zero whole.one (both_split tables.can0 u lo.can0 hi.can0 du done.so.keeps done.low.zero done.high.zero) (both_split tables.can1 u lo.can1 hi.can1 du done.so.keeps done.low.one done.high.one)

-- ---- both calls

-- what a call is asked of the references with the variable fixed
pub half_asked : (s x y : Store) (v : ℕ) (b : Bool) (ops shown : List Rails) (met : GateMemo) → IsGood s → AreOpen s v ops → x ≡ s → y ≡ s → shown ≡ half_of x v b ops → length ops ≤ 6 → AreMet s (length ops) met
    → (length shown ≤ 6) × All (AreRefs y) shown × All (IsFull y) shown × AreMet y (length shown) met
half_asked s x y v b ops shown met ds o e e' is few m =
    let here : shown ≡ half_of s v b ops = is ∙ ap (λ (z : Store). half_of z v b ops) e in
    let long : length ops ≡ length shown = sym (length-map ops (half_rails s.held v b)) ∙ ap length (sym here) in (
      omega (arith, long, few),
      subst (λ (z : Store). All (AreRefs z) shown) (sym e') (subst (All (AreRefs s)) (sym here) (half_refs s v ops ds o b)),
      subst (λ (z : Store). All (IsFull z) shown) (sym e') (subst (All (IsFull s)) (sym here) (half_full s v ops ds o b)),
      subst (λ (z : Store). AreMet z (length shown) met) (sym e') (subst (λ (n : ℕ). AreMet s n met) long m),
    )

-- what was met for references with the variable fixed was met for as many
pub met_back : (x t : Store) (v : ℕ) (b : Bool) (ops shown : List Rails) (met : GateMemo) → shown ≡ half_of x v b ops → AreMet t (length shown) met → AreMet t (length ops) met
met_back x t v b ops shown met is m =
    let long : length shown ≡ length ops = ap length is ∙ length-map ops (half_rails x.held v b) in
    subst (λ (n : ℕ). AreMet t n met) long m

module _ (s : Store) (v : ℕ) (ops : List Rails) (ds : IsGood s) (o : AreOpen s v ops) (tables : TruthTables) where
  abbrev all_set : SymbolicSet
  all_set = set_by_tables tables s ops

  abbrev part_set : Bool → SymbolicSet
  part_set b = set_by_tables tables s (half_of s v b ops)

  -- the call for the half with the variable 0
  pub low_done : (x y t : Store) (zeros : List Rails) (result : Result (Option Rails) OpFault) → x ≡ s → y ≡ s → zeros ≡ half_of x v false ops
      → Built (both_of (set_by_tables tables y zeros)) (HasSetOrNot (set_by_tables tables y zeros)) y t result → Built (both_of all_set) (HasSetOrNot (part_set false)) s t result
  low_done x y t zeros result e e' is call = half_done s v ops ds o tables false x y t zeros result e e' is call

  -- and that for the half with it 1, in the store that the first one leaves
  pub high_done : (t y u : Store) (ones : List Rails) (result : Result (Option Rails) OpFault) → IsGood t → Keeps s t → y ≡ t → ones ≡ half_of t v true ops
      → Built (both_of (set_by_tables tables y ones)) (HasSetOrNot (set_by_tables tables y ones)) y u result → Built (both_of all_set) (HasSetOrNot (part_set true)) t u result
  high_done t y u ones result dt k e is call =
      let later = half_done t v ops dt (Open-keeps s t v ops ds dt k o) tables true t y u ones result refl e is call in
      let same : set_by_tables tables t ops ≡ all_set = set_kept tables s t ops ds dt k o.refs in
      let same' : set_by_tables tables t (half_of t v true ops) ≡ part_set true = part_kept s v ops ds o tables t true dt k in
      subst (λ (w : SymbolicSet). Built (both_of w) (HasSetOrNot (part_set true)) t u result) same
      (subst (λ (w : SymbolicSet). Built (both_of (set_by_tables tables t ops)) (HasSetOrNot w) t u result) same' later)

  -- both calls
  pub both_done : (t u : Store) (of_low of_high : Option Rails) (lo hi : Rails) → IsGood t → IsGood u → of_low ≡ Some lo → of_high ≡ Some hi
      → Built (both_of all_set) (HasSetOrNot (part_set false)) s t (Ok of_low) → Built (both_of all_set) (HasSetOrNot (part_set true)) t u (Ok of_high) → AreDone s v ops ds o tables u lo hi
  both_done t u of_low of_high lo hi dt du is is' low high = record {
    so = more (both_of all_set) (HasSetOrNot (part_set true)) s t u (Ok of_high) dt du (first (both_of all_set) (HasSetOrNot (part_set false)) s t (Ok of_low) low) high;
    low = Rails-keep t u (part_set false) lo dt du high.spends.keeps (subst (HasSetOrNot (part_set false) t) is low.ok);
    high = subst (HasSetOrNot (part_set true) u) is' high.ok;
  }

-- a result that is found
pub found : (w : SymbolicSet) (s t : Store) (r : Rails) → Built (both_of w) (HasSet w) s t (Ok r) → Built (both_of w) (HasSetOrNot w) s t (Ok (Some r))
found w s t r m = Built-made (both_of w) (HasSetOrNot w) s t (Some r) (first (both_of w) (HasSet w) s t (Ok r) m) m.ok

-- both references of a set are split
pub set_split : (s t u : Store) (f g : Function) (r r' : Ref) → IsGood t → IsGood u → Built (f ∷ g ∷ []) (HasFunction f) s t (Ok r) → Built (f ∷ g ∷ []) (HasFunction g) t u (Ok r')
    → Built (f ∷ g ∷ []) (HasSet (record { zero = f; one = g })) s u (Ok (record { can0 = r; can1 = r' }))
set_split s t u f g r r' dt du low high =
    let so : SoFar (f ∷ g ∷ []) s u = more (f ∷ g ∷ []) (HasFunction g) s t u (Ok r') dt du (first (f ∷ g ∷ []) (HasFunction f) s t (Ok r) low) high in
    Built-made (f ∷ g ∷ []) (HasSet (record { zero = f; one = g })) s u (record { can0 = r; can1 = r' }) so (record { zero = Means-keeps t u f r dt du high.spends.keeps low.ok; one = high.ok })

-- a split in a later store
Splits-keep : (s t : Store) (v : ℕ) (lo hi : Ref) (f : Function) → IsGood s → IsGood t → Keeps s t → Splits s v lo hi f → Splits t v lo hi f
Splits-keep s t v lo hi f ds dt k x = record {
  inside = let here = x.inside in let vars = k.vars in omega (arith, here, vars);
  low = IsFrom-grows s.held t.held (v + 1) lo k.grows x.low;
  high = IsFrom-grows s.held t.held (v + 1) hi k.grows x.high;
  halves = λ bits l. x.halves bits (l ∙ k.vars) ∙ at_bit (get_or bits v false) bits;
}
  where
    at_bit : (b : Bool) (bits : List Bool) → function s (half lo hi b) bits ≡ function t (half lo hi b) bits
    at_bit true bits = ap (λ (q : Function). q bits) (sym (function-keeps s t hi ds dt k (IsFrom-less s.held 0 (v + 1) hi (omega arith) x.high)))
    at_bit false bits = ap (λ (q : Function). q bits) (sym (function-keeps s t lo ds dt k (IsFrom-less s.held 0 (v + 1) lo (omega arith) x.low)))

-- two references split some function
own_split : (s : Store) (v : ℕ) (lo hi : Ref) → v < s.vars → IsFrom s.held (v + 1) lo → IsFrom s.held (v + 1) hi → Splits s v lo hi (λ bits. function s (half lo hi (get_or bits v false)) bits)
own_split s v lo hi lt l h = record { inside = lt; low = l; high = h; halves = λ bits l. refl }

-- what is asked of the second references where the first ones were split
pub second_asked : (s t : Store) (v : ℕ) (lo hi : Rails) (result : Result Ref OpFault) → v < s.vars → AreFrom s.held (v + 1) lo → AreFrom s.held (v + 1) hi
    → ((f : Function) → Splits s v lo.can0 hi.can0 f → Answer f s t result) → (v < t.vars) × IsFrom t.held (v + 1) lo.can1 × IsFrom t.held (v + 1) hi.can1
second_asked s t v lo hi result lt l h call =
    let k : Keeps s t = (call (λ bits. function s (half lo.can0 hi.can0 (get_or bits v false)) bits) (own_split s v lo.can0 hi.can0 lt l.zero h.zero)).keeps in
    let vars = k.vars in
    (omega (arith, lt, vars), IsFrom-grows s.held t.held (v + 1) lo.can1 k.grows l.one, IsFrom-grows s.held t.held (v + 1) hi.can1 k.grows h.one)

module _ (s t : Store) (v : ℕ) (lo hi : Rails) (f g : Function) where
  -- the first references are split
  pub first_split : (result : Result Ref OpFault) → Splits s v lo.can0 hi.can0 f → ((h : Function) → Splits s v lo.can0 hi.can0 h → Answer h s t result) → Built (f ∷ g ∷ []) (HasFunction f) s t result
  first_split result x call = Built-answer (f ∷ g ∷ []) f f s t result (here f (g ∷ [])) (λ bits l. refl) (call f x)

  -- and the second ones in a later store
  pub second_split : (u : Store) (result : Result Ref OpFault) → IsGood s → IsGood t → Keeps s t → Splits s v lo.can1 hi.can1 g → ((h : Function) → Splits t v lo.can1 hi.can1 h → Answer h t u result) → Built (f ∷ g ∷ []) (HasFunction g) t u result
  second_split u result ds dt k x call = Built-answer (f ∷ g ∷ []) g g t u result (behind f (g ∷ []) g (here g [])) (λ bits l. refl) (call g (Splits-keep s t v lo.can1 hi.can1 g ds dt k x))

-- ---- what was met

-- an entry stays right
entry_keeps : (s t : Store) (n : ℕ) (operands : List Rails) (e : Entry) → IsGood s → IsGood t → Keeps s t → IsEntry s n operands e → IsEntry t n operands e
entry_keeps s t n operands e ds dt k h = record {
  inside = h.inside;
  refs = Refs-keep s t (entry_operands n operands e) k h.refs;
  set = subst (λ (w : SymbolicSet). AreRails t w e.rails) (sym (set_kept e.tables s t (entry_operands n operands e) ds dt k h.refs)) (Rails-keep s t (set_by_tables e.tables s (entry_operands n operands e)) e.rails ds dt k h.set);
}

-- what was met is so in a later store
pub GateMemo-keeps : (s t : Store) (n : ℕ) (m : GateMemo) → IsGood s → IsGood t → Keeps s t → AreMet s n m → AreMet t n m
GateMemo-keeps s t n m ds dt k met = λ i d lt. entry_keeps s t n m.operands.items (slice_index_or m.entries.items i d) ds dt k (met i d lt)

-- nothing was met
pub none_met : (s : Store) (n : ℕ) (m : GateMemo) → m.entries.items ≡ [] → AreMet s n m
none_met s n m e = subst (All (IsEntry s n m.operands.items)) (sym e) (λ i d lt. absurd (omega arith))

-- ---- settled references

-- what is found for the settled references is found for the first ones
pub settled_found : (s t : Store) (before after : TruthTables) (old new : List Rails) (result : Result (Option Rails) OpFault) → IsGood s → AreAlike before after old new → All (IsFull s) old
    → Built (both_of (set_by_tables after s new)) (HasSetOrNot (set_by_tables after s new)) s t result → Built (both_of (set_by_tables before s old)) (HasSetOrNot (set_by_tables before s old)) s t result
settled_found s t before after old new result ds a full m =
    found_same (set_by_tables after s new) (set_by_tables before s old) s t result (λ bits l. sym (a.zero s ds full bits l)) (λ bits l. sym (a.one s ds full bits l)) m

-- what references decide is found
pub told_found : (s : Store) (tables : TruthTables) (ops shown : List Rails) (r : Rails) → IsGood s → shown ≡ ops → AreBothDecided tables shown r → All (AreRefs s) ops → All (IsFull s) ops → Built (both_of (set_by_tables tables s ops)) (HasSetOrNot (set_by_tables tables s ops)) s s (Ok (Some r))
told_found s tables ops shown r ds is here refs full =
    let told : AreBothDecided tables ops r = subst (λ (rs : List Rails). AreBothDecided tables rs r) is here in
    Built-made (both_of (set_by_tables tables s ops)) (HasSetOrNot (set_by_tables tables s ops)) s s (Some r) (So-start (both_of (set_by_tables tables s ops)) s) (record { zero = told.zero s ds refs full; one = told.one s ds refs full })

-- what was met is found
pub met_found : (s : Store) (tables : TruthTables) (ops shown : List Rails) (met : GateMemo) (r : Rails) → shown ≡ ops → AreMet s (length ops) met → (AreMet s (length shown) met → AreRails s (set_by_tables tables s shown) r)
    → Built (both_of (set_by_tables tables s ops)) (HasSetOrNot (set_by_tables tables s ops)) s s (Ok (Some r))
met_found s tables ops shown met r is m rails =
    let has = rails (subst (λ (rs : List Rails). AreMet s (length rs) met) (sym is) m) in
    Built-made (both_of (set_by_tables tables s ops)) (HasSetOrNot (set_by_tables tables s ops)) s s (Some r) (So-start (both_of (set_by_tables tables s ops)) s)
    (subst (λ (rs : List Rails). AreRails s (set_by_tables tables s rs) r) is has)

-- what is found is put to what was met
pub met_put : (s t : Store) (tables : TruthTables) (old ops shown : List Rails) (before after : GateMemo) (result : Option Rails) (r : Rails) → IsGood s → IsGood t → shown ≡ ops → length ops ≡ length old → AreMet t (length ops) before → All (AreRefs s) ops
    → result ≡ Some r → Built (both_of (set_by_tables tables s ops)) (HasSetOrNot (set_by_tables tables s ops)) s t (Ok result)
    → (AreMet t (length shown) before → All (AreRefs t) shown → AreRails t (set_by_tables tables t shown) r → AreMet t (length shown) after) → AreMet t (length old) after
met_put s t tables old ops shown before after result r ds dt is long met refs some made put =
    let k : Keeps s t = made.spends.keeps in
    let w : SymbolicSet = set_by_tables tables s ops in
    let here : AreRails t w r = subst (HasSetOrNot w t) some made.ok in
    let rails : AreRails t (set_by_tables tables t ops) r = subst (λ (w : SymbolicSet). AreRails t w r) (sym (set_kept tables s t ops ds dt k refs)) here in
    let same : length shown ≡ length old = ap length is ∙ long in
    subst (λ (n : ℕ). AreMet t n after) same (put
    (subst (λ (rs : List Rails). AreMet t (length rs) before) (sym is) met)
    (subst (All (AreRefs t)) (sym is) (Refs-keep s t ops k refs))
    (subst (λ (rs : List Rails). AreRails t (set_by_tables tables t rs) r) (sym is) rails))

-- what a call finds in a store that is another
pub found_at : (s y t : Store) (tables : TruthTables) (ops : List Rails) (result : Result (Option Rails) OpFault) → y ≡ s → Built (both_of (set_by_tables tables y ops)) (HasSetOrNot (set_by_tables tables y ops)) y t result
    → Built (both_of (set_by_tables tables s ops)) (HasSetOrNot (set_by_tables tables s ops)) s t result
found_at s y t tables ops result e m = subst (λ (z : Store). Built (both_of (set_by_tables tables z ops)) (HasSetOrNot (set_by_tables tables z ops)) z t result) e m

-- ---- the sets of inputs

-- the references of a net
abbrev pub of_net : List NetRails → NodeId → Rails
of_net nets input = rails_of (net_at nets input.0)

module _ (s : Store) (nets : List NetRails) (inputs : List NodeId) (ops : List Rails) (ds : IsGood s) (is : ops ≡ map (of_net nets) inputs) (inside : All (λ (input : NodeId). input.0 < length nets) inputs) (refs : All (AreNetRefs s) nets) where
  pub inputs_refs : All (AreRefs s) ops
  inputs_refs = subst (All (AreRefs s)) (sym is) (All-map (AreRefs s) (of_net nets) inputs (λ k d lt.
      let h : AreNetRefs s (net_at nets (slice_index_or inputs k d).0) = refs (slice_index_or inputs k d).0 _ (inside k d lt) in
      record { zero = h.zero; one = h.one }))

  pub inputs_full : All (λ (input : NodeId). (net_at nets input.0).some ≡ record { 0 = 1 }) inputs → All (IsFull s) ops
  inputs_full some = subst (All (IsFull s)) (sym is) (All-map (IsFull s) (of_net nets) inputs (λ k d lt bits l.
      let h : AreNetRefs s (net_at nets (slice_index_or inputs k d).0) = refs (slice_index_or inputs k d).0 _ (inside k d lt) in
      sym (h.some.value bits l) ∙ one_bit s (net_at nets (slice_index_or inputs k d).0).some bits ds (ap (λ (r : Ref). r.0) (some k d lt))))

  module _ (sets : ℕ → SymbolicSet) (have : HaveInputs s sets nets inputs) where
    choice_here : (table : ℕ) (bits : List Bool) → length bits ≡ s.vars → choice_of_rails table s ops bits ≡ table_choice table (sets_at sets inputs) bits
    choice_here table bits l =
        ap (λ (rs : List Rails). choice_of_rails table s rs bits) is
        ∙ ap (λ (ws : List SymbolicSet). table_choice table ws bits) (map_twice (own_set_of s) (of_net nets) inputs)
        ∙ choice_map (in_table table) (λ (input : NodeId). own_set_of s (of_net nets input)) (λ (input : NodeId). sets input.0) inputs bits bits (λ k d lt.
        let m = have k d lt in (m.zero.value bits l, m.one.value bits l))

    -- a call for the references is one for the sets
    pub call_made : (tables : TruthTables) (t : Store) (result : Result (Option Rails) OpFault)
        → Built (both_of (set_by_tables tables s ops)) (HasSetOrNot (set_by_tables tables s ops)) s t result
        → Built (table_choice tables.can0 (sets_at sets inputs) ∷ table_choice tables.can1 (sets_at sets inputs) ∷ [])
        (HasSetOrNot (record { zero = table_choice tables.can0 (sets_at sets inputs); one = table_choice tables.can1 (sets_at sets inputs) })) s t result
    call_made tables t result m =
        found_same (set_by_tables tables s ops) (record { zero = table_choice tables.can0 (sets_at sets inputs); one = table_choice tables.can1 (sets_at sets inputs) }) s t result (choice_here tables.can0) (choice_here tables.can1) m
