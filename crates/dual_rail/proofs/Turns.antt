-- One turn of each loop over a gate's rows.
use Rattle.std.proofs.Common.{◌≡◌, ℕ, zero, suc, ◌+◌, ◌<◌, List, [], ◌∷◌, ◌++◌, length, take, get_or, refl, sym, ◌∙◌, ap, subst, arith, Contains, map, Result, All, ⊎_elim}
use Rattle.std.specs.List.{AllZip}
use Rattle.std.proofs.lemmas.List.Elements.{Contains-append_left, Contains-append_right, Contains-append_cases, All-head, All-tail}
use Rattle.dd_nodes.specs.declared.node.Ref.{Ref}
use Rattle.ste_base.specs.Functions.{Function}
use Rattle.dd_nodes.specs.Stores.{Store, IsRef, Means, Keeps, function}
use Rattle.dd_nodes.proofs.Walks.{IsFrom-grows}
use Rattle.dd_nodes.proofs.Stores.{IsGood}
use Rattle.dd_ops.specs.declared.fault.OpFault.{OpFault}
use Rattle.net_core.specs.declared.cover.Lit.{Lit}
use Rattle.net_core.specs.Work.{SymbolicSet, negation, cut_work, cut_set, whole, always, never, everything, conjunction, disjunction, factor, factors, product, products, some_bit, row_products, rows_chains, rows_work, sums}
use Rattle.dual_rail.specs.declared.rails.Rails.{Rails}
use Rattle.dual_rail.specs.Rail.{Built, HasFunction, AreRails, AreRefs}
use Rattle.dual_rail.specs.private.Parts.{row_work, without, without_work}
use Rattle.dual_rail.specs.Calls.{Reached}
use Rattle.dual_rail.proofs.Works.{Within, Built-wider, last, Rails-keep, set_where, own_set}
use Rattle.dd_nodes.proofs.Spending.{own}
use Rattle.dual_rail.proofs.Chains.{chain-has, whole-next, length-factors, factors-at, row_products-at, length-row_products, rows_chains-has, some_bit-has}

pub Refs-keep : (s t : Store) (r : Rails) → Keeps s t → AreRefs s r → AreRefs t r
Refs-keep s t r k h = record { zero = IsFrom-grows s.held t.held 0 r.can0 k.grows h.zero; one = IsFrom-grows s.held t.held 0 r.can1 k.grows h.one }

pub All-refs-keep : (s t : Store) (inputs : List Rails) → Keeps s t → All (AreRefs s) inputs → All (AreRefs t) inputs
All-refs-keep s t inputs k h = λ i d l. Refs-keep s t (get_or inputs i d) k (h i d l)

pub Zip-keep : (s t : Store) (sets : List SymbolicSet) (inputs : List Rails) → IsGood s → IsGood t → Keeps s t → AllZip (AreRails s) sets inputs → AllZip (AreRails t) sets inputs
Zip-keep s t [] [] ds dt k h = tt
Zip-keep s t [] (r ∷ rs) ds dt k h = absurd h
Zip-keep s t (w ∷ ws) [] ds dt k h = absurd h
Zip-keep s t (w ∷ ws) (r ∷ rs) ds dt k h = (Rails-keep s t w r ds dt k h.0, Zip-keep s t ws rs ds dt k h.1)

pub zip_at : {X Y : Type 0} (R : X → Y → Type 0) (xs : List X) (ys : List Y) (k : ℕ) (x : X) (y : Y) → AllZip R xs ys → k < length ys → R (get_or xs k x) (get_or ys k y)
zip_at R [] [] k x y h lt = absurd (omega arith)
zip_at R [] (b ∷ ys) k x y h lt = absurd h
zip_at R (a ∷ xs) [] k x y h lt = absurd h
zip_at R (a ∷ xs) (b ∷ ys) zero x y h lt = h.0
zip_at R (a ∷ xs) (b ∷ ys) (suc k) x y h lt = zip_at R xs ys k x y h.1 (omega arith)

pub zip_long : {X Y : Type 0} (R : X → Y → Type 0) (xs : List X) (ys : List Y) → AllZip R xs ys → length xs ≡ length ys
zip_long R [] [] h = refl
zip_long R [] (b ∷ ys) h = absurd h
zip_long R (a ∷ xs) [] h = absurd h
zip_long R (a ∷ xs) (b ∷ ys) h = ap suc (zip_long R xs ys h.1)

pub own_zip : (s : Store) (inputs : List Rails) → All (AreRefs s) inputs → AllZip (AreRails s) (map (set_where s) inputs) inputs
own_zip s [] h = tt
own_zip s (r ∷ rs) h = (own_set s r (All-head (AreRefs s) r rs h), own_zip s rs (All-tail (AreRefs s) r rs h))

pub within_two : (a b : Function) (work : List Function) → Contains work a → Contains work b → Within (a ∷ b ∷ []) work
within_two a b work ha hb f (zero, lt, e) = subst (Contains work) e ha
within_two a b work ha hb f (suc zero, lt, e) = subst (Contains work) e hb
within_two a b work ha hb f (suc (suc k), lt, e) = absurd (omega arith)

pub within_more : (a : Function) (part work : List Function) → Contains work a → Within part work → Within (a ∷ part) work
within_more a part work ha h f (zero, lt, e) = subst (Contains work) e ha
within_more a part work ha h f (suc k, lt, e) = h f (k, omega arith, e)

-- one more literal
pub product_turn : (row : List Lit) (sets : List SymbolicSet) (inputs : List Rails) (s t u : Store) (k : ℕ) (lit : Lit) (r : Rails) (all : Ref) (result : Result Ref OpFault)
    → IsGood s → IsGood t → IsGood u → length row ≡ length inputs → k < length row → get_or row k lit ≡ lit → get_or inputs k r ≡ r → AllZip (AreRails s) sets inputs
    → Reached (row_work row sets) (whole conjunction always (take k (factors row sets))) s t all
    → ((f : Function) (w : SymbolicSet) → Means t f all → AreRails t w r → Built (some_bit w ∷ conjunction f (factor lit w) ∷ []) (HasFunction (conjunction f (factor lit w))) t u result)
    → Built (row_work row sets) (HasFunction (whole conjunction always (take (k + 1) (factors row sets)))) s u result
product_turn row sets inputs s t u k lit r all result ds dt du wide lt is_lit is_r zip p call =
    let fs : List Function = factors row sets in
    let long = zip_long (AreRails s) sets inputs zip in
    let n : length fs ≡ length row = length-factors row sets (omega (arith, wide, long)) in
    let f : Function = whole conjunction always (take k fs) in
    let w : SymbolicSet = get_or sets k everything in
    let aw : AreRails s w r = subst (AreRails s w) is_r (zip_at (AreRails s) sets inputs k everything r zip (omega (arith, wide))) in
    let same : get_or fs k never ≡ factor lit w = factors-at row sets k never lit everything (omega (arith, wide, long)) lt ∙ ap (λ l. factor l w) is_lit in
    let work : List Function = row_work row sets in
    let chained : Contains (products fs) (conjunction f (factor lit w)) = subst (λ (h : Function). Contains (products fs) (conjunction f h)) same (chain-has conjunction always fs k never (omega (arith, n))) in
    let inside : Within (some_bit w ∷ conjunction f (factor lit w) ∷ []) work =
    within_two (some_bit w) (conjunction f (factor lit w)) work
    (Contains-append_left (map some_bit sets) (products fs) (some_bit w) (some_bit-has sets k everything (omega (arith, wide, long))))
    (Contains-append_right (map some_bit sets) (products fs) (conjunction f (factor lit w)) chained) in
    subst (λ (h : Function). Built work (HasFunction h) s u result) (ap (conjunction f) (sym same) ∙ sym (whole-next conjunction always fs k never (omega (arith, n))))
    (last work (HasFunction (conjunction f (factor lit w))) s t u result dt du p.so
    (Built-wider work (some_bit w ∷ conjunction f (factor lit w) ∷ []) (HasFunction (conjunction f (factor lit w))) t u result inside (call f w p.means (Rails-keep s t w r ds dt p.so.keeps aw))))

-- one more row
pub sum_turn : (rows : List (List Lit)) (sets : List SymbolicSet) (inputs : List Rails) (s t u : Store) (k : ℕ) (row : List Lit) (sum : Ref) (result : Result Ref OpFault)
    → IsGood s → IsGood t → IsGood u → k < length rows → get_or rows k row ≡ row → AllZip (AreRails s) sets inputs
    → Reached (rows_work rows sets) (whole disjunction never (take k (row_products rows sets))) s t sum
    → ((f : Function) (ws : List SymbolicSet) → Means t f sum → AllZip (AreRails t) ws inputs → Built (disjunction f (product (factors row ws)) ∷ row_work row ws) (HasFunction (disjunction f (product (factors row ws)))) t u result)
    → Built (rows_work rows sets) (HasFunction (whole disjunction never (take (k + 1) (row_products rows sets)))) s u result
sum_turn rows sets inputs s t u k row sum result ds dt du lt is_row zip p call =
    let fs : List Function = row_products rows sets in
    let n : length fs ≡ length rows = length-row_products rows sets in
    let f : Function = whole disjunction never (take k fs) in
    let h : Function = product (factors row sets) in
    let same : get_or fs k never ≡ h = row_products-at rows sets k never row lt ∙ ap (λ r. product (factors r sets)) is_row in
    let work : List Function = rows_work rows sets in
    let summed : Contains (sums fs) (disjunction f h) = subst (λ (x : Function). Contains (sums fs) (disjunction f x)) same (chain-has disjunction never fs k never (omega (arith, n))) in
    let rest : List Function = rows_chains rows sets ++ sums fs in
    let has_sum : Contains work (disjunction f h) = Contains-append_right (map some_bit sets) rest (disjunction f h) (Contains-append_right (rows_chains rows sets) (sums fs) (disjunction f h) summed) in
    let row_in : Within (products (factors row sets)) (rows_chains rows sets) = subst (λ (r : List Lit). Within (products (factors r sets)) (rows_chains rows sets)) is_row (rows_chains-has rows sets k row lt) in
    let inside : Within (disjunction f h ∷ row_work row sets) work = within_more (disjunction f h) (row_work row sets) work has_sum (row_within rest row_in) in
    subst (λ (x : Function). Built work (HasFunction x) s u result) (ap (disjunction f) (sym same) ∙ sym (whole-next disjunction never fs k never (omega (arith, n))))
    (last work (HasFunction (disjunction f h)) s t u result dt du p.so
    (Built-wider work (disjunction f h ∷ row_work row sets) (HasFunction (disjunction f h)) t u result inside (call f sets p.means (Zip-keep s t sets inputs ds dt p.so.keeps zip))))
  where
    row_within : (rest : List Function) → Within (products (factors row sets)) (rows_chains rows sets) → Within (row_work row sets) (rows_work rows sets)
    row_within rest row_in x has = ⊎_elim
        (λ (h : Contains (map some_bit sets) x). Contains-append_left (map some_bit sets) (rows_chains rows sets ++ sums (row_products rows sets)) x h)
        (λ (h : Contains (products (factors row sets)) x). Contains-append_right (map some_bit sets) (rows_chains rows sets ++ sums (row_products rows sets)) x (Contains-append_left (rows_chains rows sets) (sums (row_products rows sets)) x (row_in x h)))
        (Contains-append_cases (map some_bit sets) (products (factors row sets)) x has)

-- ---- both rails of a cut
pub cut_zero : (w : SymbolicSet) (gd x : Function) (t u : Store) (result : Result Ref OpFault) → Built (without_work w.zero gd x) (HasFunction (without w.zero gd x)) t u result → Built (cut_work w gd x) (HasFunction (cut_set w gd x).zero) t u result
cut_zero w gd x t u result b = Built-wider (cut_work w gd x) (without_work w.zero gd x) (HasFunction (without w.zero gd x)) t u result
    (within_more (conjunction gd x) (negation (conjunction gd x) ∷ without w.zero gd x ∷ []) (cut_work w gd x) (1, omega arith, refl) (within_two (negation (conjunction gd x)) (without w.zero gd x) (cut_work w gd x) (3, omega arith, refl) (5, omega arith, refl))) b

pub cut_one : (w : SymbolicSet) (gd x : Function) (t u : Store) (result : Result Ref OpFault) → Built (without_work w.one gd (negation x)) (HasFunction (without w.one gd (negation x))) t u result → Built (cut_work w gd x) (HasFunction (cut_set w gd x).one) t u result
cut_one w gd x t u result b = Built-wider (cut_work w gd x) (without_work w.one gd (negation x)) (HasFunction (without w.one gd (negation x))) t u result
    (within_more (conjunction gd (negation x)) (negation (conjunction gd (negation x)) ∷ without w.one gd (negation x) ∷ []) (cut_work w gd x) (2, omega arith, refl) (within_two (negation (conjunction gd (negation x))) (without w.one gd (negation x)) (cut_work w gd x) (4, omega arith, refl) (6, omega arith, refl))) b

pub without_grows : (s t : Store) (rail guard value : Ref) (result : Result Ref OpFault) → IsRef s rail → IsRef s guard → IsRef s value
    → ((f gd x : Function) → Means s f rail → Means s gd guard → Means s x value → Built (without_work f gd x) (HasFunction (without f gd x)) s t result) → Keeps s t
without_grows s t rail guard value result hr hg hv call =
    (call (function s rail) (function s guard) (function s value) (own s rail hr) (own s guard hg) (own s value hv)).spends.keeps
