-- The products of rows and their sums, over the bits of nets.
use Rattle.std.proofs.Common.{◌≡◌, ℕ, zero, suc, ◌+◌, ◌<◌, ◌≤◌, List, [], ◌∷◌, ◌++◌, length, drop, get_or, sym, ◌∙◌, ap, subst, arith, Contains, Result, Ok, All}
use Rattle.std.proofs.Math.Seq.{drop-cons}
use Rattle.std.proofs.lemmas.List.{drop_all, get_or-map, length-map}
use Rattle.dd_nodes.specs.declared.node.Ref.{Ref}
use Rattle.ste_base.specs.Functions.{Function}
use Rattle.dd_nodes.specs.Stores.{Store, IsRef, Means, Keeps, function}
use Rattle.dd_nodes.proofs.Spending.{own}
use Rattle.dd_nodes.proofs.Stores.{IsGood, Means-keeps}
use Rattle.dd_nodes.proofs.Walks.{IsFrom-grows}
use Rattle.dd_ops.specs.declared.fault.OpFault.{OpFault}
use Rattle.ste_base.specs.declared.id.NodeId.{NodeId}
use Rattle.net_core.specs.declared.cover.Lit.{Lit}
use Rattle.net_core.specs.declared.cover.Lit.TheVariants.{Zero, One}
use Rattle.net_core.specs.Work.{chain, conjunction, disjunction, negation, never, product, products, sum, sums, whole}
use Rattle.std.specs.Prelude.{◌&&◌, Bool, true, false, Some, not, if◌then◌else◌}
use Rattle.net_core.specs.declared.cover.Cover.{Cover}
use Rattle.dd_ops.specs.Answer.{Answer}
use Rattle.dual_rail.proofs.Firsts.{except_is}
use Rattle.dual_rail.specs.Rail.{Built, HasFunction}
use Rattle.dual_rail.proofs.Works.{SoFar, Within, Built-good, Built-wider, and_built, except_built, first, here, last, not_built}
use Rattle.dual_rail.proofs.Turns.{within_more}
use Rattle.std.proofs.lemmas.List.Elements.{Contains-append_left, Contains-append_right}
use Rattle.exact_model.specs.ExactWork.{literal_factors, row_factors, rows_functions}
use Rattle.exact_engine.specs.private.Bits.{AreAt, added_work, cover_function, cover_work, net_ref, of_nodes, row_sums, rows_work}
use Rattle.exact_engine.specs.private.Joined.{Leads}
use Rattle.exact_engine.proofs.Leading.{leads_on}

-- references stay
pub refs_keep : (s t : Store) (refs : List Ref) → Keeps s t → All (IsRef s) refs → All (IsRef t) refs
refs_keep s t refs k h i d l = IsFrom-grows s.held t.held 0 (get_or refs i d) k.grows (h i d l)

-- and have the same functions
pub at_keep : (s t : Store) (bit : ℕ → Function) (refs : List Ref) (nodes : List NodeId) → IsGood s → IsGood t → Keeps s t → AreAt s bit refs nodes → AreAt t bit refs nodes
at_keep s t bit refs nodes ds dt k h i d l = let id = (get_or nodes i d).0 in Means-keeps s t (bit id) (net_ref refs id) ds dt k (h i d l)

-- the reference of a net that is there is one
pub ref_of : (s : Store) (refs : List Ref) (id : ℕ) → id < length refs → All (IsRef s) refs → IsRef s (net_ref refs id)
ref_of s refs id l h = h id _ l

-- nets have the functions of their references
pub own_at : (s : Store) (refs : List Ref) (nodes : List NodeId) → All (IsRef s) refs → All (λ node. node.0 < length refs) nodes → AreAt s (λ id. function s (net_ref refs id)) refs nodes
own_at s refs nodes h inside i d l = let id = (get_or nodes i d).0 in own s (net_ref refs id) (ref_of s refs id (inside i d l) h)

-- what a literal asks, by the operations that give it
pub times_zero : (s t : Store) (all bit : Ref) (lit : Lit) (f b : Function) (result : Result Ref OpFault) → IsGood s → lit ≡ Zero → Means s f all → Means s b bit
    → Answer (λ bits. if function s bit bits then function s (record { 0 = 0 }) bits else function s all bits) s t result
    → Built (chain conjunction f (literal_factors lit b)) (HasFunction (whole conjunction f (literal_factors lit b))) s t result
times_zero s t all bit lit f b result ds is ma mb x =
    subst (λ (l : Lit). Built (chain conjunction f (literal_factors l b)) (HasFunction (whole conjunction f (literal_factors l b))) s t result) (sym is)
    (except_built (conjunction f (negation b) ∷ []) f b s t all bit result (here (conjunction f (negation b)) []) ma mb (subst (λ (h : Function). Answer h s t result) (except_is s all bit ds) x))

pub times_one : (s t : Store) (all bit : Ref) (lit : Lit) (f b : Function) (result : Result Ref OpFault) → lit ≡ One → Means s f all → Means s b bit
    → Answer (λ bits. function s all bits && function s bit bits) s t result
    → Built (chain conjunction f (literal_factors lit b)) (HasFunction (whole conjunction f (literal_factors lit b))) s t result
times_one s t all bit lit f b result is ma mb x =
    subst (λ (l : Lit). Built (chain conjunction f (literal_factors l b)) (HasFunction (whole conjunction f (literal_factors l b))) s t result) (sym is)
    (and_built (conjunction f b ∷ []) f b s t all bit result (here (conjunction f b) []) ma mb x)

-- one more literal
pub row_turn : (row : List Lit) (inputs : List NodeId) (refs : List Ref) (bit : ℕ → Function) (s t u : Store) (k : ℕ) (lit : Lit) (input : NodeId) (r all : Ref) (result : Result Ref OpFault)
    → IsGood s → IsGood t → IsGood u → length row ≡ length inputs → k < length row → lit ≡ get_or row k lit → input ≡ get_or inputs k input → r ≡ net_ref refs input.0
    → AreAt s bit refs inputs
    → SoFar (products (row_factors row (of_nodes bit inputs))) s t
    → Leads conjunction (product (row_factors row (of_nodes bit inputs))) (products (row_factors row (of_nodes bit inputs))) (row_factors (drop k row) (drop k (of_nodes bit inputs))) t all
    → ((f b : Function) → Means t f all → Means t b r → Built (chain conjunction f (literal_factors lit b)) (HasFunction (whole conjunction f (literal_factors lit b))) t u result)
    → Built (products (row_factors row (of_nodes bit inputs))) (Leads conjunction (product (row_factors row (of_nodes bit inputs))) (products (row_factors row (of_nodes bit inputs))) (row_factors (drop (k + 1) row) (drop (k + 1) (of_nodes bit inputs)))) s u result
row_turn row inputs refs bit s t u k lit input r all result ds dt du wide l is_lit is_input is_r at so leads call =
    let fs : List Function = of_nodes bit inputs in
    let long : length fs ≡ length inputs = length-map inputs (λ (node : NodeId). bit node.0) in
    let b : Function = bit input.0 in
    let next : k + 1 ≡ suc k = omega arith in
    let rest : List Function = row_factors (drop (k + 1) row) (drop (k + 1) fs) in
    let here : get_or fs k never ≡ b = get_or-map (λ (node : NodeId). bit node.0) inputs k input never (omega (arith, wide, l)) ∙ ap (λ (node : NodeId). bit node.0) (sym is_input) in
    let row_is : drop k row ≡ lit ∷ drop (k + 1) row = drop-cons row k lit l ∙ ap (λ (x : Lit). x ∷ drop (suc k) row) (sym is_lit) ∙ ap (λ (j : ℕ). lit ∷ drop j row) (sym next) in
    let fs_is : drop k fs ≡ b ∷ drop (k + 1) fs = drop-cons fs k never (omega (arith, wide, l, long)) ∙ ap (λ (x : Function). x ∷ drop (suc k) fs) here ∙ ap (λ (j : ℕ). b ∷ drop j fs) (sym next) in
    let split : row_factors (drop k row) (drop k fs) ≡ literal_factors lit b ++ rest = ap (λ (xs : List Lit). row_factors xs (drop k fs)) row_is ∙ ap (λ (ys : List Function). row_factors (lit ∷ drop (k + 1) row) ys) fs_is in
    let work : List Function = products (row_factors row fs) in
    let target : Function = product (row_factors row fs) in
    let inside : k < length inputs = omega (arith, wide, l) in
    let means : Means s (bit input.0) (net_ref refs input.0) = subst (λ (x : NodeId). Means s (bit x.0) (net_ref refs x.0)) (sym is_input) (at k input inside) in
    let held : Means t b r = subst (λ (x : Ref). Means t b x) (sym is_r) (Means-keeps s t b (net_ref refs input.0) ds dt so.keeps means) in
    leads_on conjunction target work (literal_factors lit b) rest s t u all result dt du so
    (subst (λ (xs : List Function). Leads conjunction target work xs t all) split leads)
    (λ f m within. Built-wider work (chain conjunction f (literal_factors lit b)) (HasFunction (whole conjunction f (literal_factors lit b))) t u result within (call f b m held))

-- behind the last literal there is no factor
pub row_behind : (row : List Lit) (fs : List Function) (k : ℕ) → length row ≤ k → row_factors (drop k row) (drop k fs) ≡ []
row_behind row fs k le = ap (λ (xs : List Lit). row_factors xs (drop k fs)) (drop_all k row le)

-- ---- sums

-- the products of a row are among those of all
rows_has : (rows : List (List Lit)) (fs : List Function) (k : ℕ) (row : List Lit) → k < length rows → row ≡ get_or rows k row → Within (products (row_factors row fs)) (rows_functions rows fs)
rows_has [] fs k row l is f h = absurd (omega arith)
rows_has (first ∷ rows) fs zero row l is f h = Contains-append_left (products (row_factors first fs)) (rows_functions rows fs) f (subst (λ (x : List Lit). Contains (products (row_factors x fs)) f) is h)
rows_has (first ∷ rows) fs (suc k) row l is f h = Contains-append_right (products (row_factors first fs)) (rows_functions rows fs) f (rows_has rows fs k row (omega arith) is f h)

-- one more row
pub rows_turn : (rows : List (List Lit)) (inputs : List NodeId) (refs : List Ref) (bit : ℕ → Function) (s t u : Store) (k : ℕ) (row : List Lit) (so_far : Ref) (result : Result Ref OpFault)
    → IsGood s → IsGood t → IsGood u → k < length rows → row ≡ get_or rows k row → AreAt s bit refs inputs
    → SoFar (rows_work rows (of_nodes bit inputs)) s t
    → Leads disjunction (sum (row_sums rows (of_nodes bit inputs))) (rows_work rows (of_nodes bit inputs)) (row_sums (drop k rows) (of_nodes bit inputs)) t so_far
    → ((f : Function) (b : ℕ → Function) → Means t f so_far → AreAt t b refs inputs → Built (added_work f (row_factors row (of_nodes b inputs))) (HasFunction (disjunction f (product (row_factors row (of_nodes b inputs))))) t u result)
    → Built (rows_work rows (of_nodes bit inputs)) (Leads disjunction (sum (row_sums rows (of_nodes bit inputs))) (rows_work rows (of_nodes bit inputs)) (row_sums (drop (k + 1) rows) (of_nodes bit inputs))) s u result
rows_turn rows inputs refs bit s t u k row so_far result ds dt du l is at so leads call =
    let fs : List Function = of_nodes bit inputs in
    let p : Function = product (row_factors row fs) in
    let next : k + 1 ≡ suc k = omega arith in
    let rest : List Function = row_sums (drop (k + 1) rows) fs in
    let work : List Function = rows_work rows fs in
    let target : Function = sum (row_sums rows fs) in
    let rows_are : drop k rows ≡ row ∷ drop (k + 1) rows = drop-cons rows k row l ∙ ap (λ (x : List Lit). x ∷ drop (suc k) rows) (sym is) ∙ ap (λ (j : ℕ). row ∷ drop j rows) (sym next) in
    let split : row_sums (drop k rows) fs ≡ p ∷ rest = ap (λ (xs : List (List Lit)). row_sums xs fs) rows_are in
    leads_on disjunction target work (p ∷ []) rest s t u so_far result dt du so
    (subst (λ (xs : List Function). Leads disjunction target work xs t so_far) split leads)
    (λ f m within.
    Built-wider work (added_work f (row_factors row fs)) (HasFunction (disjunction f p)) t u result
    (within_more (disjunction f p) (products (row_factors row fs)) work (within (disjunction f p) (here (disjunction f p) []))
    (λ g h. Contains-append_left (rows_functions rows fs) (sums (row_sums rows fs)) g (rows_has rows fs k row l is g h)))
    (call f bit m (at_keep s t bit refs inputs ds dt so.keeps at)))

pub sums_behind : (rows : List (List Lit)) (fs : List Function) (k : ℕ) → length rows ≤ k → row_sums (drop k rows) fs ≡ []
sums_behind rows fs k le = ap (λ (xs : List (List Lit)). row_sums xs fs) (drop_all k rows le)

-- ---- covers
module _ (cover : Cover) (fs : List Function) where
  abbrev total : Function
  total = sum (row_sums cover.rows fs)

  abbrev both : Bool → Function
  both on = if on then total else negation total

  pub rows_in : Within (rows_work cover.rows fs) (cover_work (Some cover) fs)
  rows_in g h = Contains-append_left (rows_work cover.rows fs) (cover_function (Some cover) fs ∷ []) g h

  -- with on-rows
  pub cover_on : (s t : Store) (r : Ref) → cover.on ≡ true → Built (rows_work cover.rows fs) (HasFunction total) s t (Ok r) → Built (cover_work (Some cover) fs) (HasFunction (cover_function (Some cover) fs)) s t (Ok r)
  cover_on s t r on b =
      Built-good (cover_work (Some cover) fs) (HasFunction total) (HasFunction (both cover.on)) s t (Ok r) (λ x m. subst (λ (o : Bool). Means t (both o) x) (sym on) m)
      (Built-wider (cover_work (Some cover) fs) (rows_work cover.rows fs) (HasFunction total) s t (Ok r) rows_in b)

  -- with off-rows
  pub cover_off : (s t u : Store) (r : Ref) (result : Result Ref OpFault) → IsGood s → IsGood t → IsGood u → cover.on ≡ false → Built (rows_work cover.rows fs) (HasFunction total) s t (Ok r)
      → Answer (λ bits. not (function t r bits)) t u result → Built (cover_work (Some cover) fs) (HasFunction (cover_function (Some cover) fs)) s u result
  cover_off s t u r result ds dt du on b x =
      let work : List Function = cover_work (Some cover) fs in
      let wide = Built-wider work (rows_work cover.rows fs) (HasFunction total) s t (Ok r) rows_in b in
      let is : negation total ≡ both cover.on = ap both (sym on) in
      let has : Contains work (negation total) = subst (λ (f : Function). Contains work f) (sym is) (Contains-append_right (rows_work cover.rows fs) (both cover.on ∷ []) (both cover.on) (here (both cover.on) [])) in
      last work (HasFunction (both cover.on)) s t u result dt du (first work (HasFunction total) s t (Ok r) wide)
      (Built-good work (HasFunction (negation total)) (HasFunction (both cover.on)) t u result (λ y m. subst (λ (f : Function). Means u f y) is m)
      (not_built work total t u r result has wide.ok x))
