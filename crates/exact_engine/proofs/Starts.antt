-- The bits of the nets that no gate drives, net by net.
use Rattle.std.proofs.Common.{◌≡◌, ◌≢◌, ℕ, zero, suc, ◌+◌, ◌<◌, ◌≤◌, Bool, true, false, not, List, [], ◌∷◌, ◌++◌, length, get_or, refl, sym, ◌∙◌, ap, subst, arith, inl, inr, Contains, Result, Ok, All}
use Rattle.std.specs.Prelude.{◌||◌, IsTrue, Option, Some, slice_get, slice_index_or, if◌then◌else◌}
use Rattle.std.proofs.lemmas.Bool.{cases_lt}
use Rattle.std.proofs.lemmas.List.{length-append, get_or_append_left}
use Rattle.std.proofs.lemmas.Option.{slice_get-get_or}
use Rattle.dd_nodes.specs.declared.node.Ref.{Ref}
use Rattle.ste_base.specs.Functions.{Function}
use Rattle.dd_nodes.specs.Stores.{Store, IsRef, Keeps, Means}
use Rattle.dd_nodes.proofs.Spending.{Means-same, one_means, zero_means}
use Rattle.dd_nodes.proofs.Stores.{IsGood, Means-keeps}
use Rattle.dd_ops.specs.declared.fault.OpFault.{OpFault}
use Rattle.dd_ops.specs.Answer.{Answer}
use Rattle.net_core.specs.declared.raw.Init.{Init}
use Rattle.net_core.specs.declared.raw.Init.TheVariants as init
use Rattle.net_core.specs.declared.raw.Gate.{Gate}
use Rattle.net_core.specs.declared.raw.Latch.{Latch}
use Rattle.net_core.specs.declared.raw.RawNet.{RawNet}
use Rattle.net_core.specs.declared.source.Source.{Source}
use Rattle.net_core.specs.declared.source.Source.TheVariants as source
use Rattle.net_core.specs.Flat.{HasOneDriver}
use Rattle.net_core.specs.Run.{IsInitial}
use Rattle.net_core.specs.Source.{source_of}
use Rattle.net_core.proofs.OneTime.{Facts, facts}
use Rattle.dual_rail.specs.Rail.{Built, HasFunction}
use Rattle.dual_rail.proofs.Works.{SoFar, Built-answer, Built-good, Built-made, Built-wider, So-start, last}
use Rattle.exact_model.specs.Choices.{cells_at, is_first_choice, is_free, is_open, starts_free}
use Rattle.exact_model.specs.ExactWork.{bit_functions}
use Rattle.exact_engine.specs.private.Bits.{AreBits, net_ref}
use Rattle.exact_engine.specs.private.Counts.{first_test, open_test}
use Rattle.exact_engine.specs.private.Sources.{AreChoices, FollowLatches, HasStart, IsFirstTime, IsNextTime, IsSource, IsVariable, StartsAt}
use Rattle.exact_engine.proofs.Settled.{bits_have}

-- ---- one net

pub variable_built : (work : List Function) (f : Function) (s t : Store) (k : ℕ) (result : Result Ref OpFault) → Contains work f → IsVariable s.vars k f → Answer (λ bits. slice_index_or bits k false) s t result → Built work (HasFunction f) s t result
variable_built work f s t k result has is x = Built-answer work (λ bits. slice_index_or bits k false) f s t result has (λ bits l. sym (is bits l)) x

reset_on : (reset free : Bool) → (not reset || free) ≡ false → IsTrue reset
reset_on true free e = refl
reset_on false free e = absurd (cc e)

pub start_one : (s : Store) (reset : Bool) (latch : Latch) (f : Function) → IsGood s → (not reset || is_free latch.init) ≡ false → latch.init ≡ init.One → HasStart s.vars reset latch f → Built (f ∷ []) (HasFunction f) s s (Ok (record { 0 = 1 }))
start_one s reset latch f d fixed is start =
    Built-made (f ∷ []) (HasFunction f) s s (record { 0 = 1 }) (So-start (f ∷ []) s)
    (Means-same s (λ _. true) f (record { 0 = 1 }) (λ bits l. sym (subst (λ (i : Init). IsInitial i (f bits)) is (start bits l (reset_on reset (is_free latch.init) fixed)))) (one_means s d))

pub start_zero : (s : Store) (reset : Bool) (latch : Latch) (f : Function) → IsGood s → (not reset || is_free latch.init) ≡ false → latch.init ≡ init.Zero → HasStart s.vars reset latch f → Built (f ∷ []) (HasFunction f) s s (Ok (record { 0 = 0 }))
start_zero s reset latch f d fixed is start =
    Built-made (f ∷ []) (HasFunction f) s s (record { 0 = 0 }) (So-start (f ∷ []) s)
    (Means-same s (λ _. false) f (record { 0 = 0 }) (λ bits l. sym (subst (λ (i : Init). IsInitial i (f bits)) is (start bits l (reset_on reset (is_free latch.init) fixed)))) (zero_means s d))

module _ (net : RawNet) (driver : HasOneDriver net) (id : ℕ) where
  fact_at : (src : Source) → src ≡ source_of net id → Facts net id src
  fact_at src e = subst (λ (x : Source). Facts net id x) (sym e) (facts net driver id)

  -- a net that is open is a variable
  pub open_source : (s t : Store) (bit : ℕ → Function) (src : Source) (k : ℕ) (result : Result Ref OpFault) → id < net.nets → src ≡ source_of net id → IsTrue (is_open src) → (IsTrue (open_test net id) → IsVariable s.vars k (bit id))
      → Answer (λ bits. slice_index_or bits k false) s t result → Built (bit_functions bit net.nets) (λ u r. IsSource u net bit id r) s t result
  open_source s t bit src k result l e h is x =
      Built-good (bit_functions bit net.nets) (HasFunction (bit id)) (λ u r. IsSource u net bit id r) s t result (λ r m none. m)
      (variable_built (bit_functions bit net.nets) (bit id) s t k result (bits_have bit net.nets id l) (is (subst (λ (y : Source). IsTrue (is_open y)) e h)) x)

  -- of the output of a gate nothing is said
  pub gate_source : (s : Store) (bit : ℕ → Function) (src : Source) (g : ℕ) (r : Ref) → src ≡ source_of net id → src ≡ source.Gate g → Built (bit_functions bit net.nets) (λ u r. IsSource u net bit id r) s s (Ok r)
  gate_source s bit src g r e is =
      let f : Facts net id (source.Gate g) = subst (λ (x : Source). Facts net id x) is (fact_at src e) in
      let some : Gate = record { inputs = []; output = record { 0 = 0 }; cover = 0 } in
      Built-made (bit_functions bit net.nets) (λ u r. IsSource u net bit id r) s s r (So-start (bit_functions bit net.nets) s) (λ none. absurd (none g some f.0 (f.1 some)))

  pub latch_inside : (src : Source) (l : ℕ) → src ≡ source_of net id → src ≡ source.Latch l → l < length net.latches
  latch_inside src l e is = (subst (λ (x : Source). Facts net id x) is (fact_at src e)).0

  latch_out : (src : Source) (l : ℕ) (latch : Latch) → src ≡ source_of net id → src ≡ source.Latch l → latch ≡ get_or net.latches l latch → latch.output.0 ≡ id
  latch_out src l latch e is at = ap (λ (x : Latch). x.output.0) at ∙ (subst (λ (x : Source). Facts net id x) is (fact_at src e)).1 latch

  pub first_may : (src : Source) (l : ℕ) (latch : Latch) (reset : Bool) → src ≡ source_of net id → src ≡ source.Latch l → latch ≡ get_or net.latches l latch → IsTrue (starts_free reset (Some latch)) → IsTrue (first_test net reset id)
  first_may src l latch reset e is at h =
      let inside = latch_inside src l e is in
      let got : slice_get net.latches l ≡ Some latch = slice_get-get_or net.latches l latch inside ∙ ap Some (sym at) in
      subst (λ (x : Source). IsTrue (is_first_choice net reset x)) (sym is ∙ e) (subst (λ (o : Option Latch). IsTrue (starts_free reset o)) (sym got) h)

  -- at time 0 a latch output has what the latch may start with
  pub first_latch : (s t : Store) (bit : ℕ → Function) (src : Source) (l : ℕ) (latch : Latch) (reset : Bool) (k : ℕ) (result : Result Ref OpFault) → id < net.nets → src ≡ source_of net id → src ≡ source.Latch l → latch ≡ get_or net.latches l latch
      → (IsTrue (first_test net reset id) → IsVariable s.vars k (bit id)) → StartsAt s.vars net reset bit
      → ((f : Function) → (IsTrue (starts_free reset (Some latch)) → IsVariable s.vars k f) → HasStart s.vars reset latch f → Built (f ∷ []) (HasFunction f) s t result)
      → Built (bit_functions bit net.nets) (λ u r. IsSource u net bit id r) s t result
  first_latch s t bit src l latch reset k result inside e is at first starts call =
      let start : HasStart s.vars reset latch (bit latch.output.0) = subst (λ (x : Latch). HasStart s.vars reset x (bit x.output.0)) (sym at) (starts l latch (latch_inside src l e is)) in
      let own : HasStart s.vars reset latch (bit id) = subst (λ (i : ℕ). HasStart s.vars reset latch (bit i)) (latch_out src l latch e is at) start in
      Built-good (bit_functions bit net.nets) (HasFunction (bit id)) (λ u r. IsSource u net bit id r) s t result (λ r m none. m)
      (Built-wider (bit_functions bit net.nets) (bit id ∷ []) (HasFunction (bit id)) s t result
      (λ f h. subst (λ (x : Function). Contains (bit_functions bit net.nets) x) (one_of (bit id) f h) (bits_have bit net.nets id inside))
      (call (bit id) (λ h. first (first_may src l latch reset e is at h)) own))
    where
      one_of : (x f : Function) → Contains (x ∷ []) f → x ≡ f
      one_of x f (zero, lt, same) = same
      one_of x f (suc j, lt, same) = absurd (omega arith)

  -- at a later time it has what the latch input had
  pub next_latch : (s : Store) (before bit : ℕ → Function) (src : Source) (l : ℕ) (latch : Latch) (refs : List Ref) → src ≡ source_of net id → src ≡ source.Latch l → latch ≡ get_or net.latches l latch → latch.input.0 < net.nets
      → AreBits s net.nets before refs → FollowLatches s.vars net before bit → Built (bit_functions bit net.nets) (λ u r. IsSource u net bit id r) s s (Ok (net_ref refs latch.input.0))
  next_latch s before bit src l latch refs e is at inside bits follow =
      let same : (all : List Bool) → length all ≡ s.vars → bit latch.output.0 all ≡ before latch.input.0 all =
      λ all m. subst (λ (x : Latch). bit x.output.0 all ≡ before x.input.0 all) (sym at) (follow l latch (latch_inside src l e is) all m) in
      Built-made (bit_functions bit net.nets) (λ u r. IsSource u net bit id r) s s (net_ref refs latch.input.0) (So-start (bit_functions bit net.nets) s)
      (λ none. Means-same s (before latch.input.0) (bit id) (net_ref refs latch.input.0) (λ all m. sym (same all m) ∙ ap (λ (i : ℕ). bit i all) (latch_out src l latch e is at)) (bits latch.input.0 inside))

-- ---- counting choices

pub cells_next : (passes : ℕ → Bool) (t n : ℕ) → length (cells_at passes t (n + 1)) ≡ (if passes n then length (cells_at passes t n) + 1 else length (cells_at passes t n))
cells_next passes t n = ap (λ (k : ℕ). length (cells_at passes t k)) (let e : n + 1 ≡ suc n = omega arith in e) ∙ by (passes n)
  where
    by : (b : Bool) → length (if b then cells_at passes t n ++ record { time = t; net = n } ∷ [] else cells_at passes t n) ≡ (if b then length (cells_at passes t n) + 1 else length (cells_at passes t n))
    by true = length-append (cells_at passes t n) (record { time = t; net = n } ∷ [])
    by false = refl

cells_step : (passes : ℕ → Bool) (t n : ℕ) → length (cells_at passes t n) ≤ length (cells_at passes t (suc n))
cells_step passes t n = by (passes n)
  where
    by : (b : Bool) → length (cells_at passes t n) ≤ length (if b then cells_at passes t n ++ record { time = t; net = n } ∷ [] else cells_at passes t n)
    by true = let e = length-append (cells_at passes t n) (record { time = t; net = n } ∷ []) in omega (arith, e)
    by false = omega arith

pub cells_grow : (passes : ℕ → Bool) (t n m : ℕ) → n ≤ m → length (cells_at passes t n) ≤ length (cells_at passes t m)
cells_grow passes t n zero l = let e : n ≡ zero = omega arith in subst (λ (k : ℕ). length (cells_at passes t k) ≤ 0) (sym e) (omega arith)
cells_grow passes t n (suc m) l = elim (cases_lt n (suc m)) [
  | inl early ↦ let a = cells_grow passes t n m (omega arith) in let b = cells_step passes t m in omega (arith, a, b)
  | inr late ↦ let e : n ≡ suc m = omega arith in subst (λ (k : ℕ). length (cells_at passes t k) ≤ length (cells_at passes t (suc m))) (sym e) (omega arith)
]

-- the next choice is within the number of all
pub cells_below : (passes : ℕ → Bool) (t n m : ℕ) → n < m → IsTrue (passes n) → length (cells_at passes t n) < length (cells_at passes t m)
cells_below passes t n m l h =
    let one : length (cells_at passes t (n + 1)) ≡ length (cells_at passes t n) + 1 = cells_next passes t n ∙ ap (λ (b : Bool). if b then length (cells_at passes t n) + 1 else length (cells_at passes t n)) h in
    let more = cells_grow passes t (n + 1) m (omega arith) in
    omega (arith, one, more)

-- the variable behind a net
pub next_variable : (passes : ℕ → Bool) (start next n : ℕ) → next ≡ start + length (cells_at passes 0 n) → (if passes n then next + 1 else next) ≡ start + length (cells_at passes 0 (n + 1))
next_variable passes start next n e = by (passes n) ∙ ap (λ (k : ℕ). start + k) (sym (cells_next passes 0 n))
  where
    by : (b : Bool) → (if b then next + 1 else next) ≡ start + (if b then length (cells_at passes 0 n) + 1 else length (cells_at passes 0 n))
    by true = omega (arith, e)
    by false = e

-- ---- one net more

-- the references of the first n nets, where no gate drives them
abbrev pub AreFirst : Store → RawNet → (ℕ → Function) → ℕ → List Ref → Type 0
AreFirst s net bit n refs = (id : ℕ) → id < n → IsSource s net bit id (net_ref refs id)

pub first_push : (t u : Store) (net : RawNet) (bit : ℕ → Function) (n : ℕ) (refs : List Ref) (r : Ref) → IsGood t → IsGood u → Keeps t u → length refs ≡ n → AreFirst t net bit n refs → IsSource u net bit n r → AreFirst u net bit (n + 1) (refs ++ r ∷ [])
first_push t u net bit n refs r dt du k long before now id l none = elim (cases_lt id n) [
  | inl early ↦
      let same : net_ref (refs ++ r ∷ []) id ≡ net_ref refs id = get_or_append_left refs (r ∷ []) (record { 0 = 0 }) id (omega (arith, early, long)) in
      subst (λ (x : Ref). Means u (bit id) x) (sym same) (Means-keeps t u (bit id) (net_ref refs id) dt du k (before id early none))
  | inr late ↦
      let e : id ≡ n = omega (arith, late, l) in
      let same : net_ref (refs ++ r ∷ []) n ≡ r = ap (λ (k : ℕ). net_ref (refs ++ r ∷ []) k) (sym long) ∙ at_seam refs r in
      subst (λ (k : ℕ). Means u (bit k) (net_ref (refs ++ r ∷ []) k)) (sym e) (subst (λ (x : Ref). Means u (bit n) x) (sym same) (now (subst (λ (k : ℕ). All (λ gate. gate.output.0 ≢ k) net.gates) e none)))
]
  where
    at_seam : (xs : List Ref) (x : Ref) → net_ref (xs ++ x ∷ []) (length xs) ≡ x
    at_seam [] x = refl
    at_seam (y ∷ xs) x = at_seam xs x

pub refs_push : (u : Store) (refs : List Ref) (r : Ref) → All (IsRef u) refs → IsRef u r → All (IsRef u) (refs ++ r ∷ [])
refs_push u [] r all h zero d l = h
refs_push u [] r all h (suc k) d l = absurd (omega arith)
refs_push u (x ∷ xs) r all h zero d l = all 0 d (omega arith)
refs_push u (x ∷ xs) r all h (suc k) d l = refs_push u xs r (λ j e m. all (suc j) e (omega arith)) h k d (omega arith)

-- ---- turns of the loops

pub next_below : (passes : ℕ → Bool) (start next n nets vars : ℕ) → next ≡ start + length (cells_at passes 0 n) → start + length (cells_at passes 0 nets) ≤ vars → n < nets → IsTrue (passes n) → next < vars
next_below passes start next n nets vars e room l h = let below = cells_below passes 0 n nets l h in omega (arith, e, room, below)

module _ (net : RawNet) (s t u : Store) (n : ℕ) (dt : IsGood t) (du : IsGood u) (keeps : Keeps s t) (l : n < net.nets) where
  variable_at : (passes : ℕ → Bool) (start next : ℕ) (bit : ℕ → Function) → next ≡ start + length (cells_at passes 0 n) → AreChoices s.vars passes net.nets start bit → IsTrue (passes n) → IsVariable t.vars next (bit n)
  variable_at passes start next bit e are h =
      subst (λ (v : ℕ). IsVariable v next (bit n)) (sym keeps.vars) (subst (λ (k : ℕ). IsVariable s.vars k (bit n)) (sym e) (are n l h))

  pub first_turn : (reset : Bool) (first choice next open_next : ℕ) (bit : ℕ → Function) (result : Result Ref OpFault) → next ≡ first + length (cells_at (first_test net reset) 0 n) → open_next ≡ choice + length (cells_at (open_test net) 0 n)
      → IsFirstTime s.vars net reset first choice bit → SoFar (bit_functions bit net.nets) s t
      → ((b : ℕ → Function) → (IsTrue (first_test net reset n) → IsVariable t.vars next (b n)) → (IsTrue (open_test net n) → IsVariable t.vars open_next (b n)) → StartsAt t.vars net reset b → Built (bit_functions b net.nets) (λ v r. IsSource v net b n r) t u result)
      → Built (bit_functions bit net.nets) (λ v r. IsSource v net bit n r) s u result
  first_turn reset first choice next open_next bit result e f given so call =
      last (bit_functions bit net.nets) (λ v r. IsSource v net bit n r) s t u result dt du so
      (call bit (variable_at (first_test net reset) first next bit e given.firsts) (variable_at (open_test net) choice open_next bit f given.inputs)
      (subst (λ (v : ℕ). StartsAt v net reset bit) (sym keeps.vars) given.starts))

  pub next_turn : (choice open_next : ℕ) (before bit : ℕ → Function) (refs : List Ref) (result : Result Ref OpFault) → IsGood s → open_next ≡ choice + length (cells_at (open_test net) 0 n)
      → AreBits s net.nets before refs → IsNextTime s.vars net choice before bit → SoFar (bit_functions bit net.nets) s t
      → ((a b : ℕ → Function) → AreBits t net.nets a refs → (IsTrue (open_test net n) → IsVariable t.vars open_next (b n)) → FollowLatches t.vars net a b → Built (bit_functions b net.nets) (λ v r. IsSource v net b n r) t u result)
      → Built (bit_functions bit net.nets) (λ v r. IsSource v net bit n r) s u result
  next_turn choice open_next before bit refs result ds f at given so call =
      last (bit_functions bit net.nets) (λ v r. IsSource v net bit n r) s t u result dt du so
      (call before bit (λ id m. Means-keeps s t (before id) (net_ref refs id) ds dt keeps (at id m)) (variable_at (open_test net) choice open_next bit f given.inputs)
      (subst (λ (v : ℕ). FollowLatches v net before bit) (sym keeps.vars) given.latches))
