-- From the sums to the results, over a store with more variables than there are choices.
use Rattle.std.proofs.Common.{◌≡◌, ◌≢◌, ℕ, zero, suc, ◌+◌, ◌-◌, ◌<◌, ◌≤◌, Bool, true, false, not, List, [], ◌∷◌, ◌++◌, take, length, refl, sym, ◌∙◌, ap, subst, arith, IfOk, Result, Ok, Err, All}
use Rattle.std.specs.Prelude.{◌||◌, ◌↔◌, IsSome, IsTrue}
use Rattle.std.specs.List.{AllPairs}
use Rattle.std.proofs.Math.Seq.{take-append-add, take-length}
use Rattle.std.proofs.lemmas.List.{length-append, length-take}
use Rattle.std.proofs.lemmas.List.Elements.{All-contains}
use Rattle.ste_base.specs.Functions.{Function}
use Rattle.dd_nodes.specs.Functions.{node_count}
use Rattle.dd_nodes.specs.Spending.{Has, Spends}
use Rattle.dd_nodes.specs.Stores.{Store, function}
use Rattle.dd_nodes.proofs.Spending.{Covers, Means-same, too_few}
use Rattle.dd_nodes.proofs.Stores.{IsGood}
use Rattle.dd_ops.specs.declared.fault.OpFault.{OpFault}
use Rattle.net_core.specs.declared.raw.RawNet.{RawNet}
use Rattle.net_core.specs.Work.{negation, sum}
use Rattle.ste_model.specs.declared.task.Assertion.{Assertion}
use Rattle.ste_model.specs.Asked.{depth}
use Rattle.ste_model.specs.Holds.{IsTaskRun}
use Rattle.dual_rail.specs.Rail.{Built}
use Rattle.dual_rail.proofs.Works.{Built-covers, Built-good}
use Rattle.exact_model.specs.Choices.{bits_at, choices}
use Rattle.exact_model.specs.Exact.{IsExactlyContradictory, IsExactlyStrong, IsSoundFor}
use Rattle.exact_model.specs.ExactNeed.{IsExactNeed}
use Rattle.exact_model.specs.ExactWork.{AreExactBits, all_broken, counter_where, exact_work, exactly_contradictory_where, exactly_strong_where, met_where, some_bits, some_choices}
use Rattle.exact_model.specs.Wider.{IsOfFirst, bits_over_more}
use Rattle.exact_model.proofs.ExactFindings.{exact_results_are_findings}
use Rattle.exact_model.proofs.WiderNeeds.{wider_needs_as_many, work_first}
use Rattle.exact_engine.specs.declared.results.ExactResults.{ExactResults}
use Rattle.exact_engine.specs.Results.{AreExactRefs, TellExactly}
use Rattle.exact_engine.specs.private.Finishing.{AreResults, finish_work}
use Rattle.exact_engine.proofs.AllTimes.{tail_in}
use Rattle.exact_engine.proofs.Chosen.{some_same}

-- ---- more variables than choices

some_constant : (n : ℕ) (b : Bool) → some_bits n (λ _. b) ≡ b
some_constant zero b = refl
some_constant (suc n) b = ap (λ (c : Bool). c || some_bits n (λ _. b)) (some_constant n b) ∙ ap (λ (c : Bool). b || c) (some_constant n b) ∙ twice b
  where
    twice : (c : Bool) → (c || c) ≡ c
    twice true = refl
    twice false = refl

-- bits on which the set does not depend may be left out
some_wider : (w m : ℕ) (set : List Bool → Bool) → ((rest : List Bool) → w ≤ length rest → set rest ≡ set (take w rest)) → some_bits (w + m) set ≡ some_bits w set
some_wider zero m set first = ap (λ (k : ℕ). some_bits k set) (let e : 0 + m ≡ m = omega arith in e) ∙ some_same m set (λ _. set []) (λ rest l. first rest (omega arith)) ∙ some_constant m (set [])
some_wider (suc w) m set first =
    ap (λ (k : ℕ). some_bits k set) (let e : suc w + m ≡ suc (w + m) = omega arith in e)
    ∙ ap (λ (b : Bool). b || some_bits (w + m) (λ rest. set (true ∷ rest))) (some_wider w m (λ rest. set (false ∷ rest)) (λ rest l. first (false ∷ rest) (omega arith)))
    ∙ ap (λ (b : Bool). some_bits w (λ rest. set (false ∷ rest)) || b) (some_wider w m (λ rest. set (true ∷ rest)) (λ rest l. first (true ∷ rest) (omega arith)))

pub take_take : (n : ℕ) (bits : List Bool) → take n (take n bits) ≡ take n bits
take_take zero bits = refl
take_take (suc n) [] = refl
take_take (suc n) (b ∷ bits) = ap (λ (xs : List Bool). b ∷ xs) (take_take n bits)

module _ (net : RawNet) (vars : ℕ) (task : Assertion) (bit : ℕ → ℕ → Function) (sound : IsSoundFor net vars task) (exact : AreExactBits net vars task bit) where
  abbrev w : ℕ
  w = length (choices net task)

  abbrev pub wide : ℕ → ℕ → Function
  wide = bits_over_more (vars + w) bit

  abbrev pub work : List Function
  work = exact_work net vars task wide

  -- they are the bits of the runs too
  pub wide_exact : AreExactBits net vars task wide
  wide_exact = record {
    is_run = λ bits l. subst (λ (xs : List Bool). IsTaskRun net task.reset (depth task) (λ t id. bit t id xs)) (sym (whole bits l)) (exact.is_run bits l);
    chosen = λ bits l. ap (λ (xs : List Bool). bits_at (choices net task) (λ t id. bit t id xs)) (whole bits l) ∙ exact.chosen bits l;
  }
    where
      whole : (bits : List Bool) → length bits ≡ vars + w → take (vars + w) bits ≡ bits
      whole bits l = ap (λ (n : ℕ). take n bits) (sym l) ∙ take-length bits

  all_first : All (IsOfFirst (vars + w)) work
  all_first = work_first (vars + w) net vars task (omega arith) sound.reads_ant sound.reads_con wide (λ t id bits l. ap (bit t id) (sym (take_take (vars + w) bits)))

  met_first : IsOfFirst (vars + w) (met_where task wide)
  met_first = All-contains (IsOfFirst (vars + w)) work (met_where task wide) all_first (tail_in net vars task wide (met_where task wide) (0, omega arith, refl))

  pub counter_first : IsOfFirst (vars + w) (counter_where task wide)
  counter_first = All-contains (IsOfFirst (vars + w)) work (counter_where task wide) all_first (tail_in net vars task wide (counter_where task wide) (1, omega arith, refl))

  -- some choices over all further variables, or over the choices alone
  some_as : (total : ℕ) (f : Function) → vars + w ≤ total → IsOfFirst (vars + w) f → (bits : List Bool) → length bits ≡ total → some_choices vars (total - vars) f bits ≡ some_choices vars w f bits
  some_as total f room first bits l =
      let front : List Bool = take vars bits in
      let long : length front ≡ vars = simp (length-take) (omega (arith, l, room)) in
      let m : ℕ = total - (vars + w) in
      let split : total - vars ≡ w + m = omega (arith, room) in
      let set : List Bool → Bool = λ (rest : List Bool). f (front ++ rest) in
      let cut : (rest : List Bool) → take (vars + w) (front ++ rest) ≡ front ++ take w rest = λ rest. ap (λ (n : ℕ). take (n + w) (front ++ rest)) (sym long) ∙ take-append-add front rest w in
      ap (λ (k : ℕ). some_bits k set) split
      ∙ some_wider w m set (λ rest h. first (front ++ rest) (let e = length-append front rest in omega (arith, long, h, e)) ∙ ap f (cut rest))

  module _ (total : ℕ) (room : vars + w ≤ total) where
    abbrev a : Function
    a = sum (all_broken task task.ant wide)

    abbrev b : Function
    b = sum (all_broken task task.con wide)

    strong_as : (bits : List Bool) → length bits ≡ total → some_choices vars (total - vars) (counter_where task wide) bits ≡ exactly_strong_where net vars task wide bits
    strong_as = some_as total (counter_where task wide) room counter_first

    met_as : (bits : List Bool) → length bits ≡ total → some_choices vars (total - vars) (met_where task wide) bits ≡ some_choices vars w (met_where task wide) bits
    met_as = some_as total (met_where task wide) room met_first

    -- what is built for the results is among all
    finish_covers : Covers total (finish_work vars (total - vars) a b) work
    finish_covers f (zero, lt, e) = subst (λ (g : Function). Has total work g) e (met_where task wide, tail_in net vars task wide (met_where task wide) (0, omega arith, refl), λ bits l. refl)
    finish_covers f (suc zero, lt, e) = subst (λ (g : Function). Has total work g) e (counter_where task wide, tail_in net vars task wide (counter_where task wide) (1, omega arith, refl), λ bits l. refl)
    finish_covers f (suc (suc zero), lt, e) = subst (λ (g : Function). Has total work g) e (exactly_strong_where net vars task wide, tail_in net vars task wide (exactly_strong_where net vars task wide) (2, omega arith, refl), λ bits l. sym (strong_as bits l))
    finish_covers f (suc (suc (suc zero)), lt, e) = subst (λ (g : Function). Has total work g) e (some_choices vars w (met_where task wide), tail_in net vars task wide (some_choices vars w (met_where task wide)) (3, omega arith, refl), λ bits l. sym (met_as bits l))
    finish_covers f (suc (suc (suc (suc zero))), lt, e) = subst (λ (g : Function). Has total work g) e (exactly_contradictory_where net vars task wide, tail_in net vars task wide (exactly_contradictory_where net vars task wide) (4, omega arith, refl), λ bits l. ap not (sym (met_as bits l)))
    finish_covers f (suc (suc (suc (suc (suc k)))), lt, e) = absurd (omega arith)

    pub finished : (t u : Store) (result : Result ExactResults OpFault) → t.vars ≡ total → Built (finish_work vars (t.vars - vars) a b) (AreResults vars (t.vars - vars) a b) t u result → Built work (AreExactRefs net vars task wide) t u result
    finished t u result vt made =
        let x : Built (finish_work vars (total - vars) a b) (AreResults vars (total - vars) a b) t u result = subst (λ (n : ℕ). Built (finish_work vars (n - vars) a b) (AreResults vars (n - vars) a b) t u result) vt made in
        let vu : u.vars ≡ total = x.spends.keeps.vars ∙ vt in
        Built-good work (AreResults vars (total - vars) a b) (AreExactRefs net vars task wide) t u result
        (λ r m. record {
          counter = m.counter;
          strong = Means-same u (some_choices vars (total - vars) (counter_where task wide)) (exactly_strong_where net vars task wide) r.strong (λ bits l. strong_as bits (l ∙ vu)) m.strong;
          contradictory = Means-same u (negation (some_choices vars (total - vars) (met_where task wide))) (exactly_contradictory_where net vars task wide) r.contradictory (λ bits l. ap not (met_as bits (l ∙ vu))) m.contradictory;
        })
        (Built-covers work (finish_work vars (total - vars) a b) (AreResults vars (total - vars) a b) t u result (subst (λ (n : ℕ). Covers n (finish_work vars (total - vars) a b) work) (sym vt) finish_covers) x)

  -- ---- what the results say

  front : (s : Store) (f : Function) (P : List Bool → Type 0) (bits : List Bool) (value : Bool) → length (take vars bits) ≡ vars → ((xs : List Bool) → length xs ≡ vars → IsTrue (f xs) ↔ P xs) → value ≡ f bits → f (take vars bits) ≡ f bits → IsTrue value ↔ P (take vars bits)
  front s f P bits value long tells is same = subst (λ (c : Bool). IsTrue c ↔ P (take vars bits)) (same ∙ sym is) (tells (take vars bits) long)

  pub tells_exactly : (t : Store) (r : ExactResults) → vars + w ≤ t.vars → AreExactRefs net vars task wide t r → TellExactly net vars task t r
  tells_exactly t r room refs = record {
    counter_ref = refs.counter.ref;
    strong_ref = refs.strong.ref;
    contradictory_ref = refs.contradictory.ref;
    strong = λ bits l. front t (exactly_strong_where net vars task wide) (IsExactlyStrong net task) bits (function t r.strong bits) (simp (length-take) (omega (arith, l, room)))
        (exact_results_are_findings.strong net vars task wide sound wide_exact) (refs.strong.value bits l)
        (ap (λ (xs : List Bool). some_bits w (λ rest. counter_where task wide (xs ++ rest))) (take_take vars bits));
    contradictory = λ bits l. front t (exactly_contradictory_where net vars task wide) (IsExactlyContradictory net task) bits (function t r.contradictory bits) (simp (length-take) (omega (arith, l, room)))
        (exact_results_are_findings.contradictory net vars task wide sound wide_exact) (refs.contradictory.value bits l)
        (ap (λ (xs : List Bool). not (some_bits w (λ rest. met_where task wide (xs ++ rest)))) (take_take vars bits));
  }

  -- where steps are out, fewer were left than the assertion needs
  pub short : (s t : Store) (out : Type 0) → vars + w ≤ s.vars → IsGood t → AllPairs (λ a b. a ≢ b) t.made → All (λ r. IsSome (t.held r)) t.made → Spends work s t out → out → (need : ℕ) → IsExactNeed net vars task need → s.limit < length s.made + need
  short s t out room d apart held spends o need is =
      let more : ℕ = s.vars - (vars + w) in
      let split : vars + w + more ≡ s.vars = omega (arith, room) in
      let count : node_count s.vars work ≡ need = ap (λ (n : ℕ). node_count n work) (sym split) ∙ wider_needs_as_many net vars task bit need more sound exact is in
      subst (λ (n : ℕ). s.limit < length s.made + n) count (too_few work s t out d apart held spends o)

  pub told : (s t : Store) (result : Result ExactResults OpFault) → vars + w ≤ s.vars → Built work (AreExactRefs net vars task wide) s t result → IfOk result (λ r. TellExactly net vars task t r)
  told s t (Ok r) room b = tells_exactly t r (let e = b.spends.keeps.vars in omega (arith, room, e)) b.ok
  told s t (Err e) room b = tt
