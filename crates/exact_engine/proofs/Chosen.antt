-- What some choices make of the function of a reference, node by node.
use Rattle.std.proofs.Common.{◌≡◌, ℕ, zero, suc, ◌+◌, ◌-◌, ◌<◌, ◌≤◌, Bool, true, false, List, [], ◌∷◌, ◌++◌, take, drop, length, get_or, refl, sym, ◌∙◌, ap, subst, arith, Contains, Result, Some, cond}
use Rattle.std.specs.Prelude.{◌||◌, ◌==◌}
use Rattle.std.specs.HashMap.{get}
use Rattle.std.proofs.lemmas.Bool.{eqb-true}
use Rattle.std.proofs.lemmas.List.{drop-append-le, drop-take, get_or-take, get_or_append_left, length-append, length-drop, length-take}
use Rattle.std.proofs.Math.Seq.{drop-append_seam}
use Rattle.dd_nodes.specs.declared.node.Ref.{Ref}
use Rattle.dd_nodes.specs.declared.node.Node.{Node}
use Rattle.ste_base.specs.Functions.{Function}
use Rattle.dd_nodes.specs.Diagram.{IsCofactor, IsFrom, same_ref}
use Rattle.dd_nodes.specs.Stores.{Store, IsRef, Keeps, Means, function}
use Rattle.dd_nodes.specs.Spending.{Has}
use Rattle.dd_nodes.proofs.Spending.{Means-same}
use Rattle.dd_nodes.proofs.Stores.{IsGood, Means-keeps, function-keeps}
use Rattle.dd_nodes.proofs.Walks.{IsFrom-grows, IsFrom-less, bit-fixed, canonical, drop-fixed, fixed, from_constant, from_function, length-fixed, length-up_to, same_numbers, up_to, value-held, value-same_from, walk-constant}
use Rattle.dd_ops.proofs.Terminal.{one_bit, zero_bit}
use Rattle.dd_ops.specs.declared.fault.OpFault.{OpFault}
use Rattle.dd_ops.specs.Answer.{Answer}
use Rattle.dd_ops.specs.Splitting.{Splits, half}
use Rattle.dual_rail.specs.Rail.{Built, HasFunction}
use Rattle.dual_rail.proofs.Works.{SoFar, Built-answer, Built-covers, Built-good, here, last}
use Rattle.gate_sets.proofs.Halving.{spends_below}
use Rattle.exact_model.specs.ExactWork.{some_bits, some_choices}
use Rattle.exact_engine.specs.private.Choosing.{AreMet, Met, some_behind}

-- ---- some bits

some_false : (n : ℕ) (set : List Bool → Bool) → some_bits n set ≡ false → (bits : List Bool) → length bits ≡ n → set bits ≡ false
some_false zero set e [] l = e
some_false zero set e (b ∷ bits) l = absurd (omega arith)
some_false (suc n) set e [] l = absurd (omega arith)
some_false (suc n) set e (false ∷ bits) l = some_false n (λ rest. set (false ∷ rest)) (none_left (some_bits n (λ rest. set (false ∷ rest))) (some_bits n (λ rest. set (true ∷ rest))) e) bits (omega arith)
  where
    none_left : (a b : Bool) → (a || b) ≡ false → a ≡ false
    none_left false b h = refl
    none_left true b h = absurd (cc h)
some_false (suc n) set e (true ∷ bits) l = some_false n (λ rest. set (true ∷ rest)) (none_right (some_bits n (λ rest. set (false ∷ rest))) (some_bits n (λ rest. set (true ∷ rest))) e) bits (omega arith)
  where
    none_right : (a b : Bool) → (a || b) ≡ false → b ≡ false
    none_right false b h = h
    none_right true b h = absurd (cc h)

pub some_same : (n : ℕ) (one other : List Bool → Bool) → ((bits : List Bool) → length bits ≡ n → one bits ≡ other bits) → some_bits n one ≡ some_bits n other
some_same zero one other same = same [] refl
some_same (suc n) one other same =
    let low = some_same n (λ rest. one (false ∷ rest)) (λ rest. other (false ∷ rest)) (λ bits l. same (false ∷ bits) (ap suc l)) in
    let high = some_same n (λ rest. one (true ∷ rest)) (λ rest. other (true ∷ rest)) (λ bits l. same (true ∷ bits) (ap suc l)) in
    ap (λ (b : Bool). b || some_bits n (λ rest. one (true ∷ rest))) low ∙ ap (λ (b : Bool). some_bits n (λ rest. other (false ∷ rest)) || b) high

some_one : (n : ℕ) (b : Bool) → some_bits n (λ _. b) ≡ b
some_one zero b = refl
some_one (suc n) b = ap (λ (c : Bool). c || some_bits n (λ _. b)) (some_one n b) ∙ ap (λ (c : Bool). b || c) (some_one n b) ∙ twice b
  where
    twice : (c : Bool) → (c || c) ≡ c
    twice true = refl
    twice false = refl

-- ---- references

module _ (s : Store) (v : ℕ) (d : IsGood s) (le : v ≤ s.vars) where
  -- a list of the first bits and some choices
  joined_long : (bits rest : List Bool) → length bits ≡ s.vars → length rest ≡ s.vars - v → length (take v bits ++ rest) ≡ s.vars
  joined_long bits rest l m = simp (length-append, length-take) (omega (arith, l, m, le))

  front_long : (bits : List Bool) → length bits ≡ s.vars → length (take v bits) ≡ v
  front_long bits l = simp (length-take) (omega (arith, l, le))

  pub of_constant : (r : Ref) → r.0 < 2 → Means s (some_behind v s r) r
  of_constant r c = record {
    ref = from_constant s.held 0 r c;
    value = λ bits l.
        let own_bit : function s r bits ≡ (r.0 == 1) = walk-constant s.held s.vars 0 r bits d c in
        own_bit ∙ sym (some_same (s.vars - v) (λ rest. function s r (take v bits ++ rest)) (λ _. r.0 == 1) (λ rest m. walk-constant s.held s.vars 0 r (take v bits ++ rest) d c) ∙ some_one (s.vars - v) (r.0 == 1));
  }

  -- what reads choices alone, and is not 0 everywhere, is 1 with some
  pub of_choice : (r : Ref) → IsRef s r → IsFrom s.held v r → 2 ≤ r.0 → Means s (some_behind v s r) (record { 0 = 1 })
  of_choice r held from open_ref = record {
    ref = from_constant s.held 0 (record { 0 = 1 }) (omega arith);
    value = λ bits l. one_bit s (record { 0 = 1 }) bits d refl ∙ sym (by bits l (some_behind v s r bits) refl);
  }
    where
      none : (bits : List Bool) → length bits ≡ s.vars → some_behind v s r bits ≡ false → (other : List Bool) → length other ≡ s.vars → function s r other ≡ false
      none bits l e other m =
          let rest : List Bool = drop v other in
          let long : length rest ≡ s.vars - v = simp (length-drop) (omega (arith, m)) in
          let all : List Bool = take v bits ++ rest in
          let seam : drop v all ≡ rest = ap (λ (k : ℕ). drop k all) (sym (front_long bits l)) ∙ drop-append_seam (take v bits) rest in
          value-same_from s.held s.vars v r other all d from (omega (arith, m, le)) (let h = joined_long bits rest l long in omega (arith, h, le)) (sym seam)
          ∙ some_false (s.vars - v) (λ bs. function s r (take v bits ++ bs)) e rest long

      by : (bits : List Bool) → length bits ≡ s.vars → (b : Bool) → some_behind v s r bits ≡ b → some_behind v s r bits ≡ true
      by bits l true e = e
      by bits l false e =
          let zero_ref : Ref = record { 0 = 0 } in
          let same : r ≡ zero_ref = canonical s.held s.vars r zero_ref d held (from_constant s.held 0 zero_ref (omega arith)) (λ other m. none bits l e other m ∙ sym (zero_bit s zero_ref other d refl)) in
          absurd (let h : r.0 ≡ 0 = ap (λ (x : Ref). x.0) same in omega (arith, h, open_ref))

  -- what reads later variables alone is the same where these are
  behind_same : (c : Ref) (k : ℕ) (bits other : List Bool) → k ≤ v → IsFrom s.held k c → length bits ≡ s.vars → length other ≡ s.vars → drop k bits ≡ drop k other → some_behind v s c bits ≡ some_behind v s c other
  behind_same c k bits other lk from l m same =
      some_same (s.vars - v) (λ rest. function s c (take v bits ++ rest)) (λ rest. function s c (take v other ++ rest))
      (λ rest n. value-same_from s.held s.vars k c (take v bits ++ rest) (take v other ++ rest) d from (let h = joined_long bits rest l n in omega (arith, h, le, lk)) (let h = joined_long other rest m n in omega (arith, h, le, lk))
      (part bits rest l ∙ ap (λ (xs : List Bool). take (v - k) xs ++ rest) same ∙ sym (part other rest m)))
    where
      part : (xs rest : List Bool) → length xs ≡ s.vars → drop k (take v xs ++ rest) ≡ take (v - k) (drop k xs) ++ rest
      part xs rest h =
          let split : k + (v - k) ≡ v = omega (arith, lk) in
          let cut : drop k (take v xs) ≡ take (v - k) (drop k xs) = ap (λ (n : ℕ). drop k (take n xs)) (sym split) ∙ drop-take k (v - k) xs in
          drop-append-le k (take v xs) rest (let f = front_long xs h in omega (arith, f, lk)) ∙ ap (λ (ys : List Bool). ys ++ rest) cut

  module _ (r : Ref) (n : Node) (at : s.held r ≡ Some n) (low : n.var < v) where
    abbrev pub child_at : Bool → Ref
    child_at b = half n.lo n.hi b

    pub child_from : (b : Bool) → IsFrom s.held (n.var + 1) (child_at b)
    child_from true = d.high r n at
    child_from false = d.low r n at

    pub child_ref : (b : Bool) → IsRef s (child_at b)
    child_ref b = IsFrom-less s.held 0 (n.var + 1) (child_at b) (omega arith) (child_from b)

    -- at the bit of its variable it is that of the child
    pub behind_below : (bits : List Bool) (b : Bool) → length bits ≡ s.vars → get_or bits n.var false ≡ b → some_behind v s (child_at b) bits ≡ some_behind v s r bits
    behind_below bits b l e =
        some_same (s.vars - v) (λ rest. function s (child_at b) (take v bits ++ rest)) (λ rest. function s r (take v bits ++ rest))
        (λ rest m.
        let all : List Bool = take v bits ++ rest in
        let bit : get_or all n.var false ≡ b = get_or_append_left (take v bits) rest false n.var (let f = front_long bits l in omega (arith, f, low)) ∙ get_or-take v bits n.var false low ∙ e in
        sym (value-held s.held s.vars r n all d at (joined_long bits rest l m) ∙ ap (λ (c : Bool). function s (child_at c) all) bit))

    pub behind_cofactor : (b : Bool) → IsCofactor s.vars (some_behind v s r) (some_behind v s (child_at b))
    behind_cofactor b =
        let i : ℕ = n.var in
        let long : length (up_to i b) ≡ i + 1 = length-up_to i b in
        let inside : i < s.vars = d.below r n at in (
          up_to i b,
          omega (arith, long, inside),
          λ bits l.
              let other : List Bool = fixed i b bits in
              let m : length other ≡ s.vars = length-fixed i b bits (omega (arith, l, inside)) ∙ l in
              behind_same (child_at b) (i + 1) bits other (omega (arith, low)) (child_from b) l m (sym (drop-fixed i (i + 1) b bits (omega arith)))
              ∙ behind_below other b m (bit-fixed i b bits),
        )

-- in a store that has grown it is the same
pub behind_keeps : (s t : Store) (v : ℕ) (r : Ref) → IsGood s → IsGood t → Keeps s t → IsRef s r → some_behind v t r ≡ some_behind v s r
behind_keeps s t v r ds dt k held = ap (λ (n : ℕ). some_choices v (n - v) (function t r)) k.vars ∙ ap (λ (g : Function). some_choices v (s.vars - v) g) (function-keeps s t r ds dt k held)

pub met_keep : (s t : Store) (v : ℕ) (met : Met) → IsGood s → IsGood t → Keeps s t → AreMet s v met → AreMet t v met
met_keep s t v met ds dt k are r x e =
    let p = are r x e in (
      IsFrom-grows s.held t.held 0 r k.grows p.0,
      subst (λ (f : Function). Means t f x) (sym (behind_keeps s t v r ds dt k p.0)) (Means-keeps s t (some_behind v s r) x ds dt k p.1),
    )

pub met_more : (s : Store) (v : ℕ) (met new : Met) (r made : Ref) → IsRef s r → Means s (some_behind v s r) made → ((p : Ref) → get same_ref new p ≡ cond (same_ref r p) (Some made) (get same_ref met p)) → AreMet s v met → AreMet s v new
met_more s v met new r made held means updates are p x e = by (same_ref r p) refl (sym (updates p) ∙ e)
  where
    by : (b : Bool) → same_ref r p ≡ b → cond b (Some made) (get same_ref met p) ≡ Some x → IsRef s p × Means s (some_behind v s p) x
    by true same h =
        let one : r ≡ p = same_numbers r p (eqb-true r.0 p.0 same) in
        let is : made ≡ x = cc h in
        subst (λ (q : Ref). IsRef s q × Means s (some_behind v s q) x) one (held, subst (λ (q : Ref). Means s (some_behind v s r) q) is means)
    by false same h = are p x h

-- ---- halves

module _ (s : Store) (v : ℕ) (ds : IsGood s) (le : v ≤ s.vars) (r : Ref) (n : Node) (held : IsRef s r) (at : s.held r ≡ Some n) (low : n.var < v) where
  abbrev pub whole_of : Function
  whole_of = some_behind v s r

  abbrev pub part_of : Bool → Function
  part_of b = some_behind v s (child_at s v ds le r n at low b)

  -- the call for one half is a part of the whole
  pub half_turn : (b : Bool) (t u : Store) (result : Result Ref OpFault) → IsGood t → IsGood u → SoFar (whole_of ∷ []) s t
      → Built (some_behind v t (child_at s v ds le r n at low b) ∷ []) (HasFunction (some_behind v t (child_at s v ds le r n at low b))) t u result → Built (whole_of ∷ []) (HasFunction (part_of b)) s u result
  half_turn b t u result dt du so made =
      let c : Ref = child_at s v ds le r n at low b in
      let same : some_behind v t c ≡ part_of b = behind_keeps s t v c ds dt so.keeps (child_ref s v ds le r n at low b) in
      let m : Built (part_of b ∷ []) (HasFunction (part_of b)) t u result = subst (λ (f : Function). Built (f ∷ []) (HasFunction f) t u result) same made in
      let cofactor : IsCofactor t.vars whole_of (part_of b) = subst (λ (k : ℕ). IsCofactor k whole_of (part_of b)) (sym so.keeps.vars) (behind_cofactor s v ds le r n at low b) in
      last (whole_of ∷ []) (HasFunction (part_of b)) s t u result dt du so (record { ok = m.ok; spends = spends_below whole_of (part_of b) t u _ cofactor m.spends })

  -- both results split the whole in a later store
  pub part_from : (b : Bool) (u : Store) (x : Ref) → IsGood u → Keeps s u → Means u (part_of b) x → IsFrom u.held (n.var + 1) x
  part_from b u x du k m =
      let inside : n.var < s.vars = ds.below r n at in
      let vars : u.vars ≡ s.vars = k.vars in
      from_function u.held u.vars (n.var + 1) 0 (n.var + 1) x du (omega arith) (omega (arith, inside, vars)) m.ref
      (λ bits other l h same. m.value bits l ∙ behind_same s v ds le (child_at s v ds le r n at low b) (n.var + 1) bits other (omega (arith, low)) (child_from s v ds le r n at low b) (l ∙ vars) (h ∙ vars) same ∙ sym (m.value other h))

  pub split_turn : (u : Store) (lo hi : Ref) → IsGood u → Keeps s u → Means u (part_of false) lo → Means u (part_of true) hi → Splits u n.var lo hi whole_of
  split_turn u lo hi du k ml mh = record {
    inside = let inside : n.var < s.vars = ds.below r n at in let vars : u.vars ≡ s.vars = k.vars in omega (arith, inside, vars);
    low = part_from false u lo du k ml;
    high = part_from true u hi du k mh;
    halves = λ bits l. by bits l (get_or bits n.var false) refl;
  }
    where
      by : (bits : List Bool) → length bits ≡ u.vars → (b : Bool) → get_or bits n.var false ≡ b → whole_of bits ≡ function u (half lo hi (get_or bits n.var false)) bits
      by bits l true e = sym (behind_below s v ds le r n at low bits true (l ∙ k.vars) e) ∙ sym (mh.value bits l) ∙ ap (λ (c : Bool). function u (half lo hi c) bits) (sym e)
      by bits l false e = sym (behind_below s v ds le r n at low bits false (l ∙ k.vars) e) ∙ sym (ml.value bits l) ∙ ap (λ (c : Bool). function u (half lo hi c) bits) (sym e)

  pub made_turn : (u w : Store) (lo hi : Ref) (result : Result Ref OpFault) → IsGood u → IsGood w → SoFar (whole_of ∷ []) s u → Means u (part_of false) lo → Means u (part_of true) hi
      → ((f : Function) → Splits u n.var lo hi f → Answer f u w result) → Built (whole_of ∷ []) (HasFunction whole_of) s w result
  made_turn u w lo hi result du dw so ml mh call =
      last (whole_of ∷ []) (HasFunction whole_of) s u w result du dw so
      (Built-answer (whole_of ∷ []) whole_of whole_of u w result (here whole_of []) (λ bits l. refl) (call whole_of (split_turn u lo hi du so.keeps ml mh)))

-- ---- a function in place of the reference

-- where the reference has a function, what some choices make of it is the same
pub some_means : (s : Store) (v : ℕ) (f : Function) (r : Ref) → v ≤ s.vars → Means s f r → (bits : List Bool) → length bits ≡ s.vars → some_behind v s r bits ≡ some_choices v (s.vars - v) f bits
some_means s v f r le m bits l =
    some_same (s.vars - v) (λ rest. function s r (take v bits ++ rest)) (λ rest. f (take v bits ++ rest))
    (λ rest n. m.value (take v bits ++ rest) (simp (length-append, length-take) (omega (arith, l, n, le))))

-- the call for some choices, over a store with as many variables
pub some_built : (work : List Function) (total v : ℕ) (f : Function) (s t : Store) (r : Ref) (result : Result Ref OpFault) → v ≤ s.vars → s.vars ≡ total → Contains work (some_choices v (total - v) f) → Means s f r
    → Built (some_behind v s r ∷ []) (HasFunction (some_behind v s r)) s t result → Built work (HasFunction (some_choices v (total - v) f)) s t result
some_built work total v f s t r result le vars has m b =
    let F : Function = some_choices v (total - v) f in
    let same : (bits : List Bool) → length bits ≡ s.vars → some_behind v s r bits ≡ F bits = λ bits l. some_means s v f r le m bits l ∙ ap (λ (k : ℕ). some_choices v (k - v) f bits) vars in
    Built-good work (HasFunction (some_behind v s r)) (HasFunction F) s t result
    (λ x h. Means-same t (some_behind v s r) F x (λ bits l. same bits (l ∙ b.spends.keeps.vars)) h)
    (Built-covers work (some_behind v s r ∷ []) (HasFunction (some_behind v s r)) s t result (λ g h. one_of g h) b)
  where
    one_of : (g : Function) → Contains (some_behind v s r ∷ []) g → Has s.vars work g
    one_of g (zero, lt, e) =
        subst (λ (h : Function). Has s.vars work h) e (
          some_choices v (total - v) f,
          has,
          λ bits l. sym (some_means s v f r le m bits l ∙ ap (λ (k : ℕ). some_choices v (k - v) f bits) vars),
        )
    one_of g (suc k, lt, e) = absurd (omega arith)
