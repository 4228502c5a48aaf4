-- Work functions where all is constant: a call that builds these makes nothing, and cannot be out of steps.
use Rattle.std.proofs.Common.{◌≡◌, ℕ, zero, suc, Bool, true, false, not, List, [], ◌∷◌, ◌++◌, map, length, Option, None, Some, refl, sym, ◌∙◌, ap, subst, arith, Contains, All, inl, inr}
use Rattle.std.specs.Prelude.{◌==◌, ◌&&◌, ◌||◌, if◌then◌else◌, IsSome, slice_get, slice_index_or}
use Rattle.std.proofs.lemmas.List.Elements.{Contains-append_right}
use Rattle.bool_expr.specs.declared.expr.Expr.{Expr}
use Rattle.bool_expr.specs.declared.expr.Expr.TheFolds.{fold-roll-Expr}
use Rattle.bool_expr.specs.declared.expr.Expr.TheVariants.{Const, rolls-Const}
use Rattle.bool_expr.specs.Value.{value_of, value_step}
use Rattle.dd_nodes.specs.declared.node.Ref.{Ref}
use Rattle.dd_nodes.specs.Diagram.{IsCofactor}
use Rattle.dd_nodes.specs.Functions.{IsCofactorOf}
use Rattle.dd_nodes.specs.Spending.{Spends}
use Rattle.dd_nodes.specs.Stores.{Means, Store, function}
use Rattle.dd_nodes.proofs.Members.{Contains-cons_cases, Contains-none}
use Rattle.dd_nodes.proofs.Spending.{Means-same, one_means, zero_means}
use Rattle.dd_nodes.proofs.Stores.{IsGood}
use Rattle.dd_nodes.proofs.Walks.{canonical}
use Rattle.net_core.specs.declared.cover.Cover.{Cover}
use Rattle.net_core.specs.declared.cover.Lit.{Lit}
use Rattle.net_core.specs.declared.cover.Lit.TheVariants.{Zero, One, Any}
use Rattle.net_core.specs.declared.raw.Gate.{Gate}
use Rattle.net_core.specs.declared.raw.RawNet.{RawNet}
use Rattle.net_core.specs.declared.source.Source.{Source}
use Rattle.net_core.specs.declared.source.Source.TheVariants.{Input, Free, Gate as OfGate, Latch as OfLatch}
use Rattle.net_core.specs.Cases.{on_rows, off_rows}
use Rattle.net_core.specs.Source.{source_of}
use Rattle.ste_base.specs.Functions.{Function}
use Rattle.net_core.specs.Work.{SymbolicAsked, SymbolicCut, SymbolicSet, after_cut, by_gate, by_source, chain, conjunction, cover_set, cover_work, cut_set, cut_work, cuts_work, disjunction, everything, factor, factors, sets_below, gates_work, input_sets, negation, no_bit, one_gate_work, row_products, rows_chains, rows_work, some_bit, time_work, set_before_cuts, unless_weakened, whole}
use Rattle.net_core.specs.Possible.{is_weakened}
use Rattle.ste_base.specs.declared.id.NodeId.{NodeId}
use Rattle.engine_parts.specs.Failing.{MakesNothing, constant_ref}

-- ---- constant functions

-- one value, whatever the assignment
pub record IsConstant (f : Function) : Type 0 where
  pub value : Bool
  pub is : (bits : List Bool) → f bits ≡ value

pub record IsConstantSet (w : SymbolicSet) : Type 0 where
  pub zero : IsConstant w.zero
  pub one : IsConstant w.one

pub record IsConstantCut (d : SymbolicCut) : Type 0 where
  pub guard : IsConstant d.guard
  pub value : IsConstant d.value

pub data AreConstant : List Function → Type 0 where
  none : AreConstant []
  more : {f : Function} {fs : List Function} → IsConstant f → AreConstant fs → AreConstant (f ∷ fs)

pub data AreConstantSets : List SymbolicSet → Type 0 where
  none : AreConstantSets []
  more : {w : SymbolicSet} {ws : List SymbolicSet} → IsConstantSet w → AreConstantSets ws → AreConstantSets (w ∷ ws)

pub data AreConstantCuts : List SymbolicCut → Type 0 where
  none : AreConstantCuts []
  more : {d : SymbolicCut} {ds : List SymbolicCut} → IsConstantCut d → AreConstantCuts ds → AreConstantCuts (d ∷ ds)

pub of_bit : (b : Bool) → IsConstant (λ bits. b)
of_bit b = record { value = b; is = λ bits. refl }

pub set_of_bits : (z o : Bool) → IsConstantSet (record { zero = λ bits. z; one = λ bits. o })
set_of_bits z o = record { zero = of_bit z; one = of_bit o }

of_not : {f : Function} → IsConstant f → IsConstant (negation f)
of_not p = record { value = not p.value; is = λ bits. ap not (p.is bits) }

of_and : {f g : Function} → IsConstant f → IsConstant g → IsConstant (conjunction f g)
of_and {f} {g} p q = record { value = p.value && q.value; is = λ bits. ap (λ x. x && g bits) (p.is bits) ∙ ap (λ x. p.value && x) (q.is bits) }

of_or : {f g : Function} → IsConstant f → IsConstant g → IsConstant (disjunction f g)
of_or {f} {g} p q = record { value = p.value || q.value; is = λ bits. ap (λ x. x || g bits) (p.is bits) ∙ ap (λ x. p.value || x) (q.is bits) }

append : {fs gs : List Function} → AreConstant fs → AreConstant gs → AreConstant (fs ++ gs)
append AreConstant.none q = q
append (AreConstant.more p ps) q = AreConstant.more p (append ps q)

member : {fs : List Function} → AreConstant fs → (f : Function) → Contains fs f → IsConstant f
member AreConstant.none f has = absurd (Contains-none f has)
member (AreConstant.more {f = g} {fs = gs} p ps) f has = elim (Contains-cons_cases g gs f has) [
  | inl same ↦ subst IsConstant same p
  | inr rest ↦ member ps f rest
]

-- ---- sums and products

abbrev Joins : (Function → Function → Function) → Type 0
Joins join = (f g : Function) → IsConstant f → IsConstant g → IsConstant (join f g)

and_joins : Joins conjunction
and_joins f g p q = of_and p q

or_joins : Joins disjunction
or_joins f g p q = of_or p q

chains : (join : Function → Function → Function) → Joins join → {f : Function} {fs : List Function} → IsConstant f → AreConstant fs → AreConstant (chain join f fs)
chains join joins p AreConstant.none = AreConstant.none
chains join joins {f = f} p (AreConstant.more {f = g} q qs) = AreConstant.more (joins f g p q) (chains join joins (joins f g p q) qs)

wholes : (join : Function → Function → Function) → Joins join → {f : Function} {fs : List Function} → IsConstant f → AreConstant fs → IsConstant (whole join f fs)
wholes join joins p AreConstant.none = p
wholes join joins {f = f} p (AreConstant.more {f = g} q qs) = wholes join joins (joins f g p q) qs

-- ---- gates

of_factor : {w : SymbolicSet} (lit : Lit) → IsConstantSet w → IsConstant (factor lit w)
of_factor Zero p = p.zero
of_factor One p = p.one
of_factor Any p = of_or p.zero p.one

of_factors : {ws : List SymbolicSet} (row : List Lit) → AreConstantSets ws → AreConstant (factors row ws)
of_factors [] p = AreConstant.none
of_factors (lit ∷ row) AreConstantSets.none = AreConstant.none
of_factors (lit ∷ row) (AreConstantSets.more p ps) = AreConstant.more (of_factor lit p) (of_factors row ps)

of_products : {ws : List SymbolicSet} (rows : List (List Lit)) → AreConstantSets ws → AreConstant (row_products rows ws)
of_products [] p = AreConstant.none
of_products (row ∷ rows) p = AreConstant.more (wholes conjunction and_joins (of_bit true) (of_factors row p)) (of_products rows p)

of_chains : {ws : List SymbolicSet} (rows : List (List Lit)) → AreConstantSets ws → AreConstant (rows_chains rows ws)
of_chains [] p = AreConstant.none
of_chains (row ∷ rows) p = append (chains conjunction and_joins (of_bit true) (of_factors row p)) (of_chains rows p)

for_each : {ws : List SymbolicSet} (F : SymbolicSet → Function) → ((w : SymbolicSet) → IsConstantSet w → IsConstant (F w)) → AreConstantSets ws → AreConstant (map F ws)
for_each F of AreConstantSets.none = AreConstant.none
for_each F of (AreConstantSets.more {w = w} p ps) = AreConstant.more (of w p) (for_each F of ps)

of_some : (w : SymbolicSet) → IsConstantSet w → IsConstant (some_bit w)
of_some w p = of_or p.zero p.one

of_none : (w : SymbolicSet) → IsConstantSet w → IsConstant (no_bit w)
of_none w p = of_not (of_or p.zero p.one)

of_rows : {ws : List SymbolicSet} (rows : List (List Lit)) → AreConstantSets ws → AreConstant (rows_work rows ws)
of_rows rows p = append (for_each some_bit of_some p) (append (of_chains rows p) (chains disjunction or_joins (of_bit false) (of_products rows p)))

cover_works : {ws : List SymbolicSet} (cover : Option Cover) → AreConstantSets ws → AreConstant (cover_work cover ws)
cover_works None p = AreConstant.none
cover_works (Some cover) p = append (of_rows (on_rows cover) p) (of_rows (off_rows cover) p)

cover_sets : {ws : List SymbolicSet} (cover : Option Cover) → AreConstantSets ws → IsConstantSet (cover_set cover ws)
cover_sets None p = set_of_bits true false
cover_sets (Some cover) p = record { zero = wholes disjunction or_joins (of_bit false) (of_products (off_rows cover) p); one = wholes disjunction or_joins (of_bit false) (of_products (on_rows cover) p) }

-- ---- one time

abbrev pub IsConstantFamily : (ℕ → SymbolicSet) → Type 0
IsConstantFamily sets = (id : ℕ) → IsConstantSet (sets id)

module _ (sets : ℕ → SymbolicSet) (are : IsConstantFamily sets) where
  of_inputs : (gate : Gate) → AreConstantSets (input_sets sets gate)
  of_inputs gate = go gate.inputs
    where
      go : (inputs : List NodeId) → AreConstantSets (map (λ input. sets input.0) inputs)
      go [] = AreConstantSets.none
      go (input ∷ inputs) = AreConstantSets.more (are input.0) (go inputs)

  of_firsts : (n : ℕ) → AreConstantSets (sets_below sets n)
  of_firsts zero = AreConstantSets.none
  of_firsts (suc n) = put (of_firsts n)
    where
      put : {ws : List SymbolicSet} → AreConstantSets ws → AreConstantSets (ws ++ sets n ∷ [])
      put AreConstantSets.none = AreConstantSets.more (are n) AreConstantSets.none
      put (AreConstantSets.more p ps) = AreConstantSets.more p (put ps)

  of_one_gate : (is_weak : Bool) (net : RawNet) (gate : Gate) → AreConstant (one_gate_work is_weak net sets gate)
  of_one_gate true net gate = AreConstant.none
  of_one_gate false net gate = cover_works (slice_get net.covers gate.cover) (of_inputs gate)

  of_gates : (net : RawNet) (weak : List ℕ) (gates : List Gate) → AreConstant (gates_work net weak sets gates)
  of_gates net weak [] = AreConstant.none
  of_gates net weak (gate ∷ gates) = append (of_one_gate (is_weakened weak gate.output.0) net gate) (of_gates net weak gates)

  of_gate : (net : RawNet) (gate : Option Gate) → IsConstantSet (by_gate net sets gate)
  of_gate net None = set_of_bits true true
  of_gate net (Some gate) = cover_sets (slice_get net.covers gate.cover) (of_inputs gate)

indexed : {ws : List SymbolicSet} (l : ℕ) → AreConstantSets ws → IsConstantSet (slice_index_or ws l everything)
indexed l AreConstantSets.none = set_of_bits true true
indexed zero (AreConstantSets.more p ps) = p
indexed (suc l) (AreConstantSets.more p ps) = indexed l ps

of_source : {ls : List SymbolicSet} (net : RawNet) (sets : ℕ → SymbolicSet) → AreConstantSets ls → IsConstantFamily sets → (source : Source) → IsConstantSet (by_source net ls sets source)
of_source net sets p are Input = set_of_bits true true
of_source net sets p are Free = set_of_bits true true
of_source net sets p are (OfGate g) = of_gate sets are net (slice_get net.gates g)
of_source net sets p are (OfLatch l) = indexed l p

of_unless : {w : SymbolicSet} (is_weak : Bool) → IsConstantSet w → IsConstantSet (unless_weakened is_weak w)
of_unless true p = set_of_bits true true
of_unless false p = p

of_cut : {w : SymbolicSet} (d : SymbolicCut) → IsConstantCut d → IsConstantSet w → IsConstantSet (cut_set w d.guard d.value)
of_cut d c p = record { zero = of_and p.zero (of_not (of_and c.guard c.value)); one = of_and p.one (of_not (of_and c.guard (of_not c.value))) }

cut_works : {w : SymbolicSet} (d : SymbolicCut) → IsConstantCut d → IsConstantSet w → AreConstant (cut_work w d.guard d.value)
cut_works d c p =
    let g = c.guard in
    let x = c.value in
    let not_x = of_not x in
    AreConstant.more not_x (AreConstant.more (of_and g x) (AreConstant.more (of_and g not_x)
    (AreConstant.more (of_not (of_and g x)) (AreConstant.more (of_not (of_and g not_x))
    (AreConstant.more (of_and p.zero (of_not (of_and g x))) (AreConstant.more (of_and p.one (of_not (of_and g not_x))) AreConstant.none))))))

of_after : (d : SymbolicCut) (sets : ℕ → SymbolicSet) → IsConstantCut d → IsConstantFamily sets → IsConstantFamily (after_cut d sets)
of_after d sets c are id = by (d.node == id)
  where
    by : (b : Bool) → IsConstantSet (if b then cut_set (sets id) d.guard d.value else sets id)
    by true = of_cut d c (are id)
    by false = are id

of_cuts : {ds : List SymbolicCut} (sets : ℕ → SymbolicSet) → AreConstantCuts ds → IsConstantFamily sets → AreConstant (cuts_work ds sets)
of_cuts sets AreConstantCuts.none are = AreConstant.none
of_cuts sets (AreConstantCuts.more {d = d} c cs) are = append (cut_works d c (are d.node)) (of_cuts (after_cut d sets) cs (of_after d sets c are))

-- the functions of one time, where all that it is given is constant
pub of_time : {ls : List SymbolicSet} (net : RawNet) (asked : SymbolicAsked) (sets : ℕ → SymbolicSet) → AreConstantSets ls → AreConstantCuts asked.cuts → IsConstantFamily sets → AreConstant (time_work net ls asked sets)
of_time {ls} net asked sets p cs are =
    let all = of_firsts sets are net.nets in
    append (of_cuts (set_before_cuts net asked.weak ls sets) cs (λ id. of_unless (is_weakened asked.weak id) (of_source net sets p are (source_of net id))))
    (append (of_gates sets are net asked.weak net.gates)
    (append (for_each some_bit of_some all) (append (for_each no_bit of_none all) (chains disjunction or_joins (of_bit false) (for_each no_bit of_none all)))))

-- ---- references

-- the constant of a bit has its function
pub bit_means : (s : Store) (b : Bool) → IsGood s → Means s (λ bits. b) (constant_ref b)
bit_means s true d = one_means s d
bit_means s false d = zero_means s d

-- what has a constant as its function is this constant
pub constant_is : (s : Store) (f : Function) (r : Ref) (b : Bool) → ((bits : List Bool) → f bits ≡ b) → IsGood s → Means s f r → r ≡ constant_ref b
constant_is s f r b is d m =
    let c = bit_means s b d in
    canonical s.held s.vars r (constant_ref b) d m.ref c.ref (λ bits l. m.value bits l ∙ (is bits ∙ sym (c.value bits l)))

-- a cofactor of a constant is one
of_cofactor : (v : ℕ) (f g : Function) → IsConstant f → IsCofactor v f g → (b : Bool) × ((bits : List Bool) → length bits ≡ v → g bits ≡ b)
of_cofactor v f g p (q, le, eq) = (p.value, λ bits l. eq bits l ∙ p.is _)

-- a constant holds no node
not_held : (s : Store) (b : Bool) → IsGood s → ¬ IsSome (s.held (constant_ref b))
not_held s true d some = let e = d.constants (constant_ref true) (omega arith) in let f : false ≡ true = subst IsSome e some in cc f
not_held s false d some = let e = d.constants (constant_ref false) (omega arith) in let f : false ≡ true = subst IsSome e some in cc f

module _ (fs : List Function) (s t : Store) (out : Type 0) (are : AreConstant fs) (gt : IsGood t) (held : All (λ r. IsSome (t.held r)) t.made) (x : Spends fs s t out) where
  one_of : (f : Function) → IsCofactorOf s.vars fs f → (b : Bool) × ((bits : List Bool) → length bits ≡ t.vars → f bits ≡ b)
  one_of f (g, has, cofactor) = subst (λ v. (b : Bool) × ((bits : List Bool) → length bits ≡ v → f bits ≡ b)) (sym x.keeps.vars) (of_cofactor s.vars g f (member are g has) cofactor)

  -- steps are not out
  pub never_out : ¬ out
  never_out o =
      let spent = x.spent o in
      let c = one_of spent.needed spent.passes in
      let m = bit_means t c.0 gt in
      spent.missing (constant_ref c.0) (record { ref = m.ref; value = λ bits l. m.value bits l ∙ sym (c.1 bits l) })

  none_added : (r : Ref) → ¬ Contains x.builds.added r
  none_added r has =
      let e = x.builds.each r has in
      let c = one_of (function t r) e.1 in
      let m = bit_means t c.0 gt in
      let same : r ≡ constant_ref c.0 = canonical t.held t.vars r (constant_ref c.0) gt e.0 m.ref (λ bits l. c.1 bits l ∙ sym (m.value bits l)) in
      let made : Contains t.made r = subst (λ (xs : List Ref). Contains xs r) (sym x.builds.is) (Contains-append_right s.made x.builds.added r has) in
      not_held t c.0 gt (subst (λ (y : Ref). IsSome (t.held y)) same (held_at t.made r held made))
    where
      held_at : (rs : List Ref) (y : Ref) → All (λ z. IsSome (t.held z)) rs → Contains rs y → IsSome (t.held y)
      held_at rs y all (k, lt, at) = subst (λ z. IsSome (t.held z)) at (all k _ lt)

  -- and nothing is made
  pub nothing_made : MakesNothing s t
  nothing_made = record { keeps = x.keeps; limit = x.limit; made = x.builds.is ∙ empty x.builds.added none_added }
    where
      empty : (added : List Ref) → ((r : Ref) → ¬ Contains added r) → s.made ++ added ≡ s.made
      empty [] never = append_nil s.made
        where
          append_nil : (rs : List Ref) → rs ++ [] ≡ rs
          append_nil [] = refl
          append_nil (r ∷ rs) = ap (λ ys. r ∷ ys) (append_nil rs)
      empty (r ∷ rs) never = absurd (never r (0, omega arith, refl))

-- ---- constant expressions

pub const_value : (b : Bool) (bits : List Bool) → value_of (Const b) bits ≡ b
const_value b bits = ap (λ (e : Expr). value_of e bits) (sym (rolls-Const b)) ∙ fold-roll-Expr Bool (value_step bits) _

pub const_is : (b : Bool) → IsConstant (value_of (Const b))
const_is b = record { value = b; is = const_value b }

pub const_means : (s : Store) (b : Bool) → IsGood s → Means s (value_of (Const b)) (constant_ref b)
const_means s b d = Means-same s (λ bits. b) (value_of (Const b)) (constant_ref b) (λ bits l. sym (const_value b bits)) (bit_means s b d)
