-- Functions with the same values under all assignments of so many variables: what is made of sets with the same values has
-- the same values too, and as many nodes.
use Rattle.std.proofs.Common.{◌≡◌, ℕ, zero, suc, ◌≤◌, ◌<◌, Bool, true, false, not, List, [], ◌∷◌, ◌++◌, map, drop, length, filter, Option, None, Some, arith, refl, sym, ◌∙◌, ap}
use Rattle.std.specs.Prelude.{◌==◌, ◌&&◌, ◌||◌, if◌then◌else◌, slice_get, slice_index_or}
use Rattle.std.specs.Set.{unique_keys}
use Rattle.std.proofs.lemmas.List.{length-append, length-drop, map-append}
use Rattle.dd_nodes.specs.Functions.{bits_of, prefixes, cofactor, cofactors, is_constant, node_count, same_bits}
use Rattle.dd_nodes.proofs.Counts.{bits-same}
use Rattle.ste_base.specs.declared.id.NodeId.{NodeId}
use Rattle.net_core.specs.declared.cover.Cover.{Cover}
use Rattle.net_core.specs.declared.cover.Lit.{Lit}
use Rattle.net_core.specs.declared.cover.Lit.TheVariants.{Zero, One, Any}
use Rattle.net_core.specs.declared.raw.Gate.{Gate}
use Rattle.net_core.specs.declared.raw.RawNet.{RawNet}
use Rattle.net_core.specs.declared.source.Source.{Source}
use Rattle.net_core.specs.declared.source.Source.TheVariants.{Input, Free, Gate as OfGate, Latch as OfLatch}
use Rattle.net_core.specs.Cases.{on_rows, off_rows}
use Rattle.net_core.specs.Source.{source_of}
use Rattle.ste_base.specs.Functions.{Function}
use Rattle.net_core.specs.Work.{SymbolicAsked, SymbolicCut, SymbolicSet, after_cut, by_gate, by_source, chain, conjunction, cover_set, cover_work, cut_set, cut_work, cuts_work, disjunction, everything, factor, factors, sets_below, gates_work, negation, no_bit, one_gate_work, row_products, rows_chains, rows_work, some_bit, some_empty, time_work, set_before_cuts, unless_weakened, whole}
use Rattle.net_core.specs.Possible.{is_weakened}
use Rattle.ste_model.specs.Work.{both_bits, consequent_work, consequents_work, only_one, only_zero, over_times, refutes, strong_findings, weak_findings}

-- ---- functions

-- the same value under each assignment of v variables
pub record Same (v : ℕ) (f g : Function) : Type 0 where
  pub at : (bits : List Bool) → length bits ≡ v → f bits ≡ g bits

pub record SameSet (v : ℕ) (w x : SymbolicSet) : Type 0 where
  pub zero : Same v w.zero x.zero
  pub one : Same v w.one x.one

pub data AreSame (v : ℕ) : List Function → List Function → Type 0 where
  none : AreSame v [] []
  more : {f g : Function} {fs gs : List Function} → Same v f g → AreSame v fs gs → AreSame v (f ∷ fs) (g ∷ gs)

pub data SameSets (v : ℕ) : List SymbolicSet → List SymbolicSet → Type 0 where
  none : SameSets v [] []
  more : {w x : SymbolicSet} {ws xs : List SymbolicSet} → SameSet v w x → SameSets v ws xs → SameSets v (w ∷ ws) (x ∷ xs)

pub itself : {v : ℕ} {f : Function} → Same v f f
itself = record { at = λ bits l. refl }

pub same_not : {v : ℕ} {f g : Function} → Same v f g → Same v (negation f) (negation g)
same_not p = record { at = λ bits l. ap not (p.at bits l) }

pub same_and : {v : ℕ} {f g h k : Function} → Same v f g → Same v h k → Same v (conjunction f h) (conjunction g k)
same_and {v} {f} {g} {h} {k} p q = record { at = λ bits l. ap (λ x. x && h bits) (p.at bits l) ∙ ap (λ x. g bits && x) (q.at bits l) }

same_or : {v : ℕ} {f g h k : Function} → Same v f g → Same v h k → Same v (disjunction f h) (disjunction g k)
same_or {v} {f} {g} {h} {k} p q = record { at = λ bits l. ap (λ x. x || h bits) (p.at bits l) ∙ ap (λ x. g bits || x) (q.at bits l) }

-- functions have their own values
pub all_itself : {v : ℕ} (fs : List Function) → AreSame v fs fs
all_itself [] = AreSame.none
all_itself (f ∷ fs) = AreSame.more itself (all_itself fs)

pub append : {v : ℕ} {fs gs hs ks : List Function} → AreSame v fs gs → AreSame v hs ks → AreSame v (fs ++ hs) (gs ++ ks)
append AreSame.none q = q
append (AreSame.more p ps) q = AreSame.more p (append ps q)

-- ---- sums and products

abbrev pub Respects : ℕ → (Function → Function → Function) → Type 0
Respects v join = (f g h k : Function) → Same v f g → Same v h k → Same v (join f h) (join g k)

pub chains : {v : ℕ} (join : Function → Function → Function) → Respects v join → {f g : Function} {fs gs : List Function} → Same v f g → AreSame v fs gs → AreSame v (chain join f fs) (chain join g gs)
chains join respects p AreSame.none = AreSame.none
chains join respects {f = f} {g = g} p (AreSame.more {f = h} {g = k} q qs) = AreSame.more (respects f g h k p q) (chains join respects (respects f g h k p q) qs)

pub wholes : {v : ℕ} (join : Function → Function → Function) → Respects v join → {f g : Function} {fs gs : List Function} → Same v f g → AreSame v fs gs → Same v (whole join f fs) (whole join g gs)
wholes join respects p AreSame.none = p
wholes join respects {f = f} {g = g} p (AreSame.more {f = h} {g = k} q qs) = wholes join respects (respects f g h k p q) qs

and_respects : (v : ℕ) → Respects v conjunction
and_respects v f g h k p q = same_and p q

pub or_respects : (v : ℕ) → Respects v disjunction
or_respects v f g h k p q = same_or p q

-- ---- gates

same_factor : {v : ℕ} {w x : SymbolicSet} (lit : Lit) → SameSet v w x → Same v (factor lit w) (factor lit x)
same_factor Zero p = p.zero
same_factor One p = p.one
same_factor Any p = same_or p.zero p.one

same_factors : {v : ℕ} {ws xs : List SymbolicSet} (row : List Lit) → SameSets v ws xs → AreSame v (factors row ws) (factors row xs)
same_factors [] p = AreSame.none
same_factors (lit ∷ row) SameSets.none = AreSame.none
same_factors (lit ∷ row) (SameSets.more p ps) = AreSame.more (same_factor lit p) (same_factors row ps)

same_products : {v : ℕ} {ws xs : List SymbolicSet} (rows : List (List Lit)) → SameSets v ws xs → AreSame v (row_products rows ws) (row_products rows xs)
same_products [] p = AreSame.none
same_products (row ∷ rows) p = AreSame.more (wholes conjunction (and_respects _) itself (same_factors row p)) (same_products rows p)

same_chains : {v : ℕ} {ws xs : List SymbolicSet} (rows : List (List Lit)) → SameSets v ws xs → AreSame v (rows_chains rows ws) (rows_chains rows xs)
same_chains [] p = AreSame.none
same_chains (row ∷ rows) p = append (chains conjunction (and_respects _) itself (same_factors row p)) (same_chains rows p)

-- one function for each set
pub for_each : {v : ℕ} {ws xs : List SymbolicSet} (F : SymbolicSet → Function) → ((w x : SymbolicSet) → SameSet v w x → Same v (F w) (F x)) → SameSets v ws xs → AreSame v (map F ws) (map F xs)
for_each F same SameSets.none = AreSame.none
for_each F same (SameSets.more {w = w} {x = x} p ps) = AreSame.more (same w x p) (for_each F same ps)

same_some : {v : ℕ} {w x : SymbolicSet} → SameSet v w x → Same v (some_bit w) (some_bit x)
same_some p = same_or p.zero p.one

same_none : {v : ℕ} {w x : SymbolicSet} → SameSet v w x → Same v (no_bit w) (no_bit x)
same_none p = same_not (same_some p)

same_rows : {v : ℕ} {ws xs : List SymbolicSet} (rows : List (List Lit)) → SameSets v ws xs → AreSame v (rows_work rows ws) (rows_work rows xs)
same_rows rows p = append (for_each some_bit (λ w x. same_some) p) (append (same_chains rows p) (chains disjunction (or_respects _) itself (same_products rows p)))

cover_works : {v : ℕ} {ws xs : List SymbolicSet} (cover : Option Cover) → SameSets v ws xs → AreSame v (cover_work cover ws) (cover_work cover xs)
cover_works None p = AreSame.none
cover_works (Some cover) p = append (same_rows (on_rows cover) p) (same_rows (off_rows cover) p)

cover_sets : {v : ℕ} {ws xs : List SymbolicSet} (cover : Option Cover) → SameSets v ws xs → SameSet v (cover_set cover ws) (cover_set cover xs)
cover_sets None p = record { zero = itself; one = itself }
cover_sets (Some cover) p = record { zero = wholes disjunction (or_respects _) itself (same_products (off_rows cover) p); one = wholes disjunction (or_respects _) itself (same_products (on_rows cover) p) }

-- ---- one time

abbrev pub SameFamily : ℕ → (ℕ → SymbolicSet) → (ℕ → SymbolicSet) → Type 0
SameFamily v one other = (id : ℕ) → SameSet v (one id) (other id)

module _ (v : ℕ) (one other : ℕ → SymbolicSet) (same : SameFamily v one other) where
  inputs_same : (inputs : List NodeId) → SameSets v (map (λ input. one input.0) inputs) (map (λ input. other input.0) inputs)
  inputs_same [] = SameSets.none
  inputs_same (input ∷ inputs) = SameSets.more (same input.0) (inputs_same inputs)

  firsts_same : (n : ℕ) → SameSets v (sets_below one n) (sets_below other n)
  firsts_same zero = SameSets.none
  firsts_same (suc n) = put (firsts_same n)
    where
      put : {ws xs : List SymbolicSet} → SameSets v ws xs → SameSets v (ws ++ one n ∷ []) (xs ++ other n ∷ [])
      put SameSets.none = SameSets.more (same n) SameSets.none
      put (SameSets.more p ps) = SameSets.more p (put ps)

  one_gate_same : (is_weak : Bool) (net : RawNet) (gate : Gate) → AreSame v (one_gate_work is_weak net one gate) (one_gate_work is_weak net other gate)
  one_gate_same true net gate = AreSame.none
  one_gate_same false net gate = cover_works (slice_get net.covers gate.cover) (inputs_same gate.inputs)

  gates_same : (net : RawNet) (weak : List ℕ) (gates : List Gate) → AreSame v (gates_work net weak one gates) (gates_work net weak other gates)
  gates_same net weak [] = AreSame.none
  gates_same net weak (gate ∷ gates) = append (one_gate_same (is_weakened weak gate.output.0) net gate) (gates_same net weak gates)

everything_same : {v : ℕ} → SameSet v everything everything
everything_same = record { zero = itself; one = itself }

indexed : {v : ℕ} {ws xs : List SymbolicSet} (l : ℕ) → SameSets v ws xs → SameSet v (slice_index_or ws l everything) (slice_index_or xs l everything)
indexed l SameSets.none = everything_same
indexed zero (SameSets.more p ps) = p
indexed (suc l) (SameSets.more p ps) = indexed l ps

gate_same : {v : ℕ} (net : RawNet) (one other : ℕ → SymbolicSet) → SameFamily v one other → (gate : Option Gate) → SameSet v (by_gate net one gate) (by_gate net other gate)
gate_same net one other same None = everything_same
gate_same {v} net one other same (Some gate) = cover_sets (slice_get net.covers gate.cover) (inputs_same v one other same gate.inputs)

source_same : {v : ℕ} {ls ks : List SymbolicSet} (net : RawNet) (one other : ℕ → SymbolicSet) → SameSets v ls ks → SameFamily v one other → (source : Source) → SameSet v (by_source net ls one source) (by_source net ks other source)
source_same net one other p same Input = everything_same
source_same net one other p same Free = everything_same
source_same net one other p same (OfGate g) = gate_same net one other same (slice_get net.gates g)
source_same net one other p same (OfLatch l) = indexed l p

unless_same : {v : ℕ} {w x : SymbolicSet} (is_weak : Bool) → SameSet v w x → SameSet v (unless_weakened is_weak w) (unless_weakened is_weak x)
unless_same true p = everything_same
unless_same false p = p

cut_same : {v : ℕ} {w x : SymbolicSet} (g y : Function) → SameSet v w x → SameSet v (cut_set w g y) (cut_set x g y)
cut_same g y p = record { zero = same_and p.zero itself; one = same_and p.one itself }

cut_works : {v : ℕ} {w x : SymbolicSet} (g y : Function) → SameSet v w x → AreSame v (cut_work w g y) (cut_work x g y)
cut_works g y p =
    AreSame.more itself (AreSame.more itself (AreSame.more itself (AreSame.more itself (AreSame.more itself
    (AreSame.more (same_and p.zero itself) (AreSame.more (same_and p.one itself) AreSame.none))))))

after_same : {v : ℕ} (d : SymbolicCut) (one other : ℕ → SymbolicSet) → SameFamily v one other → SameFamily v (after_cut d one) (after_cut d other)
after_same {v} d one other same id = by (d.node == id)
  where
    by : (b : Bool) → SameSet v (if b then cut_set (one id) d.guard d.value else one id) (if b then cut_set (other id) d.guard d.value else other id)
    by true = cut_same d.guard d.value (same id)
    by false = same id

cuts_same : {v : ℕ} (cuts : List SymbolicCut) (one other : ℕ → SymbolicSet) → SameFamily v one other → AreSame v (cuts_work cuts one) (cuts_work cuts other)
cuts_same [] one other same = AreSame.none
cuts_same (d ∷ cuts) one other same = append (cut_works d.guard d.value (same d.node)) (cuts_same cuts (after_cut d one) (after_cut d other) (after_same d one other same))

pub time_same : {v : ℕ} {ls ks : List SymbolicSet} (net : RawNet) (asked : SymbolicAsked) (one other : ℕ → SymbolicSet) → SameSets v ls ks → SameFamily v one other → AreSame v (time_work net ls asked one) (time_work net ks asked other)
time_same {v} {ls} {ks} net asked one other p same =
    let all = firsts_same v one other same net.nets in
    append (cuts_same asked.cuts (set_before_cuts net asked.weak ls one) (set_before_cuts net asked.weak ks other) (λ id. unless_same (is_weakened asked.weak id) (source_same net one other p same (source_of net id))))
    (append (gates_same v one other same net asked.weak net.gates)
    (append (for_each some_bit (λ w x. same_some) all) (append (for_each no_bit (λ w x. same_none) all) (chains disjunction (or_respects _) itself (for_each no_bit (λ w x. same_none) all)))))

pub empty_same : {v : ℕ} (net : RawNet) (one other : ℕ → SymbolicSet) → SameFamily v one other → Same v (some_empty net one) (some_empty net other)
empty_same {v} net one other same = wholes disjunction (or_respects _) itself (for_each no_bit (λ w x. same_none) (firsts_same v one other same net.nets))

-- ---- consequents

both_same : {v : ℕ} {w x : SymbolicSet} → SameSet v w x → Same v (both_bits w) (both_bits x)
both_same p = same_and p.zero p.one

zero_same : {v : ℕ} {w x : SymbolicSet} → SameSet v w x → Same v (only_zero w) (only_zero x)
zero_same p = same_and p.zero (same_not p.one)

one_same : {v : ℕ} {w x : SymbolicSet} → SameSet v w x → Same v (only_one w) (only_one x)
one_same p = same_and p.one (same_not p.zero)

refutes_same : {v : ℕ} {w x : SymbolicSet} (y : Function) → SameSet v w x → Same v (refutes w y) (refutes x y)
refutes_same y p = same_or (same_and itself (zero_same p)) (same_and itself (one_same p))

consequent_same : {v : ℕ} {w x : SymbolicSet} (g y : Function) → SameSet v w x → AreSame v (consequent_work w g y) (consequent_work x g y)
consequent_same g y p =
    AreSame.more (both_same p) (AreSame.more (same_and itself (both_same p))
    (AreSame.more (same_not p.zero) (AreSame.more (same_not p.one) (AreSame.more itself
    (AreSame.more (zero_same p) (AreSame.more (one_same p) (AreSame.more (same_and itself (zero_same p)) (AreSame.more (same_and itself (one_same p))
    (AreSame.more (refutes_same y p) (AreSame.more (same_and itself (refutes_same y p)) AreSame.none))))))))))

module _ (v : ℕ) (one other : ℕ → SymbolicSet) (same : SameFamily v one other) where
  pub consequents_same : (cuts : List SymbolicCut) → AreSame v (consequents_work one cuts) (consequents_work other cuts)
  consequents_same [] = AreSame.none
  consequents_same (d ∷ cuts) = append (consequent_same d.guard d.value (same d.node)) (consequents_same cuts)

  pub strongs_same : (cuts : List SymbolicCut) → AreSame v (strong_findings one cuts) (strong_findings other cuts)
  strongs_same [] = AreSame.none
  strongs_same (d ∷ cuts) = AreSame.more (same_and itself (refutes_same d.value (same d.node))) (strongs_same cuts)

  pub weaks_same : (cuts : List SymbolicCut) → AreSame v (weak_findings one cuts) (weak_findings other cuts)
  weaks_same [] = AreSame.none
  weaks_same (d ∷ cuts) = AreSame.more (same_and itself (both_same (same d.node))) (weaks_same cuts)

-- ---- lists of lists

pub times_same : {v : ℕ} (one other : ℕ → List Function) (n : ℕ) → ((t : ℕ) → t < n → AreSame v (one t) (other t)) → AreSame v (over_times one n) (over_times other n)
times_same one other zero same = AreSame.none
times_same one other (suc n) same = append (times_same one other n (λ t l. same t (omega arith))) (same n (omega arith))

pub sets_itself : {v : ℕ} (ws : List SymbolicSet) → SameSets v ws ws
sets_itself [] = SameSets.none
sets_itself (w ∷ ws) = SameSets.more (record { zero = itself; one = itself }) (sets_itself ws)

-- ---- nodes

map-map : (F : List Bool → List Bool) (G : List Bool → List Bool) (xs : List (List Bool)) → map F (map G xs) ≡ map (λ x. F (G x)) xs
map-map F G [] = refl
map-map F G (x ∷ xs) = ap (λ ys. F (G x) ∷ ys) (map-map F G xs)

-- what is the same for all short lists of bits
on_prefixes : (n : ℕ) (F G : List Bool → List Bool) → ((p : List Bool) → length p ≤ n → F p ≡ G p) → map F (prefixes n) ≡ map G (prefixes n)
on_prefixes zero F G same = ap (λ x. x ∷ []) (same [] (omega arith))
on_prefixes (suc n) F G same =
    ap (λ x. x ∷ map F (low ++ high)) (same [] (omega arith))
    ∙ ap (λ xs. G [] ∷ xs) (map-append F low high
    ∙ ap (λ xs. xs ++ map F high) (map-map F (λ p. false ∷ p) (prefixes n) ∙ on_prefixes n (λ p. F (false ∷ p)) (λ p. G (false ∷ p)) (λ p l. same (false ∷ p) (omega (arith, l))) ∙ sym (map-map G (λ p. false ∷ p) (prefixes n)))
    ∙ ap (λ xs. map G low ++ xs) (map-map F (λ p. true ∷ p) (prefixes n) ∙ on_prefixes n (λ p. F (true ∷ p)) (λ p. G (true ∷ p)) (λ p l. same (true ∷ p) (omega (arith, l))) ∙ sym (map-map G (λ p. true ∷ p) (prefixes n)))
    ∙ sym (map-append G low high))
  where
    low : List (List Bool)
    low = map (λ p. false ∷ p) (prefixes n)

    high : List (List Bool)
    high = map (λ p. true ∷ p) (prefixes n)

cofactors_same : {v : ℕ} {fs gs : List Function} → AreSame v fs gs → cofactors v fs ≡ cofactors v gs
cofactors_same AreSame.none = refl
cofactors_same {v} (AreSame.more {f = f} {g = g} {fs = fs} {gs = gs} p ps) =
    ap (λ xs. xs ++ cofactors v fs) (on_prefixes v (λ q. bits_of v (cofactor q f)) (λ q. bits_of v (cofactor q g))
    (λ q short. bits-same v (cofactor q f) (cofactor q g) (λ bits l. p.at (q ++ drop (length q) bits) (simp (length-append, length-drop) (omega (arith, short, l))))))
    ∙ ap (λ xs. map (λ q. bits_of v (cofactor q g)) (prefixes v) ++ xs) (cofactors_same ps)

pub count_same : {v : ℕ} {fs gs : List Function} → AreSame v fs gs → node_count v fs ≡ node_count v gs
count_same {v} p = ap (λ xs. length (unique_keys same_bits (filter (λ bits. not (is_constant v bits)) xs))) (cofactors_same p)
