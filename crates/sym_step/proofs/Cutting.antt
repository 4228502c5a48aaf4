-- Cuts of one net, one after another.
use Rattle.std.proofs.Common.{◌≡◌, ◌≢◌, ℕ, zero, suc, ◌+◌, ◌-◌, ◌≤◌, ◌<◌, Bool, false, List, [], ◌∷◌, length, map, take, get_or, refl, sym, ◌∙◌, ap, subst, arith, Ok, Result, eq-eqb, ne_eqb, true, All}
use Rattle.std.specs.Prelude.{◌&&◌, not, if◌then◌else◌}
use Rattle.std.specs.List.{AllZip}
use Rattle.std.proofs.lemmas.Bool.{false≢true}
use Rattle.std.proofs.lemmas.List.Elements.{All-head, All-tail, Contains-append_left, Contains-append_right}
use Rattle.ste_base.specs.Functions.{Function}
use Rattle.dd_nodes.specs.Stores.{Store, IsRef, Keeps, function}
use Rattle.dd_nodes.proofs.Stores.{IsGood, Means-keeps}
use Rattle.dd_ops.specs.declared.fault.OpFault.{OpFault}
use Rattle.net_core.specs.Work.{SymbolicSet, SymbolicCut, negation, cut_work, cut_set, after_cut, after_cuts, cuts_work}
use Rattle.gate_sets.specs.declared.flagged.FlaggedRails.{FlaggedRails}
use Rattle.dual_rail.specs.Rail.{Built}
use Rattle.gate_sets.specs.NetSets.{AreFlagged, AreFlaggedRefs, HasFlagged}
use Rattle.gate_sets.proofs.Summing.{within_one}
use Rattle.dd_nodes.proofs.Spending.{Means-same}
use Rattle.dual_rail.proofs.Works.{Built-good, own_set, set_where, refs_of}
use Rattle.dual_rail.proofs.Works.{SoFar}
use Rattle.dual_rail.proofs.Works.{Within, Built-wider, last, So-start, Built-made}
use Rattle.dd_nodes.proofs.Spending.{own}
use Rattle.sym_step.specs.declared.cut.Cut.{Cut}
use Rattle.sym_step.specs.Step.{IsCutBy}
use Rattle.sym_step.specs.private.Demands.{IsNearest, no_cut}

pub cut_here : (d : SymbolicCut) (sets : ℕ → SymbolicSet) (id : ℕ) (s t : Store) (result : Result FlaggedRails OpFault) → d.node ≡ id
    → Built (cut_work (sets id) d.guard d.value) (HasFlagged (cut_set (sets id) d.guard d.value)) s t result → Built (cut_work (sets d.node) d.guard d.value) (HasFlagged (after_cut d sets id)) s t result
cut_here d sets id s t result e b =
    let is : after_cut d sets id ≡ cut_set (sets id) d.guard d.value = ap (λ (x : Bool). if x then cut_set (sets id) d.guard d.value else sets id) (eq-eqb d.node id e) in
    subst (λ (n : ℕ). Built (cut_work (sets n) d.guard d.value) (HasFlagged (after_cut d sets id)) s t result) (sym e)
    (subst (λ (w : SymbolicSet). Built (cut_work (sets id) d.guard d.value) (HasFlagged w) s t result) (sym is) b)

left_zero : (z g x : Bool) → z ≡ true → g ≡ true → not x ≡ (z && not (g && x))
left_zero true true x e f = refl
left_zero true false x e f = absurd (false≢true f)
left_zero false g x e f = absurd (false≢true e)

left_one : (o g x : Bool) → o ≡ true → g ≡ true → x ≡ (o && not (g && not x))
left_one true true true e f = refl
left_one true true false e f = refl
left_one true false x e f = absurd (false≢true f)
left_one false g x e f = absurd (false≢true e)

-- a cut with the guard 1 leaves the value of both bits
pub bound_here : (w : SymbolicSet) (g x : Function) (s t : Store) (result : Result FlaggedRails OpFault)
    → ((bits : List Bool) → length bits ≡ s.vars → w.zero bits ≡ true) → ((bits : List Bool) → length bits ≡ s.vars → w.one bits ≡ true) → ((bits : List Bool) → length bits ≡ s.vars → g bits ≡ true)
    → Built (negation x ∷ []) (HasFlagged (record { zero = negation x; one = x })) s t result → Built (cut_work w g x) (HasFlagged (cut_set w g x)) s t result
bound_here w g x s t result wz wo on b =
    let alone : SymbolicSet = record { zero = negation x; one = x } in
    let work : List Function = cut_work w g x in
    let vars = b.spends.keeps.vars in
    let zero_is : (bits : List Bool) → length bits ≡ t.vars → not (x bits) ≡ (cut_set w g x).zero bits = λ bits l. left_zero (w.zero bits) (g bits) (x bits) (wz bits (l ∙ vars)) (on bits (l ∙ vars)) in
    let one_is : (bits : List Bool) → length bits ≡ t.vars → x bits ≡ (cut_set w g x).one bits = λ bits l. left_one (w.one bits) (g bits) (x bits) (wo bits (l ∙ vars)) (on bits (l ∙ vars)) in
    Built-good work (HasFlagged alone) (HasFlagged (cut_set w g x)) s t result (λ a h. record {
      rails = record {
        zero = Means-same t (negation x) (cut_set w g x).zero a.rails.can0 zero_is h.rails.zero;
        one = Means-same t x (cut_set w g x).one a.rails.can1 one_is h.rails.one;
      };
      known = λ yes bits l. sym (zero_is bits l) ∙ ap not (one_is bits l);
    })
    (Built-wider work (negation x ∷ []) (HasFlagged alone) s t result (within_one (negation x) work (0, omega arith, refl)) b)

pub own_flagged : (s : Store) (r : FlaggedRails) → AreFlaggedRefs s r → AreFlagged s (set_where s r.rails) r
own_flagged s r h = record { rails = own_set s r.rails h.rails; known = h.known }

pub flagged_refs : (s : Store) (w : SymbolicSet) (r : FlaggedRails) → AreFlagged s w r → AreFlaggedRefs s r
flagged_refs s w r m = record {
  rails = refs_of s w r.rails m.rails;
  known = λ yes bits l. m.rails.zero.value bits l ∙ m.known yes bits l ∙ ap not (sym (m.rails.one.value bits l));
}

pub cut_elsewhere : (d : SymbolicCut) (sets : ℕ → SymbolicSet) (id : ℕ) (s : Store) (r : FlaggedRails) (result : Result FlaggedRails OpFault) → d.node ≢ id → AreFlagged s (sets id) r
    → Built (cut_work (sets d.node) d.guard d.value) (HasFlagged (after_cut d sets id)) s s (Ok r)
cut_elsewhere d sets id s r result ne h =
    let is : after_cut d sets id ≡ sets id = ap (λ (x : Bool). if x then cut_set (sets id) d.guard d.value else sets id) (ne_eqb d.node id ne) in
    Built-made (cut_work (sets d.node) d.guard d.value) (HasFlagged (after_cut d sets id)) s s r (So-start (cut_work (sets d.node) d.guard d.value) s) (subst (λ (w : SymbolicSet). AreFlagged s w r) (sym is) h)

after_step : (ds : List SymbolicCut) (f : ℕ → SymbolicSet) (k : ℕ) (d : SymbolicCut) → k < length ds → after_cuts (take (suc k) ds) f ≡ after_cut (get_or ds k d) (after_cuts (take k ds) f)
after_step [] f k d lt = absurd (omega arith)
after_step (e ∷ ds) f zero d lt = refl
after_step (e ∷ ds) f (suc k) d lt = after_step ds (after_cut e f) k d (omega arith)

pub after_next : (ds : List SymbolicCut) (f : ℕ → SymbolicSet) (k : ℕ) (d : SymbolicCut) → k < length ds → after_cuts (take (k + 1) ds) f ≡ after_cut (get_or ds k d) (after_cuts (take k ds) f)
after_next ds f k d lt = ap (λ j. after_cuts (take j ds) f) (let e : k + 1 ≡ suc k = omega arith in e) ∙ after_step ds f k d lt

pub cuts_has : (ds : List SymbolicCut) (f : ℕ → SymbolicSet) (k : ℕ) (d : SymbolicCut) → k < length ds
    → Within (cut_work (after_cuts (take k ds) f (get_or ds k d).node) (get_or ds k d).guard (get_or ds k d).value) (cuts_work ds f)
cuts_has [] f k d lt = absurd (omega arith)
cuts_has (e ∷ ds) f zero d lt = λ x h. Contains-append_left (cut_work (f e.node) e.guard e.value) (cuts_work ds (after_cut e f)) x h
cuts_has (e ∷ ds) f (suc k) d lt = λ x h. Contains-append_right (cut_work (f e.node) e.guard e.value) (cuts_work ds (after_cut e f)) x (cuts_has ds (after_cut e f) k d (omega arith) x h)

pub demand_at : (s : Store) (ds : List SymbolicCut) (cuts : List Cut) (k : ℕ) (d : SymbolicCut) (c : Cut) → AllZip (IsCutBy s) ds cuts → k < length cuts → IsCutBy s (get_or ds k d) (get_or cuts k c)
demand_at s [] [] k d c h lt = absurd (omega arith)
demand_at s [] (y ∷ ys) k d c h lt = absurd h
demand_at s (x ∷ xs) [] k d c h lt = absurd h
demand_at s (x ∷ xs) (y ∷ ys) zero d c h lt = h.0
demand_at s (x ∷ xs) (y ∷ ys) (suc k) d c h lt = demand_at s xs ys k d c h.1 (omega arith)

pub demands_long : (s : Store) (ds : List SymbolicCut) (cuts : List Cut) → AllZip (IsCutBy s) ds cuts → length ds ≡ length cuts
demands_long s [] [] h = refl
demands_long s [] (y ∷ ys) h = absurd h
demands_long s (x ∷ xs) [] h = absurd h
demands_long s (x ∷ xs) (y ∷ ys) h = ap suc (demands_long s xs ys h.1)

pub SymbolicCut-keeps : (s t : Store) (d : SymbolicCut) (c : Cut) → IsGood s → IsGood t → Keeps s t → IsCutBy s d c → IsCutBy t d c
SymbolicCut-keeps s t d c ds dt k h = record { node = h.node; guard = Means-keeps s t d.guard c.guard ds dt k h.guard; value = Means-keeps s t d.value c.value ds dt k h.value }

pub Demands-keep : (s t : Store) (xs : List SymbolicCut) (cuts : List Cut) → IsGood s → IsGood t → Keeps s t → AllZip (IsCutBy s) xs cuts → AllZip (IsCutBy t) xs cuts
Demands-keep s t [] [] ds dt k h = tt
Demands-keep s t [] (y ∷ ys) ds dt k h = absurd h
Demands-keep s t (x ∷ xs) [] ds dt k h = absurd h
Demands-keep s t (x ∷ xs) (y ∷ ys) ds dt k h = (SymbolicCut-keeps s t x y ds dt k h.0, Demands-keep s t xs ys ds dt k h.1)

-- the net is asked nothing, by the references' own functions
pub own_demand : (s : Store) (c : Cut) → IsRef s c.guard → IsRef s c.value → IsCutBy s (record { node = c.node.0; guard = function s c.guard; value = function s c.value }) c
own_demand s c hg hv = record { node = refl; guard = own s c.guard hg; value = own s c.value hv }

nothing : SymbolicCut
nothing = record { node = 0; guard = λ bits. false; value = λ bits. false }

-- one more cut
pub cut_turn : (ds : List SymbolicCut) (sets : ℕ → SymbolicSet) (cuts : List Cut) (s t u : Store) (k : ℕ) (c : Cut) (id : ℕ) (left : FlaggedRails) (result : Result FlaggedRails OpFault)
    → IsGood s → IsGood t → IsGood u → k < length cuts → get_or cuts k c ≡ c → AllZip (IsCutBy s) ds cuts → SoFar (cuts_work ds sets) s t → AreFlagged t (after_cuts (take k ds) sets id) left
    → ((d : SymbolicCut) (f : ℕ → SymbolicSet) → IsCutBy t d c → AreFlagged t (f id) left → Built (cut_work (f d.node) d.guard d.value) (HasFlagged (after_cut d f id)) t u result)
    → Built (cuts_work ds sets) (HasFlagged (after_cuts (take (k + 1) ds) sets id)) s u result
cut_turn ds sets cuts s t u k c id left result gs gt gu lt is zip so means call =
    let n = demands_long s ds cuts zip in
    let d : SymbolicCut = get_or ds k nothing in
    let f : ℕ → SymbolicSet = after_cuts (take k ds) sets in
    let inside : k < length ds = omega (arith, n) in
    let asked : IsCutBy s d c = subst (IsCutBy s d) is (demand_at s ds cuts k nothing c zip lt) in
    let work : List Function = cuts_work ds sets in
    subst (λ (g : ℕ → SymbolicSet). Built work (HasFlagged (g id)) s u result) (sym (after_next ds sets k nothing inside))
    (last work (HasFlagged (after_cut d f id)) s t u result gt gu so
    (Built-wider work (cut_work (f d.node) d.guard d.value) (HasFlagged (after_cut d f id)) t u result (cuts_has ds sets k nothing inside) (call d f (SymbolicCut-keeps s t d c gs gt so.keeps asked) means)))

-- a cut of another net changes nothing
elsewhere : (d : SymbolicCut) (f : ℕ → SymbolicSet) (id : ℕ) → d.node ≢ id → after_cut d f id ≡ f id
elsewhere d f id ne = ap (λ (x : Bool). if x then cut_set (f id) d.guard d.value else f id) (ne_eqb d.node id ne)

-- so many cuts of other nets change nothing
none_of : (ds : List SymbolicCut) (f : ℕ → SymbolicSet) (id a n : ℕ) → a + n ≤ length ds → ((j : ℕ) → a ≤ j → j < a + n → (get_or ds j nothing).node ≢ id)
    → after_cuts (take (a + n) ds) f id ≡ after_cuts (take a ds) f id
none_of ds f id a zero le none = ap (λ (k : ℕ). after_cuts (take k ds) f id) (let e : a + 0 ≡ a = omega arith in e)
none_of ds f id a (suc n) le none =
    ap (λ (k : ℕ). after_cuts (take k ds) f id) (let e : a + suc n ≡ a + n + 1 = omega arith in e)
    ∙ ap (λ (g : ℕ → SymbolicSet). g id) (after_next ds f (a + n) nothing (omega (arith, le)))
    ∙ elsewhere (get_or ds (a + n) nothing) (after_cuts (take (a + n) ds) f) id (none (a + n) (omega arith) (omega arith))
    ∙ none_of ds f id a n (omega (arith, le)) (λ j least less. none j least (omega (arith, less)))

-- the cuts up to the nearest one of a net change nothing of it
pub skipped : (s : Store) (ds : List SymbolicCut) (cuts : List Cut) (f : ℕ → SymbolicSet) (id a m : ℕ) → AllZip (IsCutBy s) ds cuts → IsNearest cuts id a m → after_cuts (take m ds) f id ≡ after_cuts (take a ds) f id
skipped s ds cuts f id a m zip near =
    let from = near.from in
    let within = near.within in
    let n = demands_long s ds cuts zip in
    let there : m ≡ a + (m - a) = omega (arith, from) in
    ap (λ (k : ℕ). after_cuts (take k ds) f id) there
    ∙ none_of ds f id a (m - a) (omega (arith, n, within, from)) (λ j least less same.
    near.absent j least (omega (arith, less, from)) (sym (demand_at s ds cuts j nothing no_cut zip (omega (arith, less, from, within))).node ∙ same))

-- cuts as what their references ask
pub own_demands : (s : Store) (cuts : List Cut) → All (λ c. IsRef s c.guard) cuts → All (λ c. IsRef s c.value) cuts → AllZip (IsCutBy s) (map (λ (c : Cut). record { node = c.node.0; guard = function s c.guard; value = function s c.value }) cuts) cuts
own_demands s [] hg hv = tt
own_demands s (c ∷ cs) hg hv = (own_demand s c (All-head (λ c. IsRef s c.guard) c cs hg) (All-head (λ c. IsRef s c.value) c cs hv), own_demands s cs (All-tail (λ c. IsRef s c.guard) c cs hg) (All-tail (λ c. IsRef s c.value) c cs hv))
