-- One more net in the sum of where nets are empty.
use Rattle.std.specs.Prelude.{◌||◌}
use Rattle.std.proofs.Common.{◌≡◌, ℕ, zero, suc, ◌+◌, ◌<◌, List, [], ◌∷◌, ◌++◌, length, take, get_or, refl, sym, ◌∙◌, ap, subst, arith, Contains, map, Result, true, false, not, Bool, All}
use Rattle.std.specs.List.{AllZip}
use Rattle.std.proofs.lemmas.List.{length-map, get_or-map}
use Rattle.std.proofs.lemmas.List.Elements.{All-cons, All-head, All-nil, All-tail, Contains-append_left, Contains-append_right}
use Rattle.dd_nodes.specs.declared.node.Ref.{Ref}
use Rattle.ste_base.specs.Functions.{Function}
use Rattle.dd_nodes.specs.Stores.{Store, Means}
use Rattle.dd_nodes.proofs.Spending.{zero_means}
use Rattle.dd_ops.proofs.Terminal.{one_bit}
use Rattle.dd_nodes.proofs.Stores.{IsGood}
use Rattle.dd_ops.specs.declared.fault.OpFault.{OpFault}
use Rattle.net_core.specs.Work.{SymbolicSet, everything, never, disjunction, no_bit, some_bit, sum, sums, whole}
use Rattle.gate_sets.specs.declared.net_rails.NetRails.{NetRails}
use Rattle.sym_step.specs.private.Boards.{AreFull}
use Rattle.gate_sets.specs.NetSets.{AreNetRails}
use Rattle.gate_sets.proofs.NetRefs.{Net-keeps}
use Rattle.dual_rail.specs.Rail.{Built, HasFunction}
use Rattle.dual_rail.specs.Calls.{Reached}
use Rattle.dual_rail.proofs.Works.{Within, Built-wider, last}
use Rattle.dual_rail.proofs.Chains.{chain-has, whole-next}
use Rattle.dual_rail.proofs.Turns.{zip_at, zip_long, within_two}

no_bit-has : (sets : List SymbolicSet) (k : ℕ) (w : SymbolicSet) → k < length sets → Contains (map no_bit sets) (no_bit (get_or sets k w))
no_bit-has [] k w lt = absurd (omega arith)
no_bit-has (v ∷ sets) zero w lt = (0, omega arith, refl)
no_bit-has (v ∷ sets) (suc k) w lt = let h = no_bit-has sets k w (omega arith) in (suc h.0, let l = h.1 in omega arith, h.2)

pub empty_turn : (sets : List SymbolicSet) (nets : List NetRails) (s t u : Store) (k : ℕ) (r : NetRails) (sum : Ref) (result : Result Ref OpFault) → IsGood s → IsGood t → IsGood u → k < length nets → get_or nets k r ≡ r → AllZip (AreNetRails s) sets nets
    → Reached (map some_bit sets ++ (map no_bit sets ++ sums (map no_bit sets))) (whole disjunction never (take k (map no_bit sets))) s t sum
    → ((f : Function) (w : SymbolicSet) → Means t f sum → Means t (some_bit w) r.some → Built (disjunction f (no_bit w) ∷ no_bit w ∷ []) (HasFunction (disjunction f (no_bit w))) t u result)
    → Built (map some_bit sets ++ (map no_bit sets ++ sums (map no_bit sets))) (HasFunction (whole disjunction never (take (k + 1) (map no_bit sets)))) s u result
empty_turn sets nets s t u k r sum result gs gt gu lt is zip p call =
    let fs : List Function = map no_bit sets in
    let long = zip_long (AreNetRails s) sets nets zip in
    let n : length fs ≡ length sets = length-map sets no_bit in
    let w : SymbolicSet = get_or sets k everything in
    let f : Function = whole disjunction never (take k fs) in
    let work : List Function = map some_bit sets ++ (fs ++ sums fs) in
    let same : get_or fs k never ≡ no_bit w = get_or-map no_bit sets k everything never (omega (arith, long)) in
    let aw : AreNetRails s w r = subst (AreNetRails s w) is (zip_at (AreNetRails s) sets nets k everything r zip lt) in
    let summed : Contains (sums fs) (disjunction f (no_bit w)) = subst (λ (x : Function). Contains (sums fs) (disjunction f x)) same (chain-has disjunction never fs k never (omega (arith, n, long))) in
    let inside : Within (disjunction f (no_bit w) ∷ no_bit w ∷ []) work =
    within_two (disjunction f (no_bit w)) (no_bit w) work
    (Contains-append_right (map some_bit sets) (fs ++ sums fs) (disjunction f (no_bit w)) (Contains-append_right fs (sums fs) (disjunction f (no_bit w)) summed))
    (Contains-append_right (map some_bit sets) (fs ++ sums fs) (no_bit w) (Contains-append_left fs (sums fs) (no_bit w) (no_bit-has sets k everything (omega (arith, long))))) in
    subst (λ (x : Function). Built work (HasFunction x) s u result) (ap (disjunction f) (sym same) ∙ sym (whole-next disjunction never fs k never (omega (arith, n, long))))
    (last work (HasFunction (disjunction f (no_bit w))) s t u result gt gu p.so
    (Built-wider work (disjunction f (no_bit w) ∷ no_bit w ∷ []) (HasFunction (disjunction f (no_bit w))) t u result inside (call f w p.means (Net-keeps s t w r gs gt p.so.keeps aw).some)))

-- where a set has a bit everywhere, it adds nothing
pub nowhere : (a b : Bool) → b ≡ true → a ≡ (a || not b)
nowhere true b e = refl
nowhere false true e = refl
nowhere false false e = e

-- ---- where all have a bit everywhere

sum_never : (fs : List Function) (f : Function) (bits : List Bool) → f bits ≡ false → All (λ g. g bits ≡ false) fs → whole disjunction f fs bits ≡ false
sum_never [] f bits e h = e
sum_never (g ∷ gs) f bits e h = sum_never gs (disjunction f g) bits (ap (λ (x : Bool). x || g bits) e ∙ All-head (λ (k : Function). k bits ≡ false) g gs h) (All-tail (λ (k : Function). k bits ≡ false) g gs h)

all_never : (t : Store) (bits : List Bool) → IsGood t → length bits ≡ t.vars → (ws : List SymbolicSet) (nets : List NetRails) → AllZip (AreNetRails t) ws nets → AreFull nets → All (λ g. g bits ≡ false) (map no_bit ws)
all_never t bits gt l [] nets zip full = All-nil (λ (k : Function). k bits ≡ false)
all_never t bits gt l (w ∷ ws) [] zip full = absurd zip
all_never t bits gt l (w ∷ ws) (r ∷ rs) zip full =
    let one : r.some ≡ record { 0 = 1 } = All-head (λ (x : NetRails). x.some ≡ record { 0 = 1 }) r rs full in
    All-cons (λ (k : Function). k bits ≡ false) (no_bit w) (map no_bit ws)
    (ap not (sym (zip.0.some.value bits l) ∙ one_bit t r.some bits gt (ap (λ (x : Ref). x.0) one)))
    (all_never t bits gt l ws rs zip.1 (All-tail (λ (x : NetRails). x.some ≡ record { 0 = 1 }) r rs full))

-- no net is empty anywhere
pub none_empty : (t : Store) (ws : List SymbolicSet) (nets : List NetRails) → IsGood t → AllZip (AreNetRails t) ws nets → AreFull nets → Means t (sum (map no_bit ws)) (record { 0 = 0 })
none_empty t ws nets gt zip full =
    let zero = zero_means t gt in
    record { ref = zero.ref; value = λ bits l. zero.value bits l ∙ sym (sum_never (map no_bit ws) never bits refl (all_never t bits gt l ws nets zip full)) }
