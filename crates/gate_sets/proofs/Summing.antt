-- One more literal of a row, and one more row of a sum.
use Rattle.std.proofs.Common.{◌≡◌, ℕ, zero, suc, ◌+◌, ◌<◌, ◌≤◌, List, [], ◌∷◌, length, take, get_or, sym, ◌∙◌, ap, subst, arith, Contains, Result}
use Rattle.std.proofs.lemmas.List.{length-map}
use Rattle.dd_nodes.specs.declared.node.Ref.{Ref}
use Rattle.ste_base.specs.Functions.{Function}
use Rattle.dd_nodes.specs.Stores.{Store, Means}
use Rattle.dd_nodes.proofs.Stores.{IsGood}
use Rattle.dd_ops.specs.declared.fault.OpFault.{OpFault}
use Rattle.net_core.specs.declared.cover.Lit.{Lit}
use Rattle.net_core.specs.declared.cover.Lit.TheVariants.{Any}
use Rattle.net_core.specs.Work.{SymbolicSet, everything, always, never, conjunction, whole, factor, factors, products}
use Rattle.dual_rail.specs.Rail.{Built, HasFunction}
use Rattle.dual_rail.proofs.Works.{SoFar, Within, Built-wider, last}
use Rattle.std.proofs.Common.{All}
use Rattle.ste_base.specs.declared.id.NodeId.{NodeId}
use Rattle.dual_rail.specs.Calls.{Reached}
use Rattle.gate_sets.specs.declared.net_rails.NetRails.{NetRails}
use Rattle.gate_sets.specs.NetSets.{AreNetRails, HaveInputs, sets_at}
use Rattle.gate_sets.proofs.NetRefs.{Net-keeps, input_here, set_here}
use Rattle.dual_rail.proofs.Chains.{chain-has, whole-next, length-factors, factors-at}

pub within_one : (a : Function) (work : List Function) → Contains work a → Within (a ∷ []) work
within_one a work has f (zero, lt, e) = subst (Contains work) e has
within_one a work has f (suc k, lt, e) = absurd (omega arith)

-- the product of the first k literals
abbrev pub begun_product : List Lit → List SymbolicSet → ℕ → Function
begun_product row ws k = whole conjunction always (take k (factors row ws))

-- the next product is one of the row
pub product_in : (row : List Lit) (ws : List SymbolicSet) (k : ℕ) (lit : Lit) (w : SymbolicSet) → length row ≡ length ws → k < length row → get_or row k Any ≡ lit → get_or ws k everything ≡ w
    → (Contains (products (factors row ws)) (conjunction (begun_product row ws k) (factor lit w))) × (begun_product row ws (k + 1) ≡ conjunction (begun_product row ws k) (factor lit w))
product_in row ws k lit w long lt is_lit is_w =
    let fs : List Function = factors row ws in
    let n : length fs ≡ length row = length-factors row ws long in
    let same : get_or fs k never ≡ factor lit w = factors-at row ws k never Any everything long lt ∙ ap (λ l. factor l (get_or ws k everything)) is_lit ∙ ap (factor lit) is_w in
    let inside : k < length fs = omega (arith, n, lt) in (
      subst (λ (h : Function). Contains (products fs) (conjunction (begun_product row ws k) h)) same (chain-has conjunction always fs k never inside),
      whole-next conjunction always fs k never inside ∙ ap (conjunction (begun_product row ws k)) same,
    )

-- one more literal
pub literal_turn : (row : List Lit) (ws : List SymbolicSet) (work : List Function) (s t u : Store) (k : ℕ) (lit : Lit) (w : SymbolicSet) (result : Result Ref OpFault) → IsGood t → IsGood u
    → length row ≡ length ws → k < length row → get_or row k Any ≡ lit → get_or ws k everything ≡ w → Within (products (factors row ws)) work → SoFar work s t
    → Built (conjunction (begun_product row ws k) (factor lit w) ∷ []) (HasFunction (conjunction (begun_product row ws k) (factor lit w))) t u result
    → Built work (HasFunction (begun_product row ws (k + 1))) s u result
literal_turn row ws work s t u k lit w result dt du long lt is_lit is_w within so made =
    let f : Function = conjunction (begun_product row ws k) (factor lit w) in
    let p = product_in row ws k lit w long lt is_lit is_w in
    subst (λ (h : Function). Built work (HasFunction h) s u result) (sym p.1)
    (last work (HasFunction f) s t u result dt du so (Built-wider work (f ∷ []) (HasFunction f) t u result (within_one f work (within f p.0)) made))

-- one more - of a row that has only - left
pub filled_turn : (nets : List NetRails) (inputs : List NodeId) (sets : ℕ → SymbolicSet) (row : List Lit) (s t u : Store) (from k : ℕ) (id : NodeId) (r : NetRails) (all : Ref) (result : Result Ref OpFault)
    → IsGood s → IsGood t → IsGood u → from ≤ k → k < length inputs → All (λ input. input.0 < length nets) inputs → get_or inputs k id ≡ id → get_or nets id.0 r ≡ r
    → length row ≡ length inputs → ((j : ℕ) → from ≤ j → j < length row → get_or row j Any ≡ Any) → HaveInputs s sets nets inputs
    → Reached (products (factors row (sets_at sets inputs))) (begun_product row (sets_at sets inputs) k) s t all
    → ((f : Function) (w : SymbolicSet) → Means t f all → AreNetRails t w r → Built (conjunction f (factor Any w) ∷ []) (HasFunction (conjunction f (factor Any w))) t u result)
    → Built (products (factors row (sets_at sets inputs))) (HasFunction (begun_product row (sets_at sets inputs) (k + 1))) s u result
filled_turn nets inputs sets row s t u from k id r all result ds dt du le lt inside is_id is_r long blank have p call =
    let ws : List SymbolicSet = sets_at sets inputs in
    let n : length ws ≡ length inputs = length-map inputs (λ (input : NodeId). sets input.0) in
    let w : SymbolicSet = sets id.0 in
    let aw : AreNetRails t w r = Net-keeps s t w r ds dt p.so.keeps (input_here s sets nets inputs k id r inside lt is_id is_r have) in
    literal_turn row ws (products (factors row ws)) s t u k Any w result dt du (omega (arith, long, n)) (omega (arith, long, lt)) (blank k le (omega (arith, long, lt))) (set_here sets inputs k id lt is_id) (λ f h. h) p.so
    (call (begun_product row ws k) w p.means aw)
