-- A gate of two inputs by the only row of one of its lists: its product and its sum are among the gate's functions.
use Rattle.std.proofs.Common.{All, ◌≡◌, ◌≢◌, ◌<◌, ℕ, zero, suc, Bool, true, false, not, List, [], ◌∷◌, ◌++◌, length, get_or, refl, sym, ◌∙◌, ap, subst, arith, Contains, Result}
use Rattle.std.specs.Prelude.{◌&&◌, ◌||◌}
use Rattle.std.proofs.lemmas.Bool.{false≢true}
use Rattle.std.proofs.lemmas.List.{get_or_default}
use Rattle.std.proofs.lemmas.List.Elements.{Contains-append_left, Contains-append_right}
use Rattle.ste_base.specs.declared.id.NodeId.{NodeId}
use Rattle.dd_nodes.specs.declared.node.Ref.{Ref}
use Rattle.ste_base.specs.Functions.{Function}
use Rattle.dd_nodes.specs.Stores.{Store, function}
use Rattle.dd_nodes.specs.Spending.{Has}
use Rattle.dd_nodes.proofs.Stores.{IsGood}
use Rattle.dd_nodes.proofs.Spending.{Covers, Means-same}
use Rattle.dd_ops.specs.declared.fault.OpFault.{OpFault}
use Rattle.dd_ops.proofs.Terminal.{one_bit}
use Rattle.net_core.specs.declared.cover.Lit.{Lit}
use Rattle.net_core.specs.declared.cover.Lit.TheVariants.{Zero, One, Any}
use Rattle.net_core.specs.Cover.{admits, some_matches}
use Rattle.net_core.specs.Work.{AreWide, SymbolicSet, chain, whole, conjunction, disjunction, never, factor, sum, sums, row_products, rows_chains, rows_work, gate_set, gate_work, some_bit}
use Rattle.dual_rail.specs.declared.rails.Rails.{Rails}
use Rattle.dual_rail.specs.Rail.{AreRails, Built, HasSet}
use Rattle.dual_rail.proofs.Works.{here, behind, Built-covers, Built-good}
use Rattle.gate_sets.specs.declared.net_rails.NetRails.{NetRails}
use Rattle.gate_sets.specs.private.Refused.{other_factor}
use Rattle.gate_sets.specs.NetSets.{AreNetRails, HaveInputs, net_at}
use Rattle.gate_sets.proofs.NetRefs.{input_here}
use Rattle.gate_sets.proofs.OtherRail.{pair_others}

-- the whole is the last of the chain
whole_in : (join : Function → Function → Function) (f g : Function) (gs : List Function) → Contains (chain join f (g ∷ gs)) (whole join f (g ∷ gs))
whole_in join f g [] = here (join f g) []
whole_in join f g (h ∷ hs) = behind (join f g) (chain join (join f g) (h ∷ hs)) (whole join (join f g) (h ∷ hs)) (whole_in join (join f g) h hs)

-- where some row is there, the whole sum is among the sums
pub sum_in : (rows : List (List Lit)) (ws : List SymbolicSet) → rows ≢ [] → Contains (rows_work rows ws) (sum (row_products rows ws))
sum_in [] ws some = absurd (some refl)
sum_in (row ∷ rows) ws some =
    let fs : List Function = row_products (row ∷ rows) ws in
    let has : Contains (sums fs) (sum fs) = whole_in disjunction never _ (row_products rows ws) in
    Contains-append_right _ (rows_chains (row ∷ rows) ws ++ sums fs) (sum fs) (Contains-append_right (rows_chains (row ∷ rows) ws) (sums fs) (sum fs) has)

-- the one row of two literals
abbrev pub pair_row : Lit → Lit → List (List Lit)
pair_row x y = (x ∷ y ∷ []) ∷ []

-- the functions of both rails
abbrev pub product_of : Lit → Lit → SymbolicSet → SymbolicSet → Function
product_of x y v w = conjunction (factor x v) (factor y w)

abbrev pub sum_of : Lit → Lit → SymbolicSet → SymbolicSet → Function
sum_of x y v w = disjunction (other_factor x v) (other_factor y w)

-- the rows that stand against it are complementary, and neither set is empty anywhere
pub record Against (x y : Lit) (others : List (List Lit)) (v w : SymbolicSet) (vars : ℕ) : Type 0 where
  pub wide : AreWide others 2
  pub apart : (bs : List Bool) → length bs ≡ 2 → some_matches others bs ≡ not (some_matches (pair_row x y) bs)
  pub asks : y ≢ Any
  pub full_v : (bits : List Bool) → length bits ≡ vars → some_bit v bits ≡ true
  pub full_w : (bits : List Bool) → length bits ≡ vars → some_bit w bits ≡ true

and_none : (a : Bool) → not ((a && false) || false) ≡ true
and_none true = refl
and_none false = refl

refuses : (y : Lit) → y ≢ Any → (b : Bool) × (admits y b ≡ false)
refuses Zero some = (true, refl)
refuses One some = (false, refl)
refuses Any some = absurd (some refl)

there_are_others : (x y : Lit) (others : List (List Lit)) → y ≢ Any → ((bs : List Bool) → length bs ≡ 2 → some_matches others bs ≡ not (some_matches (pair_row x y) bs)) → others ≢ []
there_are_others x y others some apart e =
    let r = refuses y some in
    let off : some_matches others (true ∷ r.0 ∷ []) ≡ true = apart (true ∷ r.0 ∷ []) refl ∙ ap (λ b. not ((admits x true && (b && true)) || false)) r.1 ∙ and_none (admits x true) in
    let none : some_matches others (true ∷ r.0 ∷ []) ≡ false = ap (λ rows. some_matches rows (true ∷ r.0 ∷ [])) e in
    absurd (false≢true (sym none ∙ off))

module _ (x y : Lit) (others : List (List Lit)) (v w : SymbolicSet) where
  abbrev ws : List SymbolicSet
  ws = v ∷ w ∷ []

  product_here : (vars : ℕ) → Has vars (rows_work (pair_row x y) ws) (product_of x y v w)
  product_here vars = (product_of x y v w, (3, omega arith, refl), λ bits l. refl)

  sum_is : (vars : ℕ) → Against x y others v w vars → (bits : List Bool) → length bits ≡ vars → sum (row_products others ws) bits ≡ sum_of x y v w bits
  sum_is vars a bits l = pair_others x y others v w bits a.wide a.apart (a.full_v bits l) (a.full_w bits l)

  sum_here : (vars : ℕ) → Against x y others v w vars → Has vars (rows_work others ws) (sum_of x y v w)
  sum_here vars a = (sum (row_products others ws), sum_in others ws (there_are_others x y others a.asks a.apart), sum_is vars a)

  either_side : (vars : ℕ) (work : List Function) → Has vars work (product_of x y v w) → Has vars work (sum_of x y v w) → Covers vars (product_of x y v w ∷ sum_of x y v w ∷ []) work
  either_side vars work p q f (zero, lt, e) = subst (Has vars work) e p
  either_side vars work p q f (suc zero, lt, e) = subst (Has vars work) e q
  either_side vars work p q f (suc (suc k), lt, e) = absurd (omega arith)

  left_has : (vars : ℕ) (part rest : List Function) (f : Function) → Has vars part f → Has vars (part ++ rest) f
  left_has vars part rest f (h, has, same) = (h, Contains-append_left part rest h has, same)

  right_has : (vars : ℕ) (rest part : List Function) (f : Function) → Has vars part f → Has vars (rest ++ part) f
  right_has vars rest part f (h, has, same) = (h, Contains-append_right rest part h has, same)

  abbrev pub PairSet : SymbolicSet
  PairSet = record { zero = sum_of x y v w; one = product_of x y v w }

  -- the row is the on-row
  pub pair_on : (s t : Store) (result : Result Rails OpFault) → Against x y others v w s.vars
      → Built (product_of x y v w ∷ sum_of x y v w ∷ []) (HasSet PairSet) s t result
      → Built (gate_work (pair_row x y) others ws) (HasSet (gate_set (pair_row x y) others ws)) s t result
  pair_on s t result a b =
      let on : List Function = rows_work (pair_row x y) ws in
      let off : List Function = rows_work others ws in
      Built-good (gate_work (pair_row x y) others ws) (HasSet PairSet) (HasSet (gate_set (pair_row x y) others ws)) s t result
      (λ r m. record {
        zero = Means-same t (sum_of x y v w) (sum (row_products others ws)) r.can0 (λ bits l. sym (sum_is s.vars a bits (l ∙ b.spends.keeps.vars))) m.zero;
        one = Means-same t (product_of x y v w) (sum (row_products (pair_row x y) ws)) r.can1 (λ bits l. refl) m.one;
      })
      (Built-covers (gate_work (pair_row x y) others ws) (product_of x y v w ∷ sum_of x y v w ∷ []) (HasSet PairSet) s t result
      (either_side s.vars (gate_work (pair_row x y) others ws) (left_has s.vars on off (product_of x y v w) (product_here s.vars)) (right_has s.vars on off (sum_of x y v w) (sum_here s.vars a))) b)

  -- the row is the off-row
  abbrev pub SwappedSet : Store → Rails → Type 0
  SwappedSet t r = AreRails t (gate_set others (pair_row x y) ws) (record { can0 = r.can1; can1 = r.can0 })

  pub pair_off : (s t : Store) (result : Result Rails OpFault) → Against x y others v w s.vars
      → Built (product_of x y v w ∷ sum_of x y v w ∷ []) (HasSet PairSet) s t result
      → Built (gate_work others (pair_row x y) ws) SwappedSet s t result
  pair_off s t result a b =
      let on : List Function = rows_work others ws in
      let off : List Function = rows_work (pair_row x y) ws in
      Built-good (gate_work others (pair_row x y) ws) (HasSet PairSet) SwappedSet s t result
      (λ r m. record {
        one = Means-same t (sum_of x y v w) (sum (row_products others ws)) r.can0 (λ bits l. sym (sum_is s.vars a bits (l ∙ b.spends.keeps.vars))) m.zero;
        zero = Means-same t (product_of x y v w) (sum (row_products (pair_row x y) ws)) r.can1 (λ bits l. refl) m.one;
      })
      (Built-covers (gate_work others (pair_row x y) ws) (product_of x y v w ∷ sum_of x y v w ∷ []) (HasSet PairSet) s t result
      (either_side s.vars (gate_work others (pair_row x y) ws) (right_has s.vars on off (product_of x y v w) (product_here s.vars)) (left_has s.vars on off (sum_of x y v w) (sum_here s.vars a))) b)

-- ---- the two inputs

pub two_inputs : (inputs : List NodeId) (i j : NodeId) → length inputs ≡ 2 → get_or inputs 0 i ≡ i → get_or inputs 1 j ≡ j → inputs ≡ i ∷ j ∷ []
two_inputs [] i j l e f = absurd (omega (arith, l))
two_inputs (a ∷ []) i j l e f = absurd (omega (arith, l))
two_inputs (a ∷ b ∷ []) i j l e f = cc
two_inputs (a ∷ b ∷ c ∷ xs) i j l e f = absurd (omega (arith, l))

-- where a net has a bit everywhere, its set does
pub full_at : (s : Store) (w : SymbolicSet) (r : NetRails) → IsGood s → r.some ≡ record { 0 = 1 } → AreNetRails s w r → (bits : List Bool) → length bits ≡ s.vars → some_bit w bits ≡ true
full_at s w r d e m bits l =
    let one : Ref = record { 0 = 1 } in
    sym (m.some.value bits l) ∙ ap (λ (x : Ref). function s x bits) e ∙ one_bit s one bits d refl

-- what is known of two inputs that are nowhere empty, whatever sets they have
pub record TwoInputs (x y : Lit) (others : List (List Lit)) (nets : List NetRails) (inputs : List NodeId) (i j : NodeId) (a b : NetRails) (s : Store) (sets : ℕ → SymbolicSet) : Type 0 where
  pub are : inputs ≡ i ∷ j ∷ []
  pub against : Against x y others (sets i.0) (sets j.0) s.vars
  pub left : AreNetRails s (sets i.0) a
  pub right : AreNetRails s (sets j.0) b

pub two_known : (x y : Lit) (rows others : List (List Lit)) (nets : List NetRails) (inputs : List NodeId) (i j : NodeId) (a b : NetRails) (s : Store) → IsGood s
    → length inputs ≡ 2 → get_or inputs 0 i ≡ i → get_or inputs 1 j ≡ j → get_or nets i.0 a ≡ a → get_or nets j.0 b ≡ b
    → All (λ input. input.0 < length nets) inputs → All (λ input. (net_at nets input.0).some ≡ record { 0 = 1 }) inputs
    → rows ≡ pair_row x y → y ≢ Any → AreWide others (length inputs) → ((bs : List Bool) → length bs ≡ length inputs → some_matches others bs ≡ not (some_matches rows bs))
    → (sets : ℕ → SymbolicSet) → HaveInputs s sets nets inputs → TwoInputs x y others nets inputs i j a b s sets
two_known x y rows others nets inputs i j a b s d two is_i is_j is_a is_b inside full row asks wide apart sets have =
    let ma : AreNetRails s (sets i.0) a = input_here s sets nets inputs 0 i a inside (omega (arith, two)) is_i is_a have in
    let mb : AreNetRails s (sets j.0) b = input_here s sets nets inputs 1 j b inside (omega (arith, two)) is_j is_b have in
    let full_here : (k : ℕ) (id : NodeId) (r : NetRails) → k < length inputs → get_or inputs k id ≡ id → get_or nets id.0 r ≡ r → r.some ≡ record { 0 = 1 } =
    λ k id r lt is_id is_r.
    let within : id.0 < length nets = subst (λ (n : NodeId). n.0 < length nets) is_id (inside k id lt) in
    let at : (net_at nets id.0).some ≡ record { 0 = 1 } = subst (λ (n : NodeId). (net_at nets n.0).some ≡ record { 0 = 1 }) is_id (full k id lt) in
    ap (λ (n : NetRails). n.some) (sym is_r ∙ get_or_default nets id.0 r _ within) ∙ at in
    record {
      are = two_inputs inputs i j two is_i is_j;
      against = record {
        wide = subst (AreWide others) two wide;
        apart = λ bs l. apart bs (l ∙ sym two) ∙ ap (λ (rs : List (List Lit)). not (some_matches rs bs)) row;
        asks = asks;
        full_v = full_at s (sets i.0) a d (full_here 0 i a (omega (arith, two)) is_i is_a) ma;
        full_w = full_at s (sets j.0) b d (full_here 1 j b (omega (arith, two)) is_j is_b) mb;
      };
      left = ma;
      right = mb;
    }
