-- Inputs that are variables in order, or free: their sets, and sums over rows of them, which split at the first variable.
use Rattle.std.proofs.Common.{◌≡◌, ℕ, ◌+◌, ◌-◌, ◌≤◌, ◌<◌, Bool, true, false, not, List, [], ◌∷◌, length, drop, get_or, map, filter, inl, inr, refl, sym, ◌∙◌, ap, subst, arith}
use Rattle.std.specs.Prelude.{◌&&◌, ◌||◌, if◌then◌else◌}
use Rattle.std.specs.List.{list_any}
use Rattle.std.proofs.lemmas.List.{get_or-drop, drop-drop}
use Rattle.std.proofs.lemmas.List.Elements.{All-head, All-tail}
use Rattle.ste_base.specs.declared.id.NodeId.{NodeId}
use Rattle.dd_nodes.specs.declared.node.Ref.{Ref}
use Rattle.ste_base.specs.Functions.{Function}
use Rattle.dd_nodes.specs.Diagram.{IsCofactor, IsFrom}
use Rattle.dd_nodes.specs.Stores.{Store, Keeps, Means, function, node_of}
use Rattle.dd_nodes.proofs.Walks.{fixed, bit-fixed, drop-fixed, from_function, length-fixed, length-up_to, up_to, value-held}
use Rattle.dd_nodes.proofs.Stores.{IsGood}
use Rattle.dd_ops.proofs.Terminal.{one_bit, zero_bit}
use Rattle.dd_ops.specs.Splitting.{Splits, half}
use Rattle.net_core.specs.declared.cover.Lit.{Lit}
use Rattle.net_core.specs.declared.cover.Lit.TheVariants.{Zero, One, Any}
use Rattle.net_core.specs.Cases.{begins_with, half_of_rows, without_first}
use Rattle.net_core.specs.Cover.{admits}
use Rattle.net_core.specs.Work.{SymbolicSet, factor, factors, product, row_products, sum}
use Rattle.net_core.proofs.GateSets.{product_cons, sum_cons}
use Rattle.gate_sets.specs.declared.net_rails.NetRails.{NetRails}
use Rattle.gate_sets.specs.NetSets.{AreNetRails, HaveInputs, net_at, sets_at}
use Rattle.gate_sets.specs.private.Ordered.{AreOrdered, IsFree, IsVariable}
use Rattle.gate_sets.proofs.Known.{known_full}
use Rattle.gate_sets.proofs.NetRefs.{one_at}

-- ---- the order

pub ordered-less : (s : Store) (nets : List NetRails) (low high : ℕ) (inputs : List NodeId) → low ≤ high → AreOrdered s nets high inputs → AreOrdered s nets low inputs
ordered-less s nets low high [] le o = tt
ordered-less s nets low high (input ∷ inputs) le (inl (free, rest)) = inl (free, ordered-less s nets low high inputs le rest)
ordered-less s nets low high (input ∷ inputs) le (inr (v, from, is, rest)) = inr (v, omega arith, is, rest)

pub ordered-keeps : (s t : Store) (nets : List NetRails) (from : ℕ) (inputs : List NodeId) → Keeps s t → AreOrdered s nets from inputs → AreOrdered t nets from inputs
ordered-keeps s t nets from [] k o = tt
ordered-keeps s t nets from (input ∷ inputs) k (inl (free, rest)) = inl (free, ordered-keeps s t nets from inputs k rest)
ordered-keeps s t nets from (input ∷ inputs) k (inr (v, le, is, rest)) =
    inr (v, le, record { known = is.known; node = k.grows (net_at nets input.0).can1 (node_of v (record { 0 = 0 }) (record { 0 = 1 })) is.node }, ordered-keeps s t nets (v + 1) inputs k rest)

-- ---- the sets

pub free_bits : (s : Store) (w : SymbolicSet) (r : NetRails) (bits : List Bool) → IsGood s → IsFree r → AreNetRails s w r → length bits ≡ s.vars → (w.zero bits ≡ true) × (w.one bits ≡ true)
free_bits s w r bits d free m l = (
  one_at s w.zero r.can0 d (ap (λ (x : Ref). x.0) free.zero) m.zero bits l,
  one_at s w.one r.can1 d (ap (λ (x : Ref). x.0) free.one) m.one bits l,
)

pub variable_bits : (s : Store) (v : ℕ) (w : SymbolicSet) (r : NetRails) (bits : List Bool) → IsGood s → IsVariable s v r → AreNetRails s w r → length bits ≡ s.vars → (w.one bits ≡ get_or bits v false) × (w.zero bits ≡ not (w.one bits))
variable_bits s v w r bits d is m l = (
  sym (m.one.value bits l) ∙ value-held s.held s.vars r.can1 (node_of v zero_ref one_ref) bits d is.node l ∙ at_bit (get_or bits v false),
  m.known is.known bits l,
)
  where
    zero_ref : Ref
    zero_ref = record { 0 = 0 }

    one_ref : Ref
    one_ref = record { 0 = 1 }

    at_bit : (b : Bool) → function s (if b then one_ref else zero_ref) bits ≡ b
    at_bit true = one_bit s one_ref bits d refl
    at_bit false = zero_bit s zero_ref bits d refl

-- ---- sums at given bits

-- the sum of the products of the rows
abbrev pub total : List (List Lit) → List SymbolicSet → Function
total rows ws = sum (row_products rows ws)

known_factor : (lit : Lit) (w : SymbolicSet) (bits : List Bool) → w.zero bits ≡ not (w.one bits) → factor lit w bits ≡ admits lit (w.one bits)
known_factor Zero w bits e = e
known_factor One w bits e = refl
known_factor Any w bits e = known_full w bits e

free_factor : (lit : Lit) (w : SymbolicSet) (bits : List Bool) → w.zero bits ≡ true → w.one bits ≡ true → factor lit w bits ≡ true
free_factor Zero w bits z o = z
free_factor One w bits z o = o
free_factor Any w bits z o = ap (λ b. b || w.one bits) z

-- a set with exactly one bit leaves the rows that admit it
pub total_known : (rows : List (List Lit)) (w : SymbolicSet) (ws : List SymbolicSet) (bits : List Bool) → w.zero bits ≡ not (w.one bits)
    → total rows (w ∷ ws) bits ≡ total (half_of_rows (w.one bits) rows) ws bits
total_known [] w ws bits e = refl
total_known ([] ∷ rows) w ws bits e =
    sum_cons (product (factors [] (w ∷ ws))) (row_products rows (w ∷ ws)) bits
    ∙ sym (sum_cons (product (factors [] ws)) (row_products (half_of_rows (w.one bits) rows) ws) bits)
total_known ((lit ∷ lits) ∷ rows) w ws bits e =
    sum_cons (product (factors (lit ∷ lits) (w ∷ ws))) (row_products rows (w ∷ ws)) bits
    ∙ ap (λ b. b || total rows (w ∷ ws) bits) (product_cons (factor lit w) (factors lits ws) bits ∙ ap (λ b. b && product (factors lits ws) bits) (known_factor lit w bits e))
    ∙ ap (λ b. (admits lit (w.one bits) && product (factors lits ws) bits) || b) (total_known rows w ws bits e)
    ∙ by (admits lit (w.one bits))
  where
    others : List (List Lit)
    others = filter (begins_with (w.one bits)) rows

    by : (a : Bool) → ((a && product (factors lits ws) bits) || total (map without_first others) ws bits) ≡ total (map without_first (if a then (lit ∷ lits) ∷ others else others)) ws bits
    by true = sym (sum_cons (product (factors lits ws)) (row_products (map without_first others) ws) bits)
    by false = refl

-- a set of both bits leaves all of them
pub total_free : (rows : List (List Lit)) (w : SymbolicSet) (ws : List SymbolicSet) (bits : List Bool) → w.zero bits ≡ true → w.one bits ≡ true
    → total rows (w ∷ ws) bits ≡ total (map without_first rows) ws bits
total_free [] w ws bits z o = refl
total_free ([] ∷ rows) w ws bits z o =
    sum_cons (product (factors [] (w ∷ ws))) (row_products rows (w ∷ ws)) bits
    ∙ sym (sum_cons (product (factors [] ws)) (row_products (map without_first rows) ws) bits)
total_free ((lit ∷ lits) ∷ rows) w ws bits z o =
    sum_cons (product (factors (lit ∷ lits) (w ∷ ws))) (row_products rows (w ∷ ws)) bits
    ∙ ap (λ b. b || total rows (w ∷ ws) bits) (product_cons (factor lit w) (factors lits ws) bits ∙ ap (λ b. b && product (factors lits ws) bits) (free_factor lit w bits z o))
    ∙ ap (λ b. product (factors lits ws) bits || b) (total_free rows w ws bits z o)
    ∙ sym (sum_cons (product (factors lits ws)) (row_products (map without_first rows) ws) bits)

-- of no inputs each row is 1
pub total_end : (row : List Lit) (rows : List (List Lit)) (bits : List Bool) → total (row ∷ rows) [] bits ≡ true
total_end [] rows bits = sum_cons (product (factors [] [])) (row_products rows []) bits
total_end (lit ∷ row) rows bits = sum_cons (product (factors (lit ∷ row) [])) (row_products rows []) bits

-- of one input the rows that admit its bit decide
pub total_last : (b : Bool) (rows : List (List Lit)) (bits : List Bool) → total (half_of_rows b rows) [] bits ≡ list_any (begins_with b) rows
total_last b [] bits = refl
total_last b (row ∷ rows) bits = by (total_last b rows bits) (begins_with b row)
  where
    others : List (List Lit)
    others = filter (begins_with b) rows

    by : total (half_of_rows b rows) [] bits ≡ list_any (begins_with b) rows → (a : Bool) → total (map without_first (if a then row ∷ others else others)) [] bits ≡ (a || list_any (begins_with b) rows)
    by rest true = total_end (without_first row) (map without_first others) bits
    by rest false = rest

-- ---- what a sum reads

-- the sets have the same bits under both assignments
abbrev pub Agree : List Bool → List Bool → List SymbolicSet → Type 0
Agree bits other [] = Unit {0}
Agree bits other (w ∷ ws) = (w.zero bits ≡ w.zero other) × (w.one bits ≡ w.one other) × Agree bits other ws

factor_same : (lit : Lit) (w : SymbolicSet) (bits other : List Bool) → w.zero bits ≡ w.zero other → w.one bits ≡ w.one other → factor lit w bits ≡ factor lit w other
factor_same Zero w bits other z o = z
factor_same One w bits other z o = o
factor_same Any w bits other z o = ap (λ b. b || w.one bits) z ∙ ap (λ b. w.zero other || b) o

product_same : (row : List Lit) (ws : List SymbolicSet) (bits other : List Bool) → Agree bits other ws → product (factors row ws) bits ≡ product (factors row ws) other
product_same [] ws bits other a = refl
product_same (lit ∷ row) [] bits other a = refl
product_same (lit ∷ row) (w ∷ ws) bits other (z, o, rest) =
    product_cons (factor lit w) (factors row ws) bits
    ∙ ap (λ b. b && product (factors row ws) bits) (factor_same lit w bits other z o)
    ∙ ap (λ b. factor lit w other && b) (product_same row ws bits other rest)
    ∙ sym (product_cons (factor lit w) (factors row ws) other)

pub total_same : (rows : List (List Lit)) (ws : List SymbolicSet) (bits other : List Bool) → Agree bits other ws → total rows ws bits ≡ total rows ws other
total_same [] ws bits other a = refl
total_same (row ∷ rows) ws bits other a =
    sum_cons (product (factors row ws)) (row_products rows ws) bits
    ∙ ap (λ b. b || total rows ws bits) (product_same row ws bits other a)
    ∙ ap (λ b. product (factors row ws) other || b) (total_same rows ws bits other a)
    ∙ sym (sum_cons (product (factors row ws)) (row_products rows ws) other)

drop_later : (from n : ℕ) (xs ys : List Bool) → drop from xs ≡ drop from ys → drop (from + n) xs ≡ drop (from + n) ys
drop_later from n xs ys e = sym (drop-drop n from xs) ∙ ap (drop n) e ∙ drop-drop n from ys

bit_later : (from n : ℕ) (xs ys : List Bool) → drop from xs ≡ drop from ys → get_or xs (from + n) false ≡ get_or ys (from + n) false
bit_later from n xs ys e = sym (get_or-drop from xs n false) ∙ ap (λ zs. get_or zs n false) e ∙ get_or-drop from ys n false

module _ (s : Store) (sets : ℕ → SymbolicSet) (nets : List NetRails) (d : IsGood s) where
  abbrev pub Has : NodeId → Type 0
  Has input = AreNetRails s (sets input.0) (net_at nets input.0)

  -- inputs from a variable on read no earlier one
  pub agree : (from : ℕ) (inputs : List NodeId) (bits other : List Bool) → AreOrdered s nets from inputs → HaveInputs s sets nets inputs
      → length bits ≡ s.vars → length other ≡ s.vars → drop from bits ≡ drop from other → Agree bits other (sets_at sets inputs)
  agree from [] bits other o have l l' e = tt
  agree from (input ∷ inputs) bits other (inl (free, rest)) have l l' e =
      let m = All-head Has input inputs have in
      let p = free_bits s (sets input.0) (net_at nets input.0) bits d free m l in
      let q = free_bits s (sets input.0) (net_at nets input.0) other d free m l' in
      (p.0 ∙ sym q.0, p.1 ∙ sym q.1, agree from inputs bits other rest (All-tail Has input inputs have) l l' e)
  agree from (input ∷ inputs) bits other (inr (v, le, is, rest)) have l l' e =
      let m = All-head Has input inputs have in
      let p = variable_bits s v (sets input.0) (net_at nets input.0) bits d is m l in
      let q = variable_bits s v (sets input.0) (net_at nets input.0) other d is m l' in
      let here : from + (v - from) ≡ v = omega arith in
      let next : from + (v - from + 1) ≡ v + 1 = omega arith in
      let same : get_or bits v false ≡ get_or other v false = subst (λ k. get_or bits k false ≡ get_or other k false) here (bit_later from (v - from) bits other e) in
      let one : (sets input.0).one bits ≡ (sets input.0).one other = p.0 ∙ same ∙ sym q.0 in (
        p.1 ∙ ap not one ∙ sym q.1,
        one,
        agree (v + 1) inputs bits other rest (All-tail Has input inputs have) l l' (subst (λ k. drop k bits ≡ drop k other) next (drop_later from (v - from + 1) bits other e)),
      )

  module _ (input : NodeId) (inputs : List NodeId) (rows : List (List Lit)) (have : HaveInputs s sets nets (input ∷ inputs)) where
    abbrev w : SymbolicSet
    w = sets input.0

    abbrev ws : List SymbolicSet
    ws = sets_at sets inputs

    mine : Has input
    mine = All-head Has input inputs have

    theirs : HaveInputs s sets nets inputs
    theirs = All-tail Has input inputs have

    -- the sum, where the first input is free
    pub whole_free : IsFree (net_at nets input.0) → (bits : List Bool) → length bits ≡ s.vars → total rows (w ∷ ws) bits ≡ total (map without_first rows) ws bits
    whole_free free bits l =
        let p = free_bits s w (net_at nets input.0) bits d free mine l in
        total_free rows w ws bits p.0 p.1

    module _ (v : ℕ) (is : IsVariable s v (net_at nets input.0)) (o : AreOrdered s nets (v + 1) inputs) where
      pub inside : v < s.vars
      inside = d.below (net_at nets input.0).can1 (node_of v (record { 0 = 0 }) (record { 0 = 1 })) is.node

      -- at each bit of the first variable the half of the rows that admit it is left
      pub whole_at : (bits : List Bool) → length bits ≡ s.vars → total rows (w ∷ ws) bits ≡ total (half_of_rows (get_or bits v false) rows) ws bits
      whole_at bits l =
          let p = variable_bits s v w (net_at nets input.0) bits d is mine l in
          total_known rows w ws bits p.1 ∙ ap (λ b. total (half_of_rows b rows) ws bits) p.0

      -- whose sum is a cofactor
      pub half_cofactor : (b : Bool) → IsCofactor s.vars (total rows (w ∷ ws)) (total (half_of_rows b rows) ws)
      half_cofactor b =
          let n = length-up_to v b in
          let lt = inside in (
            up_to v b,
            omega (arith, n, lt),
            λ bits l.
                let at : List Bool = fixed v b bits in
                let long : length at ≡ length bits = length-fixed v b bits (omega (arith, lt, l)) in
                sym (whole_at at (long ∙ l) ∙ ap (λ c. total (half_of_rows c rows) ws at) (bit-fixed v b bits)
                ∙ total_same (half_of_rows b rows) ws at bits (agree (v + 1) inputs at bits o theirs (long ∙ l) l (drop-fixed v (v + 1) b bits (omega arith)))),
          )

      -- and reads later variables alone
      pub half_from : (b : Bool) (r : Ref) → Means s (total (half_of_rows b rows) ws) r → IsFrom s.held (v + 1) r
      half_from b r m =
          let lt = inside in
          from_function s.held s.vars (v + 1) 0 (v + 1) r d (omega arith) (omega (arith, lt)) m.ref (λ bits other l l' e.
          m.value bits l ∙ total_same (half_of_rows b rows) ws bits other (agree (v + 1) inputs bits other o theirs l l' e) ∙ sym (m.value other l'))

      -- the results for both halves split the whole
      pub halves_split : (lo hi : Ref) → Means s (total (half_of_rows false rows) ws) lo → Means s (total (half_of_rows true rows) ws) hi → Splits s v lo hi (total rows (w ∷ ws))
      halves_split lo hi m n = record {
        inside = inside;
        low = half_from false lo m;
        high = half_from true hi n;
        halves = λ bits l. whole_at bits l ∙ at_bit (get_or bits v false) bits l;
      }
        where
          at_bit : (b : Bool) (bits : List Bool) → length bits ≡ s.vars → total (half_of_rows b rows) ws bits ≡ function s (half lo hi b) bits
          at_bit true bits l = sym (n.value bits l)
          at_bit false bits l = sym (m.value bits l)
