-- For private functions. The bits of nets at one time, by references.
use Rattle.std.specs.Prelude.{◌≡◌, ◌≢◌, ◌<◌, ◌≤◌, ℕ, Bool, List, [], ◌∷◌, ◌++◌, All, length, map, Option, None, Some, slice_index, slice_index_or, if◌then◌else◌}
use Rattle.dd_nodes.specs.declared.node.Ref.{Ref}
use Rattle.ste_base.specs.Functions.{Function}
use Rattle.dd_nodes.specs.Stores.{Store, Means}
use Rattle.ste_base.specs.declared.id.NodeId.{NodeId}
use Rattle.net_core.specs.declared.cover.Cover.{Cover}
use Rattle.net_core.specs.declared.cover.Lit.{Lit}
use Rattle.net_core.specs.declared.raw.Gate.{Gate}
use Rattle.net_core.specs.declared.raw.RawNet.{RawNet}
use Rattle.net_core.specs.Run.{AreGateBits}
use Rattle.net_core.specs.Work.{disjunction, negation, never, product, products, sum, sums}
use Rattle.exact_model.specs.ExactWork.{bit_functions, cover_functions, gates_functions, row_factors, rows_functions}

-- the reference of a net
abbrev pub net_ref : List Ref → ℕ → Ref
net_ref refs id = slice_index_or refs id (record { 0 = 0 })

-- the functions of nets
abbrev pub of_nodes : (ℕ → Function) → List NodeId → List Function
of_nodes bit nodes = map (λ node. bit node.0) nodes

-- the references of some nets have these bits
abbrev pub AreAt : Store → (ℕ → Function) → List Ref → List NodeId → Type 0
AreAt s bit refs nodes = All (λ node. Means s (bit node.0) (net_ref refs node.0)) nodes

-- the functions for a product of factors that is added to f, and the sum
abbrev pub added_work : Function → List Function → List Function
added_work f fs = disjunction f (product fs) ∷ products fs

-- the whole product of each row
abbrev pub row_sums : List (List Lit) → List Function → List Function
row_sums rows bs = map (λ row. product (row_factors row bs)) rows

-- the functions for some rows
abbrev pub rows_work : List (List Lit) → List Function → List Function
rows_work rows bs = rows_functions rows bs ++ sums (row_sums rows bs)

-- the function of a cover
abbrev pub cover_function : Option Cover → List Function → Function
cover_function None bs = never
cover_function (Some cover) bs =
    if cover.on then sum (row_sums cover.rows bs) else negation (sum (row_sums cover.rows bs))

-- the functions for it, and itself
abbrev pub cover_work : Option Cover → List Function → List Function
cover_work cover bs = cover_functions cover bs ++ cover_function cover bs ∷ []

-- ---- one time

-- each net has its bit
abbrev pub AreBits : Store → ℕ → (ℕ → Function) → List Ref → Type 0
AreBits s nets bit refs = (id : ℕ) → id < nets → Means s (bit id) (net_ref refs id)

-- each net that no gate drives has its bit
abbrev pub AreSources : Store → RawNet → (ℕ → Function) → List Ref → Type 0
AreSources s net bit refs =
    (id : ℕ) → id < net.nets → All (λ gate. gate.output.0 ≢ id) net.gates →
    Means s (bit id) (net_ref refs id)

-- the nets that no gate from the n-th place of the order on drives have their bits
abbrev pub AreSettled : Store → RawNet → List ℕ → ℕ → (ℕ → Function) → List Ref → Type 0
AreSettled s net order n bit refs =
    (id : ℕ) → id < net.nets →
    ((k : ℕ) (d : Gate) → n ≤ k → k < length order →
    (slice_index_or net.gates (slice_index order k) d).output.0 ≢ id) →
    Means s (bit id) (net_ref refs id)

-- the gates have their bits at each assignment of so many variables
abbrev pub FollowGates : ℕ → RawNet → (ℕ → Function) → Type 0
FollowGates vars net bit =
    (bits : List Bool) → length bits ≡ vars → AreGateBits net (λ id. bit id bits)

-- the functions for one time
abbrev pub time_work : RawNet → (ℕ → Function) → List Function
time_work net bit = bit_functions bit net.nets ++ gates_functions net bit net.gates
