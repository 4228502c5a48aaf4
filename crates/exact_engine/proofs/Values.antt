-- The values of products and sums over the bits of nets are those of covers.
use Rattle.std.proofs.Common.{◌≡◌, ℕ, Bool, true, false, List, [], ◌∷◌, map, refl, ◌∙◌, ap}
use Rattle.std.specs.Prelude.{◌&&◌, ◌||◌, Some, not, if◌then◌else◌}
use Rattle.ste_base.specs.Functions.{Function}
use Rattle.ste_base.specs.declared.id.NodeId.{NodeId}
use Rattle.net_core.specs.declared.cover.Cover.{Cover}
use Rattle.net_core.specs.declared.cover.Lit.{Lit}
use Rattle.net_core.specs.declared.cover.Lit.TheVariants.{Zero, One, Any}
use Rattle.net_core.specs.Cover.{cover_bit, matches, some_matches}
use Rattle.net_core.specs.Work.{negation, product, sum}
use Rattle.net_core.proofs.GateSets.{product_cons, sum_cons}
use Rattle.exact_model.specs.ExactWork.{row_factors}
use Rattle.exact_engine.specs.private.Bits.{cover_function, of_nodes, row_sums}

abbrev pub values : List Function → List Bool → List Bool
values fs bits = map (λ (f : Function). f bits) fs

pub product_value : (row : List Lit) (fs : List Function) (bits : List Bool) → product (row_factors row fs) bits ≡ matches row (values fs bits)
product_value [] fs bits = refl
product_value (lit ∷ row) [] bits = refl
product_value (Zero ∷ row) (f ∷ fs) bits = product_cons (negation f) (row_factors row fs) bits ∙ ap (λ (b : Bool). not (f bits) && b) (product_value row fs bits)
product_value (One ∷ row) (f ∷ fs) bits = product_cons f (row_factors row fs) bits ∙ ap (λ (b : Bool). f bits && b) (product_value row fs bits)
product_value (Any ∷ row) (f ∷ fs) bits = product_value row fs bits

pub sum_value : (rows : List (List Lit)) (fs : List Function) (bits : List Bool) → sum (row_sums rows fs) bits ≡ some_matches rows (values fs bits)
sum_value [] fs bits = refl
sum_value (row ∷ rows) fs bits =
    sum_cons (product (row_factors row fs)) (row_sums rows fs) bits
    ∙ ap (λ (b : Bool). b || sum (row_sums rows fs) bits) (product_value row fs bits)
    ∙ ap (λ (b : Bool). matches row (values fs bits) || b) (sum_value rows fs bits)

by_kind : (on : Bool) (f : Function) (some : Bool) (bits : List Bool) → f bits ≡ some → (if on then f else negation f) bits ≡ (if on then some else not some)
by_kind true f some bits e = e
by_kind false f some bits e = ap not e

values_of : (bit : ℕ → Function) (nodes : List NodeId) (bits : List Bool) → values (of_nodes bit nodes) bits ≡ map (λ (node : NodeId). bit node.0 bits) nodes
values_of bit [] bits = refl
values_of bit (node ∷ nodes) bits = ap (λ (xs : List Bool). bit node.0 bits ∷ xs) (values_of bit nodes bits)

pub cover_value : (cover : Cover) (bit : ℕ → Function) (nodes : List NodeId) (bits : List Bool) → cover_function (Some cover) (of_nodes bit nodes) bits ≡ cover_bit cover (map (λ (node : NodeId). bit node.0 bits) nodes)
cover_value cover bit nodes bits =
    by_kind cover.on (sum (row_sums cover.rows (of_nodes bit nodes))) (some_matches cover.rows (values (of_nodes bit nodes) bits)) bits (sum_value cover.rows (of_nodes bit nodes) bits)
    ∙ ap (cover_bit cover) (values_of bit nodes bits)
