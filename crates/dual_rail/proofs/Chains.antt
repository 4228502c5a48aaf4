-- Sums and products, function by function.
use Rattle.std.proofs.Common.{◌≡◌, ℕ, zero, suc, ◌+◌, ◌<◌, List, [], ◌∷◌, length, take, get_or, refl, ◌∙◌, ap, arith, Contains, map}
use Rattle.std.proofs.lemmas.List.Elements.{Contains-append_left, Contains-append_right}
use Rattle.ste_base.specs.Functions.{Function}
use Rattle.net_core.specs.declared.cover.Lit.{Lit}
use Rattle.net_core.specs.Work.{SymbolicSet, chain, whole, factor, factors, product, products, some_bit, row_products, rows_chains}
use Rattle.dual_rail.proofs.Works.{Within, here, behind}

module _ (join : Function → Function → Function) where
  -- the first k and the next are among the chain
  pub chain-has : (f : Function) (fs : List Function) (k : ℕ) (d : Function) → k < length fs → Contains (chain join f fs) (join (whole join f (take k fs)) (get_or fs k d))
  chain-has f [] k d lt = absurd (omega arith)
  chain-has f (g ∷ gs) zero d lt = here _ _
  chain-has f (g ∷ gs) (suc k) d lt = behind _ _ _ (chain-has (join f g) gs k d (omega arith))

  whole-after : (f : Function) (fs : List Function) (k : ℕ) (d : Function) → k < length fs → whole join f (take (suc k) fs) ≡ join (whole join f (take k fs)) (get_or fs k d)
  whole-after f [] k d lt = absurd (omega arith)
  whole-after f (g ∷ gs) zero d lt = refl
  whole-after f (g ∷ gs) (suc k) d lt = whole-after (join f g) gs k d (omega arith)

  pub whole-next : (f : Function) (fs : List Function) (k : ℕ) (d : Function) → k < length fs → whole join f (take (k + 1) fs) ≡ join (whole join f (take k fs)) (get_or fs k d)
  whole-next f fs k d lt = ap (λ j. whole join f (take j fs)) (let e : k + 1 ≡ suc k = omega arith in e) ∙ whole-after f fs k d lt

pub length-factors : (row : List Lit) (sets : List SymbolicSet) → length row ≡ length sets → length (factors row sets) ≡ length row
length-factors [] sets e = refl
length-factors (lit ∷ row) [] e = absurd (omega arith)
length-factors (lit ∷ row) (w ∷ sets) e = ap suc (length-factors row sets (omega arith))

pub factors-at : (row : List Lit) (sets : List SymbolicSet) (k : ℕ) (d : Function) (l : Lit) (w : SymbolicSet) → length row ≡ length sets → k < length row → get_or (factors row sets) k d ≡ factor (get_or row k l) (get_or sets k w)
factors-at [] sets k d l w e lt = absurd (omega arith)
factors-at (lit ∷ row) [] k d l w e lt = absurd (omega arith)
factors-at (lit ∷ row) (v ∷ sets) zero d l w e lt = refl
factors-at (lit ∷ row) (v ∷ sets) (suc k) d l w e lt = factors-at row sets k d l w (omega arith) (omega arith)

pub length-row_products : (rows : List (List Lit)) (sets : List SymbolicSet) → length (row_products rows sets) ≡ length rows
length-row_products [] sets = refl
length-row_products (row ∷ rows) sets = ap suc (length-row_products rows sets)

pub row_products-at : (rows : List (List Lit)) (sets : List SymbolicSet) (k : ℕ) (d : Function) (r : List Lit) → k < length rows → get_or (row_products rows sets) k d ≡ product (factors (get_or rows k r) sets)
row_products-at [] sets k d r lt = absurd (omega arith)
row_products-at (row ∷ rows) sets zero d r lt = refl
row_products-at (row ∷ rows) sets (suc k) d r lt = row_products-at rows sets k d r (omega arith)

-- the products of one row are among those of all
pub rows_chains-has : (rows : List (List Lit)) (sets : List SymbolicSet) (k : ℕ) (r : List Lit) → k < length rows → Within (products (factors (get_or rows k r) sets)) (rows_chains rows sets)
rows_chains-has [] sets k r lt f has = absurd (omega arith)
rows_chains-has (row ∷ rows) sets zero r lt f has = Contains-append_left (products (factors row sets)) (rows_chains rows sets) f has
rows_chains-has (row ∷ rows) sets (suc k) r lt f has = Contains-append_right (products (factors row sets)) (rows_chains rows sets) f (rows_chains-has rows sets k r (omega arith) f has)

pub some_bit-has : (sets : List SymbolicSet) (k : ℕ) (w : SymbolicSet) → k < length sets → Contains (map some_bit sets) (some_bit (get_or sets k w))
some_bit-has [] k w lt = absurd (omega arith)
some_bit-has (v ∷ sets) zero w lt = here _ _
some_bit-has (v ∷ sets) (suc k) w lt = behind _ _ _ (some_bit-has sets k w (omega arith))
