-- For private functions. How far a sum over a list of rows is done.
use Rattle.std.specs.Prelude.{◌≡◌, ◌≤◌, ℕ, Bool, true, List, length, take, Contains, slice_index_or}
use Rattle.ste_base.specs.declared.id.NodeId.{NodeId}
use Rattle.dd_nodes.specs.declared.node.Ref.{Ref}
use Rattle.ste_base.specs.Functions.{Function}
use Rattle.dd_nodes.specs.Stores.{Store, IsRef, Keeps, Means}
use Rattle.dd_nodes.specs.Spending.{Spends}
use Rattle.net_core.specs.declared.cover.Lit.{Lit}
use Rattle.net_core.specs.Work.{SymbolicSet, factors, product, disjunction, chain, whole, sum, sums, row_products, rows_chains, rows_work}
use Rattle.gate_sets.specs.declared.net_rails.NetRails.{NetRails}
use Rattle.gate_sets.specs.declared.piece.Piece.{Piece}
use Rattle.gate_sets.specs.NetSets.{HaveInputs, sets_at}
use Rattle.gate_sets.specs.private.Pieces.{rows_from, are_sound}

-- Where the sum over a list of rows stands, with pieces left and a row begun: what is left of the
-- rows is among their functions, the sum so far joined with what is left is the whole sum, and each
-- product of the first literals of the row that has begun is there.
pub record SumsTo (rows : List (List Lit)) (ws : List SymbolicSet) (width : ℕ) (begun : List Lit)
    (rest : List Piece) (products : List Ref) (all : Ref) (s t : Store) : Type 0 where
  pub so : Spends (rows_work rows ws) s t ⊥
  pub begins : (j : ℕ) (d : Ref) → j ≤ length begun →
      Means t (product (factors (take j begun) ws)) (slice_index_or products j d)
  pub f : Function
  pub total : Means t f all
  pub chains : (g : Function) → Contains (rows_chains (rows_from width begun rest) ws) g →
      Contains (rows_chains rows ws) g
  pub summed : (g : Function) →
      Contains (chain disjunction f (row_products (rows_from width begun rest) ws)) g →
      Contains (sums (row_products rows ws)) g
  pub ends : whole disjunction f (row_products (rows_from width begun rest) ws)
      ≡ sum (row_products rows ws)

-- The same for all sets that the inputs have; what is held stays, and the given references are
-- held.
pub record IsGoing (rows : List (List Lit)) (nets : List NetRails) (inputs : List NodeId) (n : ℕ)
    (rest : List Piece) (products : List Ref) (all : Ref) (s t : Store) : Type 0 where
  pub begun : List Lit
  pub awaits : Bool
  pub long : length begun ≡ n
  pub within : n ≤ length inputs
  pub sound : are_sound (length inputs) n awaits rest ≡ true
  pub keeps : Keeps s t
  pub refs : (j : ℕ) (d : Ref) → j ≤ n → IsRef t (slice_index_or products j d)
  pub ref_of : IsRef t all
  pub so : (sets : ℕ → SymbolicSet) → HaveInputs s sets nets inputs →
      SumsTo rows (sets_at sets inputs) (length inputs) begun rest products all s t
