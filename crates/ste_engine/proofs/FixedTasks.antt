-- An assertion under one assignment, with constants in the place of guards and values.
use Rattle.std.proofs.Common.{◌≡◌, ℕ, zero, suc, ◌<◌, ◌≤◌, Bool, true, false, List, [], ◌∷◌, map, filter, refl, sym, ◌∙◌, ap, subst, All}
use Rattle.std.specs.Prelude.{◌&&◌, fold, max, nat_le, nat_lt, if◌then◌else◌}
use Rattle.std.proofs.lemmas.List.Elements.{All-nil, All-cons, All-head, All-tail}
use Rattle.bool_expr.specs.declared.expr.Expr.TheVariants.{Const}
use Rattle.bool_expr.specs.Value.{value_of}
use Rattle.dd_nodes.specs.Stores.{Store}
use Rattle.dd_nodes.proofs.Stores.{IsGood}
use Rattle.net_core.specs.declared.bit_set.BitSet.{BitSet}
use Rattle.net_core.specs.declared.raw.Latch.{Latch}
use Rattle.net_core.specs.declared.raw.RawNet.{RawNet}
use Rattle.net_core.specs.Possible.{ArePossible}
use Rattle.net_core.specs.Run.{Cut}
use Rattle.net_core.specs.Sets.{first_set}
use Rattle.net_core.specs.Work.{SymbolicSet}
use Rattle.ste_model.specs.declared.task.Assertion.{Assertion}
use Rattle.ste_model.specs.declared.task.Quint.{Quint}
use Rattle.ste_model.specs.Asked.{cuts_at, depth, latest, quint_at, weakened_at}
use Rattle.ste_model.specs.Found.{IsTableOf}
use Rattle.ste_model.specs.Need.{IsWholeTable}
use Rattle.ste_model.specs.Table.{latch_sets}
use Rattle.ste_model.specs.Work.{constant_set, has_time, latches_at, symbolic_cut, symbolic_cuts_at}
use Rattle.ste_engine.specs.declared.timed_cuts.TimedCut.{TimedCut}
use Rattle.ste_engine.specs.private.TimedCuts.{AreTimedCuts}
use Rattle.engine_parts.specs.Failing.{fixed_quint}
use Rattle.ste_engine.specs.private.Places.{fixed_timed_cuts, fixed_task}
use Rattle.engine_parts.proofs.Constants.{AreConstantCuts, AreConstantSets, IsConstantFamily, const_is, const_means, const_value, set_of_bits}

-- ---- what is asked

module _ (bits : List Bool) where
  fixed_cut : (other : List Bool) (t : ℕ) (q : Quint) → quint_at other t (fixed_quint bits q) ≡ quint_at bits t q
  fixed_cut other t q =
      let make : Bool → Bool → Cut = λ g x. record { node = q.node.0; on = g && (nat_le q.from t && nat_lt t q.to); value = x } in
      ap (λ g. make g (value_of (Const (value_of q.value bits)) other)) (const_value (value_of q.guard bits) other) ∙ ap (make (value_of q.guard bits)) (const_value (value_of q.value bits) other)

  -- under any assignment it asks what the quintuples ask under this one
  pub fixed_cuts : (other : List Bool) (t : ℕ) (quints : List Quint) → cuts_at (map (fixed_quint bits) quints) other t ≡ cuts_at quints bits t
  fixed_cuts other t [] = refl
  fixed_cuts other t (q ∷ qs) = ap (λ c. c ∷ cuts_at (map (fixed_quint bits) qs) other t) (fixed_cut other t q) ∙ ap (λ cs. quint_at bits t q ∷ cs) (fixed_cuts other t qs)

  fixed_ends : (quints : List Quint) → map (λ quint. quint.to) (map (fixed_quint bits) quints) ≡ map (λ quint. quint.to) quints
  fixed_ends [] = refl
  fixed_ends (q ∷ qs) = ap (λ ends. q.to ∷ ends) (fixed_ends qs)

  fixed_latest : (quints : List Quint) → latest (map (fixed_quint bits) quints) ≡ latest quints
  fixed_latest quints = ap (λ ends. fold max 0 ends) (fixed_ends quints)

  pub fixed_depth : (task : Assertion) → depth (fixed_task bits task) ≡ depth task
  fixed_depth task = ap (λ n. max n (latest (map (fixed_quint bits) task.con))) (fixed_latest task.ant) ∙ ap (λ n. max (latest task.ant) n) (fixed_latest task.con)

  pub fixed_inside : (n : ℕ) (quints : List Quint) → All (λ quint. quint.node.0 < n) quints → All (λ quint. quint.node.0 < n) (map (fixed_quint bits) quints)
  fixed_inside n [] inside = All-nil (λ (quint : Quint). quint.node.0 < n)
  fixed_inside n (q ∷ qs) inside =
      All-cons (λ (quint : Quint). quint.node.0 < n) (fixed_quint bits q) (map (fixed_quint bits) qs) (All-head (λ (quint : Quint). quint.node.0 < n) q qs inside)
      (fixed_inside n qs (All-tail (λ (quint : Quint). quint.node.0 < n) q qs inside))

  -- ---- by references

  pub fixed_are : (s : Store) (place : ℕ) (quints : List Quint) → IsGood s → AreTimedCuts s place (map (fixed_quint bits) quints) (fixed_timed_cuts bits place quints)
  fixed_are s place [] d = tt
  fixed_are s place (q ∷ qs) d = (
    record { node = refl; from = refl; to = refl; guard = const_means s (value_of q.guard bits) d; value = const_means s (value_of q.value bits) d; placed = refl },
    fixed_are s (suc place) qs d,
  )

  pub fixed_within : (n place : ℕ) (quints : List Quint) → All (λ quint. quint.to ≤ n) quints → All (λ timed_cut. timed_cut.to ≤ n) (fixed_timed_cuts bits place quints)
  fixed_within n place [] within = All-nil (λ (timed_cut : TimedCut). timed_cut.to ≤ n)
  fixed_within n place (q ∷ qs) within =
      All-cons (λ (timed_cut : TimedCut). timed_cut.to ≤ n) _ (fixed_timed_cuts bits (suc place) qs) (All-head (λ (quint : Quint). quint.to ≤ n) q qs within)
      (fixed_within n (suc place) qs (All-tail (λ (quint : Quint). quint.to ≤ n) q qs within))

  -- ---- all is constant

  pub constant_cuts : (t : ℕ) (quints : List Quint) → AreConstantCuts (symbolic_cuts_at (map (fixed_quint bits) quints) t)
  constant_cuts t [] = AreConstantCuts.none
  constant_cuts t (q ∷ qs) = by (has_time t q) (constant_cuts t qs)
    where
      by : (b : Bool) → AreConstantCuts (symbolic_cuts_at (map (fixed_quint bits) qs) t) → AreConstantCuts (map symbolic_cut (if b then fixed_quint bits q ∷ filter (has_time t) (map (fixed_quint bits) qs) else filter (has_time t) (map (fixed_quint bits) qs)))
      by true rest = AreConstantCuts.more (record { guard = const_is (value_of q.guard bits); value = const_is (value_of q.value bits) }) rest
      by false rest = rest

-- ---- the table

-- one table, whatever the assignment
abbrev pub constant_table : (ℕ → ℕ → BitSet) → ℕ → ℕ → SymbolicSet
constant_table table t id = constant_set (table t id)

pub constant_family : (table : ℕ → ℕ → BitSet) (t : ℕ) → IsConstantFamily (constant_table table t)
constant_family table t id = set_of_bits (table t id).zero (table t id).one

pub constant_latches : (net : RawNet) (task : Assertion) (table : ℕ → ℕ → BitSet) (t : ℕ) → AreConstantSets (latches_at net task (constant_table table) t)
constant_latches net task table zero = go net.latches
  where
    go : (latches : List Latch) → AreConstantSets (map (λ latch. constant_set (first_set task.reset latch)) latches)
    go [] = AreConstantSets.none
    go (latch ∷ latches) = AreConstantSets.more (set_of_bits (first_set task.reset latch).zero (first_set task.reset latch).one) (go latches)
constant_latches net task table (suc t) = go net.latches
  where
    go : (latches : List Latch) → AreConstantSets (map (λ (latch : Latch). constant_table table t latch.input.0) latches)
    go [] = AreConstantSets.none
    go (latch ∷ latches) = AreConstantSets.more (constant_family table t latch.input.0) (go latches)

-- the possible table under the assignment is that of the fixed assertion under each
pub fixed_whole : (net : RawNet) (vars : ℕ) (task : Assertion) (bits : List Bool) (table : ℕ → ℕ → BitSet) → IsTableOf net task bits table → IsWholeTable net vars (fixed_task bits task) (constant_table table)
fixed_whole net vars task bits table is other l t lt =
    subst (λ (cuts : List Cut). ArePossible net (latch_sets net task.reset table t) (record { cuts = cuts; weak = weakened_at task.weak t }) (table t)) (sym (fixed_cuts bits other t task.ant))
    (is t (subst (λ n. t < n) (fixed_depth bits task) lt))
