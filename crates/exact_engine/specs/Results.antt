-- Meaning. What the results of an exact check are, by references: where the functions of the
-- store's variables are 1.
use Rattle.std.specs.Prelude.{◌≡◌, ◌↔◌, ℕ, Bool, List, IsTrue, length, take}
use Rattle.ste_base.specs.Functions.{Function}
use Rattle.dd_nodes.specs.Stores.{IsRef, Means, Store, function}
use Rattle.net_core.specs.declared.raw.RawNet.{RawNet}
use Rattle.ste_model.specs.declared.task.Assertion.{Assertion}
use Rattle.exact_model.specs.Exact.{IsExactlyContradictory, IsExactlyStrong}
use Rattle.exact_model.specs.ExactWork.{counter_where, exactly_contradictory_where, exactly_strong_where}
use Rattle.exact_engine.specs.declared.results.ExactResults.{ExactResults}

-- The references are held. They tell the exactly strong and the exactly contradictory assignments,
-- which are the bits of the first variables; on the further ones nothing depends.
pub record TellExactly (net : RawNet) (vars : ℕ) (task : Assertion) (s : Store)
    (r : ExactResults) : Type 0 where
  pub counter_ref : IsRef s r.counter
  pub strong_ref : IsRef s r.strong
  pub contradictory_ref : IsRef s r.contradictory
  pub strong : (bits : List Bool) → length bits ≡ s.vars →
      IsTrue (function s r.strong bits) ↔ IsExactlyStrong net task (take vars bits)
  pub contradictory : (bits : List Bool) → length bits ≡ s.vars →
      IsTrue (function s r.contradictory bits) ↔ IsExactlyContradictory net task (take vars bits)

-- the references have the functions of the results, where the runs have these bits
pub record AreExactRefs (net : RawNet) (vars : ℕ) (task : Assertion) (bit : ℕ → ℕ → Function)
    (s : Store) (r : ExactResults) : Type 0 where
  pub counter : Means s (counter_where task bit) r.counter
  pub strong : Means s (exactly_strong_where net vars task bit) r.strong
  pub contradictory : Means s (exactly_contradictory_where net vars task bit) r.contradictory
