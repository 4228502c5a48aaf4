use Rattle.std.proofs.Common.{inl, inr, subst, sym}
use Rattle.hierarchy.specs.Faults.{Else, HasDrivenTwice, HasFaultBeforeInstances, HasMixedClocks, IsFree}
use Rattle.hierarchy.proofs.Refused.{before_is_refusal, free_first, later_is_refusal, refusal_free}
use Rattle.flat_net.specs.Flat.{IsFlat}
use Rattle.flat_net.proofs.OneDriver.{one_driver}
use Rattle.flat_net.proofs.OneToOne.{corresponds}
use Rattle.flat_net.proofs.Parting.{shallow}
use Rattle.flat_net.proofs.flat.flatten.Goals as goal

pub flat_behind-requires-clause-free : goal.flat_behind-requires-clause-free
flat_behind-requires-clause-free c = subst (λ ms. IsFree (HasFaultBeforeInstances ms)) (sym c.as_slice.ensures) c.in-Ok.ensures.ok

pub returns-in-Err-clause-err : goal.returns-in-Err-clause-err
returns-in-Err-clause-err c = elim c.in-Err.ensures.err [
  | inl wanting ↦ inl wanting
  | inr found ↦ inr (before_is_refusal c.args.models.now.models c.in-Err.fault found)
]

pub returns-in-Err-flat_behind-clause-err : goal.returns-in-Err-flat_behind-clause-err
returns-in-Err-flat_behind-clause-err c = elim c.in-Err-flat_behind.ensures.err [
  | inl wanting ↦ inl wanting
  | inr found ↦ inr (later_is_refusal c.args.models.now.models c.in-Ok.ensures.ok c.in-Err-flat_behind.fault (subst (λ ms. Else (HasDrivenTwice ms) (HasMixedClocks ms) c.in-Err-flat_behind.fault) c.as_slice.ensures found))
]

pub returns-in-Ok-flat_behind-clause-flat : goal.returns-in-Ok-flat_behind-clause-flat
returns-in-Ok-flat_behind-clause-flat c = subst (λ ms. IsFlat ms c.in-Ok-flat_behind.made.0) c.as_slice.ensures c.in-Ok-flat_behind.ensures.flat

pub returns-in-Ok-flat_behind-clause-runs : goal.returns-in-Ok-flat_behind-clause-runs
returns-in-Ok-flat_behind-clause-runs c = corresponds c.args.models.now.models c.in-Ok-flat_behind.made.0 (shallow c.args.models.now.models c.in-Ok.ensures.ok) (subst (λ ms. IsFlat ms c.in-Ok-flat_behind.made.0) c.as_slice.ensures c.in-Ok-flat_behind.ensures.flat)

pub returns-in-Ok-flat_behind-clause-ok : goal.returns-in-Ok-flat_behind-clause-ok
returns-in-Ok-flat_behind-clause-ok c = refusal_free c.args.models.now.models c.in-Ok.ensures.ok (subst (λ ms. IsFree (Else (HasDrivenTwice ms) (HasMixedClocks ms))) c.as_slice.ensures c.in-Ok-flat_behind.ensures.ok)

pub returns-in-Ok-flat_behind-clause-one_driver : goal.returns-in-Ok-flat_behind-clause-one_driver
returns-in-Ok-flat_behind-clause-one_driver c = one_driver c.args.models.now.models c.in-Ok-flat_behind.made.0 (subst (λ ms. IsFlat ms c.in-Ok-flat_behind.made.0) c.as_slice.ensures c.in-Ok-flat_behind.ensures.flat)
    (free_first (HasDrivenTwice c.args.models.now.models) (HasMixedClocks c.args.models.now.models) (subst (λ ms. IsFree (Else (HasDrivenTwice ms) (HasMixedClocks ms))) c.as_slice.ensures c.in-Ok-flat_behind.ensures.ok))
