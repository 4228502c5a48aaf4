-- For private functions. Where each assignment fails first, where all is constant at that time.
use Rattle.std.specs.Prelude.{◌≡◌, ◌==◌, ◌&&◌, ℕ, Bool, not, nat_lt, List, Option, None, Some, IfSome, IsTrue, length, if◌then◌else◌}
use Rattle.std.specs.List.{list_all}
use Rattle.dd_nodes.specs.declared.node.Ref.{Ref}
use Rattle.dual_rail.specs.declared.rails.Rails.{Rails}
use Rattle.net_core.specs.declared.raw.RawNet.{RawNet}
use Rattle.ste_base.specs.declared.id.NodeId.{NodeId}
use Rattle.ste_model.specs.declared.task.Assertion.{Assertion}
use Rattle.ste_model.specs.Report.{IsFailingPlace}
use Rattle.sym_step.specs.declared.cut.Cut.{Cut}
use Rattle.sym_step.specs.Step.{rails_at}
use Rattle.engine_parts.specs.declared.failing.Failure.{Failure}
use Rattle.engine_parts.specs.declared.failing.Failure.TheVariants.{Strong, Weak}
use Rattle.ste_engine.specs.declared.firsts.Firsts.{Firsts}
use Rattle.engine_parts.specs.Failing.{FailsBy, first_failing}

-- whether a consequent's guard and value are constants, and so is the set of its net
abbrev pub is_fixed : Rails → Cut → Bool
is_fixed r c =
    (nat_lt r.can0.0 2 && nat_lt r.can1.0 2) && (nat_lt c.guard.0 2 && nat_lt c.value.0 2)

-- whether this is so of each of these consequents
abbrev pub are_fixed : List Rails → List Cut → Bool
are_fixed nets cuts = list_all (λ c. is_fixed (rails_at nets c.node.0) c) cuts

-- whether nothing was found before a time, and something is with it
abbrev pub is_first : Ref → Ref → Bool
is_first before after = before.0 == 0 && not (after.0 == 0)

-- the net of the consequent that fails so first, at the first time at which something is found,
-- where all is constant
abbrev pub first_at : Failure → List Rails → List Cut → Ref → Ref → Option NodeId
first_at failure nets cuts before after =
    if is_first before after && are_fixed nets cuts then first_failing failure nets cuts else None

-- the place of a net at a time, or else that of before
abbrev pub place_or : Option NodeId → ℕ → Option (NodeId × ℕ) → Option (NodeId × ℕ)
place_or (Some node) time first = Some (node, time)
place_or None time first = first

-- nothing was found before, all is constant, and the net is that of the first consequent that fails
-- so
pub record IsFirstAt (failure : Failure) (nets : List Rails) (cuts : List Cut) (before : Ref)
    (node : NodeId) : Type 0 where
  pub nothing : before.0 ≡ 0
  pub fixed : IsTrue (are_fixed nets cuts)
  pub first : first_failing failure nets cuts ≡ Some node

-- under each assignment the assertion fails so first at this place
abbrev pub IsFirstPlace : ℕ → RawNet → Assertion → Failure → NodeId × ℕ → Type 0
IsFirstPlace vars net task failure place =
    (bits : List Bool) → length bits ≡ vars → IsFailingPlace (FailsBy failure) net task bits place

-- the places that are known are such
pub record AreFirsts (vars : ℕ) (net : RawNet) (task : Assertion) (firsts : Firsts) : Type 0 where
  pub strong : IfSome firsts.strong (IsFirstPlace vars net task Strong)
  pub weak : IfSome firsts.weak (IsFirstPlace vars net task Weak)
