-- For private functions. One variable of a walk to the least assignment.
use Rattle.std.specs.Prelude.{◌≡◌, ◌≢◌, ℕ, false, true}
use Rattle.dd_nodes.specs.declared.node.Ref.{Ref}
use Rattle.dd_nodes.specs.Diagram.{Held, child}
use Rattle.dd_query.specs.declared.first.Lead.{Lead}

-- a bit of variable var with which r is not 0 everywhere; it is 1 only where r is 0 everywhere with
-- the bit 0
pub record Leads (h : Held) (var : ℕ) (r : Ref) (lead : Lead) : Type 0 where
  pub rest : lead.rest ≡ child h var lead.bit r
  pub nonzero : lead.rest.0 ≢ 0
  pub least : lead.bit ≡ true → (child h var false r).0 ≡ 0
