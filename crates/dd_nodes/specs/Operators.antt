-- Meaning. What an operator makes of functions.
use Rattle.std.specs.Prelude.{Bool, not, ◌&&◌, ◌||◌, if◌then◌else◌}
use Rattle.dd_nodes.specs.declared.node.Ref.{Ref}
use Rattle.dd_nodes.specs.declared.operator.Operator.{Operator}
use Rattle.dd_nodes.specs.declared.operator.Operator.TheVariants.{And, Or, Xor, Choice}
use Rattle.ste_base.specs.Functions.{Function}
use Rattle.dd_nodes.specs.Stores.{Store, function, IsRef, Means}

-- the bit that an operator makes of three
abbrev pub operator_bit : Operator → Bool → Bool → Bool → Bool
operator_bit And a b c = a && b
operator_bit Or a b c = a || b
operator_bit Xor a b c = if a then not b else b
operator_bit Choice a b c = if a then b else c

-- the function that an operator makes of those of three references
abbrev pub joined : Operator → Store → Ref → Ref → Ref → Function
joined o s a b c bits = operator_bit o (function s a bits) (function s b bits) (function s c bits)

-- r is what the operator makes of a, b and c
pub record IsJoined (s : Store) (o : Operator) (a b c r : Ref) : Type 0 where
  pub first : IsRef s a
  pub second : IsRef s b
  pub third : IsRef s c
  pub means : Means s (joined o s a b c) r
