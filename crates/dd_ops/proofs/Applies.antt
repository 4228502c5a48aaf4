-- The operations of two, as connectives.
use Rattle.std.proofs.Common.{◌≡◌, ℕ, ◌+◌, ◌*◌, ◌≤◌, Bool, Result, refl, sym, subst}
use Rattle.dd_nodes.specs.declared.node.Ref.{Ref}
use Rattle.ste_base.specs.Functions.{Function}
use Rattle.dd_nodes.specs.Functions.{diagram_size}
use Rattle.dd_nodes.specs.Stores.{Store, function}
use Rattle.dd_nodes.proofs.Stores.{IsGood}
use Rattle.dd_ops.specs.declared.fault.OpFault.{OpFault}
use Rattle.dd_ops.specs.declared.operands.Operands.{Operands}
use Rattle.dd_ops.specs.declared.ops.Op.{Op}
use Rattle.dd_ops.specs.Answer.{Answer, op_bit}
use Rattle.dd_ops.specs.private.Expands.{Expanded}
use Rattle.dd_ops.specs.private.Recursion.{BitRule, named, pair_of}
use Rattle.dd_ops.proofs.Expanding.{Expanded-bound}

-- the function of an operation of two
abbrev pub applied : Op → Store → Ref → Ref → Function
applied op s a b bits = op_bit op (function s a bits) (function s b bits)

pub named_pair : (op : Op) (k : BitRule) (s : Store) (a b : Ref) → ((p q r : Bool) → op_bit op p q ≡ k p q r) → named k s (pair_of a b) ≡ applied op s a b
named_pair op k s a b same = λ i bits. sym (same (function s a bits) (function s b bits) (function s (record { 0 = 0 }) bits)) i

pub applies : (op : Op) (k : BitRule) (s t : Store) (x : Operands) (a b : Ref) (result : Result Ref OpFault) → x ≡ pair_of a b → ((p q r : Bool) → op_bit op p q ≡ k p q r)
    → Answer (named k s x) s t result → Answer (applied op s a b) s t result
applies op k s t x a b result is same answer =
    subst (λ (f : Function). Answer f s t result) (named_pair op k s a b same) (subst (λ (y : Operands). Answer (named k s y) s t result) is answer)

pub applies-bound : (s t : Store) (x : Operands) (a b : Ref) (before after : ℕ) → IsGood s → x ≡ pair_of a b → Expanded s t x before after
    → after ≤ before + (diagram_size s a + 2) * (diagram_size s b + 2)
applies-bound s t x a b before after d is work = Expanded-bound s t (pair_of a b) before after d refl (subst (λ (y : Operands). Expanded s t y before after) is work)
