-- What a store remembers, as answers of a connective.
use Rattle.std.proofs.Common.{◌≡◌, Bool, Result, Ok, sym, subst}
use Rattle.dd_nodes.specs.declared.node.Ref.{Ref}
use Rattle.dd_nodes.specs.declared.operator.Operator.{Operator}
use Rattle.ste_base.specs.Functions.{Function}
use Rattle.dd_nodes.specs.Operators.{IsJoined, joined, operator_bit}
use Rattle.dd_nodes.specs.Stores.{Store, Means, function}
use Rattle.dd_nodes.proofs.Stores.{IsGood}
use Rattle.dd_ops.specs.declared.fault.OpFault.{OpFault}
use Rattle.dd_ops.specs.declared.operands.Operands.{Operands}
use Rattle.dd_ops.specs.Answer.{Answer}
use Rattle.dd_ops.specs.private.Recursion.{AreRefs, BitRule, named}
use Rattle.dd_ops.proofs.Steps.{Answer-settled, IsResult-make}

-- the rule is that of the operator
abbrev pub IsRuleOf : Operator → BitRule → Type 0
IsRuleOf o k = (a b c : Bool) → k a b c ≡ operator_bit o a b c

joined-named : (o : Operator) (k : BitRule) (s : Store) (x : Operands) → IsRuleOf o k → joined o s x.first x.second x.third ≡ named k s x
joined-named o k s x same = λ i bits. sym (same (function s x.first bits) (function s x.second bits) (function s x.third bits)) i

pub Answer-recalled : (o : Operator) (k : BitRule) (s : Store) (x : Operands) (r : Ref) → IsRuleOf o k → IsJoined s o x.first x.second x.third r → Answer (named k s x) s s (Ok r)
Answer-recalled o k s x r same known =
    Answer-settled (named k s x) s r (subst (λ (f : Function). Means s f r) (joined-named o k s x same) known.means)

pub IsJoined-answered : (o : Operator) (k : BitRule) (s t : Store) (x : Operands) (r : Ref) → IsRuleOf o k → IsGood s → IsGood t → AreRefs s x
    → Answer (named k s x) s t (Ok r) → IsJoined t o x.first x.second x.third r
IsJoined-answered o k s t x r same ds dt refs answer =
    let is = IsResult-make k s t x r ds dt answer.keeps refs answer.ok in
    record {
      first = is.refs.first;
      second = is.refs.second;
      third = is.refs.third;
      means = subst (λ (f : Function). Means t f r) (sym (joined-named o k t x same)) is.means;
    }

pub Answer-kept : (f : Function) (s t u : Store) (result : Result Ref OpFault) → u ≡ t → Answer f s t result → Answer f s u result
Answer-kept f s t u result is answer = subst (λ (v : Store). Answer f s v result) (sym is) answer
