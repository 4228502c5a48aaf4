-- What is seen of operands, and their halves.
use Rattle.std.proofs.Common.{◌≡◌, ℕ, ◌+◌, ◌≤◌, ◌<◌, Bool, true, false, refl, sym, ◌∙◌, ap, subst, arith, Some, None, inl, inr}
use Rattle.std.specs.Prelude.{Option, if◌then◌else◌, ◌==◌}
use Rattle.std.proofs.lemmas.Grind.{common_steps}
use Rattle.std.proofs.lemmas.Bool.Decides.{eqb_tells}
use Rattle.dd_nodes.specs.declared.node.Ref.{Ref}
use Rattle.dd_nodes.specs.declared.node.Node.{Node}
use Rattle.dd_nodes.specs.Diagram.{child_by, child}
use Rattle.dd_nodes.specs.Stores.{Store, IsRef}
use Rattle.dd_nodes.proofs.Stores.{IsGood}
use Rattle.dd_nodes.proofs.Walks.{Cases, from_cases, same_numbers, child-above, child-constant, IsFrom-less}
use Rattle.dd_ops.specs.declared.operands.Operands.{Operands}
use Rattle.dd_ops.specs.private.Recursion.{AreRefs, AreHalves, IsOpen, IsPair, pair_of, seen, seen_by, level, top, child_of_node, children}
use Rattle.dd_ops.proofs.Splits.{level-from}
use Rattle.dd_ops.proofs.Steps.{AreHalves-make}

at_bit : (b : Bool) (r : Ref) → (if b then r else r) ≡ r
at_bit true r = refl
at_bit false r = refl

either_way : (test b : Bool) (r : Ref) → (if test then (if b then r else r) else r) ≡ r
either_way true b r = at_bit b r
either_way false b r = refl

pub child_of-is : (v i : ℕ) (b : Bool) (r : Ref) (o : Option Node) → child_of_node i b r (seen_by v r o) ≡ child_by i b r o
child_of-is v i b r None = either_way (v == i) b r
child_of-is v i b r (Some n) = refl

-- the child at a bit of the variable that is read first
abbrev pub behind : Bool → Node → Ref
behind b n = if b then n.hi else n.lo

child-seen_by : (v : ℕ) (b : Bool) (r : Ref) (o : Option Node) → child_by (seen_by v r o).var b r o ≡ behind b (seen_by v r o)
child-seen_by v b r None = sym (at_bit b r)
child-seen_by v b r (Some n) = grind (arith, common_steps, eqb_tells)

child-seen : (s : Store) (i : ℕ) (b : Bool) (r : Ref) (n : Node) → n ≡ seen s r → i ≡ n.var → behind b n ≡ child s.held i b r
child-seen s i b r n is at =
    ap (behind b) is ∙ sym (child-seen_by s.vars b r (s.held r)) ∙ ap (λ j. child s.held j b r) (sym (at ∙ ap (λ (m : Node). m.var) is))

child-later : (s : Store) (i : ℕ) (b : Bool) (r : Ref) → IsGood s → IsRef s r → i < level s r → r ≡ child s.held i b r
child-later s i b r d f lt = sym (child-above s.held s.vars i b r d (IsFrom-less s.held (i + 1) (level s r) r (omega arith) (level-from s r f)))

level-le_by : (s : Store) (r : Ref) → IsGood s → Cases s.held 0 r → level s r ≤ s.vars
level-le_by s r d (inl c) = subst (λ o. (seen_by s.vars r o).var ≤ s.vars) (sym (d.constants r c)) (omega arith)
level-le_by s r d (inr (n, at, low)) = subst (λ o. (seen_by s.vars r o).var ≤ s.vars) (sym at) (let lt = d.below r n at in omega arith)

pub level-le : (s : Store) (r : Ref) → IsGood s → IsRef s r → level s r ≤ s.vars
level-le s r d f = level-le_by s r d (from_cases s.held 0 r f)

pub level-constant : (s : Store) (r : Ref) → IsGood s → r.0 < 2 → level s r ≡ s.vars
level-constant s r d c = ap (λ o. (seen_by s.vars r o).var) (d.constants r c)

pair-half : (s : Store) (x : Operands) (i : ℕ) (b : Bool) (p q : Ref) → IsGood s → IsPair x → p ≡ child s.held i b x.first → q ≡ child s.held i b x.second
    → pair_of p q ≡ children s.held i b x
pair-half s x i b p q d pair first second =
    let zero_ref : Ref = record { 0 = 0 } in
    let third : zero_ref ≡ child s.held i b x.third = same_numbers zero_ref x.third (sym pair) ∙ sym (child-constant s.held s.vars i b x.third d (omega (arith, pair))) in
    λ j. record { first = first j; second = second j; third = third j }

-- the halves of a pair, by what is seen of both
pub record SeesPair (s : Store) (x : Operands) (m n : Node) : Type 0 where
  pub good : IsGood s
  pub refs : AreRefs s x
  pub some : IsOpen x
  pub pair : IsPair x
  pub first : m ≡ seen s x.first
  pub second : n ≡ seen s x.second

pair-halves : (s : Store) (x : Operands) (m n : Node) (i : ℕ) (p q p' q' : Ref) → SeesPair s x m n → i ≡ top s x
    → p ≡ child s.held i false x.first → q ≡ child s.held i false x.second → p' ≡ child s.held i true x.first → q' ≡ child s.held i true x.second
    → AreHalves s x (record { var = i; lo = pair_of p q; hi = pair_of p' q' })
pair-halves s x m n i p q p' q' sees e a b a' b' = AreHalves-make s x i (pair_of p q) (pair_of p' q') sees.good sees.refs sees.some e
    (pair-half s x i false p q sees.good sees.pair a b) (pair-half s x i true p' q' sees.good sees.pair a' b')

levels : (s : Store) (x : Operands) (m n : Node) → SeesPair s x m n
    → (level s x.first ≡ m.var) × (level s x.second ≡ n.var) × (level s x.third ≡ s.vars) × (m.var ≤ s.vars) × (n.var ≤ s.vars)
levels s x m n sees =
    let pair = sees.pair in
    let first : level s x.first ≡ m.var = ap (λ (k : Node). k.var) (sym sees.first) in
    let second : level s x.second ≡ n.var = ap (λ (k : Node). k.var) (sym sees.second) in
    let le = level-le s x.first sees.good sees.refs.first in
    let le' = level-le s x.second sees.good sees.refs.second in
    (first, second, level-constant s x.third sees.good (omega arith), omega arith, omega arith)

pub first-before : (s : Store) (x : Operands) (m n : Node) → SeesPair s x m n → m.var < n.var
    → AreHalves s x (record { var = m.var; lo = pair_of m.lo x.second; hi = pair_of m.hi x.second })
first-before s x m n sees lt =
    let (first, second, third, le, le') = levels s x m n sees in
    pair-halves s x m n m.var m.lo x.second m.hi x.second sees (omega arith)
    (child-seen s m.var false x.first m sees.first refl) (child-later s m.var false x.second sees.good sees.refs.second (omega arith))
    (child-seen s m.var true x.first m sees.first refl) (child-later s m.var true x.second sees.good sees.refs.second (omega arith))

pub second-before : (s : Store) (x : Operands) (m n : Node) → SeesPair s x m n → n.var < m.var
    → AreHalves s x (record { var = n.var; lo = pair_of x.first n.lo; hi = pair_of x.first n.hi })
second-before s x m n sees lt =
    let (first, second, third, le, le') = levels s x m n sees in
    pair-halves s x m n n.var x.first n.lo x.first n.hi sees (omega arith)
    (child-later s n.var false x.first sees.good sees.refs.first (omega arith)) (child-seen s n.var false x.second n sees.second refl)
    (child-later s n.var true x.first sees.good sees.refs.first (omega arith)) (child-seen s n.var true x.second n sees.second refl)

pub both-at : (s : Store) (x : Operands) (m n : Node) → SeesPair s x m n → n.var ≤ m.var → m.var ≤ n.var
    → AreHalves s x (record { var = m.var; lo = pair_of m.lo n.lo; hi = pair_of m.hi n.hi })
both-at s x m n sees low high =
    let (first, second, third, le, le') = levels s x m n sees in
    let at : m.var ≡ n.var = omega arith in
    pair-halves s x m n m.var m.lo n.lo m.hi n.hi sees (omega arith)
    (child-seen s m.var false x.first m sees.first refl) (child-seen s m.var false x.second n sees.second at)
    (child-seen s m.var true x.first m sees.first refl) (child-seen s m.var true x.second n sees.second at)

pub AreHalves-is : (s : Store) (x : Operands) (i : ℕ) (y z y' z' : Operands) → y ≡ y' → z ≡ z' → AreHalves s x (record { var = i; lo = y'; hi = z' }) → AreHalves s x (record { var = i; lo = y; hi = z })
AreHalves-is s x i y z y' z' e e' h = record { inside = h.inside; first = h.first; from = h.from; lo = e ∙ h.lo; hi = e' ∙ h.hi }
