-- What a call of two operands expanded, as pairs.
use Rattle.std.proofs.Common.{◌≡◌, ◌≢◌, ℕ, zero, suc, ◌≤◌, Bool, List, [], ◌∷◌, length, map, ◌⊎◌, inl, inr, ⊎_elim, refl, sym, ◌∙◌, ap, subst, arith, Contains, Option, Some, None, IfOk, Result, Ok, Err}
use Rattle.std.specs.Prelude.{min}
use Rattle.std.specs.List.{AllPairs}
use Rattle.std.proofs.lemmas.List.{length-map}
use Rattle.dd_nodes.specs.declared.node.Ref.{Ref}
use Rattle.dd_nodes.specs.declared.node.Node.{Node}
use Rattle.ste_base.specs.Functions.{Function}
use Rattle.dd_nodes.specs.Diagram.{child}
use Rattle.dd_nodes.specs.Functions.{ReachesNode}
use Rattle.dd_nodes.specs.Stores.{Store, IsRef, Means}
use Rattle.dd_nodes.proofs.Members.{Contains-head, Contains-tail, Contains-map, Contains-map_of, apart-cons}
use Rattle.dd_nodes.proofs.Sizes.{Reaches-constant, Reaches-ref}
use Rattle.dd_nodes.proofs.Stores.{IsGood}
use Rattle.dd_nodes.proofs.Walks.{child-constant}
use Rattle.dd_ops.specs.declared.fault.OpFault.{OpFault}
use Rattle.dd_ops.specs.declared.operands.Operands.{Operands}
use Rattle.dd_ops.specs.declared.ops.Op.{Op}
use Rattle.dd_ops.specs.Answer.{op_bit}
use Rattle.dd_ops.specs.Expansion.{AreWholeExpansion, IsExpansion, IsTerminal, first_variable, half_pair, variable_by}
use Rattle.dd_ops.specs.private.Expands.{AreAllBehind, IsBelow, SettleSome, Unfolded}
use Rattle.dd_ops.specs.private.Recursion.{AreRefs, BitRule, children, level, named, pair_of, seen_by, top}
use Rattle.dd_ops.proofs.Applies.{named_pair}
use Rattle.dd_ops.proofs.Seen.{level-constant, level-le}

-- ---- lists of different ones

apart-tail : {X : Type 0} (x : X) (xs : List X) → AllPairs (λ a b. a ≢ b) (x ∷ xs) → AllPairs (λ a b. a ≢ b) xs
apart-tail x xs h i j d lt inside = h (suc i) (suc j) d (omega arith) (omega arith)

apart-head : {X : Type 0} (x : X) (xs : List X) (y : X) → AllPairs (λ a b. a ≢ b) (x ∷ xs) → Contains xs y → x ≢ y
apart-head x xs y h (k, lt, at) e = h zero (suc k) y (omega arith) (omega arith) (e ∙ sym at)

-- images of different ones differ where the map tells them apart
apart-map : {X Y : Type 0} (f : X → Y) (xs : List X) → ((x y : X) → Contains xs x → Contains xs y → f x ≡ f y → x ≡ y) → AllPairs (λ a b. a ≢ b) xs → AllPairs (λ a b. a ≢ b) (map f xs)
apart-map f [] tells h = λ i j d lt inside. absurd (omega arith)
apart-map f (x ∷ xs) tells h = apart-cons (f x) (map f xs)
    (λ y has e.
    let (z, inside, is) = Contains-map_of f xs y has in
    apart-head x xs z h inside (tells x z (Contains-head x xs) (Contains-tail x xs z inside) (e ∙ sym is)))
    (apart-map f xs (λ a b left right. tells a b (Contains-tail x xs a left) (Contains-tail x xs b right)) (apart-tail x xs h))

-- ---- operands of which the third is the constant 0, as pairs

abbrev pub pair_in : Operands → Ref × Ref
pair_in y = (y.first, y.second)

-- the third operand stays the constant 0
third_is : (s : Store) (a b : Ref) (y : Operands) → IsGood s → IsBelow s (pair_of a b) y → y ≡ pair_of y.first y.second
third_is s a b y d below =
    let zero_ref : Ref = record { 0 = 0 } in
    let third : zero_ref ≡ y.third = sym (Reaches-constant s zero_ref y.third d (omega arith) below.third) in
    λ j. record { first = y.first; second = y.second; third = sym third j }

pair_tells : (s : Store) (a b : Ref) (y z : Operands) → IsGood s → IsBelow s (pair_of a b) y → IsBelow s (pair_of a b) z → pair_in y ≡ pair_in z → y ≡ z
pair_tells s a b y z d below below' e =
    third_is s a b y d below ∙ ap (λ (p : Ref × Ref). pair_of p.0 p.1) e ∙ sym (third_is s a b z d below')

variable-level : (v : ℕ) (r : Ref) (o : Option Node) → variable_by v o ≡ (seen_by v r o).var
variable-level v r None = refl
variable-level v r (Some n) = refl

-- the first variable of a pair is that of the operands
first_of_pair : (s : Store) (a b : Ref) → IsGood s → IsRef s b → min (first_variable s a) (first_variable s b) ≡ top s (pair_of a b)
first_of_pair s a b d ref =
    let zero_ref : Ref = record { 0 = 0 } in
    let first : first_variable s a ≡ level s a = variable-level s.vars a (s.held a) in
    let second : first_variable s b ≡ level s b = variable-level s.vars b (s.held b) in
    let third : level s zero_ref ≡ s.vars = level-constant s zero_ref d (omega arith) in
    let le : level s b ≤ s.vars = level-le s b d ref in
    omega (arith, first, second, third, le)

-- the halves of a pair are those of the operands
half_is : (s : Store) (bit : Bool) (y : Operands) → IsGood s → IsRef s y.second → y ≡ pair_of y.first y.second
    → pair_in (children s.held (top s y) bit y) ≡ half_pair s bit (pair_in y)
half_is s bit y d ref is =
    let e : min (first_variable s y.first) (first_variable s y.second) ≡ top s y = first_of_pair s y.first y.second d ref ∙ ap (top s) (sym is) in
    λ j. (child s.held (sym e j) bit y.first, child s.held (sym e j) bit y.second)

-- what settles operands is a terminal case of the pair
settled_pair : (op : Op) (k : BitRule) (y : Operands) → ((p q r : Bool) → op_bit op p q ≡ k p q r) → y ≡ pair_of y.first y.second → SettleSome k y → IsTerminal op (pair_in y)
settled_pair op k y same is (r, settles) = (
  r,
  λ s d left right.
      let refs : AreRefs s y = subst (λ (z : Operands). AreRefs s z) (sym is) (record { first = left; second = right; third = λ le. absurd (omega arith) }) in
      subst (λ (f : Function). Means s f r) (ap (λ (z : Operands). named k s z) is ∙ named_pair op k s y.first y.second same) (settles s d refs),
)

-- the halves of a pair are pairs
child_pair : (s : Store) (i : ℕ) (bit : Bool) (y : Operands) → IsGood s → y ≡ pair_of y.first y.second
    → children s.held i bit y ≡ pair_of (children s.held i bit y).first (children s.held i bit y).second
child_pair s i bit y d is =
    let zero_ref : Ref = record { 0 = 0 } in
    let third : child s.held i bit y.third ≡ zero_ref = ap (λ (z : Operands). child s.held i bit z.third) is ∙ child-constant s.held s.vars i bit zero_ref d (omega arith) in
    λ j. record { first = child s.held i bit y.first; second = child s.held i bit y.second; third = third j }

-- ---- the whole

whole_pairs : (op : Op) (k : BitRule) (s : Store) (a b : Ref) (done : List Operands) → IsGood s → IsRef s b → ((p q r : Bool) → op_bit op p q ≡ k p q r)
    → ((y : Operands) → Contains done y → IsBelow s (pair_of a b) y) → AreAllBehind k s (pair_of a b) done → AreWholeExpansion op s (a, b) (map pair_in done)
whole_pairs op k s a b done d ref same below all = record {
  first = Contains-map pair_in done (pair_of a b) all.first;
  halves = λ q has bit.
      let (y, inside, is) = Contains-map_of pair_in done q has in
      let under = below y inside in
      let third = third_is s a b y d under in
      let z : Operands = children s.held (top s y) bit y in
      let e : pair_in z ≡ half_pair s bit q =
      half_is s bit y d (Reaches-ref s b y.second d ref under.second) third ∙ ap (half_pair s bit) is in
      ⊎_elim
      (λ (done_too : Contains done z). inl (subst (λ p. Contains (map pair_in done) p) e (Contains-map pair_in done z done_too)))
      (λ (settled : SettleSome k z). inr (subst (λ p. IsTerminal op p) e (settled_pair op k z same (child_pair s (top s y) bit y d third) settled)))
      (all.halves y inside bit);
}

whole_of : (op : Op) (k : BitRule) (s : Store) (a b : Ref) (done : List Operands) (result : Result Ref OpFault) → IsGood s → IsRef s b → ((p q r : Bool) → op_bit op p q ≡ k p q r)
    → ((y : Operands) → Contains done y → IsBelow s (pair_of a b) y) → IfOk result (λ _. (done ≡ []) ⊎ AreAllBehind k s (pair_of a b) done)
    → IfOk result (λ _. (map pair_in done ≡ []) ⊎ AreWholeExpansion op s (a, b) (map pair_in done))
whole_of op k s a b done (Ok r) d ref same below (inl none) = inl (ap (map pair_in) none)
whole_of op k s a b done (Ok r) d ref same below (inr all) = inr (whole_pairs op k s a b done d ref same below all)
whole_of op k s a b done (Err f) d ref same below whole = tt

pub applies-expansion : (op : Op) (k : BitRule) (s t : Store) (x : Operands) (a b : Ref) (before after : ℕ) (result : Result Ref OpFault) → IsGood s → IsRef s b → x ≡ pair_of a b
    → ((p q r : Bool) → op_bit op p q ≡ k p q r) → Unfolded k s t x before after result → IsExpansion op s t a b before after result
applies-expansion op k s t x a b before after result d ref is same told =
    let u : Unfolded k s t (pair_of a b) before after result = subst (λ (y : Operands). Unfolded k s t y before after result) is told in
    let work = u.work in
    let long : length (map pair_in work.done) ≡ length work.done = length-map work.done pair_in in
    record {
      pairs = map pair_in work.done;
      count = let count = work.count in omega (arith, long);
      once = apart-map pair_in work.done (λ y z left right e. pair_tells s a b y z d (work.below y left) (work.below z right) e) work.apart;
      reached = λ p has.
          let (y, inside, e) = Contains-map_of pair_in work.done p has in
          let under = work.below y inside in
          subst (λ q. ReachesNode s a q.0 × ReachesNode s b q.1) e (under.first, under.second);
      made = let made = work.made in omega (arith, long);
      whole = whole_of op k s a b work.done result d ref same work.below u.whole;
    }
