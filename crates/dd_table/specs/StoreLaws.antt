-- Laws: every session is a store of diagrams. The store over a table cites them.
use Rattle.std.proofs.Common.{◌≡◌, ◌≢◌, ℕ, zero, suc, ◌+◌, ◌≤◌, ◌<◌, ◌==◌, List, [], ◌∷◌, length, get_or, cond, refl, sym, ◌∙◌, ap, subst, arith, eq-eqb}
use Rattle.std.proofs.lemmas.List.Sums.{sum_by-cons}
use Rattle.std.specs.Prelude.{Option, Some, None, IsSome, All}
use Rattle.std.specs.List.{AllPairs}
use Rattle.std.specs.FinMap.{get}
use Rattle.dd_nodes.specs.declared.node.Ref.{Ref}
use Rattle.dd_nodes.specs.declared.node.Node.{Node}
use Rattle.dd_nodes.specs.Diagram.{Held, IsFrom, IsDiagram}
use Rattle.dd_nodes.specs.Plain.{var_or}
use Rattle.dd_table.specs.Codes.{ref}
use Rattle.dd_table.specs.Rules.{count_of}
use Rattle.dd_table.specs.Sessions.{SessionValue, IsGoodSession, store_of}

same_numbers : (r s : Ref) → r.0 ≡ s.0 → r ≡ s
same_numbers r s e = ap ref e

from_by : (h : Held) (i : ℕ) (r : Ref) (o : Option Node) → h r ≡ o → (2 ≤ r.0 → i < var_or 0 o) →
    IsFrom h (i + 1) r
from_by h i r None e lt two = let no = lt two in absurd (omega arith)
from_by h i r (Some n) e lt two = rw e (let more = lt two in let le : i + 1 ≤ n.var = omega arith in le)

no_entry : (o : Option Node) → ((n : Node) → o ≡ Some n → ⊥) → o ≡ None
no_entry None h = refl
no_entry (Some n) h = absurd (h n refl)

some_entry : (o : Option Node) → o ≢ None → IsSome o
some_entry None h = absurd (h refl)
some_entry (Some n) h = refl

pub diagram_of : (k : SessionValue) → IsGoodSession k → IsDiagram (store_of k).held k.vars
diagram_of k g = record {
  constants = λ r lt. no_entry (get k.held r.0) (λ n e. let two = g.near r.0 n e in absurd (omega arith));
  below = λ r n e. g.below r.0 n e;
  differ = λ r n e same. g.differ r.0 n e (ap (λ (x : Ref). x.0) same);
  low = λ r n e. from_by (store_of k).held n.var n.lo (get k.held n.lo.0) refl (g.low r.0 n e);
  high = λ r n e. from_by (store_of k).held n.var n.hi (get k.held n.hi.0) refl (g.high r.0 n e);
  once = λ r s n e f. same_numbers r s (g.once r.0 s.0 n e f);
}

-- one reference more at the front
count_more : (r : ℕ) (x : Ref) (xs : List Ref) →
    count_of r (x ∷ xs) ≡ cond {A = ℕ} (x.0 == r) 1 0 + count_of r xs
count_more r x xs = sum_by-cons (λ (q : Ref). cond {A = ℕ} (q.0 == r) 1 0) x xs

count_same : (x : Ref) (xs : List Ref) → count_of x.0 (x ∷ xs) ≡ 1 + count_of x.0 xs
count_same x xs =
    count_more x.0 x xs ∙ ap (λ b. cond {A = ℕ} b 1 0 + count_of x.0 xs) (eq-eqb x.0 x.0 refl)

-- what stands in a list is counted
pub counted : (xs : List Ref) (i : ℕ) (d : Ref) → i < length xs → 0 < count_of (get_or xs i d).0 xs
counted [] i d lt = absurd (omega arith)
counted (x ∷ xs) zero d lt = let e = count_same x xs in omega arith
counted (x ∷ xs) (suc i) d lt = let h = counted xs i d (omega arith) in let e = count_more (get_or xs i d).0 x xs in omega arith

twice : (xs : List Ref) (i j : ℕ) (d : Ref) → i < j → j < length xs →
    get_or xs i d ≡ get_or xs j d → 2 ≤ count_of (get_or xs i d).0 xs
twice [] i j d lt in' e = absurd (omega arith)
twice (x ∷ xs) i zero d lt in' e = absurd (omega arith)
twice (x ∷ xs) zero (suc j) d lt in' e =
    let a = count_same x xs in
    let b : 0 < count_of x.0 xs = subst (λ (r : Ref). 0 < count_of r.0 xs) (sym e) (counted xs j d (omega arith)) in
    omega arith
twice (x ∷ xs) (suc i) (suc j) d lt in' e =
    let h = twice xs i j d (omega arith) (omega arith) e in
    let a = count_more (get_or xs i d).0 x xs in
    omega arith

pub distinct_of : (k : SessionValue) → IsGoodSession k → AllPairs (λ a b. a ≢ b) k.made
distinct_of k g i j d lt in' same =
    let two = twice k.made i j d lt in' same in
    let one = g.distinct (get_or k.made i d).0 in
    absurd (omega arith)

pub made_held_of : (k : SessionValue) → IsGoodSession k → All (λ r. IsSome (get k.held r.0)) k.made
made_held_of k g i d lt = some_entry _ (g.made (get_or k.made i d).0 (counted k.made i d lt))
