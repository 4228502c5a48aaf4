-- The cofactors of a function that has a reference.
use Rattle.std.proofs.Common.{◌≡◌, ℕ, suc, ◌+◌, Bool, List, [], ◌∷◌, ◌++◌, length, drop, sym, ◌∙◌, ap, subst, arith}
use Rattle.std.proofs.lemmas.List.{length-append, length-drop}
use Rattle.dd_nodes.specs.declared.node.Ref.{Ref}
use Rattle.ste_base.specs.Functions.{Function}
use Rattle.dd_nodes.specs.Diagram.{Held, IsCofactor, IsDiagram, IsFrom, child, walk}
use Rattle.dd_nodes.specs.Stores.{Store, Means}
use Rattle.dd_nodes.proofs.Stores.{IsGood}
use Rattle.dd_nodes.proofs.Walks.{IsFrom-less, child-from, value-from}

-- the reference behind r at these bits, the first of which is variable i's
behind_bits : Held → ℕ → Ref → List Bool → Ref
behind_bits h i r [] = r
behind_bits h i r (b ∷ p) = behind_bits h (i + 1) (child h i b r) p

walk_behind : (h : Held) (i : ℕ) (r : Ref) (p rest : List Bool) → walk h i r (p ++ rest) ≡ walk h (i + length p) (behind_bits h i r p) rest
unfolding behind_bits
walk_behind h i r [] rest = ap (λ j. walk h j r rest) (let e : i ≡ i + 0 = omega arith in e)
walk_behind h i r (b ∷ p) rest =
    walk_behind h (i + 1) (child h i b r) p rest ∙ ap (λ j. walk h j (behind_bits h (i + 1) (child h i b r) p) rest) (let e : i + 1 + length p ≡ i + suc (length p) = omega arith in e)

from_behind : (h : Held) (v i : ℕ) (r : Ref) (p : List Bool) → IsDiagram h v → IsFrom h i r → IsFrom h (i + length p) (behind_bits h i r p)
unfolding behind_bits
from_behind h v i r [] d f = subst (λ j. IsFrom h j r) (let e : i ≡ i + 0 = omega arith in e) f
from_behind h v i r (b ∷ p) d f =
    subst (λ j. IsFrom h j (behind_bits h (i + 1) (child h i b r) p)) (let e : i + 1 + length p ≡ i + suc (length p) = omega arith in e)
    (from_behind h v (i + 1) (child h i b r) p d (child-from h v i b r d f))

-- each cofactor of a function that has a reference has one
pub held_cofactor : (t : Store) (f g : Function) (r : Ref) → IsGood t → Means t f r → IsCofactor t.vars f g → (x : Ref) × Means t g x
held_cofactor t f g r d m (p, le, eq) =
    let x : Ref = behind_bits t.held 0 r p in
    let none : 0 + length p ≡ length p = omega arith in
    let from : IsFrom t.held (length p) x = subst (λ j. IsFrom t.held j x) none (from_behind t.held t.vars 0 r p d m.ref) in (
      x,
      record {
        ref = IsFrom-less t.held 0 (length p) x (omega arith) from;
        value = λ bits l.
            value-from t.held t.vars (length p) x bits d from (omega (arith, le, l)) ∙ ap (λ j. walk t.held j x (drop (length p) bits)) (sym none) ∙ sym (walk_behind t.held 0 r p (drop (length p) bits))
            ∙ m.value (p ++ drop (length p) bits) (simp (length-append, length-drop) (omega (arith, le, l))) ∙ sym (eq bits l);
      },
    )
