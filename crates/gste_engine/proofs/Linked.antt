-- The edges at each vertex, from the last edge to the first.
use Rattle.std.proofs.Common.{◌≡◌, ℕ, suc, ◌+◌, ◌<◌, ◌≤◌, List, length, get_or, set, sym, ◌∙◌, ap, subst, arith, inl, inr}
use Rattle.std.proofs.Math.Decide.{ℕ_discrete}
use Rattle.std.proofs.lemmas.Bool.{cases_lt}
use Rattle.std.proofs.lemmas.List.{get_or-set_other, get_or-set_same, get_or_default, length-set}
use Rattle.ste_model.specs.declared.task.Edge.{Edge}
use Rattle.gste_engine.specs.declared.links.End.{End}
use Rattle.gste_engine.specs.declared.links.Links.{Links}
use Rattle.gste_engine.specs.private.Links.{AreLinksFrom, IsNextAt, end_of}

-- one more edge, in front of those
module _ (at : End) (vertices : ℕ) (edges : List Edge) (k vertex : ℕ) (edge : Edge) (old new : Links) (lt : k < length edges) (is : edge ≡ get_or edges k edge) (end : vertex ≡ end_of at edge) (inside : vertex < vertices)
    (p : AreLinksFrom at vertices edges (suc k) old) (next_is : new.next.items ≡ set old.next.items k (get_or old.first.items vertex 0)) (first_is : new.first.items ≡ set old.first.items vertex k) where
  there : (d : Edge) → end_of at (get_or edges k d) ≡ vertex
  there d = ap (end_of at) (get_or_default edges k d edge lt ∙ sym is) ∙ sym end

  this_first : IsNextAt at edges vertex k k
  this_first = record { low = omega arith; most = omega (arith, lt); here = λ d l. there d; none = λ i d le l. absurd (omega (arith, le, l)) }

  other_first : (v n : ℕ) → (v ≡ vertex → ⊥) → IsNextAt at edges v (suc k) n → IsNextAt at edges v k n
  other_first v n differ h = record {
    low = let low = h.low in omega (arith, low);
    most = h.most;
    here = h.here;
    none = λ i d le l same. elim (cases_lt k i) [
      | inl less ↦ h.none i d (omega (arith, less)) l same
      | inr most ↦ differ (sym same ∙ ap (λ j. end_of at (get_or edges j d)) (let e : i ≡ k = omega (arith, le, most) in e) ∙ there d)
    ];
  }

  firsts_more : (v : ℕ) → v < vertices → IsNextAt at edges v k (get_or new.first.items v 0)
  firsts_more v l = subst (λ (xs : List ℕ). IsNextAt at edges v k (get_or xs v 0)) (sym first_is) (by (ℕ_discrete v vertex))
    where
      by : Dec (v ≡ vertex) → IsNextAt at edges v k (get_or (set old.first.items vertex k) v 0)
      by (yes same) = subst (λ (w : ℕ). IsNextAt at edges w k (get_or (set old.first.items vertex k) w 0)) (sym same)
          (subst (λ (n : ℕ). IsNextAt at edges vertex k n) (sym (get_or-set_same old.first.items vertex k 0 (let n = p.firsts in omega (arith, n, inside)))) this_first)
      by (no differ) = subst (λ (n : ℕ). IsNextAt at edges v k n) (sym (get_or-set_other old.first.items vertex v k 0 differ)) (other_first v (get_or old.first.items v 0) differ (p.first v l))

  nexts_more : (j : ℕ) (d : Edge) → k ≤ j → j < length edges → IsNextAt at edges (end_of at (get_or edges j d)) (j + 1) (get_or new.next.items j 0)
  nexts_more j d le l = subst (λ (xs : List ℕ). IsNextAt at edges (end_of at (get_or edges j d)) (j + 1) (get_or xs j 0)) (sym next_is) (by (ℕ_discrete j k))
    where
      f : ℕ
      f = get_or old.first.items vertex 0

      by : Dec (j ≡ k) → IsNextAt at edges (end_of at (get_or edges j d)) (j + 1) (get_or (set old.next.items k f) j 0)
      by (yes same) = subst (λ (i : ℕ). IsNextAt at edges (end_of at (get_or edges i d)) (i + 1) (get_or (set old.next.items k f) i 0)) (sym same)
          (subst (λ (n : ℕ). IsNextAt at edges (end_of at (get_or edges k d)) (k + 1) n) (sym (get_or-set_same old.next.items k f 0 (let n = p.nexts in omega (arith, n, lt))))
          (subst (λ (v : ℕ). IsNextAt at edges v (k + 1) f) (sym (there d)) (subst (λ (n : ℕ). IsNextAt at edges vertex n f) (let e : suc k ≡ k + 1 = omega arith in e) (p.first vertex inside))))
      by (no differ) = subst (λ (n : ℕ). IsNextAt at edges (end_of at (get_or edges j d)) (j + 1) n) (sym (get_or-set_other old.next.items k j f 0 differ)) (p.next j d (omega (arith, le, differ)) l)

  pub links_more : AreLinksFrom at vertices edges k new
  links_more = record {
    firsts = ap (λ (xs : List ℕ). length xs) first_is ∙ length-set old.first.items vertex k ∙ p.firsts;
    nexts = ap (λ (xs : List ℕ). length xs) next_is ∙ length-set old.next.items k (get_or old.first.items vertex 0) ∙ p.nexts;
    first = firsts_more;
    next = nexts_more;
  }
