-- What calls that build functions leave adds up; and where steps are out, fewer were left than the functions have nodes.
use Rattle.std.proofs.Common.{◌≡◌, ◌≢◌, ℕ, suc, ◌+◌, ◌<◌, List, [], ◌∷◌, ◌++◌, length, drop, refl, sym, ◌∙◌, ap, subst, arith, Contains, All}
use Rattle.std.specs.Prelude.{Bool, true, false, IsSome}
use Rattle.std.specs.List.{AllPairs}
use Rattle.std.proofs.lemmas.List.{length-append, length-drop}
use Rattle.std.proofs.lemmas.List.Elements.{Contains-append_right}
use Rattle.dd_nodes.specs.declared.node.Ref.{Ref}
use Rattle.ste_base.specs.Functions.{Function}
use Rattle.dd_nodes.specs.Diagram.{IsCofactor}
use Rattle.dd_nodes.specs.Stores.{Store, IsRef, Means, function}
use Rattle.dd_nodes.specs.Functions.{IsCofactorOf, IsNodeRef, node_count}
use Rattle.dd_nodes.specs.Spending.{Has, Spends, IsShort}
use Rattle.dd_nodes.proofs.Walks.{from_constant, walk-constant}
use Rattle.dd_nodes.proofs.Stores.{IsGood, Keeps-refl, Keeps-trans, Builds-nothing, Builds-then, Builds-weaker, IsSpent-weaker}
use Rattle.dd_nodes.proofs.Counts.{count_missing}

-- each of the first functions is one of the others, at each assignment of v variables
abbrev pub Covers : ℕ → List Function → List Function → Type 0
Covers v fs gs = (f : Function) → Contains fs f → Has v gs f

-- a cofactor of one function is one of another that has its values
pub cofactor_same : (v : ℕ) (f g h : Function) → ((bits : List Bool) → length bits ≡ v → g bits ≡ f bits) → IsCofactor v f h → IsCofactor v g h
cofactor_same v f g h same (p, le, eq) = (p, le, λ bits l. eq bits l ∙ sym (same (p ++ drop (length p) bits) (simp (length-append, length-drop) (omega arith))))

pub cofactor_covered : (v : ℕ) (fs gs : List Function) → Covers v fs gs → (h : Function) → IsCofactorOf v fs h → IsCofactorOf v gs h
cofactor_covered v fs gs covers h (f, has, c) = let (g, in_gs, same) = covers f has in (g, in_gs, cofactor_same v f g h same c)

-- ---- calls

pub Spends-nothing : (fs : List Function) (s : Store) (out : Type 0) → (out → ⊥) → Spends fs s s out
Spends-nothing fs s out never = record { keeps = Keeps-refl s; limit = refl; builds = Builds-nothing (IsCofactorOf s.vars fs) s s refl; spent = λ o. absurd (never o) }

-- the same with more functions, or ones that have the same values
pub Spends-wider : (fs gs : List Function) (s t : Store) (out : Type 0) → Covers s.vars fs gs → Spends fs s t out → Spends gs s t out
Spends-wider fs gs s t out covers x = record {
  keeps = x.keeps;
  limit = x.limit;
  builds = Builds-weaker (IsCofactorOf s.vars fs) (IsCofactorOf s.vars gs) s t (cofactor_covered s.vars fs gs covers) x.builds;
  spent = λ o. IsSpent-weaker (IsCofactorOf s.vars fs) (IsCofactorOf s.vars gs) t (cofactor_covered s.vars fs gs covers) (x.spent o);
}

-- the same with another cause of running out
pub Spends-out : (fs : List Function) (s t : Store) (out now : Type 0) → (now → out) → Spends fs s t out → Spends fs s t now
Spends-out fs s t out now give x = record { keeps = x.keeps; limit = x.limit; builds = x.builds; spent = λ o. x.spent (give o) }

-- one call after others that did not run out
pub Spends-then : (fs : List Function) (s t u : Store) (none out : Type 0) → IsGood t → IsGood u → Spends fs s t none → Spends fs t u out → Spends fs s u out
Spends-then fs s t u none out dt du p x =
    let back : (h : Function) → IsCofactorOf t.vars fs h → IsCofactorOf s.vars fs h = λ h c. subst (λ v. IsCofactorOf v fs h) p.keeps.vars c in
    record {
      keeps = Keeps-trans s t u p.keeps x.keeps;
      limit = x.limit ∙ p.limit;
      builds = Builds-then (IsCofactorOf s.vars fs) (IsCofactorOf s.vars fs) s t u dt du x.keeps (λ h c. c) p.builds (Builds-weaker (IsCofactorOf t.vars fs) (IsCofactorOf s.vars fs) t u back x.builds);
      spent = λ o. IsSpent-weaker (IsCofactorOf t.vars fs) (IsCofactorOf s.vars fs) u back (x.spent o);
    }

-- ---- references

-- the constants
pub one_means : (s : Store) → IsGood s → Means s (λ _. true) (record { 0 = 1 })
one_means s d =
    let one : Ref = record { 0 = 1 } in
    record { ref = from_constant s.held 0 one (omega arith); value = λ bits l. walk-constant s.held s.vars 0 one bits d (omega arith) }

pub zero_means : (s : Store) → IsGood s → Means s (λ _. false) (record { 0 = 0 })
zero_means s d =
    let none : Ref = record { 0 = 0 } in
    record { ref = from_constant s.held 0 none (omega arith); value = λ bits l. walk-constant s.held s.vars 0 none bits d (omega arith) }

-- each reference has its own function
pub own : (s : Store) (r : Ref) → IsRef s r → Means s (function s r) r
own s r h = record { ref = h; value = λ bits l. refl }

-- a function with the same values
pub Means-same : (s : Store) (f g : Function) (r : Ref) → ((bits : List Bool) → length bits ≡ s.vars → f bits ≡ g bits) → Means s f r → Means s g r
Means-same s f g r same m = record { ref = m.ref; value = λ bits l. m.value bits l ∙ same bits l }

-- ---- too few steps

pairs_behind : (xs ys : List Ref) → AllPairs (λ a b. a ≢ b) (xs ++ ys) → AllPairs (λ a b. a ≢ b) ys
pairs_behind [] ys p = p
pairs_behind (x ∷ xs) ys p = pairs_behind xs ys (λ i j d l m. p (suc i) (suc j) d (omega arith) (omega arith))

held_member : (t : Store) (rs : List Ref) (r : Ref) → All (λ x. IsSome (t.held x)) rs → Contains rs r → IsSome (t.held r)
held_member t rs r held (k, lt, e) = subst (λ x. IsSome (t.held x)) e (held k _ lt)

-- where steps are out, fewer were left than the functions have nodes
pub too_few : (fs : List Function) (s t : Store) (out : Type 0) → IsGood t → AllPairs (λ a b. a ≢ b) t.made → All (λ r. IsSome (t.held r)) t.made
    → Spends fs s t out → out → IsShort fs s
too_few fs s t out dt apart held x o =
    let b = x.builds in
    let p = x.spent o in
    let vars : t.vars ≡ s.vars = x.keeps.vars in
    let node : (r : Ref) → Contains b.added r → IsNodeRef t fs r = λ r has. record {
      held = held_member t t.made r held (subst (λ (xs : List Ref). Contains xs r) (sym b.is) (Contains-append_right s.made b.added r has));
      cofactor = subst (λ v. IsCofactorOf v fs (function t r)) (sym vars) (b.each r has).1;
    } in
    let few : length b.added < node_count t.vars fs = count_missing t fs b.added p.needed dt node
    (pairs_behind s.made b.added (subst (λ (xs : List Ref). AllPairs (λ a b. a ≢ b) xs) b.is apart))
    (subst (λ v. IsCofactorOf v fs p.needed) (sym vars) p.passes) p.missing in
    let long : length t.made ≡ length s.made + length b.added = ap length b.is ∙ length-append s.made b.added in
    let count : node_count t.vars fs ≡ node_count s.vars fs = ap (λ v. node_count v fs) vars in
    let full = p.full in
    let limit = x.limit in
    omega (arith, few, long, count, full, limit)
