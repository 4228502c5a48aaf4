-- The diagram of a variable has one node.
use Rattle.std.proofs.Common.{◌≡◌, ℕ, zero, suc, ◌+◌, ◌*◌, ◌≤◌, ◌<◌, Bool, true, false, [], ◌∷◌, length, get_or, ◌⊎◌, inl, inr, ⊎_elim, refl, sym, ◌∙◌, ap, subst, arith, Contains}
use Rattle.std.specs.Prelude.{nat_lt}
use Rattle.std.specs.List.{filter}
use Rattle.std.specs.Set.{unique_keys}
use Rattle.std.proofs.lemmas.Bool.{ltb-true, cases_lt}
use Rattle.std.proofs.lemmas.Map.Made.{distinct_count-le}
use Rattle.dd_nodes.specs.declared.node.Ref.{Ref}
use Rattle.ste_base.specs.Functions.{Function}
use Rattle.dd_nodes.specs.Diagram.{IsFrom, child, same_ref}
use Rattle.dd_nodes.specs.Functions.{ReachesNode, node_refs, on_walks, diagram_size}
use Rattle.dd_nodes.specs.Stores.{Store, Means}
use Rattle.dd_nodes.proofs.Counts.{same_ref-tells}
use Rattle.dd_nodes.proofs.Members.{Contains-head, Contains-filter_of, Contains-unique_of, count_different, unique-apart}
use Rattle.dd_nodes.proofs.Sizes.{walks_all, from_var}
use Rattle.dd_nodes.proofs.Stores.{IsGood}
use Rattle.dd_nodes.proofs.Walks.{IsAt, at_or_above, child-above, child-constant, from_held}
use Rattle.dd_ops.specs.Splitting.{half}
use Rattle.dd_ops.proofs.Splits.{HasChildren, Splits-children}
use Rattle.dd_ops.proofs.Steps.{variable_splits}

abbrev zero_ref : Ref
zero_ref = record { 0 = 0 }

abbrev one_ref : Ref
one_ref = record { 0 = 1 }

half-constant : (b : Bool) → (half zero_ref one_ref b).0 < 2
half-constant true = omega arith
half-constant false = omega arith

-- where its children are the constants, a reference holds a node of that variable
at_variable : (s : Store) (v j : ℕ) (r : Ref) → IsGood s → HasChildren s v zero_ref one_ref r → IsAt s.held j r → j ≡ v
at_variable s v j r d c (n, at, is) = ⊎_elim
    (λ (lt : v < n.var).
    let same : (b : Bool) → half zero_ref one_ref b ≡ r = λ b. sym (c.each b) ∙ child-above s.held s.vars v b r d (from_held s.held (v + 1) r n at (omega arith)) in
    let one : 0 ≡ 1 = ap (λ (x : Ref). x.0) (same false ∙ sym (same true)) in
    absurd (omega arith))
    (λ (le : n.var ≤ v). let low : v ≤ n.var = from_var s.held s.vars v r n d c.from at in omega arith)
    (cases_lt v n.var)

next_by : (s : Store) (v j : ℕ) (b : Bool) (r : Ref) → IsGood s → HasChildren s v zero_ref one_ref r → (IsAt s.held j r) ⊎ (IsFrom s.held (j + 1) r)
    → (child s.held j b r ≡ r) ⊎ ((child s.held j b r).0 < 2)
next_by s v j b r d c (inl at) =
    let here : child s.held j b r ≡ half zero_ref one_ref b = ap (λ k. child s.held k b r) (at_variable s v j r d c at) ∙ c.each b in
    inr (subst (λ (x : Ref). x.0 < 2) (sym here) (half-constant b))
next_by s v j b r d c (inr above) = inl (child-above s.held s.vars j b r d above)

reaches_by : (s : Store) (v j : ℕ) (b : Bool) (r x : Ref) → IsGood s → HasChildren s v zero_ref one_ref r → IsFrom s.held j x → (x ≡ r) ⊎ (x.0 < 2)
    → (child s.held j b x ≡ r) ⊎ ((child s.held j b x).0 < 2)
reaches_by s v j b r x d c f (inl same) = subst (λ y. (child s.held j b y ≡ r) ⊎ ((child s.held j b y).0 < 2)) (sym same)
    (next_by s v j b r d c (at_or_above s.held j r (subst (λ y. IsFrom s.held j y) same f)))
reaches_by s v j b r x d c f (inr lt) = inr (subst (λ (y : Ref). y.0 < 2) (sym (child-constant s.held s.vars j b x d lt)) lt)

one_member : (r x : Ref) → (x ≡ r) ⊎ (x.0 < 2) → 1 < x.0 → Contains (r ∷ []) x
one_member r x (inl same) lt = subst (λ y. Contains (r ∷ []) y) (sym same) (Contains-head r [])
one_member r x (inr c) lt = absurd (omega arith)

pub size-variable : (s : Store) (v : ℕ) (r : Ref) → IsGood s → v < s.vars → Means s (λ bits. get_or bits v false) r → diagram_size s r ≤ 1
size-variable s v r d lt m =
    let f : Function = λ bits. get_or bits v false in
    let c : HasChildren s v zero_ref one_ref r = Splits-children s v zero_ref one_ref r f d (variable_splits s v d lt) m in
    let all : (x : Ref) → ReachesNode s r x → (x ≡ r) ⊎ (x.0 < 2) =
    walks_all s.held s.vars s.vars 0 r (λ x. (x ≡ r) ⊎ (x.0 < 2)) d (omega arith) m.ref (inl refl) (λ j b x inside from p. reaches_by s v j b r x d c from p) in
    let few : diagram_size s r ≤ length (unique_keys same_ref (r ∷ [])) = count_different same_ref-tells (node_refs s r) (r ∷ [])
    (unique-apart same_ref-tells (filter (λ x. nat_lt 1 x.0) (on_walks s.held 0 s.vars r)))
    (λ x has.
    let (walked, pass) = Contains-filter_of (λ y. nat_lt 1 y.0) (on_walks s.held 0 s.vars r) x (Contains-unique_of same_ref (filter (λ y. nat_lt 1 y.0) (on_walks s.held 0 s.vars r)) x has) in
    one_member r x (all x walked) (ltb-true 1 x.0 pass)) in
    let one : length (unique_keys same_ref (r ∷ [])) ≤ 1 = distinct_count-le same_ref (r ∷ []) in
    omega arith

at_most_nine : (a b : ℕ) → a ≤ 1 → b ≤ 1 → (a + 2) * (b + 2) ≤ 9
at_most_nine zero zero le le' = omega arith
at_most_nine zero (suc zero) le le' = omega arith
at_most_nine (suc zero) zero le le' = omega arith
at_most_nine (suc zero) (suc zero) le le' = omega arith
at_most_nine (suc (suc a)) b le le' = absurd (omega arith)
at_most_nine zero (suc (suc b)) le le' = absurd (omega arith)
at_most_nine (suc zero) (suc (suc b)) le le' = absurd (omega arith)

pub nine : (a b before after : ℕ) → a ≤ 1 → b ≤ 1 → after ≤ before + (a + 2) * (b + 2) → after ≤ before + 9
nine a b before after le le' bound = let few = at_most_nine a b le le' in omega arith
