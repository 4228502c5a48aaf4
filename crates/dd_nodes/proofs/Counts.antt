-- References with different functions are no more than the nodes of these functions.
use Rattle.std.proofs.Common.{◌≡◌, ◌≢◌, ℕ, zero, suc, ◌≤◌, ◌<◌, Bool, true, false, not, ◌||◌, List, [], ◌∷◌, ◌++◌, length, map, drop, get_or, ⊎_elim, refl, sym, ◌∙◌, ap, subst, arith, Contains, Decides, Some, None, eq-eqb, eqb-true}
use Rattle.std.specs.Prelude.{◌==◌, IsSome, Option}
use Rattle.std.specs.Bool.{beq}
use Rattle.std.specs.List.{AllPairs, filter}
use Rattle.std.proofs.lemmas.Option.{none-some}
use Rattle.std.proofs.lemmas.List.{length-append, length-map}
use Rattle.std.proofs.lemmas.List.Elements.{Contains-append_left, Contains-append_right, Contains-get_or}
use Rattle.std.proofs.lemmas.List.Kept.{AllPairs-cons}
use Rattle.std.proofs.lemmas.Slice.Eq.{slice_eq-Decides}
use Rattle.dd_nodes.specs.declared.node.Ref.{Ref}
use Rattle.dd_nodes.specs.declared.node.Node.{Node}
use Rattle.ste_base.specs.Functions.{Function}
use Rattle.dd_nodes.specs.Diagram.{IsCofactor, same_ref}
use Rattle.dd_nodes.specs.Stores.{Store, function, IsRef, Means}
use Rattle.dd_nodes.specs.Functions.{bits_of, prefixes, cofactor, same_bits, cofactors, is_constant, node_count, IsCofactorOf, IsNodeRef}
use Rattle.dd_nodes.proofs.Walks.{canonical, from_constant, from_held, same_numbers, walk-constant}
use Rattle.dd_nodes.proofs.Stores.{IsGood}
use Rattle.dd_nodes.proofs.Members.{Contains-head, Contains-tail, Contains-cons_cases, Contains-none, Contains-map, Contains-map_of, Contains-filter, count_different}

-- ---- tests of equality

beq-Decides : (a b : Bool) → Decides (beq a b) (a ≡ b)
beq-Decides true true = (λ e. refl, λ e. refl)
beq-Decides true false = (λ e. absurd (let f : false ≡ true = e in cc), λ e. absurd (let f : true ≡ false = e in cc))
beq-Decides false true = (λ e. absurd (let f : false ≡ true = e in cc), λ e. absurd (let f : false ≡ true = e in cc))
beq-Decides false false = (λ e. refl, λ e. refl)

pub same_bits-tells : (a b : List Bool) → Decides (same_bits a b) (a ≡ b)
same_bits-tells a b = slice_eq-Decides beq-Decides a b (same_bits a b) refl

pub same_ref-tells : (a b : Ref) → Decides (same_ref a b) (a ≡ b)
same_ref-tells a b = (λ e. same_numbers a b (eqb-true a.0 b.0 e), λ e. eq-eqb a.0 b.0 (ap (λ (r : Ref). r.0) e))

-- ---- the bits of a function

length-bits : (v : ℕ) (f g : Function) → length (bits_of v f) ≡ length (bits_of v g)
length-bits zero f g = refl
length-bits (suc v) f g =
    let low = length-bits v (λ bits. f (false ∷ bits)) (λ bits. g (false ∷ bits)) in
    let high = length-bits v (λ bits. f (true ∷ bits)) (λ bits. g (true ∷ bits)) in
    simp (length-append) (omega arith)

pub bits-same : (v : ℕ) (f g : Function) → ((bits : List Bool) → length bits ≡ v → f bits ≡ g bits) → bits_of v f ≡ bits_of v g
bits-same zero f g same = ap (λ b. b ∷ []) (same [] refl)
bits-same (suc v) f g same =
    ap (λ t. t ++ bits_of v (λ bits. f (true ∷ bits))) (bits-same v (λ bits. f (false ∷ bits)) (λ bits. g (false ∷ bits)) (λ bits l. same (false ∷ bits) (ap suc l)))
    ∙ ap (λ t. bits_of v (λ bits. g (false ∷ bits)) ++ t) (bits-same v (λ bits. f (true ∷ bits)) (λ bits. g (true ∷ bits)) (λ bits l. same (true ∷ bits) (ap suc l)))

parts : (a b c d : List Bool) → length a ≡ length c → a ++ b ≡ c ++ d → (a ≡ c) × (b ≡ d)
parts [] b [] d l e = (refl, e)
parts [] b (y ∷ c) d l e = absurd (omega arith)
parts (x ∷ a) b [] d l e = absurd (omega arith)
parts (x ∷ a) b (y ∷ c) d l e =
    let head : x ≡ y = cc in
    let tail : a ++ b ≡ c ++ d = cc in
    let p = parts a b c d (omega arith) tail in (cc, p.1)

pub bits-values : (v : ℕ) (f g : Function) → bits_of v f ≡ bits_of v g → (bits : List Bool) → length bits ≡ v → f bits ≡ g bits
bits-values zero f g e [] l = cc
bits-values zero f g e (b ∷ bits) l = absurd (omega arith)
bits-values (suc v) f g e [] l = absurd (omega arith)
bits-values (suc v) f g e (b ∷ bits) l =
    let p = parts (bits_of v (λ x. f (false ∷ x))) (bits_of v (λ x. f (true ∷ x))) (bits_of v (λ x. g (false ∷ x))) (bits_of v (λ x. g (true ∷ x)))
    (length-bits v (λ x. f (false ∷ x)) (λ x. g (false ∷ x))) e in
    elim b as (λ c. f (c ∷ bits) ≡ g (c ∷ bits)) [
      | true ↦ bits-values v (λ x. f (true ∷ x)) (λ x. g (true ∷ x)) p.1 bits (omega arith)
      | false ↦ bits-values v (λ x. f (false ∷ x)) (λ x. g (false ∷ x)) p.0 bits (omega arith)
    ]

-- ---- cofactors

in_prefixes : (v : ℕ) (p : List Bool) → length p ≤ v → Contains (prefixes v) p
in_prefixes zero [] le = Contains-head [] []
in_prefixes zero (b ∷ p) le = absurd (omega arith)
in_prefixes (suc v) [] le = Contains-head [] (map (λ p. false ∷ p) (prefixes v) ++ map (λ p. true ∷ p) (prefixes v))
in_prefixes (suc v) (false ∷ p) le =
    Contains-tail [] (map (λ p. false ∷ p) (prefixes v) ++ map (λ p. true ∷ p) (prefixes v)) (false ∷ p)
    (Contains-append_left (map (λ p. false ∷ p) (prefixes v)) (map (λ p. true ∷ p) (prefixes v)) (false ∷ p)
    (Contains-map (λ p. false ∷ p) (prefixes v) p (in_prefixes v p (omega arith))))
in_prefixes (suc v) (true ∷ p) le =
    Contains-tail [] (map (λ p. false ∷ p) (prefixes v) ++ map (λ p. true ∷ p) (prefixes v)) (true ∷ p)
    (Contains-append_right (map (λ p. false ∷ p) (prefixes v)) (map (λ p. true ∷ p) (prefixes v)) (true ∷ p)
    (Contains-map (λ p. true ∷ p) (prefixes v) p (in_prefixes v p (omega arith))))

-- the bits of a cofactor are among the cofactors
in_cofactors : (v : ℕ) (fs : List Function) (f g : Function) → Contains fs f → IsCofactor v f g → Contains (cofactors v fs) (bits_of v g)
in_cofactors v [] f g has c = absurd (Contains-none f has)
in_cofactors v (h ∷ fs) f g has (p, le, eq) = ⊎_elim
    (λ (e : h ≡ f).
    let image : List (List Bool) = map (λ q. bits_of v (cofactor q h)) (prefixes v) in
    let same : bits_of v (cofactor p h) ≡ bits_of v g = bits-same v (cofactor p h) g (λ bits l. ap (λ (z : Function). z (p ++ drop (length p) bits)) e ∙ sym (eq bits l)) in
    Contains-append_left image (cofactors v fs) (bits_of v g)
    (subst (λ t. Contains image t) same (Contains-map (λ q. bits_of v (cofactor q h)) (prefixes v) p (in_prefixes v p le))))
    (λ (later : Contains fs f). Contains-append_right (map (λ q. bits_of v (cofactor q h)) (prefixes v)) (cofactors v fs) (bits_of v g) (in_cofactors v fs f g later (p, le, eq)))
    (Contains-cons_cases h fs f has)

-- a function that is constant nowhere
neither : (v : ℕ) (bits : List Bool) (x y : Bool) → same_bits bits (bits_of v (λ _. false)) ≡ x → same_bits bits (bits_of v (λ _. true)) ≡ y
    → bits ≢ bits_of v (λ _. false) → bits ≢ bits_of v (λ _. true) → not (x || y) ≡ true
neither v bits true y e e' ne ne' = absurd (ne ((same_bits-tells bits (bits_of v (λ _. false))).0 e))
neither v bits false true e e' ne ne' = absurd (ne' ((same_bits-tells bits (bits_of v (λ _. true))).0 e'))
neither v bits false false e e' ne ne' = refl

abbrev kept : ℕ → List Function → List (List Bool)
kept v fs = filter (λ bits. not (is_constant v bits)) (cofactors v fs)

in_kept : (v : ℕ) (fs : List Function) (g : Function) → IsCofactorOf v fs g → bits_of v g ≢ bits_of v (λ _. false) → bits_of v g ≢ bits_of v (λ _. true) → Contains (kept v fs) (bits_of v g)
in_kept v fs g (f, has, c) ne ne' =
    Contains-filter (λ bits. not (is_constant v bits)) (cofactors v fs) (bits_of v g) (in_cofactors v fs f g has c)
    (neither v (bits_of v g) _ _ refl refl ne ne')

-- ---- references

abbrev image : Store → Ref → List Bool
image s r = bits_of s.vars (function s r)

held_node_by : (o : Option Node) → IsSome o → (n : Node) × (o ≡ Some n)
held_node_by None h = absurd (let f : false ≡ true = h in cc)
held_node_by (Some n) h = (n, refl)

pub held_node : (s : Store) (r : Ref) → IsSome (s.held r) → (n : Node) × (s.held r ≡ Some n)
held_node s r h = held_node_by (s.held r) h

pub held_ref : (s : Store) (r : Ref) → IsSome (s.held r) → IsRef s r
held_ref s r h = let (n, at) = held_node s r h in from_held s.held 0 r n at (omega arith)

image-one : (s : Store) (r q : Ref) → IsGood s → IsRef s r → IsRef s q → image s r ≡ image s q → r ≡ q
image-one s r q d f g e = canonical s.held s.vars r q d f g (bits-values s.vars (function s r) (function s q) e)

-- a constant has constant bits
constant_bits : (s : Store) (c : Ref) → IsGood s → c.0 < 2 → bits_of s.vars (λ _. c.0 == 1) ≡ image s c
constant_bits s c d lt = bits-same s.vars (λ _. c.0 == 1) (function s c) (λ bits l. sym (walk-constant s.held s.vars 0 c bits d lt))

not_constant : (s : Store) (r c : Ref) → IsGood s → IsSome (s.held r) → c.0 < 2 → image s r ≢ bits_of s.vars (λ _. c.0 == 1)
not_constant s r c d h lt e =
    let (n, at) = held_node s r h in
    let one : r ≡ c = image-one s r c d (held_ref s r h) (from_constant s.held 0 c lt) (e ∙ constant_bits s c d lt) in
    none-some n (sym (d.constants c lt) ∙ ap s.held (sym one) ∙ at)

in_nodes : (s : Store) (fs : List Function) (r : Ref) → IsGood s → IsNodeRef s fs r → Contains (kept s.vars fs) (image s r)
in_nodes s fs r d n = in_kept s.vars fs (function s r) n.cofactor
    (not_constant s r (record { 0 = 0 }) d n.held (omega arith)) (not_constant s r (record { 0 = 1 }) d n.held (omega arith))

all_tail : {X : Type 0} (R : X → X → Type 0) (x : X) (xs : List X) → AllPairs R (x ∷ xs) → AllPairs R xs
all_tail R x xs h i j d lt inside = h (suc i) (suc j) d (omega arith) (omega arith)

apart_from_head : (r : Ref) (rs : List Ref) (q : Ref) → AllPairs (λ a b. a ≢ b) (r ∷ rs) → Contains rs q → r ≢ q
apart_from_head r rs q h (k, lt, at) e = h zero (suc k) q (omega arith) (omega arith) (e ∙ sym at)

-- different references have different images
images_apart : (s : Store) (rs : List Ref) → IsGood s → ((r : Ref) → Contains rs r → IsRef s r) → AllPairs (λ a b. a ≢ b) rs → AllPairs (λ a b. a ≢ b) (map (image s) rs)
images_apart s [] d refs h = λ i j e lt inside. absurd (omega arith)
images_apart s (r ∷ rs) d refs h = AllPairs-cons (λ a b. a ≢ b) (image s r) (map (image s) rs)
    (λ k e lt same.
    let (q, has, is) = Contains-map_of (image s) rs (get_or (map (image s) rs) k e) (Contains-get_or (map (image s) rs) k e lt) in
    apart_from_head r rs q h has (image-one s r q d (refs r (Contains-head r rs)) (refs q (Contains-tail r rs q has)) (same ∙ sym is)))
    (images_apart s rs d (λ q has. refs q (Contains-tail r rs q has)) (all_tail (λ a b. a ≢ b) r rs h))

images_in : (s : Store) (fs : List Function) (rs : List Ref) → IsGood s → ((r : Ref) → Contains rs r → IsNodeRef s fs r) → (t : List Bool) → Contains (map (image s) rs) t → Contains (kept s.vars fs) t
images_in s fs rs d each t has = let (r, at, is) = Contains-map_of (image s) rs t has in subst (λ x. Contains (kept s.vars fs) x) is (in_nodes s fs r d (each r at))

-- different references whose functions are nodes of fs are no more than these nodes
pub count_nodes : (s : Store) (fs : List Function) (rs : List Ref) → IsGood s → ((r : Ref) → Contains rs r → IsNodeRef s fs r) → AllPairs (λ a b. a ≢ b) rs
    → length rs ≤ node_count s.vars fs
count_nodes s fs rs d each apart =
    let n : length (map (image s) rs) ≡ length rs = length-map rs (image s) in
    let le : length (map (image s) rs) ≤ node_count s.vars fs = count_different same_bits-tells (map (image s) rs) (kept s.vars fs)
    (images_apart s rs d (λ r has. held_ref s r (each r has).held) apart) (images_in s fs rs d each) in
    omega arith

missing_constant : (s : Store) (g : Function) (c : Ref) → IsGood s → c.0 < 2 → ((r : Ref) → Means s g r → ⊥) → bits_of s.vars g ≢ bits_of s.vars (λ _. c.0 == 1)
missing_constant s g c d lt missing e = missing c (record {
  ref = from_constant s.held 0 c lt;
  value = λ bits l. walk-constant s.held s.vars 0 c bits d lt ∙ sym (bits-values s.vars g (λ _. c.0 == 1) e bits l);
})

-- and where some cofactor of fs has no reference, held or constant, they are fewer
pub count_missing : (s : Store) (fs : List Function) (rs : List Ref) (g : Function) → IsGood s → ((r : Ref) → Contains rs r → IsNodeRef s fs r) → AllPairs (λ a b. a ≢ b) rs
    → IsCofactorOf s.vars fs g → ((r : Ref) → Means s g r → ⊥) → length rs < node_count s.vars fs
count_missing s fs rs g d each apart c missing =
    let n : length (map (image s) rs) ≡ length rs = length-map rs (image s) in
    let v : ℕ = s.vars in
    let new : Contains (kept v fs) (bits_of v g) = in_kept v fs g c (missing_constant s g (record { 0 = 0 }) d (omega arith) missing) (missing_constant s g (record { 0 = 1 }) d (omega arith) missing) in
    let le : length (bits_of v g ∷ map (image s) rs) ≤ node_count v fs = count_different same_bits-tells (bits_of v g ∷ map (image s) rs) (kept v fs)
    (AllPairs-cons (λ a b. a ≢ b) (bits_of v g) (map (image s) rs)
    (λ k e lt same.
    let (r, has, is) = Contains-map_of (image s) rs (get_or (map (image s) rs) k e) (Contains-get_or (map (image s) rs) k e lt) in
    missing r (record { ref = held_ref s r (each r has).held; value = λ bits l. sym (bits-values v g (function s r) (same ∙ sym is) bits l) }))
    (images_apart s rs d (λ r has. held_ref s r (each r has).held) apart))
    (λ t has. ⊎_elim
    (λ (e : bits_of v g ≡ t). subst (λ x. Contains (kept v fs) x) e new)
    (λ (later : Contains (map (image s) rs) t). images_in s fs rs d each t later)
    (Contains-cons_cases (bits_of v g) (map (image s) rs) t has)) in
    omega arith
