-- The cubes of a set that depends on the first variables alone, over more variables.
use Rattle.std.proofs.Common.{◌≡◌, ℕ, zero, suc, ◌+◌, ◌-◌, ◌≤◌, Bool, true, false, not, List, [], ◌∷◌, ◌++◌, take, length, arith, refl, sym, ◌∙◌, ap, subst, replicate}
use Rattle.std.specs.Prelude.{IsTrue, ◌↔◌, ◌&&◌, if◌then◌else◌}
use Rattle.std.proofs.Math.Seq.{take-append_seam}
use Rattle.std.proofs.lemmas.List.{length-append, length-replicate, length-take}
use Rattle.ste_base.specs.Functions.{Function}
use Rattle.ste_base.specs.declared.id.VarId.{VarId}
use Rattle.ste_model.specs.declared.cubes.CubeList.{CubeList}
use Rattle.ste_model.specs.Assignments.{Tells}
use Rattle.ste_model.specs.Cubes.{are_same_sets, cube_list, cubes_from, first_cofactor, first_cubes, with_literal}
use Rattle.ste_model.specs.Report.{AreCubes}

-- a sum that computes at its first part
abbrev plus : ℕ → ℕ → ℕ
plus zero m = m
plus (suc n) m = suc (plus n m)

plus_is : (n m : ℕ) → plus n m ≡ n + m
plus_is zero m = omega arith
plus_is (suc n) m = let e = plus_is n m in omega (arith, e)

-- the set with 0 at so many further variables
abbrev pub cut_to : ℕ → Function → Function
cut_to more set bits = set (bits ++ replicate more false)

-- the set depends on the first n of n and more variables
abbrev pub IsOfFront : ℕ → ℕ → Function → Type 0
IsOfFront n more set = (bits : List Bool) → length bits ≡ plus n more → set bits ≡ cut_to more set (take n bits)

-- ---- one variable less

of_cofactor : (n more : ℕ) (set : Function) (b : Bool) → IsOfFront (suc n) more set → IsOfFront n more (first_cofactor b set)
of_cofactor n more set b front bits long = front (b ∷ bits) (ap suc long)

-- ---- no variable

constant_sets : (more : ℕ) (one other : Function) (a b : Bool) → ((bits : List Bool) → length bits ≡ more → one bits ≡ a) → ((bits : List Bool) → length bits ≡ more → other bits ≡ b) → are_same_sets more one other ≡ (if a then b else not b)
constant_sets zero one other a b f g = ap (λ (x : Bool). if x then other [] else not (other [])) (f [] refl) ∙ ap (λ (y : Bool). if a then y else not y) (g [] refl)
constant_sets (suc more) one other a b f g =
    ap (λ (x : Bool). x && are_same_sets more (first_cofactor true one) (first_cofactor true other)) (constant_sets more (first_cofactor false one) (first_cofactor false other) a b (λ bits l. f (false ∷ bits) (omega (arith, l))) (λ bits l. g (false ∷ bits) (omega (arith, l))))
    ∙ ap (λ (x : Bool). (if a then b else not b) && x) (constant_sets more (first_cofactor true one) (first_cofactor true other) a b (λ bits l. f (true ∷ bits) (omega (arith, l))) (λ bits l. g (true ∷ bits) (omega (arith, l))))
    ∙ twice (if a then b else not b)
  where
    twice : (c : Bool) → (c && c) ≡ c
    twice true = refl
    twice false = refl

same_constant : (a : Bool) → (if a then a else not a) ≡ true
same_constant true = refl
same_constant false = refl

constant_cubes : (var more : ℕ) (set : Function) (a : Bool) → ((bits : List Bool) → length bits ≡ more → set bits ≡ a) → cubes_from var more set ≡ (if a then [] ∷ [] else [])
constant_cubes var zero set a f = ap (λ (x : Bool). if x then [] ∷ [] else []) (f [] refl)
constant_cubes var (suc more) set a f =
    ap (λ (x : Bool). if x then cubes_from (suc var) more (first_cofactor false set) else with_literal var false (cubes_from (suc var) more (first_cofactor false set)) ++ with_literal var true (cubes_from (suc var) more (first_cofactor true set)))
    (constant_sets more (first_cofactor false set) (first_cofactor true set) a a (λ bits l. f (false ∷ bits) (omega (arith, l))) (λ bits l. f (true ∷ bits) (omega (arith, l))) ∙ same_constant a)
    ∙ constant_cubes (suc var) more (first_cofactor false set) a (λ bits l. f (false ∷ bits) (omega (arith, l)))

-- ---- all variables

same_sets_cut : (n more : ℕ) (one other : Function) → IsOfFront n more one → IsOfFront n more other → are_same_sets (plus n more) one other ≡ are_same_sets n (cut_to more one) (cut_to more other)
same_sets_cut zero more one other f g = constant_sets more one other (cut_to more one []) (cut_to more other []) f g
same_sets_cut (suc n) more one other f g =
    ap (λ (x : Bool). x && are_same_sets (plus n more) (first_cofactor true one) (first_cofactor true other)) (same_sets_cut n more (first_cofactor false one) (first_cofactor false other) (of_cofactor n more one false f) (of_cofactor n more other false g))
    ∙ ap (λ (x : Bool). are_same_sets n (first_cofactor false (cut_to more one)) (first_cofactor false (cut_to more other)) && x) (same_sets_cut n more (first_cofactor true one) (first_cofactor true other) (of_cofactor n more one true f) (of_cofactor n more other true g))

cubes_cut : (var n more : ℕ) (set : Function) → IsOfFront n more set → cubes_from var (plus n more) set ≡ cubes_from var n (cut_to more set)
cubes_cut var zero more set f = constant_cubes var more set (cut_to more set []) f
cubes_cut var (suc n) more set f =
    let low = cubes_cut (suc var) n more (first_cofactor false set) (of_cofactor n more set false f) in
    let high = cubes_cut (suc var) n more (first_cofactor true set) (of_cofactor n more set true f) in
    let same = same_sets_cut n more (first_cofactor false set) (first_cofactor true set) (of_cofactor n more set false f) (of_cofactor n more set true f) in
    λ i. if same i then low i else with_literal var false (low i) ++ with_literal var true (high i)

-- ---- a list of cubes

tells_front : (n more : ℕ) (set : Function) (P : List Bool → Type 0) → ((bits : List Bool) → length bits ≡ plus n more → IsTrue (set bits) ↔ P (take n bits)) → Tells n (cut_to more set) P
tells_front n more set P tells bits long =
    let zeros : List Bool = replicate more false in
    let a = length-append bits zeros in
    let c = plus_is n more in
    let b : length zeros ≡ more = length-replicate more false in
    let front : take n (bits ++ zeros) ≡ bits = ap (λ (k : ℕ). take k (bits ++ zeros)) (sym long) ∙ take-append_seam bits zeros in
    subst (λ (xs : List Bool). IsTrue (set (bits ++ zeros)) ↔ P xs) front (tells (bits ++ zeros) (omega (arith, a, b, c, long)))

pub same_bit : (a b : Bool) (A : Type 0) → IsTrue a ↔ A → IsTrue b ↔ A → a ≡ b
same_bit true true A f g = refl
same_bit false false A f g = refl
same_bit true false A f g = absurd (cc (g.1 (f.0 refl)))
same_bit false true A f g = absurd (cc (f.1 (g.0 refl)))

of_front : (n more : ℕ) (set : Function) (P : List Bool → Type 0) → ((bits : List Bool) → length bits ≡ plus n more → IsTrue (set bits) ↔ P (take n bits)) → IsOfFront n more set
of_front n more set P tells bits long =
    same_bit (set bits) (cut_to more set (take n bits)) (P (take n bits)) (tells bits long)
    (tells_front n more set P tells (take n bits) (let c = plus_is n more in simp (length-take) (omega (arith, c, long))))

-- the cubes over all variables of what the first ones tell are its cubes over these
pub are_cubes : (max n total : ℕ) (set : Function) (P : List Bool → Type 0) (list : CubeList) → n ≤ total → ((bits : List Bool) → length bits ≡ total → IsTrue (set bits) ↔ P (take n bits)) → list ≡ cube_list max total set → AreCubes max n P list
are_cubes max n total set P list room tells is =
    let more : ℕ = total - n in
    let split : total ≡ plus n more = let c = plus_is n more in omega (arith, c, room) in
    let told : (bits : List Bool) → length bits ≡ plus n more → IsTrue (set bits) ↔ P (take n bits) = λ bits l. tells bits (l ∙ sym split) in
    (cut_to more set, tells_front n more set P told, is ∙ ap (λ (k : ℕ). cube_list max k set) split ∙ ap (λ (cubes : List (List (VarId × Bool))). first_cubes max cubes) (cubes_cut 0 n more set (of_front n more set P told)))
