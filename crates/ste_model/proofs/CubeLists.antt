-- The cases of a list of cubes, and that an assignment of the set is in exactly one cube.
use Rattle.std.proofs.Common.{◌≡◌, ℕ, zero, suc, ◌+◌, Bool, true, false, not, List, [], ◌∷◌, ◌++◌, length, get_or, arith, sym, ap, refl, ◌∙◌, subst}
use Rattle.std.specs.Prelude.{◌&&◌, if◌then◌else◌, count_by}
use Rattle.std.proofs.lemmas.Bool.{and_parts, and_from}
use Rattle.std.proofs.lemmas.List.{length-append, append_assoc}
use Rattle.std.proofs.lemmas.List.Sums.{sum_by-append, sum_by-cons}
use Rattle.std.proofs.Math.Seq.{get_or-append_seam}
use Rattle.ste_base.specs.declared.id.VarId.{VarId}
use Rattle.ste_model.specs.Assignments.{EachAssignment}
use Rattle.ste_base.specs.Functions.{Function}
use Rattle.ste_model.specs.Cubes.{AreOneSet, first_cofactor, are_same_sets, with_literal, cubes_from, satisfies, is_in_cube, CubesFollowCases, CubesAreExact}

agree : (a b : Bool) → (if a then b else not b) ≡ true → a ≡ b
agree false false e = refl
agree false true e = cc
agree true false e = cc
agree true true e = refl

agrees : (a b : Bool) → a ≡ b → (if a then b else not b) ≡ true
agrees false false e = refl
agrees false true e = cc
agrees true false e = cc
agrees true true e = refl

-- sets that are called the same have the same assignments
pub same_sets : (n : ℕ) (one other : Function) → are_same_sets n one other ≡ true → AreOneSet n one other
same_sets zero one other e [] l = agree (one []) (other []) e
same_sets zero one other e (b ∷ bits) l = absurd (omega arith)
same_sets (suc n) one other e [] l = absurd (omega arith)
same_sets (suc n) one other e (false ∷ bits) l =
    same_sets n (first_cofactor false one) (first_cofactor false other) (and_parts (are_same_sets n (first_cofactor false one) (first_cofactor false other)) _ e).0 bits (omega arith)
same_sets (suc n) one other e (true ∷ bits) l =
    same_sets n (first_cofactor true one) (first_cofactor true other) (and_parts (are_same_sets n (first_cofactor false one) (first_cofactor false other)) _ e).1 bits (omega arith)

-- and the other way round
pub sets_same : (n : ℕ) (one other : Function) → AreOneSet n one other → are_same_sets n one other ≡ true
sets_same zero one other same = agrees (one []) (other []) (same [] refl)
sets_same (suc n) one other same =
    and_from (are_same_sets n (first_cofactor false one) (first_cofactor false other)) _
    (sets_same n (first_cofactor false one) (first_cofactor false other) (λ bits l. same (false ∷ bits) (ap suc l)))
    (sets_same n (first_cofactor true one) (first_cofactor true other) (λ bits l. same (true ∷ bits) (ap suc l)))

no_case : {A : Type 0} (b : Bool) (one other : A) → ¬ (b ≡ true) → (if b then one else other) ≡ other
no_case false one other ne = refl
no_case true one other ne = absurd (ne refl)

-- the case of two cofactors that are the same
pub from_same : (var n : ℕ) (set : Function) → AreOneSet n (first_cofactor false set) (first_cofactor true set) → cubes_from var (suc n) set ≡ cubes_from (suc var) n (first_cofactor false set)
from_same var n set same = rw (sets_same n (first_cofactor false set) (first_cofactor true set) same)

-- the case of two that differ
pub from_differ : (var n : ℕ) (set : Function) → ¬ AreOneSet n (first_cofactor false set) (first_cofactor true set) → cubes_from var (suc n) set ≡ with_literal var false (cubes_from (suc var) n (first_cofactor false set)) ++ with_literal var true (cubes_from (suc var) n (first_cofactor true set))
from_differ var n set differ = no_case (are_same_sets n (first_cofactor false set) (first_cofactor true set)) _ _ (λ e. differ (same_sets n (first_cofactor false set) (first_cofactor true set) e))

pub from_empty : (var n : ℕ) (set : Function) → EachAssignment n (λ bits. set bits ≡ false) → cubes_from var n set ≡ []
from_empty var zero set none = rw (none [] refl)
from_empty var (suc n) set none =
    from_same var n set (λ rest l. none (false ∷ rest) (ap suc l) ∙ sym (none (true ∷ rest) (ap suc l)))
    ∙ from_empty (suc var) n (first_cofactor false set) (λ rest l. none (false ∷ rest) (ap suc l))

pub from_full : (var n : ℕ) (set : Function) → EachAssignment n (λ bits. set bits ≡ true) → cubes_from var n set ≡ [] ∷ []
from_full var zero set all = rw (all [] refl)
from_full var (suc n) set all =
    from_same var n set (λ rest l. all (false ∷ rest) (ap suc l) ∙ sym (all (true ∷ rest) (ap suc l)))
    ∙ from_full (suc var) n (first_cofactor false set) (λ rest l. all (false ∷ rest) (ap suc l))

pub cubes_follow_cases : CubesFollowCases
cubes_follow_cases = record { empty = from_empty; full = from_full; same = from_same; differ = from_differ }

-- the cubes of two sets with the same assignments
pub cubes_alike : (var n : ℕ) (one other : Function) → AreOneSet n one other → cubes_from var n one ≡ cubes_from var n other
cubes_alike var zero one other same = rw (same [] refl)
cubes_alike var (suc n) one other same =
    let low = cubes_alike (suc var) n (first_cofactor false one) (first_cofactor false other) (λ rest l. same (false ∷ rest) (ap suc l)) in
    let high = cubes_alike (suc var) n (first_cofactor true one) (first_cofactor true other) (λ rest l. same (true ∷ rest) (ap suc l)) in
    by (are_same_sets n (first_cofactor false one) (first_cofactor true one)) refl low high
  where
    by : (b : Bool) → are_same_sets n (first_cofactor false one) (first_cofactor true one) ≡ b
        → cubes_from (suc var) n (first_cofactor false one) ≡ cubes_from (suc var) n (first_cofactor false other)
        → cubes_from (suc var) n (first_cofactor true one) ≡ cubes_from (suc var) n (first_cofactor true other)
        → cubes_from var (suc n) one ≡ cubes_from var (suc n) other
    by true e low high =
        let together = same_sets n (first_cofactor false one) (first_cofactor true one) e in
        from_same var n one together ∙ low
        ∙ sym (from_same var n other (λ rest l. sym (same (false ∷ rest) (ap suc l)) ∙ together rest l ∙ same (true ∷ rest) (ap suc l)))
    by false e low high =
        let apart : ¬ AreOneSet n (first_cofactor false one) (first_cofactor true one) = λ t. cc (sets_same n (first_cofactor false one) (first_cofactor true one) t) in
        from_differ var n one apart
        ∙ ap (λ cubes. with_literal var false cubes ++ with_literal var true (cubes_from (suc var) n (first_cofactor true one))) low
        ∙ ap (λ cubes. with_literal var false (cubes_from (suc var) n (first_cofactor false other)) ++ with_literal var true cubes) high
        ∙ sym (from_differ var n other (λ t. apart (λ rest l. same (false ∷ rest) (ap suc l) ∙ t rest l ∙ sym (same (true ∷ rest) (ap suc l)))))

counted_cons : (bits : List Bool) (cube : List (VarId × Bool)) (cubes : List (List (VarId × Bool))) → count_by (is_in_cube bits) (cube ∷ cubes) ≡ (if is_in_cube bits cube then 1 else 0) + count_by (is_in_cube bits) cubes
counted_cons bits cube cubes = sum_by-cons (λ c. if is_in_cube bits c then 1 else 0) cube cubes

-- a literal that the assignment has changes nothing
counted : (bits : List Bool) (var : ℕ) (bit : Bool) (cubes : List (List (VarId × Bool))) → satisfies bits (record { 0 = var }, bit) ≡ true → count_by (is_in_cube bits) (with_literal var bit cubes) ≡ count_by (is_in_cube bits) cubes
counted bits var bit [] e = refl
counted bits var bit (cube ∷ cubes) e =
    let first = counted_cons bits ((record { 0 = var }, bit) ∷ cube) (with_literal var bit cubes) in
    let second = counted_cons bits cube cubes in
    let here : is_in_cube bits ((record { 0 = var }, bit) ∷ cube) ≡ is_in_cube bits cube = ap (λ (b : Bool). b && is_in_cube bits cube) e in
    first ∙ ap (λ (b : Bool). (if b then 1 else 0) + count_by (is_in_cube bits) (with_literal var bit cubes)) here
    ∙ ap (λ (n : ℕ). (if is_in_cube bits cube then 1 else 0) + n) (counted bits var bit cubes e) ∙ sym second

-- one that it has not leaves no cube
uncounted : (bits : List Bool) (var : ℕ) (bit : Bool) (cubes : List (List (VarId × Bool))) → satisfies bits (record { 0 = var }, bit) ≡ false → count_by (is_in_cube bits) (with_literal var bit cubes) ≡ 0
uncounted bits var bit [] e = refl
uncounted bits var bit (cube ∷ cubes) e =
    let first = counted_cons bits ((record { 0 = var }, bit) ∷ cube) (with_literal var bit cubes) in
    let here : is_in_cube bits ((record { 0 = var }, bit) ∷ cube) ≡ false = ap (λ (b : Bool). b && is_in_cube bits cube) e in
    let none = ap (λ (b : Bool). (if b then 1 else 0) + count_by (is_in_cube bits) (with_literal var bit cubes)) here in
    let rest = uncounted bits var bit cubes e in
    omega arith

counted_both : (bits : List Bool) (xs ys : List (List (VarId × Bool))) → count_by (is_in_cube bits) (xs ++ ys) ≡ count_by (is_in_cube bits) xs + count_by (is_in_cube bits) ys
counted_both bits xs ys = sum_by-append (λ c. if is_in_cube bits c then 1 else 0) xs ys

-- the literals of a variable, at an assignment where it has the bit b
has_bit : (bits : List Bool) (var : ℕ) (b : Bool) → get_or bits var false ≡ b → (bit : Bool) → satisfies bits (record { 0 = var }, bit) ≡ (if bit then b else not b)
has_bit bits var b e true = e
has_bit bits var b e false = ap not e

in_both : (bits : List Bool) (var : ℕ) (b : Bool) (low high : List (List (VarId × Bool))) (l h : ℕ) → get_or bits var false ≡ b → count_by (is_in_cube bits) low ≡ l → count_by (is_in_cube bits) high ≡ h → count_by (is_in_cube bits) (with_literal var false low ++ with_literal var true high) ≡ (if b then h else l)
in_both bits var false low high l h e is_l is_h =
    let zeros = counted bits var false low (has_bit bits var false e false) in
    let ones = uncounted bits var true high (has_bit bits var false e true) in
    let both = counted_both bits (with_literal var false low) (with_literal var true high) in
    omega arith
in_both bits var true low high l h e is_l is_h =
    let zeros = uncounted bits var false low (has_bit bits var true e false) in
    let ones = counted bits var true high (has_bit bits var true e true) in
    let both = counted_both bits (with_literal var false low) (with_literal var true high) in
    omega arith

abbrev one_if : Bool → ℕ
one_if b = if b then 1 else 0

-- which cofactor an assignment is in
split_at : (b : Bool) (set : Function) (rest : List Bool) → (if b then one_if (set (true ∷ rest)) else one_if (set (false ∷ rest))) ≡ one_if (set (b ∷ rest))
split_at false set rest = refl
split_at true set rest = refl

blank_or_none : (bits : List Bool) (b : Bool) → count_by (is_in_cube bits) (if b then [] ∷ [] else []) ≡ one_if b
blank_or_none bits true = refl
blank_or_none bits false = refl

exact_by : (var n : ℕ) (set : Function) (before rest : List Bool) → length before ≡ var → length rest ≡ n → count_by (is_in_cube (before ++ rest)) (cubes_from var n set) ≡ (if set rest then 1 else 0)
exact_by var zero set before (b ∷ rest) l m = absurd (omega arith)
exact_by var zero set before [] l m = blank_or_none (before ++ []) (set [])
exact_by var (suc n) set before [] l m = absurd (omega arith)
exact_by var (suc n) set before (b ∷ rest) l m =
    let longer : length (before ++ b ∷ []) ≡ suc var = length-append before (b ∷ []) ∙ omega arith in
    let one : (before ++ b ∷ []) ++ rest ≡ before ++ b ∷ rest = append_assoc before (b ∷ []) rest in
    let at : get_or (before ++ b ∷ rest) var false ≡ b = ap (λ (k : ℕ). get_or (before ++ b ∷ rest) k false) (sym l) ∙ get_or-append_seam before b rest false in
    let part : (bit : Bool) → count_by (is_in_cube (before ++ b ∷ rest)) (cubes_from (suc var) n (first_cofactor bit set)) ≡ (if set (bit ∷ rest) then 1 else 0) =
    λ bit. subst (λ (bits : List Bool). count_by (is_in_cube bits) (cubes_from (suc var) n (first_cofactor bit set)) ≡ (if set (bit ∷ rest) then 1 else 0)) one
    (exact_by (suc var) n (first_cofactor bit set) (before ++ b ∷ []) rest longer (omega arith)) in
    by (are_same_sets n (first_cofactor false set) (first_cofactor true set)) refl at part (omega arith)
  where
    to : (c : Bool) → set (false ∷ rest) ≡ set (true ∷ rest) → set (false ∷ rest) ≡ set (c ∷ rest)
    to false e = refl
    to true e = e

    by : (same : Bool) → are_same_sets n (first_cofactor false set) (first_cofactor true set) ≡ same
        → get_or (before ++ b ∷ rest) var false ≡ b
        → ((bit : Bool) → count_by (is_in_cube (before ++ b ∷ rest)) (cubes_from (suc var) n (first_cofactor bit set)) ≡ (if set (bit ∷ rest) then 1 else 0))
        → length rest ≡ n
        → count_by (is_in_cube (before ++ b ∷ rest)) (cubes_from var (suc n) set) ≡ (if set (b ∷ rest) then 1 else 0)
    by true e at part m =
        let together = same_sets n (first_cofactor false set) (first_cofactor true set) e in
        ap (count_by (is_in_cube (before ++ b ∷ rest))) (from_same var n set together) ∙ part false
        ∙ ap one_if (to b (together rest m))
    by false e at part m =
        let apart : ¬ AreOneSet n (first_cofactor false set) (first_cofactor true set) = λ t. cc (sets_same n (first_cofactor false set) (first_cofactor true set) t) in
        ap (count_by (is_in_cube (before ++ b ∷ rest))) (from_differ var n set apart)
        ∙ in_both (before ++ b ∷ rest) var b (cubes_from (suc var) n (first_cofactor false set)) (cubes_from (suc var) n (first_cofactor true set)) (one_if (set (false ∷ rest))) (one_if (set (true ∷ rest))) at (part false) (part true)
        ∙ split_at b set rest

pub cubes_are_exact : CubesAreExact
cubes_are_exact vars set bits l = exact_by 0 vars set [] bits refl l
