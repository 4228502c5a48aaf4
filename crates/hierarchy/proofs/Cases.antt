-- A cover of few inputs has few cases.
use Rattle.std.proofs.Common.{◌≡◌, ◌≤◌, ◌+◌, ◌-◌, ◌^◌, ℕ, zero, suc, Bool, true, false, List, map, refl, ap, ◌∙◌, subst, arith, rules}
use Rattle.std.specs.Prelude.{nat_lt}
use Rattle.std.specs.List.{list_all}
use Rattle.net_core.specs.declared.cover.Lit.{Lit}
use Rattle.net_core.specs.Cases.{begins_any, cases_of, half_of_rows, is_one_case, without_first}

-- twice as many for each position
twice : (n : ℕ) → 2 ^ suc n ≡ 2 ^ n + 2 ^ n
twice n = omega arith

positive : (n : ℕ) → 1 ≤ 2 ^ n
positive zero = omega arith
positive (suc n) = let rest = positive n in let two = twice n in omega arith

-- rows over so many positions have no more cases than there are bits at these and some more
below : (width more : ℕ) (rows : List (List Lit)) → cases_of width rows ≤ 2 ^ (width + more)
below zero more rows = positive (0 + more)
below (suc width) more rows = by (is_one_case rows) (list_all begins_any rows) refl refl (λ part. below width more part)
  where
    all : 2 ^ (suc width + more) ≡ 2 ^ (width + more) + 2 ^ (width + more)
    all = ap (λ (n : ℕ). 2 ^ n) (omega arith) ∙ twice (width + more)

    by : (one any : Bool) → is_one_case rows ≡ one → list_all begins_any rows ≡ any → ((part : List (List Lit)) → cases_of width part ≤ 2 ^ (width + more)) → cases_of (suc width) rows ≤ 2 ^ (suc width + more)
    by true any e f each = rw e (positive (suc width + more))
    by false true e f each = let rest = each (map without_first rows) in let two = all in rw (e, f) (omega arith)
    by false false e f each =
        let zeros = each (half_of_rows false rows) in
        let ones = each (half_of_rows true rows) in
        let two = all in
        rw (e, f) (omega arith)

not_above : (limit n : ℕ) → n ≤ limit → nat_lt limit n ≡ false
not_above limit n le = search rules

-- rows over at most 16 positions have no more than 65,536 cases
pub not_many : (width : ℕ) (rows : List (List Lit)) → width ≤ 16 → nat_lt 65536 (cases_of width rows) ≡ false
not_many width rows le =
    let all : width + (16 - width) ≡ 16 = omega arith in
    not_above 65536 (cases_of width rows) (subst (λ (n : ℕ). cases_of width rows ≤ 2 ^ n) all (below width (16 - width) rows))
