-- Numbers by their digits.
use Rattle.std.proofs.Common.{ℕ, zero, suc, ◌+◌, ◌-◌, ◌*◌, ◌<◌, ◌≤◌, ◌≡◌, refl, ap, sym, subst, ◌∙◌, arith, List, [], ◌∷◌, ◌++◌, length, drop, take, get_or, Bool, true, false, ◌&&◌, nat_lt}
use Rattle.std.specs.List.{list_all}
use Rattle.std.proofs.lemmas.List.{drop_more, take-append-drop}
use Rattle.ste_base.specs.Bytes.{is_digit}
use Rattle.ste_base.specs.Number.{number_from, number_of}

both_true : (a b : Bool) → (a && b) ≡ true → (a ≡ true) × (b ≡ true)
both_true true b e = (refl, e)
both_true false b e = absurd (cc e)

-- a digit is at most 9
digit_small : (d : ℕ) → is_digit d ≡ true → d - 48 ≤ 9
digit_small d e = grind (arith, e)

digit_large : (d : ℕ) → is_digit d ≡ true → 48 ≤ d
digit_large d e = grind (arith, e)

no_smaller : (n : ℕ) (digits : List ℕ) → n ≤ number_from n digits
no_smaller n [] = omega arith
no_smaller n (d ∷ digits) = let h = no_smaller (n * 10 + (d - 48)) digits in omega (arith, h)

-- a smaller number stays smaller, with as many digits behind each
front_decides : (one other : List ℕ) (m n : ℕ) → length one ≡ length other → list_all is_digit one ≡ true → list_all is_digit other ≡ true → m < n → number_from m one < number_from n other
front_decides [] [] m n e a b h = h
front_decides [] (y ∷ other) m n e a b h = absurd (cc e)
front_decides (x ∷ one) [] m n e a b h = absurd (cc e)
front_decides (x ∷ one) (y ∷ other) m n e a b h =
    let p = both_true (is_digit x) (list_all is_digit one) a in
    let q = both_true (is_digit y) (list_all is_digit other) b in
    let small = digit_small x p.0 in
    front_decides one other (m * 10 + (x - 48)) (n * 10 + (y - 48)) (omega (arith, e)) p.1 q.1 (omega (arith, h, small))

-- a digit that is not 0 makes a number above 0
pub some_digit : (d : ℕ) (digits : List ℕ) → is_digit d ≡ true → (d ≡ 48 → ⊥) → 0 < number_of (d ∷ digits)
some_digit d digits e ne = let h = no_smaller (0 * 10 + (d - 48)) digits in let l = digit_large d e in omega (arith, h, l, ne)

-- the first digit that differs decides
pub digit_decides : (m x y : ℕ) (one other : List ℕ) → length one ≡ length other → is_digit x ≡ true → is_digit y ≡ true → list_all is_digit one ≡ true → list_all is_digit other ≡ true → (x ≡ y → ⊥) → nat_lt x y ≡ nat_lt (number_from m (x ∷ one)) (number_from m (y ∷ other))
digit_decides m x y one other e dx dy a b ne = by_order (nat_lt x y) refl
  where
    by_order : (t : Bool) → nat_lt x y ≡ t → t ≡ nat_lt (number_from m (x ∷ one)) (number_from m (y ∷ other))
    by_order true h =
        let lx = digit_large x dx in
        let less : x < y = grind (arith, h) in
        let k = front_decides one other (m * 10 + (x - 48)) (m * 10 + (y - 48)) e a b (omega (arith, less, lx)) in grind (arith, k)
    by_order false h =
        let ly = digit_large y dy in
        let less : y < x = grind (arith, h, ne) in
        let k = front_decides other one (m * 10 + (y - 48)) (m * 10 + (x - 48)) (sym e) b a (omega (arith, less, ly)) in grind (arith, k)

number_append : (n : ℕ) (xs ys : List ℕ) → number_from n (xs ++ ys) ≡ number_from (number_from n xs) ys
number_append n [] ys = refl
number_append n (x ∷ xs) ys = number_append (n * 10 + (x - 48)) xs ys

-- a number by its first digits and the others
pub number_parts : (k : ℕ) (digits : List ℕ) → number_of digits ≡ number_from (number_of (take k digits)) (drop k digits)
number_parts k digits = ap number_of (sym (take-append-drop k digits)) ∙ number_append 0 (take k digits) (drop k digits)

pub above_here : (digits : List ℕ) (i : ℕ) → i < length digits → (get_or digits i 0 ≡ 48 → ⊥) → number_of (drop i digits) ≡ number_of digits → list_all is_digit (drop i digits) ≡ true → true ≡ nat_lt 0 (number_of digits)
above_here digits i h ne same all =
    let at = drop_more digits i 0 h in
    let d = both_true (is_digit (get_or digits i 0)) (list_all is_digit (drop (i + 1) digits)) (sym (ap (list_all is_digit) at) ∙ all) in
    let k = subst (λ n. 0 < n) (sym (ap number_of at) ∙ same) (some_digit (get_or digits i 0) (drop (i + 1) digits) d.0 ne) in
    grind (arith, k)

pub digit_here : (one other left rest : List ℕ) (i y m : ℕ) → i < length one → left ≡ y ∷ rest → (get_or one i 0 ≡ y → ⊥) → number_from m (drop i one) ≡ number_of one → number_from m left ≡ number_of other → length (drop i one) ≡ length left → list_all is_digit (drop i one) ≡ true → list_all is_digit left ≡ true → nat_lt (get_or one i 0) y ≡ nat_lt (number_of one) (number_of other)
digit_here one other left rest i y m h is ne first second len a b =
    let x = get_or one i 0 in
    let more = drop (i + 1) one in
    let at = drop_more one i 0 h in
    let da = both_true (is_digit x) (list_all is_digit more) (sym (ap (list_all is_digit) at) ∙ a) in
    let db = both_true (is_digit y) (list_all is_digit rest) (sym (ap (list_all is_digit) is) ∙ b) in
    let two : suc (length more) ≡ suc (length rest) = sym (ap length at) ∙ len ∙ ap length is in
    digit_decides m x y more rest (omega (arith, two)) da.0 db.0 da.1 db.1 ne
    ∙ ap (λ n. nat_lt n (number_from m (y ∷ rest))) (sym (ap (number_from m) at) ∙ first)
    ∙ ap (λ n. nat_lt (number_of one) n) (sym (ap (number_from m) is) ∙ second)

drop_digits : (k : ℕ) (xs : List ℕ) → list_all is_digit xs ≡ true → list_all is_digit (drop k xs) ≡ true
drop_digits zero xs e = e
drop_digits (suc k) [] e = refl
drop_digits (suc k) (x ∷ xs) e = drop_digits k xs (both_true (is_digit x) (list_all is_digit xs) e).1

zero_or : (n : ℕ) → false ≡ nat_lt 0 n → n ≡ 0
zero_or n e = grind (arith, e)

above : (n : ℕ) → true ≡ nat_lt 0 n → 0 < n
above n e = grind (arith, e)

-- the longer number is the greater one where its first digits are not all 0
greater : (short long front back : List ℕ) (k : ℕ) → list_all is_digit short ≡ true → list_all is_digit long ≡ true → front ≡ take k long → back ≡ drop k long → length back ≡ length short → true ≡ nat_lt 0 (number_of front) → number_of short < number_of long
greater short long front back k a b f d len up =
    let p = subst (λ xs. 0 < number_of xs) f (above (number_of front) up) in
    subst (λ n. number_of short < n) (sym (number_parts k long)) (front_decides short (drop k long) 0 (number_of (take k long)) (sym len ∙ ap length d) a (drop_digits k long b) p)

same_number : (long front back : List ℕ) (k : ℕ) → front ≡ take k long → back ≡ drop k long → false ≡ nat_lt 0 (number_of front) → number_of back ≡ number_of long
same_number long front back k f d z =
    ap number_of d ∙ sym (number_parts k long ∙ ap (λ n. number_from n (drop k long)) (ap number_of (sym f) ∙ zero_or (number_of front) z))

pub longer_above : (one other front back : List ℕ) (k : ℕ) → list_all is_digit one ≡ true → list_all is_digit other ≡ true → front ≡ take k other → back ≡ drop k other → length back ≡ length one → true ≡ nat_lt 0 (number_of front) → true ≡ nat_lt (number_of one) (number_of other)
longer_above one other front back k a b f d len up = let h = greater one other front back k a b f d len up in grind (arith, h)

pub longer_same : (one other front back : List ℕ) (k : ℕ) (r : Bool) → front ≡ take k other → back ≡ drop k other → false ≡ nat_lt 0 (number_of front) → r ≡ nat_lt (number_of one) (number_of back) → r ≡ nat_lt (number_of one) (number_of other)
longer_same one other front back k r f d z e = e ∙ ap (λ n. nat_lt (number_of one) n) (same_number other front back k f d z)

pub shorter_above : (one other front back : List ℕ) (k : ℕ) → list_all is_digit one ≡ true → list_all is_digit other ≡ true → front ≡ take k one → back ≡ drop k one → length back ≡ length other → true ≡ nat_lt 0 (number_of front) → false ≡ nat_lt (number_of one) (number_of other)
shorter_above one other front back k a b f d len up = let h = greater other one front back k b a f d len up in grind (arith, h)

pub shorter_same : (one other front back : List ℕ) (k : ℕ) (r : Bool) → front ≡ take k one → back ≡ drop k one → false ≡ nat_lt 0 (number_of front) → r ≡ nat_lt (number_of back) (number_of other) → r ≡ nat_lt (number_of one) (number_of other)
shorter_same one other front back k r f d z e = e ∙ ap (λ n. nat_lt n (number_of other)) (same_number one front back k f d z)
