-- How far a scan of a text goes.
use Rattle.std.proofs.Common.{ℕ, zero, suc, ◌+◌, ◌-◌, ◌<◌, ◌≤◌, ◌≡◌, refl, ap, sym, ◌∙◌, List, [], ◌∷◌, length, get_or, take, drop, arith, Bool, true, false, if◌then◌else◌, cond, Some, None, unwrap_or, nat_lt}
use Rattle.std.specs.List.{position, position_or_len}
use Rattle.std.proofs.lemmas.List.Recursion.{is_position_or_len}
use Rattle.ste_base.specs.Bytes.{is_blank}
use Rattle.blif_lines.specs.Lines.{before, pieces, onto_first, trimmed_text, unless_last}

before_step : (c : Bool) (b : ℕ) (front : List ℕ) → length (if c then [] else b ∷ front) ≡ cond c 0 (1 + length front)
before_step true b front = refl
before_step false b front = omega arith

before_len : (cuts : ℕ → Bool) (text : List ℕ) → length (before cuts text) ≡ position_or_len cuts text
before_len cuts text = is_position_or_len (λ t. length (before cuts t)) cuts refl (λ b t. before_step (cuts b) b (before cuts t)) text

step_short : (c : Bool) (b n : ℕ) (front : List ℕ) → length front ≤ n → length (if c then [] else b ∷ front) ≤ suc n
step_short true b n front h = omega arith
step_short false b n front h = omega (arith, h)

pub before_short : (cuts : ℕ → Bool) (text : List ℕ) → length (before cuts text) ≤ length text
before_short cuts [] = omega arith
before_short cuts (b ∷ text) = step_short (cuts b) b (length text) (before cuts text) (before_short cuts text)

found : (c : Bool) (place n : ℕ) → (c ≡ false → n ≡ place) → unwrap_or (cond c (Some place) None) n ≡ place
found true place n h = refl
found false place n h = h refl

found_at : (place n : ℕ) → place ≤ n → unwrap_or (cond (nat_lt place n) (Some place) None) n ≡ place
found_at place n h = found (nat_lt place n) place n (λ e. grind (arith, e, h))

-- the first place of a byte that passes is as far as the bytes before it go
pub place : (cuts : ℕ → Bool) (text : List ℕ) → unwrap_or (position cuts text) (length text) ≡ length (before cuts text)
place cuts text =
    let e = before_len cuts text in
    let h : position_or_len cuts text ≤ length text = rw (sym e) (before_short cuts text) in
    found_at (position_or_len cuts text) (length text) h ∙ sym e

ends_one : (c : Bool) (b : ℕ) (text front : List ℕ) → take (length front) text ≡ front → take (length (if c then [] else b ∷ front)) (b ∷ text) ≡ if c then [] else b ∷ front
ends_one true b text front e = refl
ends_one false b text front e = ap (λ x. b ∷ x) e

ends : (cuts : ℕ → Bool) (text : List ℕ) → take (length (before cuts text)) text ≡ before cuts text
ends cuts [] = refl
ends cuts (b ∷ text) = ends_one (cuts b) b text (before cuts text) (ends cuts text)

-- what stands before that place
pub front : (cuts : ℕ → Bool) (text : List ℕ) → take (unwrap_or (position cuts text) (length text)) text ≡ before cuts text
front cuts text = rw (place cuts text) (ends cuts text)

first_last : (c : Bool) (b : ℕ) (cuts : ℕ → Bool) → (if c then [] ∷ [] else (b ∷ []) ∷ []) ≡ (if c then [] else b ∷ []) ∷ pieces cuts (drop (length (if c then [] else b ∷ [])) [])
first_last true b cuts = refl
first_last false b cuts = refl

first_more : (c : Bool) (b : ℕ) (cuts : ℕ → Bool) (text front : List ℕ) → pieces cuts text ≡ front ∷ pieces cuts (drop (suc (length front)) text) → (if c then [] ∷ pieces cuts text else onto_first b (pieces cuts text)) ≡ (if c then [] else b ∷ front) ∷ pieces cuts (drop (length (if c then [] else b ∷ front)) text)
first_more true b cuts text front e = refl
first_more false b cuts text front e = rw e refl

-- the first piece, and the pieces of what stands after the byte that ends it
pub first_piece : (cuts : ℕ → Bool) (text : List ℕ) → 0 < length text → pieces cuts text ≡ before cuts text ∷ pieces cuts (drop (suc (length (before cuts text))) text)
first_piece cuts [] h = absurd (omega (arith, h))
first_piece cuts (b ∷ []) h = first_last (cuts b) b cuts
first_piece cuts (b ∷ x ∷ text) h = first_more (cuts b) b cuts (x ∷ text) (before cuts (x ∷ text)) (first_piece cuts (x ∷ text) (omega arith))

-- a blank at the end is of no account
trim_step : (text : List ℕ) (n : ℕ) → n < length text → is_blank (get_or text n 0) ≡ true → trimmed_text (take (suc n) text) ≡ trimmed_text (take n text)
trim_step [] n h e = absurd (omega (arith, h))
trim_step (b ∷ text) zero h e = rw e refl
trim_step (b ∷ text) (suc n) h e = ap (unless_last b) (trim_step text n (omega (arith, h)) e)

trim_at : (text : List ℕ) (n m : ℕ) → n ≡ suc m → n ≤ length text → is_blank (get_or text m 0) ≡ true → trimmed_text (take m text) ≡ trimmed_text (take n text)
trim_at text n m s h e = rw s (sym (trim_step text m (omega (arith, h, s)) e))

-- the same, as the loop counts
pub trim_back : (text : List ℕ) (n : ℕ) → 0 < n → n ≤ length text → is_blank (get_or text (n - 1) 0) ≡ true → trimmed_text (take (n - 1) text) ≡ trimmed_text (take n text)
trim_back text n p h e = trim_at text n (n - 1) (omega (arith, p)) h e

-- a text whose last byte is no blank stays
trim_done : (text : List ℕ) (n : ℕ) → n < length text → is_blank (get_or text n 0) ≡ false → trimmed_text (take (suc n) text) ≡ take (suc n) text
trim_done [] n h e = absurd (omega (arith, h))
trim_done (b ∷ text) zero h e = rw e refl
trim_done (b ∷ []) (suc n) h e = absurd (omega (arith, h))
trim_done (b ∷ c ∷ text) (suc n) h e = ap (unless_last b) (trim_done (c ∷ text) n (omega (arith, h)) e)

done_at : (text : List ℕ) (n m : ℕ) → n ≡ suc m → n ≤ length text → is_blank (get_or text m 0) ≡ false → take n text ≡ trimmed_text (take n text)
done_at text n m s h e = rw s (sym (trim_done text m (omega (arith, h, s)) e))

-- the same, as the loop stops
pub trim_stop : (text : List ℕ) (n : ℕ) → 0 < n → n ≤ length text → is_blank (get_or text (n - 1) 0) ≡ false → take n text ≡ trimmed_text (take n text)
trim_stop text n p h e = done_at text n (n - 1) (omega (arith, p)) h e
