-- Where sets have bits that are one of some choices.
use Rattle.std.proofs.Common.{◌≡◌, ℕ, zero, suc, ◌<◌, Bool, true, false, List, [], ◌∷◌, length, get_or, set, refl, sym, ◌∙◌, arith}
use Rattle.std.specs.Prelude.{All, ◌&&◌, ◌||◌}
use Rattle.std.proofs.lemmas.List.Elements.{All-head, All-tail}
use Rattle.net_core.specs.Work.{SymbolicSet}
use Rattle.gate_sets.specs.private.TruthTables.{some_choice}

-- the same choices
pub choice_alike : (p q : List Bool → Bool) (ws : List SymbolicSet) (bits : List Bool) → ((choice : List Bool) → length choice ≡ length ws → p choice ≡ q choice) → some_choice p ws bits ≡ some_choice q ws bits
choice_alike p q [] bits same = same [] refl
choice_alike p q (w ∷ ws) bits same =
    let zero = choice_alike (λ c. p (false ∷ c)) (λ c. q (false ∷ c)) ws bits (λ c l. same (false ∷ c) (omega (arith, l))) in
    let one = choice_alike (λ c. p (true ∷ c)) (λ c. q (true ∷ c)) ws bits (λ c l. same (true ∷ c) (omega (arith, l))) in
    λ i. (w.zero bits && zero i) || (w.one bits && one i)

none : (a b : Bool) → ((a && false) || (b && false)) ≡ false
none true true = refl
none true false = refl
none false true = refl
none false false = refl

-- no choice
pub choice_none : (ws : List SymbolicSet) (bits : List Bool) → some_choice (λ choice. false) ws bits ≡ false
choice_none [] bits = refl
choice_none (w ∷ ws) bits = (λ i. (w.zero bits && choice_none ws bits i) || (w.one bits && choice_none ws bits i)) ∙ none (w.zero bits) (w.one bits)

apart : (z o a b c d : Bool) → ((z && (a || b)) || (o && (c || d))) ≡ (((z && a) || (o && c)) || ((z && b) || (o && d)))
apart false false a b c d = refl
apart false true a b c d = refl
apart true false true b c d = refl
apart true false false b c d = refl
apart true true true b c d = refl
apart true true false true true d = refl
apart true true false true false d = refl
apart true true false false c d = refl

-- choices of either
pub choice_or : (p q : List Bool → Bool) (ws : List SymbolicSet) (bits : List Bool) → some_choice (λ choice. p choice || q choice) ws bits ≡ (some_choice p ws bits || some_choice q ws bits)
choice_or p q [] bits = refl
choice_or p q (w ∷ ws) bits =
    (λ i. (w.zero bits && choice_or (λ c. p (false ∷ c)) (λ c. q (false ∷ c)) ws bits i) || (w.one bits && choice_or (λ c. p (true ∷ c)) (λ c. q (true ∷ c)) ws bits i))
    ∙ apart (w.zero bits) (w.one bits) (some_choice (λ c. p (false ∷ c)) ws bits) (some_choice (λ c. q (false ∷ c)) ws bits) (some_choice (λ c. p (true ∷ c)) ws bits) (some_choice (λ c. q (true ∷ c)) ws bits)

-- choices under a condition
pub choice_and : (b : Bool) (p : List Bool → Bool) (ws : List SymbolicSet) (bits : List Bool) → some_choice (λ choice. b && p choice) ws bits ≡ (b && some_choice p ws bits)
choice_and true p ws bits = refl
choice_and false p ws bits = choice_none ws bits

-- choices of either, each under a condition
pub choice_join : (z o : Bool) (p q : List Bool → Bool) (ws : List SymbolicSet) (bits : List Bool)
    → some_choice (λ choice. (z && p choice) || (o && q choice)) ws bits ≡ ((z && some_choice p ws bits) || (o && some_choice q ws bits))
choice_join z o p q ws bits = choice_or (λ choice. z && p choice) (λ choice. o && q choice) ws bits ∙ (λ i. choice_and z p ws bits i || choice_and o q ws bits i)

-- a set has some bit at these bits
abbrev pub IsSome : List Bool → SymbolicSet → Type 0
IsSome bits w = (w.zero bits || w.one bits) ≡ true

-- what both bits leave alike
pub alike_both : (z o b : Bool) → (z || o) ≡ true → ((z && b) || (o && b)) ≡ b
alike_both true true true e = refl
alike_both true true false e = refl
alike_both true false true e = refl
alike_both true false false e = refl
alike_both false true b e = refl
alike_both false false b e = absurd (cc e)

-- each choice or none, by one bit
pub choice_each : (b : Bool) (ws : List SymbolicSet) (bits : List Bool) → All (IsSome bits) ws → some_choice (λ choice. b) ws bits ≡ b
choice_each b [] bits some = refl
choice_each b (w ∷ ws) bits some =
    let rest = choice_each b ws bits (All-tail (IsSome bits) w ws some) in
    (λ i. (w.zero bits && rest i) || (w.one bits && rest i)) ∙ alike_both (w.zero bits) (w.one bits) b (All-head (IsSome bits) w ws some)

-- choices by the bit at one place
pub choice_by_bit : (f : Bool → Bool) (ws : List SymbolicSet) (bits : List Bool) (place : ℕ) (d : SymbolicSet) → place < length ws → All (IsSome bits) ws
    → some_choice (λ choice. f (get_or choice place false)) ws bits ≡ (((get_or ws place d).zero bits && f false) || ((get_or ws place d).one bits && f true))
choice_by_bit f [] bits place d l some = absurd (omega (arith, l))
choice_by_bit f (w ∷ ws) bits zero d l some =
    let rest = All-tail (IsSome bits) w ws some in
    λ i. (w.zero bits && choice_each (f false) ws bits rest i) || (w.one bits && choice_each (f true) ws bits rest i)
choice_by_bit f (w ∷ ws) bits (suc place) d l some =
    let rest = choice_by_bit f ws bits place d (omega (arith, l)) (All-tail (IsSome bits) w ws some) in
    let v : SymbolicSet = get_or ws place d in
    (λ i. (w.zero bits && rest i) || (w.one bits && rest i)) ∙ alike_both (w.zero bits) (w.one bits) ((v.zero bits && f false) || (v.one bits && f true)) (All-head (IsSome bits) w ws some)

-- with the set at a place another one that has some bit: the new choices are those with one of the old set's bits at that place, whatever bit stands there
pub choice_freed : (p q : List Bool → Bool) (ws : List SymbolicSet) (bits : List Bool) (place : ℕ) (w d : SymbolicSet) → place < length ws → IsSome bits w
    → ((choice : List Bool) → length choice ≡ length ws
    → q choice ≡ (((get_or ws place d).zero bits && p (set choice place false)) || ((get_or ws place d).one bits && p (set choice place true))))
    → some_choice p ws bits ≡ some_choice q (set ws place w) bits
choice_freed p q [] bits place w d l some same = absurd (omega (arith, l))
choice_freed p q (v ∷ vs) bits zero w d l some same =
    let old : Bool = (v.zero bits && some_choice (λ c. p (false ∷ c)) vs bits) || (v.one bits && some_choice (λ c. p (true ∷ c)) vs bits) in
    let either : (b : Bool) → some_choice (λ c. q (b ∷ c)) vs bits ≡ old =
    λ b. choice_alike (λ c. q (b ∷ c)) (λ c. (v.zero bits && p (false ∷ c)) || (v.one bits && p (true ∷ c))) vs bits (λ c e. same (b ∷ c) (omega (arith, e)))
    ∙ choice_join (v.zero bits) (v.one bits) (λ c. p (false ∷ c)) (λ c. p (true ∷ c)) vs bits in
    sym ((λ i. (w.zero bits && either false i) || (w.one bits && either true i)) ∙ alike_both (w.zero bits) (w.one bits) old some)
choice_freed p q (v ∷ vs) bits (suc place) w d l some same =
    let rest : (b : Bool) → some_choice (λ c. p (b ∷ c)) vs bits ≡ some_choice (λ c. q (b ∷ c)) (set vs place w) bits =
    λ b. choice_freed (λ c. p (b ∷ c)) (λ c. q (b ∷ c)) vs bits place w d (omega (arith, l)) some (λ c e. same (b ∷ c) (omega (arith, e))) in
    λ i. (v.zero bits && rest false i) || (v.one bits && rest true i)
