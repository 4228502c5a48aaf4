-- What a text without a fault says is sound.
use Rattle.std.proofs.Common.{ℕ, zero, suc, ◌+◌, ◌/◌, ◌<◌, ◌≤◌, ◌≡◌, ◌≢◌, ◌^◌, refl, ap, sym, subst, ◌∙◌, Bool, true, false, not, List, [], ◌∷◌, ◌++◌, append_assoc, length, map, get_or, arith, Option, None, Some, inl, inr}
use Rattle.std.specs.Prelude.{◌⊎◌, ◌&&◌, ◌||◌, All, AllPairs, IfSome, bytes_eq, codes, find, flat_map, if◌then◌else◌, nat_eq, nat_le, nat_lt, option_map, option_to_list}
use Rattle.std.specs.List.{cons_option, filter_map, list_all, list_any}
use Rattle.std.proofs.lemmas.List.Kept.{AllPairs-cons}
use Rattle.ste_base.specs.Number.{number_of}
use Rattle.blif_lines.specs.Lines.{is_filled, is_line_feed, pieces, trimmed_text, words_of}
use Rattle.net_core.specs.declared.raw.Init.{Init}
use Rattle.net_core.specs.declared.raw.Init.TheVariants as init
use Rattle.hierarchy.proofs.Members.{In, append_cases, contains_from_in, filter_map_in, flat_map_in, in_append_left, in_append_right, in_at, map_in}
use Rattle.aig_model.specs.declared.aig.Aig.{Aig}
use Rattle.aig_model.specs.declared.aig.AigAnd.{AigAnd}
use Rattle.aig_model.specs.declared.aig.AigLatch.{AigLatch}
use Rattle.aig_model.specs.declared.aig.AigOutput.{AigOutput}
use Rattle.aig_model.specs.declared.aig.Kind.{Kind}
use Rattle.aig_model.specs.declared.aig.Kind.TheVariants as kind
use Rattle.aig_model.specs.declared.fault.AigFault.{AigFault}
use Rattle.aig_model.specs.declared.fault.AigFault.TheVariants as fault
use Rattle.aig_model.specs.declared.line.Entry.{Entry}
use Rattle.aig_model.specs.declared.line.Head.{Head}
use Rattle.aig_model.specs.declared.line.Header.{Header}
use Rattle.aig_model.specs.declared.line.Header.TheVariants as header
use Rattle.aig_model.specs.declared.line.Literals.{Literals}
use Rattle.aig_model.specs.declared.line.Literals.TheVariants.{One, Other, Three, Two}
use Rattle.aig_model.specs.declared.line.Said.{Said}
use Rattle.aig_model.specs.declared.line.Said.TheVariants as said
use Rattle.aig_model.specs.Answer.{text_entries, entries_with}
use Rattle.aig_model.specs.ReadIsSound.{ReadIsSound}
use Rattle.aig_model.specs.Faults.{defines, text_fault, fault_with, first_bad, first_faulty, first_words, is_formed, is_new, aig_later_lines, aig_may_stand, missing_line, or_else}
use Rattle.aig_model.specs.Lines.{and_of, count_of, head_of, header_of, header_with, aig_init_of, input_of, is_above_zero, is_count, aig_latch_of, aig_latch_with, literal_to, literals_of, literals_with, output_of, said_at, symbol_of, symbol_with, tail_of}
use Rattle.aig_model.specs.Literals.{is_odd, variable_of}
use Rattle.aig_model.specs.Sound.{IsSoundAig, and_literals, defined_variables, mentioned_literals, sources, variables}
use Rattle.aig_model.specs.Spelled.{aig_of, and_in, entries_from, entry_onto, input_in, aig_latch_in, output_in}
use Rattle.aig_model.specs.Words.{greatest_number, is_definable, is_aig_number, number_to}
use Rattle.aig_model.proofs.Sizes.{entries_fit, fewer}

-- a variable that may be defined, and one that may be mentioned
abbrev IsDefined : ℕ → ℕ → Type 0
IsDefined most v = (0 < v) × (v ≤ most)

-- what a line says is within the header's numbers
abbrev IsWithin : ℕ → Said → Type 0
IsWithin most (said.Input var) = IsDefined most var
IsWithin most (said.Latch var next value) = IsDefined most var × (variable_of next ≤ most)
IsWithin most (said.Output literal) = variable_of literal ≤ most
IsWithin most (said.And var left right) = IsDefined most var × (variable_of left ≤ most) ×
    (variable_of right ≤ most)
IsWithin most other = Unit {0}

-- literals are within them
abbrev AreWithin : ℕ → Literals → Type 0
AreWithin most (One a) = a ≤ most + most + 1
AreWithin most (Two a b) = (a ≤ most + most + 1) × (b ≤ most + most + 1)
AreWithin most (Three a b c) = (a ≤ most + most + 1) × (b ≤ most + most + 1) × (c ≤ most + most + 1)
AreWithin most Other = Unit {0}

number_small : (is small : Bool) (n max : ℕ) → (small ≡ true → n ≤ max) →
    IfSome (if is && small then Some n else None) (λ k. k ≤ max)
number_small true true n max h = h refl
number_small true false n max h = tt
number_small false small n max h = tt

le_true : (a b : ℕ) → nat_le a b ≡ true → a ≤ b
le_true a b e = grind arith

literal_small : (most : ℕ) (word : List ℕ) → IfSome (literal_to most word)
    (λ n. n ≤ most + most + 1)
literal_small most word = number_small (is_aig_number word) (nat_le (number_of word) (most + most + 1))
    (number_of word) (most + most + 1) (le_true (number_of word) (most + most + 1))

one_small : (most : ℕ) (a : Option ℕ) → IfSome a (λ n. n ≤ most + most + 1) →
    AreWithin most (literals_with (a ∷ []))
one_small most None h = tt
one_small most (Some a) h = h

two_small : (most : ℕ) (a b : Option ℕ) → IfSome a (λ n. n ≤ most + most + 1) →
    IfSome b (λ n. n ≤ most + most + 1) → AreWithin most (literals_with (a ∷ b ∷ []))
two_small most None b h g = tt
two_small most (Some a) None h g = tt
two_small most (Some a) (Some b) h g = (h, g)

three_small : (most : ℕ) (a b c : Option ℕ) → IfSome a (λ n. n ≤ most + most + 1) →
    IfSome b (λ n. n ≤ most + most + 1) → IfSome c (λ n. n ≤ most + most + 1) →
    AreWithin most (literals_with (a ∷ b ∷ c ∷ []))
three_small most None b c h g f = tt
three_small most (Some a) None c h g f = tt
three_small most (Some a) (Some b) None h g f = tt
three_small most (Some a) (Some b) (Some c) h g f = (h, g, f)

more_small : (most : ℕ) (a b c d : Option ℕ) (more : List (Option ℕ)) →
    AreWithin most (literals_with (a ∷ b ∷ c ∷ d ∷ more))
more_small most None b c d more = tt
more_small most (Some a) None c d more = tt
more_small most (Some a) (Some b) None d more = tt
more_small most (Some a) (Some b) (Some c) d more = tt

literals_small : (most : ℕ) (words : List (List ℕ)) → AreWithin most (literals_of most words)
literals_small most [] = tt
literals_small most (a ∷ []) = one_small most (literal_to most a) (literal_small most a)
literals_small most (a ∷ b ∷ []) = two_small most (literal_to most a) (literal_to most b)
    (literal_small most a) (literal_small most b)
literals_small most (a ∷ b ∷ c ∷ []) = three_small most (literal_to most a) (literal_to most b)
    (literal_to most c) (literal_small most a) (literal_small most b) (literal_small most c)
literals_small most (a ∷ b ∷ c ∷ d ∷ more) = more_small most (literal_to most a) (literal_to most b)
    (literal_to most c) (literal_to most d) (map (literal_to most) more)

half_small : (most literal : ℕ) → literal ≤ most + most + 1 → variable_of literal ≤ most
half_small most literal h = omega arith

definable_above : (odd above : Bool) (literal : ℕ) → nat_lt 1 literal ≡ above →
    not odd && above ≡ true → 0 < literal / 2
definable_above true above literal e f = absurd (cc f)
definable_above false false literal e f = absurd (cc f)
definable_above false true literal e f = let lt : 1 < literal = lt_true 1 literal e in omega arith
  where
    lt_true : (a b : ℕ) → nat_lt a b ≡ true → a < b
    lt_true a b e = grind arith

defined_within : (most literal : ℕ) → literal ≤ most + most + 1 → is_definable literal ≡ true →
    IsDefined most (variable_of literal)
defined_within most literal h e = (
  definable_above (is_odd literal) (nat_lt 1 literal) literal refl
      e,
  half_small most literal h,
)

input_within : (most : ℕ) (literals : Literals) → AreWithin most literals →
    IsWithin most (input_of literals)
input_within most (One a) h = by (is_definable a) refl
  where
    by : (b : Bool) → is_definable a ≡ b → IsWithin most (if b then said.Input (variable_of a) else
        said.Wrong)
    by true e = defined_within most a h e
    by false e = tt
input_within most (Two a b) h = tt
input_within most (Three a b c) h = tt
input_within most Other h = tt

latch_by : (most first next : ℕ) (value : Option Init) → first ≤ most + most + 1 →
    next ≤ most + most + 1 → IsWithin most (aig_latch_with first next value)
latch_by most first next None h g = tt
latch_by most first next (Some value) h g = by (is_definable first) refl
  where
    by : (b : Bool) → is_definable first ≡ b →
        IsWithin most (if b then said.Latch (variable_of first) next value else said.Wrong)
    by true e = (defined_within most first h e, half_small most next g)
    by false e = tt

latch_within : (most : ℕ) (literals : Literals) → AreWithin most literals →
    IsWithin most (aig_latch_of literals)
latch_within most (One a) h = tt
latch_within most (Two a b) h = latch_by most a b (Some init.Zero) h.0 h.1
latch_within most (Three a b c) h = latch_by most a b (aig_init_of a c) h.0 h.1
latch_within most Other h = tt

output_within : (most : ℕ) (literals : Literals) → AreWithin most literals →
    IsWithin most (output_of literals)
output_within most (One a) h = half_small most a h
output_within most (Two a b) h = tt
output_within most (Three a b c) h = tt
output_within most Other h = tt

and_within : (most : ℕ) (literals : Literals) → AreWithin most literals →
    IsWithin most (and_of literals)
and_within most (One a) h = tt
and_within most (Two a b) h = tt
and_within most (Three a b c) h = by (is_definable a) refl
  where
    by : (d : Bool) → is_definable a ≡ d → IsWithin most (if d then said.And (variable_of a) b c
        else said.Wrong)
    by true e = (defined_within most a h.0 e, half_small most b h.1, half_small most c h.2)
    by false e = tt
and_within most Other h = tt

either_within : (most : ℕ) (b : Bool) (one other : Said) → IsWithin most one → IsWithin most other →
    IsWithin most (if b then one else other)
either_within most true one other h g = h
either_within most false one other h g = g

symbol_within : (most : ℕ) (kind : Kind) (number : Option ℕ) (name : List ℕ) →
    IsWithin most (symbol_with kind number name)
symbol_within most kind None name = tt
symbol_within most kind (Some number) name = either_within most (is_filled name) _ said.Wrong tt tt

tail_within : (head : Head) (line : List ℕ) → IsWithin head.most (tail_of head line)
tail_within head [] = tt
tail_within head (byte ∷ text) =
    either_within head.most (nat_eq byte 105) _ _ (symbol_within head.most kind.Input _ _)
    (either_within head.most (nat_eq byte 108) _ _ (symbol_within head.most kind.Latch _ _)
    (either_within head.most (nat_eq byte 111) _ _ (symbol_within head.most kind.Output _ _)
    (either_within head.most (nat_eq byte 99 && not (is_filled text)) said.End said.Wrong tt tt)))

said_within : (head : Head) (n : ℕ) (line : List ℕ) → IsWithin head.most (said_at head n line)
said_within head n line =
    let literals = literals_of head.most (words_of line) in
    let small = literals_small head.most (words_of line) in
    either_within head.most (nat_lt n head.inputs) (input_of literals) _ (input_within head.most
    literals small)
    (either_within head.most (nat_lt n (head.inputs + head.latches)) (aig_latch_of literals) _
    (latch_within head.most literals small)
    (either_within head.most (nat_lt n (head.inputs + head.latches + head.outputs)) (output_of
    literals) _ (output_within head.most literals small)
    (either_within head.most (nat_lt n (head.inputs + head.latches + head.outputs + head.ands))
    (and_of literals) _ (and_within head.most literals small)
    (tail_within head (trimmed_text line)))))

-- all lines are within the header's numbers
abbrev AllWithin : ℕ → List Entry → Type 0
AllWithin most entries = (e : Entry) → In entries e → IsWithin most e.said

onto_within : (most n : ℕ) (s : Said) (later : List Entry) → IsWithin most s →
    AllWithin most later → AllWithin most (entry_onto n s later)
onto_within most n (said.Input var) later h all e (inl i) = subst
    (λ (x : Entry). IsWithin most x.said) i h
onto_within most n (said.Input var) later h all e (inr g) = all e g
onto_within most n (said.Latch var next value) later h all e (inl i) = subst
    (λ (x : Entry). IsWithin most x.said) i h
onto_within most n (said.Latch var next value) later h all e (inr g) = all e g
onto_within most n (said.Output literal) later h all e (inl i) = subst
    (λ (x : Entry). IsWithin most x.said) i h
onto_within most n (said.Output literal) later h all e (inr g) = all e g
onto_within most n (said.And var left right) later h all e (inl i) = subst
    (λ (x : Entry). IsWithin most x.said) i h
onto_within most n (said.And var left right) later h all e (inr g) = all e g
onto_within most n (said.Symbol kind symbol) later h all e (inl i) = subst
    (λ (x : Entry). IsWithin most x.said) i h
onto_within most n (said.Symbol kind symbol) later h all e (inr g) = all e g
onto_within most n said.End later h all e g = absurd g
onto_within most n said.Wrong later h all e (inl i) = subst
    (λ (x : Entry). IsWithin most x.said) i h
onto_within most n said.Wrong later h all e (inr g) = all e g

entries_within : (head : Head) (n : ℕ) (lines : List (List ℕ)) →
    AllWithin head.most (entries_from head n lines)
entries_within head n [] e h = absurd h
entries_within head n (line ∷ lines) e h = onto_within head.most n (said_at head n line)
    (entries_from head (suc n) lines) (said_within head n line) (entries_within head (suc n) lines)
    e h

input_from : (most v : ℕ) (s : Said) → IsWithin most s → input_in s ≡ Some v → IsDefined most v
input_from most v (said.Input var) h e = subst (IsDefined most) (some_same e) h
  where
    some_same : Some var ≡ Some v → var ≡ v
    some_same e = cc
input_from most v (said.Latch var next value) h e = absurd (cc e)
input_from most v (said.Output literal) h e = absurd (cc e)
input_from most v (said.And var left right) h e = absurd (cc e)
input_from most v (said.Symbol kind symbol) h e = absurd (cc e)
input_from most v said.End h e = absurd (cc e)
input_from most v said.Wrong h e = absurd (cc e)

latch_from : (most line : ℕ) (l : AigLatch) (s : Said) → IsWithin most s →
    aig_latch_in line s ≡ Some l → IsDefined most l.var × (variable_of l.next ≤ most)
latch_from most line l (said.Input var) h e = absurd (cc e)
latch_from most line l (said.Latch var next value) h e = subst
    (λ (x : AigLatch). IsDefined most x.var × (variable_of x.next ≤ most)) (some_same e) h
  where
    some_same : {a b : AigLatch} → Some a ≡ Some b → a ≡ b
    some_same e = cc
latch_from most line l (said.Output literal) h e = absurd (cc e)
latch_from most line l (said.And var left right) h e = absurd (cc e)
latch_from most line l (said.Symbol kind symbol) h e = absurd (cc e)
latch_from most line l said.End h e = absurd (cc e)
latch_from most line l said.Wrong h e = absurd (cc e)

output_from : (most line : ℕ) (out : AigOutput) (s : Said) → IsWithin most s →
    output_in line s ≡ Some out → variable_of out.literal ≤ most
output_from most line out (said.Input var) h e = absurd (cc e)
output_from most line out (said.Latch var next value) h e = absurd (cc e)
output_from most line out (said.Output literal) h e = subst
    (λ (x : AigOutput). variable_of x.literal ≤ most) (some_same e) h
  where
    some_same : {a b : AigOutput} → Some a ≡ Some b → a ≡ b
    some_same e = cc
output_from most line out (said.And var left right) h e = absurd (cc e)
output_from most line out (said.Symbol kind symbol) h e = absurd (cc e)
output_from most line out said.End h e = absurd (cc e)
output_from most line out said.Wrong h e = absurd (cc e)

and_from : (most line : ℕ) (a : AigAnd) (s : Said) → IsWithin most s → and_in line s ≡ Some a →
    IsDefined most a.var × (variable_of a.left ≤ most) × (variable_of a.right ≤ most)
and_from most line a (said.Input var) h e = absurd (cc e)
and_from most line a (said.Latch var next value) h e = absurd (cc e)
and_from most line a (said.Output literal) h e = absurd (cc e)
and_from most line a (said.And var left right) h e = subst
    (λ (x : AigAnd). IsDefined most x.var × (variable_of x.left ≤ most) × (variable_of x.right ≤
    most)) (some_same e) h
  where
    some_same : {a b : AigAnd} → Some a ≡ Some b → a ≡ b
    some_same e = cc
and_from most line a (said.Symbol kind symbol) h e = absurd (cc e)
and_from most line a said.End h e = absurd (cc e)
and_from most line a said.Wrong h e = absurd (cc e)

module _ (most : ℕ) (entries : List Entry) (all : AllWithin most entries) where
  a_latch : (l : AigLatch) → In (aig_of entries).latches l →
      IsDefined most l.var × (variable_of l.next ≤ most)
  a_latch l h = let r = filter_map_in (λ (e : Entry). aig_latch_in e.line e.said) entries l h in
      latch_from most r.0.line l r.0.said (all r.0 r.1) r.2

  an_and : (a : AigAnd) → In (aig_of entries).ands a →
      IsDefined most a.var × (variable_of a.left ≤ most) × (variable_of a.right ≤ most)
  an_and a h = let r = filter_map_in (λ (e : Entry). and_in e.line e.said) entries a h in and_from
      most r.0.line a r.0.said (all r.0 r.1) r.2

  an_output : (out : AigOutput) → In (aig_of entries).outputs out → variable_of out.literal ≤ most
  an_output out h = let r = filter_map_in (λ (e : Entry). output_in e.line e.said) entries out h in
      output_from most r.0.line out r.0.said (all r.0 r.1) r.2

  a_source : (v : ℕ) → In (sources (aig_of entries)) v → IsDefined most v
  a_source v h = elim (append_cases (aig_of entries).inputs (map
      (λ (l : AigLatch). l.var) (aig_of entries).latches) v h) as (λ _. IsDefined most v) [
        | inl i ↦ let r = filter_map_in (λ (e : Entry). input_in e.said) entries v i in input_from most
            v r.0.said (all r.0 r.1) r.2
        | inr j ↦ let r = map_in (λ (l : AigLatch). l.var) (aig_of entries).latches v j in subst
            (IsDefined most) r.2 (a_latch r.0 r.1).0
      ]

  a_defined : (v : ℕ) → In (defined_variables (aig_of entries)) v → IsDefined most v
  a_defined v h = elim (append_cases (sources (aig_of entries)) (map
      (λ (a : AigAnd). a.var) (aig_of entries).ands) v h) as (λ _. IsDefined most v) [
        | inl i ↦ a_source v i
        | inr j ↦ let r = map_in (λ (a : AigAnd). a.var) (aig_of entries).ands v j in subst (IsDefined
            most) r.2 (an_and r.0 r.1).0
      ]

  of_and : (a : AigAnd) (literal : ℕ) → In (aig_of entries).ands a → In (and_literals a) literal →
      variable_of literal ≤ most
  of_and a literal h (inl e) = subst (λ x. variable_of x ≤ most) e (an_and a h).1
  of_and a literal h (inr (inl e)) = subst (λ x. variable_of x ≤ most) e (an_and a h).2
  of_and a literal h (inr (inr g)) = absurd g

  a_mention : (literal : ℕ) → In (mentioned_literals (aig_of entries)) literal → variable_of literal ≤ most
  a_mention literal h = elim (append_cases (map
      (λ (l : AigLatch). l.next) (aig_of entries).latches) _ literal h) as
      (λ _. variable_of literal ≤ most) [
        | inl i ↦ let r = map_in (λ (l : AigLatch). l.next) (aig_of entries).latches literal i in subst
            (λ x. variable_of x ≤ most) r.2 (a_latch r.0 r.1).1
        | inr j ↦ elim (append_cases (flat_map and_literals (aig_of entries).ands) (map
            (λ (out : AigOutput). out.literal) (aig_of entries).outputs) literal j) as
            (λ _. variable_of literal ≤ most) [
              | inl i ↦ let r = flat_map_in and_literals (aig_of entries).ands literal i in of_and r.0
                  literal r.1 r.2
              | inr k ↦ let r = map_in (λ (out : AigOutput). out.literal) (aig_of entries).outputs literal k
                  in subst (λ x. variable_of x ≤ most) r.2 (an_output r.0 r.1)
            ]
      ]

  a_variable : (v : ℕ) → In (variables (aig_of entries)) v → v ≤ most
  a_variable v h = elim (append_cases (defined_variables (aig_of entries)) (map variable_of (mentioned_literals (aig_of
      entries))) v h) as (λ _. v ≤ most) [
        | inl i ↦ (a_defined v i).1
        | inr j ↦ let r = map_in variable_of (mentioned_literals (aig_of entries)) v j in subst
            (λ x. x ≤ most) r.2 (a_mention r.0 r.1)
      ]

-- no number twice
abbrev Distinct : List ℕ → Type 0
Distinct [] = Unit {0}
Distinct (x ∷ xs) = (In xs x → ⊥) × Distinct xs

all_from : (P : ℕ → Type 0) (xs : List ℕ) → ((x : ℕ) → In xs x → P x) → All P xs
all_from P xs f k d h = f (get_or xs k d) (in_at xs k d h)

distinct_pairs : (xs : List ℕ) → Distinct xs → AllPairs (λ one other. one ≢ other) xs
distinct_pairs [] d = λ i j x lt within. absurd (omega (arith, within))
distinct_pairs (x ∷ xs) d = AllPairs-cons (λ one other. one ≢ other) x xs (all_from (λ y. x ≢ y) xs
    (λ y h e. d.0 (subst (λ z. In xs z) (sym e) h))) (distinct_pairs xs d.1)

inserted_in : (xs ys : List ℕ) (v w : ℕ) → In (xs ++ v ∷ ys) w → (v ≡ w) ⊎ In (xs ++ ys) w
inserted_in [] ys v w h = h
inserted_in (x ∷ xs) ys v w (inl e) = inr (inl e)
inserted_in (x ∷ xs) ys v w (inr h) = elim (inserted_in xs ys v w h) as
    (λ _. (v ≡ w) ⊎ In (x ∷ (xs ++ ys)) w) [ inl e ↦ inl e | inr g ↦ inr (inr g) ]

distinct_inserted : (xs ys : List ℕ) (v : ℕ) → (In (xs ++ ys) v → ⊥) → Distinct (xs ++ ys) →
    Distinct (xs ++ v ∷ ys)
distinct_inserted [] ys v out d = (out, d)
distinct_inserted (x ∷ xs) ys v out d = (
  λ h. elim (inserted_in xs ys v x h) as (λ _. ⊥) [ inl e ↦ out (inl (sym e)) | inr g ↦ d.0 g ],
  distinct_inserted xs ys v (λ h. out (inr h)) d.1,
)

not_any : (v : ℕ) (xs : List ℕ) → list_any (nat_eq v) xs ≡ false → In xs v → ⊥
not_any v [] e h = absurd h
not_any v (x ∷ xs) e (inl i) = by (nat_eq v x) refl e
  where
    by : (b : Bool) → nat_eq v x ≡ b → b || list_any (nat_eq v) xs ≡ false → ⊥
    by true f g = cc g
    by false f g = grind (arith, f, i)
not_any v (x ∷ xs) e (inr h) = by (nat_eq v x) (λ f. not_any v xs f h) e
  where
    by : (b : Bool) → (list_any (nat_eq v) xs ≡ false → ⊥) → b || list_any (nat_eq v) xs ≡ false → ⊥
    by true later g = cc g
    by false later g = later g

-- what lines define is new, and different
abbrev AreNew : List ℕ → List ℕ → Type 0
AreNew before vars = Distinct vars × ((w : ℕ) → In vars w → In before w → ⊥)

new_inserted : (before xs ys : List ℕ) (v : ℕ) → list_any (nat_eq v) before ≡ false →
    AreNew (before ++ v ∷ []) (xs ++ ys) → AreNew before (xs ++ v ∷ ys)
new_inserted before xs ys v new rest = (
  distinct_inserted xs ys v (λ h. rest.1 v h (in_append_right before (v ∷ []) v (inl refl))) rest.0,
  λ w h g. elim (inserted_in xs ys v w h) as (λ _. ⊥) [
    | inl e ↦ not_any v before new (subst (λ z. In before z) (sym e) g)
    | inr i ↦ rest.1 w i (in_append_left before (v ∷ []) w g)
  ],
)

new_same : (before vars : List ℕ) → AreNew (before ++ []) vars → AreNew before vars
new_same before vars rest = (rest.0, λ w h g. rest.1 w h (in_append_left before [] w g))

not_true : (b : Bool) → not b ≡ true → b ≡ false
not_true true e = absurd (cc e)
not_true false e = refl

-- a line in front of lines whose definitions are new
line_new : (before : List ℕ) (line : ℕ) (s : Said) (entries : List Entry) →
    aig_may_stand before s ≡ true → AreNew (before ++ option_to_list (defines s)) (defined_variables (aig_of
    entries)) → AreNew before (defined_variables (aig_of ((record { line = line; said = s }) ∷ entries)))
line_new before line (said.Input var) entries e rest = new_inserted before [] (defined_variables (aig_of
    entries)) var (not_true (list_any (nat_eq var) before) e) rest
line_new before line (said.Latch var next value) entries e rest =
    let inputs = (aig_of entries).inputs in
    let latches = map (λ (l : AigLatch). l.var) (aig_of entries).latches in
    let ands = map (λ (a : AigAnd). a.var) (aig_of entries).ands in
    subst (AreNew before) (sym (append_assoc inputs (var ∷ latches) ands))
    (new_inserted before inputs (latches ++ ands) var (not_true (list_any (nat_eq var) before) e)
    (subst (AreNew (before ++ var ∷ [])) (append_assoc inputs latches ands) rest))
line_new before line (said.Output literal) entries e rest = new_same before (defined_variables (aig_of
    entries)) rest
line_new before line (said.And var left right) entries e rest = new_inserted before (sources (aig_of
    entries)) (map (λ (a : AigAnd). a.var) (aig_of entries).ands) var (not_true (list_any (nat_eq
    var) before) e) rest
line_new before line (said.Symbol kind symbol) entries e rest = new_same before (defined_variables (aig_of
    entries)) rest
line_new before line said.End entries e rest = new_same before (defined_variables (aig_of entries)) rest
line_new before line said.Wrong entries e rest = absurd (cc e)

all_new : (before : List ℕ) (entries : List Entry) → first_bad before entries ≡ None →
    AreNew before (defined_variables (aig_of entries))
all_new before [] e = (tt, λ w h. absurd h)
all_new before (entry ∷ entries) e = step (aig_may_stand before entry.said) refl (all_new (before ++
    option_to_list (defines entry.said)) entries) e
  where
    step : (b : Bool) → aig_may_stand before entry.said ≡ b →
        (first_bad (before ++ option_to_list (defines entry.said)) entries ≡ None →
        AreNew (before ++ option_to_list (defines entry.said)) (defined_variables (aig_of entries))) →
        (if b then first_bad (before ++ option_to_list (defines entry.said)) entries else Some
        entry.line) ≡ None → AreNew before (defined_variables (aig_of (entry ∷ entries)))
    step true f later g = line_new before entry.line entry.said entries f (later g)
    step false f later g = absurd (cc g)

-- the numbers of a header are small
head_small : (most inputs latches outputs ands : Option ℕ) (head : Head) →
    IfSome most (λ n. n ≤ greatest_number) → head_of most inputs latches outputs ands ≡ Some head →
    head.most ≤ greatest_number
head_small None inputs latches outputs ands head h e = absurd (cc e)
head_small (Some most) None latches outputs ands head h e = absurd (cc e)
head_small (Some most) (Some inputs) None outputs ands head h e = absurd (cc e)
head_small (Some most) (Some inputs) (Some latches) None ands head h e = absurd (cc e)
head_small (Some most) (Some inputs) (Some latches) (Some outputs) None head h e = absurd (cc e)
head_small (Some most) (Some inputs) (Some latches) (Some outputs) (Some ands) head h e = let same :
    most ≡ head.most = cc e in omega arith

count_small : (word : List ℕ) → IfSome (count_of word) (λ n. n ≤ greatest_number)
count_small word = number_small (is_aig_number word) (nat_le (number_of word) greatest_number) (number_of word)
    greatest_number (le_true (number_of word) greatest_number)

with_small : (found : Option Head) (further : Option (List ℕ)) (head : Head) → ((one : Head) →
    found ≡ Some one → one.most ≤ greatest_number) → header_with found further ≡ header.Good head →
    head.most ≤ greatest_number
with_small None further head h e = absurd (cc e)
with_small (Some one) None head h e = let same : one.most ≡ head.most = ap
    (λ (x : Head). x.most) (good_same one head e) in let lt = h one refl in omega arith
  where
    good_same : (one other : Head) → header.Good one ≡ header.Good other → one ≡ other
    good_same one other e = cc
with_small (Some one) (Some word) head h e = absurd (cc e)

either_small : (b : Bool) (head : Head) (good : Header) → (good ≡ header.Good head →
    head.most ≤ greatest_number) → (if b then good else header.Bad) ≡ header.Good head →
    head.most ≤ greatest_number
either_small true head good h e = h e
either_small false head good h e = absurd (cc e)

pub header_small : (words : List (List ℕ)) (head : Head) → header_of words ≡ header.Good head →
    head.most ≤ greatest_number
header_small [] head e = absurd (cc e)
header_small (a ∷ []) head e = absurd (cc e)
header_small (a ∷ b ∷ []) head e = absurd (cc e)
header_small (a ∷ b ∷ c ∷ []) head e = absurd (cc e)
header_small (a ∷ b ∷ c ∷ d ∷ []) head e = absurd (cc e)
header_small (a ∷ b ∷ c ∷ d ∷ f ∷ []) head e = absurd (cc e)
header_small (tag ∷ most ∷ inputs ∷ latches ∷ outputs ∷ ands ∷ further) head e =
    either_small (bytes_eq tag (codes "aag") && (list_all is_count further && nat_le (length
    further) 4)) head _
    (λ same. with_small (head_of (count_of most) (count_of inputs) (count_of latches) (count_of
    outputs) (count_of ands)) (find is_above_zero further) head
    (λ one found. head_small (count_of most) (count_of inputs) (count_of latches) (count_of outputs)
    (count_of ands) one (count_small most) found) same) e

bad_none : (first second : Option ℕ) → option_map fault.BadLine (or_else first second) ≡ None →
    first ≡ None
bad_none None second e = refl
bad_none (Some first) second e = absurd (cc e)

sound_with : (head : Header) (words lines : List (List ℕ)) → header_of words ≡ head →
    fault_with head lines ≡ None → length (entries_with head lines) ≤ 67108864 →
    IsSoundAig (aig_of (entries_with head lines))
sound_with header.Bad words lines h e fits = absurd (cc e)
sound_with (header.LeftOut word) words lines h e fits = absurd (cc e)
sound_with (header.Good head) words lines h e fits =
    let entries = entries_from head 0 lines in
    let within = entries_within head 0 lines in
    let most = header_small words head h in
    record {
      once = distinct_pairs (defined_variables (aig_of entries)) (all_new [] entries (bad_none (first_bad []
          entries) (missing_line head entries) e)).0;
      above = all_from (λ v. 0 < v) (defined_variables (aig_of entries))
          (λ v i. (a_defined head.most entries within v i).0);
      small = all_from (λ v. v < 2 ^ 31) (variables (aig_of entries))
          (λ v i. let small = a_variable head.most entries within v i in omega arith);
      few = let short = fewer (λ (x : Entry). output_in x.line x.said) entries in omega arith;
    }

pub read_is_sound : ReadIsSound
read_is_sound bytes fits none =
    let lines = pieces is_line_feed bytes in
    sound_with (header_of (first_words lines)) (first_words lines) (aig_later_lines lines) refl none
    (let few = entries_fit bytes in omega arith)
