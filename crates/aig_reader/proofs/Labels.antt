-- The names of things, one after another.
use Rattle.std.proofs.Common.{ℕ, zero, suc, ◌+◌, ◌<◌, ◌≤◌, ◌^◌, ◌≡◌, refl, ap, sym, ◌∙◌, List, [], ◌∷◌, ◌++◌, append_assoc, length, map, drop, get_or, arith, Option, None, Some, unwrap_or}
use Rattle.std.specs.Prelude.{option_to_list}
use Rattle.std.proofs.lemmas.List.{drop_more}
use Rattle.aig_model.specs.declared.aig.Aig.{Aig}
use Rattle.aig_model.specs.declared.aig.AigLatch.{AigLatch}
use Rattle.aig_model.specs.declared.aig.AigOutput.{AigOutput}
use Rattle.aig_model.specs.declared.aig.Symbol.{Symbol}
use Rattle.aig_model.specs.Names.{Label, first_symbol, labels, labels_from, names, label_names, own_output, own_outputs, own_variable, usable_symbol}
use Rattle.aig_model.proofs.Naming.{map_twice, outputs_long}
use Rattle.aig_reader.specs.private.Labelled.{taken_behind}

-- what is left gives the names and the taken symbols that all give
pub record AreNamed (found held : List (List ℕ)) (left : List Label) (found_at held_at : List (List
    ℕ)) (all : List Label) : Type 0 where
  pub names : found ++ label_names held left ≡ found_at ++ label_names held_at all
  pub taken : taken_behind held left ≡ taken_behind held_at all

pub named_begin : (names taken : List (List ℕ)) (all : List Label) →
    AreNamed names taken all names taken all
named_begin names taken all = record { names = refl; taken = refl }

labels_cut : (symbols : List Symbol) (n i : ℕ) (owns : List (List ℕ)) (own : List ℕ) →
    i < length owns → own ≡ get_or owns i own →
    labels_from symbols n (drop i owns) ≡ (record { own = own; symbol = first_symbol n symbols }) ∷
    labels_from symbols (n + 1) (drop (i + 1) owns)
labels_cut symbols n i owns own lt e =
    ap (labels_from symbols n) (drop_more owns i own lt)
    ∙ (λ k. (record { own = sym e k; symbol = first_symbol n symbols }) ∷ labels_from symbols (after
    n k) (drop (i + 1) owns))
  where
    after : (n : ℕ) → suc n ≡ n + 1
    after n = omega arith

-- one thing more has its name
pub named_turn : (symbols : List Symbol) (n i : ℕ) (owns : List (List ℕ)) (own name : List ℕ)
    (symbol : Option (List ℕ)) (names taken grown more names_at taken_at : List (List ℕ)) (all :
    List Label) → i < length owns → own ≡ get_or owns i own → symbol ≡ first_symbol n symbols →
    name ≡ unwrap_or (usable_symbol taken symbol) own → grown ≡ names ++ name ∷ [] →
    more ≡ taken ++ option_to_list (usable_symbol taken symbol) →
    AreNamed names taken (labels_from symbols n (drop i owns)) names_at taken_at all →
    AreNamed grown more (labels_from symbols (n + 1) (drop (i + 1) owns)) names_at taken_at all
named_turn symbols n i owns own name symbol names taken grown more names_at taken_at all lt e s m g
    t inv =
    let rest = labels_from symbols (n + 1) (drop (i + 1) owns) in
    let cut = labels_cut symbols n i owns own lt e in
    let same : name ≡ unwrap_or (usable_symbol taken (first_symbol n symbols)) own = m ∙ ap
    (λ o. unwrap_or (usable_symbol taken o) own) s in
    let keys : more ≡ taken ++ option_to_list (usable_symbol taken (first_symbol n symbols)) = t ∙ ap
    (λ o. taken ++ option_to_list (usable_symbol taken o)) s in
    record {
      names = (λ k. (g ∙ ap (λ x. names ++ x ∷ []) same) k ++ label_names (keys k) rest)
          ∙ append_assoc names (unwrap_or (usable_symbol taken (first_symbol n symbols)) own ∷ [])
          (label_names (taken ++ option_to_list (usable_symbol taken (first_symbol n symbols))) rest)
          ∙ sym (ap (λ left. names ++ label_names taken left) cut) ∙ inv.names;
      taken = ap (λ x. taken_behind x rest) keys ∙ sym (ap (taken_behind taken) cut) ∙ inv.taken;
    }

names_append : (taken : List (List ℕ)) (first second : List Label) →
    label_names taken (first ++ second) ≡ label_names taken first ++ label_names (taken_behind
    taken first) second
names_append taken [] second = refl
names_append taken (label ∷ first) second = ap
    (λ xs. unwrap_or (usable_symbol taken label.symbol) label.own ∷ xs) (names_append (taken ++
    option_to_list (usable_symbol taken label.symbol)) first second)

-- three kinds of things, one after another
pub three_kinds : (first second third : List Label) (one two three taken_one taken_two : List (List
    ℕ)) → one ≡ label_names [] first → taken_one ≡ taken_behind [] first →
    two ≡ one ++ label_names taken_one second → taken_two ≡ taken_behind taken_one second →
    three ≡ two ++ label_names taken_two third →
    three ≡ label_names [] (first ++ (second ++ third))
three_kinds first second third one two three taken_one taken_two e t f u g =
    let rest = names_append (taken_behind [] first) second third in
    g
    ∙ (λ i. f i ++ label_names (u i) third)
    ∙ (λ i. (e i ++ label_names (t i) second) ++ label_names (taken_behind (t i) second) third)
    ∙ append_assoc (label_names [] first) (label_names (taken_behind [] first) second)
    (label_names (taken_behind (taken_behind [] first) second) third)
    ∙ sym (ap (λ xs. label_names [] first ++ xs) rest)
    ∙ sym (names_append [] first (second ++ third))

-- the outputs' names of their own
outputs_cut : (n i : ℕ) (outputs : List AigOutput) (d : AigOutput) → i < length outputs →
    own_outputs n (drop i outputs) ≡ own_output n ∷ own_outputs (n + 1) (drop (i + 1) outputs)
outputs_cut n i outputs d lt = ap (own_outputs n) (drop_more outputs i d lt) ∙ ap
    (λ k. own_output n ∷ own_outputs k (drop (i + 1) outputs)) (after n)
  where
    after : (n : ℕ) → suc n ≡ n + 1
    after n = omega arith

pub output_turn : (n i : ℕ) (outputs : List AigOutput) (owns grown all : List (List ℕ)) (own : List
    ℕ) → i < length outputs → own ≡ own_output n → grown ≡ owns ++ own ∷ [] →
    owns ++ own_outputs n (drop i outputs) ≡ all →
    grown ++ own_outputs (n + 1) (drop (i + 1) outputs) ≡ all
output_turn n i outputs owns grown all own lt e g inv =
    (λ k. (g ∙ ap (λ x. owns ++ x ∷ []) e) k ++ own_outputs (n + 1) (drop (i + 1) outputs))
    ∙ append_assoc owns (own_output n ∷ []) (own_outputs (n + 1) (drop (i + 1) outputs))
    ∙ sym (ap (λ xs. owns ++ xs) (outputs_cut n i outputs (record { line = 0; literal = 0 }) lt))
    ∙ inv

append_none : {X : Type 0} (xs : List X) → xs ++ [] ≡ xs
append_none [] = refl
append_none (x ∷ xs) = ap (λ ys. x ∷ ys) (append_none xs)

-- nothing is left to name
pub named_end : (found held found_at held_at : List (List ℕ)) (left all : List Label) → left ≡ [] →
    AreNamed found held left found_at held_at all →
    (found ≡ found_at ++ label_names held_at all) × (held ≡ taken_behind held_at all)
named_end found held found_at held_at left all none inv = (
  sym (append_none found) ∙ sym (ap (λ xs. found ++ label_names held xs) none) ∙ inv.names,
  sym (ap (taken_behind held) none) ∙ inv.taken,
)

-- the names of what a text says, by the calls for each kind
pub record Made (start held one held_one : List (List ℕ)) (symbols : List Symbol) (own : List (List
    ℕ)) : Type 0 where
  pub names : one ≡ start ++ label_names held (labels_from symbols 0 own)
  pub taken : held_one ≡ taken_behind held (labels_from symbols 0 own)

pub names_made : (aig : Aig) (start held one held_one two held_two three held_three : List (List ℕ))
    (own_inputs own_latches own_outs : List (List ℕ)) (input_symbols latch_symbols output_symbols :
    List Symbol) (vars : List ℕ) → start ≡ [] → held ≡ [] →
    own_inputs ≡ map own_variable aig.inputs → vars ≡ map (λ (l : AigLatch). l.var) aig.latches →
    own_latches ≡ map own_variable vars → own_outs ≡ own_outputs 0 aig.outputs →
    input_symbols ≡ aig.input_symbols → latch_symbols ≡ aig.latch_symbols →
    output_symbols ≡ aig.output_symbols → Made start held one held_one input_symbols own_inputs →
    Made one held_one two held_two latch_symbols own_latches →
    Made two held_two three held_three output_symbols own_outs → three ≡ names aig
names_made aig start held one held_one two held_two three held_three own_inputs own_latches own_outs
    input_symbols latch_symbols output_symbols vars s h oi v ol oo si sl so first second third =
    let latches : own_latches ≡ map (λ (l : AigLatch). own_variable l.var) aig.latches = ol
    ∙ ap (map own_variable) v ∙ map_twice aig.latches in
    three_kinds (labels_from aig.input_symbols 0 (map own_variable aig.inputs)) (labels_from
    aig.latch_symbols 0 (map (λ (l : AigLatch). own_variable l.var) aig.latches)) (labels_from
    aig.output_symbols 0 (own_outputs 0 aig.outputs))
    one two three held_one held_two
    (first.names ∙ (λ i. s i ++ label_names (h i) (labels_from (si i) 0 (oi i))))
    (first.taken ∙ (λ i. taken_behind (h i) (labels_from (si i) 0 (oi i))))
    (second.names ∙ (λ i. one ++ label_names held_one (labels_from (sl i) 0 (latches i))))
    (second.taken ∙ (λ i. taken_behind held_one (labels_from (sl i) 0 (latches i))))
    (third.names ∙ (λ i. two ++ label_names held_two (labels_from (so i) 0 (oo i))))

-- no thing is left
pub labels_done : (symbols : List Symbol) (n i : ℕ) (owns : List (List ℕ)) → length owns ≤ i →
    labels_from symbols n (drop i owns) ≡ []
labels_done symbols n i owns h = ap (labels_from symbols n) (all_dropped i owns h)
  where
    all_dropped : {X : Type 0} (i : ℕ) (xs : List X) → length xs ≤ i → drop i xs ≡ []
    all_dropped zero [] h = refl
    all_dropped zero (x ∷ xs) h = absurd (omega arith)
    all_dropped (suc i) [] h = refl
    all_dropped (suc i) (x ∷ xs) h = all_dropped i xs (omega arith)

pub own_few : (outputs : List AigOutput) (owns : List (List ℕ)) → owns ≡ own_outputs 0 outputs →
    length outputs < 2 ^ 32 → length owns < 2 ^ 32
own_few outputs owns e h = let long = ap (λ (xs : List (List ℕ)). length xs) e in omega (
  arith,
  outputs_long 0 outputs,
)
