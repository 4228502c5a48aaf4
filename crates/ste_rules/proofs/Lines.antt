-- One more line, and what is still to come.
use Rattle.std.proofs.Common.{ℕ, ◌+◌, ◌-◌, suc, slice_get, ◌<◌, ◌≤◌, ◌≡◌, refl, ap, sym, subst, ◌∙◌, List, [], ◌∷◌, ◌++◌, map, length, get_or, drop, arith, Option, Some, Result, Ok, Err, length-append, not, ◌&&◌, nat_lt}
use Rattle.std.proofs.lemmas.List.{drop_all, drop_more}
use Rattle.blif_lines.specs.declared.lines.Line.{Line}
use Rattle.assert_syntax.specs.Parses.{IsParse, Parse}
use Rattle.assert_syntax.proofs.Whole.{a_parse}
use Rattle.ste_model.specs.declared.task.Tasks.{Tasks}
use Rattle.ste_model.specs.Trees.{QuintTree}
use Rattle.rule_model.specs.Claims.{Claim}
use Rattle.ste_rules.specs.declared.fault.ProofFault.{ProofFault}
use Rattle.ste_rules.specs.declared.fault.ProofFault.TheVariants.{BadLine, TooDeep, DoubleName, UnknownName, UnknownVar, UnknownNode, HasReset, BadNumber, NotCovered, TooMany, NoStep, OutOfMemory}
use Rattle.ste_rules.specs.declared.form.Growth.{Growth}
use Rattle.ste_rules.specs.declared.form.Growth.TheVariants as grows
use Rattle.ste_rules.specs.declared.proof.Proof.{Proof}
use Rattle.ste_rules.specs.Answer.{IsAnswerOf, IsProofAnswer, last_of}
use Rattle.ste_rules.specs.Forms.{StepEntry, StepForm, step_entries_of, step_entry_of, step_form_of}
use Rattle.ste_rules.specs.Forms as form
use Rattle.ste_rules.specs.Steps.{StepFault, Steps, and_then, are_consequents, bad, bad_number, begun, both_claim, clause_told, cut_claim, empty_claim, fresh, go_on, grown_claim, is_cut, is_in_time, last_grown, later_claim, leaf_named, many, may_grow, none_unknown, on_line, quint_given, read_as, some_or, special_claim, step_named, steps_behind, turn, uncovered, unless, unresolved, variable_named, weaker_claim, with_leaf, with_reset}
use Rattle.ste_rules.specs.Sizes.{claim_fits}
use Rattle.bool_expr.specs.Grammar.{spelling, tree}
use Rattle.bool_expr.specs.Read.{first_unknown, number_in, place_by}
use Rattle.assert_syntax.specs.Places.{clause_fault}
use Rattle.assert_syntax.specs.declared.form.Span.TheVariants as span
use Rattle.ste_rules.specs.declared.step.Step.{Step}
use Rattle.ste_rules.specs.private.Held.{step_claim}
use Rattle.ste_rules.proofs.Times.{held_more}
use Rattle.ste_rules.specs.private.Turns.{AreAligned, IsTold}

-- what comes before what there is
pub inverted : {X Y : Type 0} (r : Result X StepFault) (f : X → Result Y StepFault) (y : Y) → and_then r f ≡ Ok y → (x : X) × (r ≡ Ok x) × (f x ≡ Ok y)
inverted (Ok x) f y e = (x, refl, e)
inverted (Err fault) f y e = absurd (cc e)

abbrev ok_or : {X : Type 0} → X → Result X StepFault → X
ok_or d (Ok x) = x
ok_or d (Err fault) = d

abbrev made : {X : Type 0} → X → Result X StepFault
made x = Ok x

pub ok_is : {X : Type 0} (a b : X) → made a ≡ made b → a ≡ b
ok_is a b e = ap (ok_or a) e

one_longer : {X : Type 0} (xs : List X) (x : X) → length (xs ++ x ∷ []) ≡ length xs + 1
one_longer xs x = length-append xs (x ∷ [])

begun_aligned : (steps new : Steps) (name : List ℕ) (claim : Claim) (growth : Growth) → begun steps name claim growth ≡ Ok new → AreAligned steps → AreAligned new
begun_aligned steps new name claim growth e a =
    let h = inverted (unless many (claim_fits claim && nat_lt (length steps.names) 1000)) (λ _. Ok (record { names = steps.names ++ name ∷ []; claims = steps.claims ++ claim ∷ []; leaves = steps.leaves; growth = growth })) new e in
    subst AreAligned (ok_is (record { names = steps.names ++ name ∷ []; claims = steps.claims ++ claim ∷ []; leaves = steps.leaves; growth = growth }) new h.2) (one_longer steps.names name ∙ ap (λ n. n + 1) a ∙ sym (one_longer steps.claims claim))

grown_length : (growth : Growth) (quint : QuintTree) (claims new : List Claim) → last_grown growth quint claims ≡ Ok new → length new ≡ length claims
grown_length growth quint [] new e = absurd (cc e)
grown_length growth quint (claim ∷ []) new e =
    let h = inverted (grown_claim growth quint claim) (λ grown. and_then (unless many (claim_fits grown)) (λ _. Ok (grown ∷ []))) new e in
    let g = inverted (unless many (claim_fits h.0)) (λ _. Ok (h.0 ∷ [])) new h.2 in
    sym (ap length (ok_is (h.0 ∷ []) new g.2))
grown_length growth quint (claim ∷ next ∷ claims) new e =
    let h = inverted (last_grown growth quint (next ∷ claims)) (λ rest. Ok (claim ∷ rest)) new e in
    sym (ap length (ok_is (claim ∷ h.0) new h.2)) ∙ ap suc (grown_length growth quint (next ∷ claims) h.0 h.1)

pub turn_aligned : (parse : Parse) (net_of : List ℕ → Option ℕ) (tasks : Tasks) (steps new : Steps) (f : StepForm) → turn parse net_of tasks steps f ≡ Ok new → AreAligned steps → AreAligned new
turn_aligned parse net_of tasks steps new (form.leaf name task) e a =
    let h0 = inverted (fresh steps name) (λ _. and_then (leaf_named tasks.tasks task) (λ found. and_then (begun steps name found.1 grows.Closed) (λ next. Ok (with_leaf found.0 next)))) new e in
    let h1 = inverted (leaf_named tasks.tasks task) (λ found. and_then (begun steps name found.1 grows.Closed) (λ next. Ok (with_leaf found.0 next))) new h0.2 in
    let h2 = inverted (begun steps name h1.0.1 grows.Closed) (λ next. Ok (with_leaf h1.0.0 next)) new h1.2 in
    subst AreAligned (ok_is (with_leaf h1.0.0 h2.0) new h2.2) (begun_aligned steps h2.0 name h1.0.1 grows.Closed h2.1 a)
turn_aligned parse net_of tasks steps new (form.identity name) e a =
    let h0 = inverted (fresh steps name) (λ _. begun steps name empty_claim grows.Both) new e in
    begun_aligned steps new name empty_claim grows.Both h0.2 a
turn_aligned parse net_of tasks steps new (form.both name one other) e a =
    let h0 = inverted (fresh steps name) (λ _. and_then (step_named steps one) (λ first. and_then (step_named steps other) (λ second. begun steps name (both_claim first second) grows.Closed))) new e in
    let h1 = inverted (step_named steps one) (λ first. and_then (step_named steps other) (λ second. begun steps name (both_claim first second) grows.Closed)) new h0.2 in
    let h2 = inverted (step_named steps other) (λ second. begun steps name (both_claim h1.0 second) grows.Closed) new h1.2 in
    begun_aligned steps new name (both_claim h1.0 h2.0) grows.Closed h2.2 a
turn_aligned parse net_of tasks steps new (form.shift name one n) e a =
    let h0 = inverted (fresh steps name) (λ _. and_then (step_named steps one) (λ claim. and_then (unless with_reset (not claim.reset)) (λ _. begun steps name (later_claim n claim) grows.Closed))) new e in
    let h1 = inverted (step_named steps one) (λ claim. and_then (unless with_reset (not claim.reset)) (λ _. begun steps name (later_claim n claim) grows.Closed)) new h0.2 in
    let h2 = inverted (unless with_reset (not h1.0.reset)) (λ _. begun steps name (later_claim n h1.0) grows.Closed) new h1.2 in
    begun_aligned steps new name (later_claim n h1.0) grows.Closed h2.2 a
turn_aligned parse net_of tasks steps new (form.specialise name one variable text) e a =
    let h0 = inverted (read_as (parse text)) (λ d. and_then (fresh steps name) (λ _. and_then (step_named steps one) (λ claim. and_then (variable_named tasks.vars variable) (λ x. and_then (none_unknown (first_unknown (number_in tasks.vars) (spelling d))) (λ _. begun steps name (special_claim x (tree (place_by (number_in tasks.vars)) d) claim) grows.Closed))))) new e in
    let h1 = inverted (fresh steps name) (λ _. and_then (step_named steps one) (λ claim. and_then (variable_named tasks.vars variable) (λ x. and_then (none_unknown (first_unknown (number_in tasks.vars) (spelling h0.0))) (λ _. begun steps name (special_claim x (tree (place_by (number_in tasks.vars)) h0.0) claim) grows.Closed)))) new h0.2 in
    let h2 = inverted (step_named steps one) (λ claim. and_then (variable_named tasks.vars variable) (λ x. and_then (none_unknown (first_unknown (number_in tasks.vars) (spelling h0.0))) (λ _. begun steps name (special_claim x (tree (place_by (number_in tasks.vars)) h0.0) claim) grows.Closed))) new h1.2 in
    let h3 = inverted (variable_named tasks.vars variable) (λ x. and_then (none_unknown (first_unknown (number_in tasks.vars) (spelling h0.0))) (λ _. begun steps name (special_claim x (tree (place_by (number_in tasks.vars)) h0.0) h2.0) grows.Closed)) new h2.2 in
    let h4 = inverted (none_unknown (first_unknown (number_in tasks.vars) (spelling h0.0))) (λ _. begun steps name (special_claim h3.0 (tree (place_by (number_in tasks.vars)) h0.0) h2.0) grows.Closed) new h3.2 in
    begun_aligned steps new name (special_claim h3.0 (tree (place_by (number_in tasks.vars)) h0.0) h2.0) grows.Closed h4.2 a
turn_aligned parse net_of tasks steps new (form.stronger name one) e a =
    let h0 = inverted (fresh steps name) (λ _. and_then (step_named steps one) (λ claim. begun steps name claim grows.Antecedent)) new e in
    let h1 = inverted (step_named steps one) (λ claim. begun steps name claim grows.Antecedent) new h0.2 in
    begun_aligned steps new name h1.0 grows.Antecedent h1.2 a
turn_aligned parse net_of tasks steps new (form.weaker name one numbers) e a =
    let h0 = inverted (fresh steps name) (λ _. and_then (step_named steps one) (λ claim. and_then (unless bad_number (are_consequents claim numbers)) (λ _. begun steps name (weaker_claim numbers claim) grows.Closed))) new e in
    let h1 = inverted (step_named steps one) (λ claim. and_then (unless bad_number (are_consequents claim numbers)) (λ _. begun steps name (weaker_claim numbers claim) grows.Closed)) new h0.2 in
    let h2 = inverted (unless bad_number (are_consequents h1.0 numbers)) (λ _. begun steps name (weaker_claim numbers h1.0) grows.Closed) new h1.2 in
    begun_aligned steps new name (weaker_claim numbers h1.0) grows.Closed h2.2 a
turn_aligned parse net_of tasks steps new (form.cut name one other) e a =
    let h0 = inverted (fresh steps name) (λ _. and_then (step_named steps one) (λ first. and_then (step_named steps other) (λ second. and_then (unless uncovered (is_cut first second)) (λ _. begun steps name (cut_claim first second) grows.Closed)))) new e in
    let h1 = inverted (step_named steps one) (λ first. and_then (step_named steps other) (λ second. and_then (unless uncovered (is_cut first second)) (λ _. begun steps name (cut_claim first second) grows.Closed))) new h0.2 in
    let h2 = inverted (step_named steps other) (λ second. and_then (unless uncovered (is_cut h1.0 second)) (λ _. begun steps name (cut_claim h1.0 second) grows.Closed)) new h1.2 in
    let h3 = inverted (unless uncovered (is_cut h1.0 h2.0)) (λ _. begun steps name (cut_claim h1.0 h2.0) grows.Closed) new h2.2 in
    begun_aligned steps new name (cut_claim h1.0 h2.0) grows.Closed h3.2 a
turn_aligned parse net_of tasks steps new (form.given clause) e a =
    let h0 = inverted (unless bad (may_grow steps.growth)) (λ _. and_then (clause_told (clause_fault tasks.vars (parse clause.value) (parse clause.guard) span.Absent)) (λ _. and_then (some_or (unresolved clause.node) (net_of clause.node)) (λ net. and_then (unless many (is_in_time clause.span)) (λ _. and_then (last_grown steps.growth (quint_given parse tasks.vars clause net) steps.claims) (λ claims. Ok (record { names = steps.names; claims = claims; leaves = steps.leaves; growth = steps.growth })))))) new e in
    let h1 = inverted (clause_told (clause_fault tasks.vars (parse clause.value) (parse clause.guard) span.Absent)) (λ _. and_then (some_or (unresolved clause.node) (net_of clause.node)) (λ net. and_then (unless many (is_in_time clause.span)) (λ _. and_then (last_grown steps.growth (quint_given parse tasks.vars clause net) steps.claims) (λ claims. Ok (record { names = steps.names; claims = claims; leaves = steps.leaves; growth = steps.growth }))))) new h0.2 in
    let h2 = inverted (some_or (unresolved clause.node) (net_of clause.node)) (λ net. and_then (unless many (is_in_time clause.span)) (λ _. and_then (last_grown steps.growth (quint_given parse tasks.vars clause net) steps.claims) (λ claims. Ok (record { names = steps.names; claims = claims; leaves = steps.leaves; growth = steps.growth })))) new h1.2 in
    let h3 = inverted (unless many (is_in_time clause.span)) (λ _. and_then (last_grown steps.growth (quint_given parse tasks.vars clause h2.0) steps.claims) (λ claims. Ok (record { names = steps.names; claims = claims; leaves = steps.leaves; growth = steps.growth }))) new h2.2 in
    let h4 = inverted (last_grown steps.growth (quint_given parse tasks.vars clause h2.0) steps.claims) (λ claims. Ok (record { names = steps.names; claims = claims; leaves = steps.leaves; growth = steps.growth })) new h3.2 in
    subst AreAligned (ok_is (record { names = steps.names; claims = h4.0; leaves = steps.leaves; growth = steps.growth }) new h4.2) (a ∙ sym (grown_length steps.growth (quint_given parse tasks.vars clause h2.0) steps.claims h4.0 h4.1))
turn_aligned parse net_of tasks steps new form.wrong e a = absurd (cc e)

-- what is wrong with the next line is what is answered
pub told_of : (line : ℕ) (found : Result Steps StepFault) (more : Steps → Result Steps (ℕ × StepFault)) (fault : ProofFault) → IsTold line found fault → IsAnswerOf (go_on (on_line line found) more) (Err fault)
told_of line found more (BadLine n) h = rw h.1 (rw h.0 refl)
told_of line found more (TooDeep n) h = rw h.1 (rw h.0 refl)
told_of line found more (DoubleName n name) h = rw h.1 (rw h.0 refl)
told_of line found more (UnknownName n name) h = rw h.1 (rw h.0 refl)
told_of line found more (UnknownVar n name) h = rw h.1 (rw h.0 refl)
told_of line found more (UnknownNode n name) h = rw h.1 (rw h.0 refl)
told_of line found more (HasReset n) h = rw h.1 (rw h.0 refl)
told_of line found more (BadNumber n) h = rw h.1 (rw h.0 refl)
told_of line found more (NotCovered n) h = rw h.1 (rw h.0 refl)
told_of line found more (TooMany n) h = rw h.1 (rw h.0 refl)
told_of line found more NoStep h = absurd h
told_of line found more OutOfMemory h = tt

-- the lines from one on
pub from_line : (lines : List Line) (i : ℕ) (line : Line) → i < length lines → line ≡ get_or lines i line → step_entries_of (drop i lines) ≡ step_entry_of line ∷ step_entries_of (drop (i + 1) lines)
from_line lines i line h g = ap step_entries_of (drop_more lines i line h ∙ ap (λ l. l ∷ drop (i + 1) lines) (sym g))

pub line_turn : (parse : Parse) (net_of : List ℕ → Option ℕ) (tasks : Tasks) (lines : List Line) (i : ℕ) (line : Line) (f : StepForm) (steps new : Steps) (all : Result Steps (ℕ × StepFault)) → i < length lines → line ≡ get_or lines i line → f ≡ step_form_of line.words → turn parse net_of tasks steps f ≡ Ok new → steps_behind parse net_of tasks steps (step_entries_of (drop i lines)) ≡ all → steps_behind parse net_of tasks new (step_entries_of (drop (i + 1) lines)) ≡ all
line_turn parse net_of tasks lines i line f steps new all h g same e inv =
    sym (ap (λ found. go_on (on_line line.number found) (λ next. steps_behind parse net_of tasks next (step_entries_of (drop (i + 1) lines)))) (ap (turn parse net_of tasks steps) (sym same) ∙ e)) ∙ sym (ap (steps_behind parse net_of tasks steps) (from_line lines i line h g)) ∙ inv

pub line_fault : (parse : Parse) (net_of : List ℕ → Option ℕ) (tasks : Tasks) (lines : List Line) (i : ℕ) (line : Line) (f : StepForm) (steps : Steps) (all : Result Steps (ℕ × StepFault)) (fault : ProofFault) → i < length lines → line ≡ get_or lines i line → f ≡ step_form_of line.words → IsTold line.number (turn parse net_of tasks steps f) fault → steps_behind parse net_of tasks steps (step_entries_of (drop i lines)) ≡ all → IsAnswerOf all (Err fault)
line_fault parse net_of tasks lines i line f steps all fault h g same told inv =
    subst (λ found. IsAnswerOf found (Err fault)) (sym (ap (steps_behind parse net_of tasks steps) (from_line lines i line h g)) ∙ inv) (told_of line.number (turn parse net_of tasks steps (step_form_of line.words)) _ fault (subst (λ w. IsTold line.number (turn parse net_of tasks steps w) fault) same told))

pub lines_end : (parse : Parse) (net_of : List ℕ → Option ℕ) (tasks : Tasks) (lines : List Line) (i : ℕ) (steps : Steps) (all : Result Steps (ℕ × StepFault)) (answer : Result Proof ProofFault) → length lines ≤ i → IsAnswerOf (Ok steps) answer → steps_behind parse net_of tasks steps (step_entries_of (drop i lines)) ≡ all → IsAnswerOf all answer
lines_end parse net_of tasks lines i steps all answer le is inv =
    subst (λ found. IsAnswerOf found answer) (sym (ap (λ ls. steps_behind parse net_of tasks steps (step_entries_of ls)) (drop_all i lines le)) ∙ inv) is

pub last_more : {X : Type 0} (xs : List X) (x : X) → last_of (xs ++ x ∷ []) ≡ Some x
last_more [] x = refl
last_more (y ∷ []) x = refl
last_more (y ∷ z ∷ xs) x = last_more (z ∷ xs) x

less_one : (n : ℕ) → suc n - 1 ≡ n
less_one n = grind (arith)

last_at : (key : List ℕ) (keys : List (List ℕ)) → slice_get (key ∷ keys) (length keys) ≡ last_of (key ∷ keys)
last_at key [] = refl
last_at key (next ∷ keys) = last_at next keys

pub last_name : (keys : List (List ℕ)) (name : List ℕ) → Some name ≡ slice_get keys (length keys - 1) → last_of keys ≡ Some name
last_name [] name e = absurd (cc e)
last_name (key ∷ keys) name e = sym (e ∙ ap (slice_get (key ∷ keys)) (less_one (length keys)) ∙ last_at key keys)

mapped_length : (steps : List Step) → length (map step_claim steps) ≡ length steps
mapped_length [] = refl
mapped_length (step ∷ steps) = ap suc (mapped_length steps)

pub some_name : (keys : List (List ℕ)) (all before : List Step) (step : Step) → length keys ≡ length (map step_claim all) → all ≡ before ++ step ∷ [] → 0 < length keys
some_name keys all before step same e =
    let n = mapped_length all in
    let m = ap length e ∙ one_longer before step in
    omega (arith, same, n, m)

pub last_claim : (all before : List Step) (step : Step) → all ≡ before ++ step ∷ [] → last_of (map step_claim all) ≡ Some (step_claim step)
last_claim all before step e = sym (ap last_of (held_more all before step e)) ∙ last_more (map step_claim before) (step_claim step)

-- there is an expression for each text that spells one
pub caused : (net_of : List ℕ → Option ℕ) (tasks : Tasks) (lines : List StepEntry) (answer : Result Proof ProofFault) → ((parse : Parse) → IsParse parse → IsProofAnswer parse net_of tasks lines answer) → (parse : Parse) × IsParse parse × IsProofAnswer parse net_of tasks lines answer
caused net_of tasks lines answer exact = (a_parse.0, a_parse.1, exact a_parse.0 a_parse.1)
