-- The items of a model, part by part.
use Rattle.std.proofs.Common.{ℕ, zero, suc, ◌+◌, ◌<◌, ◌≤◌, ◌≡◌, refl, ap, sym, ◌∙◌, List, [], ◌∷◌, ◌++◌, append_assoc, length, map, take, get_or, arith, Bool, true, false}
use Rattle.std.specs.Prelude.{◌||◌, flat_map, if◌then◌else◌, nat_eq}
use Rattle.std.specs.List.{list_any, zip}
use Rattle.std.proofs.lemmas.List.{map_more}
use Rattle.std.proofs.lemmas.Slice.Zip.{get_or-zip, length-zip}
use Rattle.blif_syntax.specs.declared.models.Item.{Item}
use Rattle.aig_model.specs.declared.aig.Aig.{Aig}
use Rattle.aig_model.specs.declared.aig.AigAnd.{AigAnd}
use Rattle.aig_model.specs.declared.aig.AigLatch.{AigLatch}
use Rattle.aig_model.specs.declared.aig.AigOutput.{AigOutput}
use Rattle.aig_model.specs.Literals.{variable_of}
use Rattle.aig_model.specs.Netlist.{mentions_zero, zero_item}
use Rattle.aig_model.specs.Sound.{and_literals, mentioned_literals}
use Rattle.aig_reader.specs.private.Taken.{ands_mention_zero, latches_mention_zero, outputs_mention_zero, zero_items}

-- one element more has its item
pub map_turn : {X Z : Type 0} (f : X → Z) (xs : List X) (i : ℕ) (d : X) (item : Z) (items grown
    start : List Z) → i < length xs → item ≡ f (get_or xs i d) → grown ≡ items ++ item ∷ [] →
    items ≡ start ++ map f (take i xs) → grown ≡ start ++ map f (take (i + 1) xs)
map_turn f xs i d item items grown start lt e g inv =
    g ∙ (λ k. inv k ++ e k ∷ [])
    ∙ append_assoc start (map f (take i xs)) (f (get_or xs i d) ∷ [])
    ∙ ap (λ is. start ++ is) (sym (map_more f xs i d lt))

-- one output more has its item
pub zip_turn : {X Y Z : Type 0} (f : X → Y → Z) (xs : List X) (ys : List Y) (i : ℕ) (d : X) (y : Y)
    (item : Z) (items grown start : List Z) → length ys ≡ length xs → i < length xs →
    y ≡ get_or ys i y → item ≡ f (get_or xs i d) y → grown ≡ items ++ item ∷ [] →
    items ≡ start ++ map (λ at. f at.0 at.1) (take i (zip xs ys)) →
    grown ≡ start ++ map (λ at. f at.0 at.1) (take (i + 1) (zip xs ys))
zip_turn f xs ys i d y item items grown start same lt ey e g inv =
    let within : i < length (zip xs ys) = omega (arith, length-zip xs ys) in
    let here = get_or-zip xs ys i (d, y) lt (omega arith) in
    let pair = e ∙ sym (ap (λ at. f at.0 at.1) here ∙ ap (f (get_or xs i d)) (sym ey)) in
    map_turn (λ at. f at.0 at.1) (zip xs ys) i (d, y) item items grown start within pair g inv

all_taken : {X : Type 0} (n : ℕ) (xs : List X) → length xs ≤ n → take n xs ≡ xs
all_taken zero [] h = refl
all_taken zero (x ∷ xs) h = absurd (omega arith)
all_taken (suc n) [] h = refl
all_taken (suc n) (x ∷ xs) h = ap (λ ys. x ∷ ys) (all_taken n xs (omega arith))

-- all outputs have their items
pub zip_end : {X Y Z : Type 0} (f : X → Y → Z) (xs : List X) (ys : List Y) (i : ℕ) (items start :
    List Z) → length xs ≤ i → items ≡ start ++ map (λ at. f at.0 at.1) (take i (zip xs ys)) →
    items ≡ start ++ map (λ at. f at.0 at.1) (zip xs ys)
zip_end f xs ys i items start h inv = inv ∙ ap (λ pairs. start ++ map
    (λ at. f at.0 at.1) pairs) (all_taken i (zip xs ys) (omega (arith, length-zip xs ys)))

any_append : {X : Type 0} (p : X → Bool) (xs ys : List X) →
    list_any p (xs ++ ys) ≡ list_any p xs || list_any p ys
any_append p [] ys = refl
any_append p (x ∷ xs) ys = ap (λ b. p x || b) (any_append p xs ys)
    ∙ by (p x) (list_any p xs) (list_any p ys)
  where
    by : (a b c : Bool) → a || (b || c) ≡ (a || b) || c
    by true b c = refl
    by false b c = refl

any_mapped : {X Y : Type 0} (f : X → Y) (p : Y → Bool) (xs : List X) →
    list_any p (map f xs) ≡ list_any (λ x. p (f x)) xs
any_mapped f p [] = refl
any_mapped f p (x ∷ xs) = ap (λ b. p (f x) || b) (any_mapped f p xs)

any_ands : (ands : List AigAnd) → list_any (λ literal. nat_eq (variable_of literal) 0) (flat_map
    and_literals ands) ≡ ands_mention_zero ands
any_ands [] = refl
any_ands (a ∷ ands) = ap (λ b. nat_eq (variable_of a.left) 0 || (nat_eq (variable_of a.right) 0 ||
    b)) (any_ands ands) ∙ by (nat_eq (variable_of a.left) 0) (nat_eq (variable_of a.right) 0)
    (ands_mention_zero ands)
  where
    by : (a b c : Bool) → a || (b || c) ≡ (a || b) || c
    by true b c = refl
    by false b c = refl

-- variable 0 is mentioned by a latch, an AND or an output
zero_mentioned : (aig : Aig) → mentions_zero aig ≡ latches_mention_zero aig.latches ||
    (ands_mention_zero aig.ands || outputs_mention_zero aig.outputs)
zero_mentioned aig =
    let zero_test = λ (literal : ℕ). nat_eq (variable_of literal) 0 in
    let nexts = map (λ (l : AigLatch). l.next) aig.latches in
    let outs = map (λ (out : AigOutput). out.literal) aig.outputs in
    any_append zero_test nexts (flat_map and_literals aig.ands ++ outs)
    ∙ ap (λ b. list_any zero_test nexts || b) (any_append zero_test (flat_map and_literals aig.ands)
    outs)
    ∙ (λ i. any_mapped (λ (l : AigLatch). l.next) zero_test aig.latches i || (any_ands aig.ands i ||
    any_mapped (λ (out : AigOutput). out.literal) zero_test aig.outputs i))

-- so its item is where it has to be
pub zero_items_are : (aig : Aig) → zero_items aig ≡ (if mentions_zero aig then zero_item aig ∷ []
    else [])
zero_items_are aig = ap (λ b. if b then zero_item aig ∷ [] else []) (sym (zero_mentioned aig))

-- the parts, one behind the other
pub all_items : {X : Type 0} (first second : X) (one two three four five six items : List X) (c d e
    f : List X) → one ≡ first ∷ [] → two ≡ one ++ second ∷ [] → three ≡ two ++ c →
    four ≡ three ++ d → five ≡ four ++ e → six ≡ five ++ f → (rest : List X) → items ≡ six ++ rest →
    items ≡ first ∷ second ∷ (c ++ (d ++ (e ++ (f ++ rest))))
all_items first second one two three four five six items c d e f h1 h2 h3 h4 h5 h6 rest h7 =
    h7 ∙ ap (λ xs. xs ++ rest) (h6 ∙ ap (λ xs. xs ++ f) (h5 ∙ ap (λ xs. xs ++ e) (h4 ∙ ap
    (λ xs. xs ++ d) (h3 ∙ ap (λ xs. xs ++ c) (h2 ∙ ap (λ xs. xs ++ second ∷ []) h1)))))
    ∙ ap (λ xs. first ∷ second ∷ xs) (append_assoc (((c ++ d) ++ e)) f rest
    ∙ append_assoc (c ++ d) e (f ++ rest) ∙ append_assoc c d (e ++ (f ++ rest)))
