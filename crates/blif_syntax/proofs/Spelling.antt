-- What the words that are written spell.
use Rattle.std.proofs.Common.{ℕ, suc, ◌-◌, ◌≡◌, ◌≢◌, refl, ap, ◌∙◌, List, [], ◌∷◌, ◌++◌, length, map, take, drop, All, arith, Bool, true, false, not, IsTrue, if◌then◌else◌, Option, Some, None, slice_get, codes, length-append, ◌||◌}
use Rattle.std.specs.Str.{bytes_eq}
use Rattle.std.specs.List.{list_all, list_any}
use Rattle.std.proofs.Math.Seq.{take-append_seam}
use Rattle.std.proofs.lemmas.Slice.Eq.{bytes_eq-Decides}
use Rattle.blif_lines.specs.Lines.{before, is_filled}
use Rattle.net_core.specs.declared.cover.Lit.{Lit}
use Rattle.net_core.specs.declared.cover.Lit.TheVariants as lit
use Rattle.net_core.specs.declared.raw.Init.{Init}
use Rattle.net_core.specs.declared.raw.Init.TheVariants as init
use Rattle.blif_syntax.specs.declared.form.Form.TheVariants.{Item, Names, Row}
use Rattle.blif_syntax.specs.declared.models.LatchKind.TheVariants.{Plain, Rising, Falling}
use Rattle.blif_syntax.specs.declared.models.What.TheVariants as what
use Rattle.blif_syntax.specs.Forms.{form_of, names_with, latch_with, bad, is_equals, binding_with, binding_of, with_binding, bindings_of, use_with}
use Rattle.blif_syntax.specs.Words.{control_of, init_of, is_literal, literal_of}
use Rattle.blif_syntax.specs.Written.{literal_byte, row_words, init_word, control_word, IsBinding}

is_literal_byte : (literal : Lit) → is_literal (literal_byte literal) ≡ true
is_literal_byte lit.Zero = refl
is_literal_byte lit.One = refl
is_literal_byte lit.Any = refl

literal_back : (literal : Lit) → literal_of (literal_byte literal) ≡ literal
literal_back lit.Zero = refl
literal_back lit.One = refl
literal_back lit.Any = refl

all_literals : (row : List Lit) → list_all is_literal (map literal_byte row) ≡ true
all_literals [] = refl
all_literals (literal ∷ row) = rw (is_literal_byte literal) (all_literals row)

literals_back : (row : List Lit) → map literal_of (map literal_byte row) ≡ row
literals_back [] = refl
literals_back (literal ∷ row) = rw (literal_back literal) (ap (λ more. literal ∷ more) (literals_back row))

filled_row : (on : Bool) (literal : Lit) (row : List Lit) → (if list_all is_literal (map literal_byte (literal ∷ row)) then Row (map literal_of (map literal_byte (literal ∷ row))) on else bad) ≡ Row (literal ∷ row) on
filled_row on literal row = rw (all_literals (literal ∷ row)) (ap (λ back. Row back on) (literals_back (literal ∷ row)))

-- the words of a row spell it
pub row_form : (on : Bool) (row : List Lit) → form_of (row_words on row) ≡ Row row on
row_form true [] = refl
row_form false [] = refl
row_form true (lit.Zero ∷ row) = filled_row true lit.Zero row
row_form true (lit.One ∷ row) = filled_row true lit.One row
row_form true (lit.Any ∷ row) = filled_row true lit.Any row
row_form false (lit.Zero ∷ row) = filled_row false lit.Zero row
row_form false (lit.One ∷ row) = filled_row false lit.One row
row_form false (lit.Any ∷ row) = filled_row false lit.Any row

last_word : (inputs : List (List ℕ)) (output : List ℕ) → slice_get (inputs ++ output ∷ []) (length inputs) ≡ Some output
last_word [] output = refl
last_word (input ∷ inputs) output = last_word inputs output

-- the words of a `.names` line spell it
pub names_form : (inputs : List (List ℕ)) (output : List ℕ) → form_of (codes ".names" ∷ (inputs ++ output ∷ [])) ≡ Names (length inputs) inputs output
names_form inputs output =
    let e : length (inputs ++ output ∷ []) - 1 ≡ length inputs = omega (arith, length-append inputs (output ∷ [])) in
    ap (λ n. names_with (take n (inputs ++ output ∷ [])) (slice_get (inputs ++ output ∷ []) n)) e
    ∙ ap (λ front. names_with front (slice_get (inputs ++ output ∷ []) (length inputs))) (take-append_seam inputs (output ∷ []))
    ∙ ap (names_with inputs) (last_word inputs output)

init_back : (init : Init) → init_of (init_word init) ≡ Some init
init_back init.Zero = refl
init_back init.One = refl
init_back init.Free = refl

unless_nil : (bit : Bool) (control : List ℕ) → (bit ≡ true → ⊥) → (if bit then None else Some control) ≡ Some control
unless_nil true control h = absurd (h refl)
unless_nil false control h = refl

control_back : (control : Option (List ℕ)) → control ≢ Some (codes "NIL") → control_of (control_word control) ≡ control
control_back None h = refl
control_back (Some control) h = unless_nil (bytes_eq control (codes "NIL")) control (λ e. h (ap Some ((bytes_eq-Decides control (codes "NIL")).0 e)))

-- the words of a latch without a type, and with one
pub plain_form : (input output : List ℕ) (init : Init) → form_of (codes ".latch" ∷ input ∷ output ∷ init_word init ∷ []) ≡ Item (what.Latch input output Plain None init)
plain_form input output init = ap (latch_with input output (Some Plain) None) (init_back init)

pub rising_form : (input output : List ℕ) (control : Option (List ℕ)) (init : Init) → control ≢ Some (codes "NIL") → form_of (codes ".latch" ∷ input ∷ output ∷ codes "re" ∷ control_word control ∷ init_word init ∷ []) ≡ Item (what.Latch input output Rising control init)
rising_form input output control init h =
    ap (latch_with input output (Some Rising) (control_of (control_word control))) (init_back init)
    ∙ ap (λ c. latch_with input output (Some Rising) c (Some init)) (control_back control h)

pub falling_form : (input output : List ℕ) (control : Option (List ℕ)) (init : Init) → control ≢ Some (codes "NIL") → form_of (codes ".latch" ∷ input ∷ output ∷ codes "fe" ∷ control_word control ∷ init_word init ∷ []) ≡ Item (what.Latch input output Falling control init)
falling_form input output control init h =
    ap (latch_with input output (Some Falling) (control_of (control_word control))) (init_back init)
    ∙ ap (λ c. latch_with input output (Some Falling) c (Some init)) (control_back control h)

up_to_equals : (bit : Bool) (byte : ℕ) (formal rest : List ℕ) → bit ≡ false → rest ≡ formal → (if bit then [] else byte ∷ rest) ≡ byte ∷ formal
up_to_equals true byte formal rest h e = absurd (cc h)
up_to_equals false byte formal rest h e = ap (λ more. byte ∷ more) e

neither : (a b : Bool) → IsTrue (not (a || b)) → (a ≡ false) × IsTrue (not b)
neither true b h = absurd (cc h)
neither false b h = (refl, h)

-- a formal without `=` is what stands before the first
formal_back : (formal actual : List ℕ) → IsTrue (not (list_any is_equals formal)) → before is_equals (formal ++ 61 ∷ actual) ≡ formal
formal_back [] actual h = refl
formal_back (byte ∷ formal) actual h =
    let each = neither (is_equals byte) (list_any is_equals formal) h in
    up_to_equals (is_equals byte) byte formal (before is_equals (formal ++ 61 ∷ actual)) each.0 (formal_back formal actual each.1)

actual_back : (formal actual : List ℕ) → drop (suc (length formal)) (formal ++ 61 ∷ actual) ≡ actual
actual_back [] actual = refl
actual_back (byte ∷ formal) actual = actual_back formal actual

both_filled : (formal actual : List ℕ) → IsTrue (is_filled formal) → IsTrue (is_filled actual) → binding_with formal actual ≡ Some (formal, actual)
both_filled [] actual a b = absurd (cc a)
both_filled (byte ∷ formal) [] a b = absurd (cc b)
both_filled (byte ∷ formal) (other ∷ actual) a b = refl

binding_back : (binding : List ℕ × List ℕ) → IsBinding binding → binding_of (binding.0 ++ (61 ∷ binding.1)) ≡ Some binding
binding_back binding is =
    let word = binding.0 ++ (61 ∷ binding.1) in
    ap (λ formal. binding_with formal (drop (suc (length formal)) word)) (formal_back binding.0 binding.1 is.once)
    ∙ ap (binding_with binding.0) (actual_back binding.0 binding.1)
    ∙ both_filled binding.0 binding.1 is.formal is.actual

bindings_back : (formals : List (List ℕ × List ℕ)) → All IsBinding formals → bindings_of (map (λ binding. binding.0 ++ (61 ∷ binding.1)) formals) ≡ Some formals
bindings_back [] all = refl
bindings_back (binding ∷ formals) all =
    ap (λ one. with_binding one (bindings_of (map (λ binding. binding.0 ++ (61 ∷ binding.1)) formals))) (binding_back binding (all 0 binding (omega arith)))
    ∙ ap (with_binding (Some binding)) (bindings_back formals (λ k d below. all (suc k) d (omega (arith, below))))

-- the words of a `.subckt` line spell it
pub use_form : (model : List ℕ) (formals : List (List ℕ × List ℕ)) → All IsBinding formals → form_of (codes ".subckt" ∷ model ∷ map (λ binding. binding.0 ++ (61 ∷ binding.1)) formals) ≡ Item (what.Subckt model formals)
use_form model formals all = ap (use_with model) (bindings_back formals all)
