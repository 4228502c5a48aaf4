-- What is kept of the earlier lines is what the rules ask of them, and so the first fault is by the rules.
use Rattle.std.proofs.Common.{ℕ, suc, ◌<◌, ◌≡◌, inl, inr, refl, ap, sym, subst, ◌∙◌, List, [], ◌∷◌, length, drop, drop-cons, get_or, arith, Bool, true, false, ◌&&◌, nat_eq, if◌then◌else◌, Option, Some, None, slice_get}
use Rattle.std.proofs.lemmas.List.{length-drop}
use Rattle.std.proofs.lemmas.Option.{slice_get-get_or, slice_get-map}
use Rattle.std.specs.Option.{option_map}
use Rattle.net_core.specs.declared.cover.Lit.{Lit}
use Rattle.blif_syntax.specs.declared.form.Entry.{Entry}
use Rattle.blif_syntax.specs.declared.form.Form.{Form}
use Rattle.blif_syntax.specs.declared.form.Form.TheVariants.{Skipped, Model, End, Item, Names, Row, Wrong}
use Rattle.blif_syntax.specs.declared.form.LineFault.{LineFault}
use Rattle.blif_syntax.specs.declared.models.What.{What}
use Rattle.blif_syntax.specs.declared.open_cover.OpenCover.{OpenCover}
use Rattle.blif_syntax.specs.Places.{opens, covers, may_stand, row_fits, first_or, first_fault, is_same, line_fault_of, with_row}
use Rattle.blif_syntax.specs.Rules.{HasForm, IsOpen, GoesOn, Stands, StandsBefore, IsFirstFault, FirstFaultIsLeast}
use Rattle.blif_syntax.proofs.Faults.{fault_from, whole}
use Rattle.blif_syntax.proofs.Standing.{open_on, open_back, open_here, end_here, goes_on, goes_here, goes_back, one_form, moved, up_to, Begins, Between}

-- whether a model is open at place i, and the cover that a row there may go on with
pub record IsTied (lines : List Entry) (i : ℕ) (inside : Bool) (cover : Option OpenCover) : Type 0 where
  pub opened : inside ≡ true → IsOpen lines i
  pub closed : IsOpen lines i → inside ≡ true
  pub goes : (width : ℕ) (on : Bool) → row_fits width on cover ≡ true → GoesOn lines i width on
  pub fits : (width : ℕ) (on : Bool) → GoesOn lines i width on → row_fits width on cover ≡ true

both_true : (a b : Bool) → (a && b) ≡ true → (a ≡ true) × (b ≡ true)
both_true true b e = (refl, e)
both_true false b e = absurd (cc e)

same_bits : (a b : Bool) → is_same a b ≡ true → a ≡ b
same_bits true b e = sym e
same_bits false true e = absurd (cc e)
same_bits false false e = refl

is_same_self : (a : Bool) → is_same a a ≡ true
is_same_self true = refl
is_same_self false = refl

eq_self : (n : ℕ) → nat_eq n n ≡ true
eq_self n = grind arith

-- a line at which no cover begins or goes on
no_cover : (lines : List Entry) (i : ℕ) → ((width : ℕ) → Begins lines i width → ⊥) → ((on : Bool) → Between lines i on → ⊥) → (width : ℕ) (on : Bool) → GoesOn lines (suc i) width on → ⊥
no_cover lines i a b width on g = elim (goes_back lines i width on g) [ inl begins ↦ a width begins | inr later ↦ b on later.1 ]

-- nothing goes on with no cover
none_fits : (lines : List Entry) (i width : ℕ) (on : Bool) → row_fits width on None ≡ true → GoesOn lines i width on
none_fits lines i width on e = absurd (cc e)

at_passed : (lines : List Entry) (i : ℕ) (inside : Bool) (cover : Option OpenCover) → HasForm lines i Skipped → IsTied lines i inside cover → IsTied lines (suc i) inside cover
at_passed lines i inside cover has t = record {
  opened = λ e. open_on lines i (t.opened e) (λ end. absurd (cc (has, end)));
  closed = λ o. t.closed (open_back lines i o (λ name h. absurd (cc (has, h))));
  goes = λ width on e. goes_on lines i width on (t.goes width on e) (inl has);
  fits = λ width on g. elim (goes_back lines i width on g) [ inl begins ↦ absurd (cc (has, begins.2)) | inr later ↦ t.fits width on later.0 ];
}

at_model : (lines : List Entry) (i : ℕ) (name : List ℕ) → HasForm lines i (Model name) → IsTied lines (suc i) true None
at_model lines i name has = record {
  opened = λ e. open_here lines i name has;
  closed = λ o. refl;
  goes = none_fits lines (suc i);
  fits = λ width on g. absurd (no_cover lines i (λ w begins. absurd (cc (has, begins.2))) (λ bit b. elim b [ inl p ↦ absurd (cc (has, p)) | inr r ↦ absurd (cc (has, r.1)) ]) width on g);
}

at_end : (lines : List Entry) (i : ℕ) → HasForm lines i End → IsTied lines (suc i) false None
at_end lines i has = record {
  opened = λ e. absurd (cc e);
  closed = λ o. absurd (end_here lines i has o);
  goes = none_fits lines (suc i);
  fits = λ width on g. absurd (no_cover lines i (λ w begins. absurd (cc (has, begins.2))) (λ bit b. elim b [ inl p ↦ absurd (cc (has, p)) | inr r ↦ absurd (cc (has, r.1)) ]) width on g);
}

at_item : (lines : List Entry) (i : ℕ) (inside : Bool) (cover : Option OpenCover) (what : What) → HasForm lines i (Item what) → IsTied lines i inside cover → IsTied lines (suc i) inside None
at_item lines i inside cover what has t = record {
  opened = λ e. open_on lines i (t.opened e) (λ end. absurd (cc (has, end)));
  closed = λ o. t.closed (open_back lines i o (λ name h. absurd (cc (has, h))));
  goes = none_fits lines (suc i);
  fits = λ width on g. absurd (no_cover lines i (λ w begins. absurd (cc (has, begins.2))) (λ bit b. elim b [ inl p ↦ absurd (cc (has, p)) | inr r ↦ absurd (cc (has, r.1)) ]) width on g);
}

new_fits : (w width : ℕ) (on : Bool) → w ≡ width → row_fits w on (Some (record { width = width; first = None })) ≡ true
new_fits w width on e = rw e (rw (eq_self width) (is_same_self on))

at_names : (lines : List Entry) (i : ℕ) (inside : Bool) (cover : Option OpenCover) (width : ℕ) (inputs : List (List ℕ)) (output : List ℕ) → HasForm lines i (Names width inputs output) → IsTied lines i inside cover → IsTied lines (suc i) inside (Some (record { width = width; first = None }))
at_names lines i inside cover width inputs output has t = record {
  opened = λ e. open_on lines i (t.opened e) (λ end. absurd (cc (has, end)));
  closed = λ o. t.closed (open_back lines i o (λ name h. absurd (cc (has, h))));
  goes = λ w on e. let same : w ≡ width = grind (arith, (both_true (nat_eq w width) (is_same on on) e).0) in subst (λ n. GoesOn lines (suc i) n on) (sym same) (goes_here lines i width inputs output on has);
  fits = λ w on g. elim (goes_back lines i w on g) [ inl begins ↦ new_fits w width on (cc (has, begins.2)) | inr later ↦ elim later.1 [ inl p ↦ absurd (cc (has, p)) | inr r ↦ absurd (cc (has, r.1)) ] ];
}

-- a row of the same output character, before the first row was seen and after
row_goes : (w n width : ℕ) (on bit : Bool) (first : Option Bool) → (nat_eq n width && is_same (first_or first on) on) ≡ true → (nat_eq w width && is_same (first_or first on) bit) ≡ true → (on ≡ bit) × ((nat_eq w width && is_same (first_or first on) on) ≡ true)
row_goes w n width on bit first may e =
    let a = same_bits (first_or first on) on (both_true (nat_eq n width) (is_same (first_or first on) on) may).1 in
    let b = same_bits (first_or first on) bit (both_true (nat_eq w width) (is_same (first_or first on) bit) e).1 in
    let same : on ≡ bit = sym a ∙ b in
    (same, subst (λ x. (nat_eq w width && is_same (first_or first on) x) ≡ true) (sym same) e)

at_row : (lines : List Entry) (i : ℕ) (inside : Bool) (width : ℕ) (first : Option Bool) (row : List Lit) (on : Bool) → HasForm lines i (Row row on) → row_fits (length row) on (Some (record { width = width; first = first })) ≡ true → IsTied lines i inside (Some (record { width = width; first = first })) → IsTied lines (suc i) inside (with_row on (Some (record { width = width; first = first })))
at_row lines i inside width first row on has may t = record {
  opened = λ e. open_on lines i (t.opened e) (λ end. absurd (cc (has, end)));
  closed = λ o. t.closed (open_back lines i o (λ name h. absurd (cc (has, h))));
  goes = λ w bit e.
      let same = row_goes w (length row) width on bit first may e in
      subst (λ b. GoesOn lines (suc i) w b) same.0 (goes_on lines i w on (t.goes w on same.1) (inr (row, has)));
  fits = λ w bit g. elim (goes_back lines i w bit g) [
    | inl begins ↦ absurd (cc (has, begins.2))
    | inr later ↦ elim later.1 [
      | inl p ↦ absurd (cc (has, p))
      | inr r ↦
          let same : bit ≡ on = cc (has, r.1) in
          subst (λ b. (nat_eq w width && is_same (first_or first b) bit) ≡ true) same (t.fits w bit later.0)
    ]
  ];
}

at_row_of : (lines : List Entry) (i : ℕ) (inside : Bool) (cover : Option OpenCover) (row : List Lit) (on : Bool) → HasForm lines i (Row row on) → row_fits (length row) on cover ≡ true → IsTied lines i inside cover → IsTied lines (suc i) inside (with_row on cover)
at_row_of lines i inside None row on has may t = absurd (cc may)
at_row_of lines i inside (Some opened) row on has may t = at_row lines i inside opened.width opened.first row on has may t

-- one more line
tied : (lines : List Entry) (i : ℕ) (inside : Bool) (cover : Option OpenCover) (form : Form) → HasForm lines i form → may_stand form inside cover ≡ true → IsTied lines i inside cover → IsTied lines (suc i) (opens form inside) (covers form cover)
tied lines i inside cover Skipped has may t = at_passed lines i inside cover has t
tied lines i inside cover (Model name) has may t = at_model lines i name has
tied lines i inside cover End has may t = at_end lines i has
tied lines i inside cover (Item what) has may t = at_item lines i inside cover what has t
tied lines i inside cover (Names width inputs output) has may t = at_names lines i inside cover width inputs output has t
tied lines i inside cover (Row row on) has may t = at_row_of lines i inside cover row on has may t
tied lines i inside cover (Wrong kind) has may t = absurd (cc may)

-- before the first line
tied_first : (lines : List Entry) → IsTied lines 0 false None
tied_first lines = record {
  opened = λ e. absurd (cc e);
  closed = λ o. absurd (omega (arith, o.earlier));
  goes = none_fits lines 0;
  fits = λ width on g. absurd (omega (arith, g.earlier));
}

stands : (lines : List Entry) (i : ℕ) (inside : Bool) (cover : Option OpenCover) (form : Form) → may_stand form inside cover ≡ true → IsTied lines i inside cover → Stands lines i form
stands lines i inside cover Skipped may t = tt
stands lines i inside cover (Model name) may t = tt
stands lines i inside cover End may t = t.opened may
stands lines i inside cover (Item what) may t = t.opened may
stands lines i inside cover (Names width inputs output) may t = t.opened may
stands lines i inside cover (Row row on) may t = t.goes (length row) on may
stands lines i inside cover (Wrong kind) may t = absurd (cc may)

cannot : (bit : Bool) → bit ≡ false → bit ≡ true → ⊥
cannot bit a b = absurd (cc (a, b))

faulty : (lines : List Entry) (i : ℕ) (inside : Bool) (cover : Option OpenCover) (form : Form) → may_stand form inside cover ≡ false → IsTied lines i inside cover → Stands lines i form → ⊥
faulty lines i inside cover Skipped may t s = absurd (cc may)
faulty lines i inside cover (Model name) may t s = absurd (cc may)
faulty lines i inside cover End may t s = cannot inside may (t.closed s)
faulty lines i inside cover (Item what) may t s = cannot inside may (t.closed s)
faulty lines i inside cover (Names width inputs output) may t s = cannot inside may (t.closed s)
faulty lines i inside cover (Row row on) may t s = cannot (row_fits (length row) on cover) may (t.fits (length row) on s)
faulty lines i inside cover (Wrong kind) may t s = s

here : (lines : List Entry) (i : ℕ) (line : Entry) (rest : List Entry) → drop i lines ≡ line ∷ rest → (slice_get lines i ≡ Some line) × (drop (suc i) lines ≡ rest)
here lines i line rest d =
    let within : i < length lines = omega (arith, ap length d, length-drop i lines) in
    let e : get_or lines i line ∷ drop (suc i) lines ≡ line ∷ rest = sym (drop-cons lines i line within) ∙ d in
    (slice_get-get_or lines i line within ∙ ap Some (cc e), cc e)

formed : (lines : List Entry) (i : ℕ) (line : Entry) → slice_get lines i ≡ Some line → HasForm lines i line.form
formed lines i line e = slice_get-map (λ (entry : Entry). entry.form) lines i ∙ ap (option_map (λ (entry : Entry). entry.form)) e

-- each line up to place i may stand
stand_before : (lines : List Entry) (i : ℕ) (form : Form) → HasForm lines i form → Stands lines i form → StandsBefore lines i → StandsBefore lines (suc i)
stand_before lines i form has stands before k other below there = elim (up_to k i below) [
  | inl same ↦ subst (λ n. Stands lines n other) (sym same) (subst (λ f. Stands lines i f) (one_form lines i form other has (moved lines k i other same there)) stands)
  | inr earlier ↦ before k other earlier there
]

-- what the first fault says
abbrev pub Decided : List Entry → Option (ℕ × LineFault) → Type 0
Decided lines None = StandsBefore lines (length lines)
Decided lines (Some fault) = IsFirstFault lines fault.0 fault.1

turn : (c : Bool) (lines : List Entry) (i : ℕ) (line : Entry) (inside : Bool) (cover : Option OpenCover) (later : Option (ℕ × LineFault)) → may_stand line.form inside cover ≡ c → slice_get lines i ≡ Some line → IsTied lines i inside cover → StandsBefore lines i → (may_stand line.form inside cover ≡ true → Decided lines later) → Decided lines (if c then later else Some (line.line, line_fault_of line.form))
turn true lines i line inside cover later may at t s next = next may
turn false lines i line inside cover later may at t s next = record { place = i; entry = line; here = at; faulty = faulty lines i inside cover line.form may t; least = s; numbered = refl; called = refl }

walk : (lines rest : List Entry) (i : ℕ) (inside : Bool) (cover : Option OpenCover) → drop i lines ≡ rest → IsTied lines i inside cover → StandsBefore lines i → Decided lines (fault_from inside cover rest)
walk lines [] i inside cover d t s = λ k form below has. s k form (omega (arith, below, ap length d, length-drop i lines)) has
walk lines (line ∷ rest) i inside cover d t s =
    let at = here lines i line rest d in
    let has = formed lines i line at.0 in
    turn (may_stand line.form inside cover) lines i line inside cover (fault_from (opens line.form inside) (covers line.form cover) rest) refl at.0 t s
    (λ may. walk lines rest (suc i) (opens line.form inside) (covers line.form cover) at.1 (tied lines i inside cover line.form has may t) (stand_before lines i line.form has (stands lines i inside cover line.form may t) s))

decided : (lines : List Entry) → Decided lines (first_fault [] lines)
decided lines = subst (Decided lines) (whole lines) (walk lines lines 0 false None refl (tied_first lines) (λ k form below has. absurd (omega (arith, below))))

pub first_is_least : FirstFaultIsLeast
first_is_least = record {
  some = λ lines number kind e. subst (Decided lines) e (decided lines);
  none = λ lines e. subst (Decided lines) e (decided lines);
}
