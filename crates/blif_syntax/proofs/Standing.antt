-- Where lines may stand, in plain terms and from what is kept of the earlier lines.
use Rattle.std.proofs.Common.{ℕ, suc, ◌<◌, ◌≡◌, ◌⊎◌, inl, inr, sym, subst, List, arith, Bool}
use Rattle.std.proofs.Math.Nat.{eq-or-lt_of_le}
use Rattle.net_core.specs.declared.cover.Lit.{Lit}
use Rattle.blif_syntax.specs.declared.form.Entry.{Entry}
use Rattle.blif_syntax.specs.declared.form.Form.{Form}
use Rattle.blif_syntax.specs.declared.form.Form.TheVariants.{Skipped, Model, End, Names, Row}
use Rattle.blif_syntax.specs.Rules.{HasForm, IsOpen, GoesOn}

pub up_to : (k i : ℕ) → k < suc i → (k ≡ i) ⊎ (k < i)
up_to k i h = eq-or-lt_of_le {n = k} {m = i} (omega (arith, h))

-- at one place stands one form
pub one_form : (lines : List Entry) (i : ℕ) (a b : Form) → HasForm lines i a → HasForm lines i b → a ≡ b
one_form lines i a b x y = cc (x, y)

-- the form at a place, where that is the last of some places
pub moved : (lines : List Entry) (k i : ℕ) (form : Form) → k ≡ i → HasForm lines k form → HasForm lines i form
moved lines k i form e has = subst (λ n. HasForm lines n form) e has

-- A model that is open stays so.
pub open_on : (lines : List Entry) (i : ℕ) → IsOpen lines i → (HasForm lines i End → ⊥) → IsOpen lines (suc i)
open_on lines i o other = record {
  start = o.start;
  name = o.name;
  earlier = omega (arith, o.earlier);
  starts = o.starts;
  unended = λ k above below has. elim (up_to k i below) [ inr before ↦ o.unended k above before has | inl same ↦ other (moved lines k i End same has) ];
}

pub open_back : (lines : List Entry) (i : ℕ) → IsOpen lines (suc i) → ((name : List ℕ) → HasForm lines i (Model name) → ⊥) → IsOpen lines i
open_back lines i o other = elim (up_to o.start i o.earlier) [
  | inr before ↦ record { start = o.start; name = o.name; earlier = before; starts = o.starts; unended = λ k above below has. o.unended k above (omega (arith, below)) has }
  | inl same ↦ absurd (other o.name (moved lines o.start i (Model o.name) same o.starts))
]

pub open_here : (lines : List Entry) (i : ℕ) (name : List ℕ) → HasForm lines i (Model name) → IsOpen lines (suc i)
open_here lines i name has = record { start = i; name = name; earlier = omega arith; starts = has; unended = λ k above below end. absurd (omega (arith, above, below)) }

pub end_here : (lines : List Entry) (i : ℕ) → HasForm lines i End → IsOpen lines (suc i) → ⊥
end_here lines i has o = elim (up_to o.start i o.earlier) [
  | inr before ↦ o.unended i before (omega arith) has
  | inl same ↦ absurd (cc (one_form lines i (Model o.name) End (moved lines o.start i (Model o.name) same o.starts) has))
]

-- the line at place i does not end the cover whose rows have this output character
abbrev pub Between : List Entry → ℕ → Bool → Type 0
Between lines i on = HasForm lines i Skipped ⊎ ((row : List Lit) × HasForm lines i (Row row on))

between_moved : (lines : List Entry) (k i : ℕ) (on : Bool) → k ≡ i → Between lines i on → Between lines k on
between_moved lines k i on e b = subst (λ n. Between lines n on) (sym e) b

pub goes_on : (lines : List Entry) (i width : ℕ) (on : Bool) → GoesOn lines i width on → Between lines i on → GoesOn lines (suc i) width on
goes_on lines i width on g b = record {
  head = g.head;
  inputs = g.inputs;
  output = g.output;
  earlier = omega (arith, g.earlier);
  heads = g.heads;
  between = λ k above below. elim (up_to k i below) [ inr before ↦ g.between k above before | inl same ↦ between_moved lines k i on same b ];
}

pub goes_here : (lines : List Entry) (i width : ℕ) (inputs : List (List ℕ)) (output : List ℕ) (on : Bool) → HasForm lines i (Names width inputs output) → GoesOn lines (suc i) width on
goes_here lines i width inputs output on has = record { head = i; inputs = inputs; output = output; earlier = omega arith; heads = has; between = λ k above below. absurd (omega (arith, above, below)) }

-- the cover begins at place i
abbrev pub Begins : List Entry → ℕ → ℕ → Type 0
Begins lines i width = (inputs : List (List ℕ)) × (output : List ℕ) × HasForm lines i (Names width inputs output)

pub goes_back : (lines : List Entry) (i width : ℕ) (on : Bool) → GoesOn lines (suc i) width on → Begins lines i width ⊎ (GoesOn lines i width on × Between lines i on)
goes_back lines i width on g = elim (up_to g.head i g.earlier) [
  | inr before ↦ inr (record { head = g.head; inputs = g.inputs; output = g.output; earlier = before; heads = g.heads; between = λ k above below. g.between k above (omega (arith, below)) }, g.between i before (omega arith))
  | inl same ↦ inl (g.inputs, g.output, moved lines g.head i (Names width g.inputs g.output) same g.heads)
]
