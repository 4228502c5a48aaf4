-- The gates, latches and signals of the model that a text is read as.
use Rattle.std.proofs.Common.{◌≡◌, ℕ, zero, suc, ◌<◌, Bool, true, false, List, [], ◌∷◌, ◌++◌, map, Option, None, Some, slice_get, refl, sym, ap, arith, subst, inl, inr, ◌∙◌}
use Rattle.std.specs.Prelude.{◌⊎◌, ◌||◌, nat_eq, if◌then◌else◌, option_and_then}
use Rattle.std.specs.List.{zip}
use Rattle.blif_syntax.specs.declared.models.Item.{Item}
use Rattle.blif_syntax.specs.declared.models.LatchKind.TheVariants.{Plain}
use Rattle.blif_syntax.specs.declared.models.Model.{Model}
use Rattle.net_core.specs.declared.cover.Lit.TheVariants.{Zero}
use Rattle.hierarchy.specs.Lines.{GateLine, LatchLine, UseLine, gate_lines, gate_of, latch_lines, latch_of, signal_words, use_lines, use_of}
use Rattle.hierarchy.specs.Instances.{actual_of, bound_to, model_at, model_named, use_at}
use Rattle.hierarchy.proofs.Members.{In, append_cases, filter_map_in, in_append_left, in_append_right, in_filter_map, in_map, map_in}
use Rattle.aig_model.specs.declared.aig.Aig.{Aig}
use Rattle.aig_model.specs.declared.aig.AigAnd.{AigAnd}
use Rattle.aig_model.specs.declared.aig.AigLatch.{AigLatch}
use Rattle.aig_model.specs.declared.aig.AigOutput.{AigOutput}
use Rattle.aig_model.specs.Literals.{is_odd, variable_of}
use Rattle.aig_model.specs.Names.{literal_name, output_names, own_opposite, variable_name}
use Rattle.aig_model.specs.Netlist.{and_item, gate_items, is_opposite, latch_item, lit_of, mentions_zero, model_of, next_bound, one_row, opposite_item, opposites, opposites_below, output_item, zero_item}

-- the gates as lines
abbrev pub and_gate : Aig → AigAnd → GateLine
and_gate aig a = record {
  inputs = variable_name aig (variable_of a.left) ∷ variable_name aig (variable_of a.right) ∷ [];
  output = variable_name aig a.var;
  cover = one_row 2 (lit_of a.left ∷ lit_of a.right ∷ []);
}

abbrev pub output_gate : Aig → AigOutput → List ℕ → GateLine
output_gate aig out name = record {
  inputs = variable_name aig (variable_of out.literal) ∷ [];
  output = name;
  cover = one_row 1 (lit_of out.literal ∷ []);
}

abbrev pub opposite_gate : Aig → ℕ → GateLine
opposite_gate aig v = record {
  inputs = variable_name aig v ∷ [];
  output = own_opposite v;
  cover = one_row 1 (Zero ∷ []);
}

abbrev pub zero_gate : Aig → GateLine
zero_gate aig = record {
  inputs = [];
  output = variable_name aig 0;
  cover = record { inputs = 0; on = true; rows = [] };
}

abbrev pub latch_line : Aig → AigLatch → LatchLine
latch_line aig l = record {
  input = literal_name aig l.next;
  output = variable_name aig l.var;
  kind = Plain;
  control = None;
  init = l.init;
}

-- the outputs with their names
abbrev pub named_outputs : Aig → List (AigOutput × List ℕ)
named_outputs aig = zip aig.outputs (output_names aig)

-- what an item of the model is
pub data IsItem (aig : Aig) (item : Item) : Type 0 where
  inputs : signal_words item.what ≡ map (variable_name aig) aig.inputs → gate_of item.what ≡ None →
      latch_of item.what ≡ None → use_of item ≡ None → IsItem aig item
  outputs : signal_words item.what ≡ output_names aig → gate_of item.what ≡ None →
      latch_of item.what ≡ None → use_of item ≡ None → IsItem aig item
  latch : (l : AigLatch) → In aig.latches l → latch_item aig l ≡ item → IsItem aig item
  and : (a : AigAnd) → In aig.ands a → and_item aig a ≡ item → IsItem aig item
  output : (at : AigOutput × List ℕ) → In (named_outputs aig) at →
      output_item aig at.0 at.1 ≡ item → IsItem aig item
  opposite : (v : ℕ) → In (opposites aig) v → opposite_item aig v ≡ item → IsItem aig item
  zero_of : mentions_zero aig ≡ true → zero_item aig ≡ item → IsItem aig item

zero_in : (aig : Aig) (item : Item) (b : Bool) → mentions_zero aig ≡ b →
    In (if b then zero_item aig ∷ [] else []) item → IsItem aig item
zero_in aig item true e (inl i) = zero_of e i
zero_in aig item true e (inr h) = absurd h
zero_in aig item false e h = absurd h

opposite_in : (aig : Aig) (item : Item) → In (map (opposite_item aig) (opposites aig)) item →
    IsItem aig item
opposite_in aig item h = let r = map_in (opposite_item aig) (opposites aig) item h in opposite r.0
    r.1 r.2

output_in : (aig : Aig) (item : Item) → In (map
    (λ at. output_item aig at.0 at.1) (named_outputs aig)) item → IsItem aig item
output_in aig item h = let r = map_in (λ (at : AigOutput × List ℕ). output_item aig at.0 at.1)
    (named_outputs aig) item h in output r.0 r.1 r.2

and_in : (aig : Aig) (item : Item) → In (map (and_item aig) aig.ands) item → IsItem aig item
and_in aig item h = let r = map_in (and_item aig) aig.ands item h in and r.0 r.1 r.2

aig_latch_in : (aig : Aig) (item : Item) → In (map (latch_item aig) aig.latches) item → IsItem aig item
aig_latch_in aig item h = let r = map_in (latch_item aig) aig.latches item h in latch r.0 r.1 r.2

either : {A B : Type 0} (C : Type 0) → A ⊎ B → (A → C) → (B → C) → C
either C (inl a) f g = f a
either C (inr b) f g = g b

gate_in : (aig : Aig) (item : Item) → In (gate_items aig) item → IsItem aig item
gate_in aig item h =
    either (IsItem aig item) (append_cases (map (and_item aig) aig.ands) _ item h) (and_in aig item)
    (λ j. either (IsItem aig item) (append_cases (map
    (λ at. output_item aig at.0 at.1) (named_outputs aig)) _ item j) (output_in aig item)
    (λ k. either (IsItem aig item) (append_cases (map (opposite_item aig) (opposites aig)) _ item k)
    (opposite_in aig item)
    (zero_in aig item (mentions_zero aig) refl)))

-- each item of the model is one of these
pub item_is : (aig : Aig) (item : Item) → In (model_of aig).items item → IsItem aig item
item_is aig item (inl e) = inputs (ap (λ (i : Item). signal_words i.what) (sym e)) (ap
    (λ (i : Item). gate_of i.what) (sym e)) (ap
    (λ (i : Item). latch_of i.what) (sym e)) (ap use_of (sym e))
item_is aig item (inr (inl e)) = outputs (ap (λ (i : Item). signal_words i.what) (sym e)) (ap
    (λ (i : Item). gate_of i.what) (sym e)) (ap
    (λ (i : Item). latch_of i.what) (sym e)) (ap use_of (sym e))
item_is aig item (inr (inr h)) = either (IsItem aig item) (append_cases (map (latch_item aig)
    aig.latches) (gate_items aig) item h) (aig_latch_in aig item) (gate_in aig item)

-- what a gate of the model is
pub data IsGate (aig : Aig) (gate : GateLine) : Type 0 where
  and_is : (a : AigAnd) → In aig.ands a → and_gate aig a ≡ gate → IsGate aig gate
  output_is : (at : AigOutput × List ℕ) → In (named_outputs aig) at →
      output_gate aig at.0 at.1 ≡ gate → IsGate aig gate
  opposite_is : (v : ℕ) → In (opposites aig) v → opposite_gate aig v ≡ gate → IsGate aig gate
  zero_is : mentions_zero aig ≡ true → zero_gate aig ≡ gate → IsGate aig gate

gate_with : (aig : Aig) (gate : GateLine) (item : Item) → IsItem aig item →
    gate_of item.what ≡ Some gate → IsGate aig gate
gate_with aig gate item (inputs s g l u) e = absurd (cc (g, e))
gate_with aig gate item (outputs s g l u) e = absurd (cc (g, e))
gate_with aig gate item (latch l h i) e = absurd (cc (ap (λ (j : Item). gate_of j.what) i ∙ e))
gate_with aig gate item (and a h i) e = and_is a h (cc (ap (λ (j : Item). gate_of j.what) i ∙ e))
gate_with aig gate item (output at h i) e = output_is at h (cc (ap (λ (j : Item). gate_of j.what) i
    ∙ e))
gate_with aig gate item (opposite v h i) e = opposite_is v h (cc (ap
    (λ (j : Item). gate_of j.what) i ∙ e))
gate_with aig gate item (zero_of h i) e = zero_is h (cc (ap (λ (j : Item). gate_of j.what) i ∙ e))

-- each gate of the model is one of these
pub gate_is : (aig : Aig) (gate : GateLine) → In (gate_lines (model_of aig)) gate → IsGate aig gate
gate_is aig gate h = let r = filter_map_in (λ (i : Item). gate_of i.what) (model_of aig).items gate
    h in gate_with aig gate r.0 (item_is aig r.0 r.1) r.2

in_gates : (aig : Aig) (item : Item) (gate : GateLine) → In (gate_items aig) item →
    gate_of item.what ≡ Some gate → In (gate_lines (model_of aig)) gate
in_gates aig item gate h e = in_filter_map (λ (i : Item). gate_of i.what) (model_of aig).items item
    gate (inr (inr (in_append_right (map (latch_item aig) aig.latches) (gate_items aig) item h))) e

-- and each of these is a gate of the model
pub is_and : (aig : Aig) (a : AigAnd) → In aig.ands a →
    In (gate_lines (model_of aig)) (and_gate aig a)
is_and aig a h = in_gates aig (and_item aig a) (and_gate aig a) (in_append_left (map (and_item aig)
    aig.ands) _ (and_item aig a) (in_map (and_item aig) aig.ands a h)) refl

pub is_output : (aig : Aig) (at : AigOutput × List ℕ) → In (named_outputs aig) at →
    In (gate_lines (model_of aig)) (output_gate aig at.0 at.1)
is_output aig at h = in_gates aig (output_item aig at.0 at.1) (output_gate aig at.0 at.1)
    (in_append_right (map (and_item aig) aig.ands) _ (output_item aig at.0 at.1) (in_append_left
    (map (λ (p : AigOutput × List ℕ). output_item aig p.0 p.1) (named_outputs aig)) _ (output_item
    aig at.0 at.1) (in_map (λ (p : AigOutput × List ℕ). output_item aig p.0 p.1) (named_outputs aig)
    at h))) refl

pub is_inverter : (aig : Aig) (v : ℕ) → In (opposites aig) v →
    In (gate_lines (model_of aig)) (opposite_gate aig v)
is_inverter aig v h = in_gates aig (opposite_item aig v) (opposite_gate aig v) (in_append_right (map
    (and_item aig) aig.ands) _ (opposite_item aig v) (in_append_right (map
    (λ (p : AigOutput × List ℕ). output_item aig p.0 p.1) (named_outputs aig)) _ (opposite_item aig
    v) (in_append_left (map (opposite_item aig) (opposites aig)) _ (opposite_item aig v) (in_map
    (opposite_item aig) (opposites aig) v h)))) refl

zero_there : (aig : Aig) (b : Bool) → b ≡ true →
    In (if b then zero_item aig ∷ [] else []) (zero_item aig)
zero_there aig true e = inl refl
zero_there aig false e = absurd (cc e)

pub is_zero_gate : (aig : Aig) → mentions_zero aig ≡ true →
    In (gate_lines (model_of aig)) (zero_gate aig)
is_zero_gate aig e = in_gates aig (zero_item aig) (zero_gate aig) (in_append_right (map (and_item
    aig) aig.ands) _ (zero_item aig) (in_append_right (map
    (λ (p : AigOutput × List ℕ). output_item aig p.0 p.1) (named_outputs aig)) _ (zero_item aig)
    (in_append_right (map (opposite_item aig) (opposites aig)) _ (zero_item aig) (zero_there aig
    (mentions_zero aig) e)))) refl

aig_latch_with : (aig : Aig) (line : LatchLine) (item : Item) → IsItem aig item →
    latch_of item.what ≡ Some line → (l : AigLatch) × In aig.latches l × (latch_line aig l ≡ line)
aig_latch_with aig line item (inputs s g l u) e = absurd (cc (l, e))
aig_latch_with aig line item (outputs s g l u) e = absurd (cc (l, e))
aig_latch_with aig line item (latch l h i) e = (l, h, cc (ap (λ (j : Item). latch_of j.what) i ∙ e))
aig_latch_with aig line item (and a h i) e = absurd (cc (ap (λ (j : Item). latch_of j.what) i ∙ e))
aig_latch_with aig line item (output at h i) e = absurd (cc (ap (λ (j : Item). latch_of j.what) i ∙ e))
aig_latch_with aig line item (opposite v h i) e = absurd (cc (ap (λ (j : Item). latch_of j.what) i ∙ e))
aig_latch_with aig line item (zero_of h i) e = absurd (cc (ap (λ (j : Item). latch_of j.what) i ∙ e))

-- each latch of the model is that of a latch line, and the other way round
pub latch_is : (aig : Aig) (line : LatchLine) → In (latch_lines (model_of aig)) line →
    (l : AigLatch) × In aig.latches l × (latch_line aig l ≡ line)
latch_is aig line h = let r = filter_map_in (λ (i : Item). latch_of i.what) (model_of aig).items
    line h in aig_latch_with aig line r.0 (item_is aig r.0 r.1) r.2

pub is_latch : (aig : Aig) (l : AigLatch) → In aig.latches l →
    In (latch_lines (model_of aig)) (latch_line aig l)
is_latch aig l h = in_filter_map (λ (i : Item). latch_of i.what) (model_of aig).items (latch_item
    aig l) (latch_line aig l) (inr (inr (in_append_left (map (latch_item aig) aig.latches)
    (gate_items aig) (latch_item aig l) (in_map (latch_item aig) aig.latches l h)))) refl

use_with : (aig : Aig) (item : Item) → IsItem aig item → use_of item ≡ None
use_with aig item (inputs s g l u) = u
use_with aig item (outputs s g l u) = u
use_with aig item (latch l h i) = ap use_of (sym i)
use_with aig item (and a h i) = ap use_of (sym i)
use_with aig item (output at h i) = ap use_of (sym i)
use_with aig item (opposite v h i) = ap use_of (sym i)
use_with aig item (zero_of h i) = ap use_of (sym i)

none_used : (uses : List UseLine) → ((used : UseLine) → In uses used → ⊥) → (n : ℕ) →
    slice_get uses n ≡ None
none_used [] none n = refl
none_used (used ∷ uses) none n = absurd (none used (inl refl))

-- the model uses no other
pub no_use : (aig : Aig) (n : ℕ) → slice_get (use_lines (model_of aig)) n ≡ None
no_use aig n = none_used (use_lines (model_of aig))
    (λ used h. let r = filter_map_in use_of (model_of aig).items used h in cc (
      use_with aig r.0
          (item_is aig r.0 r.1),
      r.2,
    )) n

no_use_at : (aig : Aig) (over : Option Model) (n : ℕ) →
    (over ≡ Some (model_of aig)) ⊎ (over ≡ None) → use_at over n ≡ None
no_use_at aig over n (inl e) = ap (λ o. use_at o n) e ∙ no_use aig n
no_use_at aig over n (inr e) = ap (λ o. use_at o n) e

-- so the top is the only instance
pub only_top : (aig : Aig) (path : List ℕ) → (model_at (model_of aig ∷ []) path ≡ Some (model_of
    aig)) ⊎ (model_at (model_of aig ∷ []) path ≡ None)
only_top aig [] = inl refl
only_top aig (n ∷ above) = inr (ap (option_and_then
    (λ (used : UseLine). model_named (model_of aig ∷ []) used.model)) (no_use_at aig (model_at
    (model_of aig ∷ []) above) n (only_top aig above)))

pub no_model : (aig : Aig) (n : ℕ) (above : List ℕ) →
    model_at (model_of aig ∷ []) (n ∷ above) ≡ None
no_model aig n above = ap (option_and_then (λ (used : UseLine). model_named (model_of aig ∷ [])
    used.model)) (no_use_at aig (model_at (model_of aig ∷ []) above) n (only_top aig above))

-- and binds nothing
pub none_bound : (aig : Aig) (above : List ℕ) (n : ℕ) (formal : List ℕ) →
    bound_to (model_of aig ∷ []) above n formal ≡ None
none_bound aig above n formal = ap (option_and_then
    (λ (used : UseLine). actual_of used formal)) (no_use_at aig (model_at (model_of aig ∷ []) above)
    n (only_top aig above))

or_true : (b : Bool) → b || true ≡ true
or_true true = refl
or_true false = refl

-- the opposites are those of variables whose odd literals latches take
any_at : (latches : List AigLatch) (l : AigLatch) → In latches l → is_odd l.next ≡ true →
    is_opposite latches (variable_of l.next) ≡ true
any_at [] l h e = absurd h
any_at (k ∷ latches) l (inl i) e = rw (ap (λ (x : AigLatch). x.next) i, e) (grind arith)
any_at (k ∷ latches) l (inr h) e = rw (any_at latches l h e) (or_true _)

below_bound : (latches : List AigLatch) (l : AigLatch) → In latches l →
    variable_of l.next < next_bound latches
below_bound [] l h = absurd h
below_bound (k ∷ latches) l (inl i) = let e : variable_of k.next ≡ variable_of l.next = ap
    (λ (x : AigLatch). variable_of x.next) i in omega arith
below_bound (k ∷ latches) l (inr h) = let lt = below_bound latches l h in omega arith

opposite_below : (latches : List AigLatch) (n v : ℕ) → v < n → is_opposite latches v ≡ true →
    In (opposites_below latches n) v
opposite_below latches zero v lt e = absurd (omega arith)
opposite_below latches (suc n) v lt e = step (nat_eq v n) refl
    (λ less. opposite_below latches n v less e)
  where
    last : (b : Bool) → is_opposite latches n ≡ b → v ≡ n →
        In (if b then opposites_below latches n ++ n ∷ [] else opposites_below latches n) v
    last true f i = in_append_right (opposites_below latches n) (n ∷ []) v (inl (sym i))
    last false f i = absurd (cc (e, f, i))

    more : (b : Bool) → In (opposites_below latches n) v →
        In (if b then opposites_below latches n ++ n ∷ [] else opposites_below latches n) v
    more true h = in_append_left (opposites_below latches n) (n ∷ []) v h
    more false h = h

    step : (b : Bool) → nat_eq v n ≡ b → (v < n → In (opposites_below latches n) v) →
        In (opposites_below latches (suc n)) v
    step true i below = last (is_opposite latches n) refl (grind (arith, i))
    step false i below = more (is_opposite latches n) (below (grind (arith, i, lt)))

below_opposite : (latches : List AigLatch) (n v : ℕ) → In (opposites_below latches n) v →
    is_opposite latches v ≡ true
below_opposite latches zero v h = absurd h
below_opposite latches (suc n) v h = step (is_opposite latches n) refl (below_opposite latches n v)
    h
  where
    last : In (n ∷ []) v → is_opposite latches n ≡ true → is_opposite latches v ≡ true
    last (inl i) f = subst (λ x. is_opposite latches x ≡ true) i f
    last (inr k) f = absurd k

    step : (b : Bool) → is_opposite latches n ≡ b → (In (opposites_below latches n) v →
        is_opposite latches v ≡ true) → In (if b then opposites_below latches n ++ n ∷ [] else
        opposites_below latches n) v → is_opposite latches v ≡ true
    step true e below g = either (is_opposite latches v ≡ true) (append_cases (opposites_below
        latches n) (n ∷ []) v g) below (λ k. last k e)
    step false e below g = below g

taken_by : (latches : List AigLatch) (v : ℕ) → is_opposite latches v ≡ true →
    (l : AigLatch) × In latches l × (is_odd l.next ≡ true) × (variable_of l.next ≡ v)
taken_by [] v e = absurd (cc e)
taken_by (l ∷ latches) v e = step (is_odd l.next) (nat_eq (variable_of l.next) v) refl refl
    (taken_by latches v)
  where
    step : (odd same : Bool) → is_odd l.next ≡ odd → nat_eq (variable_of l.next) v ≡ same →
        (is_opposite latches v ≡ true → (k : AigLatch) × In latches k × (is_odd k.next ≡ true) ×
        (variable_of k.next ≡ v)) → (k : AigLatch) × In (l ∷ latches) k × (is_odd k.next ≡ true) ×
        (variable_of k.next ≡ v)
    step true true o i later = (l, inl refl, o, grind (arith, i))
    step true false o i later = let r = later (rw (o, i) at e) in (r.0, inr r.1, r.2, r.3)
    step false same o i later = let r = later (rw o at e) in (r.0, inr r.1, r.2, r.3)

pub opposite_of : (aig : Aig) (l : AigLatch) → In aig.latches l → is_odd l.next ≡ true →
    In (opposites aig) (variable_of l.next)
opposite_of aig l h e = opposite_below aig.latches (next_bound aig.latches) (variable_of l.next)
    (below_bound aig.latches l h) (any_at aig.latches l h e)

pub opposite_from : (aig : Aig) (v : ℕ) → In (opposites aig) v →
    (l : AigLatch) × In aig.latches l × (is_odd l.next ≡ true) × (variable_of l.next ≡ v)
opposite_from aig v h = taken_by aig.latches v (below_opposite aig.latches (next_bound aig.latches)
    v h)
