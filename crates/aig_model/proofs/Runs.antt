-- Literal runs, and runs of the model that a text is read as.
use Rattle.std.proofs.Common.{◌≡◌, ℕ, suc, ◌<◌, Bool, true, false, not, List, [], ◌∷◌, map, length, get_or, Some, slice_get, refl, sym, ap, arith, subst, inl, inr, ◌∙◌}
use Rattle.std.specs.Prelude.{◌&&◌, ◌||◌, All, Contains, IsTrue, flat_map, if◌then◌else◌, nat_eq}
use Rattle.std.specs.List.{list_any}
use Rattle.net_core.specs.Cover.{cover_bit}
use Rattle.net_core.specs.Run.{IsInitial}
use Rattle.blif_syntax.specs.declared.models.Item.{Item}
use Rattle.blif_syntax.specs.declared.models.Model.{Model}
use Rattle.hierarchy.specs.Instances.{model_at}
use Rattle.hierarchy.specs.Lines.{GateLine, LatchLine, gate_lines, latch_lines, signal_words, signals}
use Rattle.hierarchy.specs.Runs.{IsHierarchicalRun, StartsAsAsked}
use Rattle.hierarchy.proofs.Members.{In, append_cases, contains_from_in, flat_map_in, in_append_left, in_at, in_from_contains, in_get, map_in}
use Rattle.hierarchy.proofs.Sets.{set_in}
use Rattle.std.proofs.lemmas.Option.{slice_get-get_or}
use Rattle.aig_model.specs.declared.aig.Aig.{Aig}
use Rattle.aig_model.specs.declared.aig.AigAnd.{AigAnd}
use Rattle.aig_model.specs.declared.aig.AigLatch.{AigLatch}
use Rattle.aig_model.specs.declared.aig.AigOutput.{AigOutput}
use Rattle.aig_model.specs.Corresponds.{HasBitsOf, LiteralsCorrespond, literal_bits}
use Rattle.aig_model.specs.Literals.{IsLiteralRun, StartsAsGiven, is_odd, literal_bit, variable_of}
use Rattle.aig_model.specs.Names.{literal_name, output_names, own_opposite, variable_name}
use Rattle.aig_model.specs.Netlist.{mentions_zero, model_of, opposites}
use Rattle.aig_model.specs.Sound.{IsSoundAig, defined_variables, mentioned_literals, sources, variables}
use Rattle.aig_model.proofs.Bits.{and_bit, bit_with, odd_bit, opposite_bit, output_bit}
use Rattle.aig_model.proofs.ModelLines.{IsGate, IsItem, and_gate, and_is, gate_is, inputs, is_and, is_inverter, is_latch, is_output, is_zero_gate, item_is, latch_is, latch_line, named_outputs, no_model, none_bound, opposite_gate, opposite_is, opposite_of, output_gate, output_is, outputs, zero_gate, zero_is}
use Rattle.aig_model.proofs.ModelLines as line
use Rattle.aig_model.proofs.Naming.{output_names_count}
use Rattle.aig_model.proofs.SignalBits.{and_defined, and_in, bit_named, defined_in, latch_defined, mentioned_in, next_in, opposite_in, opposite_named, output_bit_named, output_in, placed, things, variable_bit, zip_in}

any_in : (p : ℕ → Bool) (xs : List ℕ) (x : ℕ) → In xs x → p x ≡ true → list_any p xs ≡ true
any_in p [] x h e = absurd h
any_in p (y ∷ xs) x (inl i) e = rw (ap p i, e) (grind arith)
any_in p (y ∷ xs) x (inr h) e = rw (any_in p xs x h e) (or_true (p y))
  where
    or_true : (b : Bool) → b || true ≡ true
    or_true true = refl
    or_true false = refl

in_any : (p : ℕ → Bool) (xs : List ℕ) → list_any p xs ≡ true → (x : ℕ) × In xs x × (p x ≡ true)
in_any p [] e = absurd (cc e)
in_any p (y ∷ xs) e = step (p y) refl (in_any p xs) e
  where
    step : (b : Bool) → p y ≡ b → (list_any p xs ≡ true → (x : ℕ) × In xs x × (p x ≡ true)) →
        (b || list_any p xs) ≡ true → (x : ℕ) × In (y ∷ xs) x × (p x ≡ true)
    step true i later f = (y, inl refl, i)
    step false i later f = let r = later f in (r.0, inr r.1, r.2)

-- what holds of all holds of each
all_in : {X : Type 0} (P : X → Type 0) (xs : List X) (x : X) → All P xs → In xs x → P x
all_in P xs x all h = let c = contains_from_in xs x h in subst P c.2 (all c.0 x c.1)

is_zero : (v : ℕ) → nat_eq v 0 ≡ true → v ≡ 0
is_zero v e = grind arith

-- variable 0 is mentioned by a literal alone
zero_mentioned : (aig : Aig) → IsSoundAig aig → In (variables aig) 0 → mentions_zero aig ≡ true
zero_mentioned aig sound h = elim (append_cases (defined_variables aig) (map variable_of (mentioned_literals aig)) 0 h)
    as (λ _. mentions_zero aig ≡ true) [
      | inl i ↦ let p : 0 < 0 = all_in (λ v. 0 < v) (defined_variables aig) 0 sound.above i in absurd (omega
          arith)
      | inr j ↦ let r = map_in variable_of (mentioned_literals aig) 0 j in any_in
          (λ literal. nat_eq (variable_of literal) 0) (mentioned_literals aig) r.0 r.1 (rw r.2 refl)
    ]

-- from the model's runs to literal runs
module _ (aig : Aig) (sound : IsSoundAig aig) (n : ℕ) (run : List ℕ → List ℕ → ℕ →
    Bool) (is_run : IsHierarchicalRun (model_of aig ∷ []) n run) where
  gate_at : (gate : GateLine) → In (gate_lines (model_of aig)) gate → (t : ℕ) → t < n →
      run [] gate.output t ≡ cover_bit gate.cover (map (λ input. run [] input t) gate.inputs)
  gate_at gate h t lt = is_run.gates [] (model_of aig) refl gate (contains_from_in (gate_lines
      (model_of aig)) gate h) t lt

  pub variable_signal : (t v : ℕ) → t < n → In (variables aig) v →
      run [] (variable_name aig v) t ≡ literal_bits aig run t v
  variable_signal t v lt h = step (nat_eq v 0) refl
    where
      at_zero : v ≡ 0 → run [] (variable_name aig v) t ≡ false
      at_zero e = subst (λ w. run [] (variable_name aig w) t ≡ false) (sym e) (gate_at (zero_gate
          aig) (is_zero_gate aig (zero_mentioned aig sound (subst
          (λ w. In (variables aig) w) e h))) t lt)

      step : (b : Bool) → nat_eq v 0 ≡ b → run [] (variable_name aig v) t ≡ (if b then false else
          run [] (variable_name aig v) t)
      step true e = at_zero (is_zero v e)
      step false e = refl

  literal_signal : (t literal : ℕ) → t < n → In (mentioned_literals aig) literal →
      bit_with literal (run [] (variable_name aig (variable_of literal)) t) ≡ literal_bit
      (literal_bits aig run t) literal
  literal_signal t literal lt h = ap (bit_with literal) (variable_signal t (variable_of literal) lt
      (mentioned_in aig literal h))

  and_signal : (t : ℕ) (a : AigAnd) → t < n → In aig.ands a →
      literal_bits aig run t a.var ≡ literal_bit (literal_bits aig run t) a.left && literal_bit
      (literal_bits aig run t) a.right
  and_signal t a lt h =
      sym (variable_signal t a.var lt (defined_in aig a.var (and_defined aig a h)))
      ∙ gate_at (and_gate aig a) (is_and aig a h) t lt
      ∙ and_bit a.left a.right (run [] (variable_name aig (variable_of a.left)) t) (run []
      (variable_name aig (variable_of a.right)) t)
      ∙ (λ i. literal_signal t a.left lt (and_in aig a a.left h (inl refl)) i && literal_signal t
      a.right lt (and_in aig a a.right h (inr (inl refl))) i)

  opposite_signal : (t v : ℕ) → t < n → In (opposites aig) v →
      run [] (own_opposite v) t ≡ not (literal_bits aig run t v)
  opposite_signal t v lt h =
      gate_at (opposite_gate aig v) (is_inverter aig v h) t lt
      ∙ opposite_bit (run [] (variable_name aig v) t)
      ∙ ap not (variable_signal t v lt (opposite_in aig v h))

  next_signal : (t : ℕ) (l : AigLatch) → t < n → In aig.latches l →
      run [] (literal_name aig l.next) t ≡ literal_bit (literal_bits aig run t) l.next
  next_signal t l lt h = step (is_odd l.next) refl
    where
      step : (b : Bool) → is_odd l.next ≡ b → run [] (if b then own_opposite (variable_of l.next)
          else variable_name aig (variable_of l.next)) t ≡ (if b then not (literal_bits aig run t
          (variable_of l.next)) else literal_bits aig run t (variable_of l.next))
      step true e = opposite_signal t (variable_of l.next) lt (opposite_of aig l h e)
      step false e = variable_signal t (variable_of l.next) lt (mentioned_in aig l.next (next_in aig
          l h))

  latch_signal : (t : ℕ) (l : AigLatch) → suc t < n → In aig.latches l →
      literal_bits aig run (suc t) l.var ≡ literal_bit (literal_bits aig run t) l.next
  latch_signal t l lt h =
      sym (variable_signal (suc t) l.var lt (defined_in aig l.var (latch_defined aig l h)))
      ∙ is_run.latches [] (model_of aig) refl (latch_line aig l) (contains_from_in (latch_lines
      (model_of aig)) (latch_line aig l) (is_latch aig l h)) t lt
      ∙ next_signal t l (omega arith) h

  output_signal : (t : ℕ) (at : AigOutput × List ℕ) → t < n → In (named_outputs aig) at →
      run [] at.1 t ≡ literal_bit (literal_bits aig run t) at.0.literal
  output_signal t at lt h =
      gate_at (output_gate aig at.0 at.1) (is_output aig at h) t lt
      ∙ output_bit at.0.literal (run [] (variable_name aig (variable_of at.0.literal)) t)
      ∙ literal_signal t at.0.literal lt (output_in aig at.0 (let r = placed aig at h in in_get
      aig.outputs r.0 at.0 r.1))

  pub literal_run : IsLiteralRun aig n (literal_bits aig run)
  literal_run = record {
    zero = λ t lt. refl;
    ands = λ t lt k d h. and_signal t _ lt (in_at aig.ands k d h);
    latches = λ t lt k d h. latch_signal t _ lt (in_at aig.latches k d h);
  }

  pub has_literal_bits : HasBitsOf aig n (literal_bits aig run) run
  has_literal_bits = record {
    mentioned = λ t v lt h. variable_signal t v lt (in_from_contains (variables aig) v h);
    opposite = λ t v lt h. opposite_signal t v lt (in_from_contains (opposites aig) v h)
        ∙ sym (odd_bit (literal_bits aig run t) v);
    outputs = λ t k out name lt e f. output_signal t (out, name) lt (zip_in aig.outputs
        (output_names aig) k out name e f);
  }

-- from literal runs to the model's
module _ (aig : Aig) (sound : IsSoundAig aig) (n : ℕ) (bit : ℕ → ℕ →
    Bool) (is_run : IsLiteralRun aig n bit) where
  abbrev signal_run : List ℕ → List ℕ → ℕ → Bool
  signal_run path signal t = bit_named (bit t) (things aig) signal

  named : (t v : ℕ) → In (variables aig) v → signal_run [] (variable_name aig v) t ≡ bit t v
  named t v h = variable_bit aig sound (bit t) v h

  literal_named : (t literal : ℕ) → In (mentioned_literals aig) literal →
      bit_with literal (signal_run [] (variable_name aig (variable_of literal)) t) ≡ literal_bit
      (bit t) literal
  literal_named t literal h = ap (bit_with literal) (named t (variable_of literal) (mentioned_in aig
      literal h))

  abbrev Follows : ℕ → GateLine → Type 0
  Follows t gate = signal_run [] gate.output t ≡ cover_bit gate.cover (map
      (λ input. signal_run [] input t) gate.inputs)

  and_follows : (t : ℕ) (a : AigAnd) → t < n → In aig.ands a → Follows t (and_gate aig a)
  and_follows t a lt h =
      named t a.var (defined_in aig a.var (and_defined aig a h))
      ∙ all_in (λ (x : AigAnd). bit t x.var ≡ literal_bit (bit t) x.left && literal_bit (bit t)
      x.right) aig.ands a (is_run.ands t lt) h
      ∙ (λ i. sym (literal_named t a.left (and_in aig a a.left h (inl refl))) i && sym
      (literal_named t a.right (and_in aig a a.right h (inr (inl refl)))) i)
      ∙ sym (and_bit a.left a.right (signal_run [] (variable_name aig (variable_of a.left)) t)
      (signal_run [] (variable_name aig (variable_of a.right)) t))

  output_follows : (t : ℕ) (at : AigOutput × List ℕ) → In (named_outputs aig) at →
      Follows t (output_gate aig at.0 at.1)
  output_follows t at h =
      output_bit_named aig sound (bit t) at h
      ∙ sym (literal_named t at.0.literal (output_in aig at.0 (let r = placed aig at h in in_get
      aig.outputs r.0 at.0 r.1)))
      ∙ sym (output_bit at.0.literal (signal_run [] (variable_name aig (variable_of at.0.literal))
      t))

  opposite_follows : (t v : ℕ) → In (opposites aig) v → Follows t (opposite_gate aig v)
  opposite_follows t v h =
      opposite_named aig sound (bit t) v h
      ∙ odd_bit (bit t) v
      ∙ ap not (sym (named t v (opposite_in aig v h)))
      ∙ sym (opposite_bit (signal_run [] (variable_name aig v) t))

  zero_follows : (t : ℕ) → t < n → mentions_zero aig ≡ true → Follows t (zero_gate aig)
  zero_follows t lt e =
      let r = in_any (λ literal. nat_eq (variable_of literal) 0) (mentioned_literals aig) e in
      let h : In (variables aig) 0 = subst (λ v. In (variables aig) v) (is_zero (variable_of r.0)
      r.2) (mentioned_in aig r.0 r.1) in
      named t 0 h ∙ is_run.zero t lt

  gate_follows : (t : ℕ) (gate : GateLine) → t < n → IsGate aig gate → Follows t gate
  gate_follows t gate lt (and_is a h e) = subst (Follows t) e (and_follows t a lt h)
  gate_follows t gate lt (output_is at h e) = subst (Follows t) e (output_follows t at h)
  gate_follows t gate lt (opposite_is v h e) = subst (Follows t) e (opposite_follows t v h)
  gate_follows t gate lt (zero_is m e) = subst (Follows t) e (zero_follows t lt m)

  next_named : (t : ℕ) (l : AigLatch) → In aig.latches l →
      signal_run [] (literal_name aig l.next) t ≡ literal_bit (bit t) l.next
  next_named t l h = step (is_odd l.next) refl
    where
      step : (b : Bool) → is_odd l.next ≡ b → signal_run [] (if b then own_opposite (variable_of
          l.next) else variable_name aig (variable_of l.next)) t ≡ (if b then not (bit t
          (variable_of l.next)) else bit t (variable_of l.next))
      step true e = opposite_named aig sound (bit t) (variable_of l.next) (opposite_of aig l h e)
          ∙ odd_bit (bit t) (variable_of l.next)
      step false e = named t (variable_of l.next) (mentioned_in aig l.next (next_in aig l h))

  abbrev Steps : ℕ → LatchLine → Type 0
  Steps t line = signal_run [] line.output (suc t) ≡ signal_run [] line.input t

  latch_steps : (t : ℕ) (l : AigLatch) → suc t < n → In aig.latches l → Steps t (latch_line aig l)
  latch_steps t l lt h =
      named (suc t) l.var (defined_in aig l.var (latch_defined aig l h))
      ∙ all_in (λ (x : AigLatch). bit (suc t) x.var ≡ literal_bit (bit t) x.next) aig.latches l
      (is_run.latches t lt) h
      ∙ sym (next_named t l h)

  gates : (path : List ℕ) (model : Model) → model_at (model_of aig ∷ []) path ≡ Some model →
      (gate : GateLine) → Contains (gate_lines model) gate → (t : ℕ) → t < n → Follows t gate
  gates [] model e gate h t lt =
      let same : model_of aig ≡ model = cc e in
      gate_follows t gate lt (gate_is aig gate (in_from_contains (gate_lines (model_of aig)) gate
      (subst (λ (m : Model). Contains (gate_lines m) gate) (sym same) h)))
  gates (number ∷ above) model e gate h t lt = absurd (cc (e, no_model aig number above))

  latches : (path : List ℕ) (model : Model) → model_at (model_of aig ∷ []) path ≡ Some model →
      (line : LatchLine) → Contains (latch_lines model) line → (t : ℕ) → suc t < n → Steps t line
  latches [] model e line h t lt =
      let same : model_of aig ≡ model = cc e in
      let r = latch_is aig line (in_from_contains (latch_lines (model_of aig)) line (subst
      (λ (m : Model). Contains (latch_lines m) line) (sym same) h)) in
      subst (Steps t) r.2 (latch_steps t r.0 lt r.1)
  latches (number ∷ above) model e line h t lt = absurd (cc (e, no_model aig number above))

  pub model_run : (run : List ℕ → List ℕ → ℕ →
      Bool) × IsHierarchicalRun (model_of aig ∷ []) n run × HasBitsOf aig n bit run
  model_run = (
    signal_run,
    record {
      gates = λ path model e gate h t lt. gates path model e gate h t lt;
      latches = λ path model e line h t lt. latches path model e line h t lt;
      formals = λ above number formal actual e t lt. absurd (cc (
        e,
        none_bound aig above number
            formal,
      ));
    },
    record {
      mentioned = λ t v lt h. named t v (in_from_contains (variables aig) v h);
      opposite = λ t v lt h. opposite_named aig sound (bit t) v (in_from_contains (opposites aig) v
          h);
      outputs = λ t k out name lt e f. output_bit_named aig sound (bit t) (out, name) (zip_in
          aig.outputs (output_names aig) k out name e f);
    },
  )

-- what a signal of the model is
pub data IsSignal (aig : Aig) (signal : List ℕ) : Type 0 where
  of_variable : (v : ℕ) → In (variables aig) v → variable_name aig v ≡ signal → IsSignal aig signal
  of_opposite : (v : ℕ) → In (opposites aig) v → own_opposite v ≡ signal → IsSignal aig signal
  of_output : (at : AigOutput × List ℕ) → In (named_outputs aig) at → at.1 ≡ signal →
      IsSignal aig signal

output_word : (aig : Aig) (signal : List ℕ) → In (output_names aig) signal → IsSignal aig signal
output_word aig signal h =
    let c = contains_from_in (output_names aig) signal h in
    let lt : c.0 < length aig.outputs = omega (arith, output_names_count aig) in
    let name : slice_get (output_names aig) c.0 ≡ Some signal = slice_get-get_or (output_names aig)
    c.0 signal c.1 ∙ ap Some c.2 in
    let out = get_or aig.outputs c.0 (record { line = 0; literal = 0 }) in
    of_output (out, signal) (zip_in aig.outputs (output_names aig) c.0 out signal (slice_get-get_or
    aig.outputs c.0 (record { line = 0; literal = 0 }) lt) name) refl

variable_word : (aig : Aig) (v : ℕ) (signal : List ℕ) → In (variables aig) v →
    In (variable_name aig v ∷ []) signal → IsSignal aig signal
variable_word aig v signal h (inl e) = of_variable v h e
variable_word aig v signal h (inr g) = absurd g

next_word : (aig : Aig) (l : AigLatch) → In aig.latches l → IsSignal aig (literal_name aig l.next)
next_word aig l h = step (is_odd l.next) refl
  where
    step : (b : Bool) → is_odd l.next ≡ b → IsSignal aig (if b then own_opposite (variable_of
        l.next) else variable_name aig (variable_of l.next))
    step true e = of_opposite (variable_of l.next) (opposite_of aig l h e) refl
    step false e = of_variable (variable_of l.next) (mentioned_in aig l.next (next_in aig l h)) refl

latch_word : (aig : Aig) (l : AigLatch) (signal : List ℕ) → In aig.latches l →
    In (literal_name aig l.next ∷ variable_name aig l.var ∷ []) signal → IsSignal aig signal
latch_word aig l signal h (inl e) = subst (λ s. IsSignal aig s) e (next_word aig l h)
latch_word aig l signal h (inr g) = variable_word aig l.var signal (defined_in aig l.var
    (latch_defined aig l h)) g

and_word : (aig : Aig) (a : AigAnd) (signal : List ℕ) → In aig.ands a →
    In (variable_name aig (variable_of a.left) ∷ variable_name aig (variable_of a.right) ∷
    variable_name aig a.var ∷ []) signal → IsSignal aig signal
and_word aig a signal h (inl e) = of_variable (variable_of a.left) (mentioned_in aig a.left (and_in
    aig a a.left h (inl refl))) e
and_word aig a signal h (inr (inl e)) = of_variable (variable_of a.right) (mentioned_in aig a.right
    (and_in aig a a.right h (inr (inl refl)))) e
and_word aig a signal h (inr (inr g)) = variable_word aig a.var signal (defined_in aig a.var
    (and_defined aig a h)) g

gate_word : (aig : Aig) (at : AigOutput × List ℕ) (signal : List ℕ) → In (named_outputs aig) at →
    In (variable_name aig (variable_of at.0.literal) ∷ at.1 ∷ []) signal → IsSignal aig signal
gate_word aig at signal h (inl e) = of_variable (variable_of at.0.literal) (mentioned_in aig
    at.0.literal (output_in aig at.0 (let r = placed aig at h in in_get aig.outputs r.0 at.0 r.1)))
    e
gate_word aig at signal h (inr (inl e)) = of_output at h e
gate_word aig at signal h (inr (inr g)) = absurd g

inverter_word : (aig : Aig) (v : ℕ) (signal : List ℕ) → In (opposites aig) v →
    In (variable_name aig v ∷ own_opposite v ∷ []) signal → IsSignal aig signal
inverter_word aig v signal h (inl e) = of_variable v (opposite_in aig v h) e
inverter_word aig v signal h (inr (inl e)) = of_opposite v h e
inverter_word aig v signal h (inr (inr g)) = absurd g

zero_in : (aig : Aig) → mentions_zero aig ≡ true → In (variables aig) 0
zero_in aig e = let r = in_any (λ literal. nat_eq (variable_of literal) 0) (mentioned_literals aig) e in
    subst (λ v. In (variables aig) v) (is_zero (variable_of r.0) r.2) (mentioned_in aig r.0 r.1)

item_word : (aig : Aig) (item : Item) (signal : List ℕ) → IsItem aig item →
    In (signal_words item.what) signal → IsSignal aig signal
item_word aig item signal (inputs s g l u) h =
    let r = map_in (variable_name aig) aig.inputs signal (subst (λ words. In words signal) s h) in
    of_variable r.0 (defined_in aig r.0 (in_append_left (sources aig) _ r.0 (in_append_left
    aig.inputs _ r.0 r.1))) r.2
item_word aig item signal (outputs s g l u) h = output_word aig signal (subst
    (λ words. In words signal) s h)
item_word aig item signal (line.latch l i e) h = latch_word aig l signal i (subst
    (λ (x : Item). In (signal_words x.what) signal) (sym e) h)
item_word aig item signal (line.and a i e) h = and_word aig a signal i (subst
    (λ (x : Item). In (signal_words x.what) signal) (sym e) h)
item_word aig item signal (line.output at i e) h = gate_word aig at signal i (subst
    (λ (x : Item). In (signal_words x.what) signal) (sym e) h)
item_word aig item signal (line.opposite v i e) h = inverter_word aig v signal i (subst
    (λ (x : Item). In (signal_words x.what) signal) (sym e) h)
item_word aig item signal (line.zero_of m e) h = variable_word aig 0 signal (zero_in aig m) (subst
    (λ (x : Item). In (signal_words x.what) signal) (sym e) h)

pub signal_is : (aig : Aig) (signal : List ℕ) → In (signals (model_of aig)) signal → IsSignal aig signal
signal_is aig signal h = elim (set_in (flat_map
    (λ (item : Item). signal_words item.what) (model_of aig).items) [] signal h) as
    (λ _. IsSignal aig signal) [
      | inl i ↦ absurd i
      | inr j ↦ let r = flat_map_in (λ (item : Item). signal_words item.what) (model_of aig).items
          signal j in item_word aig r.0 signal (item_is aig r.0 r.1) r.2
    ]

-- runs of the model with the same bits of variables have all bits the same
module _ (aig : Aig) (sound : IsSoundAig aig) (n : ℕ) (run other : List ℕ → List ℕ → ℕ →
    Bool) (is_run : IsHierarchicalRun (model_of aig ∷ []) n run) (is_other : IsHierarchicalRun
    (model_of aig ∷ []) n other) (same : (t v : ℕ) → t < n → Contains (variables aig) v →
    run [] (variable_name aig v) t ≡ other [] (variable_name aig v) t) where
  same_variable : (t v : ℕ) → t < n → In (variables aig) v →
      run [] (variable_name aig v) t ≡ other [] (variable_name aig v) t
  same_variable t v lt h = same t v lt (contains_from_in (variables aig) v h)

  same_signal : (signal : List ℕ) → IsSignal aig signal → (t : ℕ) → t < n →
      run [] signal t ≡ other [] signal t
  same_signal signal (of_variable v h e) t lt = subst
      (λ s. run [] s t ≡ other [] s t) e (same_variable t v lt h)
  same_signal signal (of_opposite v h e) t lt =
      subst (λ s. run [] s t ≡ other [] s t) e
      (is_run.gates [] (model_of aig) refl (opposite_gate aig v) (contains_from_in (gate_lines
      (model_of aig)) (opposite_gate aig v) (is_inverter aig v h)) t lt
      ∙ ap (λ b. cover_bit (opposite_gate aig v).cover (b ∷ [])) (same_variable t v lt (opposite_in
      aig v h))
      ∙ sym (is_other.gates [] (model_of aig) refl (opposite_gate aig v) (contains_from_in
      (gate_lines (model_of aig)) (opposite_gate aig v) (is_inverter aig v h)) t lt))
  same_signal signal (of_output at h e) t lt =
      let gate = output_gate aig at.0 at.1 in
      let there = contains_from_in (gate_lines (model_of aig)) gate (is_output aig at h) in
      let mention = mentioned_in aig at.0.literal (output_in aig at.0 (let r = placed aig at h in
      in_get aig.outputs r.0 at.0 r.1)) in
      subst (λ s. run [] s t ≡ other [] s t) e
      (is_run.gates [] (model_of aig) refl gate there t lt
      ∙ ap (λ b. cover_bit gate.cover (b ∷ [])) (same_variable t (variable_of at.0.literal) lt
      mention)
      ∙ sym (is_other.gates [] (model_of aig) refl gate there t lt))

-- what latches start with
module _ (aig : Aig) (n : ℕ) (reset : Bool) (bit : ℕ → ℕ → Bool) (run : List ℕ → List ℕ → ℕ →
    Bool) (some : 0 < n) (has : HasBitsOf aig n bit run) where
  first_bit : (l : AigLatch) → In aig.latches l → run [] (variable_name aig l.var) 0 ≡ bit 0 l.var
  first_bit l h = has.mentioned 0 l.var some (contains_from_in (variables aig) l.var (defined_in aig
      l.var (latch_defined aig l h)))

  starts_given : StartsAsAsked (model_of aig ∷ []) reset run → (l : AigLatch) → In aig.latches l →
      IsTrue reset → IsInitial l.init (bit 0 l.var)
  starts_given starts l h r = subst (λ b. IsInitial l.init b) (first_bit l h) (starts [] (model_of
      aig) refl (latch_line aig l) (contains_from_in (latch_lines (model_of aig)) (latch_line aig l)
      (is_latch aig l h)) r)

  starts_asked : StartsAsGiven aig reset bit → (path : List ℕ) (model : Model) →
      model_at (model_of aig ∷ []) path ≡ Some model → (latch : LatchLine) →
      Contains (latch_lines model) latch → IsTrue reset →
      IsInitial latch.init (run path latch.output 0)
  starts_asked starts [] model e latch h r =
      let same : model_of aig ≡ model = cc e in
      let found = latch_is aig latch (in_from_contains (latch_lines (model_of aig)) latch (subst
      (λ (m : Model). Contains (latch_lines m) latch) (sym same) h)) in
      subst (λ (line : LatchLine). IsInitial line.init (run [] line.output 0)) found.2
      (subst (λ b. IsInitial found.0.init b) (sym (first_bit found.0 found.1)) (all_in
      (λ (l : AigLatch). IsTrue reset → IsInitial l.init (bit 0 l.var)) aig.latches found.0
      starts found.1 r))
  starts_asked starts (number ∷ above) model e latch h r = absurd (cc (
    e,
    no_model aig number
        above,
  ))

pub corresponds : LiteralsCorrespond
corresponds aig sound n = record {
  to_literals = λ run is_run. (
    literal_run aig sound n run is_run,
    has_literal_bits aig sound n run
        is_run,
  );
  to_signals = λ bit is_run. model_run aig sound n bit is_run;
  one = λ run other is_run is_other same signal h t lt. same_signal aig sound n run other is_run
      is_other same signal (signal_is aig signal (in_from_contains (signals (model_of aig)) signal
      h)) t lt;
  starts = λ reset bit run some has. (
    λ starts k d h. starts_given aig n reset bit run some has starts _ (in_at aig.latches k d h),
    λ starts path model e latch h r. starts_asked aig n reset bit run some has starts path model e
        latch h r,
  );
}
