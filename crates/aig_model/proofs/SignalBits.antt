-- The bits of signals, from those of variables: that of the first thing with the signal's name.
use Rattle.std.proofs.Common.{◌≡◌, ℕ, zero, suc, ◌+◌, ◌<◌, ◌^◌, Bool, true, false, List, [], ◌∷◌, ◌++◌, map, length, Option, Some, slice_get, refl, sym, ap, arith, subst, inl, inr, ◌∙◌}
use Rattle.std.specs.Prelude.{◌⊎◌, bytes_eq, if◌then◌else◌, All, flat_map}
use Rattle.std.specs.Option.{option_map_or}
use Rattle.std.specs.List.{zip}
use Rattle.std.proofs.lemmas.Option.{slice_get-get_or, slice_get_within}
use Rattle.std.proofs.lemmas.Slice.Eq.{bytes_eq-Decides}
use Rattle.std.proofs.lemmas.Slice.Zip.{get_or-zip, length-zip}
use Rattle.hierarchy.proofs.Members.{In, append_cases, contains_from_in, in_append_left, in_append_right, in_flat_map, in_map, map_in}
use Rattle.aig_model.specs.declared.aig.Aig.{Aig}
use Rattle.aig_model.specs.declared.aig.AigAnd.{AigAnd}
use Rattle.aig_model.specs.declared.aig.AigLatch.{AigLatch}
use Rattle.aig_model.specs.declared.aig.AigOutput.{AigOutput}
use Rattle.aig_model.specs.Literals.{literal_bit, variable_of}
use Rattle.aig_model.specs.Names.{output_names, own_opposite, variable_name}
use Rattle.aig_model.specs.Netlist.{opposites}
use Rattle.aig_model.specs.Sound.{IsSoundAig, and_literals, defined_variables, mentioned_literals, sources, variables}
use Rattle.aig_model.proofs.Bits.{even_bit}
use Rattle.aig_model.proofs.ModelLines.{named_outputs, opposite_from}
use Rattle.aig_model.proofs.Naming.{IsNamed, Thing, named_apart, number_of, one_thing, opposite, output, output_named, own_name, variable, variable_named}

-- the bit of the literal that the first pair with this name has
abbrev pub bit_named : (ℕ → Bool) → List (List ℕ × ℕ) → List ℕ → Bool
bit_named bit [] signal = false
bit_named bit (at ∷ things) signal = if bytes_eq at.0 signal then literal_bit bit at.1 else
    bit_named bit things signal

named_first : (bit : ℕ → Bool) (things : List (List ℕ × ℕ)) (at : List ℕ × ℕ) → In things at →
    ((other : List ℕ × ℕ) → In things other → other.0 ≡ at.0 → other.1 ≡ at.1) →
    bit_named bit things at.0 ≡ literal_bit bit at.1
named_first bit [] at h only = absurd h
named_first bit (x ∷ things) at h only = step (bytes_eq x.0 at.0) refl
    (λ g. named_first bit things at g (λ other k. only other (inr k))) h
  where
    rest : bytes_eq x.0 at.0 ≡ false → (In things at →
        bit_named bit things at.0 ≡ literal_bit bit at.1) → (x ≡ at) ⊎ In things at →
        bit_named bit things at.0 ≡ literal_bit bit at.1
    rest e later (inl i) = absurd (cc (
      e,
      (bytes_eq-Decides x.0 at.0).1 (ap
          (λ (p : List ℕ × ℕ). p.0) i),
    ))
    rest e later (inr g) = later g

    step : (b : Bool) → bytes_eq x.0 at.0 ≡ b → (In things at →
        bit_named bit things at.0 ≡ literal_bit bit at.1) → (x ≡ at) ⊎ In things at →
        (if b then literal_bit bit x.1 else bit_named bit things at.0) ≡ literal_bit bit at.1
    step true e later g = ap (literal_bit bit) (only x (inl refl) ((bytes_eq-Decides x.0 at.0).0 e))
    step false e later g = rest e later g

-- what is named, with its literal: the variables that are mentioned, the opposites that latches
-- take, and the outputs
abbrev pub variable_thing : Aig → ℕ → List ℕ × ℕ
variable_thing aig v = (variable_name aig v, v + v)

abbrev pub opposite_thing : ℕ → List ℕ × ℕ
opposite_thing v = (own_opposite v, v + v + 1)

abbrev pub output_thing : AigOutput × List ℕ → List ℕ × ℕ
output_thing at = (at.1, at.0.literal)

abbrev pub things : Aig → List (List ℕ × ℕ)
things aig = map (variable_thing aig) (variables aig) ++ (map opposite_thing (opposites aig) ++ map
    output_thing (named_outputs aig))

-- the literal of a thing
abbrev pub literal_of : Aig → Thing → ℕ
literal_of aig (variable v) = v + v
literal_of aig (opposite v) = v + v + 1
literal_of aig (output k) = option_map_or (λ (out : AigOutput). out.literal) (slice_get aig.outputs
    k) 0

-- a named literal is that of a thing with a small number
pub record IsThing (aig : Aig) (at : List ℕ × ℕ) : Type 0 where
  thing : Thing
  named : IsNamed aig (own_name thing) at.0
  literal : at.1 ≡ literal_of aig thing
  small : number_of thing < 2 ^ 31

small_at : (xs : List ℕ) (v : ℕ) → All (λ x. x < 2 ^ 31) xs → In xs v → v < 2 ^ 31
small_at xs v all h = let c = contains_from_in xs v h in subst (λ x. x < 2 ^ 31) c.2 (all c.0 v c.1)

-- what latches, ANDs and outputs take is mentioned
pub next_in : (aig : Aig) (l : AigLatch) → In aig.latches l → In (mentioned_literals aig) l.next
next_in aig l h = in_append_left (map (λ (k : AigLatch). k.next) aig.latches) _ l.next (in_map
    (λ (k : AigLatch). k.next) aig.latches l h)

pub and_in : (aig : Aig) (a : AigAnd) (literal : ℕ) → In aig.ands a → In (and_literals a) literal →
    In (mentioned_literals aig) literal
and_in aig a literal h g = in_append_right (map
    (λ (k : AigLatch). k.next) aig.latches) _ literal (in_append_left _ (map
    (λ (out : AigOutput). out.literal) aig.outputs) literal (in_flat_map and_literals aig.ands a
    literal h g))

pub output_in : (aig : Aig) (out : AigOutput) → In aig.outputs out → In (mentioned_literals aig) out.literal
output_in aig out h = in_append_right (map (λ (k : AigLatch). k.next) aig.latches) _ out.literal
    (in_append_right (flat_map and_literals aig.ands) _ out.literal (in_map
    (λ (o : AigOutput). o.literal) aig.outputs out h))

pub mentioned_in : (aig : Aig) (literal : ℕ) → In (mentioned_literals aig) literal →
    In (variables aig) (variable_of literal)
mentioned_in aig literal h = in_append_right (defined_variables aig) _ (variable_of literal) (in_map
    variable_of (mentioned_literals aig) literal h)

pub opposite_in : (aig : Aig) (v : ℕ) → In (opposites aig) v → In (variables aig) v
opposite_in aig v h = let r = opposite_from aig v h in subst
    (λ x. In (variables aig) x) r.3 (mentioned_in aig r.0.next (next_in aig r.0 r.1))

pub and_defined : (aig : Aig) (a : AigAnd) → In aig.ands a → In (defined_variables aig) a.var
and_defined aig a h = in_append_right (sources aig) _ a.var (in_map
    (λ (x : AigAnd). x.var) aig.ands a h)

pub latch_defined : (aig : Aig) (l : AigLatch) → In aig.latches l → In (defined_variables aig) l.var
latch_defined aig l h = in_append_left (sources aig) _ l.var (in_append_right aig.inputs _ l.var
    (in_map (λ (x : AigLatch). x.var) aig.latches l h))

pub defined_in : (aig : Aig) (v : ℕ) → In (defined_variables aig) v → In (variables aig) v
defined_in aig v h = in_append_left (defined_variables aig) _ v h

-- an output that has a name stands at a place
pub placed : (aig : Aig) (at : AigOutput × List ℕ) → In (named_outputs aig) at →
    (k : ℕ) × (slice_get aig.outputs k ≡ Some at.0) × (slice_get (output_names aig) k ≡ Some at.1)
placed aig at h =
    let c = contains_from_in (named_outputs aig) at h in
    let outs : c.0 < length aig.outputs = omega (arith, length-zip aig.outputs (output_names aig))
    in
    let named : c.0 < length (output_names aig) = omega (
      arith,
      length-zip aig.outputs (output_names
          aig),
    ) in
    let e = sym (get_or-zip aig.outputs (output_names aig) c.0 at outs named) ∙ c.2 in (
      c.0,
      slice_get-get_or aig.outputs c.0 at.0 outs ∙ ap
          (λ (p : AigOutput × List ℕ). Some p.0) e,
      slice_get-get_or (output_names aig) c.0 at.1 named
          ∙ ap (λ (p : AigOutput × List ℕ). Some p.1) e,
    )

pub zip_in : {X Y : Type 0} (xs : List X) (ys : List Y) (k : ℕ) (x : X) (y : Y) →
    slice_get xs k ≡ Some x → slice_get ys k ≡ Some y → In (zip xs ys) (x, y)
zip_in [] ys k x y e f = absurd (cc e)
zip_in (z ∷ xs) [] k x y e f = absurd (cc f)
zip_in (z ∷ xs) (w ∷ ys) zero x y e f = inl (λ i. (some_same z x e i, some_same w y f i))
  where
    some_same : {Z : Type 0} (a b : Z) → Some a ≡ Some b → a ≡ b
    some_same a b e = cc
zip_in (z ∷ xs) (w ∷ ys) (suc k) x y e f = inr (zip_in xs ys k x y e f)

module _ (aig : Aig) (sound : IsSoundAig aig) where
  variable_is : (v : ℕ) → In (variables aig) v → IsThing aig (variable_thing aig v)
  variable_is v h = record {
    thing = variable v;
    named = variable_named aig v;
    literal = refl;
    small
        = small_at (variables aig) v sound.small h;
  }

  opposite_is : (v : ℕ) → In (opposites aig) v → IsThing aig (opposite_thing v)
  opposite_is v h = record {
    thing = opposite v;
    named = (refl, inl refl);
    literal = refl;
    small =
        small_at (variables aig) v sound.small (opposite_in aig v h);
  }

  output_is : (at : AigOutput × List ℕ) → In (named_outputs aig) at → IsThing aig (output_thing at)
  output_is at h =
      let r = placed aig at h in
      let lt : r.0 < length aig.outputs = slice_get_within aig.outputs r.0 at.0 r.1 in
      record {
        thing = output r.0;
        named = output_named aig r.0 at.1 r.2;
        literal = ap
            (λ (o : Option AigOutput). option_map_or
            (λ (out : AigOutput). out.literal) o 0) (sym r.1);
        small = let few = sound.few in omega
            arith;
      }

  thing_is : (at : List ℕ × ℕ) → In (things aig) at → IsThing aig at
  thing_is at h = elim (append_cases (map (variable_thing aig) (variables aig)) _ at h) as
      (λ _. IsThing aig at) [
        | inl i ↦ let r = map_in (variable_thing aig) (variables aig) at i in subst
            (λ p. IsThing aig p) r.2 (variable_is r.0 r.1)
        | inr j ↦ elim (append_cases (map opposite_thing (opposites aig)) _ at j) as
            (λ _. IsThing aig at) [
              | inl i ↦ let r = map_in opposite_thing (opposites aig) at i in subst
                  (λ p. IsThing aig p) r.2 (opposite_is r.0 r.1)
              | inr k ↦ let r = map_in output_thing (named_outputs aig) at k in subst
                  (λ p. IsThing aig p) r.2 (output_is r.0 r.1)
            ]
      ]

  -- things of one name have one literal
  one_literal : (at other : List ℕ × ℕ) → IsThing aig at → IsThing aig other → other.0 ≡ at.0 →
      other.1 ≡ at.1
  one_literal at other one two e =
      let own = named_apart aig (own_name two.thing) (own_name one.thing) at.0 (subst
      (λ name. IsNamed aig (own_name two.thing) name) e two.named) one.named in
      two.literal ∙ ap (literal_of aig) (one_thing two.thing one.thing two.small one.small own)
      ∙ sym one.literal

  pub one_named : (at other : List ℕ × ℕ) → In (things aig) at → In (things aig) other →
      other.0 ≡ at.0 → other.1 ≡ at.1
  one_named at other h g e = one_literal at other (thing_is at h) (thing_is other g) e

  thing_bit : (bit : ℕ → Bool) (at : List ℕ × ℕ) → In (things aig) at →
      bit_named bit (things aig) at.0 ≡ literal_bit bit at.1
  thing_bit bit at h = named_first bit (things aig) at h
      (λ other g. one_literal at other (thing_is at h) (thing_is other g))

  -- the bits of what is named
  pub variable_bit : (bit : ℕ → Bool) (v : ℕ) → In (variables aig) v →
      bit_named bit (things aig) (variable_name aig v) ≡ bit v
  variable_bit bit v h = thing_bit bit (variable_thing aig v) (in_append_left (map (variable_thing
      aig) (variables aig)) _ (variable_thing aig v) (in_map (variable_thing aig) (variables aig) v
      h)) ∙ even_bit bit v

  pub opposite_named : (bit : ℕ → Bool) (v : ℕ) → In (opposites aig) v →
      bit_named bit (things aig) (own_opposite v) ≡ literal_bit bit (v + v + 1)
  opposite_named bit v h = thing_bit bit (opposite_thing v) (in_append_right (map (variable_thing
      aig) (variables aig)) _ (opposite_thing v) (in_append_left (map opposite_thing (opposites
      aig)) _ (opposite_thing v) (in_map opposite_thing (opposites aig) v h)))

  pub output_bit_named : (bit : ℕ → Bool) (at : AigOutput × List ℕ) → In (named_outputs aig) at →
      bit_named bit (things aig) at.1 ≡ literal_bit bit at.0.literal
  output_bit_named bit at h = thing_bit bit (output_thing at) (in_append_right (map (variable_thing
      aig) (variables aig)) _ (output_thing at) (in_append_right (map opposite_thing (opposites
      aig)) _ (output_thing at) (in_map output_thing (named_outputs aig) at h)))
