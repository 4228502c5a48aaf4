-- The second rail of a gate of two inputs that are nowhere empty, where the first rail's rows are one row of two literals.
use Rattle.std.proofs.Common.{◌≡◌, ◌⊎◌, Bool, true, false, not, List, [], ◌∷◌, length, refl, sym, ◌∙◌, inl, inr}
use Rattle.std.specs.Prelude.{◌&&◌, ◌||◌}
use Rattle.std.proofs.lemmas.Bool.{or_cases, or_left, or_right}
use Rattle.net_core.specs.declared.cover.Lit.{Lit}
use Rattle.net_core.specs.declared.cover.Lit.TheVariants.{Zero, One, Any}
use Rattle.net_core.specs.Cover.{admits, some_matches}
use Rattle.net_core.specs.Sets.{IsIn}
use Rattle.net_core.specs.Work.{AreWide, SymbolicSet, set_at, sum, row_products, some_bit}
use Rattle.net_core.proofs.GateSets.{Choice, rows_choice, choice_rows}
use Rattle.gate_sets.specs.private.Refused.{other_factor}

-- a bit that a literal does not admit
refused : (lit : Lit) (w : SymbolicSet) (bits : List Bool) (b : Bool) → IsIn b (set_at bits w) → admits lit b ≡ false → other_factor lit w bits ≡ true
refused Zero w bits true h e = h
refused Zero w bits false h e = absurd cc
refused One w bits true h e = absurd cc
refused One w bits false h e = h
refused Any w bits b h e = absurd cc

refusal : (lit : Lit) (w : SymbolicSet) (bits : List Bool) → other_factor lit w bits ≡ true → (b : Bool) × IsIn b (set_at bits w) × (admits lit b ≡ false)
refusal Zero w bits e = (true, e, refl)
refusal One w bits e = (false, e, refl)
refusal Any w bits e = absurd cc

some_choice : (w : SymbolicSet) (bits : List Bool) → some_bit w bits ≡ true → (b : Bool) × IsIn b (set_at bits w)
some_choice w bits e = elim (or_cases (w.zero bits) (w.one bits) e) [ inl z ↦ (false, z) | inr o ↦ (true, o) ]

pub same_bits : (a b : Bool) → (a ≡ true → b ≡ true) → (b ≡ true → a ≡ true) → a ≡ b
same_bits true b f g = sym (f refl)
same_bits false true f g = g refl
same_bits false false f g = refl

both_admit : (a b : Bool) → not ((a && (b && true)) || false) ≡ true → ((a ≡ false) ⊎ (b ≡ false))
both_admit true true e = absurd cc
both_admit true false e = inr refl
both_admit false b e = inl refl

left_refused : (a b : Bool) → a ≡ false → not ((a && (b && true)) || false) ≡ true
left_refused true b e = absurd cc
left_refused false b e = refl

right_refused : (a b : Bool) → b ≡ false → not ((a && (b && true)) || false) ≡ true
right_refused true true e = absurd cc
right_refused true false e = refl
right_refused false b e = refl

module _ (x y : Lit) (others : List (List Lit)) (v w : SymbolicSet) (bits : List Bool) where
  -- the other rows match where one of the two literals does not
  pub pair_others : AreWide others 2
      → ((bs : List Bool) → length bs ≡ 2 → some_matches others bs ≡ not (some_matches ((x ∷ y ∷ []) ∷ []) bs))
      → some_bit v bits ≡ true → some_bit w bits ≡ true
      → sum (row_products others (v ∷ w ∷ [])) bits ≡ (other_factor x v bits || other_factor y w bits)
  pair_others wide apart full_v full_w = same_bits (sum (row_products others (v ∷ w ∷ [])) bits) (other_factor x v bits || other_factor y w bits)
      (λ e. let r = rows_choice others (v ∷ w ∷ []) bits wide e in found r.0 r.1 r.2)
      (λ e. elim (or_cases (other_factor x v bits) (other_factor y w bits) e) [
        | inl one ↦ let p = refusal x v bits one in let q = some_choice w bits full_w in
            give p.0 q.0 p.1 q.1 (left_refused (admits x p.0) (admits y q.0) p.2)
        | inr one ↦ let p = some_choice v bits full_v in let q = refusal y w bits one in
            give p.0 q.0 p.1 q.1 (right_refused (admits x p.0) (admits y q.0) q.2)
      ])
    where
      found : (bs : List Bool) → Choice (v ∷ w ∷ []) bits bs → some_matches others bs ≡ true → other_factor x v bits || other_factor y w bits ≡ true
      found [] h m = absurd h
      found (a ∷ []) h m = absurd h.1
      found (a ∷ b ∷ c ∷ bs) h m = absurd h.1.1
      found (a ∷ b ∷ []) h m = elim (both_admit (admits x a) (admits y b) (sym (apart (a ∷ b ∷ []) refl) ∙ m)) [
        | inl off ↦ or_left (other_factor x v bits) (other_factor y w bits) (refused x v bits a h.0 off)
        | inr off ↦ or_right (other_factor x v bits) (other_factor y w bits) (refused y w bits b h.1.0 off)
      ]

      give : (a b : Bool) → IsIn a (set_at bits v) → IsIn b (set_at bits w) → not ((admits x a && (admits y b && true)) || false) ≡ true → sum (row_products others (v ∷ w ∷ [])) bits ≡ true
      give a b in_v in_w off = choice_rows others (v ∷ w ∷ []) bits (a ∷ b ∷ []) wide (in_v, (in_w, tt)) (apart (a ∷ b ∷ []) refl ∙ off)
