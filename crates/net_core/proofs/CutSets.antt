-- A set behind cuts has just the bits that the cuts leave.
use Rattle.std.proofs.Common.{◌≡◌, ℕ, Bool, true, false, not, List, [], ◌∷◌, map, refl, sym, ap, subst, eq-eqb, ne_eqb}
use Rattle.std.specs.Prelude.{◌&&◌, ◌↔◌, All, IsTrue, if◌then◌else◌}
use Rattle.std.proofs.Math.Decide.{ℕ_discrete}
use Rattle.std.proofs.lemmas.List.Elements.{All-nil, All-cons, All-head, All-tail}
use Rattle.net_core.specs.Run.{Cut}
use Rattle.net_core.specs.Sets.{IsIn}
use Rattle.ste_base.specs.Functions.{Function}
use Rattle.net_core.specs.Work.{SymbolicSet, SymbolicCut, set_at, cut_at, cut_set, after_cut, after_cuts}

-- what one cut allows
abbrev pub Allows : Cut → ℕ → Bool → Type 0
Allows cut id bit = IsTrue cut.on → cut.node ≡ id → cut.value ≡ bit

cut_bits : (bit z o g x : Bool) → (IsTrue (if bit then (o && not (g && not x)) else (z && not (g && x)))) ↔ (IsTrue (if bit then o else z) × (IsTrue g → x ≡ bit))
cut_bits true z false g x = (λ h. absurd (cc h), λ h. absurd (cc h.0))
cut_bits true z true false x = (λ h. (refl, λ e. absurd (cc e)), λ h. refl)
cut_bits true z true true true = (λ h. (refl, λ e. refl), λ h. refl)
cut_bits true z true true false = (λ h. absurd (cc h), λ h. absurd (cc (h.1 refl)))
cut_bits false false o g x = (λ h. absurd (cc h), λ h. absurd (cc h.0))
cut_bits false true o false x = (λ h. (refl, λ e. absurd (cc e)), λ h. refl)
cut_bits false true o true false = (λ h. (refl, λ e. refl), λ h. refl)
cut_bits false true o true true = (λ h. absurd (cc h), λ h. absurd (cc (h.1 refl)))

-- a set behind a cut has the bits that the cut allows
cut_in : (w : SymbolicSet) (g x : Function) (bits : List Bool) (bit : Bool) → IsIn bit (set_at bits (cut_set w g x)) ↔ (IsIn bit (set_at bits w) × (IsTrue (g bits) → x bits ≡ bit))
cut_in w g x bits bit = cut_bits bit (w.zero bits) (w.one bits) (g bits) (x bits)

after_in : (d : SymbolicCut) (f : ℕ → SymbolicSet) (id : ℕ) (bits : List Bool) (bit : Bool) → IsIn bit (set_at bits (after_cut d f id)) ↔ (IsIn bit (set_at bits (f id)) × Allows (cut_at bits d) id bit)
after_in d f id bits bit = elim (ℕ_discrete d.node id) [
  | yes e ↦
      let is : after_cut d f id ≡ cut_set (f id) d.guard d.value = ap (λ (x : Bool). if x then cut_set (f id) d.guard d.value else f id) (eq-eqb d.node id e) in
      let c = cut_in (f id) d.guard d.value bits bit in (
        λ h. let p = c.0 (subst (λ (w : SymbolicSet). IsIn bit (set_at bits w)) is h) in (p.0, λ on same. p.1 on),
        λ h. subst (λ (w : SymbolicSet). IsIn bit (set_at bits w)) (sym is) (c.1 (h.0, λ on. h.1 on e)),
      )
  | no ne ↦
      let is : after_cut d f id ≡ f id = ap (λ (x : Bool). if x then cut_set (f id) d.guard d.value else f id) (ne_eqb d.node id ne) in (
        λ h. (subst (λ (w : SymbolicSet). IsIn bit (set_at bits w)) is h, λ on same. absurd (ne same)),
        λ h. subst (λ (w : SymbolicSet). IsIn bit (set_at bits w)) (sym is) h.0,
      )
]

pub after_cuts_in : (ds : List SymbolicCut) (f : ℕ → SymbolicSet) (id : ℕ) (bits : List Bool) (bit : Bool) → IsIn bit (set_at bits (after_cuts ds f id)) ↔ (IsIn bit (set_at bits (f id)) × All (λ cut. Allows cut id bit) (map (cut_at bits) ds))
after_cuts_in [] f id bits bit = (λ h. (h, All-nil (λ cut. Allows cut id bit)), λ h. h.0)
after_cuts_in (d ∷ ds) f id bits bit =
    let later = after_cuts_in ds (after_cut d f) id bits bit in
    let now = after_in d f id bits bit in (
      λ h. let p = later.0 h in let q = now.0 p.0 in (q.0, All-cons (λ cut. Allows cut id bit) (cut_at bits d) (map (cut_at bits) ds) q.1 p.1),
      λ h. later.1 (now.1 (h.0, All-head (λ cut. Allows cut id bit) (cut_at bits d) (map (cut_at bits) ds) h.1), All-tail (λ cut. Allows cut id bit) (cut_at bits d) (map (cut_at bits) ds) h.1),
    )
