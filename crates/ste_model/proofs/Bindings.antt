-- What drives a net, by its source; what holds of all elements of a list, in a loop over it.
use Rattle.std.proofs.Common.{◌≡◌, ◌≢◌, ℕ, ◌+◌, ◌<◌, Bool, true, false, List, [], ◌∷◌, length, get_or, arith, sym, ap, refl, subst, inl, inr, ◌∙◌}
use Rattle.std.specs.Prelude.{All, IsTrue, ◌↔◌, ◌==◌, ◌&&◌, ◌||◌, filter, if◌then◌else◌, map}
use Rattle.std.specs.List.{list_any}
use Rattle.std.proofs.lemmas.Bool.{cases_lt}
use Rattle.std.proofs.lemmas.List.{get_or_default}
use Rattle.net_core.specs.declared.raw.RawNet.{RawNet}
use Rattle.net_core.specs.declared.raw.Latch.{Latch}
use Rattle.net_core.specs.declared.source.Source.{Source}
use Rattle.net_core.specs.declared.source.Source.TheVariants as source
use Rattle.net_core.specs.Flat.{HasOneDriver}
use Rattle.net_core.specs.Possible.{is_weakened}
use Rattle.net_core.specs.Run.{IsUndriven}
use Rattle.net_core.specs.Source.{source_of}
use Rattle.net_core.proofs.OneTime.{Facts, facts}
use Rattle.ste_model.specs.declared.task.Weakening.{Weakening}
use Rattle.ste_model.specs.Asked.{weakened_at, weakens}
use Rattle.ste_model.specs.Shown.{IsLatchOutput}

pub facts_of : (net : RawNet) (id : ℕ) (found : Source) → HasOneDriver net → found ≡ source_of net id → Facts net id found
facts_of net id found one e = subst (Facts net id) (sym e) (facts net one id)

some_of : {X : Type 0} (xs : List X) (k : ℕ) → k < length xs → X
some_of [] k l = absurd (omega arith)
some_of (x ∷ xs) k l = x

no_latch_output : (net : RawNet) (id : ℕ) → All (λ latch. latch.output.0 ≢ id) net.latches → ¬ IsLatchOutput net id
no_latch_output net id none any = none any.0 any.1 any.2 (ap (λ (latch : Latch). latch.output.0) any.3 ∙ any.4)

pub input_undriven : (net : RawNet) (id : ℕ) (found : Source) → found ≡ source.Input → Facts net id found → IsUndriven net id
input_undriven net id found e f = let h = subst (Facts net id) e f in record { by_gate = h.0; by_latch = h.1 }

pub free_undriven : (net : RawNet) (id : ℕ) (found : Source) → found ≡ source.Free → Facts net id found → IsUndriven net id
free_undriven net id found e f = let h = subst (Facts net id) e f in record { by_gate = h.0; by_latch = h.1 }

pub gate_drives : (net : RawNet) (id g : ℕ) (found : Source) → found ≡ source.Gate g → Facts net id found → ¬ IsUndriven net id
gate_drives net id g found e f undriven =
    let h = subst (Facts net id) e f in
    let d = some_of net.gates g h.0 in
    undriven.by_gate g d h.0 (h.1 d)

pub latch_drives : (net : RawNet) (id l : ℕ) (found : Source) → found ≡ source.Latch l → Facts net id found → ¬ IsUndriven net id
latch_drives net id l found e f undriven =
    let h = subst (Facts net id) e f in
    let d = some_of net.latches l h.0 in
    undriven.by_latch l d h.0 (h.1 d)

pub input_no_latch : (net : RawNet) (id : ℕ) (found : Source) → found ≡ source.Input → Facts net id found → ¬ IsLatchOutput net id
input_no_latch net id found e f = no_latch_output net id (subst (Facts net id) e f).1

pub free_no_latch : (net : RawNet) (id : ℕ) (found : Source) → found ≡ source.Free → Facts net id found → ¬ IsLatchOutput net id
free_no_latch net id found e f = no_latch_output net id (subst (Facts net id) e f).1

pub gate_no_latch : (net : RawNet) (id g : ℕ) (found : Source) → found ≡ source.Gate g → Facts net id found → ¬ IsLatchOutput net id
gate_no_latch net id g found e f = no_latch_output net id (subst (Facts net id) e f).2

pub latch_output : (net : RawNet) (id l : ℕ) (found : Source) → found ≡ source.Latch l → Facts net id found → IsLatchOutput net id
latch_output net id l found e f =
    let h = subst (Facts net id) e f in
    let d = some_of net.latches l h.0 in
    (l, get_or net.latches l d, h.0, get_or_default net.latches l (get_or net.latches l d) d h.0, h.1 d)

-- ---- loops over lists

-- what holds of the first elements and of the next one
pub more_all : {X : Type 0} (P : X → Type 0) (xs : List X) (n : ℕ) (x : X) → x ≡ get_or xs n x → n < length xs → ((k : ℕ) (d : X) → k < n → P (get_or xs k d)) → P x → (k : ℕ) (d : X) → k < n + 1 → P (get_or xs k d)
more_all P xs n x is l before here k d m = elim (cases_lt k n) [
  | inl old ↦ before k d old
  | inr new ↦
      let same : n ≡ k = omega arith in
      subst (λ (j : ℕ). P (get_or xs j d)) same (subst P (is ∙ get_or_default xs n x d l) here)
]

-- what does not hold of one element
pub not_all : {X : Type 0} (P : X → Type 0) (xs : List X) (n : ℕ) (x : X) → x ≡ get_or xs n x → n < length xs → ¬ P x → ¬ All P xs
not_all P xs n x is l fails all = fails (subst P (sym is) (all n x l))

-- ---- nets that are weakened at time 0

pub any_of_start : (weak : List Weakening) (id : ℕ) → list_any (λ (w : Weakening). weakens 0 w && (w.node.0 == id)) weak ≡ is_weakened (weakened_at weak 0) id
any_of_start [] id = refl
any_of_start (w ∷ weak) id = by (any_of_start weak id) (weakens 0 w)
  where
    by : list_any (λ (x : Weakening). weakens 0 x && (x.node.0 == id)) weak ≡ is_weakened (weakened_at weak 0) id → (b : Bool) → ((b && (w.node.0 == id)) || list_any (λ (x : Weakening). weakens 0 x && (x.node.0 == id)) weak)
        ≡ is_weakened (map (λ (x : Weakening). x.node.0) (if b then w ∷ filter (weakens 0) weak else filter (weakens 0) weak)) id
    by rest true = ap (λ (r : Bool). (w.node.0 == id) || r) rest
    by rest false = rest

-- ---- a test that says just whether something holds

pub says_yes : {A : Type 0} → A → IsTrue true ↔ A
says_yes a = (λ h. a, λ h. refl)

pub says_no : {A : Type 0} → ¬ A → IsTrue false ↔ A
says_no no_a = (λ h. absurd (cc h), λ a. absurd (no_a a))

pub says_other : (b : Bool) {A : Type 0} → b ≡ true → (IsTrue b ↔ A) → A
says_other b e h = h.0 e

pub says_none : (b : Bool) {A : Type 0} → b ≡ false → (IsTrue b ↔ A) → ¬ A
says_none b e h a = let t : b ≡ true = h.1 a in absurd (cc (e, t))
