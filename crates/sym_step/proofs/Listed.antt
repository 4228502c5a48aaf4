-- Nets of which something is asked: the weakened ones, and those of cuts.
use Rattle.std.proofs.Common.{◌≡◌, ℕ, Bool, true, false, List, [], ◌∷◌, ◌++◌, map, refl, sym, subst, ◌∙◌, ap}
use Rattle.std.specs.Prelude.{◌==◌, ◌||◌}
use Rattle.ste_base.specs.declared.id.NodeId.{NodeId}
use Rattle.net_core.specs.Possible.{is_weakened}
use Rattle.net_core.specs.Work.{SymbolicAsked, SymbolicSet, everything, unless_weakened}
use Rattle.sym_step.specs.declared.cut.Cut.{Cut}
use Rattle.sym_step.specs.Frame.{is_listed}
use Rattle.sym_step.specs.Step.{ids_of}
use Rattle.sym_step.specs.private.Demands.{nodes_of}
use Rattle.sym_step.specs.private.Parts.{asks}

or_joins : (a b c : Bool) → (a || (b || c)) ≡ ((a || b) || c)
or_joins true b c = refl
or_joins false b c = refl

pub listed_or : (xs ys : List NodeId) (id : ℕ) → is_listed (xs ++ ys) id ≡ (is_listed xs id || is_listed ys id)
listed_or [] ys id = refl
listed_or (x ∷ xs) ys id = ap (λ (b : Bool). (x.0 == id) || b) (listed_or xs ys id) ∙ or_joins (x.0 == id) (is_listed xs id) (is_listed ys id)

left_of : (a b : Bool) → (a || b) ≡ false → a ≡ false
left_of false b e = refl
left_of true b e = e

right_of : (a b : Bool) → (a || b) ≡ false → b ≡ false
right_of false b e = e
right_of true b e = absurd (cc e)

-- of a net that is not among them there is no cut, and it is not weakened
pub no_cut_of : (weak : List NodeId) (cuts : List Cut) (id : ℕ) → is_listed (nodes_of weak cuts) id ≡ false → is_listed (map (λ (c : Cut). c.node) cuts) id ≡ false
no_cut_of weak cuts id none = right_of (is_listed weak id) (is_listed (map (λ (c : Cut). c.node) cuts) id) (sym (listed_or weak (map (λ (c : Cut). c.node) cuts) id) ∙ none)

pub weak_is_listed : (weak : List NodeId) (id : ℕ) → is_weakened (ids_of weak) id ≡ is_listed weak id
weak_is_listed [] id = refl
weak_is_listed (x ∷ weak) id = ap (λ (b : Bool). (x.0 == id) || b) (weak_is_listed weak id)

pub not_weakened : (weak : List NodeId) (cuts : List Cut) (id : ℕ) → is_listed (nodes_of weak cuts) id ≡ false → is_weakened (ids_of weak) id ≡ false
not_weakened weak cuts id none = weak_is_listed weak id ∙ left_of (is_listed weak id) (is_listed (map (λ (c : Cut). c.node) cuts) id) (sym (listed_or weak (map (λ (c : Cut). c.node) cuts) id) ∙ none)

-- the set of such a net before its cuts is that of what drives it
pub as_driven : (weak : List NodeId) (cuts : List Cut) (id : ℕ) (w : SymbolicSet) → is_listed (nodes_of weak cuts) id ≡ false → unless_weakened (is_weakened (ids_of weak) id) w ≡ w
as_driven weak cuts id w none = ap (λ (b : Bool). unless_weakened b w) (not_weakened weak cuts id none)

-- what is known by both cases is known
pub unless_both : (b : Bool) → unless_weakened b everything ≡ everything
unless_both true = refl
unless_both false = refl

-- what is asked, by its weakened nets and its cuts
pub as_asked : (P : SymbolicAsked → Type 0) (asked : SymbolicAsked) (weak : List NodeId) → asked.weak ≡ ids_of weak → P asked → P (asks weak asked.cuts)
as_asked P asked weak e h = subst (λ (ids : List ℕ). P (record { cuts = asked.cuts; weak = ids })) e h

pub of_asked : (P : SymbolicAsked → Type 0) (asked : SymbolicAsked) (weak : List NodeId) → asked.weak ≡ ids_of weak → P (asks weak asked.cuts) → P asked
of_asked P asked weak e h = subst (λ (ids : List ℕ). P (record { cuts = asked.cuts; weak = ids })) (sym e) h
