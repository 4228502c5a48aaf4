-- The weakened nets of an assertion, time after time.
use Rattle.std.proofs.Common.{◌≡◌, ℕ, suc, ◌<◌, ◌≤◌, Bool, true, false, List, [], ◌∷◌, map, filter, refl, sym, ◌∙◌, ap, subst, arith, All, inl, inr}
use Rattle.std.specs.Prelude.{◌&&◌, nat_le, nat_lt, min, if◌then◌else◌}
use Rattle.std.proofs.lemmas.Bool.{cases_lt, lt-ltb}
use Rattle.std.proofs.lemmas.List.Elements.{All-nil, All-cons, All-head, All-tail}
use Rattle.std.proofs.Math.Nat.{min-eq_left, min-eq_right, min-le_right}
use Rattle.ste_base.specs.declared.id.NodeId.{NodeId}
use Rattle.ste_model.specs.declared.task.Weakening.{Weakening}
use Rattle.ste_model.specs.Asked.{weakened_at, weakens}
use Rattle.sym_step.specs.declared.cut.Cut.{Cut}
use Rattle.sym_step.specs.Step.{ids_of}
use Rattle.ste_engine.specs.declared.timed_cuts.TimedCut.{TimedCut}
use Rattle.ste_engine.specs.private.TimedCuts.{ArePlaced, running_cuts, runs_at}
use Rattle.ste_engine.specs.private.Weakened.{weak_timed_cut, weak_timed_cuts}

pub weak_placed : (depth place : ℕ) (weak : List Weakening) → ArePlaced place (weak_timed_cuts depth place weak)
weak_placed depth place [] = tt
weak_placed depth place (w ∷ weak) = (omega arith, weak_placed depth (suc place) weak)

pub weak_within : (depth place : ℕ) (weak : List Weakening) → All (λ timed_cut. timed_cut.to ≤ depth) (weak_timed_cuts depth place weak)
weak_within depth place [] = All-nil (λ (timed_cut : TimedCut). timed_cut.to ≤ depth)
weak_within depth place (w ∷ weak) = All-cons (λ (timed_cut : TimedCut). timed_cut.to ≤ depth) (weak_timed_cut depth place w) (weak_timed_cuts depth (suc place) weak) (min-le_right w.to depth) (weak_within depth (suc place) weak)

-- a time below the depth is below both where it is below one
below_both : (t to depth : ℕ) → t < depth → nat_lt t (min to depth) ≡ nat_lt t to
below_both t to depth lt = elim (cases_lt to depth) [
  | inl less ↦ ap (nat_lt t) (min-eq_left (omega (arith, less)))
  | inr le ↦ ap (nat_lt t) (min-eq_right le) ∙ lt-ltb t depth lt ∙ sym (lt-ltb t to (omega (arith, lt, le)))
]

-- the nets of the cuts of a time below the depth are those that are weakened then
pub nets_are : (depth place t : ℕ) (weak : List Weakening) → t < depth → ids_of (map (λ (c : Cut). c.node) (running_cuts t (weak_timed_cuts depth place weak))) ≡ weakened_at weak t
nets_are depth place t [] lt = refl
nets_are depth place t (w ∷ weak) lt = by (runs_at t (weak_timed_cut depth place w)) (weakens t w) (ap (λ (b : Bool). nat_le w.from t && b) (below_both t w.to depth lt)) (nets_are depth (suc place) t weak lt)
  where
    rest : List TimedCut
    rest = filter (runs_at t) (weak_timed_cuts depth (suc place) weak)

    by : (a b : Bool) → a ≡ b → ids_of (map (λ (c : Cut). c.node) (map (λ (timed_cut : TimedCut). timed_cut.cut) (filter (runs_at t) (weak_timed_cuts depth (suc place) weak)))) ≡ map (λ (x : Weakening). x.node.0) (filter (weakens t) weak)
        → ids_of (map (λ (c : Cut). c.node) (map (λ (timed_cut : TimedCut). timed_cut.cut) (if a then weak_timed_cut depth place w ∷ filter (runs_at t) (weak_timed_cuts depth (suc place) weak) else filter (runs_at t) (weak_timed_cuts depth (suc place) weak))))
        ≡ map (λ (x : Weakening). x.node.0) (if b then w ∷ filter (weakens t) weak else filter (weakens t) weak)
    by true true e h = ap (λ (ids : List ℕ). w.node.0 ∷ ids) h
    by false false e h = h
    by true false e h = absurd (cc e)
    by false true e h = absurd (cc e)

-- nets that are weakened are nets
weakened_inside : (n t : ℕ) (weak : List Weakening) → All (λ w. w.node.0 < n) weak → All (λ id. id < n) (weakened_at weak t)
weakened_inside n t [] h = All-nil (λ (id : ℕ). id < n)
weakened_inside n t (w ∷ weak) h = by (weakens t w) (weakened_inside n t weak (All-tail (λ (x : Weakening). x.node.0 < n) w weak h))
  where
    by : (b : Bool) → All (λ (id : ℕ). id < n) (map (λ (x : Weakening). x.node.0) (filter (weakens t) weak)) → All (λ (id : ℕ). id < n) (map (λ (x : Weakening). x.node.0) (if b then w ∷ filter (weakens t) weak else filter (weakens t) weak))
    by true rest = All-cons (λ (id : ℕ). id < n) w.node.0 (map (λ (x : Weakening). x.node.0) (filter (weakens t) weak)) (All-head (λ (x : Weakening). x.node.0 < n) w weak h) rest
    by false rest = rest

of_ids : (n : ℕ) (nodes : List NodeId) → All (λ id. id < n) (ids_of nodes) → All (λ node. node.0 < n) nodes
of_ids n [] h = All-nil (λ (node : NodeId). node.0 < n)
of_ids n (x ∷ nodes) h = All-cons (λ (node : NodeId). node.0 < n) x nodes (All-head (λ (id : ℕ). id < n) x.0 (ids_of nodes) h) (of_ids n nodes (All-tail (λ (id : ℕ). id < n) x.0 (ids_of nodes) h))

pub nets_inside : (n t : ℕ) (weak : List Weakening) (nodes : List NodeId) → All (λ w. w.node.0 < n) weak → weakened_at weak t ≡ ids_of nodes → All (λ node. node.0 < n) nodes
nets_inside n t weak nodes h is = of_ids n nodes (subst (All (λ (id : ℕ). id < n)) is (weakened_inside n t weak h))
