-- An edge under one assignment, with constants in the place of guards, values and sets: the step makes nothing.
use Rattle.std.proofs.Common.{◌≡◌, ◌≢◌, ◌<◌, ℕ, Bool, List, [], ◌∷◌, length, map, refl, sym, ◌∙◌, ap, subst, All, Result, Ok, Err}
use Rattle.std.specs.Prelude.{IsSome}
use Rattle.std.specs.List.{AllZip}
use Rattle.std.proofs.lemmas.List.{length-map}
use Rattle.std.proofs.lemmas.List.Elements.{All-cons, All-head, All-nil, All-tail}
use Rattle.bool_expr.specs.Value.{value_of}
use Rattle.dd_nodes.specs.Stores.{Store, function}
use Rattle.dd_nodes.proofs.Stores.{IsGood}
use Rattle.dd_ops.specs.declared.fault.OpFault.{OpFault}
use Rattle.dd_ops.specs.declared.fault.OpFault.TheVariants.{StepsOut}
use Rattle.dual_rail.specs.declared.rails.Rails.{Rails}
use Rattle.dual_rail.specs.Rail.{AreRails, AreRefs, Built, set_of}
use Rattle.net_core.specs.declared.bit_set.BitSet.{BitSet}
use Rattle.net_core.specs.declared.raw.RawNet.{RawNet}
use Rattle.net_core.specs.Possible.{ArePossible}
use Rattle.net_core.specs.Run.{Cut as AskedCut, IsSettled}
use Rattle.net_core.specs.Work.{ArePossibleEach, SymbolicAsked, SymbolicCut, SymbolicSet, cut_at, set_at, time_work}
use Rattle.net_core.proofs.Possible.{one_possible}
use Rattle.ste_model.specs.declared.task.Bind.{Bind}
use Rattle.ste_model.specs.declared.task.Edge.{Edge}
use Rattle.ste_model.specs.Edges.{asked_on, bind_cuts, weakened_on}
use Rattle.ste_model.specs.Work.{constant_set}
use Rattle.sym_step.specs.declared.cut.Cut.{Cut}
use Rattle.sym_step.specs.declared.made.Step.{Step}
use Rattle.ste_base.specs.declared.id.NodeId.{NodeId}
use Rattle.sym_step.specs.Step.{IsCutBy, IsCutOf, IsStep, ids_of}
use Rattle.engine_parts.specs.Failing.{MakesNothing}
use Rattle.engine_parts.proofs.Constants.{AreConstantCuts, AreConstantSets, IsConstantFamily, bit_means, never_out, nothing_made, of_bit, of_time, set_of_bits}
use Rattle.engine_parts.proofs.Nothing.{nothing_done, nothing_more}
use Rattle.engine_parts.proofs.FirstSets.{zip_refs}
use Rattle.gste_engine.specs.private.Taken.{IsStepOn, fixed_bind, fixed_rails}

-- ---- what is given

-- a binding under an assignment as a cut, the same under each
abbrev pub constant_cut : List Bool → Bind → SymbolicCut
constant_cut bits bind = record { node = bind.node.0; guard = λ other. value_of bind.guard bits; value = λ other. value_of bind.value bits }

abbrev pub constant_asked : List Bool → Edge → SymbolicAsked
constant_asked bits edge = record { cuts = map (constant_cut bits) edge.ant; weak = weakened_on edge }

pub fixed_zip : (s t : Store) (bits : List Bool) (rs : List Rails) → IsGood t → AllZip (AreRails t) (map constant_set (map (set_of s bits) rs)) (map (fixed_rails s bits) rs)
fixed_zip s t bits [] d = tt
fixed_zip s t bits (r ∷ rs) d = (record { zero = bit_means t (function s r.can0 bits) d; one = bit_means t (function s r.can1 bits) d }, fixed_zip s t bits rs d)

pub fixed_cuts : (t : Store) (bits : List Bool) (binds : List Bind) → IsGood t → AllZip (IsCutBy t) (map (constant_cut bits) binds) (map (fixed_bind bits) binds)
fixed_cuts t bits [] d = tt
fixed_cuts t bits (b ∷ bs) d = (record { node = refl; guard = bit_means t (value_of b.guard bits) d; value = bit_means t (value_of b.value bits) d }, fixed_cuts t bits bs d)

cuts_constant : (bits : List Bool) (binds : List Bind) → AreConstantCuts (map (constant_cut bits) binds)
cuts_constant bits [] = AreConstantCuts.none
cuts_constant bits (b ∷ bs) = AreConstantCuts.more (record { guard = of_bit (value_of b.guard bits); value = of_bit (value_of b.value bits) }) (cuts_constant bits bs)

sets_constant : (ls : List BitSet) → AreConstantSets (map constant_set ls)
sets_constant [] = AreConstantSets.none
sets_constant (w ∷ ws) = AreConstantSets.more (set_of_bits w.zero w.one) (sets_constant ws)

abbrev pub constant_sets : (ℕ → BitSet) → ℕ → SymbolicSet
constant_sets sets id = constant_set (sets id)

pub family_constant : (sets : ℕ → BitSet) → IsConstantFamily (constant_sets sets)
family_constant sets id = set_of_bits (sets id).zero (sets id).one

-- ---- under each assignment

latches_back : (other : List Bool) (ls : List BitSet) → map (set_at other) (map constant_set ls) ≡ ls
latches_back other [] = refl
latches_back other (w ∷ ws) = ap (λ xs. w ∷ xs) (latches_back other ws)

cuts_back : (other bits : List Bool) (binds : List Bind) → map (cut_at other) (map (constant_cut bits) binds) ≡ bind_cuts binds bits
cuts_back other bits [] = refl
cuts_back other bits (b ∷ bs) = ap (λ xs. record { node = b.node.0; on = value_of b.guard bits; value = value_of b.value bits } ∷ xs) (cuts_back other bits bs)

pub constant_each : (net : RawNet) (vars : ℕ) (bits : List Bool) (ls : List BitSet) (edge : Edge) (sets : ℕ → BitSet) → ArePossible net ls (asked_on edge bits) sets
    → ArePossibleEach vars net (map constant_set ls) (constant_asked bits edge) (constant_sets sets)
constant_each net vars bits ls edge sets is other l =
    subst (λ (xs : List BitSet). ArePossible net xs (record { cuts = map (cut_at other) (map (constant_cut bits) edge.ant); weak = weakened_on edge }) sets) (sym (latches_back other ls))
    (subst (λ (cs : List AskedCut). ArePossible net ls (record { cuts = cs; weak = weakened_on edge }) sets) (sym (cuts_back other bits edge.ant)) is)

-- ---- the call

abbrev pub StepCall : RawNet → Store → Store → List NodeId → List Cut → List Rails → Result Step OpFault → Type 0
StepCall net s t weak cuts held result = (ls : List SymbolicSet) (asked : SymbolicAsked) (sets : ℕ → SymbolicSet) → AllZip (AreRails s) ls held → AllZip (IsCutBy s) asked.cuts cuts → asked.weak ≡ ids_of weak → ArePossibleEach s.vars net ls asked sets
    → Built (time_work net ls asked sets) (IsStep net sets) s t result

module _ (net : RawNet) (settled : IsSettled net) (bits : List Bool) (edge : Edge) (ls : List BitSet) (s t : Store) (held : List Rails) (weak : List NodeId) (cuts : List Cut) (result : Result Step OpFault)
    (weak_is : weakened_on edge ≡ ids_of weak) (fit : AllZip (AreRails s) (map constant_set ls) held) (fits : AllZip (IsCutBy s) (map (constant_cut bits) edge.ant) cuts) (call : StepCall net s t weak cuts held result) where
  pub step_built : (sets : ℕ → BitSet) → ArePossible net ls (asked_on edge bits) sets
      → Built (time_work net (map constant_set ls) (constant_asked bits edge) (constant_sets sets)) (IsStep net (constant_sets sets)) s t result
  step_built sets is = call (map constant_set ls) (constant_asked bits edge) (constant_sets sets) fit fits weak_is (constant_each net s.vars bits ls edge sets is)

  module _ (long : length ls ≡ length net.latches) (gt : IsGood t) (made : All (λ r. IsSome (t.held r)) t.made) where
    some_sets : (sets : ℕ → BitSet) × ArePossible net ls (asked_on edge bits) sets
    some_sets = one_possible.some net ls (asked_on edge bits) settled long

    -- a step makes nothing
    pub step_makes : MakesNothing s t
    step_makes =
        let sets = some_sets.0 in
        nothing_made _ s t (result ≡ Err StepsOut) (of_time net (constant_asked bits edge) (constant_sets sets) (sets_constant ls) (cuts_constant bits edge.ant) (family_constant sets)) gt made (step_built sets some_sets.1).spends

    -- and is not out of steps
    pub step_goes : result ≢ Err StepsOut
    step_goes =
        let sets = some_sets.0 in
        never_out _ s t (result ≡ Err StepsOut) (of_time net (constant_asked bits edge) (constant_sets sets) (sets_constant ls) (cuts_constant bits edge.ant) (family_constant sets)) gt made (step_built sets some_sets.1).spends

-- ---- what the step is given

pub fixed_refs : (s t : Store) (bits : List Bool) (rs : List Rails) → IsGood t → All (AreRefs t) (map (fixed_rails s bits) rs)
fixed_refs s t bits rs d = zip_refs t (map constant_set (map (set_of s bits) rs)) (map (fixed_rails s bits) rs) (fixed_zip s t bits rs d)

pub fixed_inside : (t : Store) (net : RawNet) (bits : List Bool) (binds : List Bind) → IsGood t → All (λ bind. bind.node.0 < net.nets) binds → All (IsCutOf t net) (map (fixed_bind bits) binds)
fixed_inside t net bits [] d inside = All-nil (IsCutOf t net)
fixed_inside t net bits (b ∷ bs) d inside = All-cons (IsCutOf t net) (fixed_bind bits b) (map (fixed_bind bits) bs)
    (record { node = All-head (λ (bind : Bind). bind.node.0 < net.nets) b bs inside; guard = (bit_means t (value_of b.guard bits) d).ref; value = (bit_means t (value_of b.value bits) d).ref })
    (fixed_inside t net bits bs d (All-tail (λ (bind : Bind). bind.node.0 < net.nets) b bs inside))

pub nodes_inside : (n : ℕ) (bits : List Bool) (binds : List Bind) → All (λ bind. bind.node.0 < n) binds → All (λ c. c.node.0 < n) (map (fixed_bind bits) binds)
nodes_inside n bits [] inside = All-nil (λ (c : Cut). c.node.0 < n)
nodes_inside n bits (b ∷ bs) inside = All-cons (λ (c : Cut). c.node.0 < n) (fixed_bind bits b) (map (fixed_bind bits) bs) (All-head (λ (bind : Bind). bind.node.0 < n) b bs inside) (nodes_inside n bits bs (All-tail (λ (bind : Bind). bind.node.0 < n) b bs inside))

module _ (net : RawNet) (settled : IsSettled net) (bits : List Bool) (edge : Edge) (s t u : Store) (rs held : List Rails) (weak : List NodeId) (cuts : List Cut) (result : Result Step OpFault) (weak_is : weakened_on edge ≡ ids_of weak) (gt : IsGood t) (same : t ≡ s) (held_is : held ≡ map (fixed_rails s bits) rs) (cuts_are : cuts ≡ map (fixed_bind bits) edge.ant) where
  pub held_refs : All (AreRefs t) held
  held_refs = subst (λ (xs : List Rails). All (AreRefs t) xs) (sym held_is) (fixed_refs s t bits rs gt)

  pub cuts_inside : All (λ bind. bind.node.0 < net.nets) edge.ant → All (IsCutOf t net) cuts
  cuts_inside inside = subst (λ (cs : List Cut). All (IsCutOf t net) cs) (sym cuts_are) (fixed_inside t net bits edge.ant gt inside)

  fit : AllZip (AreRails t) (map constant_set (map (set_of s bits) rs)) held
  fit = subst (λ (xs : List Rails). AllZip (AreRails t) (map constant_set (map (set_of s bits) rs)) xs) (sym held_is) (fixed_zip s t bits rs gt)

  fits : AllZip (IsCutBy t) (map (constant_cut bits) edge.ant) cuts
  fits = subst (λ (cs : List Cut). AllZip (IsCutBy t) (map (constant_cut bits) edge.ant) cs) (sym cuts_are) (fixed_cuts t bits edge.ant gt)

  module _ (call : StepCall net t u weak cuts held result) where
    pub on_edge : (made : Step) → result ≡ Ok made → IsStepOn net bits (map (set_of s bits) rs) edge u made
    on_edge made is sets possible =
        let b : Built (time_work net (map constant_set (map (set_of s bits) rs)) (constant_asked bits edge) (constant_sets sets)) (IsStep net (constant_sets sets)) t u (Ok made) =
        subst (λ (r : Result Step OpFault). Built (time_work net (map constant_set (map (set_of s bits) rs)) (constant_asked bits edge) (constant_sets sets)) (IsStep net (constant_sets sets)) t u r) is (step_built net settled bits edge (map (set_of s bits) rs) t u held weak cuts result weak_is fit fits call sets possible) in
        b.ok

    module _ (long : length rs ≡ length net.latches) (gu : IsGood u) (made : All (λ r. IsSome (u.held r)) u.made) where
      pub all_makes : MakesNothing s u
      all_makes = nothing_more s t u (nothing_done s t same) (step_makes net settled bits edge (map (set_of s bits) rs) t u held weak cuts result weak_is fit fits call (length-map rs (set_of s bits) ∙ long) gu made)

      pub all_goes : result ≢ Err StepsOut
      all_goes = step_goes net settled bits edge (map (set_of s bits) rs) t u held weak cuts result weak_is fit fits call (length-map rs (set_of s bits) ∙ long) gu made

-- ---- through slices

pub held_as : (s : Store) (bits : List Bool) (held all slice rs : List Rails) → held ≡ all → all ≡ map (fixed_rails s bits) slice → slice ≡ rs → held ≡ map (fixed_rails s bits) rs
held_as s bits held all slice rs e f h = e ∙ (f ∙ ap (λ (xs : List Rails). map (fixed_rails s bits) xs) h)

pub cuts_as : (bits : List Bool) (cuts all : List Cut) (slice binds : List Bind) → cuts ≡ all → all ≡ map (fixed_bind bits) slice → slice ≡ binds → cuts ≡ map (fixed_bind bits) binds
cuts_as bits cuts all slice binds e f h = e ∙ (f ∙ ap (λ (xs : List Bind). map (fixed_bind bits) xs) h)
