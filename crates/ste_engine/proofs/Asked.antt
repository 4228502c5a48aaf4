-- What is asked, by references.
use Rattle.std.proofs.Common.{◌≡◌, ℕ, zero, suc, ◌+◌, ◌<◌, ◌≤◌, Bool, true, false, List, [], ◌∷◌, ◌++◌, length, get_or, map, filter, sym, ◌∙◌, ap, subst, arith, Contains, All, ⊎_elim}
use Rattle.std.specs.Prelude.{◌&&◌, nat_le, nat_lt, if◌then◌else◌}
use Rattle.std.specs.List.{AllZip}
use Rattle.std.proofs.lemmas.List.Elements.{All-nil, All-cons, All-head, All-tail, Contains-append_left, Contains-append_right, Contains-append_cases}
use Rattle.ste_base.specs.Functions.{Function}
use Rattle.dd_nodes.specs.Stores.{Store, Keeps}
use Rattle.dd_nodes.proofs.Stores.{IsGood, Means-keeps}
use Rattle.net_core.specs.declared.raw.RawNet.{RawNet}
use Rattle.ste_model.specs.declared.task.Quint.{Quint}
use Rattle.ste_model.specs.Expressions.{symbolic_value}
use Rattle.ste_model.specs.Work.{has_time, quints_work, symbolic_cut, symbolic_cuts_at}
use Rattle.dual_rail.proofs.Works.{Within}
use Rattle.sym_step.specs.Step.{IsCutBy, IsCutOf}
use Rattle.ste_engine.specs.declared.timed_cuts.TimedCut.{TimedCut}
use Rattle.ste_engine.specs.private.TimedCuts.{AreTimedCuts, ArePlaced, IsTimedCut, quint_work, running_cuts, runs_at}

pub TimedCut-keeps : (s t : Store) (place : ℕ) (q : Quint) (a : TimedCut) → IsGood s → IsGood t → Keeps s t → IsTimedCut s place q a → IsTimedCut t place q a
TimedCut-keeps s t place q a gs gt k h = record { node = h.node; from = h.from; to = h.to; guard = Means-keeps s t _ _ gs gt k h.guard; value = Means-keeps s t _ _ gs gt k h.value; placed = h.placed }

pub TimedCuts-keep : (s t : Store) (place : ℕ) (quints : List Quint) (timed_cuts : List TimedCut) → IsGood s → IsGood t → Keeps s t → AreTimedCuts s place quints timed_cuts → AreTimedCuts t place quints timed_cuts
TimedCuts-keep s t place [] [] gs gt k h = tt
TimedCuts-keep s t place [] (y ∷ ys) gs gt k h = absurd h
TimedCuts-keep s t place (x ∷ xs) [] gs gt k h = absurd h
TimedCuts-keep s t place (x ∷ xs) (y ∷ ys) gs gt k h = (TimedCut-keeps s t place x y gs gt k h.0, TimedCuts-keep s t (suc place) xs ys gs gt k h.1)

-- one more
pub timed_cuts_push : (t : Store) (place : ℕ) (quints : List Quint) (timed_cuts : List TimedCut) (q : Quint) (a : TimedCut) → AreTimedCuts t place quints timed_cuts → IsTimedCut t (place + length quints) q a → AreTimedCuts t place (quints ++ q ∷ []) (timed_cuts ++ a ∷ [])
timed_cuts_push t place [] [] q a h l = (subst (λ n. IsTimedCut t n q a) (let e : place + 0 ≡ place = omega arith in e) l, tt)
timed_cuts_push t place [] (y ∷ ys) q a h l = absurd h
timed_cuts_push t place (x ∷ xs) [] q a h l = absurd h
timed_cuts_push t place (x ∷ xs) (y ∷ ys) q a h l = (h.0, timed_cuts_push t (suc place) xs ys q a h.1 (subst (λ n. IsTimedCut t n q a) (let e : place + suc (length xs) ≡ suc place + length xs = omega arith in e) l))

pub quints_has : (quints : List Quint) (k : ℕ) (q : Quint) → k < length quints → Within (quint_work (get_or quints k q)) (quints_work quints)
quints_has [] k q lt f h = absurd (omega arith)
quints_has (x ∷ xs) zero q lt f h =
    let a : List Function = (symbolic_value x.guard).work in
    let b : List Function = (symbolic_value x.value).work in
    ⊎_elim
    (λ (y : Contains a f). Contains-append_left a (b ++ quints_work xs) f y)
    (λ (y : Contains b f). Contains-append_right a (b ++ quints_work xs) f (Contains-append_left b (quints_work xs) f y))
    (Contains-append_cases a b f h)
quints_has (x ∷ xs) (suc k) q lt f h =
    let a : List Function = (symbolic_value x.guard).work in
    let b : List Function = (symbolic_value x.value).work in
    Contains-append_right a (b ++ quints_work xs) f (Contains-append_right b (quints_work xs) f (quints_has xs k q (omega arith) f h))

-- what may apply at a time by references is what may apply
pub cuts_by : (s : Store) (t place : ℕ) (quints : List Quint) (timed_cuts : List TimedCut) → AreTimedCuts s place quints timed_cuts → AllZip (IsCutBy s) (symbolic_cuts_at quints t) (running_cuts t timed_cuts)
cuts_by s t place [] [] h = tt
cuts_by s t place [] (y ∷ ys) h = absurd h
cuts_by s t place (x ∷ xs) [] h = absurd h
cuts_by s t place (x ∷ xs) (y ∷ ys) h = by (has_time t x) (runs_at t y) same (cuts_by s t (suc place) xs ys h.1)
  where
    same : runs_at t y ≡ has_time t x
    same = ap (λ n. nat_le n t && nat_lt t y.to) h.0.from ∙ ap (λ n. nat_le x.from t && nat_lt t n) h.0.to

    by : (a b : Bool) → b ≡ a → AllZip (IsCutBy s) (symbolic_cuts_at xs t) (running_cuts t ys)
        → AllZip (IsCutBy s) (map symbolic_cut (if a then x ∷ filter (has_time t) xs else filter (has_time t) xs)) (map (λ (timed_cut : TimedCut). timed_cut.cut) (if b then y ∷ filter (runs_at t) ys else filter (runs_at t) ys))
    by true true e rest = (record { node = ap (λ i. i.0) (sym h.0.node); guard = h.0.guard; value = h.0.value }, rest)
    by false false e rest = rest
    by true false e rest = absurd (cc e)
    by false true e rest = absurd (cc e)

pub cuts_are : (s : Store) (net : RawNet) (t place : ℕ) (quints : List Quint) (timed_cuts : List TimedCut) → AreTimedCuts s place quints timed_cuts → All (λ quint. quint.node.0 < net.nets) quints → All (IsCutOf s net) (running_cuts t timed_cuts)
cuts_are s net t place [] [] h inside = All-nil (IsCutOf s net)
cuts_are s net t place [] (y ∷ ys) h inside = absurd h
cuts_are s net t place (x ∷ xs) [] h inside = absurd h
cuts_are s net t place (x ∷ xs) (y ∷ ys) h inside = by (runs_at t y) (cuts_are s net t (suc place) xs ys h.1 (All-tail (λ (quint : Quint). quint.node.0 < net.nets) x xs inside))
  where
    by : (b : Bool) → All (IsCutOf s net) (running_cuts t ys) → All (IsCutOf s net) (map (λ (timed_cut : TimedCut). timed_cut.cut) (if b then y ∷ filter (runs_at t) ys else filter (runs_at t) ys))
    by true rest = All-cons (IsCutOf s net) y.cut (running_cuts t ys) (record {
      node = subst (λ (i : ℕ). i < net.nets) (ap (λ i. i.0) (sym h.0.node)) (All-head (λ (quint : Quint). quint.node.0 < net.nets) x xs inside);
      guard = h.0.guard.ref;
      value = h.0.value.ref;
    }) rest
    by false rest = rest

-- what is said of each quintuple's end is said of what it asks
pub timed_cuts_within : (s : Store) (n place : ℕ) (quints : List Quint) (timed_cuts : List TimedCut) → AreTimedCuts s place quints timed_cuts → All (λ quint. quint.to ≤ n) quints → All (λ timed_cut. timed_cut.to ≤ n) timed_cuts
timed_cuts_within s n place [] [] h within = All-nil (λ (timed_cut : TimedCut). timed_cut.to ≤ n)
timed_cuts_within s n place [] (y ∷ ys) h within = absurd h
timed_cuts_within s n place (x ∷ xs) [] h within = absurd h
timed_cuts_within s n place (x ∷ xs) (y ∷ ys) h within =
    All-cons (λ (timed_cut : TimedCut). timed_cut.to ≤ n) y ys (subst (λ m. m ≤ n) (sym h.0.to) (All-head (λ (quint : Quint). quint.to ≤ n) x xs within))
    (timed_cuts_within s n (suc place) xs ys h.1 (All-tail (λ (quint : Quint). quint.to ≤ n) x xs within))

-- places are those in the list
pub asks_placed : (s : Store) (place : ℕ) (quints : List Quint) (timed_cuts : List TimedCut) → AreTimedCuts s place quints timed_cuts → ArePlaced place timed_cuts
asks_placed s place [] [] h = tt
asks_placed s place [] (y ∷ ys) h = absurd h
asks_placed s place (x ∷ xs) [] h = absurd h
asks_placed s place (x ∷ xs) (y ∷ ys) h =
    let at = h.0.placed in
    (omega (arith, at), subst (λ n. ArePlaced (suc n) ys) (sym at) (asks_placed s (suc place) xs ys h.1))
