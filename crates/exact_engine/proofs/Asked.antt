-- What is asked, by references.
use Rattle.std.proofs.Common.{ℕ, zero, suc, ◌<◌, List, [], ◌∷◌, ◌++◌, length, get_or, sym, ap, subst, arith, Contains, All, ⊎_elim}
use Rattle.std.specs.Prelude.{IsTrue, ◌&&◌}
use Rattle.std.proofs.lemmas.List.Elements.{All-nil, All-cons, All-head, All-tail, Contains-append_left, Contains-append_right, Contains-append_cases}
use Rattle.ste_base.specs.Functions.{Function}
use Rattle.dd_nodes.specs.Stores.{Store}
use Rattle.ste_model.specs.declared.task.Quint.{Quint}
use Rattle.ste_model.specs.Expressions.{reads, symbolic_value}
use Rattle.ste_model.specs.Work.{quints_work}
use Rattle.dual_rail.proofs.Works.{Within}
use Rattle.exact_engine.specs.declared.timed_cut.TimedCut.{TimedCut}
use Rattle.exact_engine.specs.private.Asking.{quint_work}
use Rattle.exact_engine.specs.private.TimedCuts.{AreTimedCuts, IsTimedCut, IsTimedCutRef}

-- both expressions read variables below this number alone
abbrev pub DoesRead : ℕ → Quint → Type 0
DoesRead vars quint = IsTrue (reads vars quint.guard && reads vars quint.value)

-- one more
pub timed_cuts_push : (t : Store) (quints : List Quint) (timed_cuts : List TimedCut) (q : Quint) (a : TimedCut) → AreTimedCuts t quints timed_cuts → IsTimedCut t q a → AreTimedCuts t (quints ++ q ∷ []) (timed_cuts ++ a ∷ [])
timed_cuts_push t [] [] q a h l = (l, tt)
timed_cuts_push t [] (y ∷ ys) q a h l = absurd h
timed_cuts_push t (x ∷ xs) [] q a h l = absurd h
timed_cuts_push t (x ∷ xs) (y ∷ ys) q a h l = (h.0, timed_cuts_push t xs ys q a h.1 l)

pub quints_has : (quints : List Quint) (k : ℕ) (q : Quint) → k < length quints → Within (quint_work (get_or quints k q)) (quints_work quints)
quints_has [] k q lt f h = absurd (omega arith)
quints_has (x ∷ xs) zero q lt f h =
    let a : List Function = (symbolic_value x.guard).work in
    let b : List Function = (symbolic_value x.value).work in
    ⊎_elim
    (λ (y : Contains a f). Contains-append_left a (b ++ quints_work xs) f y)
    (λ (y : Contains b f). Contains-append_right a (b ++ quints_work xs) f (Contains-append_left b (quints_work xs) f y))
    (Contains-append_cases a b f h)
quints_has (x ∷ xs) (suc k) q lt f h =
    let a : List Function = (symbolic_value x.guard).work in
    let b : List Function = (symbolic_value x.value).work in
    Contains-append_right a (b ++ quints_work xs) f (Contains-append_right b (quints_work xs) f (quints_has xs k q (omega arith) f h))

-- what is asked of nets that there are is held
pub timed_cuts_held : (s : Store) (nets : ℕ) (quints : List Quint) (timed_cuts : List TimedCut) → AreTimedCuts s quints timed_cuts → All (λ quint. quint.node.0 < nets) quints → All (IsTimedCutRef s nets) timed_cuts
timed_cuts_held s nets [] [] h inside = All-nil (IsTimedCutRef s nets)
timed_cuts_held s nets [] (y ∷ ys) h inside = absurd h
timed_cuts_held s nets (x ∷ xs) [] h inside = absurd h
timed_cuts_held s nets (x ∷ xs) (y ∷ ys) h inside =
    All-cons (IsTimedCutRef s nets) y ys (record {
      node = subst (λ (i : ℕ). i < nets) (ap (λ i. i.0) (sym h.0.node)) (All-head (λ (quint : Quint). quint.node.0 < nets) x xs inside);
      guard = h.0.guard.ref;
      value = h.0.value.ref;
    })
    (timed_cuts_held s nets xs ys h.1 (All-tail (λ (quint : Quint). quint.node.0 < nets) x xs inside))
