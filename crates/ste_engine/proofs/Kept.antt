-- Kept functions: each has a reference.
use Rattle.std.proofs.Common.{◌≡◌, ℕ, zero, suc, ◌<◌, List, [], ◌∷◌, ◌++◌, subst, arith, Contains, ⊎_elim}
use Rattle.std.proofs.lemmas.List.Elements.{Contains-append_cases}
use Rattle.bool_expr.specs.Value.{value_of}
use Rattle.dd_nodes.specs.declared.node.Ref.{Ref}
use Rattle.ste_base.specs.Functions.{Function}
use Rattle.dd_nodes.specs.Stores.{Store, Means}
use Rattle.dd_nodes.proofs.Members.{Contains-cons_cases, Contains-none}
use Rattle.net_core.specs.declared.raw.RawNet.{RawNet}
use Rattle.net_core.specs.Work.{SymbolicSet}
use Rattle.dual_rail.specs.declared.rails.Rails.{Rails}
use Rattle.dual_rail.specs.Rail.{AreRails}
use Rattle.ste_model.specs.declared.task.Assertion.{Assertion}
use Rattle.ste_model.specs.declared.task.Quint.{Quint}
use Rattle.ste_model.specs.Asked.{depth}
use Rattle.ste_model.specs.Need.{kept_functions, quint_functions, set_functions}
use Rattle.ste_model.specs.Work.{contradictory_where, over_times, strong_where, weak_where}
use Rattle.ste_engine.specs.declared.timed_cuts.TimedCut.{TimedCut}
use Rattle.ste_engine.specs.private.TimedCuts.{AreTimedCuts}

abbrev HasRef : Store → Function → Type 0
HasRef t f = (x : Ref) × Means t f x

quint_refs : (t : Store) (place : ℕ) (quints : List Quint) (timed_cuts : List TimedCut) → AreTimedCuts t place quints timed_cuts → (f : Function) → Contains (quint_functions quints) f → HasRef t f
quint_refs t place [] timed_cuts fit f has = absurd (Contains-none f has)
quint_refs t place (q ∷ quints) [] fit f has = absurd fit
quint_refs t place (q ∷ quints) (a ∷ timed_cuts) fit f has = ⊎_elim
    (λ (e : value_of q.guard ≡ f). subst (HasRef t) e (a.cut.guard, fit.0.guard))
    (λ (rest : Contains (value_of q.value ∷ quint_functions quints) f). ⊎_elim
    (λ (e : value_of q.value ≡ f). subst (HasRef t) e (a.cut.value, fit.0.value))
    (λ (later : Contains (quint_functions quints) f). quint_refs t (suc place) quints timed_cuts fit.1 f later)
    (Contains-cons_cases (value_of q.value) (quint_functions quints) f rest))
    (Contains-cons_cases (value_of q.guard) (value_of q.value ∷ quint_functions quints) f has)

set_refs : (t : Store) (sets : ℕ → SymbolicSet) (n : ℕ) → ((id : ℕ) → id < n → (rails : Rails) × AreRails t (sets id) rails) → (f : Function) → Contains (set_functions sets n) f → HasRef t f
set_refs t sets zero have f has = absurd (Contains-none f has)
set_refs t sets (suc n) have f has = ⊎_elim
    (λ (earlier : Contains (set_functions sets n) f). set_refs t sets n (λ id lt. have id (omega arith)) f earlier)
    (λ (here : Contains ((sets n).zero ∷ (sets n).one ∷ []) f).
    let h = have n (omega arith) in ⊎_elim
    (λ (e : (sets n).zero ≡ f). subst (HasRef t) e (h.0.can0, h.1.zero))
    (λ (rest : Contains ((sets n).one ∷ []) f). ⊎_elim
    (λ (e : (sets n).one ≡ f). subst (HasRef t) e (h.0.can1, h.1.one))
    (λ (none : Contains [] f). absurd (Contains-none f none))
    (Contains-cons_cases (sets n).one [] f rest))
    (Contains-cons_cases (sets n).zero ((sets n).one ∷ []) f here))
    (Contains-append_cases (set_functions sets n) ((sets n).zero ∷ (sets n).one ∷ []) f has)

time_refs : (t : Store) (at_time : ℕ → List Function) (n : ℕ) → ((k : ℕ) → k < n → (f : Function) → Contains (at_time k) f → HasRef t f) → (f : Function) → Contains (over_times at_time n) f → HasRef t f
time_refs t at_time zero have f has = absurd (Contains-none f has)
time_refs t at_time (suc n) have f has = ⊎_elim
    (λ (earlier : Contains (over_times at_time n) f). time_refs t at_time n (λ k lt. have k (omega arith)) f earlier)
    (λ (here : Contains (at_time n) f). have n (omega arith) f here)
    (Contains-append_cases (over_times at_time n) (at_time n) f has)

-- each kept function has a reference
pub kept_refs : (net : RawNet) (task : Assertion) (table : ℕ → ℕ → SymbolicSet) (t : Store) (ant con : List TimedCut) (strong weak contradictory : Ref) → AreTimedCuts t 0 task.ant ant → AreTimedCuts t 0 task.con con
    → ((k id : ℕ) → k < depth task → id < net.nets → (rails : Rails) × AreRails t (table k id) rails)
    → Means t (strong_where net task table) strong → Means t (weak_where net task table) weak → Means t (contradictory_where net task table) contradictory
    → (f : Function) → Contains (kept_functions net task table) f → HasRef t f
kept_refs net task table t ant con strong weak contradictory fit_ant fit_con sets ms mw mc f has =
    let s : Function = strong_where net task table in
    let w : Function = weak_where net task table in
    let c : Function = contradictory_where net task table in
    let times : List Function = over_times (λ k. set_functions (table k) net.nets) (depth task) in
    ⊎_elim
    (λ (h : Contains (quint_functions task.ant) f). quint_refs t 0 task.ant ant fit_ant f h)
    (λ (rest : Contains (quint_functions task.con ++ (times ++ s ∷ w ∷ c ∷ [])) f). ⊎_elim
    (λ (h : Contains (quint_functions task.con) f). quint_refs t 0 task.con con fit_con f h)
    (λ (rest : Contains (times ++ s ∷ w ∷ c ∷ []) f). ⊎_elim
    (λ (h : Contains times f). time_refs t (λ k. set_functions (table k) net.nets) (depth task) (λ k lt g has. set_refs t (table k) net.nets (λ id inside. sets k id lt inside) g has) f h)
    (λ (rest : Contains (s ∷ w ∷ c ∷ []) f). ⊎_elim
    (λ (e : s ≡ f). subst (HasRef t) e (strong, ms))
    (λ (rest : Contains (w ∷ c ∷ []) f). ⊎_elim
    (λ (e : w ≡ f). subst (HasRef t) e (weak, mw))
    (λ (rest : Contains (c ∷ []) f). ⊎_elim
    (λ (e : c ≡ f). subst (HasRef t) e (contradictory, mc))
    (λ (none : Contains [] f). absurd (Contains-none f none))
    (Contains-cons_cases c [] f rest))
    (Contains-cons_cases w (c ∷ []) f rest))
    (Contains-cons_cases s (w ∷ c ∷ []) f rest))
    (Contains-append_cases times (s ∷ w ∷ c ∷ []) f rest))
    (Contains-append_cases (quint_functions task.con) (times ++ s ∷ w ∷ c ∷ []) f rest))
    (Contains-append_cases (quint_functions task.ant) (quint_functions task.con ++ (times ++ s ∷ w ∷ c ∷ [])) f has)
