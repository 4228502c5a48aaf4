-- Kept functions of edges: each has a reference.
use Rattle.std.proofs.Common.{◌≡◌, ℕ, zero, suc, ◌<◌, List, [], ◌∷◌, ◌++◌, subst, arith, Contains, ⊎_elim}
use Rattle.std.specs.List.{AllZip}
use Rattle.std.proofs.lemmas.List.Elements.{Contains-append_cases}
use Rattle.bool_expr.specs.Value.{value_of}
use Rattle.dd_nodes.specs.declared.node.Ref.{Ref}
use Rattle.ste_base.specs.Functions.{Function}
use Rattle.dd_nodes.specs.Stores.{Store, Keeps, Means}
use Rattle.dd_nodes.proofs.Members.{Contains-cons_cases, Contains-none}
use Rattle.dd_nodes.proofs.Stores.{IsGood, Means-keeps}
use Rattle.net_core.specs.Work.{SymbolicSet}
use Rattle.dual_rail.specs.declared.rails.Rails.{Rails}
use Rattle.dual_rail.specs.Rail.{AreRails}
use Rattle.sym_step.specs.declared.cut.Cut.{Cut}
use Rattle.sym_step.specs.Step.{IsCutBy}
use Rattle.ste_model.specs.declared.task.Bind.{Bind}
use Rattle.ste_model.specs.GraphNeed.{bind_functions}
use Rattle.ste_model.specs.GraphWork.{symbolic_binds}
use Rattle.ste_model.specs.Need.{set_functions}
use Rattle.gste_engine.specs.private.EdgeFinds.{HaveRefs}

abbrev HasRef : Store → Function → Type 0
HasRef t f = (x : Ref) × Means t f x

pub Refs-held : (s t : Store) (fs : List Function) → IsGood s → IsGood t → Keeps s t → HaveRefs s fs → HaveRefs t fs
Refs-held s t fs gs gt k have f has = let (x, m) = have f has in (x, Means-keeps s t f x gs gt k m)

pub refs_both : (t : Store) (one other : List Function) → HaveRefs t one → HaveRefs t other → HaveRefs t (one ++ other)
refs_both t one other a b f has = ⊎_elim (λ (h : Contains one f). a f h) (λ (h : Contains other f). b f h) (Contains-append_cases one other f has)

pub bind_refs : (t : Store) (binds : List Bind) (cuts : List Cut) → AllZip (IsCutBy t) (symbolic_binds binds) cuts → HaveRefs t (bind_functions binds)
bind_refs t [] cuts zip f has = absurd (Contains-none f has)
bind_refs t (b ∷ binds) [] zip f has = absurd zip
bind_refs t (b ∷ binds) (c ∷ cuts) zip f has = ⊎_elim
    (λ (e : value_of b.guard ≡ f). subst (HasRef t) e (c.guard, zip.0.guard))
    (λ (rest : Contains (value_of b.value ∷ bind_functions binds) f). ⊎_elim
    (λ (e : value_of b.value ≡ f). subst (HasRef t) e (c.value, zip.0.value))
    (λ (later : Contains (bind_functions binds) f). bind_refs t binds cuts zip.1 f later)
    (Contains-cons_cases (value_of b.value) (bind_functions binds) f rest))
    (Contains-cons_cases (value_of b.guard) (value_of b.value ∷ bind_functions binds) f has)

pub net_refs : (t : Store) (sets : ℕ → SymbolicSet) (n : ℕ) → ((id : ℕ) → id < n → (rails : Rails) × AreRails t (sets id) rails) → HaveRefs t (set_functions sets n)
net_refs t sets zero have f has = absurd (Contains-none f has)
net_refs t sets (suc n) have f has = ⊎_elim
    (λ (earlier : Contains (set_functions sets n) f). net_refs t sets n (λ id lt. have id (omega arith)) f earlier)
    (λ (here : Contains ((sets n).zero ∷ (sets n).one ∷ []) f).
    let h = have n (omega arith) in ⊎_elim
    (λ (e : (sets n).zero ≡ f). subst (HasRef t) e (h.0.can0, h.1.zero))
    (λ (rest : Contains ((sets n).one ∷ []) f). ⊎_elim
    (λ (e : (sets n).one ≡ f). subst (HasRef t) e (h.0.can1, h.1.one))
    (λ (none : Contains [] f). absurd (Contains-none f none))
    (Contains-cons_cases (sets n).one [] f rest))
    (Contains-cons_cases (sets n).zero ((sets n).one ∷ []) f here))
    (Contains-append_cases (set_functions sets n) ((sets n).zero ∷ (sets n).one ∷ []) f has)
