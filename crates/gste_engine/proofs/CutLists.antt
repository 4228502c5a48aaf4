-- What an edge asks, by references.
use Rattle.std.proofs.Common.{ℕ, zero, suc, ◌<◌, List, [], ◌∷◌, ◌++◌, length, get_or, subst, arith, Contains, All, ⊎_elim}
use Rattle.std.specs.List.{AllZip}
use Rattle.std.proofs.lemmas.List.Elements.{All-nil, All-cons, All-head, All-tail, Contains-append_left, Contains-append_right, Contains-append_cases}
use Rattle.ste_base.specs.Functions.{Function}
use Rattle.dd_nodes.specs.Stores.{Store}
use Rattle.net_core.specs.declared.raw.RawNet.{RawNet}
use Rattle.ste_model.specs.declared.task.Bind.{Bind}
use Rattle.ste_model.specs.Expressions.{symbolic_value}
use Rattle.ste_model.specs.GraphWork.{binds_work, symbolic_binds}
use Rattle.dual_rail.proofs.Works.{Within}
use Rattle.sym_step.specs.declared.cut.Cut.{Cut}
use Rattle.sym_step.specs.Step.{IsCutBy, IsCutOf}
use Rattle.gste_engine.specs.private.Given.{bind_work}

pub binds_has : (binds : List Bind) (k : ℕ) (d : Bind) → k < length binds → Within (bind_work (get_or binds k d)) (binds_work binds)
binds_has [] k d lt f h = absurd (omega arith)
binds_has (x ∷ xs) zero d lt f h =
    let a : List Function = (symbolic_value x.guard).work in
    let b : List Function = (symbolic_value x.value).work in
    ⊎_elim
    (λ (y : Contains a f). Contains-append_left a (b ++ binds_work xs) f y)
    (λ (y : Contains b f). Contains-append_right a (b ++ binds_work xs) f (Contains-append_left b (binds_work xs) f y))
    (Contains-append_cases a b f h)
binds_has (x ∷ xs) (suc k) d lt f h =
    let a : List Function = (symbolic_value x.guard).work in
    let b : List Function = (symbolic_value x.value).work in
    Contains-append_right a (b ++ binds_work xs) f (Contains-append_right b (binds_work xs) f (binds_has xs k d (omega arith) f h))

-- what they ask is asked of nets
pub cuts_of_net : (t : Store) (net : RawNet) (binds : List Bind) (cuts : List Cut) → AllZip (IsCutBy t) (symbolic_binds binds) cuts → All (λ bind. bind.node.0 < net.nets) binds → All (IsCutOf t net) cuts
cuts_of_net t net [] [] h inside = All-nil (IsCutOf t net)
cuts_of_net t net [] (y ∷ ys) h inside = absurd h
cuts_of_net t net (x ∷ xs) [] h inside = absurd h
cuts_of_net t net (x ∷ xs) (y ∷ ys) h inside = All-cons (IsCutOf t net) y ys
    (record {
      node = subst (λ (i : ℕ). i < net.nets) h.0.node (All-head (λ (bind : Bind). bind.node.0 < net.nets) x xs inside);
      guard = h.0.guard.ref;
      value = h.0.value.ref;
    })
    (cuts_of_net t net xs ys h.1 (All-tail (λ (bind : Bind). bind.node.0 < net.nets) x xs inside))
