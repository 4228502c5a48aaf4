-- The inputs and free nets of a net are just the nets that nothing drives.
use Rattle.std.proofs.Common.{◌≡◌, ◌≢◌, ℕ, zero, suc, ◌<◌, Bool, true, false, List, [], ◌∷◌, ◌++◌, length, get_or, arith, sym, ap, refl, subst, inl, inr, ◌∙◌}
use Rattle.std.specs.Prelude.{All, AllPairs, nat_lt, if◌then◌else◌}
use Rattle.std.proofs.lemmas.Bool.{and_from, and_parts, cases_lt, lt-ltb}
use Rattle.std.proofs.lemmas.List.{length-append}
use Rattle.std.proofs.lemmas.List.Elements.{All-push}
use Rattle.std.proofs.lemmas.List.Quantifiers.{all_pairs_push}
use Rattle.std.proofs.Math.ListN.{get_or-append}
use Rattle.std.proofs.Math.Seq.{get_or-append_seam}
use Rattle.ste_base.specs.declared.id.NodeId.{NodeId}
use Rattle.net_core.specs.declared.raw.RawNet.{RawNet}
use Rattle.net_core.specs.declared.source.Source.{Source}
use Rattle.net_core.specs.declared.source.Source.TheVariants as source
use Rattle.net_core.specs.Flat.{HasOneDriver}
use Rattle.net_core.specs.Run.{IsUndriven}
use Rattle.net_core.specs.Source.{source_of}
use Rattle.net_core.proofs.OneTime.{Facts, facts}
use Rattle.clock_step.specs.Order.{is_undriven, is_undriven_source}
use Rattle.ste_model.proofs.Bindings.{free_undriven, gate_drives, input_undriven, latch_drives}
use Rattle.counter_run.specs.Undriven.{undriven_below, undriven_nets}
use Rattle.counter_run.specs.private.Matrix.{AreSourceNodes}

source_tells : (net : RawNet) (id : ℕ) (found : Source) → Facts net id found → IsUndriven net id → is_undriven_source found ≡ true
source_tells net id source.Input f none = refl
source_tells net id source.Free f none = refl
source_tells net id (source.Gate g) f none = absurd (gate_drives net id g (source.Gate g) refl f none)
source_tells net id (source.Latch l) f none = absurd (latch_drives net id l (source.Latch l) refl f none)

told_by : (net : RawNet) (id : ℕ) (found : Source) → Facts net id found → is_undriven_source found ≡ true → IsUndriven net id
told_by net id source.Input f e = input_undriven net id source.Input refl f
told_by net id source.Free f e = free_undriven net id source.Free refl f
told_by net id (source.Gate g) f e = absurd (cc e)
told_by net id (source.Latch l) f e = absurd (cc e)

pub tells : (net : RawNet) (id : ℕ) → HasOneDriver net → id < net.nets → IsUndriven net id → is_undriven net id ≡ true
tells net id one l none = and_from (nat_lt id net.nets) _ (lt-ltb id net.nets l) (source_tells net id (source_of net id) (facts net one id) none)

pub told : (net : RawNet) (id : ℕ) → HasOneDriver net → is_undriven net id ≡ true → IsUndriven net id
told net id one e = told_by net id (source_of net id) (facts net one id) (and_parts (nat_lt id net.nets) _ e).1

abbrev grown : Bool → List NodeId → ℕ → List NodeId
grown b xs n = if b then xs ++ (record { 0 = n }) ∷ [] else xs

all_grown : (P : NodeId → Type 0) (b : Bool) (xs : List NodeId) (n : ℕ) → All P xs → (b ≡ true → P (record { 0 = n })) → All P (grown b xs n)
all_grown P true xs n all here = All-push P xs (record { 0 = n }) all (here refl)
all_grown P false xs n all here = all

pairs_grown : (b : Bool) (xs : List NodeId) (n : ℕ) → AllPairs (λ one other. one.0 ≢ other.0) xs → All (λ node. node.0 < n) xs → AllPairs (λ one other. one.0 ≢ other.0) (grown b xs n)
pairs_grown true xs n pairs all = all_pairs_push (λ one other. one.0 ≢ other.0) xs (record { 0 = n }) pairs (λ k d l e. let m = all k d l in absurd (omega arith))
pairs_grown false xs n pairs all = pairs

abbrev Stands : List NodeId → ℕ → Type 0
Stands xs id = (k : ℕ) × (k < length xs) × ((d : NodeId) → (get_or xs k d).0 ≡ id)

stands_grown : (b : Bool) (xs : List NodeId) (n id : ℕ) → Stands xs id → Stands (grown b xs n) id
stands_grown true xs n id at =
    let longer = length-append xs ((record { 0 = n }) ∷ []) in
    (at.0, omega arith, λ d. ap (λ (x : NodeId). x.0) (get_or-append xs ((record { 0 = n }) ∷ []) d at.0 at.1) ∙ at.2 d)
stands_grown false xs n id at = at

stands_last : (b : Bool) (xs : List NodeId) (n : ℕ) → b ≡ true → Stands (grown b xs n) n
stands_last true xs n e =
    let longer = length-append xs ((record { 0 = n }) ∷ []) in
    (length xs, omega arith, λ d. ap (λ (x : NodeId). x.0) (get_or-append_seam xs (record { 0 = n }) [] d))
stands_last false xs n e = absurd (cc e)

-- each of these nets has a smaller number
lower : (net : RawNet) (n : ℕ) → All (λ node. node.0 < n) (undriven_below net n)
lower net zero k d l = absurd (omega arith)
lower net (suc n) k d l =
    all_grown (λ node. node.0 < suc n) (is_undriven net n) (undriven_below net n) n (λ i e m. let h = lower net n i e m in omega arith) (λ e. omega arith) k d l

pub all_undriven : (net : RawNet) (n : ℕ) → All (λ node. is_undriven net node.0 ≡ true) (undriven_below net n)
all_undriven net zero k d l = absurd (omega arith)
all_undriven net (suc n) k d l = all_grown (λ node. is_undriven net node.0 ≡ true) (is_undriven net n) (undriven_below net n) n (all_undriven net n) (λ e. e) k d l

apart : (net : RawNet) (n : ℕ) → AllPairs (λ one other. one.0 ≢ other.0) (undriven_below net n)
apart net zero i j d l m = absurd (omega arith)
apart net (suc n) i j d l m = pairs_grown (is_undriven net n) (undriven_below net n) n (apart net n) (lower net n) i j d l m

every : (net : RawNet) (n id : ℕ) → id < n → is_undriven net id ≡ true → Stands (undriven_below net n) id
every net zero id l e = absurd (omega arith)
every net (suc n) id l e = elim (cases_lt id n) [
  | inl before ↦ stands_grown (is_undriven net n) (undriven_below net n) n id (every net n id before e)
  | inr at ↦
      let same : n ≡ id = omega arith in
      subst (Stands (undriven_below net (suc n))) same (stands_last (is_undriven net n) (undriven_below net n) n (ap (is_undriven net) same ∙ e))
]

pub source_nodes : (net : RawNet) (nodes : List NodeId) → HasOneDriver net → nodes ≡ undriven_nets net → AreSourceNodes net nodes
source_nodes net nodes one is = subst (AreSourceNodes net) (sym is) (record {
  within = lower net net.nets;
  different = apart net net.nets;
  undriven = λ k d l. told net (get_or (undriven_nets net) k d).0 one (all_undriven net net.nets k d l);
  every = λ id l none. every net net.nets id l (tells net id one l none);
})
