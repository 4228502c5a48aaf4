-- What a failure shows is one: the failing place, and the printed run.
use Rattle.std.proofs.Common.{◌≡◌, ℕ, zero, suc, ◌<◌, Bool, true, false, List, [], ◌∷◌, map, get_or, arith, sym, ap, refl, subst, ◌∙◌, inl, inr}
use Rattle.std.specs.Prelude.{All, Any, IsTrue, ◌⊎◌, Some, slice_get}
use Rattle.std.specs.List.{AllZip}
use Rattle.std.proofs.lemmas.List.{get_or_default}
use Rattle.std.proofs.lemmas.List.Elements.{All-contains}
use Rattle.std.proofs.Math.Decide.{dec_lt, ℕ_discrete}
use Rattle.ste_base.specs.declared.id.NodeId.{NodeId}
use Rattle.net_core.specs.declared.bit_set.BitSet.{BitSet}
use Rattle.net_core.specs.declared.raw.Init.{Init}
use Rattle.net_core.specs.declared.raw.Init.TheVariants as init
use Rattle.net_core.specs.declared.raw.Latch.{Latch}
use Rattle.net_core.specs.declared.raw.RawNet.{RawNet}
use Rattle.net_core.specs.Flat.{IsInRange}
use Rattle.net_core.specs.OneRun.{IsGivenRun}
use Rattle.net_core.specs.Possible.{IsLeft}
use Rattle.net_core.specs.Run.{Cut, IsInitial, IsSettled, MayStart}
use Rattle.net_core.proofs.Possible.{and_or_not, same_or_not}
use Rattle.net_core.proofs.Runs.{same_run}
use Rattle.ste_model.specs.declared.task.Assertion.{Assertion}
use Rattle.ste_model.specs.Asked.{asked_at, cuts_at, depth}
use Rattle.ste_model.specs.Found.{IsTableOf}
use Rattle.ste_model.specs.Report.{IsFailingPlace}
use Rattle.ste_model.specs.Shown.{IsFilled, IsFirstBit, IsOpen, IsPrinted}
use Rattle.ste_model.proofs.Tables.{same_table}
use Rattle.ste_model.proofs.Verdicts.{some_or_not}

-- ---- the failing place

any_at : {X : Type 0} (P : X → Type 0) (xs : List X) (k : ℕ) (x : X) → slice_get xs k ≡ Some x → P x → Any P xs
any_at P [] k x e h = absurd (cc e)
any_at P (y ∷ xs) zero x e h = let same : y ≡ x = cc e in (0, y, omega arith, refl, subst P (sym same) h)
any_at P (y ∷ xs) (suc k) x e h = let any = any_at P xs k x e h in (suc any.0, any.1, (let l = any.2 in omega arith), any.3, any.4)

pub same_place : (p q : NodeId × ℕ) → p.0.0 ≡ q.0.0 → p.1 ≡ q.1 → p ≡ q
same_place p q e f =
    let make : ℕ → ℕ → NodeId × ℕ = λ id t. (record { 0 = id }, t) in
    ap (λ id. make id p.1) e ∙ ap (make q.0.0) f

module _ (Fails : (ℕ → BitSet) → Cut → Type 0) (net : RawNet) (task : Assertion) (bits : List Bool) (settled : IsSettled net) where
  tables_same : (one other : ℕ → ℕ → BitSet) → IsTableOf net task bits one → IsTableOf net task bits other → (t : ℕ) → t < depth task → one t ≡ other t
  tables_same one other a b t l = λ i id. same_table net task.reset (asked_at task bits) (depth task) settled one other a b t id l i

  not_before : (p q : NodeId × ℕ) → IsFailingPlace Fails net task bits p → IsFailingPlace Fails net task bits q → p.1 < q.1 → ⊥
  not_before p q a b l =
      b.earliest p.1 l (any_at (Fails (b.table p.1)) (cuts_at task.con bits p.1) a.number a.cut a.here
      (subst (λ (sets : ℕ → BitSet). Fails sets a.cut) (tables_same a.table b.table a.possible b.possible p.1 a.within) a.fails))

  not_lower : (p q : NodeId × ℕ) (a : IsFailingPlace Fails net task bits p) (b : IsFailingPlace Fails net task bits q) → p.1 ≡ q.1 → a.number < b.number → ⊥
  not_lower p q a b e l =
      b.first a.number a.cut l (subst (λ (t : ℕ). slice_get (cuts_at task.con bits t) a.number ≡ Some a.cut) e a.here)
      (subst (λ (t : ℕ). Fails (b.table t) a.cut) e (subst (λ (sets : ℕ → BitSet). Fails sets a.cut) (tables_same a.table b.table a.possible b.possible p.1 a.within) a.fails))

  pub one_place : (p q : NodeId × ℕ) → IsFailingPlace Fails net task bits p → IsFailingPlace Fails net task bits q → p ≡ q
  one_place p q a b =
      let times : p.1 ≡ q.1 = elim (dec_lt p.1 q.1) [
        | yes l ↦ absurd (not_before p q a b l)
        | no f ↦ elim (dec_lt q.1 p.1) [
          | yes l ↦ absurd (not_before q p b a l)
          | no g ↦ omega (arith, f, g)
        ]
      ] in
      let numbers : a.number ≡ b.number = elim (dec_lt a.number b.number) [
        | yes l ↦ absurd (not_lower p q a b times l)
        | no f ↦ elim (dec_lt b.number a.number) [
          | yes l ↦ absurd (not_lower q p b a (sym times) l)
          | no g ↦ omega (arith, f, g)
        ]
      ] in
      let here : slice_get (cuts_at task.con bits q.1) b.number ≡ Some a.cut =
      subst (λ (k : ℕ). slice_get (cuts_at task.con bits q.1) k ≡ Some a.cut) numbers (subst (λ (t : ℕ). slice_get (cuts_at task.con bits t) a.number ≡ Some a.cut) times a.here) in
      let both : Some a.cut ≡ Some b.cut = sym here ∙ b.here in
      let cuts : a.cut ≡ b.cut = cc both in
      same_place p q (a.node ∙ ap (λ (cut : Cut). cut.node) cuts ∙ sym b.node) times

-- ---- the printed run

open_or_asked : (cuts : List Cut) (id : ℕ) → IsOpen cuts id ⊎ Any (λ cut. IsTrue cut.on × (cut.node ≡ id)) cuts
open_or_asked cuts id = elim (some_or_not (λ cut. IsTrue cut.on × (cut.node ≡ id)) (λ cut. and_or_not (same_or_not cut.on true) (ℕ_discrete cut.node id)) cuts) [
  | yes any ↦ inr any
  | no none ↦ inl (λ k d l on e. none (k, get_or cuts k d, l, get_or_default cuts k (get_or cuts k d) d l, (on, e)))
]

-- what is asked of a net is one bit
one_asked : (cuts : List Cut) (id : ℕ) (b c : Bool) → IsLeft cuts id b → IsLeft cuts id c → Any (λ cut. IsTrue cut.on × (cut.node ≡ id)) cuts → b ≡ c
one_asked cuts id b c f g any =
    let at : (bit : Bool) → IsLeft cuts id bit → any.1.value ≡ bit = λ bit left. All-contains (λ cut. IsTrue cut.on → cut.node ≡ id → cut.value ≡ bit) cuts any.1 left (any.0, any.2, any.3) any.4.0 any.4.1 in
    sym (at b f) ∙ at c g

pub one_filled : (cuts : List Cut) (id : ℕ) (b c : Bool) → IsFilled cuts id b → IsFilled cuts id c → b ≡ c
one_filled cuts id b c f g = elim (open_or_asked cuts id) [
  | inl none ↦ f.rest none ∙ sym (g.rest none)
  | inr any ↦ one_asked cuts id b c f.asked g.asked any
]

pub one_first : (reset : Bool) (latch : Latch) (cuts : List Cut) (b c : Bool) → IsFirstBit reset latch cuts b → IsFirstBit reset latch cuts c → MayStart reset latch b → MayStart reset latch c → b ≡ c
one_first reset latch cuts b c f g s t = elim (open_or_asked cuts latch.output.0) [
  | inl none ↦ by reset latch.init refl (f.rest none) (g.rest none) s t
  | inr any ↦ one_asked cuts latch.output.0 b c f.asked g.asked any
]
  where
    by : (with : Bool) (start : Init) → latch.init ≡ start → (((bit : Bool) → MayStart with latch bit) → b ≡ false) → (((bit : Bool) → MayStart with latch bit) → c ≡ false) → MayStart with latch b → MayStart with latch c → b ≡ c
    by false start e p q s t = p (λ bit on. absurd (cc on)) ∙ sym (q (λ bit on. absurd (cc on)))
    by true init.Free e p q s t =
        let either : (bit : Bool) → MayStart true latch bit = λ bit on. subst (λ (i : Init). IsInitial i bit) (sym e) tt in
        p either ∙ sym (q either)
    by true init.Zero e p q s t = subst (λ (i : Init). IsInitial i b) e (s refl) ∙ sym (subst (λ (i : Init). IsInitial i c) e (t refl))
    by true init.One e p q s t = subst (λ (i : Init). IsInitial i b) e (s refl) ∙ sym (subst (λ (i : Init). IsInitial i c) e (t refl))

pub starts_with : (f g : Latch → Bool) (latches : List Latch) → All (λ latch. f latch ≡ g latch) latches → AllZip (λ latch bit. f latch ≡ bit) latches (map g latches)
starts_with f g [] all = tt
starts_with f g (latch ∷ latches) all = (all 0 latch (omega arith), starts_with f g latches (λ k d l. all (suc k) d (omega arith)))

-- what one printed run gives fixes another
given_by : (net : RawNet) (task : Assertion) (bits : List Bool) (one other : ℕ → ℕ → Bool) → IsPrinted net task bits one → IsPrinted net task bits other → IsGivenRun net one (map (λ (latch : Latch). one 0 latch.output.0) net.latches) (depth task) other
given_by net task bits one other a b = record {
  is_run = b.is_run.is_run;
  sources = λ t id l m none. one_filled (cuts_at task.ant bits t) id (other t id) (one t id) (b.sources t id l m none) (a.sources t id l m none);
  starts = λ l. starts_with (λ latch. other 0 latch.output.0) (λ latch. one 0 latch.output.0) net.latches (λ k d m.
      let latch = get_or net.latches k d in
      one_first task.reset latch (cuts_at task.ant bits 0) (other 0 latch.output.0) (one 0 latch.output.0) (b.starts l k d m) (a.starts l k d m) (b.is_run.starts l k d m) (a.is_run.starts l k d m));
}

pub one_printed : (net : RawNet) (task : Assertion) (bits : List Bool) → IsInRange net → IsSettled net → (one other : ℕ → ℕ → Bool) → IsPrinted net task bits one → IsPrinted net task bits other → (t id : ℕ) → t < depth task → id < net.nets → one t id ≡ other t id
one_printed net task bits range settled one other a b =
    same_run net range settled one (map (λ (latch : Latch). one 0 latch.output.0) net.latches) (depth task) one other (given_by net task bits one one a a) (given_by net task bits one other a b)
