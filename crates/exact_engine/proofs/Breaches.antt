-- Where a run breaks quintuples first, list by list.
use Rattle.std.proofs.Common.{◌≡◌, ℕ, zero, suc, ◌<◌, ◌≤◌, Bool, true, false, not, List, [], ◌∷◌, ◌++◌, length, get_or, arith, refl, sym, subst, Option, None, Some, IfSome}
use Rattle.std.specs.Prelude.{All, slice_get}
use Rattle.std.proofs.lemmas.List.{map-append}
use Rattle.std.proofs.lemmas.List.Elements.{All-append, All-contains, All-cons, All-nil}
use Rattle.std.proofs.lemmas.Option.{get_or_from_slice_get, slice_get_within}
use Rattle.ste_base.specs.declared.id.NodeId.{NodeId}
use Rattle.net_core.specs.Run.{Cut, Meets}
use Rattle.ste_model.specs.declared.task.Assertion.{Assertion}
use Rattle.ste_model.specs.declared.task.Quint.{Quint}
use Rattle.ste_model.specs.Asked.{cuts_at, depth, quint_at}
use Rattle.ste_model.specs.Breaks.{Breaks}
use Rattle.ste_model.specs.Holds.{RunMeets}
use Rattle.ste_model.proofs.Passes.{on_below}
use Rattle.exact_model.specs.ExactReport.{IsBrokenFirst}
use Rattle.exact_model.proofs.Breaking.{con_ends}
use Rattle.exact_engine.specs.private.Breaching.{AreKeptBefore, IsFirstBreach, IsFirstOf, limit_of}

-- ---- bits

same_or_opposite : (a b : Bool) → ¬ (a ≡ not b) → a ≡ b
same_or_opposite false false h = refl
same_or_opposite false true h = absurd (h refl)
same_or_opposite true false h = absurd (h refl)
same_or_opposite true true h = refl

-- ---- lists

slice_get_front : {X : Type 0} (xs ys : List X) (k : ℕ) (x : X) → slice_get xs k ≡ Some x → slice_get (xs ++ ys) k ≡ Some x
slice_get_front [] ys k x e = absurd (cc e)
slice_get_front (y ∷ xs) ys zero x e = e
slice_get_front (y ∷ xs) ys (suc k) x e = slice_get_front xs ys k x e

slice_get_before : {X : Type 0} (xs ys : List X) (k : ℕ) (x : X) → k < length xs → slice_get (xs ++ ys) k ≡ Some x → slice_get xs k ≡ Some x
slice_get_before [] ys k x l e = absurd (omega arith)
slice_get_before (y ∷ xs) ys zero x l e = e
slice_get_before (y ∷ xs) ys (suc k) x l e = slice_get_before xs ys k x (omega arith) e

slice_get_seam : {X : Type 0} (xs : List X) (x : X) → slice_get (xs ++ x ∷ []) (length xs) ≡ Some x
slice_get_seam [] x = refl
slice_get_seam (y ∷ xs) x = slice_get_seam xs x

module _ (run : ℕ → ℕ → Bool) (bits : List Bool) (before : List Quint) (quint : Quint) where
  abbrev more : List Quint
  more = before ++ quint ∷ []

  seam : (t : ℕ) → cuts_at more bits t ≡ cuts_at before bits t ++ quint_at bits t quint ∷ []
  seam t = map-append (quint_at bits t) before (quint ∷ [])

  kept_with : (limit : ℕ) → AreKeptBefore run bits before limit → ((t : ℕ) → t < limit → ¬ Breaks (run t) (quint_at bits t quint)) → AreKeptBefore run bits more limit
  kept_with limit all one t l =
      subst (All (λ (cut : Cut). ¬ Breaks (run t) cut)) (sym (seam t))
      (All-append (λ (cut : Cut). ¬ Breaks (run t) cut) (cuts_at before bits t) (quint_at bits t quint ∷ []) (all t l)
      (All-cons (λ (cut : Cut). ¬ Breaks (run t) cut) (quint_at bits t quint) [] (one t l) (All-nil (λ (cut : Cut). ¬ Breaks (run t) cut))))

  kept_earlier : (depth : ℕ) (place : Option (NodeId × ℕ)) → IsFirstOf run bits depth before place → AreKeptBefore run bits before (limit_of place depth)
  kept_earlier depth None h = h
  kept_earlier depth (Some place) h = h.earliest

  limit_within : (depth : ℕ) (place : Option (NodeId × ℕ)) → IsFirstOf run bits depth before place → limit_of place depth ≤ depth
  limit_within depth None h = omega arith
  limit_within depth (Some place) h = let l = h.within in omega (arith, l)

  -- the quintuple is broken at no earlier time
  pub none_earlier : (depth : ℕ) (place : Option (NodeId × ℕ)) → IsFirstBreach run bits quint (limit_of place depth) None → IsFirstOf run bits depth before place → IsFirstOf run bits depth more place
  none_earlier depth None none h = kept_with depth h none
  none_earlier depth (Some place) none h = record {
    number = h.number;
    cut = h.cut;
    within = h.within;
    here = subst (λ (cs : List Cut). slice_get cs h.number ≡ Some h.cut) (sym (seam place.1)) (slice_get_front (cuts_at before bits place.1) (quint_at bits place.1 quint ∷ []) h.number h.cut h.here);
    node = h.node;
    broken = h.broken;
    first = λ j other l e. h.first j other l
        (slice_get_before (cuts_at before bits place.1) (quint_at bits place.1 quint ∷ []) j other
        (let m = slice_get_within (cuts_at before bits place.1) h.number h.cut h.here in omega (arith, l, m))
        (subst (λ (cs : List Cut). slice_get cs j ≡ Some other) (seam place.1) e));
    earliest = kept_with place.1 h.earliest none;
  }

  -- it is broken earlier
  pub one_earlier : (depth : ℕ) (place : Option (NodeId × ℕ)) (time : ℕ) → IsFirstBreach run bits quint (limit_of place depth) (Some time) → IsFirstOf run bits depth before place → IsFirstOf run bits depth more (Some (quint.node, time))
  one_earlier depth place time some h =
      let cs : List Cut = cuts_at before bits time in
      let kept = kept_earlier depth place h in
      record {
        number = length cs;
        cut = quint_at bits time quint;
        within = (let l = some.0 in let m = limit_within depth place h in omega (arith, l, m));
        here = subst (λ (ds : List Cut). slice_get ds (length cs) ≡ Some (quint_at bits time quint)) (sym (seam time)) (slice_get_seam cs (quint_at bits time quint));
        node = refl;
        broken = some.1;
        first = λ j other l e.
            let there = slice_get_before cs (quint_at bits time quint ∷ []) j other l (subst (λ (ds : List Cut). slice_get ds j ≡ Some other) (seam time) e) in
            All-contains (λ (cut : Cut). ¬ Breaks (run time) cut) cs other (kept time some.0) (j, l, get_or_from_slice_get cs j other other there);
        earliest = kept_with time (λ t l. kept t (let m = some.0 in omega (arith, l, m))) some.2;
      }

-- ---- the consequent

-- cuts that are not broken are met
met : (bit : ℕ → Bool) (cuts : List Cut) → All (λ (cut : Cut). ¬ Breaks bit cut) cuts → Meets cuts bit
met bit cuts kept k d l on =
    let cut : Cut = get_or cuts k d in
    same_or_opposite (bit cut.node) cut.value (λ e. kept k d l (on, e))

module _ (task : Assertion) (bits : List Bool) (run : ℕ → ℕ → Bool) where
  pub all_met : IsFirstOf run bits (depth task) task.con None → RunMeets (cuts_at task.con bits) run
  all_met kept t k d l on =
      met (run t) (cuts_at task.con bits t) (kept t (on_below bits t (depth task) task.con (con_ends task) k d l on)) k d l on

  pub first_place : (place : Option (NodeId × ℕ)) → IsFirstOf run bits (depth task) task.con place → IfSome place (IsBrokenFirst task bits run)
  first_place None h = tt
  first_place (Some place) h = record {
    number = h.number;
    here = record { cut = h.cut; within = h.within; here = h.here; broken = h.broken; first = h.first };
    node = h.node;
    earliest = λ t l. met (run t) (cuts_at task.con bits t) (h.earliest t l);
  }
