-- Unions, one latch after another.
use Rattle.std.proofs.Common.{◌≡◌, ℕ, ◌+◌, ◌<◌, List, [], ◌∷◌, ◌++◌, length, take, get_or, sym, ◌∙◌, ap, subst, arith, Result}
use Rattle.std.specs.List.{AllZip}
use Rattle.std.proofs.lemmas.List.{length-take-le, take_more}
use Rattle.dd_nodes.specs.Stores.{Store, Keeps}
use Rattle.dd_nodes.proofs.Stores.{IsGood}
use Rattle.dd_ops.specs.declared.fault.OpFault.{OpFault}
use Rattle.net_core.specs.Work.{SymbolicSet, everything, union, union_work}
use Rattle.ste_model.specs.GraphWork.{sets_functions}
use Rattle.dual_rail.specs.declared.rails.Rails.{Rails}
use Rattle.dual_rail.specs.Rail.{AreRails, Built, HasSet}
use Rattle.dual_rail.proofs.Turns.{Zip-keep, zip_at, zip_long}
use Rattle.dual_rail.proofs.Works.{Rails-keep, SoFar}
use Rattle.gste_engine.specs.private.Sums.{unions}
use Rattle.gste_engine.proofs.Lists.{unions_has, unions_push, zip_push}
use Rattle.gste_engine.proofs.Turning.{turned}

pub record JoinedSoFar (vs ws : List SymbolicSet) (s t : Store) (k : ℕ) (all : List Rails) : Type 0 where
  pub so : SoFar (sets_functions (unions vs ws)) s t
  pub fit : AllZip (AreRails t) (unions (take k vs) (take k ws)) all

module _ (vs ws : List SymbolicSet) (a b : List Rails) (s t u : Store) (k : ℕ) (x y : Rails) (all : List Rails) (gs : IsGood s) (gt : IsGood t) (gu : IsGood u) (lt : k < length a) (long : length a ≡ length b) (left : AllZip (AreRails s) vs a) (right : AllZip (AreRails s) ws b) (keeps : Keeps s t) (p : JoinedSoFar vs ws s t k all) where
  abbrev pub one_of : SymbolicSet
  one_of = get_or vs k everything

  abbrev pub other_of : SymbolicSet
  other_of = get_or ws k everything

  in_vs : k < length vs
  in_vs = let n = zip_long (AreRails s) vs a left in omega (arith, n, lt)

  in_ws : k < length ws
  in_ws = let n = zip_long (AreRails s) ws b right in omega (arith, n, long, lt)

  same : length vs ≡ length ws
  same = zip_long (AreRails s) vs a left ∙ long ∙ sym (zip_long (AreRails s) ws b right)

  -- one more latch
  pub join_turn : x ≡ get_or a k x → y ≡ get_or b k y → (result : Result Rails OpFault) → ((v w : SymbolicSet) → AreRails t v x → AreRails t w y → Built (union_work v w) (HasSet (union v w)) t u result) → Built (sets_functions (unions vs ws)) (HasSet (union one_of other_of)) s u result
  join_turn is_x is_y result call =
      let hx : AreRails s one_of x = subst (AreRails s one_of) (sym is_x) (zip_at (AreRails s) vs a k everything x left lt) in
      let hy : AreRails s other_of y = subst (AreRails s other_of) (sym is_y) (zip_at (AreRails s) ws b k everything y right (omega (arith, long, lt))) in
      turned (sets_functions (unions vs ws)) (union_work one_of other_of) (HasSet (union one_of other_of)) s t u result gt gu (unions_has vs ws k everything everything same in_vs) p.so
      (call one_of other_of (Rails-keep s t one_of x gs gt keeps hx) (Rails-keep s t other_of y gs gt keeps hy))

  pub join_fit : (one : Rails) → Keeps t u → AreRails u (union one_of other_of) one → AllZip (AreRails u) (unions (take (k + 1) vs) (take (k + 1) ws)) (all ++ one ∷ [])
  join_fit one more h =
      let shorter : length (take k vs) ≡ length (take k ws) = length-take-le k vs (omega (arith, in_vs)) ∙ sym (length-take-le k ws (omega (arith, in_ws))) in
      let e : unions (take (k + 1) vs) (take (k + 1) ws) ≡ unions (take k vs) (take k ws) ++ union one_of other_of ∷ [] =
      ap (λ (xs : List SymbolicSet). unions xs (take (k + 1) ws)) (take_more vs k everything in_vs) ∙ ap (λ (ys : List SymbolicSet). unions (take k vs ++ one_of ∷ []) ys) (take_more ws k everything in_ws) ∙ unions_push (take k vs) (take k ws) one_of other_of shorter in
      subst (λ (xs : List SymbolicSet). AllZip (AreRails u) xs (all ++ one ∷ [])) (sym e)
      (zip_push (AreRails u) (unions (take k vs) (take k ws)) all (union one_of other_of) one (Zip-keep t u (unions (take k vs) (take k ws)) all gt gu more p.fit) h)
