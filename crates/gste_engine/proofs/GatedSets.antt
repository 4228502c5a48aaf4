-- Sets where a function is 1, one after another; and what an edge gives by them.
use Rattle.std.proofs.Common.{All, ◌≡◌, ℕ, ◌+◌, ◌<◌, List, [], ◌∷◌, ◌++◌, length, take, get_or, map, refl, sym, ◌∙◌, ap, subst, arith, Result}
use Rattle.std.specs.List.{AllZip}
use Rattle.std.proofs.lemmas.List.{get_or-map, map_more}
use Rattle.std.proofs.lemmas.List.Elements.{All-head, All-tail}
use Rattle.dd_nodes.specs.declared.node.Ref.{Ref}
use Rattle.ste_base.specs.Functions.{Function}
use Rattle.dd_nodes.specs.Stores.{Store, Keeps, Means}
use Rattle.dd_nodes.proofs.Stores.{IsGood, Means-keeps}
use Rattle.dd_ops.specs.declared.fault.OpFault.{OpFault}
use Rattle.net_core.specs.declared.raw.Latch.{Latch}
use Rattle.net_core.specs.declared.raw.RawNet.{RawNet}
use Rattle.net_core.specs.Work.{SymbolicSet, everything}
use Rattle.ste_model.specs.GraphWork.{gated_set, sets_functions}
use Rattle.dual_rail.specs.declared.rails.Rails.{Rails}
use Rattle.dual_rail.specs.Rail.{AreRails, Built, HasSet}
use Rattle.dual_rail.proofs.Turns.{Zip-keep, zip_at, zip_long}
use Rattle.dual_rail.proofs.Works.{Rails-keep, SoFar}
use Rattle.sym_step.specs.Step.{HaveSets}
use Rattle.sym_step.specs.Frame.{input_rails}
use Rattle.gste_engine.specs.private.Given.{gated_sets}
use Rattle.gste_engine.proofs.Lists.{gated_has, zip_push}
use Rattle.gste_engine.proofs.Turning.{turned}

pub record GatedSoFar (ws : List SymbolicSet) (f : Function) (s t : Store) (k : ℕ) (all : List Rails) : Type 0 where
  pub so : SoFar (sets_functions (gated_sets f ws)) s t
  pub fit : AllZip (AreRails t) (gated_sets f (take k ws)) all

module _ (ws : List SymbolicSet) (f : Function) (sets : List Rails) (s t u : Store) (k : ℕ) (r : Rails) (gate : Ref) (all : List Rails) (gs : IsGood s) (gt : IsGood t) (gu : IsGood u) (lt : k < length sets) (is : r ≡ get_or sets k r) (zip : AllZip (AreRails s) ws sets) (mf : Means s f gate) (keeps : Keeps s t) (p : GatedSoFar ws f s t k all) where
  abbrev pub this : SymbolicSet
  this = get_or ws k everything

  inside : k < length ws
  inside = let long = zip_long (AreRails s) ws sets zip in omega (arith, long, lt)

  -- one more set
  pub gated_turn : (result : Result Rails OpFault) → ((w : SymbolicSet) (h : Function) → AreRails t w r → Means t h gate → Built (sets_functions (gated_set w h ∷ [])) (HasSet (gated_set w h)) t u result) → Built (sets_functions (gated_sets f ws)) (HasSet (gated_set this f)) s u result
  gated_turn result call =
      let here : AreRails s this r = subst (AreRails s this) (sym is) (zip_at (AreRails s) ws sets k everything r zip lt) in
      turned (sets_functions (gated_sets f ws)) (sets_functions (gated_set this f ∷ [])) (HasSet (gated_set this f)) s t u result gt gu (gated_has f ws k everything inside) p.so
      (call this f (Rails-keep s t this r gs gt keeps here) (Means-keeps s t f gate gs gt keeps mf))

  pub gated_fit : (one : Rails) → Keeps t u → AreRails u (gated_set this f) one → AllZip (AreRails u) (gated_sets f (take (k + 1) ws)) (all ++ one ∷ [])
  gated_fit one more h =
      subst (λ (xs : List SymbolicSet). AllZip (AreRails u) xs (all ++ one ∷ [])) (sym (map_more (λ w. gated_set w f) ws k everything inside))
      (zip_push (AreRails u) (gated_sets f (take k ws)) all (gated_set this f) one (Zip-keep t u (gated_sets f (take k ws)) all gt gu more p.fit) h)

-- what an edge gives is the latch inputs' sets, each where it is feasible
pub gated_inputs : (f : Function) (sets : ℕ → SymbolicSet) (latches : List Latch) → gated_sets f (map (λ latch. sets latch.input.0) latches) ≡ map (λ latch. gated_set (sets latch.input.0) f) latches
gated_inputs f sets [] = refl
gated_inputs f sets (l ∷ ls) = ap (λ xs. gated_set (sets l.input.0) f ∷ xs) (gated_inputs f sets ls)

-- the sets of the latches' inputs, from those of all nets
pub inputs_have : (net : RawNet) (sets : ℕ → SymbolicSet) (t : Store) (nets : List Rails) → HaveSets net sets t nets → (latches : List Latch) → All (λ latch. latch.input.0 < net.nets) latches → AllZip (AreRails t) (map (λ latch. sets latch.input.0) latches) (map (input_rails nets) latches)
inputs_have net sets t nets have [] below = tt
inputs_have net sets t nets have (l ∷ ls) below = (have l.input.0 (All-head (λ (latch : Latch). latch.input.0 < net.nets) l ls below), inputs_have net sets t nets have ls (All-tail (λ (latch : Latch). latch.input.0 < net.nets) l ls below))

-- what is read of a latch's input is the set of that place
pub input_is : (nets : List Rails) (latches : List Latch) (k : ℕ) (latch : Latch) (r : Rails) → k < length latches → latch ≡ get_or latches k latch → r ≡ input_rails nets latch → r ≡ get_or (map (input_rails nets) latches) k r
input_is nets latches k latch r lt is read = read ∙ ap (input_rails nets) is ∙ sym (get_or-map (input_rails nets) latches k latch r lt)
