-- One time: the functions of each part are among those of the whole.
use Rattle.std.proofs.Common.{ℕ, ◌∷◌, List, refl, arith, Contains}
use Rattle.std.proofs.lemmas.List.Elements.{Contains-append_left, Contains-append_right}
use Rattle.ste_base.specs.Functions.{Function}
use Rattle.net_core.specs.declared.raw.RawNet.{RawNet}
use Rattle.net_core.specs.Work.{SymbolicCut, SymbolicSet, disjunction, some_empty, time_work}
use Rattle.dual_rail.proofs.Works.{Within, behind}
use Rattle.ste_engine.specs.private.Finds.{found_work}
use Rattle.ste_engine.specs.private.Turns.{asked_by, turned_work}

module _ (net : RawNet) (ls : List SymbolicSet) (weak : List ℕ) (ds es : List SymbolicCut) (sets : ℕ → SymbolicSet) (c f h : Function) where
  pub time_in : Within (time_work net ls (asked_by weak ds) sets) (turned_work net ls weak ds es sets c f h)
  time_in x y = Contains-append_left (time_work net ls (asked_by weak ds) sets) (disjunction c (some_empty net sets) ∷ found_work sets es f h) x y

  pub empty_in : Contains (turned_work net ls weak ds es sets c f h) (disjunction c (some_empty net sets))
  empty_in = Contains-append_right (time_work net ls (asked_by weak ds) sets) (disjunction c (some_empty net sets) ∷ found_work sets es f h) (disjunction c (some_empty net sets)) (0, omega arith, refl)

  pub found_in : Within (found_work sets es f h) (turned_work net ls weak ds es sets c f h)
  found_in x y = Contains-append_right (time_work net ls (asked_by weak ds) sets) (disjunction c (some_empty net sets) ∷ found_work sets es f h) x (behind (disjunction c (some_empty net sets)) (found_work sets es f h) x y)
