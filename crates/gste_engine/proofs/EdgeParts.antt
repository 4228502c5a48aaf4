-- One edge: the functions of each part are among those of the whole.
use Rattle.std.proofs.Common.{ℕ, ◌∷◌, refl, arith, Contains}
use Rattle.std.proofs.lemmas.List.Elements.{Contains-append_left, Contains-append_right}
use Rattle.net_core.specs.declared.raw.RawNet.{RawNet}
use Rattle.net_core.specs.Work.{SymbolicSet, negation, some_empty, time_work}
use Rattle.ste_model.specs.declared.task.Edge.{Edge}
use Rattle.ste_model.specs.GraphWork.{SymbolicState, binds_work, edge_time_work, edge_work, feasible_where, given_by, sets_functions, symbolic_asked_on}
use Rattle.dual_rail.proofs.Works.{Within, behind}
use Rattle.gste_engine.specs.private.Given.{given_work}

module _ (net : RawNet) (source : SymbolicState) (sets : ℕ → SymbolicSet) where
  pub clear_in : Contains (given_work net source sets) (negation (some_empty net sets))
  clear_in = (0, omega arith, refl)

  pub feasible_in : Contains (given_work net source sets) (feasible_where net source sets)
  feasible_in = (1, omega arith, refl)

  pub next_in : Within (sets_functions (given_by net source sets).latches) (given_work net source sets)
  next_in f h = behind (negation (some_empty net sets)) (feasible_where net source sets ∷ sets_functions (given_by net source sets).latches) f (behind (feasible_where net source sets) (sets_functions (given_by net source sets).latches) f h)

  module _ (edge : Edge) where
    pub binds_in : Within (binds_work edge.ant) (edge_work net edge source sets)
    binds_in f h = Contains-append_left (binds_work edge.ant) (edge_time_work net edge source sets) f h

    pub time_in : Within (time_work net source.latches (symbolic_asked_on edge) sets) (edge_work net edge source sets)
    time_in f h = Contains-append_right (binds_work edge.ant) (edge_time_work net edge source sets) f (Contains-append_left (time_work net source.latches (symbolic_asked_on edge) sets) (given_work net source sets) f h)

    pub given_in : Within (given_work net source sets) (edge_work net edge source sets)
    given_in f h = Contains-append_right (binds_work edge.ant) (edge_time_work net edge source sets) f (Contains-append_right (time_work net source.latches (symbolic_asked_on edge) sets) (given_work net source sets) f h)
