use Rattle.std.proofs.Common.{ℕ, Bool, List, sym, ap, subst}
use Rattle.std.specs.Prelude.{IsTrue}
use Rattle.dd_nodes.specs.Stores.{Store, function}
use Rattle.net_core.specs.declared.raw.RawNet.{RawNet}
use Rattle.engine_parts.specs.Failing.{FailsBy, MakesNothing}
use Rattle.engine_parts.proofs.Nothing.{nothing_done, nothing_more}
use Rattle.ste_model.specs.declared.task.Graph.{Graph}
use Rattle.ste_model.specs.GraphFound.{IsGraphFound}
use Rattle.ste_model.specs.GraphReport.{IsGraphPlace}
use Rattle.ste_model.specs.GraphShown.{IsShownPath}
use Rattle.ste_model.specs.Least.{IsLeast, IsLeastOf}
use Rattle.gste_engine.specs.Tables.{AreConsequentsOver}
use Rattle.gste_engine.proofs.FailureShows.{found_of, least_has, least_shown}
use Rattle.gste_engine.proofs.GraphPlaces.{settled_keeps}
use Rattle.gste_engine.proofs.shown.least_failure.Goals as goal

pub path_shown-requires-clause-con : goal.path_shown-requires-clause-con
path_shown-requires-clause-con g c =
    let s : Store = g.N.Nodes.store c.args.nodes.now in
    let net : RawNet = c.args.net.now.raw in
    let graph : Graph = c.args.graph.now in
    subst (λ v. AreConsequentsOver net v graph) (sym (ap (λ (x : Store). x.vars) c.in_ok-bits.ensures.store)) c.requires.con

pub path_shown-requires-clause-found : goal.path_shown-requires-clause-found
path_shown-requires-clause-found g c =
    let s : Store = g.N.Nodes.store c.args.nodes.now in
    let net : RawNet = c.args.net.now.raw in
    let graph : Graph = c.args.graph.now in
    let f = c.args.failure in
    let bits : List Bool = c.in-Some.bits in
    let least : IsLeast s.vars (λ other. IsTrue (function s c.args.found other)) bits = subst (IsLeastOf s.vars (function s c.args.found)) c.in-Some.is c.in_ok-bits.ensures.least in
    subst (λ (xs : List Bool). IsGraphFound (FailsBy f) net graph xs) (sym c.as_slice.ensures) (found_of f net graph bits (least_has f net s.vars graph (function s c.args.found) c.requires.told bits least))

pub place_on-requires-clause-con : goal.place_on-requires-clause-con
place_on-requires-clause-con g c =
    let s : Store = g.N.Nodes.store c.args.nodes.now in
    let net : RawNet = c.args.net.now.raw in
    let graph : Graph = c.args.graph.now in
    let t : Store = g.N.Nodes.store c.path_shown.new.nodes in
    let same : MakesNothing s t = nothing_more s (g.N.Nodes.store c.least.new.nodes) t (nothing_done s (g.N.Nodes.store c.least.new.nodes) c.in_ok-bits.ensures.store) c.in_ok-path.ensures.same in
    subst (λ v. AreConsequentsOver net v graph) (sym same.keeps.vars) c.requires.con

pub place_on-requires-clause-table : goal.place_on-requires-clause-table
place_on-requires-clause-table g c =
    let s : Store = g.N.Nodes.store c.args.nodes.now in
    let net : RawNet = c.args.net.now.raw in
    let graph : Graph = c.args.graph.now in
    let t : Store = g.N.Nodes.store c.path_shown.new.nodes in
    let same : MakesNothing s t = nothing_more s (g.N.Nodes.store c.least.new.nodes) t (nothing_done s (g.N.Nodes.store c.least.new.nodes) c.in_ok-bits.ensures.store) c.in_ok-path.ensures.same in
    settled_keeps s t net graph c.args.table.now (g.met.N.Nodes.diagram c.args.nodes.now) (g.met.N.Nodes.diagram c.path_shown.new.nodes) same c.requires.table

pub returns-clause-shown : goal.returns-clause-shown
returns-clause-shown g c =
    let s : Store = g.N.Nodes.store c.args.nodes.now in
    let net : RawNet = c.args.net.now.raw in
    let graph : Graph = c.args.graph.now in
    let f = c.args.failure in
    let bits : List Bool = c.in-Some.bits in
    let least : IsLeast s.vars (λ other. IsTrue (function s c.args.found other)) bits = subst (IsLeastOf s.vars (function s c.args.found)) c.in-Some.is c.in_ok-bits.ensures.least in
    let path : IsShownPath (FailsBy f) net graph bits c.in_ok-path.path = subst (λ (xs : List Bool). IsShownPath (FailsBy f) net graph xs c.in_ok-path.path) c.as_slice.ensures c.in_ok-path.ensures.path in
    let place : IsGraphPlace (FailsBy f) net graph bits c.in_ok-path.path c.in_ok-place.place = subst (λ (xs : List Bool). IsGraphPlace (FailsBy f) net graph xs c.in_ok-path.path c.in_ok-place.place) c.as_slice-3.ensures
    (subst (λ (ns : List ℕ). IsGraphPlace (FailsBy f) net graph c.as_slice-3.result.now ns c.in_ok-place.place) c.as_slice-2.ensures c.in_ok-place.ensures.place) in
    least_shown f net s.vars graph (function s c.args.found) c.requires.told bits c.in_ok-path.path c.in_ok-place.place least path place
