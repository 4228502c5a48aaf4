use Rattle.std.proofs.Common.{◌≤◌, List, All, Vec, Global, Ok, subst, sym}
use Rattle.ste_base.specs.Functions.{Function}
use Rattle.dd_nodes.specs.Stores.{Store}
use Rattle.dual_rail.proofs.Works.{Built-made, So-start, first, lost, pass}
use Rattle.ste_model.specs.Work.{quints_work}
use Rattle.ste_engine.specs.declared.timed_cuts.TimedCut.{TimedCut}
use Rattle.ste_engine.specs.private.TimedCuts.{AreTimedCuts}
use Rattle.ste_engine.specs.private.Times.{IsTimeline}
use Rattle.ste_engine.specs.private.Turns.{IsLine}
use Rattle.ste_engine.proofs.Asked.{timed_cuts_within}
use Rattle.ste_engine.proofs.engine.line_of.Goals as goal

pub returns-in_err-timed_cuts : goal.returns-in_err-timed_cuts
returns-in_err-timed_cuts g c =
    let s : Store = g.N.Nodes.store c.args.nodes.now in
    let t : Store = g.N.Nodes.store c.timed_cuts_of.new.nodes in
    let work : List Function = quints_work c.args.quints.now in
    let fault = c.in_err-timed_cuts.field-0.0 in
    pass work (λ t (timed_cuts : Vec TimedCut Global). AreTimedCuts t 0 c.args.quints.now timed_cuts.items) (λ t line. IsLine t c.args.quints.now c.args.depth 0 line) s s t fault c.from_residual.result
    (g.met.N.Nodes.diagram c.args.nodes.now) (g.met.N.Nodes.diagram c.timed_cuts_of.new.nodes) (So-start work s) c.in_err-timed_cuts.ensures c.from_residual.ensures.1

pub returns-in_err-of : goal.returns-in_err-of
returns-in_err-of g c =
    let s : Store = g.N.Nodes.store c.args.nodes.now in
    let t : Store = g.N.Nodes.store c.timed_cuts_of.new.nodes in
    let work : List Function = quints_work c.args.quints.now in
    lost work (λ t line. IsLine t c.args.quints.now c.args.depth 0 line) s t c.from_residual-in_err-of.result
    (first work (λ t (timed_cuts : Vec TimedCut Global). AreTimedCuts t 0 c.args.quints.now timed_cuts.items) s t (Ok c.in_ok-timed_cuts.timed_cuts) c.in_ok-timed_cuts.ensures) c.from_residual-in_err-of.ensures.1

pub returns : goal.returns
returns g c =
    let s : Store = g.N.Nodes.store c.args.nodes.now in
    let t : Store = g.N.Nodes.store c.timed_cuts_of.new.nodes in
    let work : List Function = quints_work c.args.quints.now in
    Built-made work (λ t line. IsLine t c.args.quints.now c.args.depth 0 line) s t c.in_ok-of.field-0
    (first work (λ t (timed_cuts : Vec TimedCut Global). AreTimedCuts t 0 c.args.quints.now timed_cuts.items) s t (Ok c.in_ok-timed_cuts.timed_cuts) c.in_ok-timed_cuts.ensures)
    (record {
      timed_cuts = c.in_ok-timed_cuts.timed_cuts.items;
      fit = c.in_ok-timed_cuts.ensures.ok;
      is = subst (λ (xs : List TimedCut). IsTimeline xs c.args.depth 0 c.in_ok-of.field-0) c.as_slice.ensures.value c.in_ok-of.ensures;
    })

pub of-requires : goal.of-requires
of-requires g c =
    subst (λ (xs : List TimedCut). All (λ timed_cut. timed_cut.to ≤ c.args.depth) xs) (sym c.as_slice.ensures.value)
    (timed_cuts_within (g.N.Nodes.store c.timed_cuts_of.new.nodes) c.args.depth 0 c.args.quints.now c.in_ok-timed_cuts.timed_cuts.items c.in_ok-timed_cuts.ensures.ok c.requires.within)
