use Rattle.std.proofs.Common.{List, Ok, false}
use Rattle.std.proofs.lemmas.Bool.{false≢true}
use Rattle.ste_base.specs.Functions.{Function}
use Rattle.dd_nodes.specs.Stores.{Store}
use Rattle.net_core.specs.Work.{cut_set, cut_work}
use Rattle.dual_rail.specs.Rail.{Built, HasSet}
use Rattle.dual_rail.proofs.Works.{So-start, Built-made, first, pass}
use Rattle.gate_sets.specs.declared.flagged.FlaggedRails.{FlaggedRails}
use Rattle.gate_sets.specs.NetSets.{HasFlagged}
use Rattle.sym_step.proofs.cuts.set_behind_cut.Goals as goal

pub returns-in_err-rails : goal.returns-in_err-rails
returns-in_err-rails g c = λ w f x m mg mx.
    let s : Store = g.N.Nodes.store c.args.nodes.now in
    let t : Store = g.N.Nodes.store c.cut.new.nodes in
    let work : List Function = cut_work w f x in
    pass work (HasSet (cut_set w f x)) (HasFlagged (cut_set w f x)) s s t c.in_err-rails.field-0.0 c.from_residual.result (g.met.N.Nodes.diagram c.args.nodes.now) (g.met.N.Nodes.diagram c.cut.new.nodes) (So-start work s)
    (c.in_err-rails.ensures w f x m mg mx) c.from_residual.ensures.1

pub returns : goal.returns
returns g c = λ w f x m mg mx.
    let s : Store = g.N.Nodes.store c.args.nodes.now in
    let t : Store = g.N.Nodes.store c.cut.new.nodes in
    let work : List Function = cut_work w f x in
    let rails = c.in_ok-rails.rails in
    let a : Built work (HasSet (cut_set w f x)) s t (Ok rails) = c.in_ok-rails.ensures w f x m mg mx in
    let made : FlaggedRails = record { rails = rails; known = false } in
    Built-made work (HasFlagged (cut_set w f x)) s t made (first work (HasSet (cut_set w f x)) s t (Ok rails) a)
    (record { rails = a.ok; known = λ yes. absurd (false≢true yes) })
