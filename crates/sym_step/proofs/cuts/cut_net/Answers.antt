use Rattle.std.proofs.Common.{List, [], ◌∷◌, Ok, Err}
use Rattle.ste_base.specs.Functions.{Function}
use Rattle.dd_nodes.specs.Stores.{Store}
use Rattle.net_core.specs.Work.{SymbolicSet, after_cuts, cuts_work, some_bit}
use Rattle.dual_rail.specs.Rail.{Built}
use Rattle.dual_rail.proofs.Works.{here, behind, So-start, Built-wider, first, last, pass, own_set, set_where}
use Rattle.gate_sets.specs.NetSets.{AreFlagged, HasFlagged, HasNetSet}
use Rattle.sym_step.proofs.Cutting.{own_demands, flagged_refs}
use Rattle.gate_sets.proofs.Summing.{within_one}
use Rattle.sym_step.proofs.cuts.cut_net.Goals as goal

pub cut_marked-requires-clause-rails : goal.cut_marked-requires-clause-rails
cut_marked-requires-clause-rails g c =
    let s : Store = g.N.Nodes.store c.args.nodes.now in
    record { rails = c.requires.rails; known = λ yes. c.is_constant-known.ensures yes s _ (g.met.N.Nodes.diagram c.args.nodes.now) (own_set s c.args.r c.requires.rails) }

pub with_some_bit-requires : goal.with_some_bit-requires
with_some_bit-requires g c =
    let s : Store = g.N.Nodes.store c.args.nodes.now in
    let ds = g.met.N.Nodes.diagram c.args.nodes.now in
    let mine : AreFlagged s (set_where s c.args.r) (record { rails = c.args.r; known = c.is_constant-known.result }) = record { rails = own_set s c.args.r c.requires.rails; known = λ yes. c.is_constant-known.ensures yes s _ ds (own_set s c.args.r c.requires.rails) } in
    (flagged_refs _ _ c.in_ok-left.left (c.in_ok-left.ensures _ (λ id. set_where s c.args.r) (own_demands s c.args.demands.now.cuts c.requires.guards c.requires.values) mine).ok).rails

pub returns-in_err-left : goal.returns-in_err-left
returns-in_err-left g c = λ ds sets zip h.
    let s : Store = g.N.Nodes.store c.args.nodes.now in
    let start : AreFlagged s (sets c.args.id) (record { rails = c.args.r; known = c.is_constant-known.result }) = record { rails = h; known = λ yes. c.is_constant-known.ensures yes s _ (g.met.N.Nodes.diagram c.args.nodes.now) h } in
    let t : Store = g.N.Nodes.store c.cut_marked.new.nodes in
    let w : SymbolicSet = after_cuts ds sets c.args.id in
    let work : List Function = some_bit w ∷ cuts_work ds sets in
    let fault = c.in_err-left.field-0.0 in
    pass work (HasFlagged w) (HasNetSet w) s s t fault c.from_residual.result (g.met.N.Nodes.diagram c.args.nodes.now) (g.met.N.Nodes.diagram c.cut_marked.new.nodes) (So-start work s)
    (Built-wider work (cuts_work ds sets) (HasFlagged w) s t (Err fault) (behind (some_bit w) (cuts_work ds sets)) (c.in_err-left.ensures ds sets zip start)) c.from_residual.ensures.1

pub returns : goal.returns
returns g c = λ ds sets zip h.
    let s : Store = g.N.Nodes.store c.args.nodes.now in
    let start : AreFlagged s (sets c.args.id) (record { rails = c.args.r; known = c.is_constant-known.result }) = record { rails = h; known = λ yes. c.is_constant-known.ensures yes s _ (g.met.N.Nodes.diagram c.args.nodes.now) h } in
    let t : Store = g.N.Nodes.store c.cut_marked.new.nodes in
    let u : Store = g.N.Nodes.store c.with_some_bit.new.nodes in
    let w : SymbolicSet = after_cuts ds sets c.args.id in
    let work : List Function = some_bit w ∷ cuts_work ds sets in
    let left = c.in_ok-left.left in
    let a : Built work (HasFlagged w) s t (Ok left) = Built-wider work (cuts_work ds sets) (HasFlagged w) s t (Ok left) (behind (some_bit w) (cuts_work ds sets)) (c.in_ok-left.ensures ds sets zip start) in
    last work (HasNetSet w) s t u c.with_some_bit.result (g.met.N.Nodes.diagram c.cut_marked.new.nodes) (g.met.N.Nodes.diagram c.with_some_bit.new.nodes) (first work (HasFlagged w) s t (Ok left) a)
    (Built-wider work (some_bit w ∷ []) (HasNetSet w) t u c.with_some_bit.result (within_one (some_bit w) work (here (some_bit w) (cuts_work ds sets))) (c.with_some_bit.ensures w a.ok))
