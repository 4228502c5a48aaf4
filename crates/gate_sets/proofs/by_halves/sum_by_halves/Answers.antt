use Rattle.std.proofs.Common.{[], ◌∷◌, List, subst}
use Rattle.dd_nodes.specs.Stores.{Store}
use Rattle.ste_base.specs.Functions.{Function}
use Rattle.net_core.specs.declared.cover.Lit.{Lit}
use Rattle.net_core.specs.Work.{row_products, sum}
use Rattle.dual_rail.specs.Rail.{Built, HasFunction}
use Rattle.dual_rail.proofs.Works.{So-start, lost}
use Rattle.gate_sets.specs.NetSets.{sets_at}
use Rattle.gate_sets.proofs.by_halves.sum_by_halves.Goals as goal

pub returns-in_err-stack : goal.returns-in_err-stack
returns-in_err-stack g c = λ rows wide are sets have.
    let s : Store = g.N.Nodes.store c.args.nodes.now in
    let f : Function = sum (row_products rows (sets_at sets c.args.inputs.now)) in
    lost (f ∷ []) (HasFunction f) s s c.from_residual.result (So-start (f ∷ []) s) c.from_residual.ensures.1

pub returns : goal.returns
returns g c = λ rows wide are sets have.
    let s : Store = g.N.Nodes.store c.args.nodes.now in
    let t : Store = g.N.Nodes.store c.sum_of.new.nodes in
    subst (λ (rows : List (List Lit)). Built (sum (row_products rows (sets_at sets c.args.inputs.now)) ∷ []) (HasFunction (sum (row_products rows (sets_at sets c.args.inputs.now)))) s t c.sum_of.result) (c.in_ok-stack.ensures rows wide are)
    (c.sum_of.ensures.built sets have)
