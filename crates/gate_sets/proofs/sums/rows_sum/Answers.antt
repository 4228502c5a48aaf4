use Rattle.std.proofs.Common.{◌≡◌, ◌≢◌, ◌∷◌, [], List, IfSome, length, sym, ◌∙◌, subst}
use Rattle.ste_base.specs.declared.id.NodeId.{NodeId}
use Rattle.ste_base.specs.Functions.{Function}
use Rattle.dd_nodes.specs.Stores.{Store}
use Rattle.net_core.specs.declared.cover.Lit.{Lit}
use Rattle.net_core.specs.Work.{AreWide, SymbolicSet, row_products, rows_work, sum}
use Rattle.dual_rail.specs.Rail.{Built, HasFunction}
use Rattle.dual_rail.proofs.Works.{Built-wider}
use Rattle.gate_sets.specs.declared.net_rails.NetRails.{NetRails}
use Rattle.gate_sets.specs.NetSets.{HaveInputs, sets_at}
use Rattle.gate_sets.proofs.Pairs.{sum_in}
use Rattle.gate_sets.proofs.Stacked.{lits_of}
use Rattle.gate_sets.proofs.Summing.{within_one}
use Rattle.gate_sets.proofs.sums.rows_sum.Goals as goal

pub returns-in-Some-clause-built : goal.returns-in-Some-clause-built
returns-in-Some-clause-built g c = λ sets have.
    let s : Store = g.N.Nodes.store c.args.nodes.now in
    let t : Store = g.N.Nodes.store c.rows_to_halve.new.nodes in
    let u : Store = g.N.Nodes.store c.sum_by_halves.new.nodes in
    let nets : List NetRails = c.args.nets.now in
    let inputs : List NodeId = c.args.inputs.now in
    let rows : List (List Lit) = c.args.rows.now.list in
    let ws : List SymbolicSet = sets_at sets inputs in
    let f : Function = sum (row_products rows ws) in
    let same : t ≡ s = c.in_ok-full.ensures.store in
    let lits = subst (λ found. IfSome found (λ full. full.items ≡ lits_of rows)) c.in-Some.is c.in_ok-full.ensures.literals in
    let wide : AreWide rows (length inputs) = subst (λ found. IfSome found (λ full. AreWide rows (length inputs))) c.in-Some.is c.in_ok-full.ensures.wide in
    let some : rows ≢ [] = subst (λ found. IfSome found (λ full. rows ≢ [])) c.in-Some.is c.in_ok-full.ensures.some in
    let call = c.sum_by_halves.ensures rows wide (c.as_slice.ensures.value ∙ lits) sets (subst (λ (x : Store). HaveInputs x sets nets inputs) (sym same) have) in
    Built-wider (rows_work rows ws) (f ∷ []) (HasFunction f) s u c.sum_by_halves.result (within_one f (rows_work rows ws) (sum_in rows ws some))
    (subst (λ (x : Store). Built (f ∷ []) (HasFunction f) x u c.sum_by_halves.result) same call)

pub returns-in-None-clause-built : goal.returns-in-None-clause-built
returns-in-None-clause-built g c = λ sets have.
    let s : Store = g.N.Nodes.store c.args.nodes.now in
    let t : Store = g.N.Nodes.store c.rows_to_halve.new.nodes in
    let u : Store = g.N.Nodes.store c.row_by_row.new.nodes in
    let rows : List (List Lit) = c.args.rows.now.list in
    let ws : List SymbolicSet = sets_at sets c.args.inputs.now in
    let same : t ≡ s = c.in_ok-full.ensures.store in
    subst (λ (x : Store). Built (rows_work rows ws) (HasFunction (sum (row_products rows ws))) x u c.row_by_row.result) same
    (c.row_by_row.ensures.built sets (subst (λ (x : Store). HaveInputs x sets c.args.nets.now c.args.inputs.now) (sym same) have))
