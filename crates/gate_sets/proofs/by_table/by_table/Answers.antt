use Rattle.std.proofs.Common.{List, [], ◌∷◌}
use Rattle.ste_base.specs.Functions.{Function}
use Rattle.dd_nodes.specs.Stores.{Store}
use Rattle.dual_rail.proofs.Works.{So-start, lost}
use Rattle.net_core.specs.Work.{SymbolicSet}
use Rattle.gate_sets.specs.NetSets.{sets_at}
use Rattle.gate_sets.specs.private.TruthTables.{HasSetOrNot, table_choice}
use Rattle.gate_sets.proofs.by_table.by_table.Goals as goal

pub returns-in_err-put_operands-clause-built : goal.returns-in_err-put_operands-clause-built
returns-in_err-put_operands-clause-built g c = λ sets have.
    let s : Store = g.N.Nodes.store c.args.nodes.now in
    let ws : List SymbolicSet = sets_at sets c.args.inputs.now in
    let p : Function = table_choice c.args.tables.can0 ws in
    let q : Function = table_choice c.args.tables.can1 ws in
    lost (p ∷ q ∷ []) (HasSetOrNot (record { zero = p; one = q })) s s c.from_residual.result (So-start (p ∷ q ∷ []) s) c.from_residual.ensures.1

pub returns-in_err-forget-clause-built : goal.returns-in_err-forget-clause-built
returns-in_err-forget-clause-built g c = λ sets have.
    let s : Store = g.N.Nodes.store c.args.nodes.now in
    let ws : List SymbolicSet = sets_at sets c.args.inputs.now in
    let p : Function = table_choice c.args.tables.can0 ws in
    let q : Function = table_choice c.args.tables.can1 ws in
    lost (p ∷ q ∷ []) (HasSetOrNot (record { zero = p; one = q })) s s c.from_residual-in_err-forget.result (So-start (p ∷ q ∷ []) s) c.from_residual-in_err-forget.ensures.1
