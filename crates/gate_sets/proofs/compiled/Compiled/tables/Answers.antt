use Rattle.std.proofs.Common.{◌≡◌, map, subst}
use Rattle.gate_sets.specs.declared.rows.CoverRows.{CoverRows}
use Rattle.gate_sets.specs.private.TruthTables.{HaveTables}
use Rattle.net_core.specs.declared.net.Net.{Net}
use Rattle.gate_sets.specs.Lists.{rows_of}
use Rattle.gate_sets.proofs.Placed.{rows_are}
use Rattle.gate_sets.proofs.compiled.Compiled.tables.Goals as goal

pub returns : goal.returns
returns c = λ cover is. subst (λ (r : CoverRows). HaveTables r c.tables.result) (rows_are c.args.self.now.raw.covers c.self.inside.rows.now.covers c.args.number _ cover (subst (λ (n : Net). c.self.inside.rows.now.covers ≡ map rows_of n.raw.covers) c.self.view_is c.self.invariant) c.requires is) c.tables.ensures
