use Rattle.std.proofs.Common.{All, List, refl, subst}
use Rattle.net_core.specs.declared.raw.RawNet.{RawNet}
use Rattle.net_core.proofs.Ordered.{settled_by_order}
use Rattle.ste_model.specs.declared.task.Quint.{Quint}
use Rattle.ste_model.specs.declared.task.Weakening.{Weakening}
use Rattle.ste_model.specs.Shown.{IsQuintBindable}
use Rattle.exact_engine.proofs.Reading.{read_more}
use Rattle.exact_engine.proofs.by_sets.tried_by_sets.Goals as goal

pub ste_results-requires-clause-reads_ant : goal.ste_results-requires-clause-reads_ant
ste_results-requires-clause-reads_ant g c = read_more c.args.vars (g.N.Nodes.store c.args.nodes.now).vars c.requires.vars c.args.task.now.ant c.requires.reads_ant

pub ste_results-requires-clause-reads_con : goal.ste_results-requires-clause-reads_con
ste_results-requires-clause-reads_con g c = read_more c.args.vars (g.N.Nodes.store c.args.nodes.now).vars c.requires.vars c.args.task.now.con c.requires.reads_con

pub quick_by_sets-requires-clause-bound : goal.quick_by_sets-requires-clause-bound
quick_by_sets-requires-clause-bound g c =
    let full = c.args.net.now in
    let net : RawNet = full.raw in
    record {
      bound = record {
        range = full.in_range;
        driver = full.one_driver;
        settled = settled_by_order net full.settled full.in_order;
        over = record { ant = c.requires.ant; con = c.requires.con };
        bindable = subst (λ (xs : List Quint). All (IsQuintBindable net c.args.task.now.weak) xs) c.as_slice.ensures
            (subst (λ (ws : List Weakening). All (IsQuintBindable net ws) c.as_slice.result.now) c.as_slice-weak.ensures (c.if-not-are_quints_bindable.ensures.0 refl));
      };
      reads_ant = c.requires.reads_ant;
      reads_con = c.requires.reads_con;
    }
