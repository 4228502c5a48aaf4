use Rattle.std.proofs.Common.{◌≡◌, ◌∙◌, suc, All, length, rules, ap, refl, sym, subst, arith}
use Rattle.std.specs.Vec.Iter.{into_iter_items}
use Rattle.work_pool.proofs.Gathering.{begins, ends, goes_on}
use Rattle.work_pool.proofs.pool.gather.Goals as goal

pub loop-job-init : goal.loop-job-init
loop-job-init g c =
    let start = g.N.Nodes.store c.args.nodes in
    let same = c.into_iter-job-iterator.ensures.into_iter_gives.0 in
    record {
      can_next = tt;
      is_finite = tt;
      long = search rules;
      tables = subst (All (λ j. (g.N.Nodes.store j.nodes).table ≡ start.table)) (sym same) c.requires.table;
      vars = refl;
      table = refl;
      gathering = λ mode net vars steps cubes tasks zip. begins (λ j. g.N.Nodes.store j.nodes) (λ j. j.outcome) mode net vars steps cubes start tasks c.args.jobs.items _ _ c.requires.made c.requires.limit c.new-reports.ensures.items same zip;
    }

pub merge-requires : goal.merge-requires
merge-requires g c =
    let i = c.loop-job.invariant in
    let tables = subst (All (λ j. (g.N.Nodes.store j.nodes).table ≡ (g.N.Nodes.store c.args.nodes).table)) c.in-Some.ensures.steps.0 i.tables in
    tables 0 c.in-Some.job (omega arith) ∙ sym i.table

pub loop-job-preserved : goal.loop-job-preserved
loop-job-preserved g c =
    let i = c.loop-job.invariant in
    let start = g.N.Nodes.store c.args.nodes in
    let tables = subst (All (λ j. (g.N.Nodes.store j.nodes).table ≡ start.table)) c.in-Some.ensures.steps.0 i.tables in
    record {
      can_next = tt;
      is_finite = tt;
      long = let a = c.in-Some.ensures.steps.1 in let b = i.long in let e = ap length c.in-Some.ensures.steps.0 in omega arith;
      tables = λ k d l. tables (suc k) d (omega (arith, l));
      vars = c.merge.ensures.vars ∙ i.vars;
      table = c.merge.ensures.table ∙ i.table;
      gathering = λ mode net vars steps cubes tasks zip.
          goes_on (λ j. g.N.Nodes.store j.nodes) (λ j. j.outcome) mode net vars steps cubes start (g.N.Nodes.store c.loop-job.nodes) (g.N.Nodes.store c.merge.new.self) tasks c.loop-job.reports.items c.push.new.self.items
          c.in-Some.job (into_iter_items c.next.new.self) _ c.in_ok-outcome.field-0
          (g.met.N.Nodes.diagram c.loop-job.nodes) (g.met.N.Nodes.diagram c.in-Some.job.nodes) (g.met.N.Nodes.diagram c.merge.new.self) c.in_ok-outcome.was c.merge.ensures c.in-Some.ensures.steps.0
          c.in_ok-push.ensures.items (i.gathering mode net vars steps cubes tasks zip);
    }

pub returns-clause-pooled : goal.returns-clause-pooled
returns-clause-pooled g c = λ mode net vars steps cubes tasks zip.
    ends (λ j. g.N.Nodes.store j.nodes) (λ j. j.outcome) mode net vars steps cubes (g.N.Nodes.store c.args.nodes) (g.N.Nodes.store c.loop-job.nodes) tasks c.loop-job.reports.items _ (sym c.loop-job.invariant.long ∙ c.in-None.ensures.steps.0) (c.loop-job.invariant.gathering mode net vars steps cubes tasks zip)
