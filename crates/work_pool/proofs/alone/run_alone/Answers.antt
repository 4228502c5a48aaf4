use Rattle.std.proofs.Common.{◌≡◌, ◌∙◌, ◌++◌, ◌∷◌, [], ◌+◌, List, length, get_or, take, ap, sym, subst, arith}
use Rattle.std.specs.List.{AllZip}
use Rattle.std.proofs.lemmas.List.{length-take, take_more}
use Rattle.std.proofs.lemmas.Slice.Zip.{AllZip-long}
use Rattle.std.specs.Prelude.{IfSome}
use Rattle.dd_growing.specs.Growing.{grown_store}
use Rattle.net_core.specs.declared.net.Net.{Net}
use Rattle.net_core.specs.declared.raw.RawNet.{RawNet}
use Rattle.sym_step.specs.Frame.{IsFrame}
use Rattle.work_pool.proofs.Numbers.{told_as}
use Rattle.ste_model.specs.declared.task.Task.{Task}
use Rattle.ste_model.specs.declared.report.Report.{Report}
use Rattle.gste_engine.proofs.Lists.{zip_push}
use Rattle.work_pool.specs.Told.{IsToldOf}
use Rattle.work_pool.specs.Pool.{AreMadeWithin}
use Rattle.work_pool.proofs.Spent.{made_bounds, made_by_more}
use Rattle.work_pool.proofs.alone.run_alone.Goals as goal

pub loop-number-preserved : goal.loop-number-preserved
loop-number-preserved g c =
    let i = c.loop-number.invariant in
    let tasks = c.args.tasks.now.tasks in
    let n = c.loop-number.number in
    let task = c.index-batch-number.result in
    let report = c.in_ok-report.report in
    let R : Task → Report → Type 0 = IsToldOf c.args.mode c.args.net.now.raw (length c.args.tasks.now.vars) c.args.steps c.args.cubes in
    let batch = c.batch_of-batch.ensures in
    let b = c.batch_of-batch.result in
    let raw : c.batch_of-batch.result.net.now.raw ≡ c.args.net.now.raw = ap (λ (net : Net). net.raw) batch.net in
    let one : R task report = told_as b.mode c.args.mode b.net.now.raw c.args.net.now.raw b.vars (length c.args.tasks.now.vars) c.args.steps b.cubes c.args.cubes task report batch.mode raw batch.vars batch.cubes
    (subst (λ (x : Task). IsToldOf b.mode b.net.now.raw b.vars c.args.steps b.cubes x report) (sym c.index-batch-number.is) c.in_ok-report.ensures.told) in
    let next = c.check_anew.new.nodes in
    let at : get_or tasks n task ≡ task = ap (λ (xs : List Task). get_or xs n task) (sym batch.tasks) ∙ sym c.index-batch-number.is in
    let more : take (n + 1) tasks ≡ take n tasks ++ task ∷ [] = take_more tasks n task (let lt = c.loop-number-test.true in let many = ap length batch.tasks in omega (arith, lt, many)) ∙ ap (λ (x : Task). take n tasks ++ x ∷ []) at in
    record {
      vars = c.check_anew.ensures.vars ∙ c.in_ok-held.ensures.vars;
      frame = subst (λ (net : RawNet). IfSome c.check_anew.new.last (IsFrame (grown_store next.nodes.items next.base next.limit next.vars) net)) raw c.check_anew.ensures.last;
      made = subst (λ (ys : List Report). AreMadeWithin c.args.steps ys (c.loop-number.made + c.used-used.result)) (sym c.in_ok-push.ensures.items)
          (made_by_more c.args.steps c.loop-number.reports.items c.loop-number.made report c.used-used.result i.made
          (let is = c.used-used.ensures in let within = c.check_anew.ensures.within in omega (arith, is, within)) (λ says. c.used-used.ensures ∙ c.in_ok-report.ensures.full says));
      small = let small = i.small in let few = c.used-used.type_inv in omega (arith, small, few);
      told = subst (λ (xs : List Task). AllZip R xs c.push.new.self.items) (sym more)
          (subst (λ (ys : List Report). AllZip R (take n tasks ++ task ∷ []) ys) (sym c.in_ok-push.ensures.items) (zip_push R (take n tasks) c.loop-number.reports.items task report i.told one));
    }

pub returns-clause-bounds : goal.returns-clause-bounds
returns-clause-bounds g c =
    let i = c.loop-number.invariant in
    let tasks = c.args.tasks.now.tasks in
    let n = c.loop-number.number in
    let R : Task → Report → Type 0 = IsToldOf c.args.mode c.args.net.now.raw (length c.args.tasks.now.vars) c.args.steps c.args.cubes in
    let long = AllZip-long R (take n tasks) c.loop-number.reports.items i.told in
    let first = length-take n tasks in
    made_bounds c.args.steps c.loop-number.reports.items c.loop-number.made (length tasks) (omega (arith, long, first)) i.made
