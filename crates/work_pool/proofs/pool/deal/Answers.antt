use Rattle.std.proofs.Common.{◌∙◌, ◌+◌, length, length-append, refl, ap}
use Rattle.dd_nodes.specs.Stores.{Store}
use Rattle.work_pool.specs.private.Jobs.{IsReady}
use Rattle.work_pool.proofs.Gathering.{all_more, more_given, numbered_more}
use Rattle.work_pool.proofs.pool.deal.Goals as goal

pub loop-i-preserved : goal.loop-i-preserved
loop-i-preserved g c =
    let i = c.loop-i.invariant in
    let s = g.N.Nodes.store c.args.nodes.now in
    let t = g.N.Nodes.store c.loop-i.nodes in
    let more = c.fork-session.ensures.new in
    let pushed = c.in_ok-push.ensures.items in
    record {
      left = more_given s t (g.N.Nodes.store c.fork-session.new.self) c.loop-i.i c.args.steps i.left c.fork-session.ensures.left;
      long = ap length pushed ∙ length-append c.loop-i.jobs.items _ ∙ ap (λ n. n + 1) i.long;
      places = numbered_more (λ j. j.place) c.loop-i.jobs.items c.push.new.self.items _ c.loop-i.i pushed i.long refl i.places;
      ready = all_more (λ j. IsReady c.args.steps s (g.N.Nodes.store j.nodes)) c.loop-i.jobs.items c.push.new.self.items _ pushed i.ready record {
        made = ap (λ (u : Store). u.made) more;
        limit = ap (λ (u : Store). u.limit) more;
        vars = ap (λ (u : Store). u.vars) more ∙ ap (λ (u : Store). u.vars) i.left;
        table = ap (λ (u : Store). u.table) more ∙ ap (λ (u : Store). u.table) i.left;
      };
    }
