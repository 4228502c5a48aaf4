use Rattle.std.proofs.Common.{ℕ, ◌+◌, ◌*◌, ap, sym, ◌∙◌}
use Rattle.ste_model.specs.Asked.{depth}
use Rattle.exact_engine.specs.private.Counts.{first_count}
use Rattle.exact_engine.proofs.Counted.{choices_long}
use Rattle.exact_engine.proofs.counting.choices.Goals as goal

pub returns-clause-exact : goal.returns-clause-exact
returns-clause-exact c =
    let net = c.args.net.now.raw in
    let task = c.args.task.now in
    let each : ℕ = c.open_count-each.result in
    ap (λ (n : ℕ). n + c.depth.result * each) c.first_count-first.ensures
    ∙ ap (λ (n : ℕ). first_count net task.reset + n * each) c.depth.ensures
    ∙ ap (λ (n : ℕ). first_count net task.reset + depth task * n) c.open_count-each.ensures
    ∙ sym (choices_long net task)
