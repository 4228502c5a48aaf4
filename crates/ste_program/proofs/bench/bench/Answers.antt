use Rattle.std.proofs.Common.{◌∙◌, ℕ, Bool, List, ap, subst, sym}
use Rattle.net_gen.specs.Pipeline.{pipeline_net, pipeline_tasks}
use Rattle.std.specs.Prelude.{codes, ◌++◌}
use Rattle.ste_program.specs.Info.{count_line}
use Rattle.ste_program.specs.Order.{IsFirstRefusal, check_stages}
use Rattle.ste_program.specs.private.Prepared.{IsCheckOver}
use Rattle.ste_program.specs.private.Texts.{OrMemory}
use Rattle.ste_program.proofs.Handed.{handed_on}
use Rattle.ste_program.proofs.bench.bench.Goals as goal

pub returns-in_err-made : goal.returns-in_err-made
returns-in_err-made g c =
    let fault = c.in_err-made.field-0.0 in
    handed_on _ _ _ c.from_residual-in_err-made.ensures.1
    (subst (λ (net : List ℕ). OrMemory (IsFirstRefusal (check_stages c.args.asked.now.steps net (pipeline_tasks c.args.stages))) fault) c.in_ok-net.ensures.net
    (subst (λ (tasks : List ℕ). OrMemory (IsFirstRefusal (check_stages c.args.asked.now.steps c.in_ok-net.net.items tasks)) fault) c.in_ok-net.ensures.tasks c.in_err-made.ensures))

pub returns : goal.returns
returns g c =
    let made = c.in_ok-made.made in
    let written = c.in_ok-with_nets.field-0 in
    let over : IsCheckOver c.args.asked.now.steps c.args.asked.now.cubes c.args.asked.now.wave c.args.asked.now.nodes (pipeline_net c.args.stages) (pipeline_tasks c.args.stages) written.passes made.text.items made.nets =
    subst (λ (b : Bool). IsCheckOver c.args.asked.now.steps c.args.asked.now.cubes c.args.asked.now.wave c.args.asked.now.nodes (pipeline_net c.args.stages) (pipeline_tasks c.args.stages) b made.text.items made.nets) (sym c.in_ok-with_nets.ensures.passes)
    (subst (λ (net : List ℕ). IsCheckOver c.args.asked.now.steps c.args.asked.now.cubes c.args.asked.now.wave c.args.asked.now.nodes net (pipeline_tasks c.args.stages) made.passes made.text.items made.nets) c.in_ok-net.ensures.net
    (subst (λ (tasks : List ℕ). IsCheckOver c.args.asked.now.steps c.args.asked.now.cubes c.args.asked.now.wave c.args.asked.now.nodes c.in_ok-net.net.items tasks made.passes made.text.items made.nets) c.in_ok-net.ensures.tasks c.in_ok-made.ensures)) in
    record {
      report = made.text.items;
      check = over.0;
      written = c.in_ok-with_nets.ensures.bytes ∙ ap (λ (n : ℕ). made.text.items ++ count_line (codes "nets") n) over.1;
    }
