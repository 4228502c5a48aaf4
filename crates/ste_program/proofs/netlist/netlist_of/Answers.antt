use Rattle.ste_program.proofs.TextStages.{netlist_or_not}
use Rattle.ste_program.proofs.netlist.netlist_of.Goals as goal

pub returns : goal.returns
returns c = netlist_or_not c.net_of.result (λ flat. flat.net.raw) (λ flat. flat.names) c.args.text.items c.in_ok-models.models.models c.in_ok-models.ensures.0 c.net_of.ensures
