use Rattle.ste_program.proofs.info.info.Goals as goal

pub returns : goal.returns
returns c = let n = c.in_ok-flat.ensures in c.counts_of.ensures c.args.text.items n.0 n.1 n.2
