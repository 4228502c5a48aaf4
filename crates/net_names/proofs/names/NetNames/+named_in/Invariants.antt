use Rattle.net_names.proofs.names.NetNames.+named_in.Given as goal

abbrev pub decreases-named_in : goal.decreases-named_in
decreases-named_in l = l.depth
