use Rattle.dd_table.proofs.steps.split.Given as goal

abbrev pub ghosts-split_by : goal.ghosts-split_by
ghosts-split_by a = record { quota = a.quota }
