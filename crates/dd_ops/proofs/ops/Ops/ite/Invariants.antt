use Rattle.dd_ops.proofs.ops.Ops.ite.Given as goal

abbrev pub ghosts-choice : goal.ghosts-choice
ghosts-choice g a = record { name = a.blank.name; parts = a.blank.parts }
