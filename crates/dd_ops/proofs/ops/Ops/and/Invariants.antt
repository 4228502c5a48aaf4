use Rattle.dd_ops.proofs.ops.Ops.and.Given as goal

abbrev pub ghosts-apply_uncounted : goal.ghosts-apply_uncounted
ghosts-apply_uncounted g a = record { name = a.blank.name; parts = a.blank.parts }
