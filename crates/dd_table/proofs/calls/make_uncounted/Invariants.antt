use Rattle.dd_table.proofs.calls.make_uncounted.Given as goal

abbrev pub ghosts-make_from : goal.ghosts-make_from
ghosts-make_from a = record { name = a.blank.name; parts = a.blank.parts }
