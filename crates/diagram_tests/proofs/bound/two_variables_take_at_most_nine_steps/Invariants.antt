use Rattle.diagram_tests.proofs.bound.two_variables_take_at_most_nine_steps.Given as goal

abbrev pub ghosts-counted : goal.ghosts-counted
ghosts-counted g a = record { name = a.blank.name; parts = a.blank.parts }
