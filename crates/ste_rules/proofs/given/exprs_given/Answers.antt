use Rattle.ste_rules.proofs.given.exprs_given.Goals as goal

pub returns-in-Err-clause-err : goal.returns-in-Err-clause-err
returns-in-Err-clause-err c = λ parse is. c.clause_told.ensures _ _ (c.in-Err.ensures parse is)
