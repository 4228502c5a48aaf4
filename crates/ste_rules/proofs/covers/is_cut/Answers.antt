use Rattle.ste_rules.proofs.Exprs.{covered_in}
use Rattle.ste_rules.proofs.covers.is_cut.Goals as goal

pub returns : goal.returns
returns c = covered_in _ _ _ c.args.one.now.ant c.args.one.now.con c.args.other.now.ant c.are_covered.result c.are_covered.ensures c.as_slice.ensures c.as_slice-2.ensures c.as_slice-3.ensures
