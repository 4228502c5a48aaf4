use Rattle.std.proofs.Common.{subst}
use Rattle.dd_table.specs.Sessions.{IsGoodSession}
use Rattle.dd_table.proofs.Stores.{good_of}
use Rattle.dd_table.proofs.session.Session.shown.Goals as goal

pub returns : goal.returns
returns c = subst IsGoodSession c.self.view_is (good_of c.self.inside c.self.invariant)
