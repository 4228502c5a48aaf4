use Rattle.std.proofs.Common.{Option, Vec, Global, subst}
use Rattle.dd_recent.specs.declared.recent.Joined.{Joined}
use Rattle.dd_recent.specs.Recent.{Takes, entries_of, nothing, some_entries}
use Rattle.dd_recent.proofs.Remembering.{Takes-more}
use Rattle.dd_recent.proofs.recent.RecentMemo.put.Goals as goal

pub returns-in-Some : goal.returns-in-Some
returns-in-Some c =
    Takes-more (entries_of c.args.self.now) c.in-Some.table.items c.put_in.new.table.items c.args.joined
    (subst (λ (o : Option (Vec Joined Global)). Takes (entries_of c.args.self.now) nothing (some_entries o)) c.in-Some.is c.make_room.ensures) c.put_in.ensures
