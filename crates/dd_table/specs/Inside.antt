-- For private functions: what the fields of a session say.
use Rattle.std.specs.Prelude.{◌≡◌, ◌≢◌, ◌≤◌, [], length, Some}
use Rattle.std.specs.FinMap.{get}
use Rattle.dd_nodes.specs.declared.node.Node.{Node}
use Rattle.dd_table.specs.declared.session.Session.TheInside.{Inside}
use Rattle.ste_base.specs.Limits.{most_variables}
use Rattle.dd_table.specs.Layout.{most_slots}
use Rattle.dd_table.specs.Sessions.{SessionValue}
use Rattle.dd_table.specs.Tells.{IsSound, HoldsNothing}

-- what contracts see of a session, from its fields
abbrev pub session_value : Inside → SessionValue
session_value s = record {
  table = s.seat.table_id;
  vars = s.vars;
  slots = s.slots;
  held = s.seat.me.0.held;
  made = s.seat.me.0.made;
  limit = s.limit;
}

-- the fields agree with the seat's view
pub record IsSession (s : Inside) : Type 0 where
  pub bare : s.seat.me.1 ≡ []
  pub vars : s.seat.me.0.vars ≡ s.vars
  pub slots : s.seat.me.0.slots ≡ s.slots
  pub used : length s.seat.me.0.made ≡ s.used
  pub limit : s.seat.me.0.limit ≡ s.limit
  pub words : s.seat.table_id.words ≡ s.slots
  pub two : 2 ≤ s.slots
  pub most : s.slots ≤ most_slots
  pub few : s.vars ≤ most_variables
  pub sound : IsSound s.seat.me.0
  -- one reference that is held, or 0 where none is
  pub none : s.some ≡ 0 → HoldsNothing s.seat.me.0
  pub some : s.some ≢ 0 → (n : Node) × (get s.seat.me.0.held s.some ≡ Some n)
