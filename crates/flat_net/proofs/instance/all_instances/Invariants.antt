use Rattle.std.proofs.Common.{List, take}
use Rattle.std.specs.List.{AllZip}
use Rattle.net_core.specs.declared.cover.Cover.{Cover}
use Rattle.hierarchy.specs.Instances.{instances}
use Rattle.flat_net.specs.private.Passes.{IsFirstCover, IsInstance}
use Rattle.flat_net.proofs.instance.all_instances.Given as goal

abbrev pub invariant-loop-place : goal.invariant-loop-place
invariant-loop-place l = (covers : List Cover) → AllZip (IsFirstCover l.models covers) l.firsts l.rows → AllZip (IsInstance l.models covers) l.all.items (take l.place (instances l.models))
