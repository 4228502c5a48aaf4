use Rattle.std.proofs.Common.{◌-◌, length}
use Rattle.gste_engine.specs.private.Links.{AreLinksFrom}
use Rattle.gste_engine.proofs.links.links_of.Given as goal

-- so many edges are linked, from the last one on
abbrev pub invariant-loop-i : goal.invariant-loop-i
invariant-loop-i l = AreLinksFrom l.end l.vertices l.edges (length l.edges - l.i) l.links
