use Rattle.std.proofs.Common.{◌-◌, length, arith}
use Rattle.dd_growing.specs.GrowingLaws.{length-refs_from}
use Rattle.dd_growing.proofs.nodes.GrowingNodesNodes.used.Goals as goal

pub overflow_cast-result : goal.overflow_cast-result
overflow_cast-result c =
    let s = c.args.self.now in
    let ok = s.nodes.ok.0 in
    let within = s.within in
    omega (arith, c.len.ensures)

pub returns : goal.returns
returns c =
    let s = c.args.self.now in
    let ok = s.nodes.ok.0 in
    let long = length-refs_from s.base (length s.nodes.items - s.base) in
    omega (arith, c.len.ensures, long)
