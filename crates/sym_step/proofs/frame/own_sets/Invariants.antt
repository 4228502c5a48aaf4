use Rattle.std.proofs.Common.{◌≡◌, take, map}
use Rattle.sym_step.specs.Frame.{input_rails, nets_of}
use Rattle.sym_step.proofs.frame.own_sets.Given as goal

-- the sets of the first latches' inputs
abbrev pub invariant-loop-latch : goal.invariant-loop-latch
invariant-loop-latch l = l.found.items ≡ map (input_rails (nets_of l.frame)) (take l.latch-index l.latches)
