use Rattle.std.proofs.Common.{◌≡◌, ◌++◌, take}
use Rattle.aig_reader.proofs.places.Places.with_all.Given as goal

-- the numbers so far stand behind
abbrev pub invariant-loop-number : goal.invariant-loop-number
invariant-loop-number l = l.places ≡ l.fn.self ++ take l.number-index l.numbers
