use Rattle.std.proofs.Common.{◌≡◌, ◌++◌, ◌∷◌, map, take}
use Rattle.plain_check.proofs.choices.add_with_front.Given as goal

abbrev pub invariant-loop-bits : goal.invariant-loop-bits
invariant-loop-bits l = l.longer.items ≡ l.fn.longer.items ++ map (λ bits. l.bit ∷ bits) (take l.bits-index l.lists)
