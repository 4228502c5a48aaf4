-- Gates that pass the test are narrow.
use Rattle.std.proofs.Common.{◌≡◌, ◌≤◌, List, [], ◌∷◌, length, true, arith}
use Rattle.std.specs.Prelude.{All, nat_le}
use Rattle.std.specs.List.{list_all}
use Rattle.std.proofs.lemmas.Bool.{and_parts}
use Rattle.std.proofs.lemmas.List.Elements.{All-cons}
use Rattle.net_core.specs.declared.raw.Gate.{Gate}

pub narrow_gates : (gates : List Gate) → list_all (λ gate. nat_le (length gate.inputs) 8) gates ≡ true → All (λ gate. length gate.inputs ≤ 8) gates
narrow_gates [] e = λ k d l. absurd (omega (arith, l))
narrow_gates (gate ∷ gates) e =
    let both = and_parts (nat_le (length gate.inputs) 8) (list_all (λ gate. nat_le (length gate.inputs) 8) gates) e in
    All-cons (λ (gate : Gate). length gate.inputs ≤ 8) gate gates (grind (arith, both.0)) (narrow_gates gates both.1)
