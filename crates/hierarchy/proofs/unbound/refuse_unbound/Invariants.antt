use Rattle.std.proofs.Common.{◌≡◌, drop, not}
use Rattle.std.specs.Prelude.{find}
use Rattle.blif_syntax.specs.Words.{is_one_of}
use Rattle.hierarchy.proofs.unbound.refuse_unbound.Given as goal

abbrev pub invariant-loop-name : goal.invariant-loop-name
invariant-loop-name l =
    find (λ name. not (is_one_of l.bound.keys name)) (drop l.name-index l.needed.keys)
    ≡ find (λ name. not (is_one_of l.bound.keys name)) l.needed.keys
