-- More weakened nets: no bit leaves a possible set.
use Rattle.std.proofs.Common.{◌≡◌, ℕ, Bool, true, false, List, refl}
use Rattle.net_core.specs.declared.bit_set.BitSet.{BitSet}
use Rattle.net_core.specs.declared.raw.RawNet.{RawNet}
use Rattle.net_core.specs.Run.{Cut}
use Rattle.net_core.specs.Possible.{MayHave, is_weakened}
use Rattle.net_core.specs.Weakened.{WeakenedSetsGrow, WeakensMore}
use Rattle.net_core.proofs.Possible.{within}

-- what is not in the longer list is not in the shorter one
not_weakened : (few many : Bool) → (few ≡ true → many ≡ true) → many ≡ false → few ≡ false
not_weakened false many more e = refl
not_weakened true many more e = let t : many ≡ true = more refl in cc (e, t)

more_may_have : (net : RawNet) (latches : List BitSet) (cuts : List Cut) (few many : List ℕ) (sets : ℕ → BitSet) (id : ℕ) (bit : Bool) → WeakensMore few many → MayHave net latches (record { cuts = cuts; weak = few }) sets id bit → MayHave net latches (record { cuts = cuts; weak = many }) sets id bit
more_may_have net latches cuts few many sets id bit more h = record {
  source = λ e. h.source (not_weakened (is_weakened few id) (is_weakened many id) (more id) e);
  left = h.left;
}

pub weakened_sets_grow : WeakenedSetsGrow
weakened_sets_grow net from to cuts few many small large settled grow more p q id =
    let level = settled id in
    within net (record { cuts = cuts; weak = few }) from to small large grow (λ k bit. (p.each k bit).0)
    (λ k bit h. (q.each k bit).1 (more_may_have net to cuts few many large k bit more h)) level.0 id level.1
