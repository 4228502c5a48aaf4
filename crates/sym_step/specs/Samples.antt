-- Laws. How many nodes the work functions of one time have, on two small nets counted by hand.
use Rattle.std.specs.Prelude.{◌≡◌, ℕ, zero, suc, Bool, true, false, [], ◌∷◌, slice_index_or}
use Rattle.ste_base.specs.declared.id.NodeId.{NodeId}
use Rattle.dd_nodes.specs.Functions.{node_count}
use Rattle.net_core.specs.declared.cover.Lit.TheVariants.{One}
use Rattle.net_core.specs.declared.raw.Init.TheVariants.{Free}
use Rattle.net_core.specs.declared.raw.RawNet.{RawNet}
use Rattle.ste_base.specs.Functions.{Function}
use Rattle.net_core.specs.Work.{SymbolicAsked, SymbolicSet, always, conjunction, negation, time_work}

abbrev pub id_of : ℕ → NodeId
id_of n = record { 0 = n }

-- y = a & b, where a is net 0, b is net 1 and y is net 2; b is an input, or a latch's output that
-- takes a's bit
abbrev pub and_gate : Bool → RawNet
and_gate false = record {
  nets = 3;
  inputs = id_of 0 ∷ id_of 1 ∷ [];
  outputs = id_of 2 ∷ [];
  gates = record { inputs = id_of 0 ∷ id_of 1 ∷ []; output = id_of 2; cover = 0 } ∷ [];
  latches = [];
  covers = record { inputs = 2; on = true; rows = (One ∷ One ∷ []) ∷ [] } ∷ [];
}
and_gate true = record {
  nets = 3;
  inputs = id_of 0 ∷ [];
  outputs = id_of 2 ∷ [];
  gates = record { inputs = id_of 0 ∷ id_of 1 ∷ []; output = id_of 2; cover = 0 } ∷ [];
  latches = record { input = id_of 0; output = id_of 1; init = Free } ∷ [];
  covers = record { inputs = 2; on = true; rows = (One ∷ One ∷ []) ∷ [] } ∷ [];
}

-- the two variables
abbrev pub p : Function
p bits = slice_index_or bits 0 false

abbrev pub q : Function
q bits = slice_index_or bits 1 false

-- the bit of a function alone
abbrev pub exactly : Function → SymbolicSet
exactly f = record { zero = negation f; one = f }

-- a is p, b is q, and so y is p & q
abbrev pub plain_sets : ℕ → SymbolicSet
plain_sets zero = exactly p
plain_sets (suc zero) = exactly q
plain_sets (suc (suc n)) = exactly (conjunction p q)

abbrev pub plain_asked : SymbolicAsked
plain_asked = record {
  cuts = record { node = 0; guard = always; value = p } ∷
      record { node = 1; guard = always; value = q } ∷ [];
  weak = [];
}

-- where q is 1, a is p; the latch has p: y can be 0 where not both p and q are 1, and 1 where p is
abbrev pub guarded_sets : ℕ → SymbolicSet
guarded_sets zero =
    record { zero = negation (conjunction p q); one = negation (conjunction (negation p) q) }
guarded_sets (suc zero) = exactly p
guarded_sets (suc (suc n)) = record { zero = negation (conjunction p q); one = p }

abbrev pub guarded_asked : SymbolicAsked
guarded_asked = record { cuts = record { node = 0; guard = q; value = p } ∷ []; weak = [] }

-- Law: the AND of two variables takes 7 nodes: p, !p, q, !q, p & q, p & !q and !(p & q). With a
-- guard and a latch it takes 9: p, !p, q, !q, p & q, !p & q, !p & !q, !(p & q) and !(!p & q).
pub record SamplesAreCounted : Type 0 where
  pub plain : node_count 2 (time_work (and_gate false) [] plain_asked plain_sets) ≡ 7
  pub guarded : node_count 2 (time_work (and_gate true)
      (exactly p ∷ []) guarded_asked guarded_sets) ≡ 9
