use Rattle.std.proofs.Common.{◌≡◌, ℕ, List, length, take, true}
use Rattle.net_core.specs.declared.cover.Lit.{Lit}
use Rattle.gate_sets.specs.private.Pieces.{LeadTo}
use Rattle.gate_sets.proofs.row_list.put_all.Given as goal

-- the literals before the k-th are there
abbrev pub invariant-loop-k : goal.invariant-loop-k
invariant-loop-k l = (width : ℕ) (done : List (List Lit)) → length l.row ≡ width
    → LeadTo width l.fn.pieces done (take l.from l.row) true → LeadTo width l.pieces done (take l.k l.row) true
