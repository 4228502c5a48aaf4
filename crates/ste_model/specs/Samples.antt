-- Laws. How many nodes the work functions of two small assertions have, as counted by hand.
use Rattle.std.specs.Prelude.{◌≡◌, ℕ, zero, suc, Bool, true, false, [], ◌∷◌, slice_index_or}
use Rattle.ste_base.specs.declared.id.NodeId.{NodeId}
use Rattle.bool_expr.specs.declared.expr.Expr.{Expr, roll-Expr}
use Rattle.bool_expr.specs.declared.expr.Expr.TheOpen.{Const, Var}
use Rattle.dd_nodes.specs.Functions.{node_count}
use Rattle.net_core.specs.declared.cover.Lit.TheVariants.{One}
use Rattle.net_core.specs.declared.raw.Init.TheVariants.{Free}
use Rattle.net_core.specs.declared.raw.RawNet.{RawNet}
use Rattle.ste_base.specs.Functions.{Function}
use Rattle.net_core.specs.Work.{SymbolicSet, always, conjunction, everything, negation}
use Rattle.ste_model.specs.declared.task.Assertion.{Assertion}
use Rattle.ste_model.specs.declared.task.Quint.{Quint}
use Rattle.ste_model.specs.Work.{task_work}

abbrev pub id_of : ℕ → NodeId
id_of n = record { 0 = n }

-- y = a & b, where a is net 0, b is net 1 and y is net 2; b is an input, or a latch's output that
-- takes a's bit
abbrev pub and_gate : Bool → RawNet
and_gate false = record {
  nets = 3;
  inputs = id_of 0 ∷ id_of 1 ∷ [];
  outputs = id_of 2 ∷ [];
  gates = record { inputs = id_of 0 ∷ id_of 1 ∷ []; output = id_of 2; cover = 0 } ∷ [];
  latches = [];
  covers = record { inputs = 2; on = true; rows = (One ∷ One ∷ []) ∷ [] } ∷ [];
}
and_gate true = record {
  nets = 3;
  inputs = id_of 0 ∷ [];
  outputs = id_of 2 ∷ [];
  gates = record { inputs = id_of 0 ∷ id_of 1 ∷ []; output = id_of 2; cover = 0 } ∷ [];
  latches = record { input = id_of 0; output = id_of 1; init = Free } ∷ [];
  covers = record { inputs = 2; on = true; rows = (One ∷ One ∷ []) ∷ [] } ∷ [];
}

-- the variables as expressions and as functions, and the expression 1
abbrev pub variable : ℕ → Expr
variable n = roll-Expr (Var (record { 0 = n }))

abbrev pub one : Expr
one = roll-Expr (Const true)

abbrev pub p : Function
p bits = slice_index_or bits 0 false

abbrev pub q : Function
q bits = slice_index_or bits 1 false

abbrev pub quint : Expr → ℕ → Expr → ℕ → ℕ → Quint
quint guard node value from to =
    record { guard = guard; node = id_of node; value = value; from = from; to = to }

-- the bit of a function alone
abbrev pub exactly : Function → SymbolicSet
exactly f = record { zero = negation f; one = f }

-- a is p and b is q at time 0; then y is p where q is 1
abbrev pub plain_task : Assertion
plain_task = record {
  name = [];
  reset = false;
  ant = quint one 0 (variable 0) 0 1 ∷ quint one 1 (variable 1) 0 1 ∷ [];
  con = quint (variable 1) 2 (variable 0) 0 1 ∷ [];
  weak = [];
}

abbrev pub plain_table : ℕ → ℕ → SymbolicSet
plain_table t zero = exactly p
plain_table t (suc zero) = exactly q
plain_table t (suc (suc id)) = exactly (conjunction p q)

-- where q is 1, a is p at times 0 and 1; then y, with the latch, is p where q is 1 at time 1
abbrev pub guarded_task : Assertion
guarded_task = record {
  name = [];
  reset = false;
  ant = quint (variable 1) 0 (variable 0) 0 2 ∷ [];
  con = quint (variable 1) 2 (variable 0) 1 2 ∷ [];
  weak = [];
}

-- what a is, and what the latch is one time later
abbrev pub guarded_set : SymbolicSet
guarded_set = record {
  zero = negation (conjunction q p);
  one = negation (conjunction q (negation p));
}

-- where y can be 0: always at time 0, and at time 1 where a can be
abbrev pub guarded_table : ℕ → ℕ → SymbolicSet
guarded_table t zero = guarded_set
guarded_table zero (suc zero) = everything
guarded_table (suc t) (suc zero) = guarded_set
guarded_table zero (suc (suc id)) = record { zero = always; one = guarded_set.one }
guarded_table (suc t) (suc (suc id)) = guarded_set

-- Law: an AND of two variables takes 7 nodes: p, !p, q, !q, p & q, p & !q and !(p & q). With a
-- guard and a latch, over two times, it takes 8.
pub record SamplesAreCounted : Type 0 where
  pub plain : node_count 2 (task_work (and_gate false) plain_task plain_table) ≡ 7
  pub guarded : node_count 2 (task_work (and_gate true) guarded_task guarded_table) ≡ 8
