-- Laws. How many nodes the exact work functions of seven small assertions have, as counted by a
-- program of its own, written from the rules in words.
use Rattle.std.specs.Prelude.{◌≡◌, ℕ, zero, suc, Bool, true, false, [], ◌∷◌, List, slice_index_or}
use Rattle.std.specs.Global.{Box, Vec}
use Rattle.bool_expr.specs.declared.expr.Expr.{Expr}
use Rattle.bool_expr.specs.declared.expr.Expr.TheVariants.{Not, All}
use Rattle.dd_nodes.specs.Functions.{node_count}
use Rattle.net_core.specs.declared.cover.Lit.TheVariants.{Zero, One as OneLit, Any}
use Rattle.net_core.specs.declared.raw.Init.TheVariants.{One}
use Rattle.net_core.specs.declared.raw.RawNet.{RawNet}
use Rattle.ste_base.specs.Functions.{Function}
use Rattle.net_core.specs.Work.{always, conjunction, disjunction, negation}
use Rattle.ste_model.specs.declared.task.Assertion.{Assertion}
use Rattle.ste_model.specs.declared.task.Quint.{Quint}
use Rattle.ste_model.specs.Samples.{and_gate, id_of, one, quint, variable}
use Rattle.exact_model.specs.ExactNeed.{IsExactNeed, exact_kept}
use Rattle.exact_model.specs.ExactWork.{AreExactBits}

-- ---- expressions

-- the expression is !e
abbrev pub IsNot : Expr → Expr → Type 0
IsNot expr part = (box : Box Expr) × (expr ≡ Not box) × (box.value ≡ part)

-- the expression is e & f
abbrev pub IsAnd : Expr → Expr → Expr → Type 0
IsAnd expr one other = (parts : Vec Expr) × (expr ≡ All parts) × (parts.items ≡ one ∷ other ∷ [])

-- the function of the variable of this number; choices are numbered behind the variables
abbrev pub variable_function : ℕ → Function
variable_function n bits = slice_index_or bits n false

-- ---- nets

-- y = !a, where a is net 0 and y is net 1
abbrev pub inverter : RawNet
inverter = record {
  nets = 2;
  inputs = id_of 0 ∷ [];
  outputs = id_of 1 ∷ [];
  gates = record { inputs = id_of 0 ∷ []; output = id_of 1; cover = 0 } ∷ [];
  latches = [];
  covers = record { inputs = 1; on = true; rows = (Zero ∷ []) ∷ [] } ∷ [];
}

-- y = !(a | b), by rows where it is 0; a is net 0, b is net 1 and y is net 2, and none of them is
-- an input
abbrev pub nor_gate : RawNet
nor_gate = record {
  nets = 3;
  inputs = [];
  outputs = id_of 2 ∷ [];
  gates = record { inputs = id_of 0 ∷ id_of 1 ∷ []; output = id_of 2; cover = 0 } ∷ [];
  latches = [];
  covers = record { inputs = 2; on = false; rows = (OneLit ∷ Any ∷ []) ∷ (Any ∷ OneLit ∷ []) ∷ [] }
      ∷ [];
}

-- y = a | b | c, where a, b and c are nets 0, 1 and 2, and y is net 3
abbrev pub or_gate : RawNet
or_gate = record {
  nets = 4;
  inputs = id_of 0 ∷ id_of 1 ∷ id_of 2 ∷ [];
  outputs = id_of 3 ∷ [];
  gates = record { inputs = id_of 0 ∷ id_of 1 ∷ id_of 2 ∷ []; output = id_of 3; cover = 0 } ∷ [];
  latches = [];
  covers = record {
    inputs = 3;
    on = true;
    rows = (OneLit ∷ Any ∷ Any ∷ []) ∷ (Any ∷ OneLit ∷ Any ∷ []) ∷ (Any ∷ Any ∷ OneLit ∷ []) ∷ [];
  } ∷ [];
}

-- a latch from net 0, an input, to net 1, with the initial value 1
abbrev pub one_latch : RawNet
one_latch = record {
  nets = 2;
  inputs = id_of 0 ∷ [];
  outputs = id_of 1 ∷ [];
  gates = [];
  latches = record { input = id_of 0; output = id_of 1; init = One } ∷ [];
  covers = [];
}

-- ---- assertions, and the bits of their runs

-- an assertion without a name and without weakenings
abbrev pub assertion : Bool → List Quint → List Quint → Assertion
assertion reset ant con = record { name = []; reset = reset; ant = ant; con = con; weak = [] }

-- a is p at time 0; then y is the expression
abbrev pub bound_task : Expr → Assertion
bound_task opposite =
    assertion false (quint one 0 (variable 0) 0 1 ∷ []) (quint one 1 opposite 0 1 ∷ [])

-- y is the expression at time 0, whatever a is
abbrev pub unbound_task : Expr → Assertion
unbound_task opposite = assertion false [] (quint one 1 opposite 0 1 ∷ [])

-- p is variable 0, and what a is is choice 1
abbrev pub inverter_bits : ℕ → ℕ → Function
inverter_bits t zero = variable_function 1
inverter_bits t (suc id) = negation (variable_function 1)

-- a is p and b is q at time 0; then y is the expression
abbrev pub product_task : Expr → Assertion
product_task both =
    assertion false (quint one 0 (variable 0) 0 1 ∷ quint one 1 (variable 1) 0 1 ∷ [])
    (quint one 2 both 0 1 ∷ [])

-- p and q are variables 0 and 1, and what a and b are is choices 2 and 3
abbrev pub product_bits : ℕ → ℕ → Function
product_bits t zero = variable_function 2
product_bits t (suc zero) = variable_function 3
product_bits t (suc (suc id)) = conjunction (variable_function 2) (variable_function 3)

-- a is p at time 0; then y is p
abbrev pub nor_task : Assertion
nor_task = assertion false (quint one 0 (variable 0) 0 1 ∷ []) (quint one 2 (variable 0) 0 1 ∷ [])

-- p is variable 0, and what a and b are is choices 1 and 2
abbrev pub nor_bits : ℕ → ℕ → Function
nor_bits t zero = variable_function 1
nor_bits t (suc zero) = variable_function 2
nor_bits t (suc (suc id)) = negation (disjunction (variable_function 1) (variable_function 2))

-- y is 1, whatever the inputs are
abbrev pub or_task : Assertion
or_task = assertion false [] (quint one 3 one 0 1 ∷ [])

-- what a, b and c are is choices 0, 1 and 2
abbrev pub or_bits : ℕ → ℕ → Function
or_bits t zero = variable_function 0
or_bits t (suc zero) = variable_function 1
or_bits t (suc (suc zero)) = variable_function 2
or_bits t (suc (suc (suc id))) =
    disjunction (disjunction (variable_function 0) (variable_function 1)) (variable_function 2)

-- with reset the latch is 1 at time 0
abbrev pub reset_task : Assertion
reset_task = assertion true [] (quint one 1 one 0 1 ∷ [])

-- what the input is is choice 0
abbrev pub reset_bits : ℕ → ℕ → Function
reset_bits t zero = variable_function 0
reset_bits t (suc id) = always

-- without reset the latch is 1 at times 0 and 1
abbrev pub free_task : Assertion
free_task = assertion false [] (quint one 1 one 0 2 ∷ [])

-- the first bit of the latch is choice 0, and what the input is at times 0 and 1 is choices 1 and 2
abbrev pub free_bits : ℕ → ℕ → Function
free_bits zero zero = variable_function 1
free_bits (suc t) zero = variable_function 2
free_bits zero (suc id) = variable_function 0
free_bits (suc t) (suc id) = variable_function 1

-- a is p and also q at time 0, so that the two have to be one; then y is p, which is never so
abbrev pub twice_task : Assertion
twice_task =
    assertion false (quint one 0 (variable 0) 0 1 ∷ quint one 0 (variable 1) 0 1 ∷ [])
    (quint one 1 (variable 0) 0 1 ∷ [])

-- p and q are variables 0 and 1, and what a is is choice 2
abbrev pub twice_bits : ℕ → ℕ → Function
twice_bits t zero = variable_function 2
twice_bits t (suc id) = negation (variable_function 2)

-- Law: an inverter whose input is p, where y is to be !p, needs 6 steps, and 5 without this
-- antecedent; an AND of p and q, where y is to be p & q, needs 25; a NOR with one input bound needs
-- 11; an OR of three inputs needs 11; a latch needs 2 with reset, and 7 without it over two times.
-- The kept functions of an inverter whose input is p and q have 4 nodes.
pub record ExactSamplesAreCounted : Type 0 where
  pub bound : (opposite : Expr) → IsNot opposite (variable 0) →
      IsExactNeed inverter 1 (bound_task opposite) 6
  pub unbound : (opposite : Expr) → IsNot opposite (variable 0) →
      IsExactNeed inverter 1 (unbound_task opposite) 5
  pub both : (both : Expr) → IsAnd both (variable 0) (variable 1) →
      IsExactNeed (and_gate false) 2 (product_task both) 25
  pub nor : IsExactNeed nor_gate 1 nor_task 11
  pub or : IsExactNeed or_gate 0 or_task 11
  pub reset : IsExactNeed one_latch 0 reset_task 2
  pub free : IsExactNeed one_latch 0 free_task 7
  pub twice : AreExactBits inverter 2 twice_task twice_bits
  pub kept : node_count 2 (exact_kept inverter 2 twice_task twice_bits) ≡ 4
