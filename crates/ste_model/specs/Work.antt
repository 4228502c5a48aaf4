-- Meaning. The work functions of an assertion: what its check under all assignments at once has to
-- build, and where the assertion is found strong, weak and contradictory. Which functions these
-- are, and in which order they are taken, is a choice of this project; the dual rail is that of
-- Seger and Bryant 1995.
use Rattle.std.specs.Prelude.{ℕ, zero, suc, Bool, List, [], ◌∷◌, ◌++◌, map, filter, ◌&&◌, nat_le, nat_lt}
use Rattle.bool_expr.specs.Value.{value_of}
use Rattle.net_core.specs.declared.bit_set.BitSet.{BitSet}
use Rattle.net_core.specs.declared.raw.Latch.{Latch}
use Rattle.net_core.specs.declared.raw.RawNet.{RawNet}
use Rattle.net_core.specs.Sets.{first_set}
use Rattle.ste_base.specs.Functions.{Function}
use Rattle.net_core.specs.Work.{SymbolicAsked, SymbolicCut, SymbolicSet, conjunction, disjunction, negation, some_empty, sum, sums, time_work}
use Rattle.ste_model.specs.declared.task.Assertion.{Assertion}
use Rattle.ste_model.specs.declared.task.Quint.{Quint}
use Rattle.ste_model.specs.Asked.{depth, weakened_at}
use Rattle.ste_model.specs.Expressions.{symbolic_value}

-- ---- one consequent

-- z & o: where the set has both bits
abbrev pub both_bits : SymbolicSet → Function
both_bits w = conjunction w.zero w.one

-- z & !o, o & !z: where it has this bit alone
abbrev pub only_zero : SymbolicSet → Function
only_zero w = conjunction w.zero (negation w.one)

abbrev pub only_one : SymbolicSet → Function
only_one w = conjunction w.one (negation w.zero)

-- (x & (z & !o)) | (!x & (o & !z)): where it is exactly the opposite of the value x
abbrev pub refutes : SymbolicSet → Function → Function
refutes w x = disjunction (conjunction x (only_zero w)) (conjunction (negation x) (only_one w))

-- where a consequent with guard g and value x on the set is found weak, and where it is found
-- strong
abbrev pub found_weak : SymbolicSet → Function → Function → Function
found_weak w g x = conjunction g (both_bits w)

abbrev pub found_strong : SymbolicSet → Function → Function → Function
found_strong w g x = conjunction g (refutes w x)

-- the functions for a consequent with guard g and value x on a set
abbrev pub consequent_work : SymbolicSet → Function → Function → List Function
consequent_work w g x =
    both_bits w ∷ found_weak w g x
    ∷ negation w.zero ∷ negation w.one ∷ negation x ∷ only_zero w ∷ only_one w
    ∷ conjunction x (only_zero w) ∷ conjunction (negation x) (only_one w) ∷ refutes w x
    ∷ found_strong w g x ∷ []

-- ---- what is asked

-- the functions for the guard and the value of each quintuple
abbrev pub quints_work : List Quint → List Function
quints_work [] = []
quints_work (quint ∷ quints) = (symbolic_value quint.guard).work
    ++ ((symbolic_value quint.value).work ++ quints_work quints)

-- a quintuple as a cut under all assignments
abbrev pub symbolic_cut : Quint → SymbolicCut
symbolic_cut quint =
    record { node = quint.node.0; guard = value_of quint.guard; value = value_of quint.value }

-- t is a time of the quintuple: from <= t < to
abbrev pub has_time : ℕ → Quint → Bool
has_time t quint = nat_le quint.from t && nat_lt t quint.to

-- the cuts of the quintuples that have time t, in order
abbrev pub symbolic_cuts_at : List Quint → ℕ → List SymbolicCut
symbolic_cuts_at quints t = map symbolic_cut (filter (has_time t) quints)

-- what an assertion asks at time t
abbrev pub symbolic_asked_at : Assertion → ℕ → SymbolicAsked
symbolic_asked_at task t =
    record { cuts = symbolic_cuts_at task.ant t; weak = weakened_at task.weak t }

-- ---- one time

-- one set, whatever the assignment
abbrev pub constant_set : BitSet → SymbolicSet
constant_set set = record { zero = λ bits. set.zero; one = λ bits. set.one }

-- the latches' sets at each time of a table: the first values, and then the sets of their inputs
-- one time earlier
abbrev pub latches_at : RawNet → Assertion → (ℕ → ℕ → SymbolicSet) → ℕ → List SymbolicSet
latches_at net task table zero =
    map (λ latch. constant_set (first_set task.reset latch)) net.latches
latches_at net task table (suc t) = map (λ (latch : Latch). table t latch.input.0) net.latches

-- the functions for consequents on the sets of one time, in order
abbrev pub consequents_work : (ℕ → SymbolicSet) → List SymbolicCut → List Function
consequents_work sets [] = []
consequents_work sets (d ∷ cuts) = consequent_work (sets d.node) d.guard d.value
    ++ consequents_work sets cuts

-- where each of them is found strong, and found weak
abbrev pub strong_findings : (ℕ → SymbolicSet) → List SymbolicCut → List Function
strong_findings sets cuts =
    map (λ (d : SymbolicCut). found_strong (sets d.node) d.guard d.value) cuts

abbrev pub weak_findings : (ℕ → SymbolicSet) → List SymbolicCut → List Function
weak_findings sets cuts = map (λ (d : SymbolicCut). found_weak (sets d.node) d.guard d.value) cuts

-- the functions for time t: those of one time with the antecedent's cuts, and those for each
-- consequent
abbrev pub work_at : RawNet → Assertion → (ℕ → ℕ → SymbolicSet) → ℕ → List Function
work_at net task table t =
    time_work net (latches_at net task table t) (symbolic_asked_at task t) (table t)
    ++ consequents_work (table t) (symbolic_cuts_at task.con t)

-- ---- all times

-- the lists of the first n times, one behind another
abbrev pub over_times : (ℕ → List Function) → ℕ → List Function
over_times at_time zero = []
over_times at_time (suc n) = over_times at_time n ++ at_time n

-- where some net is empty, at each time below the depth
abbrev pub all_empty : RawNet → Assertion → (ℕ → ℕ → SymbolicSet) → List Function
all_empty net task table = over_times (λ t. some_empty net (table t) ∷ []) (depth task)

-- where a consequent is found strong, and found weak: by time, and then in text order
abbrev pub all_strong : Assertion → (ℕ → ℕ → SymbolicSet) → List Function
all_strong task table =
    over_times (λ t. strong_findings (table t) (symbolic_cuts_at task.con t)) (depth task)

abbrev pub all_weak : Assertion → (ℕ → ℕ → SymbolicSet) → List Function
all_weak task table =
    over_times (λ t. weak_findings (table t) (symbolic_cuts_at task.con t)) (depth task)

-- C: the contradictory assignments
abbrev pub contradictory_where : RawNet → Assertion → (ℕ → ℕ → SymbolicSet) → Function
contradictory_where net task table = sum (all_empty net task table)

-- s & !C: the strong assignments
abbrev pub strong_where : RawNet → Assertion → (ℕ → ℕ → SymbolicSet) → Function
strong_where net task table = conjunction (sum (all_strong task table)) (negation (contradictory_where net task table))

-- w & !C: the assignments under which some consequent is found weak
abbrev pub unsure_where : RawNet → Assertion → (ℕ → ℕ → SymbolicSet) → Function
unsure_where net task table =
    conjunction (sum (all_weak task table)) (negation (contradictory_where net task table))

-- (w & !C) & !(s & !C): the weak assignments
abbrev pub weak_where : RawNet → Assertion → (ℕ → ℕ → SymbolicSet) → Function
weak_where net task table =
    conjunction (unsure_where net task table) (negation (strong_where net task table))

-- The work functions of an assertion, where this is its possible table under each assignment: those
-- of every guard and value; those of each time below the depth; the sums of where some net is empty
-- by time, which end with C, and !C; the sums of found strong and of found weak, which end with s
-- and w; and s & !C, its negation, w & !C, and the product of these two.
abbrev pub task_work : RawNet → Assertion → (ℕ → ℕ → SymbolicSet) → List Function
task_work net task table =
    quints_work task.ant ++ (quints_work task.con
    ++ (over_times (work_at net task table) (depth task)
    ++ (sums (all_empty net task table) ++ (negation (contradictory_where net task table)
    ∷ (sums (all_strong task table) ++ (sums (all_weak task table)
    ++ (strong_where net task table ∷ negation (strong_where net task table)
    ∷ unsure_where net task table ∷ weak_where net task table ∷ [])))))))
