-- For private functions. What is found under one assignment, by the plain checker.
use Rattle.std.specs.Prelude.{◌&&◌, ℕ, Bool, true, false, not, List, [], slice_index_or, if◌then◌else◌}
use Rattle.std.specs.List.{list_all, list_any}
use Rattle.net_core.specs.declared.bit_set.BitSet.{BitSet}
use Rattle.net_core.specs.declared.raw.RawNet.{RawNet}
use Rattle.net_core.specs.Run.{Cut}
use Rattle.net_core.specs.Sets.{has}
use Rattle.ste_model.specs.declared.task.Assertion.{Assertion}
use Rattle.ste_model.specs.declared.task.Bind.{Bind}
use Rattle.ste_model.specs.declared.task.Quint.{Quint}
use Rattle.ste_model.specs.Asked.{quint_at}
use Rattle.ste_model.specs.Edges.{bind_at}
use Rattle.ste_model.specs.declared.verdict.Verdict.{Verdict}
use Rattle.ste_model.specs.declared.verdict.Verdict.TheVariants as verdict
use Rattle.ste_model.specs.Found.{IsContradictory, IsStrong, IsWeak}
use Rattle.plain_check.specs.declared.found.Failure.{Failure}
use Rattle.plain_check.specs.declared.found.Failure.TheVariants as failure
use Rattle.plain_check.specs.declared.found.Outcome.{Outcome}
use Rattle.plain_check.specs.declared.found.Outcome.TheVariants.{Contradictory, Strong, Weak, Fine}
use Rattle.plain_check.specs.private.Sets.{set_at}

-- the table whose rows these are, one for each time
abbrev pub table_of : List (List BitSet) → ℕ → ℕ → BitSet
table_of rows t id = set_at (slice_index_or rows t []) id

-- a set without a bit
abbrev pub is_empty : BitSet → Bool
is_empty set = not set.zero && not set.one

-- some set has no bit
abbrev pub has_empty : List (List BitSet) → Bool
has_empty rows = list_any (λ row. list_any is_empty row) rows

-- strongly: the set is exactly the opposite bit; weakly: it has both bits
abbrev pub fails : Failure → BitSet → Bool → Bool
fails failure.Strong set value = has set (not value) && not (has set value)
fails failure.Weak set value = has set false && has set true

-- what is asked fails so
abbrev pub fails_cut : Failure → (ℕ → BitSet) → Cut → Bool
fails_cut how sets cut = cut.on && fails how (sets cut.node) cut.value

-- some quintuple fails so at a time
abbrev pub fails_at : Failure → List BitSet → List Quint → List Bool → ℕ → Bool
fails_at how row quints bits t =
    list_any (λ quint. fails_cut how (set_at row) (quint_at bits t quint)) quints

-- a binding of an edge fails so on the sets of a row
abbrev pub bind_fails : Failure → List BitSet → List Bool → Bind → Bool
bind_fails how row bits bind = fails_cut how (set_at row) (bind_at bits bind)

-- the outcome of an assignment, which no other is
abbrev pub IsOutcome : RawNet → Assertion → List Bool → Outcome → Type 0
IsOutcome net task bits Contradictory = IsContradictory net task bits
IsOutcome net task bits Strong = IsStrong net task bits
IsOutcome net task bits Weak = IsWeak net task bits
IsOutcome net task bits Fine =
    (¬ IsContradictory net task bits) × (¬ IsStrong net task bits) × (¬ IsWeak net task bits)

abbrev pub is_strong : Outcome → Bool
is_strong Strong = true
is_strong other = false

abbrev pub is_weak : Outcome → Bool
is_weak Weak = true
is_weak other = false

abbrev pub is_contradictory : Outcome → Bool
is_contradictory Contradictory = true
is_contradictory other = false

-- the verdict, from the outcomes of all assignments
abbrev pub verdict_of : List Outcome → Verdict
verdict_of outcomes =
    if list_any is_strong outcomes then verdict.Strong
    else if list_any is_weak outcomes then verdict.Weak
    else if list_all is_contradictory outcomes then verdict.Vacuous
    else verdict.Pass
