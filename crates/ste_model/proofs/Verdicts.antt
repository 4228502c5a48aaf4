-- Each finding is given by a function of the assignments, and so there is exactly one verdict.
use Rattle.std.proofs.Common.{◌≡◌, ℕ, ◌<◌, zero, suc, Bool, true, false, not, List, [], ◌∷◌, length, get_or, arith, refl, sym, subst, ◌∙◌, ap}
use Rattle.std.specs.Prelude.{Any, IsTrue, ◌↔◌}
use Rattle.std.proofs.Math.Decide.{dec_lt}
use Rattle.net_core.specs.declared.bit_set.BitSet.{BitSet}
use Rattle.net_core.specs.declared.raw.RawNet.{RawNet}
use Rattle.net_core.specs.Run.{Cut, IsSettled}
use Rattle.net_core.specs.Sets.{both, neither, only}
use Rattle.net_core.proofs.Possible.{and_or_not, not_or_not, same_fields, same_or_not}
use Rattle.ste_model.specs.declared.task.Assertion.{Assertion}
use Rattle.ste_model.specs.declared.verdict.Verdict.{Verdict}
use Rattle.ste_model.specs.declared.verdict.Verdict.TheVariants.{Pass, Weak, Strong, Vacuous, Budget}
use Rattle.ste_model.specs.Asked.{asked_at, cuts_at, depth}
use Rattle.ste_model.specs.Assignments.{EachAssignment, SomeAssignment, Tells}
use Rattle.ste_model.specs.Found.{FindingsAreDecided, IsContradictory, IsEmptySomewhere, IsFound, IsStrong, IsTableOf, IsVerdict, IsVerdictOf, IsWeak, OneVerdict}
use Rattle.ste_model.proofs.Findings.{found_in}
use Rattle.ste_model.proofs.Tables.{same_table, some_table}

-- a fact of some number below n
below_or_not : (P : ℕ → Type 0) → ((k : ℕ) → Dec (P k)) → (n : ℕ) → Dec ((k : ℕ) × (k < n) × P k)
below_or_not P or_not zero = no (λ h. absurd (omega (arith, h.1)))
below_or_not P or_not (suc n) = elim (or_not n) [
  | yes h ↦ yes (n, omega arith, h)
  | no none ↦ elim (below_or_not P or_not n) [
    | yes h ↦ yes (h.0, omega (arith, h.1), h.2)
    | no earlier ↦ no (λ h. elim (dec_lt h.0 n) [
      | yes l ↦ earlier (h.0, l, h.2)
      | no l ↦ let last : h.0 ≡ n = omega (arith, l, h.1) in none (subst P last h.2)
    ])
  ]
]

in_rest : {X : Type 0} (P : X → Type 0) (x : X) (xs : List X) (k : ℕ) (y : X) → k < length (x ∷ xs) → get_or (x ∷ xs) k y ≡ y → P y → ¬ P x → ¬ Any P xs → ⊥
in_rest P x xs zero y l e h none later = none (subst P (sym e) h)
in_rest P x xs (suc k) y l e h none later = later (k, y, omega (arith, l), e, h)

pub some_or_not : {X : Type 0} (P : X → Type 0) → ((x : X) → Dec (P x)) → (xs : List X) → Dec (Any P xs)
some_or_not P or_not [] = no (λ h. absurd (omega (arith, h.2)))
some_or_not P or_not (x ∷ xs) = elim (or_not x) [
  | yes h ↦ yes (0, x, omega arith, refl, h)
  | no none ↦ elim (some_or_not P or_not xs) [
    | yes h ↦ yes (suc h.0, h.1, omega (arith, h.2), h.3, h.4)
    | no later ↦ no (λ h. in_rest P x xs h.0 h.1 h.2 h.3 h.4 none later)
  ]
]

set_or_not : (set other : BitSet) → Dec (set ≡ other)
set_or_not set other = elim (and_or_not (same_or_not set.zero other.zero) (same_or_not set.one other.one)) [
  | yes h ↦ yes (same_fields set.zero other.zero set.one other.one h.0 h.1)
  | no h ↦ no (λ e. h (ap (λ (s : BitSet). s.zero) e, ap (λ (s : BitSet). s.one) e))
]

-- whether a fact that can be decided holds
holds : {A : Type 0} → Dec A → Bool
holds (yes h) = true
holds (no h) = false

holds_is : {A : Type 0} (d : Dec A) → IsTrue (holds d) ↔ A
unfolding holds
holds_is (yes h) = (λ e. h, λ a. refl)
holds_is (no h) = (λ e. absurd (cc e), λ a. absurd (h a))

told : (vars : ℕ) (P : List Bool → Type 0) → ((bits : List Bool) → Dec (P bits)) → (function : List Bool → Bool) × Tells vars function P
told vars P or_not = ((λ bits. holds (or_not bits)), λ bits long. holds_is (or_not bits))

-- a fact of some assignment, and of each
one_or_not : (vars : ℕ) (P : List Bool → Type 0) → ((bits : List Bool) → Dec (P bits)) → Dec (SomeAssignment vars P)
one_or_not zero P or_not = elim (or_not []) [
  | yes h ↦ yes ([], refl, h)
  | no none ↦ no (λ h. only_empty h.0 h.1 h.2 none)
]
  where
    only_empty : (bits : List Bool) → length bits ≡ 0 → P bits → ¬ P [] → ⊥
    only_empty [] e h none = none h
    only_empty (bit ∷ bits) e h none = absurd (omega arith)
one_or_not (suc vars) P or_not = elim (one_or_not vars (λ bits. P (false ∷ bits)) (λ bits. or_not (false ∷ bits))) [
  | yes h ↦ yes (false ∷ h.0, omega (arith, h.1), h.2)
  | no zeros ↦ elim (one_or_not vars (λ bits. P (true ∷ bits)) (λ bits. or_not (true ∷ bits))) [
    | yes h ↦ yes (true ∷ h.0, omega (arith, h.1), h.2)
    | no ones ↦ no (λ h. neither_half h.0 h.1 h.2 zeros ones)
  ]
]
  where
    neither_half : (bits : List Bool) → length bits ≡ suc vars → P bits → ¬ SomeAssignment vars (λ bits. P (false ∷ bits)) → ¬ SomeAssignment vars (λ bits. P (true ∷ bits)) → ⊥
    neither_half [] e h zeros ones = absurd (omega arith)
    neither_half (false ∷ bits) e h zeros ones = zeros (bits, omega (arith, e), h)
    neither_half (true ∷ bits) e h zeros ones = ones (bits, omega (arith, e), h)

each_or_not : (vars : ℕ) (P : List Bool → Type 0) → ((bits : List Bool) → Dec (P bits)) → Dec (EachAssignment vars P)
each_or_not vars P or_not = elim (one_or_not vars (λ bits. ¬ P bits) (λ bits. not_or_not (or_not bits))) [
  | yes h ↦ no (λ all. h.2 (all h.0 h.1))
  | no none ↦ yes (λ bits long. elim (or_not bits) [
    | yes h ↦ h
    | no h ↦ absurd (none (bits, long, h))
  ])
]

module _ (net : RawNet) (task : Assertion) (settled : IsSettled net) where
  empty_or_not : (table : ℕ → ℕ → BitSet) → Dec (IsEmptySomewhere net task table)
  empty_or_not table = below_or_not (λ t. (id : ℕ) × (id < net.nets) × (table t id ≡ neither)) (λ t. below_or_not (λ id. table t id ≡ neither) (λ id. set_or_not (table t id) neither) net.nets) (depth task)

  contradictory_or_not : (bits : List Bool) → Dec (IsContradictory net task bits)
  contradictory_or_not bits =
      let made = some_table net task.reset (asked_at task bits) (depth task) settled in
      let same = λ (other : ℕ → ℕ → BitSet) (is : IsTableOf net task bits other). same_table net task.reset (asked_at task bits) (depth task) settled made.0 other made.1 is in
      elim (empty_or_not made.0) [
        | yes h ↦ yes (made.0, made.1, h)
        | no h ↦ no (λ c. h (c.2.0, c.2.1, (c.2.2.0, c.2.2.1, same c.0 c.1 c.2.0 c.2.2.0 c.2.1 ∙ c.2.2.2)))
      ]

  found_or_not : (Says : BitSet → Cut → Type 0) → ((set : BitSet) (cut : Cut) → Dec (Says set cut)) → (bits : List Bool) → Dec (IsFound (λ sets cut. Says (sets cut.node) cut) net task bits)
  found_or_not Says or_not bits =
      let made = some_table net task.reset (asked_at task bits) (depth task) settled in
      let fails = below_or_not (λ t. Any (λ cut. Says (made.0 t cut.node) cut) (cuts_at task.con bits t)) (λ t. some_or_not (λ cut. Says (made.0 t cut.node) cut) (λ cut. or_not (made.0 t cut.node) cut) (cuts_at task.con bits t)) (depth task) in
      elim (and_or_not (not_or_not (empty_or_not made.0)) fails) [
        | yes h ↦ yes (made.0, made.1, h.0, h.1)
        | no h ↦ no (λ found. h (found_in Says net task bits settled made.0 made.1 found))
      ]

  pub strong_or_not : (bits : List Bool) → Dec (IsStrong net task bits)
  strong_or_not = found_or_not (λ set cut. IsTrue cut.on × (set ≡ only (not cut.value))) (λ set cut. and_or_not (same_or_not cut.on true) (set_or_not set (only (not cut.value))))

  weak_or_not : (bits : List Bool) → Dec (IsWeak net task bits)
  weak_or_not bits = and_or_not (not_or_not (strong_or_not bits)) (found_or_not (λ set cut. IsTrue cut.on × (set ≡ both)) (λ set cut. and_or_not (same_or_not cut.on true) (set_or_not set both)) bits)

pub findings_are_decided : FindingsAreDecided
findings_are_decided = record {
  strong = λ net vars task settled. told vars (IsStrong net task) (strong_or_not net task settled);
  weak = λ net vars task settled. told vars (IsWeak net task) (weak_or_not net task settled);
  contradictory = λ net vars task settled. told vars (IsContradictory net task) (contradictory_or_not net task settled);
}

verdict_by : (vars : ℕ) (S W C : List Bool → Type 0) → Dec (SomeAssignment vars S) → Dec (SomeAssignment vars W) → Dec (EachAssignment vars C) → (verdict : Verdict) × IsVerdict vars S W C verdict
verdict_by vars S W C (yes s) w c = (Strong, s)
verdict_by vars S W C (no s) (yes w) c = (Weak, (s, w))
verdict_by vars S W C (no s) (no w) (yes c) = (Vacuous, (s, w, c))
verdict_by vars S W C (no s) (no w) (no c) = (Pass, (s, w, c))

some_verdict : (net : RawNet) (vars : ℕ) (task : Assertion) → IsSettled net → (verdict : Verdict) × IsVerdictOf net vars task verdict
some_verdict net vars task settled = verdict_by vars (IsStrong net task) (IsWeak net task) (IsContradictory net task)
    (one_or_not vars (IsStrong net task) (strong_or_not net task settled)) (one_or_not vars (IsWeak net task) (weak_or_not net task settled)) (each_or_not vars (IsContradictory net task) (contradictory_or_not net task settled))

same_verdict : (vars : ℕ) (S W C : List Bool → Type 0) (one other : Verdict) → IsVerdict vars S W C one → IsVerdict vars S W C other → one ≡ other
same_verdict vars S W C Strong Strong a b = refl
same_verdict vars S W C Strong Weak a b = absurd (b.0 a)
same_verdict vars S W C Strong Vacuous a b = absurd (b.0 a)
same_verdict vars S W C Strong Pass a b = absurd (b.0 a)
same_verdict vars S W C Strong Budget a b = absurd b
same_verdict vars S W C Weak Strong a b = absurd (a.0 b)
same_verdict vars S W C Weak Weak a b = refl
same_verdict vars S W C Weak Vacuous a b = absurd (b.1 a.1)
same_verdict vars S W C Weak Pass a b = absurd (b.1 a.1)
same_verdict vars S W C Weak Budget a b = absurd b
same_verdict vars S W C Vacuous Strong a b = absurd (a.0 b)
same_verdict vars S W C Vacuous Weak a b = absurd (a.1 b.1)
same_verdict vars S W C Vacuous Vacuous a b = refl
same_verdict vars S W C Vacuous Pass a b = absurd (b.2 a.2)
same_verdict vars S W C Vacuous Budget a b = absurd b
same_verdict vars S W C Pass Strong a b = absurd (a.0 b)
same_verdict vars S W C Pass Weak a b = absurd (a.1 b.1)
same_verdict vars S W C Pass Vacuous a b = absurd (a.2 b.2)
same_verdict vars S W C Pass Pass a b = refl
same_verdict vars S W C Pass Budget a b = absurd b
same_verdict vars S W C Budget other a b = absurd a

pub one_verdict : OneVerdict
one_verdict = record {
  some = some_verdict;
  same = λ net vars task one other a b. same_verdict vars (IsStrong net task) (IsWeak net task) (IsContradictory net task) one other a b;
}
