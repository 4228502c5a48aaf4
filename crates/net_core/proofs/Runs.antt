-- One run with given bits at inputs and free nets and given first values of the latches, and no other.
use Rattle.std.proofs.Common.{◌≡◌, ◌≢◌, ℕ, ◌<◌, zero, suc, Bool, false, List, [], ◌∷◌, map, length, get_or, arith, sym, ap, refl, ◌∙◌, inl, inr}
use Rattle.std.specs.Prelude.{All, AllPairs, Any, Contains, ◌⊎◌}
use Rattle.std.specs.List.{AllZip}
use Rattle.std.proofs.Math.Decide.{ℕ_discrete}
use Rattle.std.proofs.lemmas.List.Elements.{All-nil, All-cons, All-contains}
use Rattle.ste_base.specs.declared.id.NodeId.{NodeId}
use Rattle.net_core.specs.declared.raw.Gate.{Gate}
use Rattle.net_core.specs.declared.raw.Latch.{Latch}
use Rattle.net_core.specs.declared.raw.RawNet.{RawNet}
use Rattle.net_core.specs.Flat.{IsInRange, HasOneDriver}
use Rattle.net_core.specs.Run.{gate_bit, AreGateBits, IsSettledAt, IsSettled, IsUndriven}
use Rattle.net_core.specs.OneRun.{IsGivenRun, OneRun}
use Rattle.net_core.proofs.Levels.{fixed_point}

same_inputs : (one other : ℕ → Bool) (inputs : List NodeId) → All (λ input. one input.0 ≡ other input.0) inputs → map (λ input. one input.0) inputs ≡ map (λ input. other input.0) inputs
same_inputs one other [] all = refl
same_inputs one other (input ∷ inputs) all =
    let here = all 0 input (omega arith) in
    let rest = same_inputs one other inputs (λ k d l. all (suc k) d (omega arith)) in
    cc

-- the one bit where the fact holds, and else the other
pick : {A : Type 0} → Dec A → Bool → Bool → Bool
pick (yes a) bit other = bit
pick (no a) bit other = other

pick_yes : {A : Type 0} (d : Dec A) (bit other : Bool) → A → pick d bit other ≡ bit
unfolding pick
pick_yes (yes a) bit other h = refl
pick_yes (no a) bit other h = absurd (a h)

pick_no : {A : Type 0} (d : Dec A) (bit other : Bool) → ¬ A → pick d bit other ≡ other
unfolding pick
pick_no (yes a) bit other h = absurd (h a)
pick_no (no a) bit other h = refl

pick_same : {A : Type 0} (d : Dec A) (bit bit' other other' : Bool) → (A → bit ≡ bit') → other ≡ other' → pick d bit other ≡ pick d bit' other'
unfolding pick
pick_same (yes a) bit bit' other other' h e = h a
pick_same (no a) bit bit' other other' h e = e

-- the bit of the first driver of the net, and the source's bit where it has none
driven : {D : Type 0} → (D → ℕ) → (D → Bool) → List D → (ℕ → Bool) → ℕ → Bool
driven net_of bit_of [] source id = source id
driven net_of bit_of (d ∷ ds) source id = pick (ℕ_discrete (net_of d) id) (bit_of d) (driven net_of bit_of ds source id)

driven_same : {D : Type 0} (net_of : D → ℕ) (one other : D → Bool) (ds : List D) (source : ℕ → Bool) (id : ℕ) → All (λ d. net_of d ≡ id → one d ≡ other d) ds → driven net_of one ds source id ≡ driven net_of other ds source id
unfolding driven
driven_same net_of one other [] source id all = refl
driven_same net_of one other (d ∷ ds) source id all = pick_same (ℕ_discrete (net_of d) id) (one d) (other d) _ _ (all 0 d (omega arith)) (driven_same net_of one other ds source id (λ k e l. all (suc k) e (omega arith)))

driven_none : {D : Type 0} (net_of : D → ℕ) (bit_of : D → Bool) (ds : List D) (source : ℕ → Bool) (id : ℕ) → All (λ d. net_of d ≢ id) ds → driven net_of bit_of ds source id ≡ source id
unfolding driven
driven_none net_of bit_of [] source id none = refl
driven_none net_of bit_of (d ∷ ds) source id none = pick_no (ℕ_discrete (net_of d) id) (bit_of d) _ (none 0 d (omega arith)) ∙ driven_none net_of bit_of ds source id (λ k e l. none (suc k) e (omega arith))

driven_at : {D : Type 0} (net_of : D → ℕ) (bit_of : D → Bool) (ds : List D) (source : ℕ → Bool) → AllPairs (λ one other. net_of one ≢ net_of other) ds → All (λ d. driven net_of bit_of ds source (net_of d) ≡ bit_of d) ds
unfolding driven
driven_at net_of bit_of [] source apart k d l = absurd (omega arith)
driven_at net_of bit_of (e ∷ ds) source apart zero d l = pick_yes (ℕ_discrete (net_of e) (net_of e)) (bit_of e) _ refl
driven_at net_of bit_of (e ∷ ds) source apart (suc k) d l =
    pick_no (ℕ_discrete (net_of e) (net_of (get_or ds k d))) (bit_of e) _ (apart 0 (suc k) d (omega arith) l) ∙ driven_at net_of bit_of ds source (λ i j x m n. apart (suc i) (suc j) x (omega arith) (omega arith)) k d (omega arith)

-- the first values by net: each latch output has the bit at its latch's place
started : List Latch → List Bool → (ℕ → Bool) → ℕ → Bool
started [] first source id = source id
started (latch ∷ latches) [] source id = source id
started (latch ∷ latches) (bit ∷ first) source id = pick (ℕ_discrete latch.output.0 id) bit (started latches first source id)

started_none : (latches : List Latch) (first : List Bool) (source : ℕ → Bool) (id : ℕ) → All (λ latch. latch.output.0 ≢ id) latches → started latches first source id ≡ source id
unfolding started
started_none [] first source id none = refl
started_none (latch ∷ latches) [] source id none = refl
started_none (latch ∷ latches) (bit ∷ first) source id none = pick_no (ℕ_discrete latch.output.0 id) bit _ (none 0 latch (omega arith)) ∙ started_none latches first source id (λ k e l. none (suc k) e (omega arith))

-- a bit for one net more changes no bit of the others
past : (bit : ℕ → Bool) (id : ℕ) (other : Bool) (latches : List Latch) (first : List Bool) → All (λ latch. id ≢ latch.output.0) latches → AllZip (λ latch b. bit latch.output.0 ≡ b) latches first → AllZip (λ latch b. pick (ℕ_discrete id latch.output.0) other (bit latch.output.0) ≡ b) latches first
past bit id other [] [] apart h = tt
past bit id other [] (b ∷ first) apart h = absurd h
past bit id other (latch ∷ latches) [] apart h = absurd h
past bit id other (latch ∷ latches) (b ∷ first) apart h = (pick_no (ℕ_discrete id latch.output.0) other _ (apart 0 latch (omega arith)) ∙ h.0, past bit id other latches first (λ k e l. apart (suc k) e (omega arith)) h.1)

started_at : (latches : List Latch) (first : List Bool) (source : ℕ → Bool) → length first ≡ length latches → AllPairs (λ one other. one.output.0 ≢ other.output.0) latches → AllZip (λ latch bit. started latches first source latch.output.0 ≡ bit) latches first
unfolding started
started_at [] [] source long apart = tt
started_at [] (bit ∷ first) source long apart = absurd (omega arith)
started_at (latch ∷ latches) [] source long apart = absurd (omega arith)
started_at (latch ∷ latches) (bit ∷ first) source long apart = (
  pick_yes (ℕ_discrete latch.output.0 latch.output.0) bit _ refl,
  past (started latches first source) latch.output.0 bit latches first (λ k d l. apart 0 (suc k) d (omega arith) (omega arith))
      (started_at latches first source (omega arith) (λ i j x m n. apart (suc i) (suc j) x (omega arith) (omega arith))),
)

-- the same bits at the latches' outputs, on other functions
started_as : (one other : ℕ → Bool) (latches : List Latch) (first : List Bool) → All (λ latch. one latch.output.0 ≡ other latch.output.0) latches → AllZip (λ latch bit. other latch.output.0 ≡ bit) latches first → AllZip (λ latch bit. one latch.output.0 ≡ bit) latches first
started_as one other [] [] same h = tt
started_as one other [] (bit ∷ first) same h = absurd h
started_as one other (latch ∷ latches) [] same h = absurd h
started_as one other (latch ∷ latches) (bit ∷ first) same h = (same 0 latch (omega arith) ∙ h.0, started_as one other latches first (λ k e l. same (suc k) e (omega arith)) h.1)

module _ (net : RawNet) (one : HasOneDriver net) (settled : IsSettled net) where
  gate_of : (ℕ → Bool) → Gate → Bool
  gate_of bit gate = gate_bit net gate (map (λ input. bit input.0) gate.inputs)

  next_same : (source a b : ℕ → Bool) (id : ℕ) → All (λ gate. gate.output.0 ≡ id → All (λ input. a input.0 ≡ b input.0) gate.inputs) net.gates → driven (λ gate. gate.output.0) (gate_of a) net.gates source id ≡ driven (λ gate. gate.output.0) (gate_of b) net.gates source id
  unfolding gate_of
  next_same source a b id all = driven_same (λ gate. gate.output.0) (gate_of a) (gate_of b) net.gates source id (λ k d l e. ap (gate_bit net (get_or net.gates k d)) (same_inputs a b (get_or net.gates k d).inputs (all k d l e)))

  some_bits : (source : ℕ → Bool) → (bit : ℕ → Bool) × AreGateBits net bit × ((id : ℕ) → All (λ gate. gate.output.0 ≢ id) net.gates → bit id ≡ source id)
  unfolding gate_of
  some_bits source =
      let made = fixed_point net false (λ (bit : ℕ → Bool). driven (λ gate. gate.output.0) (gate_of bit) net.gates source) (next_same source) settled in (
        made.0,
        (λ k d l. made.1 (get_or net.gates k d).output.0 ∙ driven_at (λ gate. gate.output.0) (gate_of made.0) net.gates source one.gates k d l),
        λ id none. made.1 id ∙ driven_none (λ gate. gate.output.0) (gate_of made.0) net.gates source id none,
      )

  made_run : (ℕ → ℕ → Bool) → List Bool → ℕ → ℕ → Bool
  made_run given first zero = (some_bits (started net.latches first (given 0))).0
  made_run given first (suc t) = (some_bits (driven (λ latch. latch.output.0) (λ latch. made_run given first t latch.input.0) net.latches (given (suc t)))).0

  -- the bits before the gates: a latch output has what its latch holds
  before : (ℕ → ℕ → Bool) → List Bool → ℕ → ℕ → Bool
  before given first zero = started net.latches first (given 0)
  before given first (suc t) = driven (λ latch. latch.output.0) (λ latch. made_run given first t latch.input.0) net.latches (given (suc t))

  gates_at : (given : ℕ → ℕ → Bool) (first : List Bool) (t : ℕ) → AreGateBits net (made_run given first t)
  unfolding made_run
  gates_at given first zero = (some_bits (started net.latches first (given 0))).1
  gates_at given first (suc t) = (some_bits (driven (λ latch. latch.output.0) (λ latch. made_run given first t latch.input.0) net.latches (given (suc t)))).1

  others_at : (given : ℕ → ℕ → Bool) (first : List Bool) (t id : ℕ) → All (λ gate. gate.output.0 ≢ id) net.gates → made_run given first t id ≡ before given first t id
  unfolding made_run before
  others_at given first zero = (some_bits (started net.latches first (given 0))).2
  others_at given first (suc t) = (some_bits (driven (λ latch. latch.output.0) (λ latch. made_run given first t latch.input.0) net.latches (given (suc t)))).2

  latches_first : (given : ℕ → ℕ → Bool) (first : List Bool) → length first ≡ length net.latches → AllZip (λ latch bit. made_run given first 0 latch.output.0 ≡ bit) net.latches first
  unfolding before
  latches_first given first long =
      started_as (made_run given first 0) (started net.latches first (given 0)) net.latches first
      (λ k d l. others_at given first 0 (get_or net.latches k d).output.0 (one.apart k d l)) (started_at net.latches first (given 0) long one.latches)

  latches_after : (given : ℕ → ℕ → Bool) (first : List Bool) (t : ℕ) → All (λ latch. made_run given first (suc t) latch.output.0 ≡ made_run given first t latch.input.0) net.latches
  unfolding before
  latches_after given first t k d l =
      others_at given first (suc t) (get_or net.latches k d).output.0 (one.apart k d l)
      ∙ driven_at (λ latch. latch.output.0) (λ latch. made_run given first t latch.input.0) net.latches (given (suc t)) one.latches k d l

  before_given : (given : ℕ → ℕ → Bool) (first : List Bool) (t id : ℕ) → All (λ latch. latch.output.0 ≢ id) net.latches → before given first t id ≡ given t id
  unfolding before
  before_given given first zero id none = started_none net.latches first (given 0) id none
  before_given given first (suc t) id none = driven_none (λ latch. latch.output.0) (λ latch. made_run given first t latch.input.0) net.latches (given (suc t)) id none

  pub some_run : (given : ℕ → ℕ → Bool) (first : List Bool) (n : ℕ) → length first ≡ length net.latches → (run : ℕ → ℕ → Bool) × IsGivenRun net given first n run
  some_run given first n long = (
    made_run given first,
    record {
      is_run = record { gates = λ t l. gates_at given first t; latches = λ t l. latches_after given first t };
      sources = λ t id l m none. others_at given first t id none.by_gate ∙ before_given given first t id none.by_latch;
      starts = λ l. latches_first given first long;
    },
  )

-- none of these drives the net, or one does
none_or_some : {D : Type 0} (net_of : D → ℕ) (id : ℕ) (ds : List D) → All (λ d. net_of d ≢ id) ds ⊎ Any (λ d. net_of d ≡ id) ds
none_or_some net_of id [] = inl (All-nil (λ d. net_of d ≢ id))
none_or_some net_of id (d ∷ ds) = elim (ℕ_discrete (net_of d) id) [
  | yes h ↦ inr (0, d, omega arith, refl, h)
  | no h ↦ elim (none_or_some net_of id ds) [
    | inl none ↦ inl (All-cons (λ e. net_of e ≢ id) d ds h none)
    | inr any ↦ inr (suc any.0, any.1, omega (arith, any.2), any.3, any.4)
  ]
]

-- bits that agree where no gate drives agree on each net
same_bits : (net : RawNet) (one other : ℕ → Bool) → IsInRange net → AreGateBits net one → AreGateBits net other → ((id : ℕ) → id < net.nets → All (λ gate. gate.output.0 ≢ id) net.gates → one id ≡ other id) → (level id : ℕ) → id < net.nets → IsSettledAt net level id → one id ≡ other id
same_bits net one other range a b rest zero id l settled = absurd settled
same_bits net one other range a b rest (suc level) id l settled = elim (none_or_some (λ gate. gate.output.0) id net.gates) [
  | inl none ↦ rest id l none
  | inr any ↦
      let gate = any.1 in
      let at : Contains net.gates gate = (any.0, any.2, any.3) in
      let inputs = All-contains (λ g. g.output.0 ≡ id → All (λ i. IsSettledAt net level i.0) g.inputs) net.gates gate settled at any.4 in
      let within = All-contains (λ g. All (λ i. i.0 < net.nets) g.inputs) net.gates gate range.gate_inputs at in
      let same = same_inputs one other gate.inputs (λ k d m. same_bits net one other range a b rest level (get_or gate.inputs k d).0 (within k d m) (inputs k d m)) in
      let here = All-contains (λ g. one g.output.0 ≡ gate_bit net g (map (λ i. one i.0) g.inputs)) net.gates gate a at in
      let there = All-contains (λ g. other g.output.0 ≡ gate_bit net g (map (λ i. other i.0) g.inputs)) net.gates gate b at in
      ap one (sym any.4) ∙ here ∙ ap (gate_bit net gate) same ∙ sym there ∙ ap other any.4
]

-- bits that agree at inputs, free nets and latch outputs agree on each net
same_at : (net : RawNet) (one other : ℕ → Bool) → IsInRange net → IsSettled net → AreGateBits net one → AreGateBits net other → ((id : ℕ) → id < net.nets → IsUndriven net id → one id ≡ other id) → All (λ latch. one latch.output.0 ≡ other latch.output.0) net.latches → (id : ℕ) → id < net.nets → one id ≡ other id
same_at net one other range settled a b sources latches id l =
    same_bits net one other range a b
    (λ k m none. elim (none_or_some (λ latch. latch.output.0) k net.latches) [
      | inl no_latch ↦ sources k m (record { by_gate = none; by_latch = no_latch })
      | inr any ↦ ap one (sym any.4) ∙ All-contains (λ latch. one latch.output.0 ≡ other latch.output.0) net.latches any.1 latches (any.0, any.2, any.3) ∙ ap other any.4
    ]) (settled id).0 id l (settled id).1

same_starts : (one other : ℕ → Bool) (latches : List Latch) (first : List Bool) → AllZip (λ latch bit. one latch.output.0 ≡ bit) latches first → AllZip (λ latch bit. other latch.output.0 ≡ bit) latches first → All (λ latch. one latch.output.0 ≡ other latch.output.0) latches
same_starts one other [] [] h g = All-nil (λ latch. one latch.output.0 ≡ other latch.output.0)
same_starts one other [] (bit ∷ first) h g = absurd h
same_starts one other (latch ∷ latches) [] h g = absurd h
same_starts one other (latch ∷ latches) (bit ∷ first) h g = All-cons (λ l. one l.output.0 ≡ other l.output.0) latch latches (h.0 ∙ sym g.0) (same_starts one other latches first h.1 g.1)

pub same_run : (net : RawNet) → IsInRange net → IsSettled net → (given : ℕ → ℕ → Bool) (first : List Bool) (n : ℕ) (one other : ℕ → ℕ → Bool) → IsGivenRun net given first n one → IsGivenRun net given first n other → (t id : ℕ) → t < n → id < net.nets → one t id ≡ other t id
same_run net range settled given first n one other p q zero id l m =
    same_at net (one 0) (other 0) range settled (p.is_run.gates 0 l) (q.is_run.gates 0 l)
    (λ k h none. p.sources 0 k l h none ∙ sym (q.sources 0 k l h none))
    (same_starts (one 0) (other 0) net.latches first (p.starts l) (q.starts l)) id m
same_run net range settled given first n one other p q (suc t) id l m =
    same_at net (one (suc t)) (other (suc t)) range settled (p.is_run.gates (suc t) l) (q.is_run.gates (suc t) l)
    (λ k h none. p.sources (suc t) k l h none ∙ sym (q.sources (suc t) k l h none))
    (λ k d h. p.is_run.latches t l k d h
    ∙ same_run net range settled given first n one other p q t (get_or net.latches k d).input.0 (omega arith) (range.latch_inputs k d h)
    ∙ sym (q.is_run.latches t l k d h)) id m

pub one_run : OneRun
one_run = record { some = some_run; same = same_run }
