-- The rows of outputs, time by time, are those of the run.
use Rattle.std.proofs.Common.{◌≡◌, ℕ, ◌<◌, ◌+◌, zero, suc, Bool, List, [], ◌∷◌, ◌++◌, map, length, get_or, arith, sym, ap, refl, ◌∙◌, inl, inr}
use Rattle.std.specs.Prelude.{All, slice_get, Some}
use Rattle.std.specs.List.{AllZip}
use Rattle.std.proofs.lemmas.Bool.{cases_lt}
use Rattle.std.proofs.lemmas.List.{length-map}
use Rattle.ste_base.specs.declared.id.NodeId.{NodeId}
use Rattle.net_core.specs.declared.raw.Latch.{Latch}
use Rattle.net_core.specs.declared.raw.RawNet.{RawNet}
use Rattle.net_core.specs.Flat.{HasOneDriver, IsInRange, IsSettledOrder}
use Rattle.net_core.proofs.Ordered.{settled_by_order}
use Rattle.net_core.proofs.Runs.{some_run}
use Rattle.clock_step.specs.declared.inputs.Inputs.{Inputs}
use Rattle.clock_step.specs.Simulation.{AreOutputs, IsSimulation, bit_in, first_bit, first_bits, given_bit, outputs_at}
use Rattle.clock_step.specs.Determined.{AreBits, AreDetermined, bit_at}
use Rattle.clock_step.proofs.Settling.{bits_known}

-- the bits at the latches' outputs, as a list
starts_are : (bit : ℕ → Bool) (latches : List Latch) (first : List Bool) → AllZip (λ latch b. bit latch.output.0 ≡ b) latches first → first ≡ map (λ latch. bit latch.output.0) latches
starts_are bit [] [] h = refl
starts_are bit [] (b ∷ first) h = absurd h
starts_are bit (latch ∷ latches) [] h = absurd h
starts_are bit (latch ∷ latches) (b ∷ first) h =
    let here = h.0 in
    let rest = starts_are bit latches first h.1 in
    cc

-- the latches begin with their first bits
pub held_first : (net : RawNet) (inputs : Inputs) (held : List Bool) → held ≡ first_bits net → (run : ℕ → ℕ → Bool) → IsSimulation net inputs run → 0 < length inputs.rows → held ≡ map (λ latch. run 0 latch.output.0) net.latches
held_first net inputs held is run simulates l = is ∙ starts_are (run 0) net.latches (first_bits net) (simulates.starts l)

same_row : (rows : List (List Bool)) (t : ℕ) (row : List Bool) → t < length rows → row ≡ get_or rows t row → get_or rows t [] ≡ row
same_row [] t row l is = absurd (omega arith)
same_row (r ∷ rows) zero row l is = sym is
same_row (r ∷ rows) (suc t) row l is = same_row rows t row (omega arith) is

-- a run has at each time the bits that its row and the latches determine
pub determined : (net : RawNet) (inputs : Inputs) (nodes : List NodeId) (rows : List (List Bool)) (row given held holds : List Bool) (t : ℕ) → nodes ≡ inputs.nodes → rows ≡ inputs.rows → given ≡ row → held ≡ holds → t < length rows → row ≡ get_or rows t row → (run : ℕ → ℕ → Bool) → IsSimulation net inputs run → (t < length inputs.rows → holds ≡ map (λ latch. run t latch.output.0) net.latches) → AreDetermined net nodes given held (run t)
determined net inputs nodes rows row given held holds t nodes_are rows_are given_is held_is l is run simulates holds_are =
    let inside : t < length inputs.rows = rw (← rows_are) l in
    let row_at : get_or inputs.rows t [] ≡ given = ap (λ (rs : List (List Bool)). get_or rs t []) (sym rows_are) ∙ same_row rows t row l is ∙ sym given_is in
    record {
      gates = simulates.is_run.gates t inside;
      given = λ id m none. simulates.sources t id inside m none ∙ ap (λ (ns : List NodeId). bit_in ns (get_or inputs.rows t []) id) (sym nodes_are) ∙ ap (λ (r : List Bool). bit_in nodes r id) row_at;
      latches = held_is ∙ holds_are inside;
    }

-- what the latches hold one time later
pub held_next : (net : RawNet) (inputs : Inputs) (bits held : List Bool) (t : ℕ) → IsInRange net → held ≡ map (λ latch. bit_at bits latch.input.0) net.latches → (run : ℕ → ℕ → Bool) → IsSimulation net inputs run → AreBits net (run t) bits → suc t < length inputs.rows → held ≡ map (λ latch. run (suc t) latch.output.0) net.latches
held_next net inputs bits held t range is run simulates known l =
    is ∙ bits_known (λ (latch : Latch). latch.input.0) (bit_at bits) (run t) net.latches (λ k d m. known (get_or net.latches k d).input.0 (range.latch_inputs k d m))
    ∙ sym (moved net.latches (simulates.is_run.latches t l))
  where
    moved : (latches : List Latch) → All (λ latch. run (suc t) latch.output.0 ≡ run t latch.input.0) latches → map (λ latch. run (suc t) latch.output.0) latches ≡ map (λ latch. run t latch.input.0) latches
    moved [] all = refl
    moved (latch ∷ latches) all =
        let here = all 0 latch (omega arith) in
        let rest = moved latches (λ k d m. all (suc k) d (omega arith)) in
        cc

-- the outputs' bits are those of the run
outputs_known : (net : RawNet) (bits : List Bool) (bit : ℕ → Bool) → IsInRange net → AreBits net bit bits → outputs_at net (bit_at bits) ≡ outputs_at net bit
outputs_known net bits bit range known = bits_known (λ (output : NodeId). output.0) (bit_at bits) bit net.outputs (λ k d m. known (get_or net.outputs k d).0 (range.outputs k d m))

early : (rows : List (List Bool)) (row : List Bool) (s : ℕ) → s < length rows → slice_get (rows ++ row ∷ []) s ≡ slice_get rows s
early [] row s l = absurd (omega arith)
early (x ∷ rows) row zero l = refl
early (x ∷ rows) row (suc s) l = early rows row s (omega arith)

last : (rows : List (List Bool)) (row : List Bool) → slice_get (rows ++ row ∷ []) (length rows) ≡ Some row
last [] row = refl
last (x ∷ rows) row = last rows row

-- one more row
pub more_outputs : (net : RawNet) (run : ℕ → ℕ → Bool) (rows : List (List Bool)) (row bits : List Bool) (t : ℕ) → IsInRange net → length rows ≡ t → row ≡ outputs_at net (bit_at bits) → AreBits net (run t) bits → ((s : ℕ) → s < t → slice_get rows s ≡ Some (outputs_at net (run s))) → (s : ℕ) → s < t + 1 → slice_get (rows ++ row ∷ []) s ≡ Some (outputs_at net (run s))
more_outputs net run rows row bits t range long is known before s l = elim (cases_lt s t) [
  | inl old ↦ early rows row s (omega arith) ∙ before s old
  | inr new ↦
      let e : s ≡ length rows = omega arith in
      let at : s ≡ t = omega arith in
      ap (slice_get (rows ++ row ∷ [])) e ∙ last rows row ∙ ap Some (is ∙ outputs_known net bits (run t) range known) ∙ ap (λ (k : ℕ). Some (outputs_at net (run k))) (sym at)
]

-- when all rows are done
pub are_outputs : (net : RawNet) (order : List ℕ) (inputs : Inputs) (rows : List (List Bool)) (n : ℕ) → HasOneDriver net → IsSettledOrder net order → length rows ≡ n → n ≡ length inputs.rows → ((run : ℕ → ℕ → Bool) → IsSimulation net inputs run → (s : ℕ) → s < n → slice_get rows s ≡ Some (outputs_at net (run s))) → AreOutputs net inputs rows
are_outputs net order inputs rows n one in_order long all each = record {
  some = some_run net one (settled_by_order net order in_order) (given_bit inputs) (first_bits net) (length inputs.rows) (length-map net.latches (λ (latch : Latch). first_bit latch.init));
  long = long ∙ all;
  each = λ run simulates t l. each run simulates t (omega arith);
}
