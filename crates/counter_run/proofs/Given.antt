-- What is known of each run with given bits, time by time; and a run of the same bits is a run with them.
use Rattle.std.proofs.Common.{◌≡◌, ◌≢◌, ℕ, zero, suc, ◌+◌, ◌<◌, ◌≤◌, Bool, List, [], ◌∷◌, map, length, get_or, arith, sym, ap, refl, subst, ◌∙◌, eq-eqb, ne_eqb, inl, inr}
use Rattle.std.specs.Prelude.{All}
use Rattle.std.specs.List.{AllZip}
use Rattle.std.proofs.lemmas.Bool.{cases_eq, cases_lt}
use Rattle.std.proofs.lemmas.List.{length-map}
use Rattle.ste_base.specs.declared.id.NodeId.{NodeId}
use Rattle.net_core.specs.declared.raw.Latch.{Latch}
use Rattle.net_core.specs.declared.raw.RawNet.{RawNet}
use Rattle.net_core.specs.Flat.{HasOneDriver, IsInRange, IsSettledOrder}
use Rattle.net_core.specs.Run.{gate_bit}
use Rattle.net_core.specs.OneRun.{IsGivenRun}
use Rattle.net_core.proofs.Ordered.{settled_by_order}
use Rattle.net_core.proofs.Runs.{some_run}
use Rattle.clock_step.specs.Simulation.{bit_in}
use Rattle.clock_step.specs.Determined.{AreBits, AreDetermined, bit_at}
use Rattle.clock_step.proofs.Settling.{bits_known}
use Rattle.counter_run.specs.private.Matrix.{AreSourceNodes, cell}

-- the bit of a node in a row that has a bit for each node, by its number
bit_in_map : (nodes : List NodeId) (bit : ℕ → Bool) (id k : ℕ) → k < length nodes → ((d : NodeId) → (get_or nodes k d).0 ≡ id) → bit_in nodes (map (λ node. bit node.0) nodes) id ≡ bit id
bit_in_map [] bit id k l at = absurd (omega arith)
bit_in_map (node ∷ nodes) bit id zero l at = rw (eq-eqb node.0 id (at node)) (ap bit (at node))
bit_in_map (node ∷ nodes) bit id (suc k) l at = elim (cases_eq node.0 id) [
  | inl same ↦ rw (eq-eqb node.0 id same) (ap bit same)
  | inr other ↦ rw (ne_eqb node.0 id other) (bit_in_map nodes bit id k (omega arith) at)
]

-- a run has at each time the bits that what is given and what the latches hold determine
pub determined : (net : RawNet) (nodes : List NodeId) (row held first : List Bool) (given : ℕ → ℕ → Bool) (now : ℕ → Bool) (times t : ℕ) → AreSourceNodes net nodes → t < times → row ≡ map (λ node. now node.0) nodes → ((id : ℕ) → id < net.nets → now id ≡ given t id) → (run : ℕ → ℕ → Bool) → IsGivenRun net given first times run → held ≡ map (λ latch. run t latch.output.0) net.latches → AreDetermined net nodes row held (run t)
determined net nodes row held first given now times t sources l is same run h holds = record {
  gates = h.is_run.gates t l;
  given = λ id m none.
      let at = sources.every id m none in
      h.sources t id l m none ∙ sym (same id m) ∙ sym (bit_in_map nodes now id at.0 at.1 at.2) ∙ ap (λ (r : List Bool). bit_in nodes r id) (sym is);
  latches = holds;
}

-- the bits at the latches' outputs, as a list
pub starts_are : (bit : ℕ → Bool) (latches : List Latch) (first : List Bool) → AllZip (λ latch b. bit latch.output.0 ≡ b) latches first → first ≡ map (λ latch. bit latch.output.0) latches
starts_are bit [] [] h = refl
starts_are bit [] (b ∷ first) h = absurd h
starts_are bit (latch ∷ latches) [] h = absurd h
starts_are bit (latch ∷ latches) (b ∷ first) h =
    let here = h.0 in
    let rest = starts_are bit latches first h.1 in
    cc

-- what the latches hold one time later
pub held_next : (net : RawNet) (given : ℕ → ℕ → Bool) (first bits held : List Bool) (times t : ℕ) → IsInRange net → held ≡ map (λ latch. bit_at bits latch.input.0) net.latches → (run : ℕ → ℕ → Bool) → IsGivenRun net given first times run → AreBits net (run t) bits → suc t < times → held ≡ map (λ latch. run (suc t) latch.output.0) net.latches
held_next net given first bits held times t range is run h known l =
    is ∙ bits_known (λ (latch : Latch). latch.input.0) (bit_at bits) (run t) net.latches (λ k d m. known (get_or net.latches k d).input.0 (range.latch_inputs k d m))
    ∙ sym (moved net.latches (h.is_run.latches t l))
  where
    moved : (latches : List Latch) → All (λ latch. run (suc t) latch.output.0 ≡ run t latch.input.0) latches → map (λ latch. run (suc t) latch.output.0) latches ≡ map (λ latch. run t latch.input.0) latches
    moved [] all = refl
    moved (latch ∷ latches) all =
        let here = all 0 latch (omega arith) in
        let rest = moved latches (λ k d m. all (suc k) d (omega arith)) in
        cc

starts_as : (one other : ℕ → Bool) (latches : List Latch) (first : List Bool) → All (λ latch. other latch.output.0 ≡ one latch.output.0) latches → AllZip (λ latch bit. one latch.output.0 ≡ bit) latches first → AllZip (λ latch bit. other latch.output.0 ≡ bit) latches first
starts_as one other [] [] same h = tt
starts_as one other [] (bit ∷ first) same h = absurd h
starts_as one other (latch ∷ latches) [] same h = absurd h
starts_as one other (latch ∷ latches) (bit ∷ first) same h = (same 0 latch (omega arith) ∙ h.0, starts_as one other latches first (λ k d l. same (suc k) d (omega arith)) h.1)

-- the same bits at all nets and times are a run with the same bits given
pub run_as : (net : RawNet) (given : ℕ → ℕ → Bool) (first : List Bool) (times : ℕ) (run other : ℕ → ℕ → Bool) → IsInRange net → IsGivenRun net given first times run → ((t id : ℕ) → t < times → id < net.nets → other t id ≡ run t id) → IsGivenRun net given first times other
run_as net given first times run other range h same = record {
  is_run = record {
    gates = λ t l k d m.
        let gate = get_or net.gates k d in
        same t gate.output.0 l (range.gate_outputs k d m) ∙ h.is_run.gates t l k d m
        ∙ ap (gate_bit net gate) (sym (bits_known (λ (input : NodeId). input.0) (other t) (run t) gate.inputs (λ i e n. same t (get_or gate.inputs i e).0 l (range.gate_inputs k d m i e n))));
    latches = λ t l k d m.
        same (suc t) (get_or net.latches k d).output.0 l (range.latch_outputs k d m) ∙ h.is_run.latches t l k d m
        ∙ sym (same t (get_or net.latches k d).input.0 (omega arith) (range.latch_inputs k d m));
  };
  sources = λ t id l m none. same t id l m ∙ h.sources t id l m none;
  starts = λ l. starts_as (run 0) (other 0) net.latches first (λ k d m. same 0 (get_or net.latches k d).output.0 l (range.latch_outputs k d m)) (h.starts l);
}

-- the same of what the code holds: the rows as they were borrowed, and those of the run as lists
pub given_as : (net : RawNet) (times : ℕ) (items given rows lists : List (List Bool)) (first : List Bool) → given ≡ items → lists ≡ rows → first ≡ map (λ latch. cell items 0 latch.output.0) net.latches
    → IsGivenRun net (cell given) first times (cell rows) → IsGivenRun net (cell items) (map (λ latch. cell items 0 latch.output.0) net.latches) times (cell lists)
given_as net times items given rows lists first is lists_are first_is h =
    subst (λ (f : List Bool). IsGivenRun net (cell items) f times (cell lists)) first_is
    (subst (λ (g : List (List Bool)). IsGivenRun net (cell g) first times (cell lists)) is
    (subst (λ (r : List (List Bool)). IsGivenRun net (cell given) first times (cell r)) (sym lists_are) h))

-- ---- a run that is completed time by time

-- before time t the bits are those of each run with what is given, later they are what is given, and the latches hold what
-- the run has next
pub record AreCompleted (net : RawNet) (times : ℕ) (first : List Bool) (given now : ℕ → ℕ → Bool) (held : List Bool) (t : ℕ) : Type 0 where
  pub count : length held ≡ length net.latches
  pub later : (s id : ℕ) → t ≤ s → id < net.nets → now s id ≡ given s id
  pub done : (run : ℕ → ℕ → Bool) → IsGivenRun net given first times run → (s id : ℕ) → s < t → id < net.nets → now s id ≡ run s id
  pub holds : (run : ℕ → ℕ → Bool) → IsGivenRun net given first times run → t < times → held ≡ map (λ latch. run t latch.output.0) net.latches

pub none_completed : (net : RawNet) (times : ℕ) (first held : List Bool) (given now : ℕ → ℕ → Bool) → held ≡ first → length first ≡ length net.latches → ((s id : ℕ) → now s id ≡ given s id) → AreCompleted net times first given now held 0
none_completed net times first held given now is size same = record {
  count = ap length is ∙ size;
  later = λ s id l m. same s id;
  done = λ run h s id l m. absurd (omega arith);
  holds = λ run h l. is ∙ starts_are (run 0) net.latches first (h.starts l);
}

-- one more time, with the bits of all nets at it; `seen` are the bits that the row was gathered from
pub one_completed : (net : RawNet) (nodes : List NodeId) (times t : ℕ) (first row held shown bits next : List Bool) (given now later : ℕ → ℕ → Bool) (seen : ℕ → Bool) → IsInRange net → AreSourceNodes net nodes → t < times → row ≡ map (λ node. seen node.0) nodes → ((id : ℕ) → seen id ≡ now t id) → shown ≡ held
    → ((bit : ℕ → Bool) → AreDetermined net nodes row shown bit → AreBits net bit bits) → ((id : ℕ) → id < net.nets → later t id ≡ bit_at bits id) → ((s id : ℕ) → id < net.nets → s ≢ t → later s id ≡ now s id)
    → next ≡ map (λ latch. bit_at bits latch.input.0) net.latches → AreCompleted net times first given now held t → AreCompleted net times first given later next (t + 1)
one_completed net nodes times t first row held shown bits next given now later seen range sources l row_is seen_is shown_is settles placed others next_is before =
    let known : (run : ℕ → ℕ → Bool) → IsGivenRun net given first times run → AreBits net (run t) bits = λ run h.
    settles (run t) (determined net nodes row shown first given seen times t sources l row_is (λ id m. seen_is id ∙ before.later t id (omega arith) m) run h (shown_is ∙ before.holds run h l)) in
    record {
      count = ap length next_is ∙ length-map net.latches (λ (latch : Latch). bit_at bits latch.input.0);
      later = λ s id m n. others s id n (λ e. absurd (omega (arith, e, m))) ∙ before.later s id (omega (arith, m)) n;
      done = λ run h s id m n. elim (cases_lt s t) [
        | inl early ↦ others s id n (λ e. absurd (omega (arith, e, early))) ∙ before.done run h s id early n
        | inr at ↦
            let same : s ≡ t = omega (arith, at, m) in
            ap (λ (k : ℕ). later k id) same ∙ placed id n ∙ known run h id n ∙ ap (λ (k : ℕ). run k id) (sym same)
      ];
      holds = λ run h m.
          let e : suc t ≡ t + 1 = omega arith in
          subst (λ (k : ℕ). next ≡ map (λ latch. run k latch.output.0) net.latches) e (held_next net given first bits next times t range next_is run h (known run h) (omega (arith, m)));
    }

-- when all times are done the rows are the run
pub all_completed : (net : RawNet) (order : List ℕ) (times t : ℕ) (first held : List Bool) (given now last : ℕ → ℕ → Bool) → IsInRange net → HasOneDriver net → IsSettledOrder net order → length first ≡ length net.latches → times ≤ t
    → ((s id : ℕ) → id < net.nets → last s id ≡ now s id) → AreCompleted net times first given now held t → IsGivenRun net given first times last
all_completed net order times t first held given now last range driver is_order size l same completed =
    let made = some_run net driver (settled_by_order net order is_order) given first times size in
    run_as net given first times made.0 last range made.1 (λ s id m n. same s id n ∙ completed.done made.0 made.1 s id (omega (arith, l, m)) n)
