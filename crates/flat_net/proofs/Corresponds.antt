-- Flat runs and hierarchical runs.
use Rattle.std.proofs.Common.{◌≡◌, ℕ, suc, ◌<◌, Bool, List, [], ◌∷◌, ◌++◌, map, Option, None, Some, arith, refl, sym, ap, ◌∙◌, subst, inl, inr}
use Rattle.std.specs.Prelude.{Contains, All}
use Rattle.std.proofs.lemmas.List.Elements.{All-contains}
use Rattle.net_core.specs.declared.raw.Gate.{Gate}
use Rattle.net_core.specs.declared.raw.Latch.{Latch}
use Rattle.net_core.specs.declared.raw.RawNet.{RawNet}
use Rattle.net_core.specs.Cover.{cover_bit}
use Rattle.net_core.specs.Run.{IsRun, IsInitial, MayStart, gate_bit, bit_of}
use Rattle.blif_syntax.specs.declared.models.What.{What}
use Rattle.blif_syntax.specs.declared.models.What.TheVariants.{Inputs, Outputs, Clock, Names, Latch as LatchOf, Subckt}
use Rattle.blif_syntax.specs.declared.models.Model.{Model}
use Rattle.hierarchy.specs.Lines.{signal_words, signals, GateLine, gate_of, gate_lines, LatchLine, latch_of, latch_lines}
use Rattle.std.specs.List.{position_or_len}
use Rattle.std.specs.Option.{option_map_or}
use Rattle.hierarchy.specs.Instances.{model_at, bound_to, had_by, in_instances, instances}
use Rattle.hierarchy.specs.Nets.{is_same_signal, home, nets, number_at, gates, latches}
use Rattle.flat_net.specs.Flat.{IsFlat, IsGateOf, IsLatchOf}
use Rattle.hierarchy.specs.Sizes.{IsShallow}
use Rattle.hierarchy.specs.Runs.{IsHierarchicalRun, StartsAsAsked}
use Rattle.flat_net.specs.Corresponds.{flat_bits, signal_bits}
use Rattle.hierarchy.proofs.Members.{In, in_append_left, in_append_right, in_flat_map, flat_map_in, in_map, map_in, filter_map_in, in_from_contains, contains_from_in, zip_left, zip_right}
use Rattle.instances.proofs.Homes.{is_signal, home_bit, at_number, met}

-- the signals of a gate's line, and of a latch's, are among its words
gate_line : (what : What) (gate : GateLine) → gate_of what ≡ Some gate → (In (signal_words what) gate.output) × ((x : List ℕ) → In gate.inputs x → In (signal_words what) x)
gate_line (Names inputs output cover) gate e =
    let o : output ≡ gate.output = cc in
    let i : inputs ≡ gate.inputs = cc in
    (subst (λ y. In (inputs ++ output ∷ []) y) o (in_append_right inputs (output ∷ []) output (inl refl)), λ x h. in_append_left inputs (output ∷ []) x (subst (λ l. In l x) (sym i) h))
gate_line (Inputs _) gate e = absurd (cc)
gate_line (Outputs _) gate e = absurd (cc)
gate_line (Clock _) gate e = absurd (cc)
gate_line (Subckt _ _) gate e = absurd (cc)
gate_line (LatchOf _ _ _ _ _) gate e = absurd (cc)

latch_line : (what : What) (latch : LatchLine) → latch_of what ≡ Some latch → (In (signal_words what) latch.output) × (In (signal_words what) latch.input)
latch_line (LatchOf input output kind control init) latch e =
    let o : output ≡ latch.output = cc in
    let i : input ≡ latch.input = cc in
    (inr (inl o), inl i)
latch_line (Inputs _) latch e = absurd (cc)
latch_line (Outputs _) latch e = absurd (cc)
latch_line (Clock _) latch e = absurd (cc)
latch_line (Subckt _ _) latch e = absurd (cc)
latch_line (Names _ _ _) latch e = absurd (cc)

pub gate_signals : (model : Model) (gate : GateLine) → In (gate_lines model) gate → (In (signals model) gate.output) × ((x : List ℕ) → In gate.inputs x → In (signals model) x)
gate_signals model gate h =
    let l = filter_map_in (λ item. gate_of item.what) model.items gate h in
    let w = gate_line l.0.what gate l.2 in
    (is_signal model l.0 gate.output l.1 w.0, λ x i. is_signal model l.0 x l.1 (w.1 x i))

pub latch_signals : (model : Model) (latch : LatchLine) → In (latch_lines model) latch → (In (signals model) latch.output) × (In (signals model) latch.input)
latch_signals model latch h =
    let l = filter_map_in (λ item. latch_of item.what) model.items latch h in
    let w = latch_line l.0.what latch l.2 in
    (is_signal model l.0 latch.output l.1 w.0, is_signal model l.0 latch.input l.1 w.1)

-- what stands in the list over all instances is had by the model of its instance, and the other way round
module _ {X : Type 0} (had : Model → List X) (models : List Model) where
  pub of_instance : (at : List ℕ × X) → In (in_instances had models) at → (model : Model) × (model_at models at.0 ≡ Some model) × In (had model) at.1
  of_instance at h =
      let p = flat_map_in (λ path. map (λ item. (path, item)) (had_by had (model_at models path))) (instances models) at h in
      let g = map_in (λ item. (p.0, item)) (had_by had (model_at models p.0)) at p.2 in
      let path : p.0 ≡ at.0 = ap (λ q. q.0) g.2 in
      let item : g.0 ≡ at.1 = ap (λ q. q.1) g.2 in
      let here : In (had_by had (model_at models at.0)) at.1 = subst (λ q. In (had_by had (model_at models q)) at.1) path (subst (λ q. In (had_by had (model_at models p.0)) q) item g.1) in
      by (model_at models at.0) refl here
    where
      by : (o : Option Model) → model_at models at.0 ≡ o → In (had_by had o) at.1 → (model : Model) × (model_at models at.0 ≡ Some model) × In (had model) at.1
      by None e i = absurd i
      by (Some m) e i = (m, e, i)

  among_instances : IsShallow models → (path : List ℕ) (model : Model) (item : X) → model_at models path ≡ Some model → In (had model) item → In (in_instances had models) (path, item)
  among_instances shallow path model item e h =
      let mine : In (had_by had (model_at models path)) item = subst (λ o. In (had_by had o) item) (sym e) h in
      in_flat_map (λ p. map (λ i. (p, i)) (had_by had (model_at models p))) (instances models) path (path, item) (met models shallow path model e) (in_map (λ i. (path, i)) (had_by had (model_at models path)) item mine)

map_same : {X Y : Type 0} (f g : X → Y) (xs : List X) → ((x : X) → In xs x → f x ≡ g x) → map f xs ≡ map g xs
map_same f g [] same = refl
map_same f g (x ∷ xs) same = let h = same x (inl refl) in let t = map_same f g xs (λ y i. same y (inr i)) in cc

map_twice : {X Y Z : Type 0} (f : X → Y) (g : Y → Z) (xs : List X) → map (λ x. g (f x)) xs ≡ map g (map f xs)
map_twice f g [] = refl
map_twice f g (x ∷ xs) = ap (λ l. g (f x) ∷ l) (map_twice f g xs)

module _ (models : List Model) (net : RawNet) (shallow : IsShallow models) (flat : IsFlat models net) (n : ℕ) where
  pub bit_at : (run : List ℕ → List ℕ → ℕ → Bool) → IsHierarchicalRun models n run → (path : List ℕ) (model : Model) → model_at models path ≡ Some model → (signal : List ℕ) → In (signals model) signal → (t : ℕ) → t < n → flat_bits models run t (number_at models path signal) ≡ run path signal t
  bit_at run is_run path model e signal h t in_time =
      ap (λ p. run p.path p.signal t) (at_number models shallow path model signal (record { path = []; signal = [] }) e h) ∙ home_bit models n run is_run t in_time path signal

  -- a gate of the net has its bit where its line has it in the instance
  same_gate : (bits : ℕ → Bool) (gate : Gate) (at : List ℕ × GateLine) → IsGateOf models net gate at → gate_bit net gate (map (λ input. bits input.0) gate.inputs) ≡ cover_bit at.1.cover (map (λ input. bits (number_at models at.0 input)) at.1.inputs)
  same_gate bits gate at is =
      ap (λ c. bit_of c (map (λ input. bits input.0) gate.inputs)) is.cover
      ∙ ap (λ l. cover_bit at.1.cover l) (map_twice (λ input. input.0) bits gate.inputs ∙ ap (λ l. map bits l) is.inputs ∙ sym (map_twice (λ input. number_at models at.0 input) bits at.1.inputs))

  pub to_flat_gate : (run : List ℕ → List ℕ → ℕ → Bool) → IsHierarchicalRun models n run → (t : ℕ) → t < n → (gate : Gate) → In net.gates gate → flat_bits models run t gate.output.0 ≡ gate_bit net gate (map (λ input. flat_bits models run t input.0) gate.inputs)
  to_flat_gate run is_run t in_time gate h =
      let z = zip_left (IsGateOf models net) net.gates (gates models) gate flat.gates h in
      let p = of_instance gate_lines models z.0 z.1 in
      let s = gate_signals p.0 z.0.1 p.2 in
      let rule = is_run.gates z.0.0 p.0 p.1 z.0.1 (contains_from_in (gate_lines p.0) z.0.1 p.2) t in_time in
      let inputs = map_same (λ x. flat_bits models run t (number_at models z.0.0 x)) (λ x. run z.0.0 x t) z.0.1.inputs (λ x i. bit_at run is_run z.0.0 p.0 p.1 x (s.1 x i) t in_time) in
      ap (λ k. flat_bits models run t k) z.2.output
      ∙ bit_at run is_run z.0.0 p.0 p.1 z.0.1.output s.0 t in_time
      ∙ rule
      ∙ ap (λ l. cover_bit z.0.1.cover l) (sym inputs)
      ∙ sym (same_gate (flat_bits models run t) gate z.0 z.2)

  pub to_flat_latch : (run : List ℕ → List ℕ → ℕ → Bool) → IsHierarchicalRun models n run → (t : ℕ) → suc t < n → (latch : Latch) → In net.latches latch → flat_bits models run (suc t) latch.output.0 ≡ flat_bits models run t latch.input.0
  to_flat_latch run is_run t in_time latch h =
      let z = zip_left (IsLatchOf models) net.latches (latches models) latch flat.latches h in
      let p = of_instance latch_lines models z.0 z.1 in
      let s = latch_signals p.0 z.0.1 p.2 in
      let rule = is_run.latches z.0.0 p.0 p.1 z.0.1 (contains_from_in (latch_lines p.0) z.0.1 p.2) t in_time in
      ap (λ k. flat_bits models run (suc t) k) z.2.output
      ∙ bit_at run is_run z.0.0 p.0 p.1 z.0.1.output s.0 (suc t) in_time
      ∙ rule
      ∙ sym (bit_at run is_run z.0.0 p.0 p.1 z.0.1.input s.1 t (omega arith))
      ∙ ap (λ k. flat_bits models run t k) (sym z.2.input)

  pub to_gate : (bit : ℕ → ℕ → Bool) → IsRun net n bit → (path : List ℕ) (model : Model) → model_at models path ≡ Some model → (gate : GateLine) → Contains (gate_lines model) gate → (t : ℕ) → t < n → signal_bits models bit path gate.output t ≡ cover_bit gate.cover (map (λ input. signal_bits models bit path input t) gate.inputs)
  to_gate bit is_run path model e gate c t in_time =
      let there = among_instances gate_lines models shallow path model gate e (in_from_contains (gate_lines model) gate c) in
      let z = zip_right (IsGateOf models net) net.gates (gates models) (path, gate) flat.gates there in
      let rule : bit t z.0.output.0 ≡ gate_bit net z.0 (map (λ input. bit t input.0) z.0.inputs) = All-contains (λ g. bit t g.output.0 ≡ gate_bit net g (map (λ input. bit t input.0) g.inputs)) net.gates z.0 (is_run.gates t in_time) (contains_from_in net.gates z.0 z.1) in
      ap (λ k. bit t k) (sym z.2.output) ∙ rule ∙ same_gate (bit t) z.0 (path, gate) z.2

  pub to_latch : (bit : ℕ → ℕ → Bool) → IsRun net n bit → (path : List ℕ) (model : Model) → model_at models path ≡ Some model → (latch : LatchLine) → Contains (latch_lines model) latch → (t : ℕ) → suc t < n → signal_bits models bit path latch.output (suc t) ≡ signal_bits models bit path latch.input t
  to_latch bit is_run path model e latch c t in_time =
      let there = among_instances latch_lines models shallow path model latch e (in_from_contains (latch_lines model) latch c) in
      let z = zip_right (IsLatchOf models) net.latches (latches models) (path, latch) flat.latches there in
      let rule : bit (suc t) z.0.output.0 ≡ bit t z.0.input.0 = All-contains (λ l. bit (suc t) l.output.0 ≡ bit t l.input.0) net.latches z.0 (is_run.latches t in_time) (contains_from_in net.latches z.0 z.1) in
      ap (λ k. bit (suc t) k) (sym z.2.output) ∙ rule ∙ ap (λ k. bit t k) z.2.input

  pub to_formal : (bit : ℕ → ℕ → Bool) (above : List ℕ) (k : ℕ) (formal actual : List ℕ) → bound_to models above k formal ≡ Some actual → (t : ℕ) → t < n → signal_bits models bit (k ∷ above) formal t ≡ signal_bits models bit above actual t
  to_formal bit above k formal actual e t in_time =
      ap (λ o. bit t (position_or_len (λ net. is_same_signal (option_map_or (λ a. home models above a) o (record { path = k ∷ above; signal = formal })) net) (nets models))) e

  pub starts_flat : (reset : Bool) (run : List ℕ → List ℕ → ℕ → Bool) → 0 < n → IsHierarchicalRun models n run → StartsAsAsked models reset run → (latch : Latch) → In net.latches latch → MayStart reset latch (flat_bits models run 0 latch.output.0)
  starts_flat reset run some is_run starts latch h =
      let z = zip_left (IsLatchOf models) net.latches (latches models) latch flat.latches h in
      let p = of_instance latch_lines models z.0 z.1 in
      let s = latch_signals p.0 z.0.1 p.2 in
      let same : flat_bits models run 0 latch.output.0 ≡ run z.0.0 z.0.1.output 0 = ap (λ k. flat_bits models run 0 k) z.2.output ∙ bit_at run is_run z.0.0 p.0 p.1 z.0.1.output s.0 0 some in
      λ asked.
      let rule = starts z.0.0 p.0 p.1 z.0.1 (contains_from_in (latch_lines p.0) z.0.1 p.2) asked in
      subst (λ i. IsInitial i (flat_bits models run 0 latch.output.0)) (sym z.2.init) (subst (λ b. IsInitial z.0.1.init b) (sym same) rule)

  pub starts_hierarchy : (reset : Bool) (bit : ℕ → ℕ → Bool) → All (λ latch. MayStart reset latch (bit 0 latch.output.0)) net.latches → StartsAsAsked models reset (signal_bits models bit)
  starts_hierarchy reset bit starts path model e latch c asked =
      let there = among_instances latch_lines models shallow path model latch e (in_from_contains (latch_lines model) latch c) in
      let z = zip_right (IsLatchOf models) net.latches (latches models) (path, latch) flat.latches there in
      let rule : MayStart reset z.0 (bit 0 z.0.output.0) = All-contains (λ l. MayStart reset l (bit 0 l.output.0)) net.latches z.0 starts (contains_from_in net.latches z.0 z.1) in
      subst (λ i. IsInitial i (signal_bits models bit path latch.output 0)) z.2.init (subst (λ k. IsInitial z.0.init (bit 0 k)) z.2.output (rule asked))
