-- The refusals that need the numbers of nets.
use Rattle.std.proofs.Common.{◌≡◌, ◌≢◌, true≢false, ℕ, zero, suc, ◌<◌, Bool, true, false, not, cond, ◌||◌, List, [], ◌∷◌, ◌++◌, map, length, replicate, get_or, Option, None, Some, slice_get, arith, refl, sym, ap, ◌∙◌, subst, inl, inr}
use Rattle.std.specs.Prelude.{All, filter_map, find, flat_map, nat_eq, option_map, option_to_list, slice_index_or, slice_set}
use Rattle.std.specs.Bool.{beq}
use Rattle.std.specs.List.{AllZip, list_any, cons_option}
use Rattle.std.specs.Option.{option_or}
use Rattle.std.proofs.lemmas.Bool.Decides.{Decides-eqb}
use Rattle.std.proofs.lemmas.List.{get_or-map, get_or-set_other, get_or-set_same, length-map, length-set}
use Rattle.ste_base.specs.declared.id.NodeId.{NodeId}
use Rattle.net_core.specs.declared.cover.Cover.{Cover}
use Rattle.blif_syntax.specs.declared.models.Model.{Model}
use Rattle.hierarchy.specs.declared.fault.NetFault.{NetFault}
use Rattle.hierarchy.specs.declared.fault.NetFault.TheVariants.{DrivenTwice, MixedClocks}
use Rattle.hierarchy.specs.Faults.{Else, HasDrivenTwice, HasMixedClocks, IsFree, are_apart, control_net, driven_twice, mixed_clocks, type_of}
use Rattle.hierarchy.proofs.Refused.{else_free}
use Rattle.blif_syntax.specs.declared.models.What.{What}
use Rattle.blif_syntax.specs.declared.models.What.TheVariants.{Inputs, Outputs, Clock as ClockItem, Names, Latch as LatchItem, Subckt}
use Rattle.hierarchy.specs.Lines.{DriverLine, LatchLine, driver_lines, driver_of, driver_on, inputs_of, latch_of, numbered_latches, signal_words, signals}
use Rattle.hierarchy.specs.Instances.{had_by, in_instances, instances, model_at}
use Rattle.hierarchy.specs.Sizes.{IsShallow}
use Rattle.hierarchy.specs.Names.{name_at, own_name}
use Rattle.hierarchy.specs.Nets.{InstanceSignal, drivers, home, input_numbers, is_same_signal, nets, number_at}
use Rattle.hierarchy.proofs.Members.{In, filter_map_in, found, in_append_right}
use Rattle.instances.proofs.Homes.{at_number, home_is_net, is_signal, signal_itself, signal_same}
use Rattle.flat_net.specs.private.Passes.{AreInstances, Instance, IsInstance, node_in}
use Rattle.flat_net.proofs.Flattened.{input_signal, node_is, top_inputs, zip_flat_map}
use Rattle.flat_net.specs.declared.clocks.Clock.{Clock}
use Rattle.flat_net.specs.declared.clocks.Clocks.{Clocks}
use Rattle.flat_net.specs.private.Drivers.{Driver, clock_at, clocks_in, clocks_with, driver_at, drivers_in, driven_fault, marks_with, first_mixed, mixed_fault, no_clocks, first_driven_twice}

-- the driver is that of a line in an instance
record IsDriver (models : List Model) (names : List (List ℕ)) (driver : Driver) (at : List ℕ × DriverLine) : Type 0 where
  line : driver.line ≡ at.1.line
  net : driver.net ≡ number_at models at.0 at.1.output
  low : driver.net < length names
  name : slice_index_or names driver.net [] ≡ name_at models at.0 at.1.output

-- the marks are those of these nets
abbrev AreMarks : ℕ → List Bool → List ℕ → Type 0
AreMarks count marks driven = (length marks ≡ count) × ((k : ℕ) → k < count → slice_index_or marks k false ≡ list_any (nat_eq k) driven)

same_number : (k n : ℕ) → nat_eq k n ≡ true → k ≡ n
same_number k n e = (Decides-eqb k n).0 e

itself : (k : ℕ) → nat_eq k k ≡ true
itself k = (Decides-eqb k k).1 refl

differ : (k n : ℕ) → nat_eq k n ≡ false → k ≢ n
differ k n e same = absurd (true≢false (sym (subst (λ m. nat_eq k m ≡ true) same (itself k)) ∙ e))

-- a mark more
set_mark : (marks : List Bool) (n k : ℕ) → n < length marks → slice_index_or (slice_set marks n true) k false ≡ (nat_eq k n || slice_index_or marks k false)
set_mark marks n k low = by (nat_eq k n) refl
  where
    by : (b : Bool) → nat_eq k n ≡ b → slice_index_or (slice_set marks n true) k false ≡ (b || slice_index_or marks k false)
    by true e = ap (λ j. get_or (slice_set marks n true) j false) (same_number k n e) ∙ get_or-set_same marks n true false low
    by false e = get_or-set_other marks n k true false (differ k n e)

one_mark : (count : ℕ) (marks : List Bool) (driven : List ℕ) (n : ℕ) → n < count → AreMarks count marks driven → AreMarks count (slice_set marks n true) (n ∷ driven)
one_mark count marks driven n low h = (length-set marks n true ∙ h.0, λ k low'. set_mark marks n k (let l = h.0 in omega (arith, l, low)) ∙ ap (λ b. nat_eq k n || b) (h.1 k low'))

marked_is : (count : ℕ) (nodes : List NodeId) (marks : List Bool) → length marks ≡ count → All (λ node. node.0 < count) nodes → (length (marks_with marks nodes) ≡ count) × ((k : ℕ) → slice_index_or (marks_with marks nodes) k false ≡ (list_any (nat_eq k) (map (λ (node : NodeId). node.0) nodes) || slice_index_or marks k false))
marked_is count [] marks long low = (long, λ k. refl)
marked_is count (node ∷ nodes) marks long low =
    let here : node.0 < count = low 0 node (omega arith) in
    let r = marked_is count nodes (slice_set marks node.0 true) (length-set marks node.0 true ∙ long) (λ k d h. low (suc k) d (omega arith)) in (
      r.0,
      λ k. r.1 k ∙ ap (λ b. list_any (nat_eq k) (map (λ (node : NodeId). node.0) nodes) || b) (set_mark marks node.0 k (omega (arith, here, long)))
          ∙ turn (list_any (nat_eq k) (map (λ (node : NodeId). node.0) nodes)) (nat_eq k node.0) (slice_index_or marks k false),
    )
  where
    turn : (a b c : Bool) → (a || (b || c)) ≡ ((b || a) || c)
    turn true true c = refl
    turn true false c = refl
    turn false true c = refl
    turn false false c = refl

no_marks : (count k : ℕ) → slice_index_or (replicate count false) k false ≡ false
no_marks zero k = refl
no_marks (suc count) zero = refl
no_marks (suc count) (suc k) = no_marks count k

first_marks : (count : ℕ) (nodes : List NodeId) → All (λ node. node.0 < count) nodes → AreMarks count (marks_with (replicate count false) nodes) (map (λ (node : NodeId). node.0) nodes)
first_marks count nodes low =
    let r = marked_is count nodes (replicate count false) (length-replicate count) low in
    (r.0, λ k low'. r.1 k ∙ ap (λ b. list_any (nat_eq k) (map (λ (node : NodeId). node.0) nodes) || b) (no_marks count k) ∙ last (list_any (nat_eq k) (map (λ (node : NodeId). node.0) nodes)))
  where
    length-replicate : (n : ℕ) → length (replicate n false) ≡ n
    length-replicate zero = refl
    length-replicate (suc n) = ap suc (length-replicate n)

    last : (b : Bool) → (b || false) ≡ b
    last true = refl
    last false = refl

twice_is : (models : List Model) (names : List (List ℕ)) (drivers : List Driver) (ats : List (List ℕ × DriverLine)) (marks : List Bool) (driven : List ℕ) → AreMarks (length names) marks driven → AllZip (IsDriver models names) drivers ats → option_map (driven_fault names) (first_driven_twice marks drivers) ≡ driven_twice models driven ats
twice_is models names [] [] marks driven m z = refl
twice_is models names [] (at ∷ ats) marks driven m z = absurd z
twice_is models names (d ∷ drivers) [] marks driven m z = absurd z
twice_is models names (d ∷ drivers) (at ∷ ats) marks driven m z =
    let tested : slice_index_or marks d.net false ≡ list_any (nat_eq (number_at models at.0 at.1.output)) driven = m.1 d.net z.0.low ∙ ap (λ n. list_any (nat_eq n) driven) z.0.net in
    let fault : driven_fault names d ≡ DrivenTwice at.1.line (name_at models at.0 at.1.output) = ap (λ l. DrivenTwice l (slice_index_or names d.net [])) z.0.line ∙ ap (λ n. DrivenTwice at.1.line n) z.0.name in
    let again = twice_is models names drivers ats (slice_set marks d.net true) (number_at models at.0 at.1.output ∷ driven) (subst (λ n. AreMarks (length names) (slice_set marks d.net true) (n ∷ driven)) z.0.net (one_mark (length names) marks driven d.net z.0.low m)) z.1 in
    by (slice_index_or marks d.net false) (list_any (nat_eq (number_at models at.0 at.1.output)) driven) tested fault again
  where
    by : (a b : Bool) → a ≡ b → driven_fault names d ≡ DrivenTwice at.1.line (name_at models at.0 at.1.output) → option_map (driven_fault names) (first_driven_twice (slice_set marks d.net true) drivers) ≡ driven_twice models (number_at models at.0 at.1.output ∷ driven) ats → option_map (driven_fault names) (cond a (Some d) (first_driven_twice (slice_set marks d.net true) drivers)) ≡ cond b (Some (DrivenTwice at.1.line (name_at models at.0 at.1.output))) (driven_twice models (number_at models at.0 at.1.output ∷ driven) ats)
    by true true e fault again = ap Some fault
    by false false e fault again = again
    by true false e fault again = absurd (true≢false e)
    by false true e fault again = absurd (true≢false (sym e))

-- ---- clocks
record IsClock (models : List Model) (names : List (List ℕ)) (clock : Clock) (at : List ℕ × (ℕ × LatchLine)) : Type 0 where
  line : clock.line ≡ at.1.0
  rising : clock.rising ≡ type_of at
  control : clock.control ≡ control_net models at
  name : slice_index_or names clock.net [] ≡ name_at models at.0 at.1.1.output

first_of : {A X : Type 0} (f : A → Option X) (a : A) (rest : List A) → slice_get (filter_map f (a ∷ rest)) 0 ≡ option_or (f a) (slice_get (filter_map f rest) 0)
first_of f a rest = by (f a)
  where
    by : (o : Option _) → slice_get (cons_option o (filter_map f rest)) 0 ≡ option_or o (slice_get (filter_map f rest) 0)
    by None = refl
    by (Some x) = refl

-- what differs from what came before differs from the first
apart_first : {X : Type 0} (same : X → X → Bool) → ((x : X) → same x x ≡ true) → (before its later : Option X) → are_apart same before its ≡ are_apart same (option_or before (option_or its later)) its
apart_first same self (Some b) its later = refl
apart_first same self None None None = refl
apart_first same self None None (Some l) = refl
apart_first same self None (Some x) later = ap not (sym (self x))

or_assoc : {X : Type 0} (a b c : Option X) → option_or (option_or a b) c ≡ option_or a (option_or b c)
or_assoc (Some a) b c = refl
or_assoc None b c = refl

same_bit : (b : Bool) → beq b b ≡ true
same_bit true = refl
same_bit false = refl

abbrev mixed_at : List Model → List ℕ × (ℕ × LatchLine) → NetFault
mixed_at models at = MixedClocks at.1.0 (name_at models at.0 at.1.1.output)

mixed_is : (models : List Model) (names : List (List ℕ)) (clocks : List Clock) (ats : List (List ℕ × (ℕ × LatchLine))) (before : Clocks) → AllZip (IsClock models names) clocks ats →
    option_map (mixed_fault names) (first_mixed before clocks) ≡ option_map (λ at. MixedClocks at.1.0 (name_at models at.0 at.1.1.output)) (find (λ at. are_apart beq (option_or before.rising (slice_get (filter_map type_of ats) 0)) (type_of at) || are_apart nat_eq (option_or before.control (slice_get (filter_map (control_net models) ats) 0)) (control_net models at)) ats)
mixed_is models names [] [] before z = refl
mixed_is models names [] (at ∷ ats) before z = absurd z
mixed_is models names (c ∷ clocks) [] before z = absurd z
mixed_is models names (c ∷ clocks) (at ∷ ats) before z =
    let types = first_of type_of at ats in
    let controls = first_of (control_net models) at ats in
    let test_type : are_apart beq before.rising c.rising ≡ are_apart beq (option_or before.rising (slice_get (filter_map type_of (at ∷ ats)) 0)) (type_of at) =
    ap (λ o. are_apart beq before.rising o) z.0.rising ∙ apart_first beq same_bit before.rising (type_of at) (slice_get (filter_map type_of ats) 0) ∙ ap (λ o. are_apart beq (option_or before.rising o) (type_of at)) (sym types) in
    let test_control : are_apart nat_eq before.control c.control ≡ are_apart nat_eq (option_or before.control (slice_get (filter_map (control_net models) (at ∷ ats)) 0)) (control_net models at) =
    ap (λ o. are_apart nat_eq before.control o) z.0.control ∙ apart_first nat_eq itself before.control (control_net models at) (slice_get (filter_map (control_net models) ats) 0) ∙ ap (λ o. are_apart nat_eq (option_or before.control o) (control_net models at)) (sym controls) in
    let fault : mixed_fault names c ≡ MixedClocks at.1.0 (name_at models at.0 at.1.1.output) = ap (λ l. MixedClocks l (slice_index_or names c.net [])) z.0.line ∙ ap (λ n. MixedClocks at.1.0 n) z.0.name in
    let again = mixed_is models names clocks ats (clocks_with before c) z.1 in
    let next_type : option_or (option_or before.rising c.rising) (slice_get (filter_map type_of ats) 0) ≡ option_or before.rising (slice_get (filter_map type_of (at ∷ ats)) 0) =
    or_assoc before.rising c.rising (slice_get (filter_map type_of ats) 0) ∙ ap (λ o. option_or before.rising (option_or o (slice_get (filter_map type_of ats) 0))) z.0.rising ∙ ap (λ o. option_or before.rising o) (sym types) in
    let next_control : option_or (option_or before.control c.control) (slice_get (filter_map (control_net models) ats) 0) ≡ option_or before.control (slice_get (filter_map (control_net models) (at ∷ ats)) 0) =
    or_assoc before.control c.control (slice_get (filter_map (control_net models) ats) 0) ∙ ap (λ o. option_or before.control (option_or o (slice_get (filter_map (control_net models) ats) 0))) z.0.control ∙ ap (λ o. option_or before.control o) (sym controls) in
    by (option_or before.rising (slice_get (filter_map type_of (at ∷ ats)) 0)) (option_or before.control (slice_get (filter_map (control_net models) (at ∷ ats)) 0)) (are_apart beq before.rising c.rising) (are_apart nat_eq before.control c.control) test_type test_control fault
    (again ∙ ap (λ o. option_map (mixed_at models) (find (λ a. are_apart beq o (type_of a) || are_apart nat_eq (option_or (option_or before.control c.control) (slice_get (filter_map (control_net models) ats) 0)) (control_net models a)) ats)) next_type
    ∙ ap (λ o. option_map (mixed_at models) (find (λ a. are_apart beq (option_or before.rising (slice_get (filter_map type_of (at ∷ ats)) 0)) (type_of a) || are_apart nat_eq o (control_net models a)) ats)) next_control)
  where
    by : (type : Option Bool) (control : Option ℕ) (a b : Bool) → a ≡ are_apart beq type (type_of at) → b ≡ are_apart nat_eq control (control_net models at) → mixed_fault names c ≡ MixedClocks at.1.0 (name_at models at.0 at.1.1.output) →
        option_map (mixed_fault names) (first_mixed (clocks_with before c) clocks) ≡ option_map (mixed_at models) (find (λ x. are_apart beq type (type_of x) || are_apart nat_eq control (control_net models x)) ats) →
        option_map (mixed_fault names) (cond (a || b) (Some c) (first_mixed (clocks_with before c) clocks)) ≡ option_map (mixed_at models) (cond (are_apart beq type (type_of at) || are_apart nat_eq control (control_net models at)) (Some at) (find (λ x. are_apart beq type (type_of x) || are_apart nat_eq control (control_net models x)) ats))
    by type control a b e f fault again = on (a || b) (are_apart beq type (type_of at) || are_apart nat_eq control (control_net models at)) (ap (λ x. x || b) e ∙ ap (λ x. are_apart beq type (type_of at) || x) f) fault again
      where
        on : (p q : Bool) → p ≡ q → mixed_fault names c ≡ MixedClocks at.1.0 (name_at models at.0 at.1.1.output) →
            option_map (mixed_fault names) (first_mixed (clocks_with before c) clocks) ≡ option_map (mixed_at models) (find (λ x. are_apart beq type (type_of x) || are_apart nat_eq control (control_net models x)) ats) →
            option_map (mixed_fault names) (cond p (Some c) (first_mixed (clocks_with before c) clocks)) ≡ option_map (mixed_at models) (cond q (Some at) (find (λ x. are_apart beq type (type_of x) || are_apart nat_eq control (control_net models x)) ats))
        on true true e fault again = ap Some fault
        on false false e fault again = again
        on true false e fault again = absurd (true≢false e)
        on false true e fault again = absurd (true≢false (sym e))

-- ---- the words of lines
driver_word : (line : ℕ) (what : What) (driver : DriverLine) → driver_on line what ≡ Some driver → In (signal_words what) driver.output
driver_word line (Names inputs output cover) driver e = let same : output ≡ driver.output = cc in subst (λ x. In (inputs ++ output ∷ []) x) same (in_append_right inputs (output ∷ []) output (inl refl))
driver_word line (LatchItem input output kind control init) driver e = let same : output ≡ driver.output = cc in inr (inl same)
driver_word line (Inputs _) driver e = absurd (cc)
driver_word line (Outputs _) driver e = absurd (cc)
driver_word line (ClockItem _) driver e = absurd (cc)
driver_word line (Subckt _ _) driver e = absurd (cc)

driver_signal : (model : Model) (driver : DriverLine) → In (driver_lines model) driver → In (signals model) driver.output
driver_signal model driver h = let r = filter_map_in driver_of model.items driver h in is_signal model r.0 driver.output r.1 (driver_word r.0.line r.0.what driver r.2)

latch_words : (what : What) (latch : LatchLine) → latch_of what ≡ Some latch → (In (signal_words what) latch.output) × ((word : List ℕ) → latch.control ≡ Some word → In (signal_words what) word)
latch_words (LatchItem input output kind control init) latch e =
    let same : output ≡ latch.output = cc in
    let its : control ≡ latch.control = cc in
    (inr (inl same), λ word is. inr (inr (subst (λ o. In (option_to_list o) word) (sym (its ∙ is)) (inl refl))))
latch_words (Names _ _ _) latch e = absurd (cc)
latch_words (Inputs _) latch e = absurd (cc)
latch_words (Outputs _) latch e = absurd (cc)
latch_words (ClockItem _) latch e = absurd (cc)
latch_words (Subckt _ _) latch e = absurd (cc)

numbered_signals : (model : Model) (at : ℕ × LatchLine) → In (numbered_latches model) at → (In (signals model) at.1.output) × ((word : List ℕ) → at.1.control ≡ Some word → In (signals model) word)
numbered_signals model at h =
    let r = filter_map_in (λ item. option_map (λ latch. (item.line, latch)) (latch_of item.what)) model.items at h in
    let l = its r.0.line (latch_of r.0.what) r.2 in
    let w = latch_words r.0.what at.1 l in
    (is_signal model r.0 at.1.output r.1 w.0, λ word e. is_signal model r.0 word r.1 (w.1 word e))
  where
    its : (line : ℕ) (o : Option LatchLine) → option_map (λ latch. (line, latch)) o ≡ Some at → o ≡ Some at.1
    its line None e = absurd (cc)
    its line (Some latch) e = let same : latch ≡ at.1 = ap (λ p. p.1) (one_some e) in ap Some same
      where
        one_some : {X : Type 0} {x y : X} → Some x ≡ Some y → x ≡ y
        one_some e = cc

module _ (models : List Model) (shallow : IsShallow models) (names : List (List ℕ)) (named : names ≡ map own_name (nets models)) where
  count : length names ≡ length (nets models)
  count = ap (λ l. length l) named ∙ length-map (nets models) own_name

  number_low : (path : List ℕ) (model : Model) (signal : List ℕ) → model_at models path ≡ Some model → In (signals model) signal → number_at models path signal < length (nets models)
  number_low path model signal has h =
      let p = home models path signal in
      found (λ net. is_same_signal p net) p (signal_itself p) (λ net same. signal_same p net same) (nets models) (home_is_net models shallow path model signal has h)

  name_is : (path : List ℕ) (model : Model) (signal : List ℕ) → model_at models path ≡ Some model → In (signals model) signal → slice_index_or names (number_at models path signal) [] ≡ name_at models path signal
  name_is path model signal has h =
      let d : InstanceSignal = record { path = path; signal = signal } in
      ap (λ l. slice_index_or l (number_at models path signal) []) named
      ∙ get_or-map own_name (nets models) (number_at models path signal) d [] (number_low path model signal has h)
      ∙ ap own_name (at_number models shallow path model signal d has h)

  module _ (covers : List Cover) (instance : Instance) (path : List ℕ) (is : IsInstance models covers instance path) where
    drivers_zip : (lines : List DriverLine) → ((line : DriverLine) → In lines line → In (driver_lines instance.model) line) → AllZip (IsDriver models names) (map (driver_at instance) lines) (map (λ line. (path, line)) lines)
    drivers_zip [] within = tt
    drivers_zip (line ∷ lines) within =
        let word = driver_signal instance.model line (within line (inl refl)) in
        let node = node_is models covers instance path is line.output word in
        let low = number_low path instance.model line.output is.model word in (
          record {
            line = refl;
            net = node;
            low = let c = count in omega (arith, node, low, c);
            name = ap (λ n. slice_index_or names n []) node ∙ name_is path instance.model line.output is.model word;
          },
          drivers_zip lines (λ l h. within l (inr h)),
        )

    instance_drivers : AllZip (IsDriver models names) (drivers_in instance) (map (λ line. (path, line)) (had_by driver_lines (model_at models path)))
    instance_drivers = subst (λ m. AllZip (IsDriver models names) (drivers_in instance) (map (λ line. (path, line)) (had_by driver_lines m))) (sym is.model) (drivers_zip (driver_lines instance.model) (λ l h. h))

    control_is : (control : Option (List ℕ)) → ((word : List ℕ) → control ≡ Some word → In (signals instance.model) word) → option_map (λ word. (node_in instance word).0) control ≡ option_map (λ word. number_at models path word) control
    control_is None within = refl
    control_is (Some word) within = ap Some (node_is models covers instance path is word (within word refl))

    clocks_zip : (lines : List (ℕ × LatchLine)) → ((line : ℕ × LatchLine) → In lines line → In (numbered_latches instance.model) line) → AllZip (IsClock models names) (map (clock_at instance) lines) (map (λ line. (path, line)) lines)
    clocks_zip [] within = tt
    clocks_zip (line ∷ lines) within =
        let words = numbered_signals instance.model line (within line (inl refl)) in
        let node = node_is models covers instance path is line.1.output words.0 in (
          record {
            line = refl;
            rising = refl;
            control = control_is line.1.control words.1;
            name = ap (λ n. slice_index_or names n []) node ∙ name_is path instance.model line.1.output is.model words.0;
          },
          clocks_zip lines (λ l h. within l (inr h)),
        )

    instance_clocks : AllZip (IsClock models names) (clocks_in instance) (map (λ line. (path, line)) (had_by numbered_latches (model_at models path)))
    instance_clocks = subst (λ m. AllZip (IsClock models names) (clocks_in instance) (map (λ line. (path, line)) (had_by numbered_latches m))) (sym is.model) (clocks_zip (numbered_latches instance.model) (λ l h. h))

  module _ (covers : List Cover) (all : List Instance) (are : AreInstances models covers all) where
    -- the drivers that are found twice are those of the hierarchy
    pub driven_is : (first : Instance) → IsInstance models covers first [] → (inputs : List NodeId) → inputs ≡ map (node_in first) (inputs_of first.model) →
        option_map (driven_fault names) (first_driven_twice (marks_with (replicate (length names) false) inputs) (flat_map drivers_in all)) ≡ driven_twice models (input_numbers models) (drivers models)
    driven_is first is inputs ins =
        let flat = zip_flat_map (IsInstance models covers) (IsDriver models names) drivers_in (λ path. map (λ line. (path, line)) (had_by driver_lines (model_at models path))) (λ instance path at. instance_drivers covers instance path at) all (instances models) are in
        let numbers : map (λ (node : NodeId). node.0) inputs ≡ input_numbers models = ap (λ l. map (λ (node : NodeId). node.0) l) ins ∙ top_inputs models covers first is in
        let marks = first_marks (length names) inputs (low_inputs inputs first is ins) in
        twice_is models names (flat_map drivers_in all) (drivers models) (marks_with (replicate (length names) false) inputs) (input_numbers models)
        (subst (λ l. AreMarks (length names) (marks_with (replicate (length names) false) inputs) l) numbers marks) flat
      where
        low_inputs : (inputs : List NodeId) (first : Instance) → IsInstance models covers first [] → inputs ≡ map (node_in first) (inputs_of first.model) → All (λ node. node.0 < length names) inputs
        low_inputs inputs first is ins = subst (λ l. All (λ (node : NodeId). node.0 < length names) l) (sym ins) (each (inputs_of first.model) (λ word h. input_signal first.model word h))
          where
            each : (words : List (List ℕ)) → ((word : List ℕ) → In words word → In (signals first.model) word) → All (λ (node : NodeId). node.0 < length names) (map (node_in first) words)
            each [] within k d low = absurd (omega arith)
            each (word ∷ words) within zero d low =
                let w = within word (inl refl) in
                let node = node_is models covers first [] is word w in
                let l = number_low [] first.model word is.model w in
                let c = count in omega (arith, node, l, c)
            each (word ∷ words) within (suc k) d low = each words (λ x h. within x (inr h)) k d (omega arith)

    -- the latches that are mixed are those of the hierarchy
    pub mixed_clocks_is : option_map (mixed_fault names) (first_mixed no_clocks (flat_map clocks_in all)) ≡ mixed_clocks models (in_instances numbered_latches models)
    mixed_clocks_is =
        mixed_is models names (flat_map clocks_in all) (in_instances numbered_latches models) no_clocks
        (zip_flat_map (IsInstance models covers) (IsClock models names) clocks_in (λ path. map (λ line. (path, line)) (had_by numbered_latches (model_at models path))) (λ instance path at. instance_clocks covers instance path at) all (instances models) are)

-- what the two refusals say of the hierarchy
module _ (models : List Model) (covers : List Cover) (all : List Instance) (first : Instance) (names : List (List ℕ)) (inputs : List NodeId)
    (ins : inputs ≡ map (node_in first) (inputs_of first.model)) (shallow : IsShallow models) (named : names ≡ map own_name (nets models)) (are : AreInstances models covers all) (is : IsInstance models covers first []) where
  pub driven_free : first_driven_twice (marks_with (replicate (length names) false) inputs) (flat_map drivers_in all) ≡ None → IsFree (HasDrivenTwice models)
  driven_free none fault h = let e = driven_is models shallow names named covers all are first is inputs ins in let no = ap (λ o. option_map (driven_fault names) o) none in absurd (apart (sym no ∙ e ∙ h))
    where
      apart : {X : Type 0} {x : X} → None ≡ Some x → ⊥
      apart e = cc

  pub driven_found : (fault : NetFault) → option_map (driven_fault names) (first_driven_twice (marks_with (replicate (length names) false) inputs) (flat_map drivers_in all)) ≡ Some fault → Else (HasDrivenTwice models) (HasMixedClocks models) fault
  driven_found fault e = inl (sym (driven_is models shallow names named covers all are first is inputs ins) ∙ e)

  pub mixed_free : first_driven_twice (marks_with (replicate (length names) false) inputs) (flat_map drivers_in all) ≡ None → first_mixed no_clocks (flat_map clocks_in all) ≡ None → IsFree (Else (HasDrivenTwice models) (HasMixedClocks models))
  mixed_free none same = else_free (HasDrivenTwice models) (HasMixedClocks models) (driven_free none)
      (λ fault h. let e = mixed_clocks_is models shallow names named covers all are in let no = ap (λ o. option_map (mixed_fault names) o) same in absurd (apart (sym no ∙ e ∙ h)))
    where
      apart : {X : Type 0} {x : X} → None ≡ Some x → ⊥
      apart e = cc

  pub mixed_found : first_driven_twice (marks_with (replicate (length names) false) inputs) (flat_map drivers_in all) ≡ None → (fault : NetFault) → option_map (mixed_fault names) (first_mixed no_clocks (flat_map clocks_in all)) ≡ Some fault → Else (HasDrivenTwice models) (HasMixedClocks models) fault
  mixed_found none fault e = inr (driven_free none, sym (mixed_clocks_is models shallow names named covers all are) ∙ e)
