-- The samples: expressions give way to their functions, and then the numbers are counted.
use Rattle.std.proofs.Common.{◌≡◌, ℕ, zero, suc, Bool, true, false, not, List, [], ◌∷◌, ◌++◌, map, drop, length, ◌<◌, arith, refl, sym, ◌∙◌, ap}
use Rattle.std.specs.List.{list_all}
use Rattle.std.specs.Prelude.{IsTrue, ◌&&◌, ◌||◌}
use Rattle.std.proofs.lemmas.List.Elements.{All-cons, All-nil, All-same}
use Rattle.bool_expr.specs.declared.expr.Expr.{Expr}
use Rattle.bool_expr.specs.declared.expr.Expr.TheOpen.{Const, Var}
use Rattle.bool_expr.specs.declared.expr.Expr.TheFolds.{fold-roll-Expr}
use Rattle.bool_expr.specs.declared.expr.Expr.TheVariants as tree
use Rattle.bool_expr.specs.Value.{value_of, value_step}
use Rattle.dd_nodes.specs.Functions.{node_count}
use Rattle.ste_base.specs.declared.id.NodeId.{NodeId}
use Rattle.net_core.specs.declared.cover.Lit.TheVariants.{Zero, One, Any}
use Rattle.net_core.specs.declared.raw.Gate.{Gate}
use Rattle.net_core.specs.declared.raw.Init.TheVariants as init
use Rattle.net_core.specs.declared.raw.Latch.{Latch}
use Rattle.net_core.specs.declared.raw.RawNet.{RawNet}
use Rattle.net_core.specs.Cover.{some_matches}
use Rattle.net_core.specs.Run.{MayStart, gate_bit}
use Rattle.ste_base.specs.Functions.{Function}
use Rattle.net_core.specs.Work.{SymbolicCut, always, conjunction, negation, sum, sums}
use Rattle.ste_model.specs.Expressions.{SymbolicValue, joined_parts, symbolic_step, symbolic_value}
use Rattle.ste_model.specs.Holds.{IsTaskRun}
use Rattle.ste_model.specs.Samples.{and_gate, id_of, one, variable}
use Rattle.ste_model.specs.Work.{over_times}
use Rattle.exact_model.specs.ExactSamples.{ExactSamplesAreCounted, IsAnd, IsNot, free_bits, inverter, inverter_bits, nor_bits, nor_gate, one_latch, variable_function, or_bits, or_gate, product_bits, reset_bits, twice_bits}
use Rattle.exact_model.specs.ExactWork.{bit_functions, differs, gates_functions, is_broken, some_choices}

-- the exact work functions, from those of the quintuples and from what is asked time by time
abbrev written : RawNet → ℕ → ℕ → ℕ → (ℕ → ℕ → Function) → List Function → List Function → (ℕ → List SymbolicCut) → (ℕ → List SymbolicCut) → List Function
written net vars w n bit ant_work con_work ant con =
    let broken : (ℕ → List SymbolicCut) → List Function = λ cuts. over_times (λ t. map (is_broken (bit t)) (cuts t)) n in
    let differ : (ℕ → List SymbolicCut) → List Function = λ cuts. over_times (λ t. map (differs (bit t)) (cuts t)) n in
    let met : Function = negation (sum (broken ant)) in
    let counter : Function = conjunction met (sum (broken con)) in
    let some : Function = some_choices vars w met in
    ant_work ++ (con_work
    ++ (over_times (λ t. bit_functions (bit t) net.nets ++ gates_functions net (bit t) net.gates) n
    ++ (differ ant ++ (broken ant ++ (differ con ++ (broken con ++ (sums (broken ant) ++ (sums (broken con)
    ++ met ∷ counter ∷ some_choices vars w counter ∷ some ∷ negation some ∷ []))))))))

-- the values of the samples' expressions: 1, p, q, !p, p & q
abbrev opposite_value : SymbolicValue → SymbolicValue
opposite_value part = record { value = negation part.value; work = part.work ++ negation part.value ∷ [] }

abbrev works : ℕ → SymbolicValue
works zero = record { value = always; work = always ∷ [] }
works (suc zero) = record { value = variable_function 0; work = variable_function 0 ∷ [] }
works (suc (suc zero)) = record { value = variable_function 1; work = variable_function 1 ∷ [] }
works (suc (suc (suc zero))) = opposite_value (record { value = variable_function 0; work = variable_function 0 ∷ [] })
works (suc (suc (suc (suc n)))) = joined_parts conjunction always (record { value = variable_function 0; work = variable_function 0 ∷ [] } ∷ record { value = variable_function 1; work = variable_function 1 ∷ [] } ∷ [])

abbrev functions : ℕ → Function
functions zero = always
functions (suc zero) = variable_function 0
functions (suc (suc zero)) = variable_function 1
functions (suc (suc (suc zero))) = negation (variable_function 0)
functions (suc (suc (suc (suc n)))) = λ bits. list_all (λ b. b) (variable_function 0 bits ∷ variable_function 1 bits ∷ [])

one_works : symbolic_value one ≡ works 0
one_works = fold-roll-Expr SymbolicValue symbolic_step (Const true)

p_works : symbolic_value (variable 0) ≡ works 1
p_works = fold-roll-Expr SymbolicValue symbolic_step (Var (record { 0 = 0 }))

q_works : symbolic_value (variable 1) ≡ works 2
q_works = fold-roll-Expr SymbolicValue symbolic_step (Var (record { 0 = 1 }))

one_is : (bits : List Bool) → value_of one bits ≡ functions 0 bits
one_is bits = fold-roll-Expr Bool (value_step bits) (Const true)

p_is : (bits : List Bool) → value_of (variable 0) bits ≡ functions 1 bits
p_is bits = fold-roll-Expr Bool (value_step bits) (Var (record { 0 = 0 }))

q_is : (bits : List Bool) → value_of (variable 1) bits ≡ functions 2 bits
q_is bits = fold-roll-Expr Bool (value_step bits) (Var (record { 0 = 1 }))

not_works : (e : Expr) → IsNot e (variable 0) → symbolic_value e ≡ works 3
not_works e (box, is, same) =
    ap symbolic_value (is ∙ sym (tree.rolls-Not box)) ∙ fold-roll-Expr SymbolicValue symbolic_step _ ∙ ap opposite_value (ap symbolic_value same ∙ p_works)

not_is : (e : Expr) → IsNot e (variable 0) → (bits : List Bool) → value_of e bits ≡ functions 3 bits
not_is e (box, is, same) bits =
    ap (λ x. value_of x bits) (is ∙ sym (tree.rolls-Not box)) ∙ fold-roll-Expr Bool (value_step bits) _ ∙ ap not (ap (λ x. value_of x bits) same ∙ p_is bits)

two : {X : Type 0} (a b c d : X) → a ≡ c → b ≡ d → a ∷ b ∷ [] ≡ c ∷ d ∷ []
two a b c d e f = ap (λ x. x ∷ b ∷ []) e ∙ ap (λ x. c ∷ x ∷ []) f

and_works : (e : Expr) → IsAnd e (variable 0) (variable 1) → symbolic_value e ≡ works 4
and_works e (parts, is, same) =
    ap symbolic_value (is ∙ sym (tree.rolls-All parts)) ∙ fold-roll-Expr SymbolicValue symbolic_step _
    ∙ ap (joined_parts conjunction always) (ap (map symbolic_value) same ∙ two (symbolic_value (variable 0)) (symbolic_value (variable 1)) (works 1) (works 2) p_works q_works)

and_is : (e : Expr) → IsAnd e (variable 0) (variable 1) → (bits : List Bool) → value_of e bits ≡ functions 4 bits
and_is e (parts, is, same) bits =
    ap (λ x. value_of x bits) (is ∙ sym (tree.rolls-All parts)) ∙ fold-roll-Expr Bool (value_step bits) _
    ∙ ap (list_all (λ b. b)) (ap (map (λ x. value_of x bits)) same ∙ two (value_of (variable 0) bits) (value_of (variable 1) bits) (variable_function 0 bits) (variable_function 1 bits) (p_is bits) (q_is bits))

-- the expressions 1, p, q, and one more, which has the values of the n-th
abbrev expression : Expr → ℕ → Expr
expression more zero = one
expression more (suc zero) = variable 0
expression more (suc (suc zero)) = variable 1
expression more (suc (suc (suc n))) = more

abbrev places : ℕ → ℕ → ℕ
places n zero = 0
places n (suc zero) = 1
places n (suc (suc zero)) = 2
places n (suc (suc (suc k))) = n

-- what is counted with the functions is counted with the expressions
by_functions : (v n number : ℕ) (more : Expr) → symbolic_value more ≡ works n → ((bits : List Bool) → value_of more bits ≡ functions n bits) → (list : (ℕ → SymbolicValue) → (ℕ → Function) → List Function)
    → node_count v (list (λ k. works (places n k)) (λ k. functions (places n k))) ≡ number → node_count v (list (λ k. symbolic_value (expression more k)) (λ k. value_of (expression more k))) ≡ number
by_functions v n number more work value list is =
    let all_works : (λ (k : ℕ). symbolic_value (expression more k)) ≡ (λ k. works (places n k)) = λ i k. each_work k i in
    let all_values : (λ (k : ℕ). value_of (expression more k)) ≡ (λ k. functions (places n k)) = λ i k bits. each_value k bits i in
    ap (λ w. node_count v (list w (λ k. value_of (expression more k)))) all_works ∙ ap (λ f. node_count v (list (λ k. works (places n k)) f)) all_values ∙ is
  where
    each_work : (k : ℕ) → symbolic_value (expression more k) ≡ works (places n k)
    each_work zero = one_works
    each_work (suc zero) = p_works
    each_work (suc (suc zero)) = q_works
    each_work (suc (suc (suc k))) = work

    each_value : (k : ℕ) (bits : List Bool) → value_of (expression more k) bits ≡ functions (places n k) bits
    each_value zero = one_is
    each_value (suc zero) = p_is
    each_value (suc (suc zero)) = q_is
    each_value (suc (suc (suc k))) = value

module _ (w : ℕ → SymbolicValue) (f : ℕ → Function) where
  abbrev cut : ℕ → ℕ → ℕ → SymbolicCut
  cut guard node value = record { node = node; guard = f guard; value = f value }

  abbrev quint_work : ℕ → List Function
  quint_work value = (w 0).work ++ ((w value).work ++ [])

  abbrev bound_written : List Function
  bound_written = written inverter 1 1 1 inverter_bits (quint_work 1) (quint_work 3) (λ t. cut 0 0 1 ∷ []) (λ t. cut 0 1 3 ∷ [])

  abbrev unbound_written : List Function
  unbound_written = written inverter 1 1 1 inverter_bits [] (quint_work 3) (λ t. []) (λ t. cut 0 1 3 ∷ [])

  abbrev product_written : List Function
  product_written =
      written (and_gate false) 2 2 1 product_bits ((w 0).work ++ ((w 1).work ++ ((w 0).work ++ ((w 2).work ++ [])))) (quint_work 3)
      (λ t. cut 0 0 1 ∷ cut 0 1 2 ∷ []) (λ t. cut 0 2 3 ∷ [])

  abbrev nor_written : List Function
  nor_written = written nor_gate 1 2 1 nor_bits (quint_work 1) (quint_work 1) (λ t. cut 0 0 1 ∷ []) (λ t. cut 0 2 1 ∷ [])

  abbrev or_written : List Function
  or_written = written or_gate 0 3 1 or_bits [] (quint_work 0) (λ t. []) (λ t. cut 0 3 0 ∷ [])

  abbrev reset_written : List Function
  reset_written = written one_latch 0 1 1 reset_bits [] (quint_work 0) (λ t. []) (λ t. cut 0 1 0 ∷ [])

  abbrev free_written : List Function
  free_written = written one_latch 0 3 2 free_bits [] (quint_work 0) (λ t. []) (λ t. cut 0 1 0 ∷ [])

  abbrev twice_kept : List Function
  twice_kept =
      let d : Function = is_broken (twice_bits 0) (cut 0 0 1) in
      let e : Function = is_broken (twice_bits 0) (cut 0 0 2) in
      let b : Function = is_broken (twice_bits 0) (cut 0 1 1) in
      let met : Function = negation (sum (d ∷ e ∷ [])) in
      some_choices 2 1 (conjunction met (sum (b ∷ []))) ∷ negation (some_choices 2 1 met) ∷ []

-- ---- the bits of the samples

abbrev gate_of : List NodeId → ℕ → Gate
gate_of inputs out = record { inputs = inputs; output = id_of out; cover = 0 }

-- of a net with one gate and without latches
gate_run : (net : RawNet) (gate : Gate) (n : ℕ) (run : ℕ → ℕ → Bool) → net.gates ≡ gate ∷ [] → net.latches ≡ [] → ((t : ℕ) → run t gate.output.0 ≡ gate_bit net gate (map (λ input. run t input.0) gate.inputs)) → IsTaskRun net false n run
gate_run net gate n run gates latches bit = record {
  is_run = record {
    gates = λ t l. All-same (IsBit t) net.gates (gate ∷ []) gates (All-cons (IsBit t) gate [] (bit t) (All-nil (IsBit t)));
    latches = λ t l. All-same (λ (latch : Latch). run (suc t) latch.output.0 ≡ run t latch.input.0) net.latches [] latches (All-nil (λ (latch : Latch). run (suc t) latch.output.0 ≡ run t latch.input.0));
  };
  starts = λ l. All-same (λ (latch : Latch). MayStart false latch (run 0 latch.output.0)) net.latches [] latches (All-nil (λ (latch : Latch). MayStart false latch (run 0 latch.output.0)));
}
  where
    IsBit : ℕ → Gate → Type 0
    IsBit t g = run t g.output.0 ≡ gate_bit net g (map (λ input. run t input.0) g.inputs)

not_is_gate : (b : Bool) → not b ≡ some_matches ((Zero ∷ []) ∷ []) (b ∷ [])
not_is_gate false = refl
not_is_gate true = refl

and_is_gate : (b c : Bool) → b && c ≡ some_matches ((One ∷ One ∷ []) ∷ []) (b ∷ c ∷ [])
and_is_gate false c = refl
and_is_gate true false = refl
and_is_gate true true = refl

nor_is_gate : (b c : Bool) → not (b || c) ≡ not (some_matches ((One ∷ Any ∷ []) ∷ (Any ∷ One ∷ []) ∷ []) (b ∷ c ∷ []))
nor_is_gate false false = refl
nor_is_gate false true = refl
nor_is_gate true false = refl
nor_is_gate true true = refl

or_is_gate : (b c d : Bool) → (b || c) || d ≡ some_matches ((One ∷ Any ∷ Any ∷ []) ∷ (Any ∷ One ∷ Any ∷ []) ∷ (Any ∷ Any ∷ One ∷ []) ∷ []) (b ∷ c ∷ d ∷ [])
or_is_gate true c d = refl
or_is_gate false true d = refl
or_is_gate false false true = refl
or_is_gate false false false = refl

-- what holds of each list of one bit, of two, and so on
listed : (P : List Bool → Type 0) (n : ℕ) → ((bits : List Bool) → length bits ≡ n → (b : Bool) → P (b ∷ bits)) → (bits : List Bool) → length bits ≡ suc n → P bits
listed P n h [] l = absurd (omega arith)
listed P n h (b ∷ bits) l = h bits (omega arith) b

no_bits : (P : List Bool → Type 0) → P [] → (bits : List Bool) → length bits ≡ 0 → P bits
no_bits P h [] l = h
no_bits P h (b ∷ bits) l = absurd (omega arith)

with_one : (P : List Bool → Type 0) → ((b : Bool) → P (b ∷ [])) → (bits : List Bool) → length bits ≡ 1 → P bits
with_one P h = listed P 0 (no_bits (λ bits. (b : Bool) → P (b ∷ bits)) h)

with_two : (P : List Bool → Type 0) → ((b c : Bool) → P (b ∷ c ∷ [])) → (bits : List Bool) → length bits ≡ 2 → P bits
with_two P h = listed P 1 (λ bits l b. with_one (λ cs. P (b ∷ cs)) (h b) bits l)

with_three : (P : List Bool → Type 0) → ((b c d : Bool) → P (b ∷ c ∷ d ∷ [])) → (bits : List Bool) → length bits ≡ 3 → P bits
with_three P h = listed P 2 (λ bits l b. with_two (λ cs. P (b ∷ cs)) (h b) bits l)

with_four : (P : List Bool → Type 0) → ((b c d e : Bool) → P (b ∷ c ∷ d ∷ e ∷ [])) → (bits : List Bool) → length bits ≡ 4 → P bits
with_four P h = listed P 3 (λ bits l b. with_three (λ cs. P (b ∷ cs)) (h b) bits l)

inverter_run : (bits : List Bool) (n : ℕ) → IsTaskRun inverter false n (λ t id. inverter_bits t id bits)
inverter_run bits n = gate_run inverter (gate_of (id_of 0 ∷ []) 1) n (λ t id. inverter_bits t id bits) refl refl (λ t. not_is_gate (variable_function 1 bits))

twice_run : (bits : List Bool) (n : ℕ) → IsTaskRun inverter false n (λ t id. twice_bits t id bits)
twice_run bits n = gate_run inverter (gate_of (id_of 0 ∷ []) 1) n (λ t id. twice_bits t id bits) refl refl (λ t. not_is_gate (variable_function 2 bits))

product_run : (bits : List Bool) (n : ℕ) → IsTaskRun (and_gate false) false n (λ t id. product_bits t id bits)
product_run bits n = gate_run (and_gate false) (gate_of (id_of 0 ∷ id_of 1 ∷ []) 2) n (λ t id. product_bits t id bits) refl refl (λ t. and_is_gate (variable_function 2 bits) (variable_function 3 bits))

nor_run : (bits : List Bool) (n : ℕ) → IsTaskRun nor_gate false n (λ t id. nor_bits t id bits)
nor_run bits n = gate_run nor_gate (gate_of (id_of 0 ∷ id_of 1 ∷ []) 2) n (λ t id. nor_bits t id bits) refl refl (λ t. nor_is_gate (variable_function 1 bits) (variable_function 2 bits))

or_run : (bits : List Bool) (n : ℕ) → IsTaskRun or_gate false n (λ t id. or_bits t id bits)
or_run bits n = gate_run or_gate (gate_of (id_of 0 ∷ id_of 1 ∷ id_of 2 ∷ []) 3) n (λ t id. or_bits t id bits) refl refl (λ t. or_is_gate (variable_function 0 bits) (variable_function 1 bits) (variable_function 2 bits))

one_latch_run : (reset : Bool) (n : ℕ) (run : ℕ → ℕ → Bool) → ((t : ℕ) → suc t < n → run (suc t) 1 ≡ run t 0) → (IsTrue reset → run 0 1 ≡ true) → IsTaskRun one_latch reset n run
one_latch_run reset n run later first = record {
  is_run = record {
    gates = λ t l. All-nil (λ (gate : Gate). run t gate.output.0 ≡ gate_bit one_latch gate (map (λ input. run t input.0) gate.inputs));
    latches = λ t l. All-cons (λ (latch : Latch). run (suc t) latch.output.0 ≡ run t latch.input.0) the_latch [] (later t l) (All-nil (λ (latch : Latch). run (suc t) latch.output.0 ≡ run t latch.input.0));
  };
  starts = λ l. All-cons (λ (latch : Latch). MayStart reset latch (run 0 latch.output.0)) the_latch [] first (All-nil (λ (latch : Latch). MayStart reset latch (run 0 latch.output.0)));
}
  where
    the_latch : Latch
    the_latch = record { input = record { 0 = 0 }; output = record { 0 = 1 }; init = init.One }

free_later : (bits : List Bool) (t : ℕ) → suc t < 2 → free_bits (suc t) 1 bits ≡ free_bits t 0 bits
free_later bits zero l = refl
free_later bits (suc t) l = absurd (omega arith)

pub exact_samples_are_counted : ExactSamplesAreCounted
exact_samples_are_counted = record {
  bound = λ opposite is. (
    inverter_bits,
    record {
      is_run = λ bits long. inverter_run bits 1;
      chosen = with_two (λ bits. variable_function 1 bits ∷ [] ≡ drop 1 bits) (λ b c. refl);
    },
    sym (by_functions 2 3 6 opposite (not_works opposite is) (not_is opposite is) bound_written refl),
  );
  unbound = λ opposite is. (
    inverter_bits,
    record {
      is_run = λ bits long. inverter_run bits 1;
      chosen = with_two (λ bits. variable_function 1 bits ∷ [] ≡ drop 1 bits) (λ b c. refl);
    },
    sym (by_functions 2 3 5 opposite (not_works opposite is) (not_is opposite is) unbound_written refl),
  );
  both = λ both is. (
    product_bits,
    record {
      is_run = λ bits long. product_run bits 1;
      chosen = with_four (λ bits. variable_function 2 bits ∷ variable_function 3 bits ∷ [] ≡ drop 2 bits) (λ b c d e. refl);
    },
    sym (by_functions 4 4 25 both (and_works both is) (and_is both is) product_written refl),
  );
  nor = (
    nor_bits,
    record {
      is_run = λ bits long. nor_run bits 1;
      chosen = with_three (λ bits. variable_function 1 bits ∷ variable_function 2 bits ∷ [] ≡ drop 1 bits) (λ b c d. refl);
    },
    sym (by_functions 3 0 11 one one_works one_is nor_written refl),
  );
  or = (
    or_bits,
    record {
      is_run = λ bits long. or_run bits 1;
      chosen = with_three (λ bits. variable_function 0 bits ∷ variable_function 1 bits ∷ variable_function 2 bits ∷ [] ≡ drop 0 bits) (λ b c d. refl);
    },
    sym (by_functions 3 0 11 one one_works one_is or_written refl),
  );
  reset = (
    reset_bits,
    record {
      is_run = λ bits long. one_latch_run true 1 (λ t id. reset_bits t id bits) (λ t l. absurd (omega arith)) (λ on. refl);
      chosen = with_one (λ bits. variable_function 0 bits ∷ [] ≡ drop 0 bits) (λ b. refl);
    },
    sym (by_functions 1 0 2 one one_works one_is reset_written refl),
  );
  free = (
    free_bits,
    record {
      is_run = λ bits long. one_latch_run false 2 (λ t id. free_bits t id bits) (free_later bits) (λ on. absurd (cc on));
      chosen = with_three (λ bits. variable_function 0 bits ∷ variable_function 1 bits ∷ variable_function 2 bits ∷ [] ≡ drop 0 bits) (λ b c d. refl);
    },
    sym (by_functions 3 0 7 one one_works one_is free_written refl),
  );
  twice = record {
    is_run = λ bits long. twice_run bits 1;
    chosen = with_three (λ bits. variable_function 2 bits ∷ [] ≡ drop 2 bits) (λ b c d. refl);
  };
  kept = by_functions 2 0 4 one one_works one_is twice_kept refl;
}
