-- There is exactly one exact need: work functions have the same values on two families of bits that have the same values.
use Rattle.std.proofs.Common.{◌≡◌, ℕ, zero, suc, ◌+◌, ◌<◌, ◌≤◌, Bool, true, false, List, [], ◌∷◌, ◌++◌, map, take, filter, length, Option, None, Some, arith, refl, sym, ◌∙◌, ap}
use Rattle.std.specs.Prelude.{All, ◌||◌, slice_get}
use Rattle.std.proofs.lemmas.List.{length-append, length-take}
use Rattle.std.proofs.lemmas.List.Elements.{All-filter, All-head, All-map, All-tail}
use Rattle.bool_expr.specs.Value.{flips}
use Rattle.dd_nodes.specs.Functions.{node_count}
use Rattle.ste_base.specs.declared.id.NodeId.{NodeId}
use Rattle.net_core.specs.declared.cover.Cover.{Cover}
use Rattle.net_core.specs.declared.cover.Lit.{Lit}
use Rattle.net_core.specs.declared.cover.Lit.TheVariants.{Zero, One, Any}
use Rattle.net_core.specs.declared.raw.Gate.{Gate}
use Rattle.net_core.specs.declared.raw.RawNet.{RawNet}
use Rattle.net_core.specs.Flat.{IsInRange}
use Rattle.ste_base.specs.Functions.{Function}
use Rattle.net_core.specs.Work.{SymbolicCut, conjunction, disjunction, product}
use Rattle.ste_model.specs.declared.task.Assertion.{Assertion}
use Rattle.ste_model.specs.declared.task.Quint.{Quint}
use Rattle.ste_model.specs.Asked.{depth}
use Rattle.ste_model.specs.Work.{has_time, over_times, quints_work, symbolic_cut, symbolic_cuts_at}
use Rattle.ste_model.proofs.Alike.{AreSame, Respects, Same, all_itself, append, chains, count_same, itself, or_respects, same_and, same_not, times_same, wholes}
use Rattle.exact_model.specs.Choices.{choices}
use Rattle.exact_model.specs.Exact.{IsOverNet}
use Rattle.exact_model.specs.ExactNeed.{OneExactNeed}
use Rattle.exact_model.specs.ExactWork.{all_broken, all_differ, bit_functions, counter_where, cover_functions, differs, exact_work, gates_functions, is_broken, literal_factors, met_where, row_factors, rows_functions, some_bits, some_choices}
use Rattle.exact_model.proofs.ChoiceRuns.{exact_bits, runs_are_choices}

-- ---- gates

and_respects : (v : ℕ) → Respects v conjunction
and_respects v f g h k p q = same_and p q

same_literal : {v : ℕ} {f g : Function} (lit : Lit) → Same v f g → AreSame v (literal_factors lit f) (literal_factors lit g)
same_literal Zero p = AreSame.more (same_not p) AreSame.none
same_literal One p = AreSame.more p AreSame.none
same_literal Any p = AreSame.none

same_factors : {v : ℕ} {fs gs : List Function} (row : List Lit) → AreSame v fs gs → AreSame v (row_factors row fs) (row_factors row gs)
same_factors [] p = AreSame.none
same_factors (lit ∷ row) AreSame.none = AreSame.none
same_factors (lit ∷ row) (AreSame.more p ps) = append (same_literal lit p) (same_factors row ps)

same_rows : {v : ℕ} {fs gs : List Function} (rows : List (List Lit)) → AreSame v fs gs → AreSame v (rows_functions rows fs) (rows_functions rows gs)
same_rows [] p = AreSame.none
same_rows (row ∷ rows) p = append (chains conjunction (and_respects _) itself (same_factors row p)) (same_rows rows p)

same_products : {v : ℕ} {fs gs : List Function} (rows : List (List Lit)) → AreSame v fs gs → AreSame v (map (λ row. product (row_factors row fs)) rows) (map (λ row. product (row_factors row gs)) rows)
same_products [] p = AreSame.none
same_products (row ∷ rows) p = AreSame.more (wholes conjunction (and_respects _) itself (same_factors row p)) (same_products rows p)

same_cover : {v : ℕ} {fs gs : List Function} (cover : Option Cover) → AreSame v fs gs → AreSame v (cover_functions cover fs) (cover_functions cover gs)
same_cover None p = AreSame.none
same_cover (Some cover) p = append (same_rows cover.rows p) (chains disjunction (or_respects _) itself (same_products cover.rows p))

-- ---- one time

module _ (v : ℕ) (nets : ℕ) (one other : ℕ → Function) (same : (id : ℕ) → id < nets → Same v (one id) (other id)) where
  same_bits : (n : ℕ) → n ≤ nets → AreSame v (bit_functions one n) (bit_functions other n)
  same_bits zero l = AreSame.none
  same_bits (suc n) l = append (same_bits n (omega arith)) (AreSame.more (same n (omega arith)) (AreSame.more (same_not (same n (omega arith))) AreSame.none))

  same_inputs : (inputs : List NodeId) → All (λ input. input.0 < nets) inputs → AreSame v (map (λ input. one input.0) inputs) (map (λ input. other input.0) inputs)
  same_inputs [] all = AreSame.none
  same_inputs (input ∷ inputs) all =
      AreSame.more (same input.0 (All-head (λ (i : NodeId). i.0 < nets) input inputs all)) (same_inputs inputs (All-tail (λ (i : NodeId). i.0 < nets) input inputs all))

  abbrev Within : Gate → Type 0
  Within gate = All (λ input. input.0 < nets) gate.inputs

  same_gates : (net : RawNet) (gates : List Gate) → All Within gates → AreSame v (gates_functions net one gates) (gates_functions net other gates)
  same_gates net [] all = AreSame.none
  same_gates net (gate ∷ gates) all =
      append (same_cover (slice_get net.covers gate.cover) (same_inputs gate.inputs (All-head Within gate gates all))) (same_gates net gates (All-tail Within gate gates all))

  same_differs : (d : SymbolicCut) → d.node < nets → Same v (differs one d) (differs other d)
  same_differs d l = let p = same d.node l in record { at = λ bits long. ap (λ b. flips b (d.value bits)) (p.at bits long) }

  all_differs : (cuts : List SymbolicCut) → All (λ d. d.node < nets) cuts → AreSame v (map (differs one) cuts) (map (differs other) cuts)
  all_differs [] all = AreSame.none
  all_differs (d ∷ cuts) all = AreSame.more (same_differs d (All-head (λ (c : SymbolicCut). c.node < nets) d cuts all)) (all_differs cuts (All-tail (λ (c : SymbolicCut). c.node < nets) d cuts all))

  all_breaks : (cuts : List SymbolicCut) → All (λ d. d.node < nets) cuts → AreSame v (map (is_broken one) cuts) (map (is_broken other) cuts)
  all_breaks [] all = AreSame.none
  all_breaks (d ∷ cuts) all = AreSame.more (same_and itself (same_differs d (All-head (λ (c : SymbolicCut). c.node < nets) d cuts all))) (all_breaks cuts (All-tail (λ (c : SymbolicCut). c.node < nets) d cuts all))

cuts_within : (nets : ℕ) (quints : List Quint) (t : ℕ) → All (λ quint. quint.node.0 < nets) quints → All (λ d. d.node < nets) (symbolic_cuts_at quints t)
cuts_within nets quints t all = All-map (λ (d : SymbolicCut). d.node < nets) symbolic_cut (filter (has_time t) quints) (All-filter (has_time t) (λ (q : Quint). q.node.0 < nets) quints all)

-- ---- some choices

pub same_some_bits : (n : ℕ) (f g : List Bool → Bool) → ((rest : List Bool) → length rest ≡ n → f rest ≡ g rest) → some_bits n f ≡ some_bits n g
same_some_bits zero f g same = same [] refl
same_some_bits (suc n) f g same =
    ap (λ b. b || some_bits n (λ bits. f (true ∷ bits))) (same_some_bits n (λ bits. f (false ∷ bits)) (λ bits. g (false ∷ bits)) (λ rest l. same (false ∷ rest) (omega arith)))
    ∙ ap (λ b. some_bits n (λ bits. g (false ∷ bits)) || b) (same_some_bits n (λ bits. f (true ∷ bits)) (λ bits. g (true ∷ bits)) (λ rest l. same (true ∷ rest) (omega arith)))

same_choices : (vars w : ℕ) {f g : Function} → Same (vars + w) f g → Same (vars + w) (some_choices vars w f) (some_choices vars w g)
same_choices vars w {f} {g} p = record {
  at = λ bits long. same_some_bits w (λ rest. f (take vars bits ++ rest)) (λ rest. g (take vars bits ++ rest))
      (λ rest l. p.at (take vars bits ++ rest) (simp (length-append, length-take) (omega (arith, l, long))));
}

-- ---- the whole

module _ (net : RawNet) (vars : ℕ) (task : Assertion) (range : IsInRange net) (over : IsOverNet net task) (one other : ℕ → ℕ → Function) (same : (t id : ℕ) → t < depth task → id < net.nets → Same (vars + length (choices net task)) (one t id) (other t id)) where
  abbrev w : ℕ
  w = length (choices net task)

  abbrev v : ℕ
  v = vars + w

  breaks_same : (quints : List Quint) → All (λ quint. quint.node.0 < net.nets) quints → AreSame v (all_broken task quints one) (all_broken task quints other)
  breaks_same quints nets =
      times_same (λ t. map (is_broken (one t)) (symbolic_cuts_at quints t)) (λ t. map (is_broken (other t)) (symbolic_cuts_at quints t)) (depth task)
      (λ t l. all_breaks v net.nets (one t) (other t) (λ id m. same t id l m) (symbolic_cuts_at quints t) (cuts_within net.nets quints t nets))

  differs_same : (quints : List Quint) → All (λ quint. quint.node.0 < net.nets) quints → AreSame v (all_differ task quints one) (all_differ task quints other)
  differs_same quints nets =
      times_same (λ t. map (differs (one t)) (symbolic_cuts_at quints t)) (λ t. map (differs (other t)) (symbolic_cuts_at quints t)) (depth task)
      (λ t l. all_differs v net.nets (one t) (other t) (λ id m. same t id l m) (symbolic_cuts_at quints t) (cuts_within net.nets quints t nets))

  met_same : Same v (met_where task one) (met_where task other)
  met_same = same_not (wholes disjunction (or_respects v) itself (breaks_same task.ant over.ant))

  counter_same : Same v (counter_where task one) (counter_where task other)
  counter_same = same_and met_same (wholes disjunction (or_respects v) itself (breaks_same task.con over.con))

  times : AreSame v (over_times (λ t. bit_functions (one t) net.nets ++ gates_functions net (one t) net.gates) (depth task)) (over_times (λ t. bit_functions (other t) net.nets ++ gates_functions net (other t) net.gates) (depth task))
  times =
      times_same (λ t. bit_functions (one t) net.nets ++ gates_functions net (one t) net.gates) (λ t. bit_functions (other t) net.nets ++ gates_functions net (other t) net.gates) (depth task)
      (λ t l. append (same_bits v net.nets (one t) (other t) (λ id m. same t id l m) net.nets (omega arith))
      (same_gates v net.nets (one t) (other t) (λ id m. same t id l m) net net.gates range.gate_inputs))

  pub work_same : AreSame v (exact_work net vars task one) (exact_work net vars task other)
  work_same =
      append (all_itself (quints_work task.ant)) (append (all_itself (quints_work task.con))
      (append times
      (append (differs_same task.ant over.ant) (append (breaks_same task.ant over.ant)
      (append (differs_same task.con over.con) (append (breaks_same task.con over.con)
      (append (chains disjunction (or_respects v) itself (breaks_same task.ant over.ant)) (append (chains disjunction (or_respects v) itself (breaks_same task.con over.con))
      (AreSame.more met_same (AreSame.more counter_same (AreSame.more (same_choices vars w counter_same)
      (AreSame.more (same_choices vars w met_same) (AreSame.more (same_not (same_choices vars w met_same)) AreSame.none)))))))))))))

pub one_exact_need : OneExactNeed
one_exact_need = record {
  some = λ net vars task driver settled.
      let made = exact_bits net vars task driver settled in
      (node_count (vars + length (choices net task)) (exact_work net vars task made.0), (made.0, made.1, refl));
  same = λ net vars task one other range driver settled over a b.
      a.2 ∙ count_same (work_same net vars task range over a.0 b.0 (λ t id l m. record {
        at = λ bits long. runs_are_choices.same net task (λ u k. a.0 u k bits) (λ u k. b.0 u k bits) range driver settled
            (a.1.is_run bits long) (b.1.is_run bits long) (a.1.chosen bits long ∙ sym (b.1.chosen bits long)) t id l m;
      })) ∙ sym b.2;
}
