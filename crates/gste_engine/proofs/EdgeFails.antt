-- What is known of an edge under one assignment: whether it is feasible, and its first consequent that fails.
use Rattle.std.proofs.Common.{◌≡◌, ◌<◌, ℕ, Bool, true, false, List, [], ◌∷◌, length, map, Option, None, Some, refl, sym, ◌∙◌, ap, subst, All}
use Rattle.std.specs.Prelude.{◌&&◌, Any}
use Rattle.std.specs.List.{AllZip}
use Rattle.std.proofs.lemmas.List.{length-map}
use Rattle.std.proofs.lemmas.List.Elements.{All-cons, All-head, All-nil, All-tail}
use Rattle.bool_expr.specs.declared.expr.Expr.TheVariants.{Const}
use Rattle.bool_expr.specs.Value.{value_of}
use Rattle.dd_nodes.specs.declared.node.Ref.{Ref}
use Rattle.dd_nodes.specs.Stores.{Store, Means, function}
use Rattle.dd_nodes.proofs.Spending.{Means-same}
use Rattle.dd_nodes.proofs.Stores.{IsGood}
use Rattle.dd_ops.proofs.Terminal.{one_bit}
use Rattle.dual_rail.specs.declared.rails.Rails.{Rails}
use Rattle.dual_rail.specs.Rail.{AreRails, set_of}
use Rattle.net_core.specs.declared.bit_set.BitSet.{BitSet}
use Rattle.net_core.specs.declared.raw.RawNet.{RawNet}
use Rattle.net_core.specs.Possible.{ArePossible}
use Rattle.net_core.specs.Run.{Cut as AskedCut, IsSettled}
use Rattle.net_core.specs.Work.{SymbolicSet, set_at, some_empty}
use Rattle.net_core.proofs.Possible.{one_family, one_possible, same_fields}
use Rattle.ste_base.specs.declared.id.NodeId.{NodeId}
use Rattle.ste_model.specs.declared.task.Bind.{Bind}
use Rattle.ste_model.specs.declared.task.Edge.{Edge}
use Rattle.ste_model.specs.declared.task.Quint.{Quint}
use Rattle.ste_model.specs.Asked.{cuts_at}
use Rattle.ste_model.specs.Edges.{asked_on, bind_cuts}
use Rattle.ste_model.specs.GraphTable.{IsFeasible, VertexState}
use Rattle.ste_model.specs.GraphWork.{SymbolicState}
use Rattle.ste_model.specs.Work.{constant_set, symbolic_cuts_at}
use Rattle.ste_model.proofs.SumsAt.{empty_is}
use Rattle.sym_step.specs.declared.made.Step.{Step}
use Rattle.sym_step.specs.Step.{IsCutBy, IsStep, rails_at}
use Rattle.engine_parts.specs.declared.failing.Failure.{Failure}
use Rattle.engine_parts.specs.Failing.{FailsBy, constant_ref, first_failing, fixed_quint}
use Rattle.engine_parts.proofs.Constants.{bit_means, constant_is}
use Rattle.engine_parts.proofs.FirstFails.{IsTold, first_is}
use Rattle.engine_parts.proofs.Constants.{const_value}
use Rattle.gste_engine.specs.declared.state.State.{State}
use Rattle.gste_engine.specs.declared.taken.Taken.{Taken}
use Rattle.gste_engine.specs.Tables.{IsState}
use Rattle.gste_engine.specs.private.Taken.{IsFirstOn, IsStepOn, IsTaken, fixed_bind, table_at}
use Rattle.gste_engine.proofs.FixedSteps.{constant_sets}

-- ---- bindings as quintuples of time 0

abbrev quint_of : Bind → Quint
quint_of bind = record { guard = bind.guard; node = bind.node; value = bind.value; from = 0; to = 1 }

and_true : (b : Bool) → (b && true) ≡ b
and_true true = refl
and_true false = refl

quint_cuts : (bits : List Bool) (binds : List Bind) → cuts_at (map quint_of binds) bits 0 ≡ bind_cuts binds bits
quint_cuts bits [] = refl
quint_cuts bits (b ∷ bs) =
    let make : Bool → AskedCut = λ on. record { node = b.node.0; on = on; value = value_of b.value bits } in
    ap (λ on. make on ∷ cuts_at (map quint_of bs) bits 0) (and_true (value_of b.guard bits)) ∙ ap (λ cs. make (value_of b.guard bits) ∷ cs) (quint_cuts bits bs)

const_means : (t : Store) (b : Bool) → IsGood t → Means t (value_of (Const b)) (constant_ref b)
const_means t b d = Means-same t (λ bits. b) (value_of (Const b)) (constant_ref b) (λ bits l. sym (const_value b bits)) (bit_means t b d)

quint_fits : (t : Store) (bits : List Bool) (binds : List Bind) → IsGood t → AllZip (IsCutBy t) (symbolic_cuts_at (map (fixed_quint bits) (map quint_of binds)) 0) (map (fixed_bind bits) binds)
quint_fits t bits [] d = tt
quint_fits t bits (b ∷ bs) d = (record { node = refl; guard = const_means t (value_of b.guard bits) d; value = const_means t (value_of b.value bits) d }, quint_fits t bits bs d)

quints_inside : (n : ℕ) (binds : List Bind) → All (λ bind. bind.node.0 < n) binds → All (λ quint. quint.node.0 < n) (map quint_of binds)
quints_inside n [] h = All-nil (λ (quint : Quint). quint.node.0 < n)
quints_inside n (b ∷ bs) h = All-cons (λ (quint : Quint). quint.node.0 < n) (quint_of b) (map quint_of bs) (All-head (λ (bind : Bind). bind.node.0 < n) b bs h) (quints_inside n bs (All-tail (λ (bind : Bind). bind.node.0 < n) b bs h))

first_told : (failure : Failure) (t : Store) (sets : ℕ → BitSet) (nets : List Rails) (bits : List Bool) → IsGood t → ((id : ℕ) → id < length nets → AreRails t (constant_set (sets id)) (rails_at nets id))
    → (binds : List Bind) → All (λ bind. bind.node.0 < length nets) binds → IsTold failure sets (bind_cuts binds bits) (first_failing failure nets (map (fixed_bind bits) binds))
first_told failure t sets nets bits d have binds inside =
    subst (λ (cs : List AskedCut). IsTold failure sets cs (first_failing failure nets (map (fixed_bind bits) binds))) (quint_cuts bits binds)
    (first_is failure t sets nets bits 0 d have (map quint_of binds) (map (fixed_bind bits) binds) (quints_inside (length nets) binds inside) (quint_fits t bits binds d))

-- ---- on the sets of the edge

module _ (failure : Failure) (net : RawNet) (settled : IsSettled net) (bits : List Bool) (table : ℕ → VertexState) (edge : Edge) where
  one_sets : (one other : ℕ → BitSet) → IsFeasible net bits table edge one → ArePossible net (table edge.from).latches (asked_on edge bits) other → one ≡ other
  one_sets one other f possible =
      let same : (id : ℕ) → one id ≡ other id = λ id. one_family net (table edge.from).latches (asked_on edge bits) settled one other f.possible possible id in
      λ i id. same id i

  pub told_first : (sets : ℕ → BitSet) → IsFeasible net bits table edge sets → (told : Option NodeId) → IsTold failure sets (bind_cuts edge.con bits) told → IsFirstOn failure net bits table edge told
  told_first sets f None none = λ fails.
      none (subst (λ (x : ℕ → BitSet). Any (FailsBy failure x) (bind_cuts edge.con bits)) (one_sets fails.0 sets fails.1 f.possible) fails.2)
  told_first sets f (Some node) h = record {
    sets = sets;
    feasible = f;
    number = h.number;
    first = record { cut = h.cut; here = h.here; fails = h.fails; first = h.first };
    is = h.node_is;
  }

  pub not_taken : (told : Taken) → told ≡ record { feasible = false; first = None } → (((sets : ℕ → BitSet) × IsFeasible net bits table edge sets) → ⊥) → IsTaken failure net bits table edge told
  not_taken told is none = subst (IsTaken failure net bits table edge) (sym is) (record {
    feasible = (λ h. absurd (let e : false ≡ true = h in cc e), λ some. absurd (none some));
    first = λ fails. none (fails.0, fails.1);
  })

-- ---- from the state of the source

rails_at_bits : (s : Store) (bits : List Bool) → length bits ≡ s.vars → (ws : List SymbolicSet) (rs : List Rails) → AllZip (AreRails s) ws rs → map (set_of s bits) rs ≡ map (set_at bits) ws
rails_at_bits s bits l [] [] h = refl
rails_at_bits s bits l [] (r ∷ rs) h = absurd h
rails_at_bits s bits l (w ∷ ws) [] h = absurd h
rails_at_bits s bits l (w ∷ ws) (r ∷ rs) h =
    let same : set_of s bits r ≡ set_at bits w = same_fields _ _ _ _ (h.0.zero.value bits l) (h.0.one.value bits l) in
    ap (λ (x : BitSet). x ∷ map (set_of s bits) rs) same ∙ ap (λ xs. set_at bits w ∷ xs) (rails_at_bits s bits l ws rs h.1)

module _ (failure : Failure) (net : RawNet) (settled : IsSettled net) (bits : List Bool) (states : ℕ → SymbolicState) (edge : Edge) (s t : Store) (source : State) (long : length bits ≡ s.vars) (is : IsState s (states edge.from) source) where
  abbrev table : ℕ → VertexState
  table = table_at bits states

  abbrev ls : List BitSet
  ls = map (set_of s bits) source.latches

  same_latches : ls ≡ (table edge.from).latches
  same_latches = rails_at_bits s bits long (states edge.from).latches source.latches is.latches

  pub some_sets : length source.latches ≡ length net.latches → (sets : ℕ → BitSet) × ArePossible net (table edge.from).latches (asked_on edge bits) sets
  some_sets wide = one_possible.some net (table edge.from).latches (asked_on edge bits) settled (ap (λ (xs : List BitSet). length xs) (sym same_latches) ∙ (length-map source.latches (set_of s bits) ∙ wide))

  pub unreached : (told : Taken) → told ≡ record { feasible = false; first = None } → function s source.reached bits ≡ false → IsTaken failure net bits table edge told
  unreached told e none = not_taken failure net settled bits table edge told e (λ some. let f : false ≡ true = sym none ∙ (is.reached.value bits long ∙ some.1.reached) in cc f)

  module _ (gt : IsGood t) (vars : t.vars ≡ s.vars) (made : Step) (step : IsStepOn net bits ls edge t made) where
    step_of : (sets : ℕ → BitSet) → ArePossible net (table edge.from).latches (asked_on edge bits) sets → IsStep net (constant_sets sets) t made
    step_of sets possible = step sets (subst (λ (xs : List BitSet). ArePossible net xs (asked_on edge bits) sets) (sym same_latches) possible)

    pub contradicted : (told : Taken) → told ≡ record { feasible = false; first = None } → made.contradictory ≡ record { 0 = 1 } → IsTaken failure net bits table edge told
    contradicted told e one = not_taken failure net settled bits table edge told e (λ some.
        let m : Means t (some_empty net (constant_sets some.0)) made.contradictory = (step_of some.0 some.1.possible).contradictory in
        let bit : function t made.contradictory bits ≡ true = ap (λ (r : Ref). function t r bits) one ∙ one_bit t (record { 0 = 1 }) bits gt refl in
        some.1.full ((empty_is net (constant_sets some.0) bits).0 (sym (m.value bits (long ∙ sym vars)) ∙ bit)))

    module _ (reached : function s source.reached bits ≡ true) (some : (made.contradictory ≡ record { 0 = 1 }) → ⊥) (known : (sets : ℕ → BitSet) × ArePossible net (table edge.from).latches (asked_on edge bits) sets) where
      feasible : IsFeasible net bits table edge known.0
      feasible = record {
        reached = sym (is.reached.value bits long) ∙ reached;
        possible = known.1;
        full = λ empty.
            let m : Means t (some_empty net (constant_sets known.0)) made.contradictory = (step_of known.0 known.1).contradictory in
            some (constant_is t (some_empty net (constant_sets known.0)) made.contradictory true (λ other. (empty_is net (constant_sets known.0) other).1 empty) gt m);
      }

      pub is_taken : (told : Taken) → All (λ bind. bind.node.0 < net.nets) edge.con → told ≡ record { feasible = true; first = first_failing failure made.nets (map (fixed_bind bits) edge.con) } → IsTaken failure net bits table edge told
      is_taken told con e =
          let step = step_of known.0 known.1 in
          let n : length made.nets ≡ net.nets = step.long in
          let have : (id : ℕ) → id < length made.nets → AreRails t (constant_set (known.0 id)) (rails_at made.nets id) = λ id lt. step.nets id (subst (λ k. id < k) n lt) in
          let inside : All (λ bind. bind.node.0 < length made.nets) edge.con = subst (λ k. All (λ bind. bind.node.0 < k) edge.con) (sym n) con in
          subst (IsTaken failure net bits table edge) (sym e) (record {
            feasible = (λ h. (known.0, feasible), λ h. refl);
            first = told_first failure net settled bits table edge known.0 feasible _ (first_told failure t known.0 made.nets bits gt have edge.con inside);
          })
