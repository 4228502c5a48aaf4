use Rattle.std.specs.List.{list_any}
use Rattle.std.specs.Prelude.{if◌then◌else◌}
use Rattle.std.proofs.Common.{◌≡◌, ◌<◌, ◌∷◌, ℕ, Bool, true, false, List, [], All, length, map, drop, Some, Ok, Err, Result, refl, sym, ◌∙◌, ap, subst, arith}
use Rattle.std.proofs.lemmas.Bool.{eqb-true, false≢true}
use Rattle.std.proofs.lemmas.List.{nil_from_length}
use Rattle.std.proofs.lemmas.List.Elements.{All-tail}
use Rattle.ste_base.specs.declared.id.NodeId.{NodeId}
use Rattle.dd_nodes.specs.declared.node.Ref.{Ref}
use Rattle.ste_base.specs.Functions.{Function}
use Rattle.dd_nodes.specs.Stores.{Store, Keeps, Means}
use Rattle.dd_nodes.specs.declared.node.Node.{Node}
use Rattle.dd_nodes.proofs.Stores.{IsGood, Keeps-refl, Means-keeps}
use Rattle.dd_ops.specs.declared.fault.OpFault.{OpFault}
use Rattle.dd_ops.specs.Splitting.{Splits}
use Rattle.net_core.specs.Cases.{begins_with, half_of_rows, without_first}
use Rattle.net_core.specs.Work.{SymbolicSet}
use Rattle.dual_rail.specs.Rail.{Built, HasFunction}
use Rattle.dual_rail.proofs.Works.{SoFar, So-start, Built-answer, Built-made, first, here, last, lost, pass}
use Rattle.gate_sets.specs.declared.net_rails.NetRails.{NetRails}
use Rattle.gate_sets.specs.NetSets.{AreNetRails, AreNetRefs, HaveInputs, net_at, own_where, sets_at}
use Rattle.gate_sets.specs.private.Ordered.{AreOrdered, IsFree}
use Rattle.gate_sets.proofs.NetRefs.{All-net-refs-keep, Inputs-keep, own_inputs}
use Rattle.gate_sets.proofs.Ordered.{total, ordered-keeps}
use Rattle.gate_sets.proofs.Halving.{none_of, all_of, last_of, free_turn, half_turn, split_turn, others_ordered, AtVariable, at_variable, node_is, node_held}
use Rattle.gate_sets.proofs.Stacked.{Row, added_on, none_from, rows_of, some_from, taken_off}
use Rattle.gate_sets.proofs.by_halves.+sum_of.Goals as goal

-- the sum over the inputs
abbrev whole : (ℕ → SymbolicSet) → List Row → List NodeId → Function
whole sets rows inputs = total (rows_of rows) (sets_at sets inputs)

inside_others : (nets : List NetRails) (inputs others : List NodeId) (input : NodeId) → inputs ≡ input ∷ others → All (λ node. node.0 < length nets) inputs → All (λ node. node.0 < length nets) others
inside_others nets inputs others input eq inside = All-tail (λ (node : NodeId). node.0 < length nets) input others (subst (λ (is : List NodeId). All (λ node. node.0 < length nets) is) eq inside)

have_others : (s : Store) (sets : ℕ → SymbolicSet) (nets : List NetRails) (inputs others : List NodeId) (input : NodeId) → inputs ≡ input ∷ others → HaveInputs s sets nets inputs → HaveInputs s sets nets others
have_others s sets nets inputs others input eq have = All-tail (λ (node : NodeId). AreNetRails s (sets node.0) (net_at nets node.0)) input others (subst (HaveInputs s sets nets) eq have)

-- what the rows from a place on say of a bit
admits_of : (bit : Bool) (shown rows : List Row) (r : Ref) → shown ≡ rows → r ≡ (if (list_any (begins_with bit) (rows_of shown)) then record { 0 = 1 } else record { 0 = 0 })
    → r ≡ (if (list_any (begins_with bit) (rows_of rows)) then record { 0 = 1 } else record { 0 = 0 })
admits_of bit shown rows r same is = subst (λ (rs : List Row). r ≡ (if (list_any (begins_with bit) (rows_of rs)) then record { 0 = 1 } else record { 0 = 0 })) same is

pub returns-then-begin-len-clause-built : goal.returns-then-begin-len-clause-built
returns-then-begin-len-clause-built g t0 c = λ sets have.
    let s : Store = g.N.Nodes.store c.args.nodes.now in
    let old : List Row = c.args.stack.now.items in
    let rows : List Row = drop c.args.begin old in
    let f : Function = whole sets rows c.args.inputs.now in
    let end : c.args.begin ≡ length old = let e = c.if-begin-len.true in let l = c.len.ensures in omega (arith, e, l) in
    Built-made (f ∷ []) (HasFunction f) s s (record { 0 = 0 }) (So-start (f ∷ []) s)
    (none_of s (rows_of rows) (sets_at sets c.args.inputs.now) (g.met.N.Nodes.diagram c.args.nodes.now) (none_from old c.args.begin end))

pub returns-in_default-clause-built : goal.returns-in_default-clause-built
returns-in_default-clause-built g t0 c = λ sets have.
    let s : Store = g.N.Nodes.store c.args.nodes.now in
    let old : List Row = c.args.stack.now.items in
    let rows : List Row = drop c.args.begin old in
    let f : Function = whole sets rows c.args.inputs.now in
    let none = nil_from_length c.args.inputs.now c.in_default.ensures.cases in
    let some = some_from old c.args.begin (let e = c.if-begin-len.false in let l = c.len.ensures in let b = c.requires.begin in omega (arith, e, l, b)) in
    Built-made (f ∷ []) (HasFunction f) s s (record { 0 = 1 }) (So-start (f ∷ []) s)
    (all_of s (rows_of rows) (sets_at sets c.args.inputs.now) (g.met.N.Nodes.diagram c.args.nodes.now) some (ap (sets_at sets) none))

pub returns-in_err-add_behind-clause-built : goal.returns-in_err-add_behind-clause-built
returns-in_err-add_behind-clause-built g t0 c = λ sets have.
    let s : Store = g.N.Nodes.store c.args.nodes.now in
    let f : Function = whole sets (drop c.args.begin c.args.stack.now.items) c.args.inputs.now in
    lost (f ∷ []) (HasFunction f) s s c.from_residual.result (So-start (f ∷ []) s) c.from_residual.ensures.1

module _ (s : Store) (ds : IsGood s) (rows : List Row) (nets : List NetRails) (inputs others : List NodeId) (input : NodeId) (r : NetRails) (eq : inputs ≡ input ∷ others) (same : r ≡ net_at nets input.0)
    (inside : All (λ node. node.0 < length nets) inputs) (refs : All (AreNetRefs s) nets) (ordered : (from : ℕ) × AreOrdered s nets from inputs) (other : IsFree r → ⊥) where
  abbrev pub at : AtVariable s nets input others
  at = at_variable s nets inputs others input r eq same other ordered

  abbrev own : ℕ → SymbolicSet
  own id = own_where s (net_at nets id)

  abbrev have_own : HaveInputs s own nets inputs
  have_own = own_inputs s nets inputs inside refs

  -- the call for the rows with 0, or that for those with 1 behind it
  pub low_done : (sets : ℕ → SymbolicSet) (t : Store) (part : List Row) (result : Result Ref OpFault) → IsGood t → rows_of part ≡ half_of_rows false (rows_of rows) → HaveInputs s sets nets inputs
      → ((sets : ℕ → SymbolicSet) → HaveInputs s sets nets others → Built (whole sets part others ∷ []) (HasFunction (whole sets part others)) s t result)
      → Built (whole sets rows inputs ∷ []) (HasFunction (total (half_of_rows false (rows_of rows)) (sets_at sets others))) s t result
  low_done sets t part result dt is have call =
      subst (λ (ns : List NodeId). Built (whole sets rows ns ∷ []) (HasFunction (total (half_of_rows false (rows_of rows)) (sets_at sets others))) s t result) (sym eq)
      (half_turn s sets nets ds input others (rows_of rows) (subst (HaveInputs s sets nets) eq have) at.v at.is at.later false s t (rows_of part) result ds dt is
      (So-start (total (rows_of rows) (sets input.0 ∷ sets_at sets others) ∷ []) s) (call sets (have_others s sets nets inputs others input eq have)))

  pub high_done : (sets : ℕ → SymbolicSet) (t u : Store) (part : List Row) (result : Result Ref OpFault) → IsGood t → IsGood u → rows_of part ≡ half_of_rows true (rows_of rows) → HaveInputs s sets nets inputs
      → SoFar (whole sets rows inputs ∷ []) s t
      → ((sets : ℕ → SymbolicSet) → HaveInputs t sets nets others → Built (whole sets part others ∷ []) (HasFunction (whole sets part others)) t u result)
      → Built (whole sets rows inputs ∷ []) (HasFunction (total (half_of_rows true (rows_of rows)) (sets_at sets others))) s u result
  high_done sets t u part result dt du is have so call =
      let here : SoFar (total (rows_of rows) (sets input.0 ∷ sets_at sets others) ∷ []) s t = subst (λ (ns : List NodeId). SoFar (whole sets rows ns ∷ []) s t) eq so in
      subst (λ (ns : List NodeId). Built (whole sets rows ns ∷ []) (HasFunction (total (half_of_rows true (rows_of rows)) (sets_at sets others))) s u result) (sym eq)
      (half_turn s sets nets ds input others (rows_of rows) (subst (HaveInputs s sets nets) eq have) at.v at.is at.later true t u (rows_of part) result dt du is here
      (call sets (Inputs-keep s t sets nets others ds dt so.keeps (have_others s sets nets inputs others input eq have))))

  -- what both calls have left
  pub record AreDone (sets : ℕ → SymbolicSet) (u : Store) (lo hi : Ref) : Type 0 where
    pub so : SoFar (whole sets rows inputs ∷ []) s u
    pub low : Means u (total (half_of_rows false (rows_of rows)) (sets_at sets others)) lo
    pub high : Means u (total (half_of_rows true (rows_of rows)) (sets_at sets others)) hi

  pub both_done : (sets : ℕ → SymbolicSet) (t u : Store) (zeros ones : List Row) (lo hi : Ref) → IsGood t → IsGood u → rows_of zeros ≡ half_of_rows false (rows_of rows) → rows_of ones ≡ half_of_rows true (rows_of rows)
      → HaveInputs s sets nets inputs
      → ((sets : ℕ → SymbolicSet) → HaveInputs s sets nets others → Built (whole sets zeros others ∷ []) (HasFunction (whole sets zeros others)) s t (Ok lo))
      → ((sets : ℕ → SymbolicSet) → HaveInputs t sets nets others → Built (whole sets ones others ∷ []) (HasFunction (whole sets ones others)) t u (Ok hi))
      → AreDone sets u lo hi
  both_done sets t u zeros ones lo hi dt du is_zeros is_ones have low_call high_call =
      let f : Function = whole sets rows inputs in
      let p : Function = total (half_of_rows false (rows_of rows)) (sets_at sets others) in
      let q : Function = total (half_of_rows true (rows_of rows)) (sets_at sets others) in
      let low : Built (f ∷ []) (HasFunction p) s t (Ok lo) = low_done sets t zeros (Ok lo) dt is_zeros have low_call in
      let so : SoFar (f ∷ []) s t = first (f ∷ []) (HasFunction p) s t (Ok lo) low in
      let high : Built (f ∷ []) (HasFunction q) s u (Ok hi) = high_done sets t u ones (Ok hi) dt du is_ones have so high_call in
      let later = high_call sets (Inputs-keep s t sets nets others ds dt so.keeps (have_others s sets nets inputs others input eq have)) in
      record {
        so = first (f ∷ []) (HasFunction q) s u (Ok hi) high;
        low = Means-keeps t u p lo dt du later.spends.keeps low.ok;
        high = high.ok;
      }

  -- and of what the call says of every list of sets, that of the inputs' own
  pub own_done : (t u : Store) (zeros ones : List Row) (lo hi : Ref) → IsGood t → IsGood u → rows_of zeros ≡ half_of_rows false (rows_of rows) → rows_of ones ≡ half_of_rows true (rows_of rows)
      → ((sets : ℕ → SymbolicSet) → HaveInputs s sets nets others → Built (whole sets zeros others ∷ []) (HasFunction (whole sets zeros others)) s t (Ok lo))
      → ((sets : ℕ → SymbolicSet) → HaveInputs t sets nets others → Built (whole sets ones others ∷ []) (HasFunction (whole sets ones others)) t u (Ok hi))
      → AreDone own u lo hi
  own_done t u zeros ones lo hi dt du is_zeros is_ones low_call high_call = both_done own t u zeros ones lo hi dt du is_zeros is_ones have_own low_call high_call

  pub parts_split : (sets : ℕ → SymbolicSet) (u w : Store) (lo hi : Ref) (n : Node) → IsGood u → HaveInputs s sets nets inputs → Keeps s u → w ≡ u → u.held r.can1 ≡ Some n
      → Means u (total (half_of_rows false (rows_of rows)) (sets_at sets others)) lo → Means u (total (half_of_rows true (rows_of rows)) (sets_at sets others)) hi
      → Splits w n.var lo hi (whole sets rows inputs)
  parts_split sets u w lo hi n du have k e held m m' =
      let split : Splits u at.v lo hi (total (rows_of rows) (sets input.0 ∷ sets_at sets others)) = split_turn s sets nets ds input others (rows_of rows) (subst (HaveInputs s sets nets) eq have) at.v at.is at.later u lo hi du k m m' in
      subst (λ (ns : List NodeId). Splits w n.var lo hi (whole sets rows ns)) (sym eq)
      (subst (λ x. Splits x n.var lo hi (total (rows_of rows) (sets input.0 ∷ sets_at sets others))) (sym e)
      (subst (λ v. Splits u v lo hi (total (rows_of rows) (sets input.0 ∷ sets_at sets others))) (sym (node_is s u at.v r (net_at nets input.0) n same k at.is held)) split))

  pub own_split : (u w : Store) (lo hi : Ref) (n : Node) → IsGood u → w ≡ u → u.held r.can1 ≡ Some n → AreDone own u lo hi → Splits w n.var lo hi (whole own rows inputs)
  own_split u w lo hi n du e held p = parts_split own u w lo hi n du have_own p.so.keeps e held p.low p.high

pub sum_of-sum-requires : goal.sum_of-sum-requires
sum_of-sum-requires g t0 c κs within =
    let s : Store = g.N.Nodes.store c.args.nodes.now in
    let old : List Row = c.args.stack.now.items in
    let rows : List Row = drop c.args.begin old in
    let nets : List NetRails = c.args.nets.now in
    let inputs : List NodeId = c.args.inputs.now in
    let input : NodeId = c.in-Some.input.now in
    let others : List NodeId = c.in-Some.others.now in
    let eq : inputs ≡ input ∷ others = c.in-Some.ensures.cases.0 in
    let end : c.len-end.result ≡ length old = let e = c.len-end.ensures in omega (arith, e) in
    let added = added_on (map without_first) c.len-end.result c.args.begin old old c.add_behind.new.stack.items refl end c.in_ok-add_behind.ensures.kept c.in_ok-add_behind.ensures.rest in
    let shorter = c.in-Some.ensures.cases.1 in
    let now = c.decreases in (
      omega (arith, shorter, now),
      (within, (added.0, (inside_others nets inputs others input eq c.requires.inside, (c.requires.refs, others_ordered s nets inputs others input eq c.requires.ordered)))),
    )

pub returns-then-is_free-clause-built : goal.returns-then-is_free-clause-built
returns-then-is_free-clause-built g t0 c = λ sets have.
    let s : Store = g.N.Nodes.store c.args.nodes.now in
    let t : Store = g.N.Nodes.store c.sum_of-sum.new.nodes in
    let old : List Row = c.args.stack.now.items in
    let rows : List Row = drop c.args.begin old in
    let nets : List NetRails = c.args.nets.now in
    let inputs : List NodeId = c.args.inputs.now in
    let input : NodeId = c.in-Some.input.now in
    let others : List NodeId = c.in-Some.others.now in
    let eq : inputs ≡ input ∷ others = c.in-Some.ensures.cases.0 in
    let end : c.len-end.result ≡ length old = let e = c.len-end.ensures in omega (arith, e) in
    let added = added_on (map without_first) c.len-end.result c.args.begin old old c.add_behind.new.stack.items refl end c.in_ok-add_behind.ensures.kept c.in_ok-add_behind.ensures.rest in
    let part : List Row = drop c.len-end.result c.add_behind.new.stack.items in
    subst (λ (is : List NodeId). Built (whole sets rows is ∷ []) (HasFunction (whole sets rows is)) s t c.sum_of-sum.result) (sym eq)
    (free_turn s sets nets (g.met.N.Nodes.diagram c.args.nodes.now) input others (rows_of rows) (subst (HaveInputs s sets nets) eq have) t (rows_of part) c.sum_of-sum.result
    (subst IsFree c.set_of-r.ensures (c.is_free.ensures.0 c.if-is_free.true)) added.1
    (c.sum_of-sum.ensures.built sets (have_others s sets nets inputs others input eq have)))

pub returns-then-is_empty-clause-built : goal.returns-then-is_empty-clause-built
returns-then-is_empty-clause-built g t0 c = λ sets have.
    let s : Store = g.N.Nodes.store c.args.nodes.now in
    let x : Store = g.N.Nodes.store c.node-var.new.self in
    let w : Store = g.N.Nodes.store c.split_at.new.nodes in
    let ds = g.met.N.Nodes.diagram c.args.nodes.now in
    let old : List Row = c.args.stack.now.items in
    let rows : List Row = drop c.args.begin old in
    let nets : List NetRails = c.args.nets.now in
    let inputs : List NodeId = c.args.inputs.now in
    let input : NodeId = c.in-Some.input.now in
    let others : List NodeId = c.in-Some.others.now in
    let eq : inputs ≡ input ∷ others = c.in-Some.ensures.cases.0 in
    let other : IsFree c.set_of-r.result → ⊥ = λ free. false≢true (sym c.if-is_free.false ∙ c.is_free.ensures.1 free) in
    let f : Function = whole sets rows inputs in
    let none = ap (sets_at sets) (nil_from_length others (eqb-true (length others) 0 (sym c.if-is_empty.ensures))) in
    let lo = admits_of false c.rows_from-rows.result.now rows c.some_admits-lo.result c.rows_from-rows.ensures c.some_admits-lo.ensures in
    let hi = admits_of true c.rows_from-rows.result.now rows c.some_admits-hi.result c.rows_from-rows.ensures c.some_admits-hi.ensures in
    let split = parts_split s ds rows nets inputs others input c.set_of-r.result eq c.set_of-r.ensures c.requires.inside c.requires.refs c.requires.ordered other sets s x c.some_admits-lo.result c.some_admits-hi.result c.node-var.result ds have (Keeps-refl s) c.node-var.ensures.store c.node-var.ensures.node
    (last_of s false (rows_of rows) (sets_at sets others) c.some_admits-lo.result ds none lo)
    (last_of s true (rows_of rows) (sets_at sets others) c.some_admits-hi.result ds none hi) in
    last (f ∷ []) (HasFunction f) s x w c.split_at.result (g.met.N.Nodes.diagram c.node-var.new.self) (g.met.N.Nodes.diagram c.split_at.new.nodes)
    (subst (λ (y : Store). SoFar (f ∷ []) s y) (sym c.node-var.ensures.store) (So-start (f ∷ []) s))
    (Built-answer (f ∷ []) f f x w c.split_at.result (here f []) (λ bits l. refl) (c.split_at.ensures f split))

pub returns-in_err-add_half-clause-built : goal.returns-in_err-add_half-clause-built
returns-in_err-add_half-clause-built g t0 c = λ sets have.
    let s : Store = g.N.Nodes.store c.args.nodes.now in
    let f : Function = whole sets (drop c.args.begin c.args.stack.now.items) c.args.inputs.now in
    lost (f ∷ []) (HasFunction f) s s c.from_residual-in_err-add_half.result (So-start (f ∷ []) s) c.from_residual-in_err-add_half.ensures.1

pub sum_of-requires : goal.sum_of-requires
sum_of-requires g t0 c κs within =
    let s : Store = g.N.Nodes.store c.args.nodes.now in
    let old : List Row = c.args.stack.now.items in
    let rows : List Row = drop c.args.begin old in
    let nets : List NetRails = c.args.nets.now in
    let inputs : List NodeId = c.args.inputs.now in
    let input : NodeId = c.in-Some.input.now in
    let others : List NodeId = c.in-Some.others.now in
    let eq : inputs ≡ input ∷ others = c.in-Some.ensures.cases.0 in
    let end : c.len-end.result ≡ length old = let e = c.len-end.ensures in omega (arith, e) in
    let added = added_on (half_of_rows false) c.len-end.result c.args.begin old old c.add_half.new.stack.items refl end c.in_ok-add_half.ensures.kept c.in_ok-add_half.ensures.half in
    let shorter = c.in-Some.ensures.cases.1 in
    let now = c.decreases in (
      omega (arith, shorter, now),
      (within, (added.0, (inside_others nets inputs others input eq c.requires.inside, (c.requires.refs, others_ordered s nets inputs others input eq c.requires.ordered)))),
    )

pub returns-in_err-lo-clause-built : goal.returns-in_err-lo-clause-built
returns-in_err-lo-clause-built g t0 c = λ sets have.
    let s : Store = g.N.Nodes.store c.args.nodes.now in
    let t : Store = g.N.Nodes.store c.sum_of.new.nodes in
    let ds = g.met.N.Nodes.diagram c.args.nodes.now in
    let dt = g.met.N.Nodes.diagram c.sum_of.new.nodes in
    let old : List Row = c.args.stack.now.items in
    let rows : List Row = drop c.args.begin old in
    let nets : List NetRails = c.args.nets.now in
    let inputs : List NodeId = c.args.inputs.now in
    let input : NodeId = c.in-Some.input.now in
    let others : List NodeId = c.in-Some.others.now in
    let eq : inputs ≡ input ∷ others = c.in-Some.ensures.cases.0 in
    let end : c.len-end.result ≡ length old = let e = c.len-end.ensures in omega (arith, e) in
    let zeros = added_on (half_of_rows false) c.len-end.result c.args.begin old old c.add_half.new.stack.items refl end c.in_ok-add_half.ensures.kept c.in_ok-add_half.ensures.half in
    let other : IsFree c.set_of-r.result → ⊥ = λ free. false≢true (sym c.if-is_free.false ∙ c.is_free.ensures.1 free) in
    let f : Function = whole sets rows inputs in
    let fault = c.in_err-lo.field-0.0 in
    pass (f ∷ []) (HasFunction (total (half_of_rows false (rows_of rows)) (sets_at sets others))) (HasFunction f) s s t fault c.from_residual-in_err-lo.result ds dt (So-start (f ∷ []) s)
    (low_done s ds rows nets inputs others input c.set_of-r.result eq c.set_of-r.ensures c.requires.inside c.requires.refs c.requires.ordered other sets t (drop c.len-end.result c.add_half.new.stack.items) (Err fault) dt zeros.1 have c.in_err-lo.ensures.built)
    c.from_residual-in_err-lo.ensures.1

pub returns-in_err-add_half-2-clause-built : goal.returns-in_err-add_half-2-clause-built
returns-in_err-add_half-2-clause-built g t0 c = λ sets have.
    let s : Store = g.N.Nodes.store c.args.nodes.now in
    let t : Store = g.N.Nodes.store c.sum_of.new.nodes in
    let ds = g.met.N.Nodes.diagram c.args.nodes.now in
    let dt = g.met.N.Nodes.diagram c.sum_of.new.nodes in
    let old : List Row = c.args.stack.now.items in
    let rows : List Row = drop c.args.begin old in
    let nets : List NetRails = c.args.nets.now in
    let inputs : List NodeId = c.args.inputs.now in
    let input : NodeId = c.in-Some.input.now in
    let others : List NodeId = c.in-Some.others.now in
    let eq : inputs ≡ input ∷ others = c.in-Some.ensures.cases.0 in
    let end : c.len-end.result ≡ length old = let e = c.len-end.ensures in omega (arith, e) in
    let zeros = added_on (half_of_rows false) c.len-end.result c.args.begin old old c.add_half.new.stack.items refl end c.in_ok-add_half.ensures.kept c.in_ok-add_half.ensures.half in
    let other : IsFree c.set_of-r.result → ⊥ = λ free. false≢true (sym c.if-is_free.false ∙ c.is_free.ensures.1 free) in
    let f : Function = whole sets rows inputs in
    lost (f ∷ []) (HasFunction f) s t c.from_residual-in_err-add_half-2.result
    (first (f ∷ []) (HasFunction (total (half_of_rows false (rows_of rows)) (sets_at sets others))) s t (Ok c.in_ok-lo.lo)
    (low_done s ds rows nets inputs others input c.set_of-r.result eq c.set_of-r.ensures c.requires.inside c.requires.refs c.requires.ordered other sets t (drop c.len-end.result c.add_half.new.stack.items) (Ok c.in_ok-lo.lo) dt zeros.1 have c.in_ok-lo.ensures.built))
    c.from_residual-in_err-add_half-2.ensures.1

pub sum_of-requires-2 : goal.sum_of-requires-2
sum_of-requires-2 g t0 c κs within =
    let s : Store = g.N.Nodes.store c.args.nodes.now in
    let t : Store = g.N.Nodes.store c.sum_of.new.nodes in
    let ds = g.met.N.Nodes.diagram c.args.nodes.now in
    let dt = g.met.N.Nodes.diagram c.sum_of.new.nodes in
    let old : List Row = c.args.stack.now.items in
    let rows : List Row = drop c.args.begin old in
    let nets : List NetRails = c.args.nets.now in
    let inputs : List NodeId = c.args.inputs.now in
    let input : NodeId = c.in-Some.input.now in
    let others : List NodeId = c.in-Some.others.now in
    let eq : inputs ≡ input ∷ others = c.in-Some.ensures.cases.0 in
    let end : c.len-end.result ≡ length old = let e = c.len-end.ensures in omega (arith, e) in
    let back = taken_off c.len-end.result old c.add_half.new.stack.items c.sum_of.new.stack.items c.truncate-2.new.self.items end c.in_ok-add_half.ensures.kept c.in_ok-lo.ensures.same c.truncate-2.ensures.items in
    let ones = added_on (half_of_rows true) c.len-end.result c.args.begin old c.truncate-2.new.self.items c.add_half-2.new.stack.items back end c.in_ok-add_half-2.ensures.kept c.in_ok-add_half-2.ensures.half in
    let shorter = c.in-Some.ensures.cases.1 in
    let now = c.decreases in
    let inside = inside_others nets inputs others input eq c.requires.inside in
    let mine = c.in_ok-lo.ensures.built (λ id. own_where s (net_at nets id)) (own_inputs s nets others inside c.requires.refs) in
    let o = others_ordered s nets inputs others input eq c.requires.ordered in (
      omega (arith, shorter, now),
      (within, (ones.0, (inside, (All-net-refs-keep s t nets ds dt mine.spends.keeps c.requires.refs, (o.0, ordered-keeps s t nets o.0 others mine.spends.keeps o.1))))),
    )

pub returns-in_err-hi-clause-built : goal.returns-in_err-hi-clause-built
returns-in_err-hi-clause-built g t0 c = λ sets have.
    let s : Store = g.N.Nodes.store c.args.nodes.now in
    let t : Store = g.N.Nodes.store c.sum_of.new.nodes in
    let u : Store = g.N.Nodes.store c.sum_of-2.new.nodes in
    let ds = g.met.N.Nodes.diagram c.args.nodes.now in
    let dt = g.met.N.Nodes.diagram c.sum_of.new.nodes in
    let du = g.met.N.Nodes.diagram c.sum_of-2.new.nodes in
    let old : List Row = c.args.stack.now.items in
    let rows : List Row = drop c.args.begin old in
    let nets : List NetRails = c.args.nets.now in
    let inputs : List NodeId = c.args.inputs.now in
    let input : NodeId = c.in-Some.input.now in
    let others : List NodeId = c.in-Some.others.now in
    let eq : inputs ≡ input ∷ others = c.in-Some.ensures.cases.0 in
    let end : c.len-end.result ≡ length old = let e = c.len-end.ensures in omega (arith, e) in
    let zeros = added_on (half_of_rows false) c.len-end.result c.args.begin old old c.add_half.new.stack.items refl end c.in_ok-add_half.ensures.kept c.in_ok-add_half.ensures.half in
    let back = taken_off c.len-end.result old c.add_half.new.stack.items c.sum_of.new.stack.items c.truncate-2.new.self.items end c.in_ok-add_half.ensures.kept c.in_ok-lo.ensures.same c.truncate-2.ensures.items in
    let ones = added_on (half_of_rows true) c.len-end.result c.args.begin old c.truncate-2.new.self.items c.add_half-2.new.stack.items back end c.in_ok-add_half-2.ensures.kept c.in_ok-add_half-2.ensures.half in
    let other : IsFree c.set_of-r.result → ⊥ = λ free. false≢true (sym c.if-is_free.false ∙ c.is_free.ensures.1 free) in
    let f : Function = whole sets rows inputs in
    let fault = c.in_err-hi.field-0.0 in
    let so = first (f ∷ []) (HasFunction (total (half_of_rows false (rows_of rows)) (sets_at sets others))) s t (Ok c.in_ok-lo.lo)
    (low_done s ds rows nets inputs others input c.set_of-r.result eq c.set_of-r.ensures c.requires.inside c.requires.refs c.requires.ordered other sets t (drop c.len-end.result c.add_half.new.stack.items) (Ok c.in_ok-lo.lo) dt zeros.1 have c.in_ok-lo.ensures.built) in
    pass (f ∷ []) (HasFunction (total (half_of_rows true (rows_of rows)) (sets_at sets others))) (HasFunction f) s s u fault c.from_residual-in_err-hi.result ds du (So-start (f ∷ []) s)
    (high_done s ds rows nets inputs others input c.set_of-r.result eq c.set_of-r.ensures c.requires.inside c.requires.refs c.requires.ordered other sets t u (drop c.len-end.result c.add_half-2.new.stack.items) (Err fault) dt du ones.1 have so c.in_err-hi.ensures.built)
    c.from_residual-in_err-hi.ensures.1

pub node-var-requires-2 : goal.node-var-requires-2
node-var-requires-2 g t0 c =
    let s : Store = g.N.Nodes.store c.args.nodes.now in
    let t : Store = g.N.Nodes.store c.sum_of.new.nodes in
    let u : Store = g.N.Nodes.store c.sum_of-2.new.nodes in
    let ds = g.met.N.Nodes.diagram c.args.nodes.now in
    let dt = g.met.N.Nodes.diagram c.sum_of.new.nodes in
    let du = g.met.N.Nodes.diagram c.sum_of-2.new.nodes in
    let old : List Row = c.args.stack.now.items in
    let rows : List Row = drop c.args.begin old in
    let nets : List NetRails = c.args.nets.now in
    let inputs : List NodeId = c.args.inputs.now in
    let input : NodeId = c.in-Some.input.now in
    let others : List NodeId = c.in-Some.others.now in
    let eq : inputs ≡ input ∷ others = c.in-Some.ensures.cases.0 in
    let end : c.len-end.result ≡ length old = let e = c.len-end.ensures in omega (arith, e) in
    let zeros = added_on (half_of_rows false) c.len-end.result c.args.begin old old c.add_half.new.stack.items refl end c.in_ok-add_half.ensures.kept c.in_ok-add_half.ensures.half in
    let back = taken_off c.len-end.result old c.add_half.new.stack.items c.sum_of.new.stack.items c.truncate-2.new.self.items end c.in_ok-add_half.ensures.kept c.in_ok-lo.ensures.same c.truncate-2.ensures.items in
    let ones = added_on (half_of_rows true) c.len-end.result c.args.begin old c.truncate-2.new.self.items c.add_half-2.new.stack.items back end c.in_ok-add_half-2.ensures.kept c.in_ok-add_half-2.ensures.half in
    let other : IsFree c.set_of-r.result → ⊥ = λ free. false≢true (sym c.if-is_free.false ∙ c.is_free.ensures.1 free) in
    let done = own_done s ds rows nets inputs others input c.set_of-r.result eq c.set_of-r.ensures c.requires.inside c.requires.refs c.requires.ordered other t u (drop c.len-end.result c.add_half.new.stack.items) (drop c.len-end.result c.add_half-2.new.stack.items) c.in_ok-lo.lo c.in_ok-hi.hi dt du zeros.1 ones.1 c.in_ok-lo.ensures.built c.in_ok-hi.ensures.built in
    let at = at_variable s nets inputs others input c.set_of-r.result eq c.set_of-r.ensures other c.requires.ordered in
    node_held s u at.v c.set_of-r.result (net_at nets input.0) c.set_of-r.ensures done.so.keeps at.is

pub split_at-requires-2-clause-lo : goal.split_at-requires-2-clause-lo
split_at-requires-2-clause-lo g t0 c =
    let s : Store = g.N.Nodes.store c.args.nodes.now in
    let t : Store = g.N.Nodes.store c.sum_of.new.nodes in
    let u : Store = g.N.Nodes.store c.sum_of-2.new.nodes in
    let ds = g.met.N.Nodes.diagram c.args.nodes.now in
    let dt = g.met.N.Nodes.diagram c.sum_of.new.nodes in
    let du = g.met.N.Nodes.diagram c.sum_of-2.new.nodes in
    let old : List Row = c.args.stack.now.items in
    let rows : List Row = drop c.args.begin old in
    let nets : List NetRails = c.args.nets.now in
    let inputs : List NodeId = c.args.inputs.now in
    let input : NodeId = c.in-Some.input.now in
    let others : List NodeId = c.in-Some.others.now in
    let eq : inputs ≡ input ∷ others = c.in-Some.ensures.cases.0 in
    let end : c.len-end.result ≡ length old = let e = c.len-end.ensures in omega (arith, e) in
    let zeros = added_on (half_of_rows false) c.len-end.result c.args.begin old old c.add_half.new.stack.items refl end c.in_ok-add_half.ensures.kept c.in_ok-add_half.ensures.half in
    let back = taken_off c.len-end.result old c.add_half.new.stack.items c.sum_of.new.stack.items c.truncate-2.new.self.items end c.in_ok-add_half.ensures.kept c.in_ok-lo.ensures.same c.truncate-2.ensures.items in
    let ones = added_on (half_of_rows true) c.len-end.result c.args.begin old c.truncate-2.new.self.items c.add_half-2.new.stack.items back end c.in_ok-add_half-2.ensures.kept c.in_ok-add_half-2.ensures.half in
    let other : IsFree c.set_of-r.result → ⊥ = λ free. false≢true (sym c.if-is_free.false ∙ c.is_free.ensures.1 free) in
    let done = own_done s ds rows nets inputs others input c.set_of-r.result eq c.set_of-r.ensures c.requires.inside c.requires.refs c.requires.ordered other t u (drop c.len-end.result c.add_half.new.stack.items) (drop c.len-end.result c.add_half-2.new.stack.items) c.in_ok-lo.lo c.in_ok-hi.hi dt du zeros.1 ones.1 c.in_ok-lo.ensures.built c.in_ok-hi.ensures.built in
    let split = own_split s ds rows nets inputs others input c.set_of-r.result eq c.set_of-r.ensures c.requires.inside c.requires.refs c.requires.ordered other u (g.N.Nodes.store c.node-var-2.new.self) c.in_ok-lo.lo c.in_ok-hi.hi c.node-var-2.result du c.node-var-2.ensures.store c.node-var-2.ensures.node done in
    split.low

pub split_at-requires-2-clause-hi : goal.split_at-requires-2-clause-hi
split_at-requires-2-clause-hi g t0 c =
    let s : Store = g.N.Nodes.store c.args.nodes.now in
    let t : Store = g.N.Nodes.store c.sum_of.new.nodes in
    let u : Store = g.N.Nodes.store c.sum_of-2.new.nodes in
    let ds = g.met.N.Nodes.diagram c.args.nodes.now in
    let dt = g.met.N.Nodes.diagram c.sum_of.new.nodes in
    let du = g.met.N.Nodes.diagram c.sum_of-2.new.nodes in
    let old : List Row = c.args.stack.now.items in
    let rows : List Row = drop c.args.begin old in
    let nets : List NetRails = c.args.nets.now in
    let inputs : List NodeId = c.args.inputs.now in
    let input : NodeId = c.in-Some.input.now in
    let others : List NodeId = c.in-Some.others.now in
    let eq : inputs ≡ input ∷ others = c.in-Some.ensures.cases.0 in
    let end : c.len-end.result ≡ length old = let e = c.len-end.ensures in omega (arith, e) in
    let zeros = added_on (half_of_rows false) c.len-end.result c.args.begin old old c.add_half.new.stack.items refl end c.in_ok-add_half.ensures.kept c.in_ok-add_half.ensures.half in
    let back = taken_off c.len-end.result old c.add_half.new.stack.items c.sum_of.new.stack.items c.truncate-2.new.self.items end c.in_ok-add_half.ensures.kept c.in_ok-lo.ensures.same c.truncate-2.ensures.items in
    let ones = added_on (half_of_rows true) c.len-end.result c.args.begin old c.truncate-2.new.self.items c.add_half-2.new.stack.items back end c.in_ok-add_half-2.ensures.kept c.in_ok-add_half-2.ensures.half in
    let other : IsFree c.set_of-r.result → ⊥ = λ free. false≢true (sym c.if-is_free.false ∙ c.is_free.ensures.1 free) in
    let done = own_done s ds rows nets inputs others input c.set_of-r.result eq c.set_of-r.ensures c.requires.inside c.requires.refs c.requires.ordered other t u (drop c.len-end.result c.add_half.new.stack.items) (drop c.len-end.result c.add_half-2.new.stack.items) c.in_ok-lo.lo c.in_ok-hi.hi dt du zeros.1 ones.1 c.in_ok-lo.ensures.built c.in_ok-hi.ensures.built in
    let split = own_split s ds rows nets inputs others input c.set_of-r.result eq c.set_of-r.ensures c.requires.inside c.requires.refs c.requires.ordered other u (g.N.Nodes.store c.node-var-2.new.self) c.in_ok-lo.lo c.in_ok-hi.hi c.node-var-2.result du c.node-var-2.ensures.store c.node-var-2.ensures.node done in
    split.high

pub returns-clause-built : goal.returns-clause-built
returns-clause-built g t0 c = λ sets have.
    let s : Store = g.N.Nodes.store c.args.nodes.now in
    let t : Store = g.N.Nodes.store c.sum_of.new.nodes in
    let u : Store = g.N.Nodes.store c.sum_of-2.new.nodes in
    let ds = g.met.N.Nodes.diagram c.args.nodes.now in
    let dt = g.met.N.Nodes.diagram c.sum_of.new.nodes in
    let du = g.met.N.Nodes.diagram c.sum_of-2.new.nodes in
    let old : List Row = c.args.stack.now.items in
    let rows : List Row = drop c.args.begin old in
    let nets : List NetRails = c.args.nets.now in
    let inputs : List NodeId = c.args.inputs.now in
    let input : NodeId = c.in-Some.input.now in
    let others : List NodeId = c.in-Some.others.now in
    let eq : inputs ≡ input ∷ others = c.in-Some.ensures.cases.0 in
    let end : c.len-end.result ≡ length old = let e = c.len-end.ensures in omega (arith, e) in
    let zeros = added_on (half_of_rows false) c.len-end.result c.args.begin old old c.add_half.new.stack.items refl end c.in_ok-add_half.ensures.kept c.in_ok-add_half.ensures.half in
    let back = taken_off c.len-end.result old c.add_half.new.stack.items c.sum_of.new.stack.items c.truncate-2.new.self.items end c.in_ok-add_half.ensures.kept c.in_ok-lo.ensures.same c.truncate-2.ensures.items in
    let ones = added_on (half_of_rows true) c.len-end.result c.args.begin old c.truncate-2.new.self.items c.add_half-2.new.stack.items back end c.in_ok-add_half-2.ensures.kept c.in_ok-add_half-2.ensures.half in
    let other : IsFree c.set_of-r.result → ⊥ = λ free. false≢true (sym c.if-is_free.false ∙ c.is_free.ensures.1 free) in
    let x : Store = g.N.Nodes.store c.node-var-2.new.self in
    let w : Store = g.N.Nodes.store c.split_at-2.new.nodes in
    let f : Function = whole sets rows inputs in
    let done = both_done s ds rows nets inputs others input c.set_of-r.result eq c.set_of-r.ensures c.requires.inside c.requires.refs c.requires.ordered other sets t u (drop c.len-end.result c.add_half.new.stack.items) (drop c.len-end.result c.add_half-2.new.stack.items) c.in_ok-lo.lo c.in_ok-hi.hi dt du zeros.1 ones.1 have c.in_ok-lo.ensures.built c.in_ok-hi.ensures.built in
    let split = parts_split s ds rows nets inputs others input c.set_of-r.result eq c.set_of-r.ensures c.requires.inside c.requires.refs c.requires.ordered other sets u x c.in_ok-lo.lo c.in_ok-hi.hi c.node-var-2.result du have done.so.keeps c.node-var-2.ensures.store c.node-var-2.ensures.node done.low done.high in
    last (f ∷ []) (HasFunction f) s x w c.split_at-2.result (g.met.N.Nodes.diagram c.node-var-2.new.self) (g.met.N.Nodes.diagram c.split_at-2.new.nodes)
    (subst (λ (y : Store). SoFar (f ∷ []) s y) (sym c.node-var-2.ensures.store) done.so)
    (Built-answer (f ∷ []) f f x w c.split_at-2.result (here f []) (λ bits l. refl) (c.split_at-2.ensures f split))
