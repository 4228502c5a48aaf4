use Rattle.std.proofs.Common.{◌≡◌, ◌+◌, ◌*◌, ◌<◌, ◌≤◌, ℕ, zero, suc, false, List, length, refl, sym, ◌∙◌, ap, subst, arith, rules, Ok, Err, Result}
use Rattle.std.specs.Prelude.{◌==◌, vec_len}
use Rattle.std.proofs.lemmas.Bool.{eqb-true}
use Rattle.ste_base.specs.Functions.{Function}
use Rattle.dd_nodes.specs.Stores.{Store}
use Rattle.dd_nodes.proofs.Stores.{Keeps-refl, Keeps-trans}
use Rattle.dual_rail.specs.Rail.{Built}
use Rattle.dual_rail.proofs.Works.{Built-made, So-start, more, pass}
use Rattle.dd_ops.specs.declared.fault.OpFault.{OpFault}
use Rattle.net_core.specs.declared.raw.Latch.{Latch}
use Rattle.net_core.specs.declared.raw.RawNet.{RawNet}
use Rattle.net_core.specs.Run.{IsSettled}
use Rattle.net_core.specs.Work.{SymbolicSet}
use Rattle.net_core.proofs.Ordered.{settled_by_order}
use Rattle.ste_model.specs.declared.task.Edge.{Edge}
use Rattle.ste_model.specs.declared.task.Graph.{Graph}
use Rattle.ste_model.specs.GraphNeed.{AreWholeRounds}
use Rattle.ste_model.specs.GraphTable.{enough}
use Rattle.ste_model.specs.GraphWork.{SymbolicState}
use Rattle.gste_engine.specs.declared.rounds.Progress.{Progress}
use Rattle.gste_engine.specs.declared.state.State.{State}
use Rattle.gste_engine.specs.Tables.{HasStates, IsGraphOver, rounds_work}
use Rattle.gste_engine.specs.private.Rounds.{IsLast, IsProgress}
use Rattle.gste_engine.proofs.Starts.{all_rounds, group_below, next_group, whole_exists}
use Rattle.gste_engine.proofs.rounds.all_rounds.Goals as goal

-- what is promised of a group of rounds
abbrev Promises : RawNet → Graph → List State → Store → Store → Result Progress OpFault → List Latch → Type 0
Promises net graph table t u result latches = (tables : ℕ → ℕ → SymbolicState) (sets : ℕ → Edge → ℕ → SymbolicSet) (n : ℕ) → AreWholeRounds net t.vars graph tables sets → n + (length latches * 2 + 1) ≤ enough net graph → HasStates (tables n) (length graph.vertices) t table
    → Built (rounds_work net graph tables sets) (IsProgress net graph tables (n + (length latches * 2 + 1))) t u result

not_none : (n : ℕ) → (n == 0) ≡ false → 0 < n
not_none zero e = absurd (cc e)
not_none (suc n) e = omega arith

pub loop-init : goal.loop-init
loop-init g c =
    let s : Store = g.N.Nodes.store c.args.nodes.now in
    let net : RawNet = c.args.net.now.raw in
    let graph : Graph = c.args.graph.now in
    let start : Progress = c.args.start in
    record {
      keeps = Keeps-refl s;
      between = c.requires.start;
      so = λ tables sets whole. record { so = So-start (rounds_work net graph tables sets) s; has = subst (λ (n : ℕ). HasStates (tables n) (length graph.vertices) s start.table.items) (let e : 1 ≡ 0 * (length net.latches * 2 + 1) + 1 = omega arith in e) (c.requires.first tables sets whole) };
    }

pub loop-preserved : goal.loop-preserved
loop-preserved g c =
    let s : Store = g.N.Nodes.store c.args.nodes.now in
    let t : Store = g.N.Nodes.store c.loop.nodes in
    let gs = g.met.N.Nodes.diagram c.args.nodes.now in
    let gt = g.met.N.Nodes.diagram c.loop.nodes in
    let net : RawNet = c.args.net.now.raw in
    let graph : Graph = c.args.graph.now in
    let settled : IsSettled net = settled_by_order net c.args.net.now.settled c.args.net.now.in_order in
    let table : List State = c.loop.progress.table.items in
    let i = c.loop.counter in
    let e = length net.latches * 2 + 1 in
    let p = c.loop.invariant in
    let u : Store = g.N.Nodes.store c.more_rounds.new.nodes in
    let gu = g.met.N.Nodes.diagram c.more_rounds.new.nodes in
    let lt : i < length graph.vertices = subst (λ (n : ℕ). i < n) c.len-end.ensures c.loop-test.true in
    let within : (i * e + 1) + e ≤ enough net graph = group_below i (length graph.vertices) (length net.latches) e refl lt in
    let progress : Progress = c.in_ok-progress.progress in
    let call : Promises net graph table t u (Ok progress) net.latches = subst (Promises net graph table t u (Ok progress)) c.latches.ensures c.in_ok-progress.ensures in
    let w = whole_exists net s.vars graph settled in
    let mine = call w.0 w.1 (i * e + 1) (subst (λ v. AreWholeRounds net v graph w.0 w.1) (sym p.keeps.vars) w.2) within (p.so w.0 w.1 w.2).has in
    let view : vec_len progress.changed ≡ length progress.changed.items = search rules in
    let some : 0 < length progress.changed.items = subst (λ (n : ℕ). 0 < n) view (not_none (vec_len progress.changed) (sym c.is_empty.ensures ∙ c.if-is_empty.false)) in
    record {
      keeps = Keeps-trans s t u p.keeps mine.spends.keeps;
      between = mine.ok.between;
      so = λ tables sets whole.
          let q = p.so tables sets whole in
          let work : List Function = rounds_work net graph tables sets in
          let there : AreWholeRounds net t.vars graph tables sets = subst (λ v. AreWholeRounds net v graph tables sets) (sym p.keeps.vars) whole in
          let Good : Store → Progress → Type 0 = IsProgress net graph tables ((i * e + 1) + e) in
          let b : Built work Good t u (Ok progress) = call tables sets (i * e + 1) there within q.has in
          let so = more work Good s t u (Ok progress) gt gu q.so b in
          record { so = so; has = subst (λ m. HasStates (tables m) (length graph.vertices) u progress.table.items) (next_group i e) (b.ok.more some) };
    }

pub returns-in_err-progress : goal.returns-in_err-progress
returns-in_err-progress g c = λ tables sets whole.
    let s : Store = g.N.Nodes.store c.args.nodes.now in
    let t : Store = g.N.Nodes.store c.loop.nodes in
    let gs = g.met.N.Nodes.diagram c.args.nodes.now in
    let gt = g.met.N.Nodes.diagram c.loop.nodes in
    let net : RawNet = c.args.net.now.raw in
    let graph : Graph = c.args.graph.now in
    let settled : IsSettled net = settled_by_order net c.args.net.now.settled c.args.net.now.in_order in
    let table : List State = c.loop.progress.table.items in
    let i = c.loop.counter in
    let e = length net.latches * 2 + 1 in
    let p = c.loop.invariant in
    let u : Store = g.N.Nodes.store c.more_rounds.new.nodes in
    let gu = g.met.N.Nodes.diagram c.more_rounds.new.nodes in
    let lt : i < length graph.vertices = subst (λ (n : ℕ). i < n) c.len-end.ensures c.loop-test.true in
    let within : (i * e + 1) + e ≤ enough net graph = group_below i (length graph.vertices) (length net.latches) e refl lt in
    let q = p.so tables sets whole in
    let work : List Function = rounds_work net graph tables sets in
    let there : AreWholeRounds net t.vars graph tables sets = subst (λ v. AreWholeRounds net v graph tables sets) (sym p.keeps.vars) whole in
    let Good : Store → Progress → Type 0 = IsProgress net graph tables ((i * e + 1) + e) in
    let fault = c.in_err-progress.field-0.0 in
    let call : Promises net graph table t u (Err fault) net.latches = subst (Promises net graph table t u (Err fault)) c.latches.ensures c.in_err-progress.ensures in
    pass work Good (IsLast net graph (tables (enough net graph))) s t u fault c.from_residual.result gt gu q.so (call tables sets (i * e + 1) there within q.has) c.from_residual.ensures.1

pub returns-then-is_empty : goal.returns-then-is_empty
returns-then-is_empty g c = λ tables sets whole.
    let s : Store = g.N.Nodes.store c.args.nodes.now in
    let t : Store = g.N.Nodes.store c.loop.nodes in
    let gs = g.met.N.Nodes.diagram c.args.nodes.now in
    let gt = g.met.N.Nodes.diagram c.loop.nodes in
    let net : RawNet = c.args.net.now.raw in
    let graph : Graph = c.args.graph.now in
    let settled : IsSettled net = settled_by_order net c.args.net.now.settled c.args.net.now.in_order in
    let table : List State = c.loop.progress.table.items in
    let i = c.loop.counter in
    let e = length net.latches * 2 + 1 in
    let p = c.loop.invariant in
    let u : Store = g.N.Nodes.store c.more_rounds.new.nodes in
    let gu = g.met.N.Nodes.diagram c.more_rounds.new.nodes in
    let lt : i < length graph.vertices = subst (λ (n : ℕ). i < n) c.len-end.ensures c.loop-test.true in
    let within : (i * e + 1) + e ≤ enough net graph = group_below i (length graph.vertices) (length net.latches) e refl lt in
    let q = p.so tables sets whole in
    let work : List Function = rounds_work net graph tables sets in
    let there : AreWholeRounds net t.vars graph tables sets = subst (λ v. AreWholeRounds net v graph tables sets) (sym p.keeps.vars) whole in
    let Good : Store → Progress → Type 0 = IsProgress net graph tables ((i * e + 1) + e) in
    let progress : Progress = c.in_ok-progress.progress in
    let call : Promises net graph table t u (Ok progress) net.latches = subst (Promises net graph table t u (Ok progress)) c.latches.ensures c.in_ok-progress.ensures in
    let b : Built work Good t u (Ok progress) = call tables sets (i * e + 1) there within q.has in
    let so = more work Good s t u (Ok progress) gt gu q.so b in
    let view : vec_len progress.changed ≡ length progress.changed.items = search rules in
    let none : length progress.changed.items ≡ 0 = sym view ∙ eqb-true (vec_len progress.changed) 0 (sym c.is_empty.ensures ∙ c.if-is_empty.true) in
    Built-made work (IsLast net graph (tables (enough net graph))) s u progress so (record { between = b.ok.between; has = b.ok.done none })

pub returns : goal.returns
returns g c = λ tables sets whole.
    let s : Store = g.N.Nodes.store c.args.nodes.now in
    let t : Store = g.N.Nodes.store c.loop.nodes in
    let gs = g.met.N.Nodes.diagram c.args.nodes.now in
    let gt = g.met.N.Nodes.diagram c.loop.nodes in
    let net : RawNet = c.args.net.now.raw in
    let graph : Graph = c.args.graph.now in
    let settled : IsSettled net = settled_by_order net c.args.net.now.settled c.args.net.now.in_order in
    let table : List State = c.loop.progress.table.items in
    let i = c.loop.counter in
    let e = length net.latches * 2 + 1 in
    let p = c.loop.invariant in
    let v = length graph.vertices in
    let end : i ≡ v = (let le = c.loop-test.false in let at = c.loop.auto.counter-end in let n : c.len-end.result ≡ v = c.len-end.ensures in omega (arith, le, at, n)) in
    let is : v * e + 1 ≡ enough net graph = all_rounds v (length net.latches) e refl in
    let q = p.so tables sets whole in
    let work : List Function = rounds_work net graph tables sets in
    let last : HasStates (tables (enough net graph)) v t table = subst (λ (n : ℕ). HasStates (tables n) v t table) (ap (λ (n : ℕ). n * e + 1) end ∙ is) q.has in
    Built-made work (IsLast net graph (tables (enough net graph))) s t c.loop.progress q.so (record { between = p.between; has = last })

pub more_rounds-requires-clause-graph : goal.more_rounds-requires-clause-graph
more_rounds-requires-clause-graph g c = subst (λ v. IsGraphOver c.args.net.now.raw v c.args.graph.now) (sym c.loop.invariant.keeps.vars) c.requires.graph

pub more_rounds-requires-clause-start : goal.more_rounds-requires-clause-start
more_rounds-requires-clause-start g c = c.loop.invariant.between
