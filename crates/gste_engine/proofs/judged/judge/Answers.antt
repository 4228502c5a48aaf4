use Rattle.std.proofs.Common.{◌≡◌, ◌<◌, ℕ, List, length, sym, ap, ◌∙◌, subst, All, Result, Ok, Err}
use Rattle.ste_base.specs.Functions.{Function}
use Rattle.dd_nodes.specs.Stores.{Store}
use Rattle.dd_nodes.proofs.Stores.{Keeps-trans}
use Rattle.dd_ops.specs.declared.fault.OpFault.{OpFault}
use Rattle.net_core.specs.declared.raw.RawNet.{RawNet}
use Rattle.net_core.specs.Run.{IsSettled}
use Rattle.net_core.specs.Work.{SymbolicSet, sum}
use Rattle.net_core.proofs.Ordered.{settled_by_order}
use Rattle.dual_rail.specs.Rail.{Built}
use Rattle.dual_rail.proofs.Works.{Built-made, Built-wider, So-start, first, more, pass}
use Rattle.engine_parts.specs.declared.results.Results.{Results}
use Rattle.ste_model.specs.declared.task.Bind.{Bind}
use Rattle.ste_model.specs.declared.task.Edge.{Edge}
use Rattle.ste_model.specs.declared.task.Graph.{Graph}
use Rattle.ste_model.specs.GraphNeed.{BindsReadBelow}
use Rattle.ste_model.specs.GraphTable.{enough}
use Rattle.ste_model.specs.GraphWork.{SymbolicState, graph_work}
use Rattle.gste_engine.specs.declared.found.Findings.{Findings}
use Rattle.gste_engine.specs.declared.judged.Judged.{Judged}
use Rattle.gste_engine.specs.declared.rounds.Known.{Known}
use Rattle.gste_engine.specs.declared.state.State.{State}
use Rattle.gste_engine.specs.private.Rounds.{AreGivenFrom, IsSettledOn}
use Rattle.gste_engine.specs.private.Seen.{AreSeen}
use Rattle.dual_rail.specs.declared.rails.Rails.{Rails}
use Rattle.gste_engine.specs.Tables.{AreEdgesOver, AreStateRefs, HasStates, rounds_work}
use Rattle.gste_engine.specs.private.EdgeFinds.{AreAllFound, AreEndings, all_found_work, ending_work, feasible_of, kept_of, strong_of, weak_of}
use Rattle.gste_engine.specs.private.Judged.{AreGraphResults}
use Rattle.gste_engine.proofs.GraphParts.{all_found_in, ending_in, graph_refs, rounds_in}
use Rattle.gste_engine.proofs.Judging.{FindsAll, all_call, all_left}
use Rattle.gste_engine.proofs.KeptRefs.{Refs-held}
use Rattle.gste_engine.proofs.StateRefs.{States-keep}
use Rattle.gste_engine.proofs.Starts.{whole_exists}
use Rattle.gste_engine.proofs.judged.judge.Goals as goal

abbrev IsJudged : RawNet → Graph → (ℕ → ℕ → SymbolicState) → (ℕ → Edge → ℕ → SymbolicSet) → Store → Judged → Type 0
IsJudged net graph tables sets t r = AreGraphResults net graph (tables (enough net graph)) (sets (enough net graph)) t r.table r.results

abbrev AreWanted : RawNet → ℕ → List Edge → Type 0
AreWanted net vars edges = All (λ (edge : Edge). All (λ (bind : Bind). bind.node.0 < net.nets) edge.con × BindsReadBelow vars edge.con) edges

pub returns-in_err-last : goal.returns-in_err-last
returns-in_err-last g c = λ tables sets whole.
    let s : Store = g.N.Nodes.store c.args.nodes.now in
    let t : Store = g.N.Nodes.store c.settled_table.new.nodes in
    let gs = g.met.N.Nodes.diagram c.args.nodes.now in
    let gt = g.met.N.Nodes.diagram c.settled_table.new.nodes in
    let net : RawNet = c.args.net.now.raw in
    let graph : Graph = c.args.graph.now in
    let work : List Function = graph_work net graph tables sets in
    let N : ℕ = enough net graph in
    let HasLast : Store → Known → Type 0 = IsSettledOn net graph (tables N) in
    let Finds : Store → Findings → Type 0 = AreAllFound net (tables N) (sets N) graph.edges in
    let fault = c.in_err-last.field-0.0 in
    pass work HasLast (IsJudged net graph tables sets) s s t fault c.from_residual.result gs gt (So-start work s)
    (Built-wider work (rounds_work net graph tables sets) HasLast s t (Err fault) (rounds_in net graph tables sets) (c.in_err-last.ensures tables sets whole)) c.from_residual.ensures.1

pub returns-in_err-found : goal.returns-in_err-found
returns-in_err-found g c = λ tables sets whole.
    let s : Store = g.N.Nodes.store c.args.nodes.now in
    let t : Store = g.N.Nodes.store c.settled_table.new.nodes in
    let gs = g.met.N.Nodes.diagram c.args.nodes.now in
    let gt = g.met.N.Nodes.diagram c.settled_table.new.nodes in
    let net : RawNet = c.args.net.now.raw in
    let graph : Graph = c.args.graph.now in
    let u : Store = g.N.Nodes.store c.all_found.new.nodes in
    let gu = g.met.N.Nodes.diagram c.all_found.new.nodes in
    let work : List Function = graph_work net graph tables sets in
    let N : ℕ = enough net graph in
    let HasLast : Store → Known → Type 0 = IsSettledOn net graph (tables N) in
    let Finds : Store → Findings → Type 0 = AreAllFound net (tables N) (sets N) graph.edges in
    let known : Known = c.in_ok-last.last in
    let table : List State = known.table.items in
    let a : Built work HasLast s t (Ok known) = Built-wider work (rounds_work net graph tables sets) HasLast s t (Ok known) (rounds_in net graph tables sets) (c.in_ok-last.ensures tables sets whole) in
    let so1 = first work HasLast s t (Ok known) a in
    let fault = c.in_err-found.field-0.0 in
    let made : Result Findings OpFault = Err fault in
    let call : FindsAll net graph.edges table t u made = subst (λ (xs : List State). FindsAll net graph.edges xs t u made) c.as_slice-2.ensures.value (subst (λ (es : List Edge). FindsAll net es c.as_slice-2.result.now t u made) c.as_slice.ensures c.in_err-found.ensures) in
    let b : Built work Finds t u made = Built-wider work (all_found_work net (tables N) (sets N) graph.edges) Finds t u made (all_found_in net graph tables sets) (all_call net graph tables sets s t u table made whole a.spends.keeps a.ok.has call) in
    pass work Finds (IsJudged net graph tables sets) s t u fault c.from_residual-in_err-found.result gt gu so1 b c.from_residual-in_err-found.ensures.1

pub returns-in_err-results : goal.returns-in_err-results
returns-in_err-results g c = λ tables sets whole.
    let s : Store = g.N.Nodes.store c.args.nodes.now in
    let t : Store = g.N.Nodes.store c.settled_table.new.nodes in
    let gs = g.met.N.Nodes.diagram c.args.nodes.now in
    let gt = g.met.N.Nodes.diagram c.settled_table.new.nodes in
    let net : RawNet = c.args.net.now.raw in
    let graph : Graph = c.args.graph.now in
    let u : Store = g.N.Nodes.store c.all_found.new.nodes in
    let gu = g.met.N.Nodes.diagram c.all_found.new.nodes in
    let v : Store = g.N.Nodes.store c.ending.new.nodes in
    let gv = g.met.N.Nodes.diagram c.ending.new.nodes in
    let work : List Function = graph_work net graph tables sets in
    let N : ℕ = enough net graph in
    let HasLast : Store → Known → Type 0 = IsSettledOn net graph (tables N) in
    let Finds : Store → Findings → Type 0 = AreAllFound net (tables N) (sets N) graph.edges in
    let known : Known = c.in_ok-last.last in
    let table : List State = known.table.items in
    let a : Built work HasLast s t (Ok known) = Built-wider work (rounds_work net graph tables sets) HasLast s t (Ok known) (rounds_in net graph tables sets) (c.in_ok-last.ensures tables sets whole) in
    let so1 = first work HasLast s t (Ok known) a in
    let found : Findings = c.in_ok-found.found in
    let made : Result Findings OpFault = Ok found in
    let call : FindsAll net graph.edges table t u made = subst (λ (xs : List State). FindsAll net graph.edges xs t u made) c.as_slice-2.ensures.value (subst (λ (es : List Edge). FindsAll net es c.as_slice-2.result.now t u made) c.as_slice.ensures c.in_ok-found.ensures) in
    let b : Built work Finds t u made = Built-wider work (all_found_work net (tables N) (sets N) graph.edges) Finds t u made (all_found_in net graph tables sets) (all_call net graph tables sets s t u table made whole a.spends.keeps a.ok.has call) in
    let F : Function = sum (strong_of net (tables N) (sets N) graph.edges) in
    let H : Function = sum (weak_of net (tables N) (sets N) graph.edges) in
    let E : Function = sum (feasible_of net (tables N) (sets N) graph.edges) in
    let so2 = more work Finds s t u made gt gu so1 b in
    let fault = c.in_err-results.field-0.0 in
    pass work (AreEndings F H E) (IsJudged net graph tables sets) s u v fault c.from_residual-in_err-results.result gu gv so2
    (Built-wider work (ending_work F H E) (AreEndings F H E) u v (Err fault) (ending_in net graph tables sets) (c.in_err-results.ensures F H E b.ok.found)) c.from_residual-in_err-results.ensures.1

pub returns : goal.returns
returns g c = λ tables sets whole.
    let s : Store = g.N.Nodes.store c.args.nodes.now in
    let t : Store = g.N.Nodes.store c.settled_table.new.nodes in
    let gs = g.met.N.Nodes.diagram c.args.nodes.now in
    let gt = g.met.N.Nodes.diagram c.settled_table.new.nodes in
    let net : RawNet = c.args.net.now.raw in
    let graph : Graph = c.args.graph.now in
    let u : Store = g.N.Nodes.store c.all_found.new.nodes in
    let gu = g.met.N.Nodes.diagram c.all_found.new.nodes in
    let v : Store = g.N.Nodes.store c.ending.new.nodes in
    let gv = g.met.N.Nodes.diagram c.ending.new.nodes in
    let work : List Function = graph_work net graph tables sets in
    let N : ℕ = enough net graph in
    let HasLast : Store → Known → Type 0 = IsSettledOn net graph (tables N) in
    let Finds : Store → Findings → Type 0 = AreAllFound net (tables N) (sets N) graph.edges in
    let known : Known = c.in_ok-last.last in
    let table : List State = known.table.items in
    let a : Built work HasLast s t (Ok known) = Built-wider work (rounds_work net graph tables sets) HasLast s t (Ok known) (rounds_in net graph tables sets) (c.in_ok-last.ensures tables sets whole) in
    let so1 = first work HasLast s t (Ok known) a in
    let found : Findings = c.in_ok-found.found in
    let made : Result Findings OpFault = Ok found in
    let call : FindsAll net graph.edges table t u made = subst (λ (xs : List State). FindsAll net graph.edges xs t u made) c.as_slice-2.ensures.value (subst (λ (es : List Edge). FindsAll net es c.as_slice-2.result.now t u made) c.as_slice.ensures c.in_ok-found.ensures) in
    let b : Built work Finds t u made = Built-wider work (all_found_work net (tables N) (sets N) graph.edges) Finds t u made (all_found_in net graph tables sets) (all_call net graph tables sets s t u table made whole a.spends.keeps a.ok.has call) in
    let F : Function = sum (strong_of net (tables N) (sets N) graph.edges) in
    let H : Function = sum (weak_of net (tables N) (sets N) graph.edges) in
    let E : Function = sum (feasible_of net (tables N) (sets N) graph.edges) in
    let so2 = more work Finds s t u made gt gu so1 b in
    let results : Results = c.in_ok-results.results in
    let d : Built work (AreEndings F H E) u v (Ok results) = Built-wider work (ending_work F H E) (AreEndings F H E) u v (Ok results) (ending_in net graph tables sets) (c.in_ok-results.ensures F H E b.ok.found) in
    let keeps = Keeps-trans t u v b.spends.keeps d.spends.keeps in
    Built-made work (IsJudged net graph tables sets) s v (record { table = c.from-table.result; results = results }) (more work (AreEndings F H E) s u v (Ok results) gu gv so2 d)
    (record {
      states = subst (λ (rs : List State). HasStates (tables N) (length graph.vertices) v rs) (sym {A = List State} c.from-table.ensures) (States-keep (tables N) (length graph.vertices) t v table gt gv keeps a.ok.has);
      strong = d.ok.strong;
      weak = d.ok.weak;
      contradictory = d.ok.contradictory;
      kept = graph_refs net graph (tables N) (sets N) v.vars v results (Refs-held u v (kept_of net (sets N) graph.edges) gu gv d.spends.keeps b.ok.kept) d.ok.strong d.ok.weak d.ok.contradictory;
    })

pub all_found-requires-clause-edges : goal.all_found-requires-clause-edges
all_found-requires-clause-edges g c =
    let s : Store = g.N.Nodes.store c.args.nodes.now in
    let t : Store = g.N.Nodes.store c.settled_table.new.nodes in
    let gs = g.met.N.Nodes.diagram c.args.nodes.now in
    let gt = g.met.N.Nodes.diagram c.settled_table.new.nodes in
    let net : RawNet = c.args.net.now.raw in
    let graph : Graph = c.args.graph.now in
    let settled : IsSettled net = settled_by_order net c.args.net.now.settled c.args.net.now.in_order in
    let known : Known = c.in_ok-last.last in
    let table : List State = known.table.items in
    let exists = whole_exists net s.vars graph settled in
    let a = c.in_ok-last.ensures exists.0 exists.1 exists.2 in
    let vars = a.spends.keeps.vars in
    let long : length c.as_slice-2.result.now ≡ length graph.vertices = ap (λ (xs : List State). length xs) c.as_slice-2.ensures.value ∙ a.ok.has.long in
    subst (λ (es : List Edge). AreEdgesOver net t.vars (length c.as_slice-2.result.now) es) (sym {A = List Edge} c.as_slice.ensures)
    (subst (λ w. AreEdgesOver net w (length c.as_slice-2.result.now) graph.edges) (sym vars)
    (subst (λ n. AreEdgesOver net s.vars n graph.edges) (sym long) c.requires.graph.edges))

pub all_found-requires-clause-wanted : goal.all_found-requires-clause-wanted
all_found-requires-clause-wanted g c =
    let s : Store = g.N.Nodes.store c.args.nodes.now in
    let t : Store = g.N.Nodes.store c.settled_table.new.nodes in
    let gs = g.met.N.Nodes.diagram c.args.nodes.now in
    let gt = g.met.N.Nodes.diagram c.settled_table.new.nodes in
    let net : RawNet = c.args.net.now.raw in
    let graph : Graph = c.args.graph.now in
    let settled : IsSettled net = settled_by_order net c.args.net.now.settled c.args.net.now.in_order in
    let known : Known = c.in_ok-last.last in
    let table : List State = known.table.items in
    let exists = whole_exists net s.vars graph settled in
    let a = c.in_ok-last.ensures exists.0 exists.1 exists.2 in
    let vars = a.spends.keeps.vars in
    subst (λ (es : List Edge). AreWanted net t.vars es) (sym {A = List Edge} c.as_slice.ensures) (subst (λ w. AreWanted net w graph.edges) (sym vars) c.requires.consequents)

pub all_found-requires-clause-table : goal.all_found-requires-clause-table
all_found-requires-clause-table g c =
    let s : Store = g.N.Nodes.store c.args.nodes.now in
    let t : Store = g.N.Nodes.store c.settled_table.new.nodes in
    let gs = g.met.N.Nodes.diagram c.args.nodes.now in
    let gt = g.met.N.Nodes.diagram c.settled_table.new.nodes in
    let net : RawNet = c.args.net.now.raw in
    let graph : Graph = c.args.graph.now in
    let settled : IsSettled net = settled_by_order net c.args.net.now.settled c.args.net.now.in_order in
    let known : Known = c.in_ok-last.last in
    let table : List State = known.table.items in
    let exists = whole_exists net s.vars graph settled in
    let a = c.in_ok-last.ensures exists.0 exists.1 exists.2 in
    let vars = a.spends.keeps.vars in
    let refs : All (AreStateRefs t net) table = a.ok.refs in
    subst (λ (xs : List State). All (AreStateRefs t net) xs) (sym {A = List State} c.as_slice-2.ensures.value) refs

pub ending-requires : goal.ending-requires
ending-requires g c =
    let s : Store = g.N.Nodes.store c.args.nodes.now in
    let t : Store = g.N.Nodes.store c.settled_table.new.nodes in
    let gs = g.met.N.Nodes.diagram c.args.nodes.now in
    let gt = g.met.N.Nodes.diagram c.settled_table.new.nodes in
    let net : RawNet = c.args.net.now.raw in
    let graph : Graph = c.args.graph.now in
    let u : Store = g.N.Nodes.store c.all_found.new.nodes in
    let gu = g.met.N.Nodes.diagram c.all_found.new.nodes in
    let settled : IsSettled net = settled_by_order net c.args.net.now.settled c.args.net.now.in_order in
    let known : Known = c.in_ok-last.last in
    let table : List State = known.table.items in
    let exists = whole_exists net s.vars graph settled in
    let a = c.in_ok-last.ensures exists.0 exists.1 exists.2 in
    let vars = a.spends.keeps.vars in
    let refs : All (AreStateRefs t net) table = a.ok.refs in
    let found : Findings = c.in_ok-found.found in
    let made : Result Findings OpFault = Ok found in
    let call : FindsAll net graph.edges table t u made = subst (λ (xs : List State). FindsAll net graph.edges xs t u made) c.as_slice-2.ensures.value (subst (λ (es : List Edge). FindsAll net es c.as_slice-2.result.now t u made) c.as_slice.ensures c.in_ok-found.ensures) in
    let own = all_left net graph.edges table t u made gt settled refs call in
    let are = own.2.ok.found in
    record { found = record { strong = are.strong.ref; weak = are.weak.ref; feasible = are.feasible.ref } }

pub all_found-requires-clause-givens : goal.all_found-requires-clause-givens
all_found-requires-clause-givens g c =
    let s : Store = g.N.Nodes.store c.args.nodes.now in
    let t : Store = g.N.Nodes.store c.settled_table.new.nodes in
    let gs = g.met.N.Nodes.diagram c.args.nodes.now in
    let gt = g.met.N.Nodes.diagram c.settled_table.new.nodes in
    let net : RawNet = c.args.net.now.raw in
    let graph : Graph = c.args.graph.now in
    let settled : IsSettled net = settled_by_order net c.args.net.now.settled c.args.net.now.in_order in
    let known : Known = c.in_ok-last.last in
    let table : List State = known.table.items in
    let exists = whole_exists net s.vars graph settled in
    let a = c.in_ok-last.ensures exists.0 exists.1 exists.2 in
    let vars = a.spends.keeps.vars in
    subst (λ (es : List Edge). AreGivenFrom t net es c.as_slice-2.result.now c.as_slice-3.result.now) (sym {A = List Edge} c.as_slice.ensures)
    (subst (λ (xs : List State). AreGivenFrom t net graph.edges xs c.as_slice-3.result.now) (sym {A = List State} c.as_slice-2.ensures.value)
    (subst (λ (xs : List State). AreGivenFrom t net graph.edges table xs) (sym {A = List State} c.as_slice-3.ensures.value) a.ok.given))

pub all_found-requires-clause-seen : goal.all_found-requires-clause-seen
all_found-requires-clause-seen g c =
    let s : Store = g.N.Nodes.store c.args.nodes.now in
    let t : Store = g.N.Nodes.store c.settled_table.new.nodes in
    let gs = g.met.N.Nodes.diagram c.args.nodes.now in
    let gt = g.met.N.Nodes.diagram c.settled_table.new.nodes in
    let net : RawNet = c.args.net.now.raw in
    let graph : Graph = c.args.graph.now in
    let settled : IsSettled net = settled_by_order net c.args.net.now.settled c.args.net.now.in_order in
    let known : Known = c.in_ok-last.last in
    let table : List State = known.table.items in
    let exists = whole_exists net s.vars graph settled in
    let a = c.in_ok-last.ensures exists.0 exists.1 exists.2 in
    let vars = a.spends.keeps.vars in
    subst (λ (es : List Edge). AreSeen t net es c.as_slice-2.result.now c.as_slice-4.result.now) (sym {A = List Edge} c.as_slice.ensures)
    (subst (λ (xs : List State). AreSeen t net graph.edges xs c.as_slice-4.result.now) (sym {A = List State} c.as_slice-2.ensures.value)
    (subst (λ (xs : List (List Rails)). AreSeen t net graph.edges table xs) (sym {A = List (List Rails)} c.as_slice-4.ensures.value) a.ok.seen))
