use Rattle.std.proofs.Common.{◌≡◌, ◌+◌, ◌<◌, ℕ, List, length, get_or, take, sym, ◌∙◌, subst, arith, All, Ok, Err}
use Rattle.std.proofs.lemmas.List.{get_or_default, take_all}
use Rattle.ste_base.specs.Functions.{Function}
use Rattle.dd_nodes.specs.Stores.{Store}
use Rattle.dd_nodes.proofs.Stores.{Keeps-refl, Keeps-trans}
use Rattle.ste_model.specs.declared.task.Edge.{Edge}
use Rattle.ste_model.specs.declared.task.Graph.{Graph}
use Rattle.ste_model.specs.GraphWork.{SymbolicState}
use Rattle.dual_rail.specs.Rail.{Built}
use Rattle.dual_rail.proofs.Turns.{zip_long}
use Rattle.dual_rail.proofs.Works.{Built-made, So-start, first, lost, pass}
use Rattle.gste_engine.specs.declared.links.End.TheVariants.{To}
use Rattle.gste_engine.specs.declared.links.Links.{Links}
use Rattle.gste_engine.specs.declared.state.State.{State}
use Rattle.gste_engine.specs.Tables.{AreStateRefs, IsState}
use Rattle.gste_engine.specs.private.Links.{AreLinks, IsNextAt}
use Rattle.gste_engine.specs.private.Sums.{arrivals_work, first_state, summed_at, with_state}
use Rattle.gste_engine.proofs.Arrivals.{first_state_refs, first_state_is, no_edge, now_at, sum_fit, sum_skips, sum_turn}
use Rattle.gste_engine.proofs.Lists.{unions_long}
use Rattle.gste_engine.proofs.StateRefs.{StateRefs-keep, own_is, own_long, own_state, state_refs}
use Rattle.gste_engine.proofs.Sweeps.{have_refs}
use Rattle.gste_engine.proofs.sums.sum_of.Goals as goal

-- the next edge that leads to the vertex
next_of : (graph : Graph) (vertex : ℕ) (into : Links) (k next : ℕ) → AreLinks To (length graph.vertices) graph.edges into → k < length graph.edges → (get_or graph.edges k no_edge).to ≡ vertex → next ≡ get_or into.next.items k next → IsNextAt To graph.edges vertex (k + 1) next
next_of graph vertex into k next links lt here is =
    let read : get_or into.next.items k 0 ≡ next = get_or_default into.next.items k 0 next (let n = links.nexts in omega (arith, n, lt)) ∙ sym is in
    subst (λ (n : ℕ). IsNextAt To graph.edges vertex (k + 1) n) read (subst (λ (v : ℕ). IsNextAt To graph.edges v (k + 1) (get_or into.next.items k 0)) here (links.next k no_edge (omega arith) lt))

pub loop-k-init : goal.loop-k-init
loop-k-init g c =
    let s : Store = g.N.Nodes.store c.args.nodes.now in
    let gs = g.met.N.Nodes.diagram c.args.nodes.now in
    let net = c.args.net.now.raw in
    let graph : Graph = c.args.graph.now in
    let vertex = c.args.vertex in
    let is : c.in_ok-first.first ≡ first_state net graph.reset vertex = c.in_ok-first.ensures in
    let k = c.index-k.result.now in
    let heads : List ℕ = c.args.into.now.first.items in
    let read : get_or heads vertex 0 ≡ k = get_or_default heads vertex 0 k (let n = c.requires.into.firsts in let i = c.requires.inside in omega (arith, n, i)) ∙ sym c.index-k.ensures in
    let at : IsNextAt To graph.edges vertex 0 k = subst (λ (n : ℕ). IsNextAt To graph.edges vertex 0 n) read (c.requires.into.first vertex c.requires.inside) in
    record {
      keeps = Keeps-refl s;
      most = at.most;
      here = at.here;
      refs = subst (AreStateRefs s net) (sym {A = State} is) (first_state_refs net graph.reset vertex s gs);
      so = λ given zip. record {
        so = So-start (arrivals_work net graph given) s;
        fit = subst (λ (x : SymbolicState). IsState s x c.in_ok-first.first) (sym (sum_skips net graph.reset given graph.edges vertex 0 k at))
            (subst (λ (r : State). IsState s (summed_at net graph.reset given (take 0 graph.edges) vertex) r) (sym {A = State} is) (first_state_is net graph.reset given s vertex gs));
      };
    }

pub loop-k-preserved : goal.loop-k-preserved
loop-k-preserved g c =
    let s : Store = g.N.Nodes.store c.args.nodes.now in
    let t : Store = g.N.Nodes.store c.loop-k.nodes in
    let u : Store = g.N.Nodes.store c.with_state.new.nodes in
    let gs = g.met.N.Nodes.diagram c.args.nodes.now in
    let gt = g.met.N.Nodes.diagram c.loop-k.nodes in
    let gu = g.met.N.Nodes.diagram c.with_state.new.nodes in
    let net = c.args.net.now.raw in
    let graph : Graph = c.args.graph.now in
    let givens : List State = c.args.givens.now in
    let vertex = c.args.vertex in
    let sum : State = c.loop-k.sum in
    let k = c.loop-k.k in
    let p = c.loop-k.invariant in
    let have = c.requires.givens in
    let count : length graph.edges ≡ length givens = zip_long (λ (edge : Edge) (r : State). IsState s (have.given edge) r) graph.edges givens have.are in
    let lt : k < length graph.edges = omega (arith, count, c.loop-k-test.true) in
    let here : (get_or graph.edges k no_edge).to ≡ vertex = p.here no_edge lt in
    let other : State = c.index-givens-k.result in
    let is_other : other ≡ get_or givens k other = c.index-givens-k.is in
    let refs : All (AreStateRefs s net) givens = have_refs s net graph.edges givens have in
    let after : State = c.in_ok-sum.sum in
    let hx : AreStateRefs t net sum = p.refs in
    let hy : AreStateRefs t net other = StateRefs-keep s t net other p.keeps (subst (AreStateRefs s net) (sym is_other) (refs k other c.loop-k-test.true)) in
    let x : SymbolicState = own_state t sum in
    let y : SymbolicState = own_state t other in
    let mine = c.in_ok-sum.ensures x y (own_is t net sum hx) (own_is t net other hy) in
    let keeps = mine.spends.keeps in
    let wide : length (with_state x y).latches ≡ length net.latches = unions_long x.latches y.latches (own_long t net sum hx ∙ sym (own_long t net other hy)) ∙ own_long t net other hy in
    let next = c.index-k-in-loop-k.result.now in
    let at : IsNextAt To graph.edges vertex (k + 1) next = next_of graph vertex c.args.into.now k next c.requires.into lt here c.index-k-in-loop-k.ensures in
    record {
      keeps = Keeps-trans s t u p.keeps keeps;
      most = at.most;
      here = at.here;
      refs = state_refs u net (with_state x y) after wide mine.ok;
      so = λ given zip.
          let q = p.so given zip in
          let Good : Store → State → Type 0 = λ w r. IsState w (now_at net graph given s t u vertex k no_edge sum other givens gs gt gu lt c.requires.inside here zip refs p.keeps q) r in
          let b : Built (arrivals_work net graph given) Good s u (Ok after) = sum_turn net graph given s t u vertex k no_edge sum other givens gs gt gu lt c.requires.inside here zip refs p.keeps q is_other (Ok after) c.in_ok-sum.ensures in
          record {
            so = first (arrivals_work net graph given) Good s u (Ok after) b;
            fit = sum_fit net graph given s t u vertex k no_edge sum other givens gs gt gu lt c.requires.inside here zip refs p.keeps q after next at b.ok;
          };
    }

pub returns-in_err-first : goal.returns-in_err-first
returns-in_err-first g c = λ given zip.
    let s : Store = g.N.Nodes.store c.args.nodes.now in
    let net = c.args.net.now.raw in
    let graph : Graph = c.args.graph.now in
    let work : List Function = arrivals_work net graph given in
    lost work (λ t (r : State). IsState t (summed_at net graph.reset given graph.edges c.args.vertex) r) s s c.from_residual.result (So-start work s) c.from_residual.ensures.1

pub returns-in_err-sum : goal.returns-in_err-sum
returns-in_err-sum g c = λ given zip.
    let s : Store = g.N.Nodes.store c.args.nodes.now in
    let t : Store = g.N.Nodes.store c.loop-k.nodes in
    let u : Store = g.N.Nodes.store c.with_state.new.nodes in
    let gs = g.met.N.Nodes.diagram c.args.nodes.now in
    let gt = g.met.N.Nodes.diagram c.loop-k.nodes in
    let gu = g.met.N.Nodes.diagram c.with_state.new.nodes in
    let net = c.args.net.now.raw in
    let graph : Graph = c.args.graph.now in
    let givens : List State = c.args.givens.now in
    let vertex = c.args.vertex in
    let sum : State = c.loop-k.sum in
    let k = c.loop-k.k in
    let p = c.loop-k.invariant in
    let have = c.requires.givens in
    let count : length graph.edges ≡ length givens = zip_long (λ (edge : Edge) (r : State). IsState s (have.given edge) r) graph.edges givens have.are in
    let lt : k < length graph.edges = omega (arith, count, c.loop-k-test.true) in
    let here : (get_or graph.edges k no_edge).to ≡ vertex = p.here no_edge lt in
    let other : State = c.index-givens-k.result in
    let is_other : other ≡ get_or givens k other = c.index-givens-k.is in
    let refs : All (AreStateRefs s net) givens = have_refs s net graph.edges givens have in
    let work : List Function = arrivals_work net graph given in
    let Last : Store → State → Type 0 = λ t r. IsState t (summed_at net graph.reset given graph.edges vertex) r in
    let q = p.so given zip in
    let Good : Store → State → Type 0 = λ w r. IsState w (now_at net graph given s t u vertex k no_edge sum other givens gs gt gu lt c.requires.inside here zip refs p.keeps q) r in
    let fault = c.in_err-sum.field-0.0 in
    pass work Good Last s s u fault c.from_residual-in_err-sum.result gs gu (So-start work s)
    (sum_turn net graph given s t u vertex k no_edge sum other givens gs gt gu lt c.requires.inside here zip refs p.keeps q is_other (Err fault) c.in_err-sum.ensures) c.from_residual-in_err-sum.ensures.1

pub returns : goal.returns
returns g c = λ given zip.
    let s : Store = g.N.Nodes.store c.args.nodes.now in
    let t : Store = g.N.Nodes.store c.loop-k.nodes in
    let net = c.args.net.now.raw in
    let graph : Graph = c.args.graph.now in
    let givens : List State = c.args.givens.now in
    let sum : State = c.loop-k.sum in
    let k = c.loop-k.k in
    let p = c.loop-k.invariant in
    let have = c.requires.givens in
    let q = p.so given zip in
    let work : List Function = arrivals_work net graph given in
    let Last : Store → State → Type 0 = λ t r. IsState t (summed_at net graph.reset given graph.edges c.args.vertex) r in
    let count : length graph.edges ≡ length givens = zip_long (λ (edge : Edge) (r : State). IsState s (have.given edge) r) graph.edges givens have.are in
    let end : take k graph.edges ≡ graph.edges = take_all k graph.edges (omega (arith, count, c.loop-k-test.false)) in
    Built-made work Last s t sum q.so (subst (λ (xs : List Edge). IsState t (summed_at net graph.reset given xs c.args.vertex) sum) end q.fit)

pub with_state-requires-clause-long : goal.with_state-requires-clause-long
with_state-requires-clause-long g c =
    let s : Store = g.N.Nodes.store c.args.nodes.now in
    let net = c.args.net.now.raw in
    let givens : List State = c.args.givens.now in
    let k = c.loop-k.k in
    let refs : All (AreStateRefs s net) givens = have_refs s net c.args.graph.now.edges givens c.requires.givens in
    let other : State = c.index-givens-k.result in
    let more : AreStateRefs s net other = subst (AreStateRefs s net) (sym c.index-givens-k.is) (refs k other c.loop-k-test.true) in
    c.loop-k.invariant.refs.long ∙ sym more.long

pub with_state-requires-clause-more_reached : goal.with_state-requires-clause-more_reached
with_state-requires-clause-more_reached g c =
    let s : Store = g.N.Nodes.store c.args.nodes.now in
    let t : Store = g.N.Nodes.store c.loop-k.nodes in
    let net = c.args.net.now.raw in
    let givens : List State = c.args.givens.now in
    let k = c.loop-k.k in
    let refs : All (AreStateRefs s net) givens = have_refs s net c.args.graph.now.edges givens c.requires.givens in
    let other : State = c.index-givens-k.result in
    let more : AreStateRefs t net other = StateRefs-keep s t net other c.loop-k.invariant.keeps (subst (AreStateRefs s net) (sym c.index-givens-k.is) (refs k other c.loop-k-test.true)) in
    more.reached

pub with_state-requires-clause-more_latches : goal.with_state-requires-clause-more_latches
with_state-requires-clause-more_latches g c =
    let s : Store = g.N.Nodes.store c.args.nodes.now in
    let t : Store = g.N.Nodes.store c.loop-k.nodes in
    let net = c.args.net.now.raw in
    let givens : List State = c.args.givens.now in
    let k = c.loop-k.k in
    let refs : All (AreStateRefs s net) givens = have_refs s net c.args.graph.now.edges givens c.requires.givens in
    let other : State = c.index-givens-k.result in
    let more : AreStateRefs t net other = StateRefs-keep s t net other c.loop-k.invariant.keeps (subst (AreStateRefs s net) (sym c.index-givens-k.is) (refs k other c.loop-k-test.true)) in
    more.latches

pub index-k-requires-in-loop-k : goal.index-k-requires-in-loop-k
index-k-requires-in-loop-k g c =
    let s : Store = g.N.Nodes.store c.args.nodes.now in
    let have = c.requires.givens in
    let count : length c.args.graph.now.edges ≡ length c.args.givens.now = zip_long (λ (edge : Edge) (r : State). IsState s (have.given edge) r) c.args.graph.now.edges c.args.givens.now have.are in
    let nexts = c.requires.into.nexts in
    omega (arith, count, nexts, c.loop-k-test.true)

pub loop-k-smaller : goal.loop-k-smaller
loop-k-smaller g c =
    let s : Store = g.N.Nodes.store c.args.nodes.now in
    let graph : Graph = c.args.graph.now in
    let have = c.requires.givens in
    let count : length graph.edges ≡ length c.args.givens.now = zip_long (λ (edge : Edge) (r : State). IsState s (have.given edge) r) graph.edges c.args.givens.now have.are in
    let k = c.loop-k.k in
    let lt : k < length graph.edges = omega (arith, count, c.loop-k-test.true) in
    let at = next_of graph c.args.vertex c.args.into.now k c.index-k-in-loop-k.result.now c.requires.into lt (c.loop-k.invariant.here no_edge lt) c.index-k-in-loop-k.ensures in
    let low = at.low in
    omega (arith, low, c.loop-k-test.true)
