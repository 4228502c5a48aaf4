use Rattle.std.proofs.Common.{◌≡◌, ◌<◌, ◌+◌, ℕ, List, length, sym, ◌∙◌, ap, subst, arith, Ok, Vec, Global, All}
use Rattle.dd_nodes.specs.declared.node.Ref.{Ref}
use Rattle.dd_nodes.specs.Stores.{Store, Means}
use Rattle.dd_nodes.proofs.Spending.{zero_means}
use Rattle.dd_nodes.proofs.Stores.{Keeps-refl, Keeps-trans, Means-keeps}
use Rattle.dd_nodes.proofs.Walks.{IsFrom-grows}
use Rattle.dual_rail.proofs.Works.{So-start, Built-made, first}
use Rattle.ste_model.specs.Asked.{depth}
use Rattle.exact_engine.specs.private.TimedCuts.{IsTimedCutRef}
use Rattle.exact_engine.specs.private.Bits.{AreBits, net_ref}
use Rattle.exact_engine.specs.private.Times.{AreTimes, broken_before}
use Rattle.exact_engine.proofs.Added.{ask_refs_keep, timed_cuts_keep}
use Rattle.exact_engine.proofs.Rows.{refs_keep}
use Rattle.exact_engine.proofs.AllTimes.{HasSums, add_failed, bits_failed, choice_first, choice_next, room_at, time_turn, work}
use Rattle.exact_engine.proofs.times.broken_sums.Goals as goal

pub loop-t-init : goal.loop-t-init
loop-t-init g c =
    let s : Store = g.N.Nodes.store c.args.nodes.now in
    let zero = zero_means s (g.met.N.Nodes.diagram c.args.nodes.now) in
    let net = c.args.net.now.raw in
    let task = c.args.task.now in
    let vars = c.args.vars in
    record {
      long = λ l. absurd (omega (arith, l));
      refs = λ k d l. absurd (let e = ap length c.new-bits.ensures.items in omega (arith, e, l));
      keeps = Keeps-refl s;
      ant = c.requires.ant;
      con = c.requires.con;
      ant_held = zero.ref;
      con_held = zero.ref;
      choice = c.behind_time-choice.ensures ∙ ap (λ (n : ℕ). vars + n) c.first_count.ensures ∙ choice_first net vars task;
      so = λ bit given fa fc. So-start (work net vars task bit) s;
      last = λ bit given fa fc k e. absurd (cc e);
      sums = λ bit given fa fc. record { ant = zero; con = zero };
    }

pub bits_at-requires-clause-choice : goal.bits_at-requires-clause-choice
bits_at-requires-clause-choice g c =
    let p = c.loop-t.invariant in
    let net = c.args.net.now.raw in
    let task = c.args.task.now in
    let inside : c.loop-t.t < depth task = omega (arith, c.loop-t-test.true, c.depth-times.ensures) in
    let room = room_at net c.args.vars task (g.N.Nodes.store c.args.nodes.now).vars c.loop-t.t c.requires.room inside in
    let vars = p.keeps.vars in
    let at = p.choice in
    omega (arith, room, vars, at)

pub behind_time-choice-requires-in-loop-t : goal.behind_time-choice-requires-in-loop-t
behind_time-choice-requires-in-loop-t g c =
    let p = c.loop-t.invariant in
    let net = c.args.net.now.raw in
    let task = c.args.task.now in
    let inside : c.loop-t.t < depth task = omega (arith, c.loop-t-test.true, c.depth-times.ensures) in
    let room = room_at net c.args.vars task (g.N.Nodes.store c.args.nodes.now).vars c.loop-t.t c.requires.room inside in
    let at = p.choice in
    let each = c.open_count-each.ensures in
    let limit = c.vars-limit.ensures in
    omega (arith, room, at, each, limit)

pub add_both-requires-clause-ant_sum : goal.add_both-requires-clause-ant_sum
add_both-requires-clause-ant_sum g c = IsFrom-grows (g.N.Nodes.store c.loop-t.nodes).held (g.N.Nodes.store c.bits_at.new.nodes).held 0 c.loop-t.broken.ant c.in_ok-bits.ensures.keeps.grows c.loop-t.invariant.ant_held

pub add_both-requires-clause-con_sum : goal.add_both-requires-clause-con_sum
add_both-requires-clause-con_sum g c = IsFrom-grows (g.N.Nodes.store c.loop-t.nodes).held (g.N.Nodes.store c.bits_at.new.nodes).held 0 c.loop-t.broken.con c.in_ok-bits.ensures.keeps.grows c.loop-t.invariant.con_held

pub add_both-requires-clause-ant : goal.add_both-requires-clause-ant
add_both-requires-clause-ant g c =
    let long : length c.as_slice-in-loop-t.result.now ≡ c.args.net.now.raw.nets = ap length c.as_slice-in-loop-t.ensures.value ∙ c.in_ok-bits.ensures.long in
    subst (λ (m : ℕ). All (IsTimedCutRef (g.N.Nodes.store c.bits_at.new.nodes) m) c.args.ant.now) (sym long) (ask_refs_keep (g.N.Nodes.store c.loop-t.nodes) (g.N.Nodes.store c.bits_at.new.nodes) c.args.net.now.raw.nets c.args.ant.now c.in_ok-bits.ensures.keeps c.loop-t.invariant.ant)

pub add_both-requires-clause-con : goal.add_both-requires-clause-con
add_both-requires-clause-con g c =
    let long : length c.as_slice-in-loop-t.result.now ≡ c.args.net.now.raw.nets = ap length c.as_slice-in-loop-t.ensures.value ∙ c.in_ok-bits.ensures.long in
    subst (λ (m : ℕ). All (IsTimedCutRef (g.N.Nodes.store c.bits_at.new.nodes) m) c.args.con.now) (sym long) (ask_refs_keep (g.N.Nodes.store c.loop-t.nodes) (g.N.Nodes.store c.bits_at.new.nodes) c.args.net.now.raw.nets c.args.con.now c.in_ok-bits.ensures.keeps c.loop-t.invariant.con)

pub returns-in_err-bits-clause-built : goal.returns-in_err-bits-clause-built
returns-in_err-bits-clause-built g c = λ bit given fa fc.
    let s : Store = g.N.Nodes.store c.args.nodes.now in
    let t : Store = g.N.Nodes.store c.loop-t.nodes in
    let u : Store = g.N.Nodes.store c.bits_at.new.nodes in
    let ds = g.met.N.Nodes.diagram c.args.nodes.now in
    let dt = g.met.N.Nodes.diagram c.loop-t.nodes in
    let du = g.met.N.Nodes.diagram c.bits_at.new.nodes in
    let net = c.args.net.now.raw in
    let task = c.args.task.now in
    let vars = c.args.vars in
    let n = c.loop-t.t in
    let p = c.loop-t.invariant in
    let inside : n < depth task = omega (arith, c.loop-t-test.true, c.depth-times.ensures) in
    bits_failed net vars task bit s t u n dt du inside (p.so bit given fa fc) c.in_err-bits.field-0.0 c.from_residual.result
    (c.in_err-bits.ensures.built bit (subst (λ (v : ℕ). AreTimes v net vars task bit) (sym p.keeps.vars) given) inside
    (λ k e. subst (λ (xs : List Ref). AreBits t net.nets (bit k) xs) (sym c.as_slice.ensures.value) (p.last bit given fa fc k e)))
    c.from_residual.ensures.1

pub returns-in_err-bits-clause-keeps : goal.returns-in_err-bits-clause-keeps
returns-in_err-bits-clause-keeps g c = Keeps-trans (g.N.Nodes.store c.args.nodes.now) (g.N.Nodes.store c.loop-t.nodes) (g.N.Nodes.store c.bits_at.new.nodes) c.loop-t.invariant.keeps c.in_err-bits.ensures.keeps

pub returns-in_err-broken-clause-built : goal.returns-in_err-broken-clause-built
returns-in_err-broken-clause-built g c = λ bit given fa fc.
    let s : Store = g.N.Nodes.store c.args.nodes.now in
    let t : Store = g.N.Nodes.store c.loop-t.nodes in
    let u : Store = g.N.Nodes.store c.bits_at.new.nodes in
    let ds = g.met.N.Nodes.diagram c.args.nodes.now in
    let dt = g.met.N.Nodes.diagram c.loop-t.nodes in
    let du = g.met.N.Nodes.diagram c.bits_at.new.nodes in
    let net = c.args.net.now.raw in
    let task = c.args.task.now in
    let vars = c.args.vars in
    let n = c.loop-t.t in
    let p = c.loop-t.invariant in
    let inside : n < depth task = omega (arith, c.loop-t-test.true, c.depth-times.ensures) in
    let v : Store = g.N.Nodes.store c.add_both.new.nodes in
    let dv = g.met.N.Nodes.diagram c.add_both.new.nodes in
    let bits : Vec Ref Global = c.in_ok-bits.bits in
    let keeps = c.in_ok-bits.ensures.keeps in
    let before = c.loop-t.broken in
    let value = c.as_slice-in-loop-t.ensures.value in
    let long : length c.as_slice-in-loop-t.result.now ≡ net.nets = ap length value ∙ c.in_ok-bits.ensures.long in
    let made = (c.in_ok-bits.ensures.built bit (subst (λ (v : ℕ). AreTimes v net vars task bit) (sym p.keeps.vars) given) inside
    (λ k e. subst (λ (xs : List Ref). AreBits t net.nets (bit k) xs) (sym c.as_slice.ensures.value) (p.last bit given fa fc k e))) in
    let here : AreBits u (length c.as_slice-in-loop-t.result.now) (bit n) c.as_slice-in-loop-t.result.now = λ id l. subst (λ (xs : List Ref). Means u (bit n id) (net_ref xs id)) (sym value) (made.ok id (subst (λ (m : ℕ). id < m) long l)) in
    let to_u = Keeps-trans s t u p.keeps keeps in
    add_failed net vars task bit s t u n dt du inside (p.so bit given fa fc) v dv before bits c.in_err-broken.field-0.0 c.from_residual-in_err-broken.result (p.sums bit given fa fc) made
    (λ mf mh. c.in_err-broken.ensures.built (broken_before task.ant bit n) (broken_before task.con bit n) (bit n) task.ant task.con mf mh here (timed_cuts_keep s u task.ant c.args.ant.now ds du to_u fa) (timed_cuts_keep s u task.con c.args.con.now ds du to_u fc))
    c.from_residual-in_err-broken.ensures.1 ds

pub returns-in_err-broken-clause-keeps : goal.returns-in_err-broken-clause-keeps
returns-in_err-broken-clause-keeps g c =
    let s : Store = g.N.Nodes.store c.args.nodes.now in
    let t : Store = g.N.Nodes.store c.loop-t.nodes in
    let u : Store = g.N.Nodes.store c.bits_at.new.nodes in
    let v : Store = g.N.Nodes.store c.add_both.new.nodes in
    Keeps-trans s u v (Keeps-trans s t u c.loop-t.invariant.keeps c.in_ok-bits.ensures.keeps) c.in_err-broken.ensures.keeps

pub loop-t-preserved : goal.loop-t-preserved
loop-t-preserved g c =
    let s : Store = g.N.Nodes.store c.args.nodes.now in
    let t : Store = g.N.Nodes.store c.loop-t.nodes in
    let u : Store = g.N.Nodes.store c.bits_at.new.nodes in
    let ds = g.met.N.Nodes.diagram c.args.nodes.now in
    let dt = g.met.N.Nodes.diagram c.loop-t.nodes in
    let du = g.met.N.Nodes.diagram c.bits_at.new.nodes in
    let net = c.args.net.now.raw in
    let task = c.args.task.now in
    let vars = c.args.vars in
    let n = c.loop-t.t in
    let p = c.loop-t.invariant in
    let inside : n < depth task = omega (arith, c.loop-t-test.true, c.depth-times.ensures) in
    let v : Store = g.N.Nodes.store c.add_both.new.nodes in
    let dv = g.met.N.Nodes.diagram c.add_both.new.nodes in
    let bits : Vec Ref Global = c.in_ok-bits.bits in
    let keeps = c.in_ok-bits.ensures.keeps in
    let before = c.loop-t.broken in
    let value = c.as_slice-in-loop-t.ensures.value in
    let long : length c.as_slice-in-loop-t.result.now ≡ net.nets = ap length value ∙ c.in_ok-bits.ensures.long in
    let added = c.in_ok-broken.broken in
    let on = c.in_ok-broken.ensures.keeps in
    let all = Keeps-trans t u v keeps on in
    record {
      long = λ l. c.in_ok-bits.ensures.long;
      refs = refs_keep u v bits.items on c.in_ok-bits.ensures.refs;
      keeps = Keeps-trans s t v p.keeps all;
      ant = ask_refs_keep t v net.nets c.args.ant.now all p.ant;
      con = ask_refs_keep t v net.nets c.args.con.now all p.con;
      ant_held = c.in_ok-broken.ensures.ant_held;
      con_held = c.in_ok-broken.ensures.con_held;
      choice = c.behind_time-choice-in-loop-t.ensures ∙ choice_next net vars task n c.loop-t.choice c.open_count-each.result p.choice c.open_count-each.ensures;
      so = λ bit given fa fc.
          let made = (c.in_ok-bits.ensures.built bit (subst (λ (v : ℕ). AreTimes v net vars task bit) (sym p.keeps.vars) given) inside
          (λ k e. subst (λ (xs : List Ref). AreBits t net.nets (bit k) xs) (sym c.as_slice.ensures.value) (p.last bit given fa fc k e))) in
          let here : AreBits u (length c.as_slice-in-loop-t.result.now) (bit n) c.as_slice-in-loop-t.result.now = λ id l. subst (λ (xs : List Ref). Means u (bit n id) (net_ref xs id)) (sym value) (made.ok id (subst (λ (m : ℕ). id < m) long l)) in
          let to_u = Keeps-trans s t u p.keeps keeps in
          first (work net vars task bit) (HasSums net vars task bit (n + 1)) s v (Ok added)
          (time_turn net vars task bit s t u n dt du inside (p.so bit given fa fc) v dv before bits (Ok added) (p.sums bit given fa fc) made
          (λ mf mh. c.in_ok-broken.ensures.built (broken_before task.ant bit n) (broken_before task.con bit n) (bit n) task.ant task.con mf mh here (timed_cuts_keep s u task.ant c.args.ant.now ds du to_u fa) (timed_cuts_keep s u task.con c.args.con.now ds du to_u fc)));
      last = λ bit given fa fc k e.
          let same : k ≡ n = omega (arith, e) in
          let made = (c.in_ok-bits.ensures.built bit (subst (λ (v : ℕ). AreTimes v net vars task bit) (sym p.keeps.vars) given) inside
          (λ k e. subst (λ (xs : List Ref). AreBits t net.nets (bit k) xs) (sym c.as_slice.ensures.value) (p.last bit given fa fc k e))) in
          let here : AreBits u (length c.as_slice-in-loop-t.result.now) (bit n) c.as_slice-in-loop-t.result.now = λ id l. subst (λ (xs : List Ref). Means u (bit n id) (net_ref xs id)) (sym value) (made.ok id (subst (λ (m : ℕ). id < m) long l)) in
          let to_u = Keeps-trans s t u p.keeps keeps in
          λ id l. subst (λ (j : ℕ). Means v (bit j id) (net_ref bits.items id)) (sym same) (Means-keeps u v (bit n id) (net_ref bits.items id) du dv on (made.ok id l));
      sums = λ bit given fa fc.
          let made = (c.in_ok-bits.ensures.built bit (subst (λ (v : ℕ). AreTimes v net vars task bit) (sym p.keeps.vars) given) inside
          (λ k e. subst (λ (xs : List Ref). AreBits t net.nets (bit k) xs) (sym c.as_slice.ensures.value) (p.last bit given fa fc k e))) in
          let here : AreBits u (length c.as_slice-in-loop-t.result.now) (bit n) c.as_slice-in-loop-t.result.now = λ id l. subst (λ (xs : List Ref). Means u (bit n id) (net_ref xs id)) (sym value) (made.ok id (subst (λ (m : ℕ). id < m) long l)) in
          let to_u = Keeps-trans s t u p.keeps keeps in
          (time_turn net vars task bit s t u n dt du inside (p.so bit given fa fc) v dv before bits (Ok added) (p.sums bit given fa fc) made
          (λ mf mh. c.in_ok-broken.ensures.built (broken_before task.ant bit n) (broken_before task.con bit n) (bit n) task.ant task.con mf mh here (timed_cuts_keep s u task.ant c.args.ant.now ds du to_u fa) (timed_cuts_keep s u task.con c.args.con.now ds du to_u fc))).ok;
    }

pub returns-clause-built : goal.returns-clause-built
returns-clause-built g c = λ bit given fa fc.
    let s : Store = g.N.Nodes.store c.args.nodes.now in
    let t : Store = g.N.Nodes.store c.loop-t.nodes in
    let net = c.args.net.now.raw in
    let task = c.args.task.now in
    let p = c.loop-t.invariant in
    let end : c.loop-t.t ≡ depth task = omega (arith, c.loop-t-test.false, c.loop-t.auto.t-end, c.depth-times.ensures) in
    Built-made (work net c.args.vars task bit) (HasSums net c.args.vars task bit (depth task)) s t c.loop-t.broken (p.so bit given fa fc)
    (subst (λ (m : ℕ). HasSums net c.args.vars task bit m t c.loop-t.broken) end (p.sums bit given fa fc))
