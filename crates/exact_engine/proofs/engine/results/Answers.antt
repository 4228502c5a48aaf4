use Rattle.std.proofs.Common.{◌≡◌, ◌+◌, ◌≤◌, ℕ, List, length, sym, ◌∙◌, subst, arith, Ok, Err, All, Vec, Global}
use Rattle.ste_base.specs.Functions.{Function}
use Rattle.dd_nodes.specs.Stores.{Store, Keeps}
use Rattle.dd_nodes.proofs.Stores.{Keeps-trans}
use Rattle.net_core.specs.declared.raw.RawNet.{RawNet}
use Rattle.net_core.proofs.Ordered.{settled_by_order}
use Rattle.ste_model.specs.declared.task.Assertion.{Assertion}
use Rattle.ste_model.specs.declared.task.Quint.{Quint}
use Rattle.ste_model.specs.Asked.{depth}
use Rattle.ste_model.specs.Need.{ReadBelow}
use Rattle.ste_model.specs.Work.{quints_work}
use Rattle.dual_rail.specs.Rail.{Built}
use Rattle.dual_rail.proofs.Works.{Built-wider, So-start, first, last, more, pass}
use Rattle.exact_model.specs.Choices.{choices}
use Rattle.exact_model.specs.Exact.{IsSoundFor}
use Rattle.exact_engine.specs.Results.{AreExactRefs}
use Rattle.exact_engine.specs.declared.timed_cut.TimedCut.{TimedCut}
use Rattle.exact_engine.specs.private.Asking.{AreTimedCutItems}
use Rattle.exact_engine.specs.private.TimedCuts.{AreTimedCuts, IsTimedCutRef}
use Rattle.exact_engine.proofs.Added.{timed_cuts_keep}
use Rattle.exact_engine.proofs.AllTimes.{HasSums, ant_in, con_in}
use Rattle.exact_engine.proofs.Asked.{timed_cuts_held}
use Rattle.exact_engine.proofs.ExactTimes.{are_times}
use Rattle.exact_engine.proofs.Reading.{read_more}
use Rattle.exact_engine.proofs.Resulting.{finished, wide, work}
use Rattle.exact_engine.proofs.engine.results.Goals as goal

pub timed_cuts_of-requires : goal.timed_cuts_of-requires
timed_cuts_of-requires g c =
    let s : Store = g.N.Nodes.store c.args.nodes.now in
    let ds = g.met.N.Nodes.diagram c.args.nodes.now in
    let full = c.args.net.now in
    let net : RawNet = full.raw in
    let vars = c.args.vars in
    let task : Assertion = c.args.task.now in
    let q = c.requires in
    let sound : IsSoundFor net vars task = record { range = full.in_range; driver = full.one_driver; settled = settled_by_order net full.settled full.in_order; over = record { ant = q.ant; con = q.con }; reads_ant = q.reads_ant; reads_con = q.reads_con } in
    let le : vars ≤ s.vars = let r = q.room in omega (arith, r) in
    subst (λ (qs : List Quint). ReadBelow s.vars qs) (sym c.as_slice.ensures) (read_more vars s.vars le task.ant q.reads_ant)

pub timed_cuts_of-requires-2 : goal.timed_cuts_of-requires-2
timed_cuts_of-requires-2 g c =
    let s : Store = g.N.Nodes.store c.args.nodes.now in
    let t : Store = g.N.Nodes.store c.timed_cuts_of.new.nodes in
    let ds = g.met.N.Nodes.diagram c.args.nodes.now in
    let dt = g.met.N.Nodes.diagram c.timed_cuts_of.new.nodes in
    let full = c.args.net.now in
    let net : RawNet = full.raw in
    let vars = c.args.vars in
    let task : Assertion = c.args.task.now in
    let q = c.requires in
    let sound : IsSoundFor net vars task = record { range = full.in_range; driver = full.one_driver; settled = settled_by_order net full.settled full.in_order; over = record { ant = q.ant; con = q.con }; reads_ant = q.reads_ant; reads_con = q.reads_con } in
    let xs : Vec TimedCut Global = c.in_ok-ant.ant in
    let a : Built (quints_work task.ant) (AreTimedCutItems task.ant) s t (Ok xs) = (subst (λ (qs : List Quint). Built (quints_work qs) (AreTimedCutItems qs) s t (Ok xs)) c.as_slice.ensures c.in_ok-ant.ensures) in
    let le : vars ≤ t.vars = let r = q.room in let e = a.spends.keeps.vars in omega (arith, r, e) in
    subst (λ (qs : List Quint). ReadBelow t.vars qs) (sym c.as_slice-2.ensures) (read_more vars t.vars le task.con q.reads_con)

pub broken_sums-requires-clause-ant : goal.broken_sums-requires-clause-ant
broken_sums-requires-clause-ant g c =
    let s : Store = g.N.Nodes.store c.args.nodes.now in
    let t : Store = g.N.Nodes.store c.timed_cuts_of.new.nodes in
    let ds = g.met.N.Nodes.diagram c.args.nodes.now in
    let dt = g.met.N.Nodes.diagram c.timed_cuts_of.new.nodes in
    let full = c.args.net.now in
    let net : RawNet = full.raw in
    let vars = c.args.vars in
    let task : Assertion = c.args.task.now in
    let q = c.requires in
    let sound : IsSoundFor net vars task = record { range = full.in_range; driver = full.one_driver; settled = settled_by_order net full.settled full.in_order; over = record { ant = q.ant; con = q.con }; reads_ant = q.reads_ant; reads_con = q.reads_con } in
    let xs : Vec TimedCut Global = c.in_ok-ant.ant in
    let a : Built (quints_work task.ant) (AreTimedCutItems task.ant) s t (Ok xs) = (subst (λ (qs : List Quint). Built (quints_work qs) (AreTimedCutItems qs) s t (Ok xs)) c.as_slice.ensures c.in_ok-ant.ensures) in
    let u : Store = g.N.Nodes.store c.timed_cuts_of-2.new.nodes in
    let du = g.met.N.Nodes.diagram c.timed_cuts_of-2.new.nodes in
    let ys : Vec TimedCut Global = c.in_ok-con.con in
    let b : Built (quints_work task.con) (AreTimedCutItems task.con) t u (Ok ys) = (subst (λ (qs : List Quint). Built (quints_work qs) (AreTimedCutItems qs) t u (Ok ys)) c.as_slice-2.ensures c.in_ok-con.ensures) in
    let k_tu : Keeps t u = b.spends.keeps in
    let k_su : Keeps s u = Keeps-trans s t u a.spends.keeps k_tu in
    let ant_u : AreTimedCuts u task.ant xs.items = timed_cuts_keep t u task.ant xs.items dt du k_tu a.ok in
    subst (λ (zs : List TimedCut). All (IsTimedCutRef u net.nets) zs) (sym c.as_slice-3.ensures.value) (timed_cuts_held u net.nets task.ant xs.items ant_u q.ant)

pub broken_sums-requires-clause-con : goal.broken_sums-requires-clause-con
broken_sums-requires-clause-con g c =
    let s : Store = g.N.Nodes.store c.args.nodes.now in
    let t : Store = g.N.Nodes.store c.timed_cuts_of.new.nodes in
    let ds = g.met.N.Nodes.diagram c.args.nodes.now in
    let dt = g.met.N.Nodes.diagram c.timed_cuts_of.new.nodes in
    let full = c.args.net.now in
    let net : RawNet = full.raw in
    let vars = c.args.vars in
    let task : Assertion = c.args.task.now in
    let q = c.requires in
    let sound : IsSoundFor net vars task = record { range = full.in_range; driver = full.one_driver; settled = settled_by_order net full.settled full.in_order; over = record { ant = q.ant; con = q.con }; reads_ant = q.reads_ant; reads_con = q.reads_con } in
    let xs : Vec TimedCut Global = c.in_ok-ant.ant in
    let a : Built (quints_work task.ant) (AreTimedCutItems task.ant) s t (Ok xs) = (subst (λ (qs : List Quint). Built (quints_work qs) (AreTimedCutItems qs) s t (Ok xs)) c.as_slice.ensures c.in_ok-ant.ensures) in
    let u : Store = g.N.Nodes.store c.timed_cuts_of-2.new.nodes in
    let du = g.met.N.Nodes.diagram c.timed_cuts_of-2.new.nodes in
    let ys : Vec TimedCut Global = c.in_ok-con.con in
    let b : Built (quints_work task.con) (AreTimedCutItems task.con) t u (Ok ys) = (subst (λ (qs : List Quint). Built (quints_work qs) (AreTimedCutItems qs) t u (Ok ys)) c.as_slice-2.ensures c.in_ok-con.ensures) in
    let k_tu : Keeps t u = b.spends.keeps in
    let k_su : Keeps s u = Keeps-trans s t u a.spends.keeps k_tu in
    let ant_u : AreTimedCuts u task.ant xs.items = timed_cuts_keep t u task.ant xs.items dt du k_tu a.ok in
    subst (λ (zs : List TimedCut). All (IsTimedCutRef u net.nets) zs) (sym c.as_slice-4.ensures.value) (timed_cuts_held u net.nets task.con ys.items b.ok q.con)

pub broken_sums-requires-clause-room : goal.broken_sums-requires-clause-room
broken_sums-requires-clause-room g c =
    let s : Store = g.N.Nodes.store c.args.nodes.now in
    let t : Store = g.N.Nodes.store c.timed_cuts_of.new.nodes in
    let ds = g.met.N.Nodes.diagram c.args.nodes.now in
    let dt = g.met.N.Nodes.diagram c.timed_cuts_of.new.nodes in
    let full = c.args.net.now in
    let net : RawNet = full.raw in
    let vars = c.args.vars in
    let task : Assertion = c.args.task.now in
    let q = c.requires in
    let sound : IsSoundFor net vars task = record { range = full.in_range; driver = full.one_driver; settled = settled_by_order net full.settled full.in_order; over = record { ant = q.ant; con = q.con }; reads_ant = q.reads_ant; reads_con = q.reads_con } in
    let xs : Vec TimedCut Global = c.in_ok-ant.ant in
    let a : Built (quints_work task.ant) (AreTimedCutItems task.ant) s t (Ok xs) = (subst (λ (qs : List Quint). Built (quints_work qs) (AreTimedCutItems qs) s t (Ok xs)) c.as_slice.ensures c.in_ok-ant.ensures) in
    let u : Store = g.N.Nodes.store c.timed_cuts_of-2.new.nodes in
    let du = g.met.N.Nodes.diagram c.timed_cuts_of-2.new.nodes in
    let ys : Vec TimedCut Global = c.in_ok-con.con in
    let b : Built (quints_work task.con) (AreTimedCutItems task.con) t u (Ok ys) = (subst (λ (qs : List Quint). Built (quints_work qs) (AreTimedCutItems qs) t u (Ok ys)) c.as_slice-2.ensures c.in_ok-con.ensures) in
    let k_tu : Keeps t u = b.spends.keeps in
    let k_su : Keeps s u = Keeps-trans s t u a.spends.keeps k_tu in
    let ant_u : AreTimedCuts u task.ant xs.items = timed_cuts_keep t u task.ant xs.items dt du k_tu a.ok in
    subst (λ (n : ℕ). vars + length (choices net task) ≤ n) (sym k_su.vars) q.room

pub finish-requires-clause-vars : goal.finish-requires-clause-vars
finish-requires-clause-vars g c =
    let s : Store = g.N.Nodes.store c.args.nodes.now in
    let t : Store = g.N.Nodes.store c.timed_cuts_of.new.nodes in
    let ds = g.met.N.Nodes.diagram c.args.nodes.now in
    let dt = g.met.N.Nodes.diagram c.timed_cuts_of.new.nodes in
    let full = c.args.net.now in
    let net : RawNet = full.raw in
    let vars = c.args.vars in
    let task : Assertion = c.args.task.now in
    let q = c.requires in
    let sound : IsSoundFor net vars task = record { range = full.in_range; driver = full.one_driver; settled = settled_by_order net full.settled full.in_order; over = record { ant = q.ant; con = q.con }; reads_ant = q.reads_ant; reads_con = q.reads_con } in
    let xs : Vec TimedCut Global = c.in_ok-ant.ant in
    let a : Built (quints_work task.ant) (AreTimedCutItems task.ant) s t (Ok xs) = (subst (λ (qs : List Quint). Built (quints_work qs) (AreTimedCutItems qs) s t (Ok xs)) c.as_slice.ensures c.in_ok-ant.ensures) in
    let u : Store = g.N.Nodes.store c.timed_cuts_of-2.new.nodes in
    let du = g.met.N.Nodes.diagram c.timed_cuts_of-2.new.nodes in
    let ys : Vec TimedCut Global = c.in_ok-con.con in
    let b : Built (quints_work task.con) (AreTimedCutItems task.con) t u (Ok ys) = (subst (λ (qs : List Quint). Built (quints_work qs) (AreTimedCutItems qs) t u (Ok ys)) c.as_slice-2.ensures c.in_ok-con.ensures) in
    let k_tu : Keeps t u = b.spends.keeps in
    let k_su : Keeps s u = Keeps-trans s t u a.spends.keeps k_tu in
    let ant_u : AreTimedCuts u task.ant xs.items = timed_cuts_keep t u task.ant xs.items dt du k_tu a.ok in
    let v : Store = g.N.Nodes.store c.broken_sums.new.nodes in
    let dv = g.met.N.Nodes.diagram c.broken_sums.new.nodes in
    let keeps = c.in_ok-broken.ensures.keeps in
    let e : v.vars ≡ s.vars = keeps.vars ∙ k_su.vars in
    let r = q.room in
    omega (arith, r, e)

pub returns-in_err-ant : goal.returns-in_err-ant
returns-in_err-ant g c = λ bit exact.
    let s : Store = g.N.Nodes.store c.args.nodes.now in
    let t : Store = g.N.Nodes.store c.timed_cuts_of.new.nodes in
    let ds = g.met.N.Nodes.diagram c.args.nodes.now in
    let dt = g.met.N.Nodes.diagram c.timed_cuts_of.new.nodes in
    let full = c.args.net.now in
    let net : RawNet = full.raw in
    let vars = c.args.vars in
    let task : Assertion = c.args.task.now in
    let q = c.requires in
    let sound : IsSoundFor net vars task = record { range = full.in_range; driver = full.one_driver; settled = settled_by_order net full.settled full.in_order; over = record { ant = q.ant; con = q.con }; reads_ant = q.reads_ant; reads_con = q.reads_con } in
    let W : List Function = work net vars task bit sound exact in
    let at = wide net vars task bit sound exact in
    let Good = AreExactRefs net vars task at in
    let fault = c.in_err-ant.field-0.0 in
    pass W (AreTimedCutItems task.ant) Good s s t fault c.from_residual.result ds dt (So-start W s)
    (Built-wider W (quints_work task.ant) (AreTimedCutItems task.ant) s t (Err fault) (ant_in net vars task at) (subst (λ (qs : List Quint). Built (quints_work qs) (AreTimedCutItems qs) s t (Err fault)) c.as_slice.ensures c.in_err-ant.ensures)) c.from_residual.ensures.1

pub returns-in_err-con : goal.returns-in_err-con
returns-in_err-con g c = λ bit exact.
    let s : Store = g.N.Nodes.store c.args.nodes.now in
    let t : Store = g.N.Nodes.store c.timed_cuts_of.new.nodes in
    let ds = g.met.N.Nodes.diagram c.args.nodes.now in
    let dt = g.met.N.Nodes.diagram c.timed_cuts_of.new.nodes in
    let full = c.args.net.now in
    let net : RawNet = full.raw in
    let vars = c.args.vars in
    let task : Assertion = c.args.task.now in
    let q = c.requires in
    let sound : IsSoundFor net vars task = record { range = full.in_range; driver = full.one_driver; settled = settled_by_order net full.settled full.in_order; over = record { ant = q.ant; con = q.con }; reads_ant = q.reads_ant; reads_con = q.reads_con } in
    let W : List Function = work net vars task bit sound exact in
    let at = wide net vars task bit sound exact in
    let Good = AreExactRefs net vars task at in
    let xs : Vec TimedCut Global = c.in_ok-ant.ant in
    let a : Built (quints_work task.ant) (AreTimedCutItems task.ant) s t (Ok xs) = (subst (λ (qs : List Quint). Built (quints_work qs) (AreTimedCutItems qs) s t (Ok xs)) c.as_slice.ensures c.in_ok-ant.ensures) in
    let so1 = first W (AreTimedCutItems task.ant) s t (Ok xs) (Built-wider W (quints_work task.ant) (AreTimedCutItems task.ant) s t (Ok xs) (ant_in net vars task at) a) in
    let u : Store = g.N.Nodes.store c.timed_cuts_of-2.new.nodes in
    let du = g.met.N.Nodes.diagram c.timed_cuts_of-2.new.nodes in
    let fault = c.in_err-con.field-0.0 in
    pass W (AreTimedCutItems task.con) Good s t u fault c.from_residual-in_err-con.result dt du so1
    (Built-wider W (quints_work task.con) (AreTimedCutItems task.con) t u (Err fault) (con_in net vars task at) (subst (λ (qs : List Quint). Built (quints_work qs) (AreTimedCutItems qs) t u (Err fault)) c.as_slice-2.ensures c.in_err-con.ensures)) c.from_residual-in_err-con.ensures.1

pub returns-in_err-broken : goal.returns-in_err-broken
returns-in_err-broken g c = λ bit exact.
    let s : Store = g.N.Nodes.store c.args.nodes.now in
    let t : Store = g.N.Nodes.store c.timed_cuts_of.new.nodes in
    let ds = g.met.N.Nodes.diagram c.args.nodes.now in
    let dt = g.met.N.Nodes.diagram c.timed_cuts_of.new.nodes in
    let full = c.args.net.now in
    let net : RawNet = full.raw in
    let vars = c.args.vars in
    let task : Assertion = c.args.task.now in
    let q = c.requires in
    let sound : IsSoundFor net vars task = record { range = full.in_range; driver = full.one_driver; settled = settled_by_order net full.settled full.in_order; over = record { ant = q.ant; con = q.con }; reads_ant = q.reads_ant; reads_con = q.reads_con } in
    let W : List Function = work net vars task bit sound exact in
    let at = wide net vars task bit sound exact in
    let Good = AreExactRefs net vars task at in
    let xs : Vec TimedCut Global = c.in_ok-ant.ant in
    let a : Built (quints_work task.ant) (AreTimedCutItems task.ant) s t (Ok xs) = (subst (λ (qs : List Quint). Built (quints_work qs) (AreTimedCutItems qs) s t (Ok xs)) c.as_slice.ensures c.in_ok-ant.ensures) in
    let so1 = first W (AreTimedCutItems task.ant) s t (Ok xs) (Built-wider W (quints_work task.ant) (AreTimedCutItems task.ant) s t (Ok xs) (ant_in net vars task at) a) in
    let u : Store = g.N.Nodes.store c.timed_cuts_of-2.new.nodes in
    let du = g.met.N.Nodes.diagram c.timed_cuts_of-2.new.nodes in
    let ys : Vec TimedCut Global = c.in_ok-con.con in
    let b : Built (quints_work task.con) (AreTimedCutItems task.con) t u (Ok ys) = (subst (λ (qs : List Quint). Built (quints_work qs) (AreTimedCutItems qs) t u (Ok ys)) c.as_slice-2.ensures c.in_ok-con.ensures) in
    let k_tu : Keeps t u = b.spends.keeps in
    let k_su : Keeps s u = Keeps-trans s t u a.spends.keeps k_tu in
    let ant_u : AreTimedCuts u task.ant xs.items = timed_cuts_keep t u task.ant xs.items dt du k_tu a.ok in
    let so2 = more W (AreTimedCutItems task.con) s t u (Ok ys) dt du so1 (Built-wider W (quints_work task.con) (AreTimedCutItems task.con) t u (Ok ys) (con_in net vars task at) b) in
    let room_u : vars + length (choices net task) ≤ u.vars = subst (λ (n : ℕ). vars + length (choices net task) ≤ n) (sym k_su.vars) q.room in
    let v : Store = g.N.Nodes.store c.broken_sums.new.nodes in
    let dv = g.met.N.Nodes.diagram c.broken_sums.new.nodes in
    let fault = c.in_err-broken.field-0.0 in
    pass W (HasSums net vars task at (depth task)) Good s u v fault c.from_residual-in_err-broken.result du dv so2
    (c.in_err-broken.ensures.built at (are_times net vars task bit exact u.vars room_u)
    (subst (λ (zs : List TimedCut). AreTimedCuts u task.ant zs) (sym c.as_slice-3.ensures.value) ant_u)
    (subst (λ (zs : List TimedCut). AreTimedCuts u task.con zs) (sym c.as_slice-4.ensures.value) b.ok))
    c.from_residual-in_err-broken.ensures.1

pub returns : goal.returns
returns g c = λ bit exact.
    let s : Store = g.N.Nodes.store c.args.nodes.now in
    let t : Store = g.N.Nodes.store c.timed_cuts_of.new.nodes in
    let ds = g.met.N.Nodes.diagram c.args.nodes.now in
    let dt = g.met.N.Nodes.diagram c.timed_cuts_of.new.nodes in
    let full = c.args.net.now in
    let net : RawNet = full.raw in
    let vars = c.args.vars in
    let task : Assertion = c.args.task.now in
    let q = c.requires in
    let sound : IsSoundFor net vars task = record { range = full.in_range; driver = full.one_driver; settled = settled_by_order net full.settled full.in_order; over = record { ant = q.ant; con = q.con }; reads_ant = q.reads_ant; reads_con = q.reads_con } in
    let W : List Function = work net vars task bit sound exact in
    let at = wide net vars task bit sound exact in
    let Good = AreExactRefs net vars task at in
    let xs : Vec TimedCut Global = c.in_ok-ant.ant in
    let a : Built (quints_work task.ant) (AreTimedCutItems task.ant) s t (Ok xs) = (subst (λ (qs : List Quint). Built (quints_work qs) (AreTimedCutItems qs) s t (Ok xs)) c.as_slice.ensures c.in_ok-ant.ensures) in
    let so1 = first W (AreTimedCutItems task.ant) s t (Ok xs) (Built-wider W (quints_work task.ant) (AreTimedCutItems task.ant) s t (Ok xs) (ant_in net vars task at) a) in
    let u : Store = g.N.Nodes.store c.timed_cuts_of-2.new.nodes in
    let du = g.met.N.Nodes.diagram c.timed_cuts_of-2.new.nodes in
    let ys : Vec TimedCut Global = c.in_ok-con.con in
    let b : Built (quints_work task.con) (AreTimedCutItems task.con) t u (Ok ys) = (subst (λ (qs : List Quint). Built (quints_work qs) (AreTimedCutItems qs) t u (Ok ys)) c.as_slice-2.ensures c.in_ok-con.ensures) in
    let k_tu : Keeps t u = b.spends.keeps in
    let k_su : Keeps s u = Keeps-trans s t u a.spends.keeps k_tu in
    let ant_u : AreTimedCuts u task.ant xs.items = timed_cuts_keep t u task.ant xs.items dt du k_tu a.ok in
    let so2 = more W (AreTimedCutItems task.con) s t u (Ok ys) dt du so1 (Built-wider W (quints_work task.con) (AreTimedCutItems task.con) t u (Ok ys) (con_in net vars task at) b) in
    let room_u : vars + length (choices net task) ≤ u.vars = subst (λ (n : ℕ). vars + length (choices net task) ≤ n) (sym k_su.vars) q.room in
    let v : Store = g.N.Nodes.store c.broken_sums.new.nodes in
    let dv = g.met.N.Nodes.diagram c.broken_sums.new.nodes in
    let broken = c.in_ok-broken.broken in
    let x = (c.in_ok-broken.ensures.built at (are_times net vars task bit exact u.vars room_u)
    (subst (λ (zs : List TimedCut). AreTimedCuts u task.ant zs) (sym c.as_slice-3.ensures.value) ant_u)
    (subst (λ (zs : List TimedCut). AreTimedCuts u task.con zs) (sym c.as_slice-4.ensures.value) b.ok)) in
    let z : Store = g.N.Nodes.store c.finish.new.nodes in
    let dz = g.met.N.Nodes.diagram c.finish.new.nodes in
    let so3 = more W (HasSums net vars task at (depth task)) s u v (Ok broken) du dv so2 x in
    last W Good s v z c.finish.result dv dz so3
    (finished net vars task bit sound exact s.vars q.room v z c.finish.result so3.keeps.vars (c.finish.ensures _ _ x.ok.ant x.ok.con))
