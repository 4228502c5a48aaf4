use Rattle.std.proofs.Common.{◌≡◌, ◌<◌, ◌≤◌, ◌+◌, ℕ, List, All, Ok, Err, sym, ◌∙◌, ap, subst, arith}
use Rattle.std.specs.Prelude.{OnOk, Result, length}
use Rattle.std.proofs.lemmas.List.{length-map}
use Rattle.std.specs.List.{AllZip}
use Rattle.ste_base.specs.Functions.{Function}
use Rattle.dd_nodes.specs.Stores.{Store, Means}
use Rattle.dd_nodes.proofs.Spending.{zero_means}
use Rattle.dd_nodes.proofs.Stores.{Keeps-trans}
use Rattle.net_core.specs.Run.{IsSettled}
use Rattle.net_core.specs.Work.{ArePossibleEach}
use Rattle.net_core.proofs.Ordered.{settled_by_order}
use Rattle.dual_rail.specs.declared.rails.Rails.{Rails}
use Rattle.dual_rail.specs.Rail.{AreRails, Built}
use Rattle.dual_rail.proofs.Works.{Built-good, Built-wider, Rails-keep, So-start, first, last, lost, more, pass}
use Rattle.ste_model.specs.declared.task.Assertion.{Assertion}
use Rattle.ste_model.specs.declared.task.Quint.{Quint}
use Rattle.ste_model.specs.Asked.{depth}
use Rattle.ste_model.specs.Work.{latches_at, quints_work, symbolic_asked_at, symbolic_cuts_at, task_work}
use Rattle.ste_model.proofs.Needs.{whole_exists}
use Rattle.sym_step.specs.declared.frame.Frame.{Frame}
use Rattle.sym_step.specs.Frame.{bare, next_of, nets_of}
use Rattle.sym_step.proofs.Cutting.{Demands-keep}
use Rattle.sym_step.proofs.Framing.{frame_keeps}
use Rattle.engine_parts.specs.declared.failing.Failure.TheVariants.{Strong, Weak}
use Rattle.ste_engine.specs.declared.results.Found.{Found}
use Rattle.ste_engine.specs.declared.timeline.Timeline.{Timeline}
use Rattle.ste_engine.specs.declared.turn.Turned.{Turned}
use Rattle.ste_engine.specs.private.Finds.{AreFound, AreLast, last_work}
use Rattle.ste_engine.specs.private.Firsts.{IsFirstAt, IsFirstPlace}
use Rattle.ste_engine.specs.private.Turns.{AreResults, IsLine}
use Rattle.ste_engine.proofs.Family.{family_at}
use Rattle.ste_engine.proofs.FirstPlaces.{first_place, told_or_new}
use Rattle.ste_engine.proofs.Kept.{kept_refs}
use Rattle.ste_engine.proofs.Lines.{IsNextLine, Line-keeps, ant_within, con_within, next_line}
use Rattle.ste_engine.proofs.Asked.{TimedCuts-keep}
use Rattle.engine_parts.proofs.FirstSets.{firsts_are}
use Rattle.ste_engine.proofs.Times.{IsTurnedAt, ReachedAt, ant_in, con_in, empty_sum, last_in, reached_next, strong_sum, time_call, time_turn, turned_refs, weak_sum}
use Rattle.ste_model.specs.declared.task.Weakening.{Weakening}
use Rattle.ste_model.specs.Asked.{weakened_at}
use Rattle.sym_step.specs.Step.{ids_of}
use Rattle.ste_engine.specs.private.Times.{IsTimeline}
use Rattle.ste_engine.specs.private.Weakened.{HasWeakened, weak_timed_cuts}
use Rattle.ste_engine.proofs.WeakLines.{nets_inside}
use Rattle.ste_engine.proofs.engine.results.Goals as goal

on_ok : {T E P : Type 0} (r : Result T E) → P → OnOk r P
on_ok (Ok x) p = p
on_ok (Err e) p = tt

pub line_of-requires-clause-within : goal.line_of-requires-clause-within
line_of-requires-clause-within g c =
    let task : Assertion = c.args.task.now in
    subst (λ (xs : List Quint). All (λ quint. quint.to ≤ c.depth-depth.result) xs) (sym c.as_slice.ensures) (subst (λ m. All (λ quint. quint.to ≤ m) task.ant) (sym c.depth-depth.ensures) (ant_within task))

pub line_of-requires-2-clause-within : goal.line_of-requires-2-clause-within
line_of-requires-2-clause-within g c =
    let task : Assertion = c.args.task.now in
    subst (λ (xs : List Quint). All (λ quint. quint.to ≤ c.depth-depth.result) xs) (sym c.as_slice-2.ensures) (subst (λ m. All (λ quint. quint.to ≤ m) task.con) (sym c.depth-depth.ensures) (con_within task))

pub returns-in_err-ant-clause-built : goal.returns-in_err-ant-clause-built
returns-in_err-ant-clause-built g c = λ table whole.
    let s : Store = g.N.Nodes.store c.args.nodes.now in
    let gs = g.met.N.Nodes.diagram c.args.nodes.now in
    let net = c.args.net.now in
    let task : Assertion = c.args.task.now in
    let n = c.depth-depth.result in
    let t1 : Store = g.N.Nodes.store c.line_of.new.nodes in
    let g1 = g.met.N.Nodes.diagram c.line_of.new.nodes in
    let work : List Function = task_work net.raw task table in
    let fault = c.in_err-ant.field-0.0 in
    let AntLine : Store → Timeline → Type 0 = λ t line. IsLine t task.ant n 0 line in
    let a : Built (quints_work task.ant) AntLine s t1 (Err fault) = subst (λ (xs : List Quint). Built (quints_work xs) (λ t line. IsLine t xs n 0 line) s t1 (Err fault)) c.as_slice.ensures c.in_err-ant.ensures in
    pass work AntLine (AreResults net.raw task table) s s t1 fault c.from_residual.result gs g1 (So-start work s) (Built-wider work (quints_work task.ant) AntLine s t1 (Err fault) (ant_in net.raw task table) a) c.from_residual.ensures.1

pub returns-in_err-con-clause-built : goal.returns-in_err-con-clause-built
returns-in_err-con-clause-built g c = λ table whole.
    let s : Store = g.N.Nodes.store c.args.nodes.now in
    let gs = g.met.N.Nodes.diagram c.args.nodes.now in
    let net = c.args.net.now in
    let task : Assertion = c.args.task.now in
    let n = c.depth-depth.result in
    let t1 : Store = g.N.Nodes.store c.line_of.new.nodes in
    let g1 = g.met.N.Nodes.diagram c.line_of.new.nodes in
    let work : List Function = task_work net.raw task table in
    let AntLine : Store → Timeline → Type 0 = λ t line. IsLine t task.ant n 0 line in
    let a : Built (quints_work task.ant) AntLine s t1 (Ok c.in_ok-ant.ant) = subst (λ (xs : List Quint). Built (quints_work xs) (λ t line. IsLine t xs n 0 line) s t1 (Ok c.in_ok-ant.ant)) c.as_slice.ensures c.in_ok-ant.ensures in
    let fault = c.in_err-con.field-0.0 in
    let t2 : Store = g.N.Nodes.store c.line_of-2.new.nodes in
    let g2 = g.met.N.Nodes.diagram c.line_of-2.new.nodes in
    let ConLine : Store → Timeline → Type 0 = λ t line. IsLine t task.con n 0 line in
    let b : Built (quints_work task.con) ConLine t1 t2 (Err fault) = subst (λ (xs : List Quint). Built (quints_work xs) (λ t line. IsLine t xs n 0 line) t1 t2 (Err fault)) c.as_slice-2.ensures c.in_err-con.ensures in
    pass work ConLine (AreResults net.raw task table) s t1 t2 fault c.from_residual-in_err-con.result g1 g2 (first work AntLine s t1 (Ok c.in_ok-ant.ant) (Built-wider work (quints_work task.ant) AntLine s t1 (Ok c.in_ok-ant.ant) (ant_in net.raw task table) a)) (Built-wider work (quints_work task.con) ConLine t1 t2 (Err fault) (con_in net.raw task table) b) c.from_residual-in_err-con.ensures.1

pub returns-in_err-weak-clause-built : goal.returns-in_err-weak-clause-built
returns-in_err-weak-clause-built g c = λ table whole.
    let s : Store = g.N.Nodes.store c.args.nodes.now in
    let gs = g.met.N.Nodes.diagram c.args.nodes.now in
    let net = c.args.net.now in
    let task : Assertion = c.args.task.now in
    let n = c.depth-depth.result in
    let t1 : Store = g.N.Nodes.store c.line_of.new.nodes in
    let g1 = g.met.N.Nodes.diagram c.line_of.new.nodes in
    let AntLine : Store → Timeline → Type 0 = λ t line. IsLine t task.ant n 0 line in
    let a : Built (quints_work task.ant) AntLine s t1 (Ok c.in_ok-ant.ant) = subst (λ (xs : List Quint). Built (quints_work xs) (λ t line. IsLine t xs n 0 line) s t1 (Ok c.in_ok-ant.ant)) c.as_slice.ensures c.in_ok-ant.ensures in
    let t2 : Store = g.N.Nodes.store c.line_of-2.new.nodes in
    let g2 = g.met.N.Nodes.diagram c.line_of-2.new.nodes in
    let ConLine : Store → Timeline → Type 0 = λ t line. IsLine t task.con n 0 line in
    let b : Built (quints_work task.con) ConLine t1 t2 (Ok c.in_ok-con.con) = subst (λ (xs : List Quint). Built (quints_work xs) (λ t line. IsLine t xs n 0 line) t1 t2 (Ok c.in_ok-con.con)) c.as_slice-2.ensures c.in_ok-con.ensures in
    let work : List Function = task_work net.raw task table in
    let so = more work ConLine s t1 t2 (Ok c.in_ok-con.con) g1 g2 (first work AntLine s t1 (Ok c.in_ok-ant.ant) (Built-wider work (quints_work task.ant) AntLine s t1 (Ok c.in_ok-ant.ant) (ant_in net.raw task table) a)) (Built-wider work (quints_work task.con) ConLine t1 t2 (Ok c.in_ok-con.con) (con_in net.raw task table) b) in
    lost work (AreResults net.raw task table) s t2 c.from_residual-in_err-weak.result so c.from_residual-in_err-weak.ensures.1

pub loop-t-init : goal.loop-t-init
loop-t-init g c =
    let s : Store = g.N.Nodes.store c.args.nodes.now in
    let gs = g.met.N.Nodes.diagram c.args.nodes.now in
    let net = c.args.net.now in
    let task : Assertion = c.args.task.now in
    let n = c.depth-depth.result in
    let t1 : Store = g.N.Nodes.store c.line_of.new.nodes in
    let g1 = g.met.N.Nodes.diagram c.line_of.new.nodes in
    let AntLine : Store → Timeline → Type 0 = λ t line. IsLine t task.ant n 0 line in
    let a : Built (quints_work task.ant) AntLine s t1 (Ok c.in_ok-ant.ant) = subst (λ (xs : List Quint). Built (quints_work xs) (λ t line. IsLine t xs n 0 line) s t1 (Ok c.in_ok-ant.ant)) c.as_slice.ensures c.in_ok-ant.ensures in
    let t2 : Store = g.N.Nodes.store c.line_of-2.new.nodes in
    let g2 = g.met.N.Nodes.diagram c.line_of-2.new.nodes in
    let ConLine : Store → Timeline → Type 0 = λ t line. IsLine t task.con n 0 line in
    let b : Built (quints_work task.con) ConLine t1 t2 (Ok c.in_ok-con.con) = subst (λ (xs : List Quint). Built (quints_work xs) (λ t line. IsLine t xs n 0 line) t1 t2 (Ok c.in_ok-con.con)) c.as_slice-2.ensures c.in_ok-con.ensures in
    let start = c.at_start-reached.ensures in
    record {
      ant = Line-keeps t1 t2 task.ant n 0 c.in_ok-ant.ant g1 g2 b.spends.keeps a.ok;
      con = b.ok;
      weak = subst (λ (ws : List Weakening). IsTimeline (weak_timed_cuts n 0 ws) n 0 c.in_ok-weak.weak.line) c.as_slice-3.ensures c.in_ok-weak.ensures;
      frame = frame_keeps s t2 net.raw c.args.frame.now net.in_range gs g2 (Keeps-trans s t1 t2 a.spends.keeps b.spends.keeps) c.requires.frame;
      firsts = c.requires.firsts;
      reached = λ table whole.
          let work : List Function = task_work net.raw task table in
          record {
            so = more work ConLine s t1 t2 (Ok c.in_ok-con.con) g1 g2 (first work AntLine s t1 (Ok c.in_ok-ant.ant) (Built-wider work (quints_work task.ant) AntLine s t1 (Ok c.in_ok-ant.ant) (ant_in net.raw task table) a)) (Built-wider work (quints_work task.con) ConLine t1 t2 (Ok c.in_ok-con.con) (con_in net.raw task table) b);
            next = subst (λ (xs : List Rails). AllZip (AreRails t2) (latches_at net.raw task table 0) xs) (sym c.requires.first) (firsts_are t2 task.reset net.raw.latches g2);
            contradictory = subst (λ r. Means t2 (empty_sum net.raw table 0) r) (sym (ap (λ (r : Turned). r.contradictory) start)) (zero_means t2 g2);
            found = subst (λ (r : Found). AreFound (strong_sum task table 0) (weak_sum task table 0) t2 r) (sym (ap (λ (r : Turned). r.found) start)) (record { strong = zero_means t2 g2; weak = zero_means t2 g2 });
            nets = λ k id lt inside. absurd (omega (arith, lt));
          };
    }

pub returns-in_err-advance-clause-built : goal.returns-in_err-advance-clause-built
returns-in_err-advance-clause-built g c = λ table whole.
    let s : Store = g.N.Nodes.store c.args.nodes.now in
    let t : Store = g.N.Nodes.store c.loop-t.nodes in
    lost (task_work c.args.net.now.raw c.args.task.now table) (AreResults c.args.net.now.raw c.args.task.now table) s t c.from_residual-in_err-advance.result (c.loop-t.invariant.reached table whole).so c.from_residual-in_err-advance.ensures.1

pub returns-in_err-advance-2-clause-built : goal.returns-in_err-advance-2-clause-built
returns-in_err-advance-2-clause-built g c = λ table whole.
    let s : Store = g.N.Nodes.store c.args.nodes.now in
    let t : Store = g.N.Nodes.store c.loop-t.nodes in
    lost (task_work c.args.net.now.raw c.args.task.now table) (AreResults c.args.net.now.raw c.args.task.now table) s t c.from_residual-in_err-advance-2.result (c.loop-t.invariant.reached table whole).so c.from_residual-in_err-advance-2.ensures.1

pub returns-in_err-advance-3-clause-built : goal.returns-in_err-advance-3-clause-built
returns-in_err-advance-3-clause-built g c = λ table whole.
    let s : Store = g.N.Nodes.store c.args.nodes.now in
    let t : Store = g.N.Nodes.store c.loop-t.nodes in
    lost (task_work c.args.net.now.raw c.args.task.now table) (AreResults c.args.net.now.raw c.args.task.now table) s t c.from_residual-in_err-advance-3.result (c.loop-t.invariant.reached table whole).so c.from_residual-in_err-advance-3.ensures.1

pub advance-requires-in-loop-t-2 : goal.advance-requires-in-loop-t-2
advance-requires-in-loop-t-2 g c = let long = c.loop-t.invariant.weak.starts.long in omega (arith, long, c.loop-t-test.true)

pub loop-t-preserved : goal.loop-t-preserved
loop-t-preserved g c =
    let s : Store = g.N.Nodes.store c.args.nodes.now in
    let gs = g.met.N.Nodes.diagram c.args.nodes.now in
    let net = c.args.net.now in
    let task : Assertion = c.args.task.now in
    let n = c.depth-depth.result in
    let t : Store = g.N.Nodes.store c.loop-t.nodes in
    let gt = g.met.N.Nodes.diagram c.loop-t.nodes in
    let p = c.loop-t.invariant in
    let k = c.loop-t.t in
    let below : k < depth task = subst (λ m. k < m) c.depth-depth.ensures c.loop-t-test.true in
    let ant : IsNextLine t net.raw task.ant n k c.advance.new.self c.cuts.result.now = next_line t net.raw task.ant n k c.loop-t.ant c.advance.new.self c.advance.new.self.cuts.items c.cuts.result.now p.ant c.loop-t-test.true c.requires.ant c.cuts.ensures c.in_ok-advance.ensures in
    let con : IsNextLine t net.raw task.con n k c.advance-in-loop-t.new.self c.cuts-in-loop-t.result.now = next_line t net.raw task.con n k c.loop-t.con c.advance-in-loop-t.new.self c.advance-in-loop-t.new.self.cuts.items c.cuts-in-loop-t.result.now p.con c.loop-t-test.true c.requires.con c.cuts-in-loop-t.ensures c.in_ok-advance-2.ensures in
    let weak : HasWeakened task.weak n k c.advance-in-loop-t-2.new.self = c.in_ok-advance-3.ensures task.weak n p.weak c.loop-t-test.true in
    let weak_is : weakened_at task.weak k ≡ ids_of c.nets.result.now = weak.given ∙ ap ids_of (sym c.nets.ensures) in
    let u : Store = g.N.Nodes.store c.turn.new.nodes in
    let gu = g.met.N.Nodes.diagram c.turn.new.nodes in
    let settled : IsSettled net.raw = settled_by_order net.raw net.settled net.in_order in
    let w = whole_exists net.raw s.vars task settled in
    let after : Turned = c.in_ok-reached.reached in
    let mine = time_call net.raw task w.0 s t u k c.nets.result.now c.cuts.result.now c.cuts-in-loop-t.result.now (next_of net.raw c.loop-t.frame) (next_of net.raw c.turn.new.frame) c.loop-t.reached (Ok after) w.1 below weak_is ant.by con.by (p.reached w.0 w.1) c.in_ok-reached.ensures.built in
    let keeps = mine.spends.keeps in
    record {
      ant = Line-keeps t u task.ant n (k + 1) c.advance.new.self gt gu keeps ant.is;
      con = Line-keeps t u task.con n (k + 1) c.advance-in-loop-t.new.self gt gu keeps con.is;
      weak = weak.is;
      frame = c.in_ok-reached.ensures.frame;
      firsts =
          let q = p.reached w.0 w.1 in
          let tv = q.so.keeps.vars in
          let uv = keeps.vars ∙ tv in
          let last : IsNextLine t net.raw task.con n k c.advance-in-loop-t.new.self c.cuts-in-loop-t-2.result.now = next_line t net.raw task.con n k c.loop-t.con c.advance-in-loop-t.new.self c.advance-in-loop-t.new.self.cuts.items c.cuts-in-loop-t-2.result.now p.con c.loop-t-test.true c.requires.con c.cuts-in-loop-t-2.ensures c.in_ok-advance-2.ensures in
          let have = c.in_ok-reached.ensures.have (latches_at net.raw task w.0 k) (weakened_at task.weak k) (symbolic_cuts_at task.ant k) (w.0 k) q.next weak_is ant.by (subst (λ v. ArePossibleEach v net.raw (latches_at net.raw task w.0 k) (symbolic_asked_at task k) (w.0 k)) (sym tv) (family_at net.raw s.vars task w.0 k w.1 below)) in
          let zip = Demands-keep t u (symbolic_cuts_at task.con k) c.cuts-in-loop-t-2.result.now gt gu keeps last.by in
          let nets : List Rails = nets_of c.turn.new.frame in
          let found = c.loop-t.reached.found in
          record {
            strong = told_or_new c.loop-t.firsts.strong c.with_time.result.strong (IsFirstPlace s.vars net.raw task Strong) (λ place. IsFirstAt Strong nets c.cuts-in-loop-t-2.result.now found.strong place.0 × (place.1 ≡ k)) c.with_time.ensures.strong p.firsts.strong
                (λ place h. subst (λ (j : ℕ). IsFirstPlace s.vars net.raw task Strong (place.0, j)) (sym h.1) (first_place Strong net.raw task s.vars w.0 w.1 t u gt gu tv uv k below nets c.cuts-in-loop-t-2.result.now found.strong place.0 q.found.strong have c.requires.con zip h.0));
            weak = told_or_new c.loop-t.firsts.weak c.with_time.result.weak (IsFirstPlace s.vars net.raw task Weak) (λ place. IsFirstAt Weak nets c.cuts-in-loop-t-2.result.now found.weak place.0 × (place.1 ≡ k)) c.with_time.ensures.weak p.firsts.weak
                (λ place h. subst (λ (j : ℕ). IsFirstPlace s.vars net.raw task Weak (place.0, j)) (sym h.1) (first_place Weak net.raw task s.vars w.0 w.1 t u gt gu tv uv k below nets c.cuts-in-loop-t-2.result.now found.weak place.0 q.found.weak have c.requires.con zip h.0));
          };
      reached = λ table whole.
          let before : ReachedAt net.raw task table s t k (next_of net.raw c.loop-t.frame) c.loop-t.reached = p.reached table whole in
          let b = time_turn net.raw task table s t u k (next_of net.raw c.loop-t.frame) (next_of net.raw c.turn.new.frame) c.loop-t.reached (Ok after) gt gu below before (time_call net.raw task table s t u k c.nets.result.now c.cuts.result.now c.cuts-in-loop-t.result.now (next_of net.raw c.loop-t.frame) (next_of net.raw c.turn.new.frame) c.loop-t.reached (Ok after) whole below weak_is ant.by con.by before c.in_ok-reached.ensures.built) in
          reached_next net.raw task table s t u k (next_of net.raw c.loop-t.frame) (next_of net.raw c.turn.new.frame) c.loop-t.reached after gt gu keeps before (first (task_work net.raw task table) (IsTurnedAt net.raw task table k (next_of net.raw c.turn.new.frame)) s u (Ok after) b) b.ok;
    }

pub returns-in_err-reached-clause-built : goal.returns-in_err-reached-clause-built
returns-in_err-reached-clause-built g c = λ table whole.
    let s : Store = g.N.Nodes.store c.args.nodes.now in
    let gs = g.met.N.Nodes.diagram c.args.nodes.now in
    let net = c.args.net.now in
    let task : Assertion = c.args.task.now in
    let n = c.depth-depth.result in
    let t : Store = g.N.Nodes.store c.loop-t.nodes in
    let gt = g.met.N.Nodes.diagram c.loop-t.nodes in
    let p = c.loop-t.invariant in
    let k = c.loop-t.t in
    let below : k < depth task = subst (λ m. k < m) c.depth-depth.ensures c.loop-t-test.true in
    let ant : IsNextLine t net.raw task.ant n k c.advance.new.self c.cuts.result.now = next_line t net.raw task.ant n k c.loop-t.ant c.advance.new.self c.advance.new.self.cuts.items c.cuts.result.now p.ant c.loop-t-test.true c.requires.ant c.cuts.ensures c.in_ok-advance.ensures in
    let con : IsNextLine t net.raw task.con n k c.advance-in-loop-t.new.self c.cuts-in-loop-t.result.now = next_line t net.raw task.con n k c.loop-t.con c.advance-in-loop-t.new.self c.advance-in-loop-t.new.self.cuts.items c.cuts-in-loop-t.result.now p.con c.loop-t-test.true c.requires.con c.cuts-in-loop-t.ensures c.in_ok-advance-2.ensures in
    let weak : HasWeakened task.weak n k c.advance-in-loop-t-2.new.self = c.in_ok-advance-3.ensures task.weak n p.weak c.loop-t-test.true in
    let weak_is : weakened_at task.weak k ≡ ids_of c.nets.result.now = weak.given ∙ ap ids_of (sym c.nets.ensures) in
    let u : Store = g.N.Nodes.store c.turn.new.nodes in
    let gu = g.met.N.Nodes.diagram c.turn.new.nodes in
    let work : List Function = task_work net.raw task table in
    let fault = c.in_err-reached.field-0.0 in
    let before : ReachedAt net.raw task table s t k (next_of net.raw c.loop-t.frame) c.loop-t.reached = p.reached table whole in
    let b = time_turn net.raw task table s t u k (next_of net.raw c.loop-t.frame) (next_of net.raw c.turn.new.frame) c.loop-t.reached (Err fault) gt gu below before (time_call net.raw task table s t u k c.nets.result.now c.cuts.result.now c.cuts-in-loop-t.result.now (next_of net.raw c.loop-t.frame) (next_of net.raw c.turn.new.frame) c.loop-t.reached (Err fault) whole below weak_is ant.by con.by before c.in_err-reached.ensures.built) in
    pass work (IsTurnedAt net.raw task table k (next_of net.raw c.turn.new.frame)) (AreResults net.raw task table) s s u fault c.from_residual-in_err-reached.result gs gu (So-start work s) b c.from_residual-in_err-reached.ensures.1

pub turn-requires-clause-ant : goal.turn-requires-clause-ant
turn-requires-clause-ant g c =
    let s : Store = g.N.Nodes.store c.args.nodes.now in
    let gs = g.met.N.Nodes.diagram c.args.nodes.now in
    let net = c.args.net.now in
    let task : Assertion = c.args.task.now in
    let n = c.depth-depth.result in
    let t : Store = g.N.Nodes.store c.loop-t.nodes in
    let gt = g.met.N.Nodes.diagram c.loop-t.nodes in
    let p = c.loop-t.invariant in
    let k = c.loop-t.t in
    let below : k < depth task = subst (λ m. k < m) c.depth-depth.ensures c.loop-t-test.true in
    let ant : IsNextLine t net.raw task.ant n k c.advance.new.self c.cuts.result.now = next_line t net.raw task.ant n k c.loop-t.ant c.advance.new.self c.advance.new.self.cuts.items c.cuts.result.now p.ant c.loop-t-test.true c.requires.ant c.cuts.ensures c.in_ok-advance.ensures in
    ant.of

pub turn-requires-clause-weak : goal.turn-requires-clause-weak
turn-requires-clause-weak g c =
    let task : Assertion = c.args.task.now in
    let n = c.depth-depth.result in
    let k = c.loop-t.t in
    let weak : HasWeakened task.weak n k c.advance-in-loop-t-2.new.self = c.in_ok-advance-3.ensures task.weak n c.loop-t.invariant.weak c.loop-t-test.true in
    nets_inside c.args.net.now.raw.nets k task.weak c.nets.result.now c.requires.weak (weak.given ∙ ap ids_of (sym c.nets.ensures))

pub turn-requires-clause-con : goal.turn-requires-clause-con
turn-requires-clause-con g c =
    let s : Store = g.N.Nodes.store c.args.nodes.now in
    let gs = g.met.N.Nodes.diagram c.args.nodes.now in
    let net = c.args.net.now in
    let task : Assertion = c.args.task.now in
    let n = c.depth-depth.result in
    let t : Store = g.N.Nodes.store c.loop-t.nodes in
    let gt = g.met.N.Nodes.diagram c.loop-t.nodes in
    let p = c.loop-t.invariant in
    let k = c.loop-t.t in
    let below : k < depth task = subst (λ m. k < m) c.depth-depth.ensures c.loop-t-test.true in
    let con : IsNextLine t net.raw task.con n k c.advance-in-loop-t.new.self c.cuts-in-loop-t.result.now = next_line t net.raw task.con n k c.loop-t.con c.advance-in-loop-t.new.self c.advance-in-loop-t.new.self.cuts.items c.cuts-in-loop-t.result.now p.con c.loop-t-test.true c.requires.con c.cuts-in-loop-t.ensures c.in_ok-advance-2.ensures in
    con.of

pub turn-requires-clause-before : goal.turn-requires-clause-before
turn-requires-clause-before g c =
    let s : Store = g.N.Nodes.store c.args.nodes.now in
    let gs = g.met.N.Nodes.diagram c.args.nodes.now in
    let net = c.args.net.now in
    let task : Assertion = c.args.task.now in
    let n = c.depth-depth.result in
    let t : Store = g.N.Nodes.store c.loop-t.nodes in
    let gt = g.met.N.Nodes.diagram c.loop-t.nodes in
    let p = c.loop-t.invariant in
    let k = c.loop-t.t in
    let below : k < depth task = subst (λ m. k < m) c.depth-depth.ensures c.loop-t-test.true in
    let settled : IsSettled net.raw = settled_by_order net.raw net.settled net.in_order in
    let w = whole_exists net.raw s.vars task settled in
    turned_refs net.raw task w.0 s t k (next_of net.raw c.loop-t.frame) c.loop-t.reached (p.reached w.0 w.1)

pub with_time-requires : goal.with_time-requires
with_time-requires g c =
    let net = c.args.net.now in
    let task : Assertion = c.args.task.now in
    let n = c.depth-depth.result in
    let t : Store = g.N.Nodes.store c.loop-t.nodes in
    let p = c.loop-t.invariant in
    let k = c.loop-t.t in
    let con : IsNextLine t net.raw task.con n k c.advance-in-loop-t.new.self c.cuts-in-loop-t-2.result.now = next_line t net.raw task.con n k c.loop-t.con c.advance-in-loop-t.new.self c.advance-in-loop-t.new.self.cuts.items c.cuts-in-loop-t-2.result.now p.con c.loop-t-test.true c.requires.con c.cuts-in-loop-t-2.ensures c.in_ok-advance-2.ensures in
    let frame : Frame = c.turn.new.frame in
    let nets : length (nets_of frame) ≡ net.raw.nets = length-map frame.board.nets.items bare ∙ c.in_ok-reached.ensures.frame.long in
    λ i d l. let inside = (con.of i d l).node in omega (arith, nets, inside)

pub finish-requires-clause-contradictory : goal.finish-requires-clause-contradictory
finish-requires-clause-contradictory g c =
    let s : Store = g.N.Nodes.store c.args.nodes.now in
    let net = c.args.net.now in
    let task : Assertion = c.args.task.now in
    let t : Store = g.N.Nodes.store c.loop-t.nodes in
    let gt = g.met.N.Nodes.diagram c.loop-t.nodes in
    let p = c.loop-t.invariant in
    let k = c.loop-t.t in
    let settled : IsSettled net.raw = settled_by_order net.raw net.settled net.in_order in
    let w = whole_exists net.raw s.vars task settled in
    (p.reached w.0 w.1).contradictory.ref

pub finish-requires-clause-found : goal.finish-requires-clause-found
finish-requires-clause-found g c =
    let s : Store = g.N.Nodes.store c.args.nodes.now in
    let net = c.args.net.now in
    let task : Assertion = c.args.task.now in
    let t : Store = g.N.Nodes.store c.loop-t.nodes in
    let gt = g.met.N.Nodes.diagram c.loop-t.nodes in
    let p = c.loop-t.invariant in
    let k = c.loop-t.t in
    let settled : IsSettled net.raw = settled_by_order net.raw net.settled net.in_order in
    let w = whole_exists net.raw s.vars task settled in
    let f = (p.reached w.0 w.1).found in
    record { strong = f.strong.ref; weak = f.weak.ref }

pub returns-clause-built : goal.returns-clause-built
returns-clause-built g c = λ table whole.
    let s : Store = g.N.Nodes.store c.args.nodes.now in
    let net = c.args.net.now in
    let task : Assertion = c.args.task.now in
    let t : Store = g.N.Nodes.store c.loop-t.nodes in
    let gt = g.met.N.Nodes.diagram c.loop-t.nodes in
    let p = c.loop-t.invariant in
    let k = c.loop-t.t in
    let work : List Function = task_work net.raw task table in
    let u : Store = g.N.Nodes.store c.finish.new.nodes in
    let gu = g.met.N.Nodes.diagram c.finish.new.nodes in
    let end : k ≡ depth task = (let le = c.loop-t-test.false in let most = c.loop-t.auto.t-end in omega (arith, le, most)) ∙ c.depth-depth.ensures in
    let q : ReachedAt net.raw task table s t (depth task) (next_of net.raw c.loop-t.frame) c.loop-t.reached = subst (λ j. ReachedAt net.raw task table s t j (next_of net.raw c.loop-t.frame) c.loop-t.reached) end (p.reached table whole) in
    let C : Function = empty_sum net.raw table (depth task) in
    let S : Function = strong_sum task table (depth task) in
    let W : Function = weak_sum task table (depth task) in
    let made : Built work (AreLast C S W) t u c.finish.result = Built-wider work (last_work C S W) (AreLast C S W) t u c.finish.result (last_in net.raw task table) (c.finish.ensures C S W q.contradictory q.found) in
    let keeps = made.spends.keeps in
    last work (AreResults net.raw task table) s t u c.finish.result gt gu q.so
    (Built-good work (AreLast C S W) (AreResults net.raw task table) t u c.finish.result (λ r h. record {
      strong = h.strong;
      weak = h.weak;
      contradictory = h.contradictory;
      kept = kept_refs net.raw task table u p.ant.timed_cuts p.con.timed_cuts r.strong r.weak r.contradictory (TimedCuts-keep t u 0 task.ant p.ant.timed_cuts gt gu keeps p.ant.fit) (TimedCuts-keep t u 0 task.con p.con.timed_cuts gt gu keeps p.con.fit)
          (λ j id lt inside. let x = q.nets j id lt inside in (x.0, Rails-keep t u (table j id) x.0 gt gu keeps x.1)) h.strong h.weak h.contradictory;
    }) made)

pub returns-clause-frame : goal.returns-clause-frame
returns-clause-frame g c =
    let s : Store = g.N.Nodes.store c.args.nodes.now in
    let net = c.args.net.now in
    let task : Assertion = c.args.task.now in
    let t : Store = g.N.Nodes.store c.loop-t.nodes in
    let gt = g.met.N.Nodes.diagram c.loop-t.nodes in
    let p = c.loop-t.invariant in
    let u : Store = g.N.Nodes.store c.finish.new.nodes in
    let gu = g.met.N.Nodes.diagram c.finish.new.nodes in
    let settled : IsSettled net.raw = settled_by_order net.raw net.settled net.in_order in
    let w = whole_exists net.raw s.vars task settled in
    let q = p.reached w.0 w.1 in
    let keeps = (c.finish.ensures (empty_sum net.raw w.0 c.loop-t.t) (strong_sum task w.0 c.loop-t.t) (weak_sum task w.0 c.loop-t.t) q.contradictory q.found).spends.keeps in
    on_ok c.finish.result (frame_keeps t u net.raw c.loop-t.frame net.in_range gt gu keeps p.frame)
