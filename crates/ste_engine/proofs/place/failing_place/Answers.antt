use Rattle.std.proofs.Common.{◌≡◌, ◌<◌, ◌≤◌, ◌+◌, ℕ, Bool, List, Option, All, length, map, Ok, Err, sym, ◌∙◌, ap, subst, arith}
use Rattle.std.specs.List.{AllZip}
use Rattle.dd_nodes.specs.Stores.{Store}
use Rattle.dual_rail.specs.declared.rails.Rails.{Rails}
use Rattle.dual_rail.specs.Rail.{AreRails}
use Rattle.net_core.specs.declared.bit_set.BitSet.{BitSet}
use Rattle.net_core.specs.declared.raw.RawNet.{RawNet}
use Rattle.ste_base.specs.declared.id.NodeId.{NodeId}
use Rattle.ste_model.specs.declared.task.Assertion.{Assertion}
use Rattle.ste_model.specs.declared.task.Quint.{Quint}
use Rattle.ste_model.specs.Asked.{cuts_at, depth}
use Rattle.ste_model.specs.Found.{IsTableOf}
use Rattle.ste_model.specs.Work.{constant_set, latches_at, symbolic_cuts_at}
use Rattle.sym_step.specs.declared.made.Step.{Step}
use Rattle.sym_step.specs.Step.{IsCutBy, IsStep, rails_at}
use Rattle.sym_step.specs.Frame.{next_of, nets_of, step_of}
use Rattle.sym_step.proofs.Cutting.{Demands-keep}
use Rattle.engine_parts.specs.declared.failing.Failure.{Failure}
use Rattle.engine_parts.specs.Failing.{fixed_quint}
use Rattle.ste_engine.specs.private.Places.{fixed_timed_cuts, fixed_task}
use Rattle.ste_engine.specs.private.Times.{IsTimeline}
use Rattle.engine_parts.proofs.FirstFails.{IsTold, first_is}
use Rattle.ste_engine.proofs.FixedTasks.{constant_table, fixed_are, fixed_inside}
use Rattle.ste_engine.proofs.Lines.{IsNextLine, Line-keeps, ant_within, con_within, next_line}
use Rattle.engine_parts.proofs.Nothing.{nothing_more, nothing_yet}
use Rattle.ste_engine.proofs.PlaceTurns.{IsPlaceAt, not_some, place_begins, place_ends, place_is, place_next, step_built, step_goes, step_makes}
use Rattle.engine_parts.proofs.FirstSets.{firsts_are}
use Rattle.ste_model.specs.declared.task.Weakening.{Weakening}
use Rattle.ste_model.specs.Asked.{weakened_at}
use Rattle.sym_step.specs.Step.{ids_of}
use Rattle.ste_engine.specs.private.Weakened.{HasWeakened, weak_timed_cuts}
use Rattle.ste_engine.proofs.WeakLines.{nets_inside}
use Rattle.ste_engine.proofs.place.failing_place.Goals as goal

pub fixed_line-requires : goal.fixed_line-requires
fixed_line-requires g c =
    let task : Assertion = c.args.task.now in
    subst (λ (xs : List Quint). All (λ quint. quint.to ≤ c.depth-depth.result) xs) (sym c.as_slice.ensures) (subst (λ m. All (λ quint. quint.to ≤ m) task.ant) (sym c.depth-depth.ensures) (ant_within task))

pub fixed_line-requires-2 : goal.fixed_line-requires-2
fixed_line-requires-2 g c =
    let task : Assertion = c.args.task.now in
    subst (λ (xs : List Quint). All (λ quint. quint.to ≤ c.depth-depth.result) xs) (sym c.as_slice-2.ensures) (subst (λ m. All (λ quint. quint.to ≤ m) task.con) (sym c.depth-depth.ensures) (con_within task))

pub loop-t-init : goal.loop-t-init
loop-t-init g c =
    let s : Store = g.N.Nodes.store c.args.nodes.now in
    let net : RawNet = c.args.net.now.raw in
    let task : Assertion = c.args.task.now in
    let bits : List Bool = c.args.bits.now in
    let f : Failure = c.args.failure in
    let gs = g.met.N.Nodes.diagram c.args.nodes.now in
    let n = c.depth-depth.result in
    record {
      ant = record { timed_cuts = fixed_timed_cuts bits 0 task.ant; fit = fixed_are bits s 0 task.ant gs; is = subst (λ (xs : List Quint). IsTimeline (fixed_timed_cuts bits 0 xs) n 0 c.in_ok-ant.ant) c.as_slice.ensures c.in_ok-ant.ensures };
      con = record { timed_cuts = fixed_timed_cuts bits 0 task.con; fit = fixed_are bits s 0 task.con gs; is = subst (λ (xs : List Quint). IsTimeline (fixed_timed_cuts bits 0 xs) n 0 c.in_ok-con.con) c.as_slice-2.ensures c.in_ok-con.ensures };
      weak = subst (λ (ws : List Weakening). IsTimeline (weak_timed_cuts n 0 ws) n 0 c.in_ok-weak.weak.line) c.as_slice-3.ensures c.in_ok-weak.ensures;
      reached = λ table is. place_begins net task bits f table s (next_of net c.in_ok-frame.frame) gs
          (subst (λ (xs : List Rails). AllZip (AreRails s) (latches_at net (fixed_task bits task) (constant_table table) 0) xs) (sym c.in_ok-frame.ensures.next) (firsts_are s task.reset net.latches gs));
      frame = c.in_ok-frame.ensures.frame s gs;
      same = nothing_yet s;
    }

pub renew-requires-clause-cuts : goal.renew-requires-clause-cuts
renew-requires-clause-cuts g c =
    let net : RawNet = c.args.net.now.raw in
    let task : Assertion = c.args.task.now in
    let bits : List Bool = c.args.bits.now in
    let f : Failure = c.args.failure in
    let t : Store = g.N.Nodes.store c.loop-t.nodes in
    let p = c.loop-t.invariant in
    let k = c.loop-t.t in
    let n = c.depth-depth.result in
    let ant : IsNextLine t net (map (fixed_quint bits) task.ant) n k c.advance.new.self c.cuts.result.now = next_line t net (map (fixed_quint bits) task.ant) n k c.loop-t.ant c.advance.new.self c.advance.new.self.cuts.items c.cuts.result.now
    p.ant c.loop-t-test.true (fixed_inside bits net.nets task.ant c.requires.ant) c.cuts.ensures c.in_ok-advance.ensures in
    ant.of

pub returns-in-Err-OutOfMemory-clause-same : goal.returns-in-Err-OutOfMemory-clause-same
returns-in-Err-OutOfMemory-clause-same g c =
    let s : Store = g.N.Nodes.store c.args.nodes.now in
    let net : RawNet = c.args.net.now.raw in
    let task : Assertion = c.args.task.now in
    let bits : List Bool = c.args.bits.now in
    let f : Failure = c.args.failure in
    let t : Store = g.N.Nodes.store c.loop-t.nodes in
    let p = c.loop-t.invariant in
    let k = c.loop-t.t in
    let n = c.depth-depth.result in
    let weak : HasWeakened task.weak n k c.advance-in-loop-t-2.new.self = c.in_ok-advance-3.ensures task.weak n p.weak c.loop-t-test.true in
    let weak_is : weakened_at task.weak k ≡ ids_of c.nets.result.now = weak.given ∙ ap ids_of (sym c.nets.ensures) in
    let below : k < depth task = subst (λ m. k < m) c.depth-depth.ensures c.loop-t-test.true in
    let table : ℕ → ℕ → BitSet = c.requires.found.0 in
    let is : IsTableOf net task bits table = c.requires.found.1 in
    let held : List Rails = next_of net c.loop-t.frame in
    let at : IsPlaceAt net task bits f table t k held = p.reached table is in
    let ant : IsNextLine t net (map (fixed_quint bits) task.ant) n k c.advance.new.self c.cuts.result.now = next_line t net (map (fixed_quint bits) task.ant) n k c.loop-t.ant c.advance.new.self c.advance.new.self.cuts.items c.cuts.result.now
    p.ant c.loop-t-test.true (fixed_inside bits net.nets task.ant c.requires.ant) c.cuts.ensures c.in_ok-advance.ensures in
    let u : Store = g.N.Nodes.store c.renew.new.nodes in
    let gt = g.met.N.Nodes.diagram c.loop-t.nodes in
    let gu = g.met.N.Nodes.diagram c.renew.new.nodes in
    let makes = step_makes net task bits f table is t u k below c.renew.new.frame c.nets.result.now weak_is c.cuts.result.now held (Err c.in-Err-OutOfMemory.field-0) gu (g.met.N.Nodes.made_held c.renew.new.nodes) ant.by at c.in-Err-OutOfMemory.ensures.built in
    nothing_more s t u p.same makes

pub unreachable-requires : goal.unreachable-requires
unreachable-requires g c =
    let net : RawNet = c.args.net.now.raw in
    let task : Assertion = c.args.task.now in
    let bits : List Bool = c.args.bits.now in
    let f : Failure = c.args.failure in
    let t : Store = g.N.Nodes.store c.loop-t.nodes in
    let p = c.loop-t.invariant in
    let k = c.loop-t.t in
    let n = c.depth-depth.result in
    let weak : HasWeakened task.weak n k c.advance-in-loop-t-2.new.self = c.in_ok-advance-3.ensures task.weak n p.weak c.loop-t-test.true in
    let weak_is : weakened_at task.weak k ≡ ids_of c.nets.result.now = weak.given ∙ ap ids_of (sym c.nets.ensures) in
    let below : k < depth task = subst (λ m. k < m) c.depth-depth.ensures c.loop-t-test.true in
    let table : ℕ → ℕ → BitSet = c.requires.found.0 in
    let is : IsTableOf net task bits table = c.requires.found.1 in
    let held : List Rails = next_of net c.loop-t.frame in
    let at : IsPlaceAt net task bits f table t k held = p.reached table is in
    let ant : IsNextLine t net (map (fixed_quint bits) task.ant) n k c.advance.new.self c.cuts.result.now = next_line t net (map (fixed_quint bits) task.ant) n k c.loop-t.ant c.advance.new.self c.advance.new.self.cuts.items c.cuts.result.now
    p.ant c.loop-t-test.true (fixed_inside bits net.nets task.ant c.requires.ant) c.cuts.ensures c.in_ok-advance.ensures in
    let u : Store = g.N.Nodes.store c.renew.new.nodes in
    let gt = g.met.N.Nodes.diagram c.loop-t.nodes in
    let gu = g.met.N.Nodes.diagram c.renew.new.nodes in
    step_goes net task bits f table is t u k below c.renew.new.frame c.nets.result.now weak_is c.cuts.result.now held (Err c.in-Err-StepsOut.field-0) gu (g.met.N.Nodes.made_held c.renew.new.nodes) ant.by at c.in-Err-StepsOut.ensures.built (ap Err c.in-Err-StepsOut.field-0-is)

pub first_failing_in-requires : goal.first_failing_in-requires
first_failing_in-requires g c =
    let net : RawNet = c.args.net.now.raw in
    let task : Assertion = c.args.task.now in
    let bits : List Bool = c.args.bits.now in
    let f : Failure = c.args.failure in
    let t : Store = g.N.Nodes.store c.loop-t.nodes in
    let p = c.loop-t.invariant in
    let k = c.loop-t.t in
    let n = c.depth-depth.result in
    let weak : HasWeakened task.weak n k c.advance-in-loop-t-2.new.self = c.in_ok-advance-3.ensures task.weak n p.weak c.loop-t-test.true in
    let weak_is : weakened_at task.weak k ≡ ids_of c.nets.result.now = weak.given ∙ ap ids_of (sym c.nets.ensures) in
    let below : k < depth task = subst (λ m. k < m) c.depth-depth.ensures c.loop-t-test.true in
    let table : ℕ → ℕ → BitSet = c.requires.found.0 in
    let is : IsTableOf net task bits table = c.requires.found.1 in
    let held : List Rails = next_of net c.loop-t.frame in
    let at : IsPlaceAt net task bits f table t k held = p.reached table is in
    let ant : IsNextLine t net (map (fixed_quint bits) task.ant) n k c.advance.new.self c.cuts.result.now = next_line t net (map (fixed_quint bits) task.ant) n k c.loop-t.ant c.advance.new.self c.advance.new.self.cuts.items c.cuts.result.now
    p.ant c.loop-t-test.true (fixed_inside bits net.nets task.ant c.requires.ant) c.cuts.ensures c.in_ok-advance.ensures in
    let u : Store = g.N.Nodes.store c.renew.new.nodes in
    let gt = g.met.N.Nodes.diagram c.loop-t.nodes in
    let gu = g.met.N.Nodes.diagram c.renew.new.nodes in
    let con : IsNextLine t net (map (fixed_quint bits) task.con) n k c.advance-in-loop-t.new.self c.cuts-in-loop-t.result.now = next_line t net (map (fixed_quint bits) task.con) n k c.loop-t.con c.advance-in-loop-t.new.self c.advance-in-loop-t.new.self.cuts.items c.cuts-in-loop-t.result.now
    p.con c.loop-t-test.true (fixed_inside bits net.nets task.con c.requires.con) c.cuts-in-loop-t.ensures c.in_ok-advance-2.ensures in
    let made : Step = step_of net c.renew.new.frame c.in-Ok.field-0 in
    let step : IsStep net (constant_table table k) u made = (step_built net task bits f table is t u k below c.renew.new.frame c.nets.result.now weak_is c.cuts.result.now held (Ok c.in-Ok.field-0) ant.by at c.in-Ok.ensures.built).ok in
    let nets : List Rails = nets_of c.renew.new.frame in
    let long : length nets ≡ net.nets = step.long in
    λ j d lt. let inside = (con.of j d lt).node in omega (arith, long, inside)

pub returns-in-Some-clause-place : goal.returns-in-Some-clause-place
returns-in-Some-clause-place g c =
    let net : RawNet = c.args.net.now.raw in
    let task : Assertion = c.args.task.now in
    let bits : List Bool = c.args.bits.now in
    let f : Failure = c.args.failure in
    let t : Store = g.N.Nodes.store c.loop-t.nodes in
    let p = c.loop-t.invariant in
    let k = c.loop-t.t in
    let n = c.depth-depth.result in
    let weak : HasWeakened task.weak n k c.advance-in-loop-t-2.new.self = c.in_ok-advance-3.ensures task.weak n p.weak c.loop-t-test.true in
    let weak_is : weakened_at task.weak k ≡ ids_of c.nets.result.now = weak.given ∙ ap ids_of (sym c.nets.ensures) in
    let below : k < depth task = subst (λ m. k < m) c.depth-depth.ensures c.loop-t-test.true in
    let table : ℕ → ℕ → BitSet = c.requires.found.0 in
    let is : IsTableOf net task bits table = c.requires.found.1 in
    let held : List Rails = next_of net c.loop-t.frame in
    let at : IsPlaceAt net task bits f table t k held = p.reached table is in
    let ant : IsNextLine t net (map (fixed_quint bits) task.ant) n k c.advance.new.self c.cuts.result.now = next_line t net (map (fixed_quint bits) task.ant) n k c.loop-t.ant c.advance.new.self c.advance.new.self.cuts.items c.cuts.result.now
    p.ant c.loop-t-test.true (fixed_inside bits net.nets task.ant c.requires.ant) c.cuts.ensures c.in_ok-advance.ensures in
    let u : Store = g.N.Nodes.store c.renew.new.nodes in
    let gt = g.met.N.Nodes.diagram c.loop-t.nodes in
    let gu = g.met.N.Nodes.diagram c.renew.new.nodes in
    let con : IsNextLine t net (map (fixed_quint bits) task.con) n k c.advance-in-loop-t.new.self c.cuts-in-loop-t.result.now = next_line t net (map (fixed_quint bits) task.con) n k c.loop-t.con c.advance-in-loop-t.new.self c.advance-in-loop-t.new.self.cuts.items c.cuts-in-loop-t.result.now
    p.con c.loop-t-test.true (fixed_inside bits net.nets task.con c.requires.con) c.cuts-in-loop-t.ensures c.in_ok-advance-2.ensures in
    let makes = step_makes net task bits f table is t u k below c.renew.new.frame c.nets.result.now weak_is c.cuts.result.now held (Ok c.in-Ok.field-0) gu (g.met.N.Nodes.made_held c.renew.new.nodes) ant.by at c.in-Ok.ensures.built in
    let made : Step = step_of net c.renew.new.frame c.in-Ok.field-0 in
    let step : IsStep net (constant_table table k) u made = (step_built net task bits f table is t u k below c.renew.new.frame c.nets.result.now weak_is c.cuts.result.now held (Ok c.in-Ok.field-0) ant.by at c.in-Ok.ensures.built).ok in
    let nets : List Rails = nets_of c.renew.new.frame in
    let long : length nets ≡ net.nets = step.long in
    let have : (id : ℕ) → id < length nets → AreRails u (constant_set (table k id)) (rails_at nets id) = λ id lt. step.nets id (omega (arith, long, lt)) in
    let wanted : AllZip (IsCutBy u) (symbolic_cuts_at (map (fixed_quint bits) task.con) k) c.cuts-in-loop-t.result.now = Demands-keep t u (symbolic_cuts_at (map (fixed_quint bits) task.con) k) c.cuts-in-loop-t.result.now gt gu makes.keeps con.by in
    let inside : All (λ quint. quint.node.0 < length nets) task.con = λ j d lt. let within = c.requires.con j d lt in omega (arith, long, within) in
    let told = first_is f u (table k) nets bits k gu have task.con c.cuts-in-loop-t.result.now inside wanted in
    place_is net task bits f table is t u k below c.renew.new.frame c.nets.result.now weak_is held c.in-Some.node at (subst (λ (o : Option NodeId). IsTold f (table k) (cuts_at task.con bits k) o) (sym c.in-Some.ensures) told)

pub returns-in-Some-clause-same : goal.returns-in-Some-clause-same
returns-in-Some-clause-same g c =
    let s : Store = g.N.Nodes.store c.args.nodes.now in
    let net : RawNet = c.args.net.now.raw in
    let task : Assertion = c.args.task.now in
    let bits : List Bool = c.args.bits.now in
    let f : Failure = c.args.failure in
    let t : Store = g.N.Nodes.store c.loop-t.nodes in
    let p = c.loop-t.invariant in
    let k = c.loop-t.t in
    let n = c.depth-depth.result in
    let weak : HasWeakened task.weak n k c.advance-in-loop-t-2.new.self = c.in_ok-advance-3.ensures task.weak n p.weak c.loop-t-test.true in
    let weak_is : weakened_at task.weak k ≡ ids_of c.nets.result.now = weak.given ∙ ap ids_of (sym c.nets.ensures) in
    let below : k < depth task = subst (λ m. k < m) c.depth-depth.ensures c.loop-t-test.true in
    let table : ℕ → ℕ → BitSet = c.requires.found.0 in
    let is : IsTableOf net task bits table = c.requires.found.1 in
    let held : List Rails = next_of net c.loop-t.frame in
    let at : IsPlaceAt net task bits f table t k held = p.reached table is in
    let ant : IsNextLine t net (map (fixed_quint bits) task.ant) n k c.advance.new.self c.cuts.result.now = next_line t net (map (fixed_quint bits) task.ant) n k c.loop-t.ant c.advance.new.self c.advance.new.self.cuts.items c.cuts.result.now
    p.ant c.loop-t-test.true (fixed_inside bits net.nets task.ant c.requires.ant) c.cuts.ensures c.in_ok-advance.ensures in
    let u : Store = g.N.Nodes.store c.renew.new.nodes in
    let gt = g.met.N.Nodes.diagram c.loop-t.nodes in
    let gu = g.met.N.Nodes.diagram c.renew.new.nodes in
    let makes = step_makes net task bits f table is t u k below c.renew.new.frame c.nets.result.now weak_is c.cuts.result.now held (Ok c.in-Ok.field-0) gu (g.met.N.Nodes.made_held c.renew.new.nodes) ant.by at c.in-Ok.ensures.built in
    nothing_more s t u p.same makes

pub loop-t-preserved : goal.loop-t-preserved
loop-t-preserved g c =
    let s : Store = g.N.Nodes.store c.args.nodes.now in
    let net : RawNet = c.args.net.now.raw in
    let task : Assertion = c.args.task.now in
    let bits : List Bool = c.args.bits.now in
    let f : Failure = c.args.failure in
    let t : Store = g.N.Nodes.store c.loop-t.nodes in
    let p = c.loop-t.invariant in
    let k = c.loop-t.t in
    let n = c.depth-depth.result in
    let weak : HasWeakened task.weak n k c.advance-in-loop-t-2.new.self = c.in_ok-advance-3.ensures task.weak n p.weak c.loop-t-test.true in
    let weak_is : weakened_at task.weak k ≡ ids_of c.nets.result.now = weak.given ∙ ap ids_of (sym c.nets.ensures) in
    let below : k < depth task = subst (λ m. k < m) c.depth-depth.ensures c.loop-t-test.true in
    let table : ℕ → ℕ → BitSet = c.requires.found.0 in
    let is : IsTableOf net task bits table = c.requires.found.1 in
    let held : List Rails = next_of net c.loop-t.frame in
    let at : IsPlaceAt net task bits f table t k held = p.reached table is in
    let ant : IsNextLine t net (map (fixed_quint bits) task.ant) n k c.advance.new.self c.cuts.result.now = next_line t net (map (fixed_quint bits) task.ant) n k c.loop-t.ant c.advance.new.self c.advance.new.self.cuts.items c.cuts.result.now
    p.ant c.loop-t-test.true (fixed_inside bits net.nets task.ant c.requires.ant) c.cuts.ensures c.in_ok-advance.ensures in
    let u : Store = g.N.Nodes.store c.renew.new.nodes in
    let gt = g.met.N.Nodes.diagram c.loop-t.nodes in
    let gu = g.met.N.Nodes.diagram c.renew.new.nodes in
    let con : IsNextLine t net (map (fixed_quint bits) task.con) n k c.advance-in-loop-t.new.self c.cuts-in-loop-t.result.now = next_line t net (map (fixed_quint bits) task.con) n k c.loop-t.con c.advance-in-loop-t.new.self c.advance-in-loop-t.new.self.cuts.items c.cuts-in-loop-t.result.now
    p.con c.loop-t-test.true (fixed_inside bits net.nets task.con c.requires.con) c.cuts-in-loop-t.ensures c.in_ok-advance-2.ensures in
    let makes = step_makes net task bits f table is t u k below c.renew.new.frame c.nets.result.now weak_is c.cuts.result.now held (Ok c.in-Ok.field-0) gu (g.met.N.Nodes.made_held c.renew.new.nodes) ant.by at c.in-Ok.ensures.built in
    record {
      ant = Line-keeps t u (map (fixed_quint bits) task.ant) n (k + 1) c.advance.new.self gt gu makes.keeps ant.is;
      con = Line-keeps t u (map (fixed_quint bits) task.con) n (k + 1) c.advance-in-loop-t.new.self gt gu makes.keeps con.is;
      weak = weak.is;
      reached = λ table is.
          let held : List Rails = next_of net c.loop-t.frame in
          let at : IsPlaceAt net task bits f table t k held = p.reached table is in
          let ant : IsNextLine t net (map (fixed_quint bits) task.ant) n k c.advance.new.self c.cuts.result.now = next_line t net (map (fixed_quint bits) task.ant) n k c.loop-t.ant c.advance.new.self c.advance.new.self.cuts.items c.cuts.result.now
          p.ant c.loop-t-test.true (fixed_inside bits net.nets task.ant c.requires.ant) c.cuts.ensures c.in_ok-advance.ensures in
          let con : IsNextLine t net (map (fixed_quint bits) task.con) n k c.advance-in-loop-t.new.self c.cuts-in-loop-t.result.now = next_line t net (map (fixed_quint bits) task.con) n k c.loop-t.con c.advance-in-loop-t.new.self c.advance-in-loop-t.new.self.cuts.items c.cuts-in-loop-t.result.now
          p.con c.loop-t-test.true (fixed_inside bits net.nets task.con c.requires.con) c.cuts-in-loop-t.ensures c.in_ok-advance-2.ensures in
          let makes = step_makes net task bits f table is t u k below c.renew.new.frame c.nets.result.now weak_is c.cuts.result.now held (Ok c.in-Ok.field-0) gu (g.met.N.Nodes.made_held c.renew.new.nodes) ant.by at c.in-Ok.ensures.built in
          let made : Step = step_of net c.renew.new.frame c.in-Ok.field-0 in
          let step : IsStep net (constant_table table k) u made = (step_built net task bits f table is t u k below c.renew.new.frame c.nets.result.now weak_is c.cuts.result.now held (Ok c.in-Ok.field-0) ant.by at c.in-Ok.ensures.built).ok in
          let nets : List Rails = nets_of c.renew.new.frame in
          let long : length nets ≡ net.nets = step.long in
          let have : (id : ℕ) → id < length nets → AreRails u (constant_set (table k id)) (rails_at nets id) = λ id lt. step.nets id (omega (arith, long, lt)) in
          let wanted : AllZip (IsCutBy u) (symbolic_cuts_at (map (fixed_quint bits) task.con) k) c.cuts-in-loop-t.result.now = Demands-keep t u (symbolic_cuts_at (map (fixed_quint bits) task.con) k) c.cuts-in-loop-t.result.now gt gu makes.keeps con.by in
          let inside : All (λ quint. quint.node.0 < length nets) task.con = λ j d lt. let within = c.requires.con j d lt in omega (arith, long, within) in
          let told = first_is f u (table k) nets bits k gu have task.con c.cuts-in-loop-t.result.now inside wanted in
          place_next net task bits f table is t u k below c.renew.new.frame c.nets.result.now weak_is held made at step (subst (λ (o : Option NodeId). IsTold f (table k) (cuts_at task.con bits k) o) (sym c.first_failing_in.ensures ∙ not_some c.first_failing_in.result c.in_default.not-Some) told);
      frame = c.in-Ok.ensures.frame;
      same = nothing_more s t u p.same makes;
    }

pub unreachable-requires-2 : goal.unreachable-requires-2
unreachable-requires-2 g c =
    let net : RawNet = c.args.net.now.raw in
    let task : Assertion = c.args.task.now in
    let bits : List Bool = c.args.bits.now in
    let f : Failure = c.args.failure in
    let t : Store = g.N.Nodes.store c.loop-t.nodes in
    let p = c.loop-t.invariant in
    let k = c.loop-t.t in
    let n = c.depth-depth.result in
    let table : ℕ → ℕ → BitSet = c.requires.found.0 in
    let is : IsTableOf net task bits table = c.requires.found.1 in
    let end : k ≡ depth task = (let le = c.loop-t-test.false in let most = c.loop-t.auto.t-end in omega (arith, le, most)) ∙ c.depth-depth.ensures in
    place_ends net task bits f table t k (next_of net c.loop-t.frame) (p.reached table is) end c.requires.found.3

pub advance-requires-in-loop-t-2 : goal.advance-requires-in-loop-t-2
advance-requires-in-loop-t-2 g c = let long = c.loop-t.invariant.weak.starts.long in omega (arith, long, c.loop-t-test.true)

pub renew-requires-clause-weak : goal.renew-requires-clause-weak
renew-requires-clause-weak g c =
    let task : Assertion = c.args.task.now in
    let n = c.depth-depth.result in
    let k = c.loop-t.t in
    let weak : HasWeakened task.weak n k c.advance-in-loop-t-2.new.self = c.in_ok-advance-3.ensures task.weak n c.loop-t.invariant.weak c.loop-t-test.true in
    nets_inside c.args.net.now.raw.nets k task.weak c.nets.result.now c.requires.weak (weak.given ∙ ap ids_of (sym c.nets.ensures))
