use Rattle.std.proofs.Math.Seq.{take-suc}
use Rattle.std.proofs.Common.{◌≡◌, ◌+◌, ◌<◌, ◌∷◌, ◌++◌, [], suc, length, take, get_or, sym, ◌∙◌, ap, subst, arith, List, Ok, Err, Vec, Global, Contains}
use Rattle.std.proofs.lemmas.List.{length-take, take_all}
use Rattle.dd_nodes.specs.Stores.{Store}
use Rattle.dual_rail.specs.Rail.{Built}
use Rattle.dual_rail.proofs.Works.{Built-lost, Built-made, Built-wider, Within, more, pass}
use Rattle.ste_model.specs.declared.task.Quint.{Quint}
use Rattle.ste_model.specs.Work.{quints_work}
use Rattle.ste_engine.specs.declared.timed_cuts.TimedCut.{TimedCut}
use Rattle.ste_engine.specs.private.TimedCuts.{AreTimedCuts, DoesRead, IsTimedCut, quint_work}
use Rattle.ste_engine.proofs.Asked.{TimedCuts-keep, timed_cuts_push, quints_has}
use Rattle.ste_engine.proofs.timed_cuts.timed_cuts_of.Goals as goal

pub loop-k-preserved : goal.loop-k-preserved
loop-k-preserved g c =
    let s : Store = g.N.Nodes.store c.args.nodes.now in
    let t : Store = g.N.Nodes.store c.loop-k.nodes in
    let u : Store = g.N.Nodes.store c.timed_cut_of.new.nodes in
    let gt = g.met.N.Nodes.diagram c.loop-k.nodes in
    let gu = g.met.N.Nodes.diagram c.timed_cut_of.new.nodes in
    let quints : List Quint = c.args.quints.now in
    let k = c.loop-k.k in
    let q : Quint = c.index-quints-k.result in
    let timed_cut : TimedCut = c.in_ok-timed_cut.timed_cut in
    let lt : k < length quints = omega (arith, c.loop-k-test.true) in
    let p = c.loop-k.invariant in
    let a : Built (quint_work q) (λ t a. IsTimedCut t k q a) t u (Ok timed_cut) = c.in_ok-timed_cut.ensures in
    let within : Within (quint_work q) (quints_work quints) = λ f h. quints_has quints k q lt f (subst (λ (x : Quint). Contains (quint_work x) f) c.index-quints-k.is h) in
    let b = Built-wider (quints_work quints) (quint_work q) (λ t a. IsTimedCut t k q a) t u (Ok timed_cut) within a in
    let quints_are : take (k + 1) quints ≡ take k quints ++ q ∷ [] = ap (λ j. take j quints) (let e : k + 1 ≡ suc k = omega arith in e) ∙ take-suc quints k q lt ∙ ap (λ x. take k quints ++ x ∷ []) (sym c.index-quints-k.is) in
    let long : 0 + length (take k quints) ≡ k = simp (length-take) (omega (arith, lt)) in
    record {
      reads = λ i d l. subst (λ vars. DoesRead vars (get_or quints i d)) (sym a.spends.keeps.vars) (p.reads i d l);
      so = more (quints_work quints) (λ t a. IsTimedCut t k q a) s t u (Ok timed_cut) gt gu p.so b;
      fit = subst (λ (xs : List Quint). AreTimedCuts u 0 xs c.push.new.self.items) (sym {A = List Quint} quints_are) (subst (λ (ys : List TimedCut). AreTimedCuts u 0 (take k quints ++ q ∷ []) ys) (sym {A = List TimedCut} c.in-Ok.ensures.items)
          (timed_cuts_push u 0 (take k quints) c.loop-k.timed_cuts.items q timed_cut (TimedCuts-keep t u 0 (take k quints) c.loop-k.timed_cuts.items gt gu a.spends.keeps p.fit) (subst (λ n. IsTimedCut u n q timed_cut) (sym long) a.ok)));
    }

pub returns-in_err-timed_cut : goal.returns-in_err-timed_cut
returns-in_err-timed_cut g c =
    let s : Store = g.N.Nodes.store c.args.nodes.now in
    let t : Store = g.N.Nodes.store c.loop-k.nodes in
    let u : Store = g.N.Nodes.store c.timed_cut_of.new.nodes in
    let quints : List Quint = c.args.quints.now in
    let k = c.loop-k.k in
    let q : Quint = c.index-quints-k.result in
    let lt : k < length quints = omega (arith, c.loop-k-test.true) in
    let fault = c.in_err-timed_cut.field-0.0 in
    let within : Within (quint_work q) (quints_work quints) = λ f h. quints_has quints k q lt f (subst (λ (x : Quint). Contains (quint_work x) f) c.index-quints-k.is h) in
    pass (quints_work quints) (λ t a. IsTimedCut t k q a) (λ t (timed_cuts : Vec TimedCut Global). AreTimedCuts t 0 quints timed_cuts.items) s t u fault c.from_residual.result (g.met.N.Nodes.diagram c.loop-k.nodes) (g.met.N.Nodes.diagram c.timed_cut_of.new.nodes) c.loop-k.invariant.so
    (Built-wider (quints_work quints) (quint_work q) (λ t a. IsTimedCut t k q a) t u (Err fault) within c.in_err-timed_cut.ensures) c.from_residual.ensures.1

pub returns-in-Err : goal.returns-in-Err
returns-in-Err g c =
    let s : Store = g.N.Nodes.store c.args.nodes.now in
    let t : Store = g.N.Nodes.store c.loop-k.nodes in
    let u : Store = g.N.Nodes.store c.timed_cut_of.new.nodes in
    let quints : List Quint = c.args.quints.now in
    let k = c.loop-k.k in
    let q : Quint = c.index-quints-k.result in
    let lt : k < length quints = omega (arith, c.loop-k-test.true) in
    let timed_cut : TimedCut = c.in_ok-timed_cut.timed_cut in
    let within : Within (quint_work q) (quints_work quints) = λ f h. quints_has quints k q lt f (subst (λ (x : Quint). Contains (quint_work x) f) c.index-quints-k.is h) in
    let b = Built-wider (quints_work quints) (quint_work q) (λ t a. IsTimedCut t k q a) t u (Ok timed_cut) within c.in_ok-timed_cut.ensures in
    Built-lost (quints_work quints) (λ t (timed_cuts : Vec TimedCut Global). AreTimedCuts t 0 quints timed_cuts.items) s u
    (more (quints_work quints) (λ t a. IsTimedCut t k q a) s t u (Ok timed_cut) (g.met.N.Nodes.diagram c.loop-k.nodes) (g.met.N.Nodes.diagram c.timed_cut_of.new.nodes) c.loop-k.invariant.so b)

pub returns : goal.returns
returns g c =
    let s : Store = g.N.Nodes.store c.args.nodes.now in
    let t : Store = g.N.Nodes.store c.loop-k.nodes in
    let quints : List Quint = c.args.quints.now in
    Built-made (quints_work quints) (λ t (timed_cuts : Vec TimedCut Global). AreTimedCuts t 0 quints timed_cuts.items) s t c.loop-k.timed_cuts c.loop-k.invariant.so
    (subst (λ (xs : List Quint). AreTimedCuts t 0 xs c.loop-k.timed_cuts.items) (take_all c.loop-k.k quints (omega (arith, c.loop-k-test.false))) c.loop-k.invariant.fit)
