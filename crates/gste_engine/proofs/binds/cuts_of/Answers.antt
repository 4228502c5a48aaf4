use Rattle.std.proofs.Common.{◌≡◌, ◌+◌, ◌<◌, ◌∷◌, ◌++◌, [], length, take, get_or, sym, ◌∙◌, ap, subst, arith, List, Ok, Err, Vec, Global, Contains}
use Rattle.std.specs.List.{AllZip}
use Rattle.std.specs.Prelude.{◌&&◌, IsTrue}
use Rattle.std.proofs.lemmas.List.{map_more, take_all}
use Rattle.dd_nodes.specs.Stores.{Store}
use Rattle.net_core.specs.Work.{SymbolicCut}
use Rattle.dual_rail.proofs.Works.{Built-lost, Built-made, So-start, Within, first, lost, pass}
use Rattle.ste_model.specs.declared.task.Bind.{Bind}
use Rattle.ste_model.specs.Expressions.{reads}
use Rattle.ste_model.specs.GraphWork.{binds_work, symbolic_bind, symbolic_binds}
use Rattle.sym_step.specs.declared.cut.Cut.{Cut}
use Rattle.sym_step.specs.Step.{IsCutBy}
use Rattle.sym_step.proofs.Cutting.{Demands-keep}
use Rattle.gste_engine.specs.private.Given.{bind_work}
use Rattle.gste_engine.proofs.CutLists.{binds_has}
use Rattle.gste_engine.proofs.Lists.{zip_push}
use Rattle.gste_engine.proofs.Turning.{turned}
use Rattle.gste_engine.proofs.binds.cuts_of.Goals as goal

pub loop-k-preserved : goal.loop-k-preserved
loop-k-preserved g c =
    let s : Store = g.N.Nodes.store c.args.nodes.now in
    let t : Store = g.N.Nodes.store c.loop-k.nodes in
    let u : Store = g.N.Nodes.store c.cut_of.new.nodes in
    let gt = g.met.N.Nodes.diagram c.loop-k.nodes in
    let gu = g.met.N.Nodes.diagram c.cut_of.new.nodes in
    let binds : List Bind = c.args.binds.now in
    let k = c.loop-k.k in
    let q : Bind = c.index-binds-k.result in
    let cut : Cut = c.in_ok-cut.cut in
    let lt : k < length binds = omega (arith, c.loop-k-test.true) in
    let p = c.loop-k.invariant in
    let within : Within (bind_work q) (binds_work binds) = λ f h. binds_has binds k q lt f (subst (λ (x : Bind). Contains (bind_work x) f) c.index-binds-k.is h) in
    let b = turned (binds_work binds) (bind_work q) (λ t a. IsCutBy t (symbolic_bind q) a) s t u (Ok cut) gt gu within p.so c.in_ok-cut.ensures in
    let keeps = c.in_ok-cut.ensures.spends.keeps in
    let cuts_are : symbolic_binds (take (k + 1) binds) ≡ symbolic_binds (take k binds) ++ symbolic_bind q ∷ [] = map_more symbolic_bind binds k q lt ∙ ap (λ (x : Bind). symbolic_binds (take k binds) ++ symbolic_bind x ∷ []) (sym c.index-binds-k.is) in
    record {
      reads = λ i d l. subst (λ vars. IsTrue (reads vars (get_or binds i d).guard && reads vars (get_or binds i d).value)) (sym keeps.vars) (p.reads i d l);
      so = first (binds_work binds) (λ t a. IsCutBy t (symbolic_bind q) a) s u (Ok cut) b;
      fit = subst (λ (xs : List SymbolicCut). AllZip (IsCutBy u) xs c.push.new.self.items) (sym cuts_are) (subst (λ (ys : List Cut). AllZip (IsCutBy u) (symbolic_binds (take k binds) ++ symbolic_bind q ∷ []) ys) (sym {A = List Cut} c.in-Ok.ensures.items)
          (zip_push (IsCutBy u) (symbolic_binds (take k binds)) c.loop-k.cuts.items (symbolic_bind q) cut (Demands-keep t u (symbolic_binds (take k binds)) c.loop-k.cuts.items gt gu keeps p.fit) b.ok));
    }

pub returns-in_err-cuts : goal.returns-in_err-cuts
returns-in_err-cuts g c =
    let s : Store = g.N.Nodes.store c.args.nodes.now in
    let binds : List Bind = c.args.binds.now in
    lost (binds_work binds) (λ t (cuts : Vec Cut Global). AllZip (IsCutBy t) (symbolic_binds binds) cuts.items) s s c.from_residual.result (So-start (binds_work binds) s) c.from_residual.ensures.1

pub returns-in_err-cut : goal.returns-in_err-cut
returns-in_err-cut g c =
    let s : Store = g.N.Nodes.store c.args.nodes.now in
    let t : Store = g.N.Nodes.store c.loop-k.nodes in
    let u : Store = g.N.Nodes.store c.cut_of.new.nodes in
    let gs = g.met.N.Nodes.diagram c.args.nodes.now in
    let gt = g.met.N.Nodes.diagram c.loop-k.nodes in
    let gu = g.met.N.Nodes.diagram c.cut_of.new.nodes in
    let binds : List Bind = c.args.binds.now in
    let k = c.loop-k.k in
    let q : Bind = c.index-binds-k.result in
    let lt : k < length binds = omega (arith, c.loop-k-test.true) in
    let fault = c.in_err-cut.field-0.0 in
    let within : Within (bind_work q) (binds_work binds) = λ f h. binds_has binds k q lt f (subst (λ (x : Bind). Contains (bind_work x) f) c.index-binds-k.is h) in
    pass (binds_work binds) (λ t a. IsCutBy t (symbolic_bind q) a) (λ t (cuts : Vec Cut Global). AllZip (IsCutBy t) (symbolic_binds binds) cuts.items) s s u fault c.from_residual-in_err-cut.result gs gu (So-start (binds_work binds) s)
    (turned (binds_work binds) (bind_work q) (λ t a. IsCutBy t (symbolic_bind q) a) s t u (Err fault) gt gu within c.loop-k.invariant.so c.in_err-cut.ensures) c.from_residual-in_err-cut.ensures.1

pub returns-in-Err : goal.returns-in-Err
returns-in-Err g c =
    let s : Store = g.N.Nodes.store c.args.nodes.now in
    let t : Store = g.N.Nodes.store c.loop-k.nodes in
    let u : Store = g.N.Nodes.store c.cut_of.new.nodes in
    let gt = g.met.N.Nodes.diagram c.loop-k.nodes in
    let gu = g.met.N.Nodes.diagram c.cut_of.new.nodes in
    let binds : List Bind = c.args.binds.now in
    let k = c.loop-k.k in
    let q : Bind = c.index-binds-k.result in
    let cut : Cut = c.in_ok-cut.cut in
    let lt : k < length binds = omega (arith, c.loop-k-test.true) in
    let within : Within (bind_work q) (binds_work binds) = λ f h. binds_has binds k q lt f (subst (λ (x : Bind). Contains (bind_work x) f) c.index-binds-k.is h) in
    Built-lost (binds_work binds) (λ t (cuts : Vec Cut Global). AllZip (IsCutBy t) (symbolic_binds binds) cuts.items) s u
    (first (binds_work binds) (λ t a. IsCutBy t (symbolic_bind q) a) s u (Ok cut) (turned (binds_work binds) (bind_work q) (λ t a. IsCutBy t (symbolic_bind q) a) s t u (Ok cut) gt gu within c.loop-k.invariant.so c.in_ok-cut.ensures))

pub returns : goal.returns
returns g c =
    let s : Store = g.N.Nodes.store c.args.nodes.now in
    let t : Store = g.N.Nodes.store c.loop-k.nodes in
    let binds : List Bind = c.args.binds.now in
    Built-made (binds_work binds) (λ t (cuts : Vec Cut Global). AllZip (IsCutBy t) (symbolic_binds binds) cuts.items) s t c.loop-k.cuts c.loop-k.invariant.so
    (subst (λ (xs : List Bind). AllZip (IsCutBy t) (symbolic_binds xs) c.loop-k.cuts.items) (take_all c.loop-k.k binds (omega (arith, c.loop-k-test.false))) c.loop-k.invariant.fit)
