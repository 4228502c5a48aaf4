use Rattle.std.proofs.Common.{◌≡◌, ◌<◌, ℕ, List, length, map, ◌∙◌, arith, All, Ok, Err}
use Rattle.std.specs.List.{AllZip}
use Rattle.std.proofs.lemmas.List.{length-map}
use Rattle.dd_nodes.specs.declared.node.Ref.{Ref}
use Rattle.ste_base.specs.Functions.{Function}
use Rattle.net_core.specs.declared.raw.RawNet.{RawNet}
use Rattle.dd_nodes.specs.Stores.{Store, function}
use Rattle.dd_nodes.proofs.Spending.{own}
use Rattle.dd_nodes.proofs.Stores.{Keeps-trans, Means-keeps}
use Rattle.dd_nodes.proofs.Walks.{IsFrom-grows}
use Rattle.net_core.specs.Work.{SymbolicCut, SymbolicSet, disjunction, some_empty, time_work}
use Rattle.dual_rail.specs.declared.rails.Rails.{Rails}
use Rattle.dual_rail.specs.Rail.{AreRails, AreRefs, Built, HasFunction}
use Rattle.dual_rail.proofs.Turns.{All-refs-keep, Zip-keep}
use Rattle.dual_rail.proofs.Works.{Built-made, Built-wider, Rails-keep, So-start, first, more, or_built, own_set, pass, set_where}
use Rattle.sym_step.specs.declared.made.Step.{Step}
use Rattle.sym_step.specs.Step.{IsCutBy, IsStep, rails_at}
use Rattle.sym_step.specs.declared.cut.Cut.{Cut}
use Rattle.sym_step.proofs.Cutting.{Demands-keep, own_demands}
use Rattle.sym_step.proofs.Framing.{frame_keeps, rails_refs}
use Rattle.sym_step.specs.declared.frame.Frame.{Frame}
use Rattle.sym_step.specs.Frame.{bare, next_of, nets_of, step_of}
use Rattle.ste_engine.specs.declared.results.Found.{Found}
use Rattle.ste_engine.specs.declared.turn.Turned.{Turned}
use Rattle.ste_engine.specs.private.Finds.{AreFound, found_work, more_strong, more_weak}
use Rattle.ste_engine.specs.private.Turns.{IsTurned, asked_by, turned_work}
use Rattle.ste_engine.proofs.Turned.{empty_in, found_in, time_in}
use Rattle.ste_engine.proofs.turn.turn.Goals as goal

abbrev Good : RawNet → (ℕ → SymbolicSet) → Frame → Store → Ref → Type 0
Good net sets frame t r = IsStep net sets t (step_of net frame r)

pub returns-in_err-empty-clause-built : goal.returns-in_err-empty-clause-built
returns-in_err-empty-clause-built g c = λ ls weakened ds es sets k f h zip weak asked others family mk sums.
    let s : Store = g.N.Nodes.store c.args.nodes.now in
    let t : Store = g.N.Nodes.store c.renew.new.nodes in
    let gs = g.met.N.Nodes.diagram c.args.nodes.now in
    let gt = g.met.N.Nodes.diagram c.renew.new.nodes in
    let net = c.args.net.now in
    let before : Turned = c.args.before.now in
    let work : List Function = turned_work net.raw ls weakened ds es sets k f h in
    let fault = c.in_err-empty.field-0.0 in
    pass work (Good net.raw sets c.renew.new.frame) (IsTurned net.raw es sets k f h (next_of net.raw c.renew.new.frame)) s s t fault c.from_residual.result gs gt (So-start work s)
    (Built-wider work (time_work net.raw ls (asked_by weakened ds) sets) (Good net.raw sets c.renew.new.frame) s t (Err fault) (time_in net.raw ls weakened ds es sets k f h) (c.in_err-empty.ensures.built ls (asked_by weakened ds) sets zip asked weak family)) c.from_residual.ensures.1

pub returns-in_err-contradictory-clause-built : goal.returns-in_err-contradictory-clause-built
returns-in_err-contradictory-clause-built g c = λ ls weakened ds es sets k f h zip weak asked others family mk sums.
    let s : Store = g.N.Nodes.store c.args.nodes.now in
    let t : Store = g.N.Nodes.store c.renew.new.nodes in
    let gs = g.met.N.Nodes.diagram c.args.nodes.now in
    let gt = g.met.N.Nodes.diagram c.renew.new.nodes in
    let net = c.args.net.now in
    let before : Turned = c.args.before.now in
    let work : List Function = turned_work net.raw ls weakened ds es sets k f h in
    let made : Step = step_of net.raw c.renew.new.frame c.in_ok-empty.empty in
    let a : Built work (Good net.raw sets c.renew.new.frame) s t (Ok c.in_ok-empty.empty) = Built-wider work (time_work net.raw ls (asked_by weakened ds) sets) (Good net.raw sets c.renew.new.frame) s t (Ok c.in_ok-empty.empty) (time_in net.raw ls weakened ds es sets k f h) (c.in_ok-empty.ensures.built ls (asked_by weakened ds) sets zip asked weak family) in
    let so1 = first work (Good net.raw sets c.renew.new.frame) s t (Ok c.in_ok-empty.empty) a in
    let u : Store = g.N.Nodes.store c.either.new.nodes in
    let gu = g.met.N.Nodes.diagram c.either.new.nodes in
    let e : Function = some_empty net.raw sets in
    let fault = c.in_err-contradictory.field-0.0 in
    pass work (HasFunction (disjunction k e)) (IsTurned net.raw es sets k f h (next_of net.raw c.renew.new.frame)) s t u fault c.from_residual-in_err-contradictory.result gt gu so1
    (or_built work k e t u before.contradictory made.contradictory (Err fault) (empty_in net.raw ls weakened ds es sets k f h) (Means-keeps s t k before.contradictory gs gt a.spends.keeps mk) a.ok.contradictory c.in_err-contradictory.ensures) c.from_residual-in_err-contradictory.ensures.1

pub returns-in_err-found-clause-built : goal.returns-in_err-found-clause-built
returns-in_err-found-clause-built g c = λ ls weakened ds es sets k f h zip weak asked others family mk sums.
    let s : Store = g.N.Nodes.store c.args.nodes.now in
    let t : Store = g.N.Nodes.store c.renew.new.nodes in
    let gs = g.met.N.Nodes.diagram c.args.nodes.now in
    let gt = g.met.N.Nodes.diagram c.renew.new.nodes in
    let net = c.args.net.now in
    let before : Turned = c.args.before.now in
    let work : List Function = turned_work net.raw ls weakened ds es sets k f h in
    let made : Step = step_of net.raw c.renew.new.frame c.in_ok-empty.empty in
    let a : Built work (Good net.raw sets c.renew.new.frame) s t (Ok c.in_ok-empty.empty) = Built-wider work (time_work net.raw ls (asked_by weakened ds) sets) (Good net.raw sets c.renew.new.frame) s t (Ok c.in_ok-empty.empty) (time_in net.raw ls weakened ds es sets k f h) (c.in_ok-empty.ensures.built ls (asked_by weakened ds) sets zip asked weak family) in
    let so1 = first work (Good net.raw sets c.renew.new.frame) s t (Ok c.in_ok-empty.empty) a in
    let u : Store = g.N.Nodes.store c.either.new.nodes in
    let gu = g.met.N.Nodes.diagram c.either.new.nodes in
    let e : Function = some_empty net.raw sets in
    let con = c.in_ok-contradictory.contradictory in
    let b : Built work (HasFunction (disjunction k e)) t u (Ok con) = or_built work k e t u before.contradictory made.contradictory (Ok con) (empty_in net.raw ls weakened ds es sets k f h) (Means-keeps s t k before.contradictory gs gt a.spends.keeps mk) a.ok.contradictory c.in_ok-contradictory.ensures in
    let so2 = more work (HasFunction (disjunction k e)) s t u (Ok con) gt gu so1 b in
    let v : Store = g.N.Nodes.store c.find_all.new.nodes in
    let gv = g.met.N.Nodes.diagram c.find_all.new.nodes in
    let nets : List Rails = nets_of c.renew.new.frame in
    let long = a.ok.long in
    let have : (id : ℕ) → id < length nets → AreRails u (sets id) (rails_at nets id) = (λ id lt. Rails-keep t u (sets id) (rails_at made.nets id) gt gu b.spends.keeps (a.ok.nets id (omega (arith, long, lt)))) in
    let wanted : AllZip (IsCutBy u) es c.args.con.now = Demands-keep s u es c.args.con.now gs gu so2.keeps others in
    let begun : AreFound f h u before.found = record { strong = Means-keeps s u f before.found.strong gs gu so2.keeps sums.strong; weak = Means-keeps s u h before.found.weak gs gu so2.keeps sums.weak } in
    let Sums : Store → Found → Type 0 = AreFound (more_strong sets es f) (more_weak sets es h) in
    let fault = c.in_err-found.field-0.0 in
    pass work Sums (IsTurned net.raw es sets k f h (next_of net.raw c.renew.new.frame)) s u v fault c.from_residual-in_err-found.result gu gv so2
    (Built-wider work (found_work sets es f h) Sums u v (Err fault) (found_in net.raw ls weakened ds es sets k f h) (c.in_err-found.ensures sets es f h have wanted begun)) c.from_residual-in_err-found.ensures.1

pub returns-clause-built : goal.returns-clause-built
returns-clause-built g c = λ ls weakened ds es sets k f h zip weak asked others family mk sums.
    let s : Store = g.N.Nodes.store c.args.nodes.now in
    let t : Store = g.N.Nodes.store c.renew.new.nodes in
    let gs = g.met.N.Nodes.diagram c.args.nodes.now in
    let gt = g.met.N.Nodes.diagram c.renew.new.nodes in
    let net = c.args.net.now in
    let before : Turned = c.args.before.now in
    let work : List Function = turned_work net.raw ls weakened ds es sets k f h in
    let made : Step = step_of net.raw c.renew.new.frame c.in_ok-empty.empty in
    let a : Built work (Good net.raw sets c.renew.new.frame) s t (Ok c.in_ok-empty.empty) = Built-wider work (time_work net.raw ls (asked_by weakened ds) sets) (Good net.raw sets c.renew.new.frame) s t (Ok c.in_ok-empty.empty) (time_in net.raw ls weakened ds es sets k f h) (c.in_ok-empty.ensures.built ls (asked_by weakened ds) sets zip asked weak family) in
    let so1 = first work (Good net.raw sets c.renew.new.frame) s t (Ok c.in_ok-empty.empty) a in
    let u : Store = g.N.Nodes.store c.either.new.nodes in
    let gu = g.met.N.Nodes.diagram c.either.new.nodes in
    let e : Function = some_empty net.raw sets in
    let con = c.in_ok-contradictory.contradictory in
    let b : Built work (HasFunction (disjunction k e)) t u (Ok con) = or_built work k e t u before.contradictory made.contradictory (Ok con) (empty_in net.raw ls weakened ds es sets k f h) (Means-keeps s t k before.contradictory gs gt a.spends.keeps mk) a.ok.contradictory c.in_ok-contradictory.ensures in
    let so2 = more work (HasFunction (disjunction k e)) s t u (Ok con) gt gu so1 b in
    let v : Store = g.N.Nodes.store c.find_all.new.nodes in
    let gv = g.met.N.Nodes.diagram c.find_all.new.nodes in
    let nets : List Rails = nets_of c.renew.new.frame in
    let long = a.ok.long in
    let have : (id : ℕ) → id < length nets → AreRails u (sets id) (rails_at nets id) = (λ id lt. Rails-keep t u (sets id) (rails_at made.nets id) gt gu b.spends.keeps (a.ok.nets id (omega (arith, long, lt)))) in
    let wanted : AllZip (IsCutBy u) es c.args.con.now = Demands-keep s u es c.args.con.now gs gu so2.keeps others in
    let begun : AreFound f h u before.found = record { strong = Means-keeps s u f before.found.strong gs gu so2.keeps sums.strong; weak = Means-keeps s u h before.found.weak gs gu so2.keeps sums.weak } in
    let Sums : Store → Found → Type 0 = AreFound (more_strong sets es f) (more_weak sets es h) in
    let found = c.in_ok-found.found in
    let d : Built work Sums u v (Ok found) = Built-wider work (found_work sets es f h) Sums u v (Ok found) (found_in net.raw ls weakened ds es sets k f h) (c.in_ok-found.ensures sets es f h have wanted begun) in
    let so3 = more work Sums s u v (Ok found) gu gv so2 d in
    let keeps = Keeps-trans t u v b.spends.keeps d.spends.keeps in
    Built-made work (IsTurned net.raw es sets k f h (next_of net.raw c.renew.new.frame)) s v (record { contradictory = con; found = found }) so3
    (record {
      nets = λ id lt. (rails_at made.nets id, Rails-keep t v (sets id) (rails_at made.nets id) gt gv keeps (a.ok.nets id lt));
      next = Zip-keep t v (map (λ latch. sets latch.input.0) net.raw.latches) made.next gt gv keeps a.ok.next;
      contradictory = Means-keeps u v (disjunction k e) con gu gv d.spends.keeps b.ok;
      found = d.ok;
    })

pub either-requires-clause-left : goal.either-requires-clause-left
either-requires-clause-left g c = IsFrom-grows _ _ 0 _ c.in_ok-empty.ensures.keeps.grows c.requires.before.contradictory

pub find_all-requires-clause-nets : goal.find_all-requires-clause-nets
find_all-requires-clause-nets g c =
    let t : Store = g.N.Nodes.store c.renew.new.nodes in
    let u : Store = g.N.Nodes.store c.either.new.nodes in
    let frame : Frame = c.renew.new.frame in
    All-refs-keep t u (nets_of frame) c.in_ok-contradictory.ensures.keeps (rails_refs t frame.board.nets.items c.in_ok-empty.ensures.frame.refs)

pub find_all-requires-clause-inside : goal.find_all-requires-clause-inside
find_all-requires-clause-inside g c =
    let frame : Frame = c.renew.new.frame in
    let nets : length (nets_of frame) ≡ c.args.net.now.raw.nets = length-map frame.board.nets.items bare ∙ c.in_ok-empty.ensures.frame.long in
    λ k d lt. let inside = (c.requires.con k d lt).node in omega (arith, nets, inside)

pub returns-clause-frame : goal.returns-clause-frame
returns-clause-frame g c =
    let s : Store = g.N.Nodes.store c.args.nodes.now in
    let t : Store = g.N.Nodes.store c.renew.new.nodes in
    let u : Store = g.N.Nodes.store c.either.new.nodes in
    let v : Store = g.N.Nodes.store c.find_all.new.nodes in
    let gt = g.met.N.Nodes.diagram c.renew.new.nodes in
    let gv = g.met.N.Nodes.diagram c.find_all.new.nodes in
    let net = c.args.net.now in
    let con : List Cut = c.args.con.now in
    let before : Turned = c.args.before.now in
    let frame : Frame = c.renew.new.frame in
    let nets : List Rails = nets_of frame in
    let stu = c.in_ok-contradictory.ensures.keeps in
    let ksu = Keeps-trans s t u c.in_ok-empty.ensures.keeps stu in
    let refs : All (AreRefs u) nets = All-refs-keep t u nets stu (rails_refs t frame.board.nets.items c.in_ok-empty.ensures.frame.refs) in
    let sets : ℕ → SymbolicSet = λ id. set_where u (rails_at nets id) in
    let have : (id : ℕ) → id < length nets → AreRails u (sets id) (rails_at nets id) = λ id lt. own_set u (rails_at nets id) (refs id _ lt) in
    let asked : List SymbolicCut = map (λ (x : Cut). record { node = x.node.0; guard = function u x.guard; value = function u x.value }) con in
    let wanted : AllZip (IsCutBy u) asked con = own_demands u con (λ k d l. IsFrom-grows s.held u.held 0 _ ksu.grows (c.requires.con k d l).guard) (λ k d l. IsFrom-grows s.held u.held 0 _ ksu.grows (c.requires.con k d l).value) in
    let f : Function = function u before.found.strong in
    let h : Function = function u before.found.weak in
    let begun : AreFound f h u before.found = record {
      strong = own u before.found.strong (IsFrom-grows s.held u.held 0 _ ksu.grows c.requires.before.found.strong);
      weak = own u before.found.weak (IsFrom-grows s.held u.held 0 _ ksu.grows c.requires.before.found.weak);
    } in
    let d = c.in_ok-found.ensures sets asked f h have wanted begun in
    frame_keeps t v net.raw frame net.in_range gt gv (Keeps-trans t u v stu d.spends.keeps) c.in_ok-empty.ensures.frame

pub returns-clause-have : goal.returns-clause-have
returns-clause-have g c = λ ls weakened ds wanted_sets zip weak timed_cuts family id inside.
    let s : Store = g.N.Nodes.store c.args.nodes.now in
    let t : Store = g.N.Nodes.store c.renew.new.nodes in
    let u : Store = g.N.Nodes.store c.either.new.nodes in
    let v : Store = g.N.Nodes.store c.find_all.new.nodes in
    let gt = g.met.N.Nodes.diagram c.renew.new.nodes in
    let gv = g.met.N.Nodes.diagram c.find_all.new.nodes in
    let net = c.args.net.now in
    let con : List Cut = c.args.con.now in
    let before : Turned = c.args.before.now in
    let frame : Frame = c.renew.new.frame in
    let nets : List Rails = nets_of frame in
    let stu = c.in_ok-contradictory.ensures.keeps in
    let ksu = Keeps-trans s t u c.in_ok-empty.ensures.keeps stu in
    let refs : All (AreRefs u) nets = All-refs-keep t u nets stu (rails_refs t frame.board.nets.items c.in_ok-empty.ensures.frame.refs) in
    let sets : ℕ → SymbolicSet = λ id. set_where u (rails_at nets id) in
    let have : (id : ℕ) → id < length nets → AreRails u (sets id) (rails_at nets id) = λ id lt. own_set u (rails_at nets id) (refs id _ lt) in
    let asked : List SymbolicCut = map (λ (x : Cut). record { node = x.node.0; guard = function u x.guard; value = function u x.value }) con in
    let wanted : AllZip (IsCutBy u) asked con = own_demands u con (λ k d l. IsFrom-grows s.held u.held 0 _ ksu.grows (c.requires.con k d l).guard) (λ k d l. IsFrom-grows s.held u.held 0 _ ksu.grows (c.requires.con k d l).value) in
    let f : Function = function u before.found.strong in
    let h : Function = function u before.found.weak in
    let begun : AreFound f h u before.found = record {
      strong = own u before.found.strong (IsFrom-grows s.held u.held 0 _ ksu.grows c.requires.before.found.strong);
      weak = own u before.found.weak (IsFrom-grows s.held u.held 0 _ ksu.grows c.requires.before.found.weak);
    } in
    let d = c.in_ok-found.ensures sets asked f h have wanted begun in
    let a = c.in_ok-empty.ensures.built ls (asked_by weakened ds) wanted_sets zip timed_cuts weak family in
    Rails-keep t v (wanted_sets id) (rails_at nets id) gt gv (Keeps-trans t u v stu d.spends.keeps) (a.ok.nets id inside)
