use Rattle.std.proofs.Common.{◌≡◌, ◌+◌, ◌<◌, [], length, get_or, sym, subst, arith, List, map, Ok, Err, take}
use Rattle.std.specs.List.{AllZip}
use Rattle.std.proofs.lemmas.List.{get_or_default, length-map, take_all}
use Rattle.ste_base.specs.Functions.{Function}
use Rattle.dd_nodes.specs.Stores.{Store, function}
use Rattle.dd_nodes.proofs.Spending.{own}
use Rattle.dd_nodes.proofs.Stores.{Keeps-refl, Keeps-trans}
use Rattle.dd_nodes.proofs.Walks.{IsFrom-grows}
use Rattle.net_core.specs.declared.raw.Init.TheVariants.{Zero}
use Rattle.net_core.specs.declared.raw.Latch.{Latch}
use Rattle.net_core.specs.Work.{SymbolicSet}
use Rattle.ste_model.specs.GraphWork.{gated_set, sets_functions}
use Rattle.dual_rail.specs.declared.rails.Rails.{Rails}
use Rattle.dual_rail.specs.Rail.{AreRails, AreRefs, HasSet}
use Rattle.dual_rail.proofs.Turns.{Refs-keep, zip_long}
use Rattle.dual_rail.proofs.Works.{Built-lost, Built-made, So-start, first, lost, own_set, pass, set_where}
use Rattle.sym_step.specs.Frame.{input_rails, nets_of}
use Rattle.gste_engine.specs.private.Given.{gated_sets}
use Rattle.gste_engine.proofs.GatedSets.{gated_fit, gated_turn, input_is, this}
use Rattle.gste_engine.proofs.feasible_sets.feasible_sets.Goals as goal

abbrev no_latch : Latch
no_latch = record { input = record { 0 = 0 }; output = record { 0 = 0 }; init = Zero }

pub loop-k-init : goal.loop-k-init
loop-k-init g c =
    let s : Store = g.N.Nodes.store c.args.nodes.now in
    record { keeps = Keeps-refl s; so = λ ws f zip mf. record { so = So-start (sets_functions (gated_sets f ws)) s; fit = subst (λ (xs : List Rails). AllZip (AreRails s) [] xs) (sym {A = List Rails} c.in_ok-all.ensures.items) tt } }

pub loop-k-preserved : goal.loop-k-preserved
loop-k-preserved g c =
    let s : Store = g.N.Nodes.store c.args.nodes.now in
    let t : Store = g.N.Nodes.store c.loop-k.nodes in
    let u : Store = g.N.Nodes.store c.feasible_set.new.nodes in
    let gs = g.met.N.Nodes.diagram c.args.nodes.now in
    let gt = g.met.N.Nodes.diagram c.loop-k.nodes in
    let gu = g.met.N.Nodes.diagram c.feasible_set.new.nodes in
    let latches : List Latch = c.args.latches.now in
    let nets : List Rails = nets_of c.args.frame.now in
    let sets : List Rails = map (input_rails nets) latches in
    let k = c.loop-k.k in
    let r : Rails = c.rails.result in
    let one : Rails = c.in_ok-one.one in
    let below : k < length latches = omega (arith, c.loop-k-test.true) in
    let lt : k < length sets = let long = length-map latches (input_rails nets) in omega (arith, long, below) in
    let latch : Latch = get_or latches k no_latch in
    let is : r ≡ get_or sets k r = input_is nets latches k latch r below (sym (get_or_default latches k latch no_latch below)) c.rails.ensures in
    let p = c.loop-k.invariant in
    let gate = c.args.gate in
    let held : AreRefs t r = Refs-keep s t r p.keeps (subst (AreRefs s) (sym c.rails.ensures) (c.requires.nets latch.input.0 _ (c.requires.inside k no_latch below))) in
    let mine = c.in_ok-one.ensures (set_where t r) (function t gate) (own_set t r held) (own t gate (IsFrom-grows s.held t.held 0 gate p.keeps.grows c.requires.gate)) in
    let keeps = mine.spends.keeps in
    record {
      keeps = Keeps-trans s t u p.keeps keeps;
      so = λ ws f zip mf.
          let q = p.so ws f zip mf in
          let b = gated_turn ws f sets s t u k r gate c.loop-k.all.items gs gt gu lt is zip mf p.keeps q (Ok one) c.in_ok-one.ensures in
          record {
            so = first (sets_functions (gated_sets f ws)) (HasSet (gated_set (this ws f sets s t u k r gate c.loop-k.all.items gs gt gu lt is zip mf p.keeps q) f)) s u (Ok one) b;
            fit = subst (λ (ys : List Rails). AllZip (AreRails u) (gated_sets f (take (k + 1) ws)) ys) (sym {A = List Rails} c.in-Ok.ensures.items) (gated_fit ws f sets s t u k r gate c.loop-k.all.items gs gt gu lt is zip mf p.keeps q one keeps b.ok);
          };
    }

pub returns-in_err-one : goal.returns-in_err-one
returns-in_err-one g c = λ ws f zip mf.
    let s : Store = g.N.Nodes.store c.args.nodes.now in
    let t : Store = g.N.Nodes.store c.loop-k.nodes in
    let u : Store = g.N.Nodes.store c.feasible_set.new.nodes in
    let gs = g.met.N.Nodes.diagram c.args.nodes.now in
    let gt = g.met.N.Nodes.diagram c.loop-k.nodes in
    let gu = g.met.N.Nodes.diagram c.feasible_set.new.nodes in
    let latches : List Latch = c.args.latches.now in
    let nets : List Rails = nets_of c.args.frame.now in
    let sets : List Rails = map (input_rails nets) latches in
    let k = c.loop-k.k in
    let r : Rails = c.rails.result in
    let below : k < length latches = omega (arith, c.loop-k-test.true) in
    let lt : k < length sets = let long = length-map latches (input_rails nets) in omega (arith, long, below) in
    let latch : Latch = get_or latches k no_latch in
    let is : r ≡ get_or sets k r = input_is nets latches k latch r below (sym (get_or_default latches k latch no_latch below)) c.rails.ensures in
    let p = c.loop-k.invariant in
    let q = p.so ws f zip mf in
    let work : List Function = sets_functions (gated_sets f ws) in
    let fault = c.in_err-one.field-0.0 in
    pass work (HasSet (gated_set (this ws f sets s t u k r c.args.gate c.loop-k.all.items gs gt gu lt is zip mf p.keeps q) f)) (λ t all. AllZip (AreRails t) (gated_sets f ws) all) s s u fault c.from_residual-in_err-one.result gs gu (So-start work s)
    (gated_turn ws f sets s t u k r c.args.gate c.loop-k.all.items gs gt gu lt is zip mf p.keeps q (Err fault) c.in_err-one.ensures) c.from_residual-in_err-one.ensures.1

pub returns-in-Err : goal.returns-in-Err
returns-in-Err g c = λ ws f zip mf.
    let s : Store = g.N.Nodes.store c.args.nodes.now in
    let t : Store = g.N.Nodes.store c.loop-k.nodes in
    let u : Store = g.N.Nodes.store c.feasible_set.new.nodes in
    let gs = g.met.N.Nodes.diagram c.args.nodes.now in
    let gt = g.met.N.Nodes.diagram c.loop-k.nodes in
    let gu = g.met.N.Nodes.diagram c.feasible_set.new.nodes in
    let latches : List Latch = c.args.latches.now in
    let nets : List Rails = nets_of c.args.frame.now in
    let sets : List Rails = map (input_rails nets) latches in
    let k = c.loop-k.k in
    let r : Rails = c.rails.result in
    let one : Rails = c.in_ok-one.one in
    let below : k < length latches = omega (arith, c.loop-k-test.true) in
    let lt : k < length sets = let long = length-map latches (input_rails nets) in omega (arith, long, below) in
    let latch : Latch = get_or latches k no_latch in
    let is : r ≡ get_or sets k r = input_is nets latches k latch r below (sym (get_or_default latches k latch no_latch below)) c.rails.ensures in
    let p = c.loop-k.invariant in
    let q = p.so ws f zip mf in
    let work : List Function = sets_functions (gated_sets f ws) in
    Built-lost work (λ t (all : List Rails). AllZip (AreRails t) (gated_sets f ws) all) s u
    (first work (HasSet (gated_set (this ws f sets s t u k r c.args.gate c.loop-k.all.items gs gt gu lt is zip mf p.keeps q) f)) s u (Ok one)
    (gated_turn ws f sets s t u k r c.args.gate c.loop-k.all.items gs gt gu lt is zip mf p.keeps q (Ok one) c.in_ok-one.ensures))

pub returns : goal.returns
returns g c = λ ws f zip mf.
    let s : Store = g.N.Nodes.store c.args.nodes.now in
    let t : Store = g.N.Nodes.store c.loop-k.nodes in
    let k = c.loop-k.k in
    let q = c.loop-k.invariant.so ws f zip mf in
    let latches : List Latch = c.args.latches.now in
    let sets : List Rails = map (input_rails (nets_of c.args.frame.now)) latches in
    let long = zip_long (AreRails s) ws sets zip in
    let same = length-map latches (input_rails (nets_of c.args.frame.now)) in
    let end : take k ws ≡ ws = take_all k ws (omega (arith, long, same, c.loop-k-test.false)) in
    Built-made (sets_functions (gated_sets f ws)) (λ t (all : List Rails). AllZip (AreRails t) (gated_sets f ws) all) s t c.from.result q.so
    (subst (λ (all : List Rails). AllZip (AreRails t) (gated_sets f ws) all) (sym {A = List Rails} c.from.ensures) (subst (λ (xs : List SymbolicSet). AllZip (AreRails t) (gated_sets f xs) c.loop-k.all.items) end q.fit))

pub returns-in_err-all : goal.returns-in_err-all
returns-in_err-all g c = λ ws f zip mf.
    let s : Store = g.N.Nodes.store c.args.nodes.now in
    let work : List Function = sets_functions (gated_sets f ws) in
    lost work (λ t (all : List Rails). AllZip (AreRails t) (gated_sets f ws) all) s s c.from_residual.result (So-start work s) c.from_residual.ensures.1
