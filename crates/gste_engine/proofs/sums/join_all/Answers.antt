use Rattle.std.proofs.Common.{◌≡◌, ◌+◌, ◌<◌, length, get_or, sym, ◌∙◌, ap, subst, arith, List, Ok, Err, take}
use Rattle.std.specs.List.{AllZip}
use Rattle.std.proofs.lemmas.List.{get_or-set_other, get_or_default, length-set, take_all, take_more_set}
use Rattle.ste_base.specs.Functions.{Function}
use Rattle.dd_nodes.specs.Stores.{Store}
use Rattle.dd_nodes.proofs.Stores.{Keeps-refl, Keeps-trans}
use Rattle.net_core.specs.Work.{SymbolicSet, everything, union}
use Rattle.ste_model.specs.GraphWork.{sets_functions}
use Rattle.dual_rail.specs.declared.rails.Rails.{Rails}
use Rattle.dual_rail.specs.Rail.{AreRails, AreRefs, HasSet}
use Rattle.dual_rail.proofs.Turns.{Refs-keep, zip_long}
use Rattle.dual_rail.proofs.Works.{Built-made, So-start, first, own_set, pass, set_where}
use Rattle.gste_engine.specs.private.Sums.{no_rails, unions}
use Rattle.gste_engine.proofs.Joins.{join_fit, join_turn}
use Rattle.gste_engine.proofs.sums.join_all.Goals as goal

abbrev AreJoined : List SymbolicSet → List SymbolicSet → Store → List Rails → Type 0
AreJoined vs ws t all = AllZip (AreRails t) (unions vs ws) all

pub loop-k-init : goal.loop-k-init
loop-k-init g c =
    let s : Store = g.N.Nodes.store c.args.nodes.now in
    let is : c.from-all.result.items ≡ c.args.a = c.from-all.ensures in
    record {
      keeps = Keeps-refl s;
      long = ap (λ (xs : List Rails). length xs) is;
      rest = λ j d le. ap (λ (xs : List Rails). get_or xs j d) is;
      so = λ vs ws left right. record { so = So-start (sets_functions (unions vs ws)) s; fit = tt };
    }

pub loop-k-preserved : goal.loop-k-preserved
loop-k-preserved g c =
    let s : Store = g.N.Nodes.store c.args.nodes.now in
    let t : Store = g.N.Nodes.store c.loop-k.nodes in
    let u : Store = g.N.Nodes.store c.join.new.nodes in
    let gs = g.met.N.Nodes.diagram c.args.nodes.now in
    let gt = g.met.N.Nodes.diagram c.loop-k.nodes in
    let gu = g.met.N.Nodes.diagram c.join.new.nodes in
    let a : List Rails = c.args.a in
    let all : List Rails = c.loop-k.all.items in
    let b : List Rails = c.args.b.now in
    let k = c.loop-k.k in
    let x : Rails = c.index.result.now in
    let y : Rails = get_or b k no_rails in
    let long : length a ≡ length b = c.requires.long in
    let below : k < length b = omega (arith, c.loop-k-test.true) in
    let lt : k < length a = omega (arith, below, long) in
    let p = c.loop-k.invariant in
    let is_x : x ≡ get_or a k x = c.index.ensures ∙ p.rest k x (omega arith) in
    let is_y : y ≡ get_or b k y = sym (get_or_default b k y no_rails below) in
    let one : Rails = c.in_ok-one.one in
    let hx : AreRefs t x = Refs-keep s t x p.keeps (subst (AreRefs s) (sym is_x) (c.requires.left k x lt)) in
    let hy : AreRefs t y = Refs-keep s t y p.keeps (c.requires.right k no_rails below) in
    let mine = c.in_ok-one.ensures (set_where t x) (set_where t y) (own_set t x hx) (own_set t y hy) in
    let keeps = mine.spends.keeps in
    record {
      keeps = Keeps-trans s t u p.keeps keeps;
      long = length-set all k one ∙ p.long;
      rest = λ j d le. get_or-set_other all k j one d (λ same. omega (arith, le, same)) ∙ p.rest j d (omega (arith, le));
      so = λ vs ws left right.
          let q = p.so vs ws left right in
          let m = join_turn vs ws a b s t u k x y (take k all) gs gt gu lt long left right p.keeps q is_x is_y (Ok one) c.in_ok-one.ensures in
          record {
            so = first (sets_functions (unions vs ws)) (HasSet (union (get_or vs k everything) (get_or ws k everything))) s u (Ok one) m;
            fit = subst (λ (ys : List Rails). AllZip (AreRails u) (unions (take (k + 1) vs) (take (k + 1) ws)) ys) (sym (take_more_set all k one (let n = p.long in omega (arith, n, lt)))) (join_fit vs ws a b s t u k x y (take k all) gs gt gu lt long left right p.keeps q one keeps m.ok);
          };
    }

pub returns-in_err-one : goal.returns-in_err-one
returns-in_err-one g c = λ vs ws left right.
    let s : Store = g.N.Nodes.store c.args.nodes.now in
    let t : Store = g.N.Nodes.store c.loop-k.nodes in
    let u : Store = g.N.Nodes.store c.join.new.nodes in
    let gs = g.met.N.Nodes.diagram c.args.nodes.now in
    let gt = g.met.N.Nodes.diagram c.loop-k.nodes in
    let gu = g.met.N.Nodes.diagram c.join.new.nodes in
    let a : List Rails = c.args.a in
    let all : List Rails = c.loop-k.all.items in
    let b : List Rails = c.args.b.now in
    let k = c.loop-k.k in
    let x : Rails = c.index.result.now in
    let y : Rails = get_or b k no_rails in
    let long : length a ≡ length b = c.requires.long in
    let below : k < length b = omega (arith, c.loop-k-test.true) in
    let lt : k < length a = omega (arith, below, long) in
    let p = c.loop-k.invariant in
    let is_x : x ≡ get_or a k x = c.index.ensures ∙ p.rest k x (omega arith) in
    let is_y : y ≡ get_or b k y = sym (get_or_default b k y no_rails below) in
    let q = p.so vs ws left right in
    let work : List Function = sets_functions (unions vs ws) in
    let Good = HasSet (union (get_or vs k everything) (get_or ws k everything)) in
    let fault = c.in_err-one.field-0.0 in
    pass work Good (AreJoined vs ws) s s u fault c.from_residual.result gs gu (So-start work s)
    (join_turn vs ws a b s t u k x y (take k all) gs gt gu lt long left right p.keeps q is_x is_y (Err fault) c.in_err-one.ensures) c.from_residual.ensures.1

pub returns : goal.returns
returns g c = λ vs ws left right.
    let s : Store = g.N.Nodes.store c.args.nodes.now in
    let t : Store = g.N.Nodes.store c.loop-k.nodes in
    let k = c.loop-k.k in
    let all : List Rails = c.loop-k.all.items in
    let p = c.loop-k.invariant in
    let q = p.so vs ws left right in
    let long = c.requires.long in
    let n = zip_long (AreRails s) vs c.args.a left in
    let m = zip_long (AreRails s) ws c.args.b.now right in
    let end : take k vs ≡ vs = take_all k vs (omega (arith, n, long, c.loop-k-test.false)) in
    let ends : take k ws ≡ ws = take_all k ws (omega (arith, m, c.loop-k-test.false)) in
    let done : take k all ≡ all = take_all k all (let same = p.long in omega (arith, same, long, c.loop-k-test.false)) in
    let fit : AllZip (AreRails t) (unions vs ws) (take k all) = subst (λ (xs : List SymbolicSet). AllZip (AreRails t) (unions xs ws) (take k all)) end (subst (λ (ys : List SymbolicSet). AllZip (AreRails t) (unions (take k vs) ys) (take k all)) ends q.fit) in
    Built-made (sets_functions (unions vs ws)) (AreJoined vs ws) s t c.from.result q.so
    (subst (λ (xs : List Rails). AllZip (AreRails t) (unions vs ws) xs) (done ∙ sym {A = List Rails} c.from.ensures) fit)
