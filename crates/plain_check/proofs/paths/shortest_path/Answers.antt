use Rattle.std.proofs.Common.{◌≡◌, ◌<◌, ◌+◌, ◌*◌, [], ℕ, length, arith, subst, ◌∙◌}
use Rattle.std.proofs.lemmas.List.{get_or_default}
use Rattle.plain_check.specs.private.Hops.{IsSearched}
use Rattle.plain_check.proofs.Levels.{ends_searched, starts_searched}
use Rattle.plain_check.proofs.paths.shortest_path.Goals as goal

pub loop-init : goal.loop-init
loop-init c =
    let w = c.args.latches * 2 + 1 in
    record {
      long = c.in_ok-best.ensures.long;
      searched = subst (λ (n : ℕ). IsSearched c.args.failure c.args.hops.now n c.in_ok-best.best.items) (let e : 1 ≡ 0 * w + 1 = omega arith in e) (starts_searched c.args.failure c.args.hops.now c.in_ok-best.best.items c.in_ok-best.ensures.best);
    }

pub loop-2-init : goal.loop-2-init
loop-2-init c =
    let n = c.loop.counter * (c.args.latches * 2 + 1) in
    record {
      long = c.loop.invariant.long;
      searched = subst (λ (m : ℕ). IsSearched c.args.failure c.args.hops.now m c.loop.best.items) (let e : n + 1 ≡ n + 0 + 1 = omega arith in e) c.loop.invariant.searched;
    }

pub loop-2-preserved : goal.loop-2-preserved
loop-2-preserved c =
    let w = c.args.latches * 2 + 1 in
    let n = c.loop.counter * w + c.loop-2.counter + 1 in
    record {
      long = c.in_ok-best-2.ensures.long ∙ c.loop-2.invariant.long;
      searched = subst (λ (m : ℕ). IsSearched c.args.failure c.args.hops.now m c.in_ok-best-2.best.items) (let f : n + 1 ≡ c.loop.counter * w + (c.loop-2.counter + 1) + 1 = omega arith in f)
          (c.in_ok-best-2.ensures.searched c.args.failure n c.loop-2.invariant.searched);
    }

pub loop-preserved : goal.loop-preserved
loop-preserved c =
    let w = c.args.latches * 2 + 1 in
    let k : c.loop-2.counter ≡ w = omega (arith, c.loop-2-test.false, c.loop-2.auto.counter-end) in
    record {
      long = c.loop-2.invariant.long;
      searched = subst (λ (m : ℕ). IsSearched c.args.failure c.args.hops.now m c.loop-2.best.items) (let f : c.loop.counter * w + c.loop-2.counter + 1 ≡ (c.loop.counter + 1) * w + 1 = omega (arith, k) in f) c.loop-2.invariant.searched;
    }

pub returns : goal.returns
returns c =
    let w = c.args.latches * 2 + 1 in
    let best = c.loop.best.items in
    let e : c.loop.counter ≡ c.args.vertices = omega (arith, c.loop-test.false, c.loop.auto.counter-end) in
    let some : 0 < length best = let l = c.loop.invariant.long in let m = c.requires.some in omega (arith, l, m) in
    let path = c.from.ensures ∙ c.in_ok-to_vec.ensures.items_if_clones_equal (λ a b h. h) ∙ c.as_slice.ensures ∙ c.index.ensures ∙ get_or_default best 0 c.index.result.now [] some in
    ends_searched c.args.failure c.args.hops.now (c.args.vertices * w + 1) best c.from.result some path
    (subst (λ (n : ℕ). IsSearched c.args.failure c.args.hops.now (n * w + 1) best) e c.loop.invariant.searched)
