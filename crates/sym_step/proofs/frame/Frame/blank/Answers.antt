use Rattle.std.proofs.Common.{◌≡◌, ◌+◌, ◌<◌, ◌∙◌, List, ℕ, All, ap, arith, length, refl, replicate, subst, sym, true}
use Rattle.std.specs.Prelude.{AllPairs, ◌≢◌}
use Rattle.net_core.specs.declared.raw.Gate.{Gate}
use Rattle.net_core.specs.declared.raw.Latch.{Latch}
use Rattle.net_core.specs.Flat.{IsSettledOrder}
use Rattle.sym_step.specs.Frame.{mark_count}
use Rattle.gate_sets.specs.declared.net_rails.NetRails.{NetRails}
use Rattle.sym_step.proofs.Apart.{apart}
use Rattle.sym_step.proofs.Opened.{blank_is}
use Rattle.sym_step.proofs.Reading.{few_numbers}
use Rattle.sym_step.proofs.frame.Frame.blank.Goals as goal

pub all-requires-clause-inside : goal.all-requires-clause-inside
all-requires-clause-inside c =
    let net = c.args.net.now in
    let within : All (λ (gate : ℕ). gate < length net.settled) net.settled = subst (λ (n : ℕ). All (λ (gate : ℕ). gate < n) net.settled) (sym net.in_order.long) net.in_order.gates in
    subst (λ (xs : List ℕ). All (λ (gate : ℕ). gate < length xs) xs) (sym c.settled.ensures.same) within

pub all-requires-clause-apart : goal.all-requires-clause-apart
all-requires-clause-apart c =
    let net = c.args.net.now in
    subst (λ (xs : List ℕ). AllPairs (λ (one other : ℕ). one ≢ other) xs) (sym c.settled.ensures.same) (apart net.raw net.settled net.in_order)

pub all-requires-clause-few : goal.all-requires-clause-few
all-requires-clause-few c =
    let net = c.args.net.now in
    let few = few_numbers net.raw net.in_range net.one_driver in
    let long = net.in_order.long in
    let same = ap (λ (xs : List ℕ). length xs) c.settled.ensures.same in
    omega (arith, few, long, same, c.nets.ensures)

pub returns : goal.returns
returns c = λ s d.
    let net = c.args.net.now in
    let count : length c.gates.result.now + length c.latches.result.now ≡ mark_count net.raw =
    ap (λ (xs : List Gate). length xs + length c.latches.result.now) c.gates.ensures ∙ ap (λ (xs : List Latch). length net.raw.gates + length xs) c.latches.ensures in
    blank_is s net.raw _ d
    (c.in_ok-nets.ensures.items_if_clones_equal (λ y e. e) ∙ ap (λ n. replicate n c.free.result) c.nets.ensures ∙ ap (λ (r : NetRails). replicate net.raw.nets r) c.free.ensures)
    (c.in_ok-due.ensures.flags ∙ ap (λ n. replicate n true) count)
    (subst (IsSettledOrder net.raw) (sym (c.in_ok-due.ensures.order ∙ c.settled.ensures.same)) net.in_order)
    tt refl c.new.ensures.items refl refl
    (subst (All (λ gate. length gate.inputs < length c.in_ok-products.products.items)) c.gates-2.ensures c.in_ok-products.ensures)
