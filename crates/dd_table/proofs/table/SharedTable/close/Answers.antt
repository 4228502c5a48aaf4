use Rattle.std.proofs.Common.{◌≡◌, ℕ, ◌/◌, length, sym, ap, ◌∙◌, arith}
use Rattle.std.specs.FinMap.{len}
use Rattle.dd_table.specs.Sessions.{SessionValue}
use Rattle.dd_table.proofs.Closes.{closes, counts_taken}
use Rattle.dd_table.proofs.HeldNodes.{nodes_taken}
use Rattle.dd_table.proofs.table.SharedTable.close.Goals as goal

pub returns-clause-taken : goal.returns-clause-taken
returns-clause-taken c =
    let i = c.session.invariant in
    let is = c.session.view_is in
    counts_taken _ _ c.session.inside.seat.me.0 c.args.session _ _ _ (let a = i.two in let b = i.slots in omega arith) c.close_with-closed.ensures.values.2
    (record {
      vars = i.vars ∙ ap (λ (k : SessionValue). k.vars) is;
      slots = i.slots ∙ ap (λ (k : SessionValue). k.slots) is;
      held = ap (λ (k : SessionValue). k.held) is;
      made = ap (λ (k : SessionValue). k.made) is;
      limit = i.limit ∙ ap (λ (k : SessionValue). k.limit) is;
    })
    c.count_taken-count.ensures

pub returns-clause-half : goal.returns-clause-half
returns-clause-half c =
    let i = c.session.invariant in
    let e = closes _ _ c.session.inside.seat.me.0 _ _ (let a = i.two in let b = i.slots in omega arith) c.close_with-closed.ensures.values.2 in
    let n = c.count_taken-count.ensures in
    let s : c.session.inside.seat.me.0.slots / 2 ≡ c.args.session.slots / 2 = ap (λ (y : ℕ). y / 2) (i.slots ∙ ap (λ (k : SessionValue). k.slots) c.session.view_is) in
    let h = e.half in
    omega arith

pub returns-clause-used : goal.returns-clause-used
returns-clause-used c =
    let i = c.session.invariant in
    let e = closes _ _ c.session.inside.seat.me.0 _ _ (let a = i.two in let b = i.slots in omega arith) c.close_with-closed.ensures.values.2 in
    let n = c.count_taken-count.ensures in
    let m : length c.session.inside.seat.me.0.made ≡ length c.args.session.made = ap (λ (k : SessionValue). length k.made) c.session.view_is in
    let h = e.used in
    omega arith

pub returns-clause-held : goal.returns-clause-held
returns-clause-held c =
    let i = c.session.invariant in
    let e = closes _ _ c.session.inside.seat.me.0 _ _ (let a = i.two in let b = i.slots in omega arith) c.close_with-closed.ensures.values.2 in
    let n = c.count_taken-count.ensures in
    let m : len c.session.inside.seat.me.0.held ≡ len c.args.session.held = ap (λ (k : SessionValue). len k.held) c.session.view_is in
    let h = e.held in
    omega arith

pub returns-clause-whole : goal.returns-clause-whole
returns-clause-whole c = λ all.
    let i = c.session.invariant in
    let e = closes _ _ c.session.inside.seat.me.0 _ _ (let a = i.two in let b = i.slots in omega arith) c.close_with-closed.ensures.values.2 in
    let s : c.session.inside.seat.me.0.slots / 2 ≡ c.args.session.slots / 2 = ap (λ (y : ℕ). y / 2) (i.slots ∙ ap (λ (k : SessionValue). k.slots) c.session.view_is) in
    let limit = i.limit ∙ ap (λ (k : SessionValue). k.limit) c.session.view_is ∙ all ∙ sym s in
    c.count_taken-count.ensures ∙ e.whole limit ∙ ap (λ (k : SessionValue). length k.made) c.session.view_is

pub returns-clause-nodes : goal.returns-clause-nodes
returns-clause-nodes c = λ fs held.
    let i = c.session.invariant in
    let e = closes _ _ c.session.inside.seat.me.0 _ _ (let a = i.two in let b = i.slots in omega arith) c.close_with-closed.ensures.values.2 in
    let n = c.count_taken-count.ensures in
    let m : len c.session.inside.seat.me.0.held ≡ len c.args.session.held = ap (λ (k : SessionValue). len k.held) c.session.view_is in
    let h = e.held in
    nodes_taken c.args.session _ c.shown.ensures (omega arith) fs held
