use Rattle.std.proofs.Common.{◌≡◌, ◌+◌, length, refl, sym, ap, ◌∙◌, subst, arith}
use Rattle.atomic_table.specs.declared.shared.Seat.{Seat}
use Rattle.dd_nodes.specs.declared.node.Node.{Node}
use Rattle.dd_table.specs.declared.views.View.{View}
use Rattle.dd_table.specs.declared.session.Session.TheInside.{Inside}
use Rattle.dd_table.specs.Tells.{EndsFound}
use Rattle.dd_table.specs.Inside.{session_value, IsSession}
use Rattle.dd_table.specs.Sessions.{SessionValue, MkGives}
use Rattle.dd_table.proofs.SessionSteps.{made_of, used_after, session_after}
use Rattle.dd_table.proofs.calls.make.Goals.{then-wrote, else-wrote}
use Rattle.dd_table.proofs.calls.make.Goals as goal

abbrev TableSeat : Type 0
TableSeat = Seat Unit View

pub returns-clause-some : goal.returns-clause-some
returns-clause-some g c =
    let was = c.session.view_is in
    let old = c.session.inside in
    let at = c.in_ok-at.at in
    let gives : (s : Inside) → s.seat ≡ c.search.new.seat → s.vars ≡ old.vars → s.slots ≡ old.slots → s.limit ≡ old.limit
    → MkGives c.args.session.now (session_value s) c.args.node (at + 2) = λ s seat vars slots limit.
    subst (λ (n : Node). MkGives c.args.session.now (session_value s) n (at + 2)) c.word_of_node-word.ensures.node
    (made_of c.word_of_node-word.result at c.in_ok-at.wrote old.seat.me.0 c.search.new.seat.me.0 c.args.session.now (session_value s)
    c.in_ok-at.ensures.ends
    (sym (ap (λ (k : SessionValue). k.held) was))
    (sym (ap (λ (k : SessionValue). k.made) was))
    (ap (λ (t : TableSeat). t.me.0.held) seat)
    (ap (λ (t : TableSeat). t.me.0.made) seat)
    (ap (λ (t : TableSeat). t.table_id) seat ∙ c.in_ok-at.ensures.table ∙ ap (λ (k : SessionValue). k.table) was)
    (vars ∙ ap (λ (k : SessionValue). k.vars) was)
    (slots ∙ ap (λ (k : SessionValue). k.slots) was)
    (limit ∙ ap (λ (k : SessionValue). k.limit) was)) in
    let from : (s : Inside) → c.if-wrote.session-inside ≡ s → s.seat ≡ c.search.new.seat → s.vars ≡ old.vars → s.slots ≡ old.slots → s.limit ≡ old.limit
    → MkGives c.args.session.now (session_value c.if-wrote.session-inside) c.args.node (at + 2) = λ s is seat vars slots limit.
    gives c.if-wrote.session-inside
    (ap (λ (x : Inside). x.seat) is ∙ seat)
    (ap (λ (x : Inside). x.vars) is ∙ vars)
    (ap (λ (x : Inside). x.slots) is ∙ slots)
    (ap (λ (x : Inside). x.limit) is ∙ limit) in
    elim c.if-wrote.branch [
      | then-wrote w ↦ from _ w.session-inside-is refl refl refl refl
      | else-wrote w ↦ from _ w.session-inside-is refl refl refl refl
    ]

pub invariant_of-session-2 : goal.invariant_of-session-2
invariant_of-session-2 g c =
    let found = c.in_ok-at.ensures.ends in
    let i = c.session.invariant in
    let old = c.session.inside in
    let at = c.in_ok-at.at in
    let w = c.word_of_node-word.result in
    let seat = c.search.new.seat in
    let size = used_after w at c.in_ok-at.wrote old.seat.me.0 seat.me.0 found in
    let after : (s : Inside) → s.seat ≡ seat → s.vars ≡ old.vars → s.slots ≡ old.slots → s.limit ≡ old.limit → length seat.me.0.made ≡ s.used
    → IsSession (record s { some = at + 2 }) = λ s seat_is vars slots limit used.
    session_after w at c.in_ok-at.wrote old s i
    (subst (λ (t : TableSeat). EndsFound w old.seat.me.0 t.me.0 at c.in_ok-at.wrote) (sym seat_is) found)
    (ap (λ (t : TableSeat). t.table_id) seat_is ∙ c.in_ok-at.ensures.table)
    (ap (λ (t : TableSeat). t.me.1) seat_is ∙ c.in_ok-at.ensures.empty)
    vars slots limit
    (ap (λ (t : TableSeat). length t.me.0.made) seat_is ∙ used) in
    let from : (s : Inside) → c.if-wrote.session-inside ≡ s → s.seat ≡ seat → s.vars ≡ old.vars → s.slots ≡ old.slots → s.limit ≡ old.limit → length seat.me.0.made ≡ s.used
    → IsSession (record c.if-wrote.session-inside { some = at + 2 }) = λ s is seat_is vars slots limit used.
    after c.if-wrote.session-inside
    (ap (λ (x : Inside). x.seat) is ∙ seat_is)
    (ap (λ (x : Inside). x.vars) is ∙ vars)
    (ap (λ (x : Inside). x.slots) is ∙ slots)
    (ap (λ (x : Inside). x.limit) is ∙ limit)
    (used ∙ sym (ap (λ (x : Inside). x.used) is)) in
    elim c.if-wrote.branch [
      | then-wrote w ↦ from _ w.session-inside-is refl refl refl refl (let a = size.0 w.if-wrote.true in let b = i.used in omega arith)
      | else-wrote w ↦ from _ w.session-inside-is refl refl refl refl (let a = size.1 w.if-wrote.false in let b = i.used in omega arith)
    ]
