use Rattle.std.proofs.Common.{◌≡◌, ◌≤◌, ℕ, length, sym, subst, arith, max}
use Rattle.std.proofs.Math.Nat.{le-max_left, max-le}
use Rattle.gate_sets.proofs.Compressing.{lead_open, row_added}
use Rattle.gate_sets.proofs.row_list.add_row.Goals as goal

pub returns-clause-added : goal.returns-clause-added
returns-clause-added c = λ width done long l.
    let n : ℕ = c.width_without_any.result in
    let end : ℕ = c.max-end.result in
    let is : end ≡ max n c.args.from = c.max-end.ensures in
    let above : n ≤ end = subst (λ (e : ℕ). n ≤ e) (sym is) (le-max_left n c.args.from) in
    row_added width _ _ done c.args.row.now c.args.next.now end c.shared_width-kept.result long
    (subst (λ (e : ℕ). e ≤ length c.args.row.now) (sym is) (max-le c.width_without_any.ensures.within c.requires.from))
    (λ k le. c.width_without_any.ensures.blank k (let both_le : n ≤ k = omega (arith, above, le) in both_le)) c.shared_width-kept.ensures.within c.shared_width-kept.ensures.same
    (c.in_ok-put_all.ensures width done long (lead_open width _ done _ l)) c.in_ok-push.ensures.ok
