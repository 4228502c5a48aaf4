use Rattle.std.proofs.Common.{◌≡◌, ◌∙◌, ap, sym, length, true}
use Rattle.std.specs.Prelude.{nat_le}
use Rattle.std.specs.List.{list_all}
use Rattle.net_core.specs.declared.raw.Gate.{Gate}
use Rattle.sym_step_tests.proofs.Narrow.{narrow_gates}
use Rattle.sym_step_tests.proofs.tests.drawn_agrees.Goals as goal

pub renew_agrees-requires-clause-widths : goal.renew_agrees-requires-clause-widths
renew_agrees-requires-clause-widths c =
    let gates = c.in_ok-named.named.net.raw.gates in
    let test : list_all (λ gate. nat_le (length gate.inputs) 8) gates ≡ true =
    ap (list_all (λ (gate : Gate). nat_le (length gate.inputs) 8)) (sym c.gates.ensures) ∙ (sym c.all_narrow.ensures ∙ c.if-not-all_narrow.false) in
    narrow_gates gates test
