use Rattle.std.proofs.Common.{◌≡◌, List, take, ap, arith}
use Rattle.std.proofs.lemmas.List.{take_all}
use Rattle.net_core.specs.declared.cover.Lit.{Lit}
use Rattle.gate_sets.specs.Rows.{Rows}
use Rattle.gate_sets.proofs.Compressing.{all_led, all_sound}
use Rattle.gate_sets.proofs.row_list.RowList.of.Goals as goal

pub invariant_of-result : goal.invariant_of-result
invariant_of-result c = let h = c.loop-k.invariant.has in (all_sound c.args.width c.loop-k.pieces _ h.begun h.leads, tt)

pub returns : goal.returns
returns c =
    let rows : List (List Lit) = c.args.rows.now in
    let h = c.loop-k.invariant.has in
    let all : take c.loop-k.k rows ≡ rows = take_all c.loop-k.k rows (omega (arith, c.loop-k-test.false)) in
    let make : List (List Lit) → Rows = λ list. record { width = c.args.width; list = list } in
    ap make (all_led c.args.width c.loop-k.pieces (take c.loop-k.k rows) rows h.begun all h.leads)
