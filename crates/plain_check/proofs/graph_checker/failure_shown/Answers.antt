use Rattle.std.proofs.Common.{◌≡◌, ◌<◌, ◌+◌, ◌-◌, ◌*◌, ℕ, suc, true, List, length, get_or, arith, sym, ap, subst, ◌∙◌}
use Rattle.std.specs.Prelude.{All, position}
use Rattle.bool_expr.specs.declared.expr.Expr.{roll-Expr}
use Rattle.bool_expr.specs.declared.expr.Expr.TheOpen.{Const}
use Rattle.net_core.specs.declared.bit_set.BitSet.{BitSet}
use Rattle.ste_model.specs.declared.task.Bind.{Bind}
use Rattle.ste_model.specs.declared.task.Edge.{Edge}
use Rattle.ste_model.specs.GraphShown.{IsShownPath}
use Rattle.ste_model.specs.GraphTable.{enough}
use Rattle.plain_check.specs.declared.rounds.State.{State}
use Rattle.plain_check.specs.private.Hops.{fails_of}
use Rattle.plain_check.specs.private.Outcome.{bind_fails}
use Rattle.plain_check.specs.States.{IsEdgeRow, states_of}
use Rattle.plain_check.proofs.OneRound.{item_of, state_there}
use Rattle.plain_check.proofs.Placed.{at_last, hops_end, no_failing, no_row, nothing_shown, one_less, path_shown, placed, within_edges}
use Rattle.plain_check.proofs.graph_checker.failure_shown.Goals as goal

pub shortest_path-requires-clause-ends : goal.shortest_path-requires-clause-ends
shortest_path-requires-clause-ends c =
    let net = c.args.net.now.raw in
    let ends = hops_end net c.args.bits.now (states_of net c.args.table.now) (length c.args.graph.now.vertices) c.args.graph.now.edges c.args.hops.now c.requires.hops c.requires.graph.is_graph.ends in
    λ k d l. let e = ends k d l in let n = c.len.ensures in omega (arith, e, n)

pub returns-then-length-eq0 : goal.returns-then-length-eq0
returns-then-length-eq0 c =
    let net = c.args.net.now.raw in
    let graph = c.args.graph.now in
    let table = states_of net c.args.table.now in
    let latches = ap length c.latches.ensures in
    let n = c.len.result * (length c.latches.result.now * 2 + 1) + 1 in
    let e : n ≡ enough net graph = ap (λ (v : ℕ). v * (length c.latches.result.now * 2 + 1) + 1) c.len.ensures ∙ ap (λ (l : ℕ). length graph.vertices * (l * 2 + 1) + 1) latches ∙ (let f : length graph.vertices * (length net.latches * 2 + 1) + 1 ≡ enough net graph = omega arith in f) in
    nothing_shown c.args.failure net graph c.args.bits.now table c.args.hops.now c.requires.hops c.requires.least c.settles.ensures c.requires.graph.is_graph n c.in_ok-path.path e (sym c.len-length.ensures ∙ c.if-length-eq0.true) c.in_ok-path.ensures

pub offset_bounds-as_slice-as_slice : goal.offset_bounds-as_slice-as_slice
offset_bounds-as_slice-as_slice c =
    let net = c.args.net.now.raw in
    let graph = c.args.graph.now in
    let bits = c.args.bits.now in
    let how = c.args.failure in
    let table = states_of net c.args.table.now in
    let path = c.in_ok-path.path in
    let t = c.len-length.result - 1 in
    let time : suc t ≡ length path = one_less c.len-length.result (length path) c.if-length-eq0.false c.len-length.ensures in
    let shown : IsShownPath (fails_of how) net graph bits path = path_shown how net graph bits table c.args.hops.now c.requires.hops c.requires.least _ path (omega (arith, time)) c.in_ok-path.ensures in
    let inside = within_edges how net graph bits path c.as_slice-2.result.now c.as_slice.result.now t shown c.as_slice-2.ensures c.as_slice.ensures time in
    let size = c.as_slice.type_inv.1 in
    omega (arith, inside, size)

pub bounds-as_slice-as_slice : goal.bounds-as_slice-as_slice
bounds-as_slice-as_slice c =
    let net = c.args.net.now.raw in
    let graph = c.args.graph.now in
    let bits = c.args.bits.now in
    let how = c.args.failure in
    let table = states_of net c.args.table.now in
    let path = c.in_ok-path.path in
    let t = c.len-length.result - 1 in
    let time : suc t ≡ length path = one_less c.len-length.result (length path) c.if-length-eq0.false c.len-length.ensures in
    let shown : IsShownPath (fails_of how) net graph bits path = path_shown how net graph bits table c.args.hops.now c.requires.hops c.requires.least _ path (omega (arith, time)) c.in_ok-path.ensures in
    let inside = within_edges how net graph bits path c.as_slice-2.result.now c.as_slice.result.now t shown c.as_slice-2.ensures c.as_slice.ensures time in
    inside

pub bounds-table-edge : goal.bounds-table-edge
bounds-table-edge c =
    let net = c.args.net.now.raw in
    let graph = c.args.graph.now in
    let bits = c.args.bits.now in
    let how = c.args.failure in
    let table = states_of net c.args.table.now in
    let path = c.in_ok-path.path in
    let t = c.len-length.result - 1 in
    let time : suc t ≡ length path = one_less c.len-length.result (length path) c.if-length-eq0.false c.len-length.ensures in
    let shown : IsShownPath (fails_of how) net graph bits path = path_shown how net graph bits table c.args.hops.now c.requires.hops c.requires.least _ path (omega (arith, time)) c.in_ok-path.ensures in
    let inside = within_edges how net graph bits path c.as_slice-2.result.now c.as_slice.result.now t shown c.as_slice-2.ensures c.as_slice.ensures time in
    let edge = c.index-as_slice-as_slice.result in
    let number = get_or c.as_slice-2.result.now t 0 in
    let from = item_of (λ (e : Edge). e.from < length graph.vertices) graph.edges c.as_slice.result.now number edge c.as_slice.ensures inside c.index-as_slice-as_slice.is c.requires.graph.from in
    let n = c.requires.table.long in omega (arith, from, n)

pub edge_row-requires-clause-held : goal.edge_row-requires-clause-held
edge_row-requires-clause-held c =
    let net = c.args.net.now.raw in
    let graph = c.args.graph.now in
    let bits = c.args.bits.now in
    let how = c.args.failure in
    let table = states_of net c.args.table.now in
    let path = c.in_ok-path.path in
    let t = c.len-length.result - 1 in
    let time : suc t ≡ length path = one_less c.len-length.result (length path) c.if-length-eq0.false c.len-length.ensures in
    let shown : IsShownPath (fails_of how) net graph bits path = path_shown how net graph bits table c.args.hops.now c.requires.hops c.requires.least _ path (omega (arith, time)) c.in_ok-path.ensures in
    let inside = within_edges how net graph bits path c.as_slice-2.result.now c.as_slice.result.now t shown c.as_slice-2.ensures c.as_slice.ensures time in
    let edge = c.index-as_slice-as_slice.result in
    let number = get_or c.as_slice-2.result.now t 0 in
    let from = item_of (λ (e : Edge). e.from < length graph.vertices) graph.edges c.as_slice.result.now number edge c.as_slice.ensures inside c.index-as_slice-as_slice.is c.requires.graph.from in
    subst (λ (state : State). length state.latches ≡ length net.latches) (sym c.index-table-edge.is) (c.requires.table.latches edge.from c.index-table-edge.result (let n = c.requires.table.long in omega (arith, from)))

pub edge_row-requires-clause-in_range : goal.edge_row-requires-clause-in_range
edge_row-requires-clause-in_range c =
    let net = c.args.net.now.raw in
    let graph = c.args.graph.now in
    let bits = c.args.bits.now in
    let how = c.args.failure in
    let table = states_of net c.args.table.now in
    let path = c.in_ok-path.path in
    let t = c.len-length.result - 1 in
    let time : suc t ≡ length path = one_less c.len-length.result (length path) c.if-length-eq0.false c.len-length.ensures in
    let shown : IsShownPath (fails_of how) net graph bits path = path_shown how net graph bits table c.args.hops.now c.requires.hops c.requires.least _ path (omega (arith, time)) c.in_ok-path.ensures in
    let inside = within_edges how net graph bits path c.as_slice-2.result.now c.as_slice.result.now t shown c.as_slice-2.ensures c.as_slice.ensures time in
    let edge = c.index-as_slice-as_slice.result in
    let number = get_or c.as_slice-2.result.now t 0 in
    item_of (λ (e : Edge). All (λ bind. bind.node.0 < net.nets) e.ant) graph.edges c.as_slice.result.now number edge c.as_slice.ensures inside c.index-as_slice-as_slice.is c.requires.graph.asks

pub returns-in_default : goal.returns-in_default
returns-in_default c =
    let net = c.args.net.now.raw in
    let graph = c.args.graph.now in
    let bits = c.args.bits.now in
    let how = c.args.failure in
    let table = states_of net c.args.table.now in
    let path = c.in_ok-path.path in
    let t = c.len-length.result - 1 in
    let time : suc t ≡ length path = one_less c.len-length.result (length path) c.if-length-eq0.false c.len-length.ensures in
    let shown : IsShownPath (fails_of how) net graph bits path = path_shown how net graph bits table c.args.hops.now c.requires.hops c.requires.least _ path (omega (arith, time)) c.in_ok-path.ensures in
    let inside = within_edges how net graph bits path c.as_slice-2.result.now c.as_slice.result.now t shown c.as_slice-2.ensures c.as_slice.ensures time in
    let edge = c.index-as_slice-as_slice.result in
    let number = get_or c.as_slice-2.result.now t 0 in
    let at = at_last graph path c.as_slice-2.result.now c.as_slice.result.now t edge c.as_slice-2.ensures c.as_slice.ensures inside c.index-as_slice-as_slice.is in
    let from = item_of (λ (e : Edge). e.from < length graph.vertices) graph.edges c.as_slice.result.now number edge c.as_slice.ensures inside c.index-as_slice-as_slice.is c.requires.graph.from in
    let there = state_there net c.args.table.now edge.from c.index-table-edge.result (let n = c.requires.table.long in omega (arith, from)) c.index-table-edge.is in
    let none = subst (IsEdgeRow net bits table edge) c.in_default.is (c.in_ok-row.ensures table there) in
    absurd (no_row how net graph bits table c.settles.ensures c.requires.least path t time edge at shown none)

pub returns-in_default-first_failing : goal.returns-in_default-first_failing
returns-in_default-first_failing c =
    let net = c.args.net.now.raw in
    let graph = c.args.graph.now in
    let bits = c.args.bits.now in
    let how = c.args.failure in
    let table = states_of net c.args.table.now in
    let path = c.in_ok-path.path in
    let t = c.len-length.result - 1 in
    let time : suc t ≡ length path = one_less c.len-length.result (length path) c.if-length-eq0.false c.len-length.ensures in
    let shown : IsShownPath (fails_of how) net graph bits path = path_shown how net graph bits table c.args.hops.now c.requires.hops c.requires.least _ path (omega (arith, time)) c.in_ok-path.ensures in
    let inside = within_edges how net graph bits path c.as_slice-2.result.now c.as_slice.result.now t shown c.as_slice-2.ensures c.as_slice.ensures time in
    let edge = c.index-as_slice-as_slice.result in
    let number = get_or c.as_slice-2.result.now t 0 in
    let at = at_last graph path c.as_slice-2.result.now c.as_slice.result.now t edge c.as_slice-2.ensures c.as_slice.ensures inside c.index-as_slice-as_slice.is in
    let from = item_of (λ (e : Edge). e.from < length graph.vertices) graph.edges c.as_slice.result.now number edge c.as_slice.ensures inside c.index-as_slice-as_slice.is c.requires.graph.from in
    let there = state_there net c.args.table.now edge.from c.index-table-edge.result (let n = c.requires.table.long in omega (arith, from)) c.index-table-edge.is in
    let row = subst (IsEdgeRow net bits table edge) c.in-Some.is (c.in_ok-row.ensures table there) in
    let found = c.first_failing.ensures ∙ ap (λ (r : List BitSet). position (bind_fails how r bits) c.as_slice-4.result.now) c.as_slice-3.ensures ∙ ap (position (bind_fails how c.in-Some.row bits)) c.as_slice-4.ensures in
    absurd (no_failing how net graph bits table c.settles.ensures c.requires.least path t time edge at shown c.in-Some.row row.1 (sym found ∙ c.in_default-first_failing.is))

pub returns : goal.returns
returns c =
    let net = c.args.net.now.raw in
    let graph = c.args.graph.now in
    let bits = c.args.bits.now in
    let how = c.args.failure in
    let table = states_of net c.args.table.now in
    let path = c.in_ok-path.path in
    let t = c.len-length.result - 1 in
    let time : suc t ≡ length path = one_less c.len-length.result (length path) c.if-length-eq0.false c.len-length.ensures in
    let shown : IsShownPath (fails_of how) net graph bits path = path_shown how net graph bits table c.args.hops.now c.requires.hops c.requires.least _ path (omega (arith, time)) c.in_ok-path.ensures in
    let inside = within_edges how net graph bits path c.as_slice-2.result.now c.as_slice.result.now t shown c.as_slice-2.ensures c.as_slice.ensures time in
    let edge = c.index-as_slice-as_slice.result in
    let number = get_or c.as_slice-2.result.now t 0 in
    let at = at_last graph path c.as_slice-2.result.now c.as_slice.result.now t edge c.as_slice-2.ensures c.as_slice.ensures inside c.index-as_slice-as_slice.is in
    let from = item_of (λ (e : Edge). e.from < length graph.vertices) graph.edges c.as_slice.result.now number edge c.as_slice.ensures inside c.index-as_slice-as_slice.is c.requires.graph.from in
    let there = state_there net c.args.table.now edge.from c.index-table-edge.result (let n = c.requires.table.long in omega (arith, from)) c.index-table-edge.is in
    let row = subst (IsEdgeRow net bits table edge) c.in-Some.is (c.in_ok-row.ensures table there) in
    let found = c.first_failing.ensures ∙ ap (λ (r : List BitSet). position (bind_fails how r bits) c.as_slice-4.result.now) c.as_slice-3.ensures ∙ ap (position (bind_fails how c.in-Some.row bits)) c.as_slice-4.ensures in
    let d : Bind = record { guard = roll-Expr (Const true); node = record { 0 = 0 }; value = roll-Expr (Const true) } in
    record {
      is_path = shown;
      is_place = placed how net graph bits table c.settles.ensures c.requires.least path t time edge at c.in-Some.row row.1 d c.in-Some-first_failing.consequent (sym found ∙ c.in-Some-first_failing.is);
    }
