use Rattle.std.proofs.Common.{◌≡◌, ℕ, List, sym, subst}
use Rattle.net_core.specs.declared.bit_set.BitSet.{BitSet}
use Rattle.net_core.specs.Possible.{ArePossible}
use Rattle.plain_check.specs.private.Sets.{set_at, AreLatched}
use Rattle.plain_check.proofs.Latched.{latches_begin}
use Rattle.plain_check.proofs.Gated.{gates_begin}
use Rattle.plain_check.proofs.Tabled.{possible_row}
use Rattle.plain_check.proofs.table.possible_sets.Goals as goal

pub returns-clause-possible : goal.returns-clause-possible
returns-clause-possible c asked below allows flags =
    let net = c.args.net.now in
    let held = c.args.held.now in
    let allowed = c.args.allowed.now in
    let copied : c.in_ok-sets.sets.items ≡ allowed = c.in_ok-sets.ensures.items_if_clones_equal (λ a e h. h) in
    let agrees = λ (family : ℕ → BitSet) (possible : ArePossible net.raw held asked family).
    let begin = latches_begin net.raw held asked allowed family c.requires.held c.requires.allowed allows possible in
    let copies = subst (AreLatched net.raw 0 family) (sym copied) begin in
    let latched = c.place_latches.ensures.sets asked family allows flags possible copies in
    let gates =
    gates_begin net.raw net.settled family c.place_latches.new.sets.items net.in_order latched in
    c.in_ok-place_gates.ensures.sets held asked family c.requires.held allows flags possible
    gates in
    subst (λ (row : List BitSet). ArePossible net.raw held asked (set_at row)) (sym c.from.ensures)
    (possible_row net.raw net.settled held asked c.place_gates.new.sets.items net.in_range net.in_order c.requires.held c.in_ok-place_gates.ensures.long below agrees)
