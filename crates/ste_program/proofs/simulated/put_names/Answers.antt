use Rattle.std.proofs.Common.{◌∙◌, ◌++◌, ap}
use Rattle.ste_program.proofs.SimText.{names_more}
use Rattle.ste_program.proofs.simulated.put_names.Goals as goal

pub loop-id-preserved : goal.loop-id-preserved
loop-id-preserved c =
    names_more c.args.names.now c.args.ids.now c.loop-id.id-index (record { 0 = 0 }) c.name.result.now c.args.text.now.items c.loop-id.text.items c.extend_from_slice.new.self.items c.extend_from_slice-in-loop-id.new.self.items
    c.loop-id-test.true c.name.ensures.entry c.loop-id.invariant c.in_ok-extend_from_slice.ensures.items
    (c.in_ok-extend_from_slice-2.ensures.items ∙ ap (λ b. c.extend_from_slice.new.self.items ++ b) c.bytes.ensures)
