use Rattle.std.proofs.Common.{◌≢◌, ◌<◌, ℕ, List, All, Some, arith, length, subst, ◌∙◌}
use Rattle.std.proofs.lemmas.List.{take_all}
use Rattle.ste_base.specs.declared.id.NodeId.{NodeId}
use Rattle.sym_step.specs.private.Readers.{driver_number}
use Rattle.net_core.specs.declared.raw.RawNet.{RawNet}
use Rattle.sym_step.specs.private.Readers.{AreMarked}
use Rattle.sym_step.proofs.Reading.{marked_more}
use Rattle.sym_step.proofs.readers.mark_drivers.Goals as goal

abbrev IsOther : RawNet → ℕ → NodeId → Type 0
IsOther net k node = driver_number net node.0 ≢ Some k

pub loop-node-preserved : goal.loop-node-preserved
loop-node-preserved c =
    let ids : List NodeId = c.args.ids.now in
    let k = c.loop-node.node-index in
    let inv = c.loop-node.invariant in
    let lt : k < length ids = omega (arith, c.loop-node-test.true) in
    let p = c.mark_driver.ensures in
    record {
      long = p.long ∙ inv.long;
      order = p.order ∙ inv.order;
      marked = marked_more (IsOther c.args.net.now.raw) ids k (record { 0 = 0 }) c.args.due.now.flags.items c.loop-node.due.flags.items c.mark_driver.new.due.flags.items lt inv.long inv.marked p.marked;
    }

pub returns-clause-marked : goal.returns-clause-marked
returns-clause-marked c =
    let ids : List NodeId = c.args.ids.now in
    let k = c.loop-node.node-index in
    subst (λ (xs : List NodeId). AreMarked (λ k. All (IsOther c.args.net.now.raw k) xs) c.args.due.now.flags.items c.loop-node.due.flags.items) (take_all k ids (omega (arith, c.loop-node-test.false))) c.loop-node.invariant.marked
