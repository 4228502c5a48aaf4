use Rattle.std.proofs.Common.{All, subst}
use Rattle.ste_base.specs.declared.id.NodeId.{NodeId}
use Rattle.sym_step.specs.declared.readers.Readers.{Readers}
use Rattle.sym_step.specs.private.Readers.{Lists}
use Rattle.sym_step.proofs.Reading.{added_then, all_stay}
use Rattle.sym_step.proofs.readers.Readers.add_gate.Goals as goal

pub returns-clause-added : goal.returns-clause-added
returns-clause-added c = added_then c.args.self.now c.add_each.new.self c.add.new.self c.in_ok-add_each.ensures.added c.in_ok-add.ensures.added

pub returns-clause-here : goal.returns-clause-here
returns-clause-here c =
    let mid : Readers = c.add_each.new.self in
    let new : Readers = c.add.new.self in
    let p = c.in_ok-add_each.ensures in
    let q = c.in_ok-add.ensures in
    record {
      inputs = all_stay mid new c.args.gate.now.inputs c.args.number q.added (subst (All (λ (n : NodeId). Lists mid n.0 c.args.number)) c.as_slice.ensures p.here);
      output = q.here;
    }
