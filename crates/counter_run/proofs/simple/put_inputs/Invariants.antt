use Rattle.std.proofs.Common.{◌≡◌, ◌<◌, ℕ, [], get_or}
use Rattle.ste_base.specs.declared.id.NodeId.{NodeId}
use Rattle.counter_run.specs.private.Matrix.{SameShape}
use Rattle.counter_run.proofs.simple.put_inputs.Given as goal

-- the nodes so far have their rows
abbrev pub invariant-loop-k : goal.invariant-loop-k
invariant-loop-k l = record {
  shape : SameShape l.fn.rows l.rows;
  done : (j : ℕ) (d : NodeId) → j < l.k → get_or l.rows (get_or l.nodes j d).0 [] ≡ get_or l.inputs j [];
}
