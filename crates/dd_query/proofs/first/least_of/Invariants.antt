use Rattle.std.proofs.Common.{◌≡◌, ◌≢◌, ℕ, ◌+◌, ◌++◌, Bool, List}
use Rattle.std.specs.Prelude.{IsTrue}
use Rattle.dd_nodes.specs.Diagram.{IsFrom, walk}
use Rattle.dd_nodes.specs.Stores.{function}
use Rattle.ste_model.specs.Least.{IsLeast}
use Rattle.dd_query.proofs.first.least_of.Given as goal

-- what is least behind the bits so far is least of all
abbrev pub invariant-loop-var : goal.invariant-loop-var
invariant-loop-var g l = record {
  store : g.N.Nodes.store l.nodes ≡ g.N.Nodes.store l.fn.nodes;
  end : l.var-end ≡ (g.N.Nodes.store l.fn.nodes).vars;
  from : IsFrom (g.N.Nodes.store l.fn.nodes).held l.var l.at;
  nonzero : l.at.0 ≢ 0;
  rest : (n : ℕ) (tail : List Bool) → n + l.var ≡ (g.N.Nodes.store l.fn.nodes).vars → IsLeast n (λ bits. IsTrue (walk (g.N.Nodes.store l.fn.nodes).held l.var l.at bits)) tail → IsLeast (g.N.Nodes.store l.fn.nodes).vars (λ bits. IsTrue (function (g.N.Nodes.store l.fn.nodes) l.fn.r bits)) (l.bits ++ tail);
}
