-- Meaning. What both programs ask of an edge and of a graph, over a net of two nets and one
-- variable.
use Rattle.std.specs.Prelude.{◌<◌, ℕ, All}
use Rattle.net_core.specs.declared.raw.RawNet.{RawNet}
use Rattle.ste_model.specs.declared.task.Edge.{Edge}
use Rattle.ste_model.specs.declared.task.Graph.{Graph}
use Rattle.ste_model.specs.GraphNeed.{BindsReadBelow}
use Rattle.plain_check.specs.States.{IsGraphOver as IsPlainGraphOver}
use Rattle.gste_engine.specs.Tables.{AreConsequentsOver, IsGraphOver}

-- an edge between so many vertices, whose bindings and weakenings name the nets 0 and 1, and which
-- reads the variable 0
pub record IsCaseEdge (vertices : ℕ) (edge : Edge) : Type 0 where
  pub from : edge.from < vertices
  pub to : edge.to < vertices
  pub nets : All (λ bind. bind.node.0 < 2) edge.ant
  pub reads : BindsReadBelow 1 edge.ant
  pub claim_nets : All (λ bind. bind.node.0 < 2) edge.con
  pub claim_reads : BindsReadBelow 1 edge.con
  pub weak : All (λ node. node.0 < 2) edge.weak

-- a graph that both programs take
pub record IsCase (net : RawNet) (graph : Graph) : Type 0 where
  pub graph_over : IsGraphOver net 1 graph
  pub claims_over : AreConsequentsOver net 1 graph
  pub plain_over : IsPlainGraphOver net graph
