-- A graph whose edges are over the two nets and the variable is one that both programs take.
use Rattle.std.proofs.Common.{◌≡◌, ◌<◌, ℕ, length, subst, sym}
use Rattle.std.specs.Prelude.{All}
use Rattle.std.proofs.lemmas.List.Elements.{All-weaker}
use Rattle.net_core.specs.declared.raw.RawNet.{RawNet}
use Rattle.ste_model.specs.declared.task.Graph.{Graph}
use Rattle.ste_model.specs.GraphNeed.{BindsReadBelow}
use Rattle.gste_engine.specs.Tables.{IsEdgeOver}
use Rattle.gste_engine_tests.specs.Cases.{IsCase, IsCaseEdge}

pub a_case : (net : RawNet) (graph : Graph) → net.nets ≡ 2 → 0 < length graph.vertices → All (IsCaseEdge (length graph.vertices)) graph.edges → IsCase net graph
a_case net graph two some edges =
    let V : ℕ = length graph.vertices in
    record {
      graph_over = record {
        sound = record { some = some; ends = All-weaker (IsCaseEdge V) (λ edge. edge.to < V) (λ edge h. h.to) graph.edges edges };
        edges = All-weaker (IsCaseEdge V) (IsEdgeOver net 1 V)
            (λ edge h. record {
              start = h.from;
              nets = subst (λ n. All (λ bind. bind.node.0 < n) edge.ant) (sym two) h.nets;
              weak = subst (λ n. All (λ node. node.0 < n) edge.weak) (sym two) h.weak;
              reads = h.reads;
            }) graph.edges edges;
      };
      claims_over = All-weaker (IsCaseEdge V) (λ edge. All (λ bind. bind.node.0 < net.nets) edge.con × BindsReadBelow 1 edge.con)
          (λ edge h. (subst (λ n. All (λ bind. bind.node.0 < n) edge.con) (sym two) h.claim_nets, h.claim_reads)) graph.edges edges;
      plain_over = record {
        is_graph = record { some = some; ends = All-weaker (IsCaseEdge V) (λ edge. edge.to < V) (λ edge h. h.to) graph.edges edges };
        from = All-weaker (IsCaseEdge V) (λ edge. edge.from < V) (λ edge h. h.from) graph.edges edges;
        asks = All-weaker (IsCaseEdge V) (λ edge. All (λ bind. bind.node.0 < net.nets) edge.ant)
            (λ edge h. subst (λ n. All (λ bind. bind.node.0 < n) edge.ant) (sym two) h.nets) graph.edges edges;
      };
    }
