-- The rows at the end are a run on the rows of inputs and free nets at the start.
use Rattle.std.proofs.Common.{◌≡◌, ℕ, suc, ◌<◌, Bool, false, List, [], ◌∷◌, map, length, get_or, arith, sym, ap, refl, subst, ◌∙◌}
use Rattle.std.specs.Prelude.{All}
use Rattle.ste_base.specs.declared.id.NodeId.{NodeId}
use Rattle.net_core.specs.declared.raw.RawNet.{RawNet}
use Rattle.net_core.specs.Flat.{HasOneDriver}
use Rattle.net_core.specs.Run.{IsRun}
use Rattle.net_core.specs.OneRun.{IsGivenRun}
use Rattle.ste_model.specs.declared.run.Run.{Run}
use Rattle.ste_model.specs.Runs.{HasRows}
use Rattle.ste_model.proofs.RunData.{same_lists}
use Rattle.counter_run.specs.Runs.{IsRunOn}
use Rattle.counter_run.specs.Undriven.{undriven_nets}
use Rattle.counter_run.specs.private.Matrix.{IsMatrix, cell}
use Rattle.counter_run.proofs.Given.{starts_are}
use Rattle.counter_run.proofs.SourceNodes.{all_undriven, source_nodes, told}

same_at : (nodes : List NodeId) (one two : List (List Bool)) → All (λ node. get_or one node.0 [] ≡ get_or two node.0 []) nodes → map (λ node. get_or one node.0 []) nodes ≡ map (λ node. get_or two node.0 []) nodes
same_at [] one two all = refl
same_at (node ∷ nodes) one two all =
    let here = all 0 node (omega arith) in
    let rest = same_at nodes one two (λ k d l. all (suc k) d (omega arith)) in
    cc

pub has_rows : (nets times : ℕ) (rows : List (List Bool)) (run : Run) → run.length ≡ times → run.rows ≡ rows → IsMatrix nets times rows → HasRows nets times run
has_rows nets times rows run long is m = record {
  long = long;
  tall = ap length is ∙ m.tall;
  wide = subst (All (λ row. length row ≡ times)) (sym is) m.wide;
}

pub run_on : (net : RawNet) (times : ℕ) (given rows inputs : List (List Bool)) (first : List Bool) (run : Run) → HasOneDriver net → run.length ≡ times → run.rows ≡ rows → IsMatrix net.nets times given → IsMatrix net.nets times rows → map (λ node. get_or given node.0 []) (undriven_nets net) ≡ inputs → IsGivenRun net (cell given) first times (cell rows) → IsRunOn net times inputs first run
run_on net times given rows inputs first run one long is m n at h =
    let nodes = source_nodes net (undriven_nets net) one refl in
    let same : map (λ node. get_or rows node.0 []) (undriven_nets net) ≡ map (λ node. get_or given node.0 []) (undriven_nets net) = same_at (undriven_nets net) rows given (λ k d l.
    let id = (get_or (undriven_nets net) k d).0 in
    let inside : id < net.nets = nodes.within k d l in
    let none = told net id one (all_undriven net net.nets k d l) in
    let wide_rows : length (get_or rows id []) ≡ times = n.wide id [] (let t = n.tall in omega arith) in
    let wide_given : length (get_or given id []) ≡ times = m.wide id [] (let t = m.tall in omega arith) in
    same_lists false (get_or rows id []) (get_or given id []) (wide_rows ∙ sym wide_given) (λ t lt. h.sources t id (omega arith) inside none)) in
    record {
      rows = has_rows net.nets times rows run long is n;
      is_run = subst (λ (rs : List (List Bool)). IsRun net times (cell rs)) (sym is) h.is_run;
      sources = ap (λ (rs : List (List Bool)). map (λ node. get_or rs node.0 []) (undriven_nets net)) is ∙ same ∙ at;
      starts = λ l. ap (λ (rs : List (List Bool)). map (λ latch. cell rs 0 latch.output.0) net.latches) is ∙ sym (starts_are (cell rows 0) net.latches first (h.starts l));
    }
