-- Law. The check of a graph in a store that has more variables than the graph: its report is the
-- same, but for the bits that stand behind the least assignment, and it needs as many steps.
use Rattle.std.specs.Prelude.{ℕ, ◌≤◌, Bool, List, Option, None, Some, take}
use Rattle.net_core.specs.declared.raw.RawNet.{RawNet}
use Rattle.net_core.specs.Run.{IsSettled}
use Rattle.ste_model.specs.declared.report.Report.{Report}
use Rattle.ste_model.specs.declared.task.Graph.{Graph}
use Rattle.ste_model.specs.GraphNeed.{GraphReadsBelow, IsGraphNeed}
use Rattle.ste_model.specs.GraphReport.{IsGraphReportOf}

-- the first n bits, where there is an assignment
abbrev pub first_bits : ℕ → Option (List Bool) → Option (List Bool)
first_bits n None = None
first_bits n (Some bits) = Some (take n bits)

-- the report with the first n bits of its least assignment
abbrev pub with_first_bits : ℕ → Report → Report
with_first_bits n report = record report { least = first_bits n report.least }

-- Law: what is reported of a graph over more variables than it reads is, with the first bits of the
-- least assignment, what is reported over those; and a graph needs as many steps over more.
pub record WiderGraphs : Type 0 where
  pub report : (net : RawNet) (vars total cubes : ℕ) (graph : Graph) (report : Report) →
      vars ≤ total → GraphReadsBelow vars graph → IsGraphReportOf net total cubes graph report →
      IsGraphReportOf net vars cubes graph (with_first_bits vars report)
  pub need : (net : RawNet) (vars total : ℕ) (graph : Graph) (need : ℕ) → IsSettled net →
      vars ≤ total → GraphReadsBelow vars graph → IsGraphNeed net vars graph need →
      IsGraphNeed net total graph need
