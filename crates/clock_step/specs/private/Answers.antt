-- For private functions. What the parts of an input file are answered with.
use Rattle.std.specs.Prelude.{◌≡◌, ◌≢◌, ◌∷◌, [], ℕ, List, length, map, All, AllPairs, IsTrue, Option, Some, None, Bool, Result, Ok, Err}
use Rattle.ste_base.specs.declared.id.NodeId.{NodeId}
use Rattle.blif_lines.specs.declared.lines.Line.{Line}
use Rattle.net_core.specs.declared.raw.RawNet.{RawNet}
use Rattle.clock_step.specs.declared.fault.InputFault.{InputFault}
use Rattle.clock_step.specs.declared.fault.InputFault.TheVariants.{OutOfMemory}
use Rattle.clock_step.specs.Forms.{order_of, row_of}
use Rattle.clock_step.specs.Order.{is_undriven}
use Rattle.clock_step.specs.Faults.{order_names_fault, order_fault, rows_fault, names_of}

-- the names have no fault, and the nodes are their nets, which are different and each an input or
-- free
pub record AreNodes (net_of : List ℕ → Option ℕ) (net : RawNet) (names : List (List ℕ))
    (nodes : List NodeId) : Type 0 where
  pub spelled : map (λ node. Some node.0) nodes ≡ map net_of names
  pub different : AllPairs (λ one other. one.0 ≢ other.0) nodes
  pub undriven : All (λ node. IsTrue (is_undriven net node.0)) nodes

-- the nodes of these names on a line of this number, or what is wrong with them
abbrev pub IsOrderOf : (List ℕ → Option ℕ) → RawNet → ℕ → List (List ℕ) →
    Result (List NodeId) InputFault → Type 0
IsOrderOf net_of net line names (Ok nodes) = (order_names_fault net_of net line names ≡ None)
    × AreNodes net_of net names nodes
IsOrderOf net_of net line names (Err OutOfMemory) = Unit {0}
IsOrderOf net_of net line names (Err fault) = order_names_fault net_of net line names ≡ Some fault

-- the nodes of a first line, or what is wrong with it
abbrev pub IsOrder : (List ℕ → Option ℕ) → RawNet → Line → Result (List NodeId) InputFault → Type 0
IsOrder net_of net line (Ok nodes) =
    (order_fault net_of net line.number (order_of line.words) ≡ None)
    × AreNodes net_of net (names_of (line ∷ [])) nodes
IsOrder net_of net line (Err OutOfMemory) = Unit {0}
IsOrder net_of net line (Err fault) = order_fault net_of net line.number (order_of line.words)
    ≡ Some fault

-- the rows of these lines, or the first fault of them
abbrev pub AreRows : ℕ → ℕ → List Line → Result (List (List Bool)) InputFault → Type 0
AreRows width nets lines (Ok rows) =
    (rows_fault width nets 0 lines ≡ None)
    × (map Some rows ≡ map (λ line. row_of width line.words) lines)
    × All (λ row. length row ≡ width) rows
AreRows width nets lines (Err OutOfMemory) = Unit {0}
AreRows width nets lines (Err fault) = rows_fault width nets 0 lines ≡ Some fault
