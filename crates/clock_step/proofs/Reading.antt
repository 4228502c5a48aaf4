-- The first line and the later ones make the answer together.
use Rattle.std.proofs.Common.{◌≡◌, ◌<◌, ◌-◌, ℕ, suc, List, [], ◌∷◌, length, map, get_or, take, drop, Bool, Option, Some, None, Result, Ok, Err, arith, sym, ap, subst, ◌∙◌}
use Rattle.std.specs.Prelude.{IsErrAnd}
use Rattle.std.proofs.lemmas.List.{length-map, take_all}
use Rattle.std.proofs.lemmas.Result.{err_from_is_err_and}
use Rattle.ste_base.specs.declared.id.NodeId.{NodeId}
use Rattle.blif_lines.specs.declared.lines.Line.{Line}
use Rattle.net_core.specs.declared.raw.RawNet.{RawNet}
use Rattle.clock_step.specs.declared.fault.InputFault.{InputFault}
use Rattle.clock_step.specs.declared.fault.InputFault.TheVariants.{BadLine, DoubleName, UnknownNode, NotAnInput, TooMany, OutOfMemory}
use Rattle.clock_step.specs.declared.inputs.Inputs.{Inputs}
use Rattle.clock_step.specs.Forms.{order_of, row_of}
use Rattle.clock_step.specs.Faults.{first_input_fault, names_of, order_fault, rows_fault}
use Rattle.clock_step.specs.Answer.{IsInputsAnswer}
use Rattle.clock_step.specs.private.Answers.{AreNodes, AreRows}

-- the lines, from the first on
pub from_first : (lines : List Line) (first : Line) → 0 < length lines → first ≡ get_or lines 0 first → lines ≡ first ∷ take (length lines - 1) (drop 1 lines)
from_first [] first some is = absurd (omega arith)
from_first (line ∷ lines) first some is =
    let e : suc (length lines) - 1 ≡ length lines = omega arith in
    let rest : take (suc (length lines) - 1) lines ≡ lines = ap (λ (n : ℕ). take n lines) e ∙ take_all (length lines) lines (omega arith) in
    rw rest (ap (λ (l : Line). l ∷ lines) (sym is))

module _ (net_of : List ℕ → Option ℕ) (net : RawNet) (first : Line) (later : List Line) (nodes : List NodeId) (sound : order_fault net_of net first.number (order_of first.words) ≡ None) (are : AreNodes net_of net (names_of (first ∷ [])) nodes) where
  width : length nodes ≡ length (names_of (first ∷ later))
  width = sym (length-map nodes (λ (node : NodeId). Some node.0)) ∙ ap length are.spelled ∙ length-map (names_of (first ∷ later)) net_of

  -- where the first line has no fault, the rows decide
  rows_decide : (found : Option InputFault) → rows_fault (length nodes) net.nets 0 later ≡ found → first_input_fault net_of net (first ∷ later) ≡ found
  rows_decide found e = rw sound (subst (λ (n : ℕ). rows_fault n net.nets 0 later ≡ found) width e)

  pub rows_refused : (fault : InputFault) → AreRows (length nodes) net.nets later (Err fault) → IsInputsAnswer net_of net (first ∷ later) (Err fault)
  rows_refused (BadLine line) e = rows_decide (Some (BadLine line)) e
  rows_refused (DoubleName line name) e = rows_decide (Some (DoubleName line name)) e
  rows_refused (UnknownNode line name) e = rows_decide (Some (UnknownNode line name)) e
  rows_refused (NotAnInput line name) e = rows_decide (Some (NotAnInput line name)) e
  rows_refused (TooMany line) e = rows_decide (Some (TooMany line)) e
  rows_refused OutOfMemory e = tt

  pub rows_read : (lines : List Line) (rows : List (List Bool)) (inputs : Inputs) → lines ≡ first ∷ later → inputs.nodes ≡ nodes → inputs.rows ≡ rows → AreRows (length nodes) net.nets later (Ok rows) → IsInputsAnswer net_of net lines (Ok inputs)
  rows_read lines rows inputs whole same same_rows read = subst (λ (ls : List Line). IsInputsAnswer net_of net ls (Ok inputs)) (sym whole) (
    rows_decide None read.0,
    record {
      nodes = ap (map (λ (node : NodeId). Some node.0)) same ∙ are.spelled;
      rows = ap (map Some) same_rows ∙ read.1 ∙ ap (λ (n : ℕ). map (λ (line : Line). row_of n line.words) later) width;
    },
  )

-- a fault that is handed on
pub handed_on : (net_of : List ℕ → Option ℕ) (net : RawNet) (lines : List Line) (fault : InputFault) (result : Result Inputs InputFault) → IsErrAnd result (λ f. f ≡ fault) → IsInputsAnswer net_of net lines (Err fault) → IsInputsAnswer net_of net lines result
handed_on net_of net lines fault result is a =
    let p = err_from_is_err_and result is in
    subst (λ (r : Result Inputs InputFault). IsInputsAnswer net_of net lines r) (sym (p.1 ∙ ap Err p.2)) a
