-- Gates that are passed over, since none of them is due.
use Rattle.std.proofs.Common.{◌≡◌, ℕ, zero, suc, ◌+◌, ◌<◌, ◌≤◌, false, List, [], length, map, get_or, refl, sym, ◌∙◌, subst, arith, inl, inr}
use Rattle.std.specs.List.{AllZip}
use Rattle.std.proofs.lemmas.Bool.{cases_eq}
use Rattle.std.proofs.lemmas.List.{get_or_default, set-get_or}
use Rattle.dd_nodes.specs.Stores.{Store, Keeps}
use Rattle.dd_nodes.proofs.Stores.{IsGood, Keeps-refl}
use Rattle.net_core.specs.declared.raw.Gate.{Gate}
use Rattle.net_core.specs.declared.raw.RawNet.{RawNet}
use Rattle.net_core.specs.Flat.{IsInRange, HasOneDriver, IsSettledOrder}
use Rattle.net_core.specs.Work.{ArePossibleEach, SymbolicSet, SymbolicCut, after_cuts, output_set, set_before_cuts}
use Rattle.sym_step.specs.declared.board.Board.{Board}
use Rattle.sym_step.specs.declared.cut.Cut.{Cut}
use Rattle.gate_sets.specs.declared.net_rails.NetRails.{NetRails}
use Rattle.ste_base.specs.declared.id.NodeId.{NodeId}
use Rattle.sym_step.specs.Step.{IsCutBy, ids_of}
use Rattle.sym_step.specs.private.Demands.{nodes_of}
use Rattle.sym_step.specs.private.Frames.{AreSpared}
use Rattle.gate_sets.specs.NetSets.{AreNetRails, net_at}
use Rattle.sym_step.specs.private.Parts.{HaveGates, asks}
use Rattle.sym_step.specs.private.Readers.{flag_at}
use Rattle.sym_step.proofs.Framing.{unlisted}
use Rattle.sym_step.proofs.Listed.{as_driven}
use Rattle.sym_step.proofs.Sourced.{unknown}
use Rattle.sym_step.proofs.Turning.{before_is, placed, ready}

no_gate : Gate
no_gate = record { inputs = []; output = record { 0 = 0 }; cover = 0 }

module _ (net : RawNet) (order : List ℕ) (range : IsInRange net) (one : HasOneDriver net) (is_order : IsSettledOrder net order)
    (ls : List SymbolicSet) (weak : List NodeId) (ds : List SymbolicCut) (sets : ℕ → SymbolicSet) (long : length ls ≡ length net.latches)
    (s t : Store) (cuts : List Cut) (board : Board) (gt : IsGood t) (kst : Keeps s t) (size : length board.nets.items ≡ net.nets)
    (family : ArePossibleEach s.vars net ls (asks weak ds) sets) (zip : AllZip (IsCutBy t) ds cuts)
    (spared : AreSpared t net (nodes_of weak cuts) board) where
  -- a gate that is not due has its set
  passed : (n : ℕ) → n < length order → flag_at board.due.flags.items (get_or order n 0) ≡ false → HaveGates net order sets t n board.nets.items → HaveGates net order sets t (n + 1) board.nets.items
  passed n lt none have =
      let number : ℕ = get_or order n 0 in
      let gate : Gate = get_or net.gates number no_gate in
      let known : number < length net.gates = is_order.gates n 0 lt in
      let is : gate ≡ get_or net.gates number gate = get_or_default net.gates number no_gate gate known in
      let nets : List NetRails = board.nets.items in
      let r : NetRails = net_at nets gate.output.0 in
      let p = spared number no_gate known none in
      let here : AreNetRails t (after_cuts ds (set_before_cuts net (ids_of weak) ls sets) gate.output.0) r =
      subst (λ (w : SymbolicSet). AreNetRails t w r)
      (sym (unlisted t ds weak cuts gate.output.0 (set_before_cuts net (ids_of weak) ls sets) zip p.uncut ∙ before_is net order range one is_order ls weak ds sets long number gate known is ∙ as_driven weak cuts gate.output.0 (output_set net sets gate) p.uncut))
      (p.given sets (ready net order range one is_order ls weak ds sets long t nets n number gate have lt refl is)) in
      subst (HaveGates net order sets t (n + 1)) (set-get_or nets gate.output.0 unknown)
      (placed net order range one is_order ls weak ds sets long s t t nets n number gate r gt gt kst (Keeps-refl t) size family have lt refl is here)

  -- where the gates up to a place are not due, they have their sets
  pub passed_to : (n m : ℕ) → n ≤ m → m ≤ length order → ((place : ℕ) → n ≤ place → place < m → flag_at board.due.flags.items (get_or order place 0) ≡ false)
      → HaveGates net order sets t n board.nets.items → HaveGates net order sets t m board.nets.items
  passed_to n zero le within none have = let e : n ≡ zero = omega arith in subst (λ (k : ℕ). HaveGates net order sets t k board.nets.items) e have
  passed_to n (suc m) le within none have = elim (cases_eq n (suc m)) [
    | inl here ↦ subst (λ (k : ℕ). HaveGates net order sets t k board.nets.items) here have
    | inr other ↦
        let e : m + 1 ≡ suc m = omega arith in
        subst (λ (k : ℕ). HaveGates net order sets t k board.nets.items) e
        (passed m (omega arith) (none m (omega arith) (omega arith)) (passed_to n m (omega arith) (omega arith) (λ place low lt. none place low (omega arith)) have))
  ]
