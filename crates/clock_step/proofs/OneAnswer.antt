-- Lines have one answer at most, and inputs one list of outputs.
use Rattle.std.proofs.Common.{◌≡◌, ◌≢◌, ◌<◌, ℕ, suc, List, [], ◌∷◌, length, map, Option, Some, None, Ok, Err, arith, refl, sym, ap, ◌∙◌}
use Rattle.std.specs.Prelude.{slice_get}
use Rattle.ste_base.specs.declared.id.NodeId.{NodeId}
use Rattle.blif_lines.specs.declared.lines.Line.{Line}
use Rattle.net_core.specs.declared.raw.RawNet.{RawNet}
use Rattle.clock_step.specs.declared.fault.InputFault.{InputFault}
use Rattle.clock_step.specs.declared.fault.InputFault.TheVariants.{BadLine, DoubleName, UnknownNode, NotAnInput, TooMany, OutOfMemory}
use Rattle.clock_step.specs.Faults.{first_input_fault}
use Rattle.clock_step.specs.Answer.{IsInputsAnswer}
use Rattle.clock_step.specs.Laws.{OneAnswer, OneSimulation}
use Rattle.clock_step.proofs.Named.{by_number}

same_nodes : (one other : List NodeId) → map (λ node. Some node.0) one ≡ map (λ node. Some node.0) other → one ≡ other
same_nodes [] [] e = refl
same_nodes [] (node ∷ nodes) e = absurd (cc e)
same_nodes (node ∷ nodes) [] e = absurd (cc e)
same_nodes (node ∷ nodes) (other ∷ others) e =
    let number : node.0 ≡ other.0 = (cc e) in
    let rest : map (λ n. Some n.0) nodes ≡ map (λ n. Some n.0) others = (cc e) in
    let here = by_number node other number in
    let later = same_nodes nodes others rest in
    cc

same_somes : {X : Type 0} (one other : List X) → map (λ (x : X). Some x) one ≡ map (λ (x : X). Some x) other → one ≡ other
same_somes [] [] e = refl
same_somes [] (x ∷ xs) e = absurd (cc e)
same_somes (x ∷ xs) [] e = absurd (cc e)
same_somes {X} (x ∷ xs) (y ∷ ys) e =
    let here : x ≡ y = (cc e) in
    let rest : map (λ (z : X). Some z) xs ≡ map (λ (z : X). Some z) ys = (cc e) in
    let later = same_somes xs ys rest in
    cc

-- a fault besides out of memory is the first
fault_is : (net_of : List ℕ → Option ℕ) (net : RawNet) (lines : List Line) (fault : InputFault) → fault ≢ OutOfMemory → IsInputsAnswer net_of net lines (Err fault) → first_input_fault net_of net lines ≡ Some fault
fault_is net_of net lines (BadLine line) other is = is
fault_is net_of net lines (DoubleName line name) other is = is
fault_is net_of net lines (UnknownNode line name) other is = is
fault_is net_of net lines (NotAnInput line name) other is = is
fault_is net_of net lines (TooMany line) other is = is
fault_is net_of net lines OutOfMemory other is = absurd (other refl)

none_or_one : (found : Option InputFault) (fault : InputFault) → found ≡ None → found ≡ Some fault → ⊥
none_or_one found fault none some = absurd (cc (none, some))

pub one_answer : OneAnswer
one_answer net_of net lines (Ok one) (Ok other) a b p q = (
  same_nodes one.nodes other.nodes (p.1.nodes ∙ sym q.1.nodes),
  same_somes one.rows other.rows (p.1.rows ∙ sym q.1.rows),
)
one_answer net_of net lines (Ok one) (Err other) a b p q = none_or_one _ other p.0 (fault_is net_of net lines other (λ e. b (ap Err e)) q)
one_answer net_of net lines (Err one) (Ok other) a b p q = none_or_one _ one q.0 (fault_is net_of net lines one (λ e. a (ap Err e)) p)
one_answer net_of net lines (Err one) (Err other) a b p q =
    let first = fault_is net_of net lines one (λ e. a (ap Err e)) p in
    let second = fault_is net_of net lines other (λ e. b (ap Err e)) q in
    cc

-- lists with the same element at each place are the same
same_places : {X : Type 0} (one other : List X) → length one ≡ length other → ((t : ℕ) → t < length one → slice_get one t ≡ slice_get other t) → one ≡ other
same_places [] [] long each = refl
same_places [] (y ∷ ys) long each = absurd (omega arith)
same_places (x ∷ xs) [] long each = absurd (omega arith)
same_places (x ∷ xs) (y ∷ ys) long each =
    let here : Some x ≡ Some y = each 0 (omega arith) in
    let rest = same_places xs ys (omega arith) (λ t l. each (suc t) (omega arith)) in
    cc

pub one_simulation : OneSimulation
one_simulation net inputs one other p q =
    same_places one other (p.long ∙ sym q.long)
    (λ t l. p.each p.some.0 p.some.1 t (let long = p.long in omega (arith, long, l)) ∙ sym (q.each p.some.0 p.some.1 t (let long = p.long in omega (arith, long, l))))
