-- Over flat nets of one hierarchy the lines of an input file have the same answer.
use Rattle.std.proofs.Common.{◌≡◌, ℕ, Bool, List, [], ◌∷◌, length, Option, Some, None, Result, Ok, Err, refl, ap, sym, ◌∙◌}
use Rattle.std.specs.Prelude.{◌≢◌, ◌&&◌, find, nat_lt, not, option_map}
use Rattle.std.specs.Option.{option_or}
use Rattle.blif_lines.specs.declared.lines.Line.{Line}
use Rattle.blif_syntax.specs.declared.models.Model.{Model}
use Rattle.clock_step.specs.Answer.{IsInputsAnswer}
use Rattle.clock_step.specs.Faults.{first_input_fault, names_of, order_fault, rows_fault}
use Rattle.clock_step.specs.Forms.{order_of}
use Rattle.clock_step.specs.Order.{first_double_net, first_unknown_net, is_driven, is_undriven, is_undriven_source}
use Rattle.clock_step.specs.declared.fault.InputFault.{InputFault}
use Rattle.clock_step.specs.declared.fault.InputFault.TheVariants.{BadLine, DoubleName, UnknownNode, NotAnInput, TooMany, OutOfMemory}
use Rattle.clock_step.specs.declared.inputs.Inputs.{Inputs}
use Rattle.clock_step.proofs.OneAnswer.{one_answer}
use Rattle.hierarchy.specs.Names.{net_named}
use Rattle.net_core.specs.Source.{source_of}
use Rattle.net_core.specs.declared.raw.RawNet.{RawNet}
use Rattle.flat_net.specs.Flat.{IsFlat}
use Rattle.ste_program.proofs.SameNets.{AreSame, flats_same, sources_same}

-- the same nets are undriven
undriven_same : (net other : RawNet) → AreSame net other → is_undriven net ≡ is_undriven other
undriven_same net other same = λ i id.
    (ap (λ n. nat_lt id n && is_undriven_source (source_of net id)) same.nets ∙ ap (λ s. nat_lt id other.nets && is_undriven_source s) (sources_same net other same id)) i

driven_at : (net other : RawNet) → is_undriven net ≡ is_undriven other → (found : Option ℕ) → is_driven net found ≡ is_driven other found
driven_at net other same None = refl
driven_at net other same (Some id) = ap (λ (undriven : ℕ → Bool). not (undriven id)) same

-- the names of a line have the same fault
abbrev names_by : (List ℕ → Option ℕ) → ℕ → List (List ℕ) → (Option ℕ → Bool) → Option InputFault
names_by net_of line names driven =
    option_or (option_map (DoubleName line) (first_double_net net_of [] names))
    (option_or (option_map (UnknownNode line) (first_unknown_net net_of names))
    (option_map (NotAnInput line) (find (λ name. driven (net_of name)) names)))

order_same : (net_of : List ℕ → Option ℕ) (net other : RawNet) (line : ℕ) (names : Option (List (List ℕ))) → AreSame net other → order_fault net_of net line names ≡ order_fault net_of other line names
order_same net_of net other line None same = refl
order_same net_of net other line (Some names) same = ap (names_by net_of line names) (λ i found. driven_at net other (undriven_same net other same) found i)

faults_same : (net_of : List ℕ → Option ℕ) (net other : RawNet) (lines : List Line) → AreSame net other → first_input_fault net_of net lines ≡ first_input_fault net_of other lines
faults_same net_of net other [] same = refl
faults_same net_of net other (line ∷ lines) same =
    ap (λ fault. option_or fault (rows_fault (length (names_of (line ∷ lines))) net.nets 0 lines)) (order_same net_of net other line.number (order_of line.words) same)
    ∙ ap (λ n. option_or (order_fault net_of other line.number (order_of line.words)) (rows_fault (length (names_of (line ∷ lines))) n 0 lines)) same.nets

answer_same : (net_of : List ℕ → Option ℕ) (net other : RawNet) (lines : List Line) (answer : Result Inputs InputFault) → AreSame net other → IsInputsAnswer net_of net lines answer → IsInputsAnswer net_of other lines answer
answer_same net_of net other lines (Ok inputs) same h = (sym (faults_same net_of net other lines same) ∙ h.0, h.1)
answer_same net_of net other lines (Err (BadLine line)) same h = sym (faults_same net_of net other lines same) ∙ h
answer_same net_of net other lines (Err (DoubleName line name)) same h = sym (faults_same net_of net other lines same) ∙ h
answer_same net_of net other lines (Err (UnknownNode line name)) same h = sym (faults_same net_of net other lines same) ∙ h
answer_same net_of net other lines (Err (NotAnInput line name)) same h = sym (faults_same net_of net other lines same) ∙ h
answer_same net_of net other lines (Err (TooMany line)) same h = sym (faults_same net_of net other lines same) ∙ h
answer_same net_of net other lines (Err OutOfMemory) same h = h

-- an answer over one flat net of a hierarchy is one over another
pub inputs_moved : (models : List Model) (net other : RawNet) (lines : List Line) (answer : Result Inputs InputFault) → IsFlat models net → IsFlat models other → IsInputsAnswer (net_named models) net lines answer → IsInputsAnswer (net_named models) other lines answer
inputs_moved models net other lines answer f g h = answer_same (net_named models) net other lines answer (flats_same models net other f g) h

-- lines have one fault at most
pub one_input_fault : (net_of : List ℕ → Option ℕ) (net : RawNet) (lines : List Line) (one other : InputFault) → one ≢ OutOfMemory → other ≢ OutOfMemory → IsInputsAnswer net_of net lines (Err one) → IsInputsAnswer net_of net lines (Err other) → one ≡ other
one_input_fault net_of net lines one other a b f g = one_answer net_of net lines (Err one) (Err other) (λ e. a (cc e)) (λ e. b (cc e)) f g

-- lines that spell inputs have no fault
pub spelled_has_no_fault : (net_of : List ℕ → Option ℕ) (net : RawNet) (lines : List Line) (inputs : Inputs) (fault : InputFault) → fault ≢ OutOfMemory → IsInputsAnswer net_of net lines (Ok inputs) → IsInputsAnswer net_of net lines (Err fault) → ⊥
spelled_has_no_fault net_of net lines inputs fault told f g = one_answer net_of net lines (Ok inputs) (Err fault) (λ e. absurd (cc e)) (λ e. told (cc e)) f g
