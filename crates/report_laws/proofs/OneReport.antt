-- A report is one: what two texts say determines what is written on them.
use Rattle.std.proofs.Common.{◌≡◌, ℕ, zero, suc, ◌+◌, Bool, List, [], ◌∷◌, ◌++◌, length, map, Option, None, Some, Ok, refl, ap, sym, ◌∙◌, subst, append_assoc, append-nil}
use Rattle.std.specs.Prelude.{if◌then◌else◌, codes, zip}
use Rattle.std.specs.List.{AllZip, flat_map}
use Rattle.blif_lines.specs.Lines.{lines_of}
use Rattle.blif_syntax.specs.declared.models.Model.{Model}
use Rattle.clock_step.specs.Answer.{IsInputsAnswer}
use Rattle.command_line.specs.Command.{Action, Command, bench, check, info, sim}
use Rattle.hierarchy.specs.Lines.{outputs_of, top}
use Rattle.hierarchy.specs.Names.{net_named, own_name}
use Rattle.hierarchy.specs.Nets.{nets}
use Rattle.net_core.specs.Source.{source_of}
use Rattle.net_core.specs.declared.raw.Gate.{Gate}
use Rattle.net_core.specs.declared.raw.RawNet.{RawNet}
use Rattle.flat_net.specs.Flat.{IsFlat}
use Rattle.net_gen.specs.Pipeline.{pipeline_net, pipeline_tasks}
use Rattle.ste_program.specs.Bench.{IsBench}
use Rattle.ste_program.specs.Check.{IsCheck}
use Rattle.ste_program.specs.Command.{net_file, second_file}
use Rattle.ste_program.specs.Info.{IsInfo, count_line, free_below, info_text, is_free_source}
use Rattle.ste_io.specs.Outside.{FilesState}
use Rattle.report_text.specs.Text.{nodes_line}
use Rattle.ste_program.specs.Report.{IsReport, IsWritten, text_at}
use Rattle.report_laws.specs.OneReport.{AgreeOn, AreOne, AskAlike, OneReport, Told, end_in, shared_in, told_in, told_in_check}
use Rattle.ste_program.specs.Simulated.{IsSimulated, sim_text}
use Rattle.ste_program.proofs.Fetched.{read_told}
use Rattle.ste_program.proofs.NetlistText.{one_netlist}
use Rattle.report_laws.proofs.SameRuns.{outputs_same}
use Rattle.ste_program.proofs.SameNets.{AreAlike, AreSame, flats_same, sources_same}
use Rattle.report_laws.proofs.SameReports.{lines_same, lines_told, reports_agree}
use Rattle.ste_program.proofs.TextStages.{one_reading}

-- what two reports on the same texts have in common
abbrev AreSoOn : (action : Action) (asked twin : Command) (net_text second_text : List ℕ) (passes others : Bool) (bytes others_bytes : List ℕ) → IsWritten action asked net_text second_text passes bytes → IsWritten action twin net_text second_text others others_bytes → Type 0
AreSoOn action asked twin net_text second_text passes others bytes others_bytes one two = AreOne
    (told_in action asked net_text second_text passes bytes one) (told_in action twin net_text second_text others others_bytes two) passes others
    (shared_in action asked net_text second_text passes bytes one) (shared_in action twin net_text second_text others others_bytes two)
    (end_in action asked net_text second_text passes bytes one) (end_in action twin net_text second_text others others_bytes two) bytes others_bytes

-- what is written behind a text that has an end of its own
behind : (told nodes end : List ℕ) → (told ++ (nodes ++ [])) ++ end ≡ told ++ (nodes ++ end)
behind told nodes end = ap (λ (x : List ℕ). (told ++ x) ++ end) (append-nil nodes) ∙ append_assoc told nodes end

-- the lines of a check are those of its tasks, and the number of shared nodes behind them
check_lines : (steps : Option ℕ) (cubes : ℕ) (wave nodes : Bool) (net_text task_text : List ℕ) (passes : Bool) (bytes : List ℕ) (one : IsCheck steps cubes wave nodes net_text task_text passes bytes) →
    bytes ≡ flat_map (λ (t : Told). t.lines) (told_in_check steps cubes wave nodes net_text task_text passes bytes one) ++ (nodes_line one.report.shared ++ [])
check_lines steps cubes wave nodes net_text task_text passes bytes one =
    one.report.written
    ∙ (ap (λ (x : List ℕ). x ++ nodes_line one.report.shared) (lines_told (map own_name (nets one.models)) one.tasks.vars wave (zip one.tasks.tasks one.report.reports))
    ∙ ap (λ (x : List ℕ). flat_map (λ (t : Told). t.lines) (told_in_check steps cubes wave nodes net_text task_text passes bytes one) ++ x) (sym (append-nil (nodes_line one.report.shared))))

-- what two checks of the same texts report for tasks
checks_agree : (steps more : Option ℕ) (cubes : ℕ) (wave nodes : Bool) (net_text task_text : List ℕ) (passes others : Bool) (bytes others_bytes : List ℕ) (one : IsCheck steps cubes wave nodes net_text task_text passes bytes) (two : IsCheck more cubes wave nodes net_text task_text others others_bytes) →
    AllZip AgreeOn (told_in_check steps cubes wave nodes net_text task_text passes bytes one) (told_in_check more cubes wave nodes net_text task_text others others_bytes two)
    × (map (λ (t : Told). t.report.verdict) (told_in_check steps cubes wave nodes net_text task_text passes bytes one) ≡ map (λ (t : Told). t.report.verdict) (told_in_check more cubes wave nodes net_text task_text others others_bytes two) → passes ≡ others)
checks_agree steps more cubes wave nodes net_text task_text passes others bytes others_bytes one two =
    let readings = one_reading net_text task_text one.models two.models one.net two.net one.tasks two.tasks one.reading two.reading in
    let n = two.reading.flattened in
    reports_agree two.models one.net two.net _ _ _ _ cubes wave nodes one.tasks two.tasks passes others bytes others_bytes
    (subst (λ (ms : List Model). IsFlat ms one.net) readings.0 one.reading.flattened.flat) n.flat n.in_range n.settled
    (ap (λ (ms : List Model). map own_name (nets ms)) readings.0) readings.1 readings.2 one.report two.report

checks_same : (steps more : Option ℕ) (cubes : ℕ) (wave nodes : Bool) (net_text task_text : List ℕ) (passes others : Bool) (bytes others_bytes : List ℕ) (one : IsCheck steps cubes wave nodes net_text task_text passes bytes) (two : IsCheck more cubes wave nodes net_text task_text others others_bytes) →
    AreOne (told_in_check steps cubes wave nodes net_text task_text passes bytes one) (told_in_check more cubes wave nodes net_text task_text others others_bytes two) passes others
    one.report.shared two.report.shared [] [] bytes others_bytes
checks_same steps more cubes wave nodes net_text task_text passes others bytes others_bytes one two =
    let both = checks_agree steps more cubes wave nodes net_text task_text passes others bytes others_bytes one two in
    let first = check_lines steps cubes wave nodes net_text task_text passes bytes one in
    let second = check_lines more cubes wave nodes net_text task_text others others_bytes two in
    record {
      agree = both.0;
      passing = both.1;
      ends = refl;
      lines = first;
      other_lines = second;
      same = λ v shared. first
          ∙ (ap (λ (x : List ℕ). x ++ (nodes_line one.report.shared ++ [])) (lines_same _ _ both.0 v)
          ∙ (ap (λ (k : Option ℕ). flat_map (λ (t : Told). t.lines) (told_in_check more cubes wave nodes net_text task_text others others_bytes two) ++ (nodes_line k ++ [])) shared ∙ sym second));
    }

-- the same nets are free
free_same : (net other : RawNet) (n : ℕ) → AreSame net other → free_below net n ≡ free_below other n
free_same net other zero same = refl
free_same net other (suc id) same =
    ap (λ m. m + (if is_free_source (source_of net id) then 1 else 0)) (free_same net other id same)
    ∙ ap (λ s. free_below other id + (if is_free_source s then 1 else 0)) (sources_same net other same id)

gates_long : (net other : RawNet) (ones others : List Gate) → AllZip (AreAlike net other) ones others → length ones ≡ length others
gates_long net other [] [] h = refl
gates_long net other [] (b ∷ others) h = absurd h
gates_long net other (a ∷ ones) [] h = absurd h
gates_long net other (a ∷ ones) (b ∷ others) h = ap suc (gates_long net other ones others h.1)

-- the text by its numbers
abbrev counted : List ℕ → ℕ → ℕ → ℕ → ℕ → ℕ → List ℕ
counted name nets inputs free gates latches =
    codes "model " ++ name ++ codes "\n"
    ++ count_line (codes "nets") nets
    ++ count_line (codes "inputs") inputs
    ++ count_line (codes "free") free
    ++ count_line (codes "gates") gates
    ++ count_line (codes "latches") latches

info_same : (name : List ℕ) (net other : RawNet) → AreSame net other → info_text name net ≡ info_text name other
info_same name net other same =
    ap (λ n. counted name n (length net.inputs) (free_below net net.nets) (length net.gates) (length net.latches)) same.nets
    ∙ (ap (λ ids. counted name other.nets (length ids) (free_below net net.nets) (length net.gates) (length net.latches)) same.inputs
    ∙ (ap (λ n. counted name other.nets (length other.inputs) n (length net.gates) (length net.latches)) (ap (free_below net) same.nets ∙ free_same net other other.nets same)
    ∙ (ap (λ n. counted name other.nets (length other.inputs) (free_below other other.nets) n (length net.latches)) (gates_long net other net.gates other.gates same.gates)
    ∙ ap (λ latches. counted name other.nets (length other.inputs) (free_below other other.nets) (length other.gates) (length latches)) same.latches)))

infos_same : (net_text bytes others_bytes : List ℕ) → IsInfo net_text bytes → IsInfo net_text others_bytes → bytes ≡ others_bytes
infos_same net_text bytes others_bytes one two =
    let same = one_netlist net_text one.models two.models one.flattened.netlist two.flattened.netlist in
    let nets = flats_same two.models one.net two.net (subst (λ (ms : List Model). IsFlat ms one.net) same one.flattened.flat) two.flattened.flat in
    one.written ∙ (ap (λ (ms : List Model). info_text (top ms).name one.net) same ∙ (info_same (top two.models).name one.net two.net nets ∙ sym two.written))

simulations_same : (net_text input_text bytes others_bytes : List ℕ) → IsSimulated net_text input_text bytes → IsSimulated net_text input_text others_bytes → bytes ≡ others_bytes
simulations_same net_text input_text bytes others_bytes one two =
    let same = one_netlist net_text one.models two.models one.flattened.netlist two.flattened.netlist in
    let rows = outputs_same two.models one.net two.net (lines_of input_text) one.inputs two.inputs one.rows two.rows
    (subst (λ (ms : List Model). IsFlat ms one.net) same one.flattened.flat) two.flattened.flat
    (subst (λ (ms : List Model). IsInputsAnswer (net_named ms) one.net (lines_of input_text) (Ok one.inputs)) same one.given) two.given one.run two.run in
    one.written ∙ (ap (λ (ms : List Model). sim_text (outputs_of (top ms)) one.rows) same ∙ (ap (sim_text (outputs_of (top two.models))) rows ∙ sym two.written))

-- what reports nothing of tasks is one where its bytes are
untold_same : (passes others : Bool) (bytes others_bytes : List ℕ) → passes ≡ others → bytes ≡ others_bytes → AreOne [] [] passes others None None bytes others_bytes bytes others_bytes
untold_same passes others bytes others_bytes p b = record {
  agree = tt;
  passing = λ v. p;
  ends = b;
  lines = refl;
  other_lines = refl;
  same = λ v shared. b;
}

benches_same : (steps more : Option ℕ) (cubes : ℕ) (wave nodes : Bool) (stages : ℕ) (passes others : Bool) (bytes others_bytes : List ℕ) (one : IsBench steps cubes wave nodes stages passes bytes) (two : IsBench more cubes wave nodes stages others others_bytes) →
    AreOne (told_in_check steps cubes wave nodes (pipeline_net stages) (pipeline_tasks stages) passes one.report one.check) (told_in_check more cubes wave nodes (pipeline_net stages) (pipeline_tasks stages) others two.report two.check) passes others
    one.check.report.shared two.check.report.shared
    (count_line (codes "nets") one.check.net.nets) (count_line (codes "nets") two.check.net.nets) bytes others_bytes
benches_same steps more cubes wave nodes stages passes others bytes others_bytes one two =
    let net_text = pipeline_net stages in
    let task_text = pipeline_tasks stages in
    let both = checks_same steps more cubes wave nodes net_text task_text passes others one.report two.report one.check two.check in
    let readings = one_reading net_text task_text one.check.models two.check.models one.check.net two.check.net one.check.tasks two.check.tasks one.check.reading two.check.reading in
    let same_nets : one.check.net.nets ≡ two.check.net.nets =
    (flats_same two.check.models one.check.net two.check.net (subst (λ (ms : List Model). IsFlat ms one.check.net) readings.0 one.check.reading.flattened.flat) two.check.reading.flattened.flat).nets in
    let first : bytes ≡ flat_map (λ (t : Told). t.lines) (told_in_check steps cubes wave nodes net_text task_text passes one.report one.check) ++ (nodes_line one.check.report.shared ++ count_line (codes "nets") one.check.net.nets) =
    one.written ∙ (ap (λ (x : List ℕ). x ++ count_line (codes "nets") one.check.net.nets) both.lines ∙ behind (flat_map (λ (t : Told). t.lines) (told_in_check steps cubes wave nodes net_text task_text passes one.report one.check)) (nodes_line one.check.report.shared) (count_line (codes "nets") one.check.net.nets)) in
    let second : others_bytes ≡ flat_map (λ (t : Told). t.lines) (told_in_check more cubes wave nodes net_text task_text others two.report two.check) ++ (nodes_line two.check.report.shared ++ count_line (codes "nets") two.check.net.nets) =
    two.written ∙ (ap (λ (x : List ℕ). x ++ count_line (codes "nets") two.check.net.nets) both.other_lines ∙ behind (flat_map (λ (t : Told). t.lines) (told_in_check more cubes wave nodes net_text task_text others two.report two.check)) (nodes_line two.check.report.shared) (count_line (codes "nets") two.check.net.nets)) in
    record {
      agree = both.agree;
      passing = both.passing;
      ends = ap (count_line (codes "nets")) same_nets;
      lines = first;
      other_lines = second;
      same = λ v shared. one.written
          ∙ (ap (λ (text : List ℕ). text ++ count_line (codes "nets") one.check.net.nets) (both.same v shared)
          ∙ (ap (λ (n : ℕ). two.report ++ count_line (codes "nets") n) same_nets ∙ sym two.written));
    }

-- a command with other workers and steps
abbrev likened : Command → ℕ → Option ℕ → Command
likened twin workers steps = record twin { workers = workers; steps = steps }

likened_is : (command twin : Command) → AskAlike command twin → likened twin command.workers command.steps ≡ command
likened_is command twin alike = sym (
    ap (λ (a : Action). record command { action = a }) alike.action
    ∙ (ap (λ (n : ℕ). record command { action = twin.action; cubes = n }) alike.cubes
    ∙ (ap (λ (b : Bool). record command { action = twin.action; cubes = twin.cubes; wave = b }) alike.wave
    ∙ ap (λ (b : Bool). record command { action = twin.action; cubes = twin.cubes; wave = twin.wave; nodes = b }) alike.nodes)))

written_same : (action : Action) (twin : Command) (workers : ℕ) (steps : Option ℕ) (net_text second_text : List ℕ) (passes others : Bool) (bytes others_bytes : List ℕ) (one : IsWritten action (likened twin workers steps) net_text second_text passes bytes) (two : IsWritten action twin net_text second_text others others_bytes) →
    AreSoOn action (likened twin workers steps) twin net_text second_text passes others bytes others_bytes one two
written_same (check net tasks) twin workers steps net_text second_text passes others bytes others_bytes one two = checks_same steps twin.steps twin.cubes twin.wave twin.nodes net_text second_text passes others bytes others_bytes one two
written_same (info net) twin workers steps net_text second_text passes others bytes others_bytes one two = untold_same passes others bytes others_bytes (one.0 ∙ sym two.0) (infos_same net_text bytes others_bytes one.1 two.1)
written_same (sim net inputs) twin workers steps net_text second_text passes others bytes others_bytes one two = untold_same passes others bytes others_bytes (one.0 ∙ sym two.0) (simulations_same net_text second_text bytes others_bytes one.1 two.1)
written_same (bench stages) twin workers steps net_text second_text passes others bytes others_bytes one two = benches_same steps twin.steps twin.cubes twin.wave twin.nodes stages passes others bytes others_bytes one two

-- what is read of a file is one text
one_text : (held : Option (List ℕ)) (one other : List ℕ) → held ≡ Some one → held ≡ Some other → one ≡ other
one_text held one other f g = let both : Some one ≡ Some other = sym f ∙ g in let same : one ≡ other = cc in same

-- a report on texts that are the same
module _ (twin : Command) (workers : ℕ) (steps : Option ℕ) (net_text second_text : List ℕ) (passes others : Bool) (bytes others_bytes : List ℕ) (two : IsWritten twin.action twin net_text second_text others others_bytes) where
  abbrev IsOne : (command : Command) (one_net one_second : List ℕ) → IsWritten command.action command one_net one_second passes bytes → Type 0
  IsOne command one_net one_second written = AreOne
      (told_in command.action command one_net one_second passes bytes written) (told_in twin.action twin net_text second_text others others_bytes two) passes others
      (shared_in command.action command one_net one_second passes bytes written) (shared_in twin.action twin net_text second_text others others_bytes two)
      (end_in command.action command one_net one_second passes bytes written) (end_in twin.action twin net_text second_text others others_bytes two) bytes others_bytes

  moved : (command : Command) (one_net one_second : List ℕ) → likened twin workers steps ≡ command → net_text ≡ one_net → second_text ≡ one_second → (written : IsWritten command.action command one_net one_second passes bytes) → IsOne command one_net one_second written
  moved command one_net one_second same net second =
      subst (λ (c : Command). (written : IsWritten c.action c one_net one_second passes bytes) → IsOne c one_net one_second written) same
      (subst (λ (n : List ℕ). (written : IsWritten twin.action (likened twin workers steps) n one_second passes bytes) → IsOne (likened twin workers steps) n one_second written) net
      (subst (λ (t : List ℕ). (written : IsWritten twin.action (likened twin workers steps) net_text t passes bytes) → IsOne (likened twin workers steps) net_text t written) second
      (λ written. written_same twin.action twin workers steps net_text second_text passes others bytes others_bytes written two)))

-- the command that a report is of
asked_is : (command : Command) (files : FilesState) (passes : Bool) (bytes : List ℕ) (report : IsReport (Some command) files passes bytes) → report.asked ≡ command
asked_is command files passes bytes report = let both : Some report.asked ≡ Some command = sym report.is in cc both

-- the commands of two reports ask for the same
asked_alike : (command twin : Command) → AskAlike command twin → (files twins : FilesState) (passes others : Bool) (bytes others_bytes : List ℕ) (one : IsReport (Some command) files passes bytes) (two : IsReport (Some twin) twins others others_bytes) → AskAlike one.asked two.asked
asked_alike command twin alike files twins passes others bytes others_bytes one two =
    subst (λ (c : Command). AskAlike c two.asked) (sym (asked_is command files passes bytes one)) (subst (λ (c : Command). AskAlike command c) (sym (asked_is twin twins others others_bytes two)) alike)

-- commands that ask for the same have one report at most on the same texts, but for budgets and the number of shared nodes
pub one_report : OneReport
one_report = record {
  texts = λ command twin alike files twins store told also passes others bytes others_bytes one two.
      let same = asked_alike command twin alike files twins passes others bytes others_bytes one two in (
        one_text (text_at (net_file one.asked.action) store) one.net_text two.net_text
            (read_told (net_file one.asked.action) files.holds one.net_text one.net_read store told)
            (ap (λ (a : Action). text_at (net_file a) store) same.action ∙ read_told (net_file two.asked.action) twins.holds two.net_text two.net_read store also),
        one_text (text_at (second_file one.asked.action) store) one.second_text two.second_text
            (read_told (second_file one.asked.action) files.holds one.second_text one.second_read store told)
            (ap (λ (a : Action). text_at (second_file a) store) same.action ∙ read_told (second_file two.asked.action) twins.holds two.second_text two.second_read store also),
      );
  same = λ command twin alike files twins passes others bytes others_bytes one two net second.
      let same = asked_alike command twin alike files twins passes others bytes others_bytes one two in
      moved two.asked one.asked.workers one.asked.steps two.net_text two.second_text passes others bytes others_bytes two.written one.asked one.net_text one.second_text (likened_is one.asked two.asked same) (sym net) (sym second) one.written;
}
