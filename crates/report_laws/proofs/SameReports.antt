-- Flat nets of one hierarchy and tasks that say the same have the same reports.
use Rattle.std.proofs.Common.{◌≡◌, ◌<◌, ◌≤◌, ℕ, suc, Bool, false, List, [], ◌∷◌, ◌++◌, length, map, Option, None, refl, ap, sym, ◌∙◌, subst, inl, inr, arith}
use Rattle.std.specs.Prelude.{◌||◌, All, Any, if◌then◌else◌, codes, nat_eq, slice_get, zip, Some}
use Rattle.std.specs.List.{AllZip, enumerate_from, flat_map, list_all, list_any}
use Rattle.std.proofs.lemmas.List.Elements.{All-cons}
use Rattle.ste_base.specs.declared.id.NodeId.{NodeId}
use Rattle.blif_syntax.specs.declared.models.Model.{Model}
use Rattle.net_core.specs.declared.bit_set.BitSet.{BitSet}
use Rattle.net_core.specs.declared.raw.Latch.{Latch}
use Rattle.net_core.specs.declared.raw.RawNet.{RawNet}
use Rattle.net_core.specs.Flat.{IsInRange}
use Rattle.net_core.specs.Run.{Cut, IsSettled, IsUndriven, MayStart}
use Rattle.flat_net.specs.Flat.{IsFlat}
use Rattle.ste_model.specs.declared.report.Report.{Report}
use Rattle.ste_model.specs.declared.run.Run.{Run}
use Rattle.ste_model.specs.declared.task.Assertion.{Assertion}
use Rattle.ste_model.specs.declared.task.Graph.{Graph}
use Rattle.ste_model.specs.declared.task.Quint.{Quint}
use Rattle.ste_model.specs.declared.task.Task.{Task}
use Rattle.ste_model.specs.declared.task.Task.TheVariants.{Ste, Gste}
use Rattle.ste_model.specs.declared.task.Tasks.{Tasks}
use Rattle.ste_model.specs.declared.verdict.Verdict.{Verdict}
use Rattle.ste_model.specs.declared.verdict.Verdict.TheVariants.{Budget}
use Rattle.net_core.specs.Possible.{is_weakened}
use Rattle.ste_model.specs.declared.task.Weakening.{Weakening}
use Rattle.ste_model.specs.Asked.{cuts_at, depth, weakened_at}
use Rattle.ste_model.specs.Found.{FailsStrongly, FailsWeakly, IsContradictory, IsStrong, IsVerdictOf, IsWeak}
use Rattle.ste_model.specs.GraphFound.{IsGraphVerdict}
use Rattle.ste_model.specs.Holds.{IsTaskRun}
use Rattle.ste_model.specs.Report.{IsDue, IsFailingPlace, IsPrintedUnder, IsReportOf, IsShown, Prints, Shows, budget_report}
use Rattle.ste_model.specs.Runs.{HasRows, run_of}
use Rattle.ste_model.specs.Shown.{IsFilled, IsFirstBit, IsLatchOutput, IsPrinted, IsQuintBindable}
use Rattle.ste_model.specs.Trees.{QuintTree, quint_tree, task_tree}
use Rattle.ste_model.proofs.GraphReports.{one_graph_report_of}
use Rattle.ste_model.proofs.Reports.{one_report_of}
use Rattle.report_text.specs.Text.{fails_line, guards_text, least_line, names_net, net_line, path_line, run_text, task_text, verdict_words}
use Rattle.work_pool.specs.declared.mode.Mode.TheVariants.{Sets}
use Rattle.work_pool.specs.Told.{Agree, IsToldOf}
use Rattle.report_laws.specs.OneReport.{AgreeOn, Told, told_at, told_on}
use Rattle.ste_program.specs.Check.{IsReportOn, is_pass}
use Rattle.report_laws.proofs.SameRuns.{run_moved, undriven_moved}
use Rattle.report_laws.proofs.SameGraphs.{GraphSaysSame, graph_named_alike, graph_report_moved, graph_says_same}
use Rattle.report_laws.proofs.SameMoved.{cubes_moved, least_moved}
use Rattle.ste_program.proofs.SameNets.{AreSame, flats_same}
use Rattle.report_laws.proofs.SameVerdicts.{SaysSame, back_says, of_contradictory, of_table, says_same, strong_moved, verdict_moved, weak_moved}

-- ---- what is reported, moved to a net that is the same and an assertion that says the same

bindable_moved : (net other : RawNet) → AreSame net other → (weak again : List Weakening) → weakened_at weak 0 ≡ weakened_at again 0 → (ones twins : List Quint) → map quint_tree ones ≡ map quint_tree twins
    → All (IsQuintBindable net weak) ones → All (IsQuintBindable other again) twins
bindable_moved net other same weak again start [] [] e all = λ k d l. absurd (omega (arith, l))
bindable_moved net other same weak again start [] (q ∷ twins) e all = absurd (cc e)
bindable_moved net other same weak again start (p ∷ ones) [] e all = absurd (cc e)
bindable_moved net other same weak again start (p ∷ ones) (q ∷ twins) e all =
    let first : quint_tree p ≡ quint_tree q = cc e in
    let rest : map quint_tree ones ≡ map quint_tree twins = cc e in
    All-cons (IsQuintBindable other again) q twins
    (one (ap (λ (t : QuintTree). t.node) first) (ap (λ (t : QuintTree). t.to) first) (all 0 p (omega arith)))
    (bindable_moved net other same weak again start ones twins rest (λ j d m. all (suc j) d (omega (arith, m))))
  where
    one : p.node.0 ≡ q.node.0 → p.to ≡ q.to → IsQuintBindable net weak p → IsQuintBindable other again q
    one node to (inl free) = inl (undriven_moved net other q.node.0 same (subst (λ (id : ℕ). IsUndriven net id) node free))
    one node to (inr latch) = inr (
      subst (λ (latches : List Latch). Any (λ (l : Latch). l.output.0 ≡ q.node.0) latches) same.latches (subst (λ (id : ℕ). IsLatchOutput net id) node latch.0),
      subst (λ (n : ℕ). n ≤ 1) to latch.1,
      subst (λ (ids : List ℕ). is_weakened ids q.node.0 ≡ false) start (subst (λ (id : ℕ). is_weakened (weakened_at weak 0) id ≡ false) node latch.2),
    )

module _ (net other : RawNet) (one twin : Assertion) (same : AreSame net other) (back : AreSame other net) (says : SaysSame one twin) where
  place_moved : (Fails : (ℕ → BitSet) → Cut → Type 0) (bits : List Bool) (place : NodeId × ℕ) → IsFailingPlace Fails net one bits place → IsFailingPlace Fails other twin bits place
  place_moved Fails bits place h = record {
    table = h.table;
    possible = of_table net other one twin same back says bits h.table h.possible;
    within = subst (λ (n : ℕ). place.1 < n) says.deep h.within;
    number = h.number;
    cut = h.cut;
    here = subst (λ (cuts : List Cut). slice_get cuts h.number ≡ Some h.cut) (says.asked bits place.1) h.here;
    fails = h.fails;
    node = h.node;
    first = subst (λ (cuts : List Cut). (j : ℕ) (c : Cut) → j < h.number → slice_get cuts j ≡ Some c → ¬ Fails (h.table place.1) c) (says.asked bits place.1) h.first;
    earliest = λ t l. subst (λ (cuts : List Cut). ¬ Any (Fails (h.table t)) cuts) (says.asked bits t) (h.earliest t l);
  }

  printed_moved : (bits : List Bool) (run : ℕ → ℕ → Bool) → IsPrinted net one bits run → IsPrinted other twin bits run
  printed_moved bits run h = record {
    is_run = subst (λ (n : ℕ). IsTaskRun other twin.reset n run) says.deep (subst (λ reset. IsTaskRun other reset (depth one) run) says.reset (record {
      is_run = run_moved net other (depth one) run same h.is_run.is_run;
      starts = λ l. subst (λ (latches : List Latch). All (λ (latch : Latch). MayStart one.reset latch (run 0 latch.output.0)) latches) same.latches (h.is_run.starts l);
    }));
    sources = λ t id l m none. subst (λ (cuts : List Cut). IsFilled cuts id (run t id)) (says.given bits t)
        (h.sources t id (subst (λ (n : ℕ). t < n) (sym says.deep) l) (subst (λ (n : ℕ). id < n) (sym same.nets) m) (undriven_moved other net id back none));
    starts = λ l. subst (λ reset. All (λ (latch : Latch). IsFirstBit reset latch (cuts_at twin.ant bits 0) (run 0 latch.output.0)) other.latches) says.reset
        (subst (λ (cuts : List Cut). All (λ (latch : Latch). IsFirstBit one.reset latch cuts (run 0 latch.output.0)) other.latches) (says.given bits 0)
        (subst (λ (latches : List Latch). All (λ (latch : Latch). IsFirstBit one.reset latch (cuts_at one.ant bits 0) (run 0 latch.output.0)) latches) same.latches (h.starts (subst (λ (n : ℕ). 0 < n) (sym says.deep) l))));
  }

  due_moved : (verdict : Verdict) → IsDue net one verdict → IsDue other twin verdict
  due_moved verdict h = (h.0, bindable_moved net other same one.weak twin.weak (says.weak 0) one.ant twin.ant says.ants h.1)

  under_moved : (report : Report) → IsPrintedUnder net one report.least report.run → IsPrintedUnder other twin report.least report.run
  under_moved report h = record {
    bits = h.bits;
    least_is = h.least_is;
    told = h.told;
    run_is = h.run_is;
    rows = subst (λ (n : ℕ). HasRows other.nets n h.told) says.deep (subst (λ (n : ℕ). HasRows n (depth one) h.told) same.nets h.rows);
    printed = printed_moved h.bits (run_of h.told) h.printed;
  }

module _ (net other : RawNet) (one twin : Assertion) (same : AreSame net other) (back : AreSame other net) (says : SaysSame one twin) where
  prints_moved : (report : Report) → Prints net one report.verdict report.least report.run → Prints other twin report.verdict report.least report.run
  prints_moved report (inl h) = inl (due_moved net other one twin same back says report.verdict h.0, under_moved net other one twin same back says report h.1)
  prints_moved report (inr h) = inr ((λ due. h.0 (due_moved other net twin one back same (back_says one twin says) report.verdict due)), h.1)

  strong_to : (bits : List Bool) → IsStrong net one bits → IsStrong other twin bits
  strong_to = strong_moved net other one twin same back says

  strong_from : (bits : List Bool) → IsStrong other twin bits → IsStrong net one bits
  strong_from = strong_moved other net twin one back same (back_says one twin says)

  weak_to : (bits : List Bool) → IsWeak net one bits → IsWeak other twin bits
  weak_to = weak_moved net other one twin same back says

  weak_from : (bits : List Bool) → IsWeak other twin bits → IsWeak net one bits
  weak_from = weak_moved other net twin one back same (back_says one twin says)

  shown_moved : (vars : ℕ) (P Q : List Bool → Type 0) (Fails : (ℕ → BitSet) → Cut → Type 0) (report : Report) → ((bits : List Bool) → P bits → Q bits) → ((bits : List Bool) → Q bits → P bits) →
      IsShown P Fails net vars one report.least report.fails → IsShown Q Fails other vars twin report.least report.fails
  shown_moved vars P Q Fails report to from h = record {
    bits = h.bits;
    least_is = h.least_is;
    is_least = least_moved vars P Q h.bits to from h.is_least;
    place = h.place;
    fails_is = h.fails_is;
    is_place = place_moved net other one twin same back says Fails h.bits h.place h.is_place;
  }

  shows_moved : (vars : ℕ) (report : Report) → Shows net vars one report.verdict report.least report.fails → Shows other vars twin report.verdict report.least report.fails
  shows_moved vars report (inl h) = inl (h.0, shown_moved vars (IsStrong net one) (IsStrong other twin) FailsStrongly report strong_to strong_from h.1)
  shows_moved vars report (inr (inl h)) = inr (inl (h.0, shown_moved vars (IsWeak net one) (IsWeak other twin) FailsWeakly report weak_to weak_from h.1))
  shows_moved vars report (inr (inr h)) = inr (inr h)

  pub report_moved : (vars cubes : ℕ) (report : Report) → IsReportOf net vars cubes one report → IsReportOf other vars cubes twin report
  report_moved vars cubes report h = record {
    named = h.named ∙ says.name;
    judged = verdict_moved net other vars one twin report.verdict same back says h.judged;
    strong = cubes_moved cubes vars (IsStrong net one) (IsStrong other twin) report.guards.strong strong_to strong_from h.strong;
    weak = cubes_moved cubes vars (IsWeak net one) (IsWeak other twin) report.guards.weak weak_to weak_from h.weak;
    contradictory = cubes_moved cubes vars (IsContradictory net one) (IsContradictory other twin) report.guards.contradictory
        (of_contradictory net other one twin same back says) (of_contradictory other net twin one back same (back_says one twin says)) h.contradictory;
    shown = shows_moved vars report h.shown;
    path = h.path;
    run = prints_moved report h.run;
  }

-- ---- what is reported agrees

-- the verdict of a report
abbrev verdict_in : Report → Verdict
verdict_in report = report.verdict

module _ (net other : RawNet) (vars cubes m n : ℕ) (t u : Assertion) (same : AreSame net other) (back : AreSame other net) (range : IsInRange other) (settled : IsSettled other) (says : SaysSame t u) where
  told_agree : (r q : Report) → IsToldOf Sets net vars m cubes (Ste t) r → IsToldOf Sets other vars n cubes (Ste u) q → Agree r q
  told_agree r q (inr f) g = inr (inl (ap verdict_in f.0))
  told_agree r q (inl f) (inr g) = inr (inr (ap verdict_in g.0))
  told_agree r q (inl f) (inl g) = inl (one_report_of other range settled vars cubes u r q (report_moved net other t u same back says vars cubes r f) g)

  no_verdict : (verdict : Verdict) → verdict ≡ Budget → IsVerdictOf other vars u verdict → ⊥
  no_verdict verdict e h = subst (λ (v : Verdict). IsVerdictOf other vars u v) e h

  -- with one verdict they are one
  told_same : (r q : Report) → r.verdict ≡ q.verdict → IsToldOf Sets net vars m cubes (Ste t) r → IsToldOf Sets other vars n cubes (Ste u) q → r ≡ q
  told_same r q e (inl f) (inl g) = one_report_of other range settled vars cubes u r q (report_moved net other t u same back says vars cubes r f) g
  told_same r q e (inl f) (inr g) = absurd (no_verdict r.verdict (e ∙ ap verdict_in g.0) (report_moved net other t u same back says vars cubes r f).judged)
  told_same r q e (inr f) (inl g) = absurd (no_verdict q.verdict (sym e ∙ ap verdict_in f.0) g.judged)
  told_same r q e (inr f) (inr g) = f.0 ∙ ap budget_report says.name ∙ sym g.0

-- the same of graphs
module _ (net other : RawNet) (vars cubes m n : ℕ) (t u : Graph) (same : AreSame net other) (back : AreSame other net) (range : IsInRange other) (settled : IsSettled other) (says : GraphSaysSame t u) where
  graphs_agree : (r q : Report) → IsToldOf Sets net vars m cubes (Gste t) r → IsToldOf Sets other vars n cubes (Gste u) q → Agree r q
  graphs_agree r q (inr f) g = inr (inl (ap verdict_in f.0))
  graphs_agree r q (inl f) (inr g) = inr (inr (ap verdict_in g.0))
  graphs_agree r q (inl f) (inl g) = inl (one_graph_report_of other range settled vars cubes u r q (graph_report_moved net other t u same back says vars cubes r f) g)

  no_graph_verdict : (verdict : Verdict) → verdict ≡ Budget → IsGraphVerdict other vars u verdict → ⊥
  no_graph_verdict verdict e h = subst (λ (v : Verdict). IsGraphVerdict other vars u v) e h

  graphs_same : (r q : Report) → r.verdict ≡ q.verdict → IsToldOf Sets net vars m cubes (Gste t) r → IsToldOf Sets other vars n cubes (Gste u) q → r ≡ q
  graphs_same r q e (inl f) (inl g) = one_graph_report_of other range settled vars cubes u r q (graph_report_moved net other t u same back says vars cubes r f) g
  graphs_same r q e (inl f) (inr g) = absurd (no_graph_verdict r.verdict (e ∙ ap verdict_in g.0) (graph_report_moved net other t u same back says vars cubes r f).judged)
  graphs_same r q e (inr f) (inl g) = absurd (no_graph_verdict q.verdict (sym e ∙ ap verdict_in f.0) g.judged)
  graphs_same r q e (inr f) (inr g) = f.0 ∙ ap budget_report says.name ∙ sym g.0

-- tasks that say the same name the same nets
nodes_alike : (id : ℕ) (ones twins : List Quint) → map quint_tree ones ≡ map quint_tree twins → list_any (λ (quint : Quint). nat_eq quint.node.0 id) ones ≡ list_any (λ (quint : Quint). nat_eq quint.node.0 id) twins
nodes_alike id [] [] e = refl
nodes_alike id [] (q ∷ twins) e = absurd (cc e)
nodes_alike id (p ∷ ones) [] e = absurd (cc e)
nodes_alike id (p ∷ ones) (q ∷ twins) e =
    let first : quint_tree p ≡ quint_tree q = cc e in
    let rest : map quint_tree ones ≡ map quint_tree twins = cc e in
    ap (λ (n : ℕ). nat_eq n id || list_any (λ (quint : Quint). nat_eq quint.node.0 id) ones) (ap (λ (t : QuintTree). t.node) first)
    ∙ ap (λ b. nat_eq q.node.0 id || b) (nodes_alike id ones twins rest)

named_alike : (t u : Assertion) → SaysSame t u → names_net (Ste t) ≡ names_net (Ste u)
named_alike t u says = λ i id. (
    ap (λ b. b || list_any (λ (quint : Quint). nat_eq quint.node.0 id) t.con) (nodes_alike id t.ant u.ant says.ants)
    ∙ ap (λ b. list_any (λ (quint : Quint). nat_eq quint.node.0 id) u.ant || b) (nodes_alike id t.con u.con says.cons)) i

run_alike : (names : List (List ℕ)) (wave : Bool) (t u : Task) (run : Option Run) → names_net t ≡ names_net u → run_text names wave t run ≡ run_text names wave u run
run_alike names wave t u None same = refl
run_alike names wave t u (Some run) same =
    ap (λ (mark : ℕ → Bool). codes "  run:\n" ++ flat_map (λ (at : ℕ × (List ℕ × List Bool)). if wave || mark at.0 then net_line at.1 else []) (enumerate_from 0 (zip names run.rows))) same

text_alike : (names vars : List (List ℕ)) (wave : Bool) (t u : Task) (r : Report) → names_net t ≡ names_net u → task_text names vars wave (t, r) ≡ task_text names vars wave (u, r)
text_alike names vars wave t u r same =
    ap (λ (text : List ℕ). r.name ++ codes ": " ++ verdict_words r.verdict ++ codes "\n" ++ guards_text vars r.guards ++ least_line vars r.least ++ path_line r.path ++ fails_line names r.fails ++ text)
    (run_alike names wave t u r.run same)

-- what is reported for two tasks that say the same
pub record AreToldAlike (names vars : List (List ℕ)) (wave : Bool) (t u : Task) (r q : Report) : Type 0 where
  pub agree : Agree r q
  pub same : r.verdict ≡ q.verdict → r ≡ q
  pub text : r.verdict ≡ q.verdict → task_text names vars wave (t, r) ≡ task_text names vars wave (u, q)

task_alike : (net other : RawNet) (names : List (List ℕ)) (vars : List (List ℕ)) (wave : Bool) (cubes m n : ℕ) → AreSame net other → AreSame other net → IsInRange other → IsSettled other → (t u : Task) (r q : Report) → task_tree t ≡ task_tree u →
    IsToldOf Sets net (length vars) m cubes t r → IsToldOf Sets other (length vars) n cubes u q → AreToldAlike names vars wave t u r q
task_alike net other names vars wave cubes m n same back range settled (Ste t) (Ste u) r q e f g =
    let says = says_same t u e in
    let one = told_same net other (length vars) cubes m n t u same back range settled says r q in
    record {
      agree = told_agree net other (length vars) cubes m n t u same back range settled says r q f g;
      same = λ v. one v f g;
      text = λ v. text_alike names vars wave (Ste t) (Ste u) r (named_alike t u says) ∙ ap (λ (x : Report). task_text names vars wave (Ste u, x)) (one v f g);
    }
task_alike net other names vars wave cubes m n same back range settled (Ste t) (Gste u) r q e f g = absurd (cc e)
task_alike net other names vars wave cubes m n same back range settled (Gste t) (Ste u) r q e f g = absurd (cc e)
task_alike net other names vars wave cubes m n same back range settled (Gste t) (Gste u) r q e f g =
    let says = graph_says_same t u e in
    let one = graphs_same net other (length vars) cubes m n t u same back range settled says r q in
    record {
      agree = graphs_agree net other (length vars) cubes m n t u same back range settled says r q f g;
      same = λ v. one v f g;
      text = λ v. text_alike names vars wave (Gste t) (Gste u) r (graph_named_alike t u says) ∙ ap (λ (x : Report). task_text names vars wave (Gste u, x)) (one v f g);
    }

-- the reports of what is reported for tasks
abbrev verdict_of : Told → Verdict
verdict_of told = told.report.verdict

reports_alike : (net other : RawNet) (names : List (List ℕ)) (vars : List (List ℕ)) (wave : Bool) (cubes m n : ℕ) → AreSame net other → AreSame other net → IsInRange other → IsSettled other →
    (tasks twins : List Task) (reports others : List Report) → map task_tree tasks ≡ map task_tree twins →
    AllZip (IsToldOf Sets net (length vars) m cubes) tasks reports → AllZip (IsToldOf Sets other (length vars) n cubes) twins others →
    AllZip AgreeOn (told_on names vars wave tasks reports) (told_on names vars wave twins others)
    × (map verdict_of (told_on names vars wave tasks reports) ≡ map verdict_of (told_on names vars wave twins others) → reports ≡ others)
reports_alike net other names vars wave cubes m n same back range settled [] [] [] [] e f g = (tt, (λ v. refl))
reports_alike net other names vars wave cubes m n same back range settled [] [] [] (q ∷ others) e f g = absurd g
reports_alike net other names vars wave cubes m n same back range settled [] [] (r ∷ reports) others e f g = absurd f
reports_alike net other names vars wave cubes m n same back range settled [] (u ∷ twins) reports others e f g = absurd (cc e)
reports_alike net other names vars wave cubes m n same back range settled (t ∷ tasks) [] reports others e f g = absurd (cc e)
reports_alike net other names vars wave cubes m n same back range settled (t ∷ tasks) (u ∷ twins) [] others e f g = absurd f
reports_alike net other names vars wave cubes m n same back range settled (t ∷ tasks) (u ∷ twins) (r ∷ reports) [] e f g = absurd g
reports_alike net other names vars wave cubes m n same back range settled (t ∷ tasks) (u ∷ twins) (r ∷ reports) (q ∷ others) e f g =
    let first : task_tree t ≡ task_tree u = cc e in
    let trees : map task_tree tasks ≡ map task_tree twins = cc e in
    let alike = task_alike net other names vars wave cubes m n same back range settled t u r q first f.0 g.0 in
    let rest = reports_alike net other names vars wave cubes m n same back range settled tasks twins reports others trees f.1 g.1 in (
      (record { agree = alike.agree; lines = alike.text }, rest.0),
      (λ v.
          let here : r.verdict ≡ q.verdict = cc v in
          let later : map verdict_of (told_on names vars wave tasks reports) ≡ map verdict_of (told_on names vars wave twins others) = cc v in
          ap (λ (x : Report). x ∷ reports) (alike.same here) ∙ ap (λ (xs : List Report). q ∷ xs) (rest.1 later)),
    )

-- with the same verdicts all lines are the same
pub lines_same : (told twins : List Told) → AllZip AgreeOn told twins → map verdict_of told ≡ map verdict_of twins → flat_map (λ (t : Told). t.lines) told ≡ flat_map (λ (t : Told). t.lines) twins
lines_same [] [] all v = refl
lines_same [] (q ∷ twins) all v = absurd all
lines_same (r ∷ told) [] all v = absurd all
lines_same (r ∷ told) (q ∷ twins) all v =
    let here : r.report.verdict ≡ q.report.verdict = cc v in
    let later : map verdict_of told ≡ map verdict_of twins = cc v in
    ap (λ (x : List ℕ). x ++ flat_map (λ (t : Told). t.lines) told) (all.0.lines here) ∙ ap (λ (x : List ℕ). q.lines ++ x) (lines_same told twins all.1 later)

-- the lines of what is reported are the text of the tasks
pub lines_told : (names vars : List (List ℕ)) (wave : Bool) (ats : List (Task × Report)) → flat_map (task_text names vars wave) ats ≡ flat_map (λ (t : Told). t.lines) (map (told_at names vars wave) ats)
lines_told names vars wave [] = refl
lines_told names vars wave (at ∷ ats) = ap (λ (x : List ℕ). task_text names vars wave at ++ x) (lines_told names vars wave ats)

abbrev Agreed : Bool → List Task → List Task → List Report → List Report → Bool → Bool → List (List ℕ) → List (List ℕ) → List (List ℕ) → List (List ℕ) → Type 0
Agreed wave tasks twins reports others passes other_passes names vars twos other_vars =
    AllZip AgreeOn (told_on names vars wave tasks reports) (told_on twos other_vars wave twins others)
    × (map verdict_of (told_on names vars wave tasks reports) ≡ map verdict_of (told_on twos other_vars wave twins others) → passes ≡ other_passes)

-- two reports on tasks that say the same
pub reports_agree : (models : List Model) (net other : RawNet) (ones twos : List (List ℕ)) (m n cubes : ℕ) (wave nodes : Bool) (tasks twins : Tasks) (passes others : Bool) (bytes others_bytes : List ℕ) → IsFlat models net → IsFlat models other → IsInRange other → IsSettled other →
    ones ≡ twos → tasks.vars ≡ twins.vars → map task_tree tasks.tasks ≡ map task_tree twins.tasks →
    (one : IsReportOn ones net m cubes wave nodes tasks passes bytes) (two : IsReportOn twos other n cubes wave nodes twins others others_bytes) →
    AllZip AgreeOn (told_on ones tasks.vars wave tasks.tasks one.reports) (told_on twos twins.vars wave twins.tasks two.reports)
    × (map verdict_of (told_on ones tasks.vars wave tasks.tasks one.reports) ≡ map verdict_of (told_on twos twins.vars wave twins.tasks two.reports) → passes ≡ others)
reports_agree models net other ones twos m n cubes wave nodes tasks twins passes others bytes others_bytes f g range settled names vars trees one two =
    let told = subst (λ (vs : List (List ℕ)). AllZip (IsToldOf Sets net (length vs) m cubes) tasks.tasks one.reports) vars one.told in
    let alike = reports_alike net other twos twins.vars wave cubes m n (flats_same models net other f g) (flats_same models other net g f) range settled tasks.tasks twins.tasks one.reports two.reports trees told two.told in
    subst (λ (ns : List (List ℕ)). Agreed wave tasks.tasks twins.tasks one.reports two.reports passes others ns tasks.vars twos twins.vars) (sym names)
    (subst (λ (vs : List (List ℕ)). Agreed wave tasks.tasks twins.tasks one.reports two.reports passes others twos vs twos twins.vars) (sym vars) (
      alike.0,
      (λ v. one.passing ∙ (ap (list_all (λ (report : Report). is_pass report.verdict)) (alike.1 v) ∙ sym two.passing)),
    ))
