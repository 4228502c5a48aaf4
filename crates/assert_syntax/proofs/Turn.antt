-- One more line, and what is still to come.
use Rattle.std.proofs.Common.{ℕ, ◌+◌, ◌<◌, ◌≤◌, ◌≡◌, refl, ap, sym, subst, ◌∙◌, List, [], ◌∷◌, map, length, get_or, drop, arith, true, false, Option, Some, None, Result, Ok, Err, length-append, append-nil}
use Rattle.std.proofs.lemmas.List.{drop_more}
use Rattle.blif_lines.specs.declared.lines.Line.{Line}
use Rattle.assert_syntax.specs.declared.draft.Draft.{Draft}
use Rattle.assert_syntax.specs.declared.draft.OpenTask.{OpenTask}
use Rattle.assert_syntax.specs.declared.draft.OpenTask.TheVariants.{Closed, Ste, Gste}
use Rattle.assert_syntax.specs.declared.fault.TaskFault.{TaskFault}
use Rattle.assert_syntax.specs.declared.fault.TaskFault.TheVariants.{BadLine, TooDeep, DoubleName, UnknownVar, TooMany, NoTask, OutOfMemory}
use Rattle.assert_syntax.specs.declared.form.LineFault.{LineFault}
use Rattle.assert_syntax.specs.declared.form.LineFault.TheVariants.{Bad, Deep, Double, Unknown, Many}
use Rattle.assert_syntax.specs.declared.tasks.RawTask.{RawTask}
use Rattle.assert_syntax.specs.declared.tasks.RawTasks.{RawTasks}
use Rattle.assert_syntax.specs.Forms.{Entry, Form, task_form_of}
use Rattle.assert_syntax.specs.Answer.{task_entry_of, task_entries_of, IsTasksAnswer}
use Rattle.assert_syntax.specs.Parses.{Parse, IsParse}
use Rattle.assert_syntax.specs.Places.{Context, context_behind, context_of, fault_or, first_task_fault, form_fault, line_fault, may_stand_at}
use Rattle.assert_syntax.specs.Spelled.{raw_task_tree, tasks_of, vars_with}
use Rattle.assert_syntax.specs.private.Drafts.{HasRoom, tasks_closed}
use Rattle.assert_syntax.specs.Reads.{IsFault}
use Rattle.assert_syntax.specs.private.Steps.{IsStep, IsCounted, finish, open_count}
use Rattle.assert_syntax.proofs.Faults.{fault_from, same_fault, form_decides, bad_position, room_behind}
use Rattle.assert_syntax.proofs.Growth.{closed}
use Rattle.assert_syntax.proofs.Whole.{a_parse}

-- nothing is left behind the last
all_gone : {A : Type 0} (xs : List A) → drop (length xs) xs ≡ []
all_gone [] = refl
all_gone (x ∷ xs) = all_gone xs

none_left : {A : Type 0} (xs : List A) (k : ℕ) → k ≡ length xs → drop k xs ≡ []
none_left xs k same = rw same (all_gone xs)

-- a line by its number and the form of its words
pub by_form : (line : Line) (form : Form) → form ≡ task_form_of line.words → record { line = line.number; form = form } ≡ task_entry_of line
by_form line form e = ap (λ f. with_form f) e
  where
    with_form : Form → Entry
    with_form f = record { line = line.number; form = f }

-- what is still to come decides the first fault, the variables and the tasks
abbrev pub Decide : Parse → Context → Draft → List Line → List Line → Type 0
Decide parse context draft rest lines =
    (fault_from parse context (task_entries_of rest) ≡ first_task_fault parse [] (task_entries_of lines))
    × (vars_with context.vars (task_entries_of rest) ≡ vars_with [] (task_entries_of lines))
    × (finish parse context draft (task_entries_of rest) ≡ tasks_of parse [] (task_entries_of lines))

-- the same for all that texts spell; there is room, and each task has a name
pub record Holds (context : Context) (draft : Draft) (rest lines : List Line) : Type 0 where
  pub decide : (parse : Parse) → IsParse parse → Decide parse context draft rest lines
  pub room : HasRoom context
  pub counted : IsCounted context draft

next_entry : (lines : List Line) (i : ℕ) (line : Line) (entry : Entry) → i < length lines → line ≡ get_or lines i line → entry ≡ task_entry_of line → task_entries_of (drop i lines) ≡ entry ∷ task_entries_of (drop (i + 1) lines)
next_entry lines i line entry h g e = ap task_entries_of (drop_more lines i line h) ∙ ap (λ y. y ∷ task_entries_of (drop (i + 1) lines)) (ap task_entry_of (sym g) ∙ sym e)

-- the first fault, where this line has one
found_here : (parse : Parse) (c : Context) (entry : Entry) (later : List Entry) (found : Option LineFault) → line_fault parse c entry.form ≡ found → fault_from parse c (entry ∷ later) ≡ fault_or entry.line found (fault_from parse (context_behind c entry.form) later)
found_here parse c entry later found e = ap (λ f. fault_or entry.line f (fault_from parse (context_behind c entry.form) later)) e

-- a line without a fault
pub read_turn : (lines : List Line) (i : ℕ) (line : Line) (entry : Entry) (c new : Context) (draft next : Draft) (answer : Result (Unit {0}) TaskFault) → i < length lines → line ≡ get_or lines i line → entry ≡ task_entry_of line → may_stand_at entry.form c.place ≡ true → ((parse : Parse) → IsParse parse → IsStep parse c new draft next entry answer) → answer ≡ Ok tt → Holds c draft (drop i lines) lines → Holds new next (drop (i + 1) lines) lines
read_turn lines i line entry c new draft next answer h g e may told ok inv =
    let step : (parse : Parse) → IsParse parse → IsStep parse c new draft next entry (Ok tt) = λ parse is. subst (IsStep parse c new draft next entry) ok (told parse is) in
    let rest = task_entries_of (drop (i + 1) lines) in
    let here : task_entries_of (drop i lines) ≡ entry ∷ rest = next_entry lines i line entry h g e in
    let one = step a_parse.0 a_parse.1 in
    let room : HasRoom (context_behind c entry.form) = room_behind a_parse.0 c entry.form one.0 inv.room in
    record {
      decide = λ parse is.
          let s = step parse is in
          let d = inv.decide parse is in (
            ap (λ k. fault_from parse k rest) s.1 ∙ sym (found_here parse c entry rest None (form_decides parse c entry.form None may s.0)) ∙ sym (ap (fault_from parse c) here) ∙ d.0,
            ap (λ (k : Context). vars_with k.vars rest) s.1 ∙ sym (ap (vars_with c.vars) here) ∙ d.1,
            s.2 rest ∙ sym (ap (finish parse c draft) here) ∙ d.2,
          );
      room = subst HasRoom (sym one.1) room;
      counted = one.3 inv.counted;
    }

-- before the first line
pub read_begin : (lines : List Line) (c : Context) (tasks : List RawTask) → c ≡ context_of [] → tasks ≡ [] → Holds c (record { tasks = tasks; task = Closed }) lines lines
read_begin lines c tasks e t = record {
  decide = λ parse is. (
    ap (λ k. fault_from parse k (task_entries_of lines)) e ∙ sym (same_fault parse [] (task_entries_of lines)),
    ap (λ (k : Context). vars_with k.vars (task_entries_of lines)) e,
    ap (λ k. finish parse k (record { tasks = tasks; task = Closed }) (task_entries_of lines)) e ∙ ap (λ ts. finish parse (context_of []) (record { tasks = ts; task = Closed }) (task_entries_of lines)) t,
  );
  room = subst HasRoom (sym e) (record { vars = omega arith; names = omega arith; vertices = omega arith; edges = omega arith });
  counted = let m : length tasks ≡ 0 = ap length t in omega (arith, m);
}

-- what is wrong with the first faulty line is the answer
answer_of : (parse : Parse) (all : List Entry) (line : ℕ) (found : Option LineFault) (later : Option (ℕ × LineFault)) (fault : TaskFault) → first_task_fault parse [] all ≡ fault_or line found later → IsFault line found fault → IsTasksAnswer parse all (Err fault)
answer_of parse all line found later (BadLine n) e h = e ∙ ap (λ f. fault_or line f later) h.1 ∙ ap (λ k. Some (k, Bad)) (sym h.0)
answer_of parse all line found later (TooDeep n) e h = e ∙ ap (λ f. fault_or line f later) h.1 ∙ ap (λ k. Some (k, Deep)) (sym h.0)
answer_of parse all line found later (DoubleName n name) e h = e ∙ ap (λ f. fault_or line f later) h.1 ∙ ap (λ k. Some (k, Double name)) (sym h.0)
answer_of parse all line found later (UnknownVar n name) e h = e ∙ ap (λ f. fault_or line f later) h.1 ∙ ap (λ k. Some (k, Unknown name)) (sym h.0)
answer_of parse all line found later (TooMany n) e h = e ∙ ap (λ f. fault_or line f later) h.1 ∙ ap (λ k. Some (k, Many)) (sym h.0)
answer_of parse all line found later NoTask e h = absurd h
answer_of parse all line found later OutOfMemory e h = tt

-- the first fault is that of this line
here_is : (parse : Parse) (lines : List Line) (i : ℕ) (line : Line) (entry : Entry) (c : Context) (draft : Draft) (found : Option LineFault) → i < length lines → line ≡ get_or lines i line → entry ≡ task_entry_of line → line_fault parse c entry.form ≡ found → Decide parse c draft (drop i lines) lines → first_task_fault parse [] (task_entries_of lines) ≡ fault_or entry.line found (fault_from parse (context_behind c entry.form) (task_entries_of (drop (i + 1) lines)))
here_is parse lines i line entry c draft found h g e f d =
    sym d.0 ∙ ap (fault_from parse c) (next_entry lines i line entry h g e) ∙ found_here parse c entry (task_entries_of (drop (i + 1) lines)) found f

-- a line that may not stand where it does
pub bad_answer : (lines : List Line) (i : ℕ) (line : Line) (entry : Entry) (c : Context) (draft : Draft) → i < length lines → line ≡ get_or lines i line → entry ≡ task_entry_of line → may_stand_at entry.form c.place ≡ false → Holds c draft (drop i lines) lines → (parse : Parse) → IsParse parse → IsTasksAnswer parse (task_entries_of lines) (Err (BadLine entry.line))
bad_answer lines i line entry c draft h g e may inv parse is =
    here_is parse lines i line entry c draft (Some Bad) h g e (bad_position parse c entry.form may) (inv.decide parse is)

-- a line with another fault
pub fault_answer : (lines : List Line) (i : ℕ) (line : Line) (entry : Entry) (c new : Context) (draft next : Draft) (fault : TaskFault) (answer : Result (Unit {0}) TaskFault) → i < length lines → line ≡ get_or lines i line → entry ≡ task_entry_of line → may_stand_at entry.form c.place ≡ true → ((parse : Parse) → IsParse parse → IsStep parse c new draft next entry answer) → answer ≡ Err fault → Holds c draft (drop i lines) lines → (parse : Parse) → IsParse parse → IsTasksAnswer parse (task_entries_of lines) (Err fault)
fault_answer lines i line entry c new draft next fault answer h g e may told err inv parse is =
    let found = form_fault parse c entry.form in
    answer_of parse (task_entries_of lines) entry.line found _ fault
    (here_is parse lines i line entry c draft found h g e (form_decides parse c entry.form found may refl) (inv.decide parse is)) (subst (IsStep parse c new draft next entry) err (told parse is))

-- all lines are read
pub all_read : (lines : List Line) (i : ℕ) (c : Context) (draft : Draft) (tasks : List RawTask) (vertices : List (List ℕ)) → i ≡ length lines → vertices ≡ c.vertices → tasks ≡ tasks_closed draft.tasks draft.task vertices → Holds c draft (drop i lines) lines → (parse : Parse) → IsParse parse → (first_task_fault parse [] (task_entries_of lines) ≡ None) × (c.vars ≡ vars_with [] (task_entries_of lines)) × (map raw_task_tree tasks ≡ tasks_of parse [] (task_entries_of lines))
all_read lines i c draft tasks vertices n v told inv parse is =
    let t : tasks ≡ tasks_closed draft.tasks draft.task c.vertices = told ∙ ap (tasks_closed draft.tasks draft.task) v in
    let gone : task_entries_of (drop i lines) ≡ [] = ap task_entries_of (none_left lines i n) in
    let d = inv.decide parse is in (
      sym d.0 ∙ ap (fault_from parse c) gone,
      sym (ap (vars_with c.vars) gone) ∙ d.1,
      ap (map raw_task_tree) t ∙ sym (append-nil (map raw_task_tree (tasks_closed draft.tasks draft.task c.vertices))) ∙ closed parse c.vars c.vertices draft.tasks draft.task [] ∙ sym (ap (finish parse c draft) gone) ∙ d.2,
    )

few_closed : (tasks : List RawTask) (task : OpenTask) (vertices : List (List ℕ)) → length (tasks_closed tasks task vertices) ≡ length tasks + open_count task
few_closed tasks Closed vertices = omega arith
few_closed tasks (Ste head name reset ant con weak) vertices = length-append tasks _
few_closed tasks (Gste head name reset edges edge) vertices = length-append tasks _

-- there are no more tasks than there may be
pub few_tasks : (c : Context) (draft : Draft) (tasks : List RawTask) (vertices : List (List ℕ)) (rest lines : List Line) → tasks ≡ tasks_closed draft.tasks draft.task vertices → Holds c draft rest lines → length tasks ≤ 256
few_tasks c draft tasks vertices rest lines t inv =
    let e : length tasks ≡ length draft.tasks + open_count draft.task = ap length t ∙ few_closed draft.tasks draft.task vertices in
    omega (arith, e, inv.counted, inv.room.names)

-- no task is spelled where none is read
pub none_read : (parse : Parse) (all : List Entry) (tasks : List RawTask) → length tasks ≡ 0 → map raw_task_tree tasks ≡ tasks_of parse [] all → tasks_of parse [] all ≡ []
none_read parse all [] z e = sym e
none_read parse all (task ∷ tasks) z e = absurd (omega (arith, z))

-- an answer by whatever the texts spell is one by what they do spell
pub some_read : (parse : Parse) (all : List Entry) (tasks : List RawTask) (count : ℕ) → count ≡ length tasks → (count ≡ 0 → ⊥) → map raw_task_tree tasks ≡ tasks_of parse [] all → tasks_of parse [] all ≡ [] → ⊥
some_read parse all [] count long some e none = some long
some_read parse all (task ∷ tasks) count long some e none = absurd (filled (e ∙ none))
  where
    filled : {X : Type 0} {x : X} {xs : List X} → x ∷ xs ≡ [] → ⊥
    filled e = cc

pub caused : (all : List Entry) (answer : Result RawTasks TaskFault) → ((parse : Parse) → IsParse parse → IsTasksAnswer parse all answer) → (parse : Parse) × IsParse parse × IsTasksAnswer parse all answer
caused all answer exact = (a_parse.0, a_parse.1, exact a_parse.0 a_parse.1)

-- a line by its form
pub at_form : (parse : Parse) (old new : Context) (before after : Draft) (line : ℕ) (form one : Form) (answer : Result (Unit {0}) TaskFault) → form ≡ one → IsStep parse old new before after (record { line = line; form = one }) answer → IsStep parse old new before after (record { line = line; form = form }) answer
at_form parse old new before after line form one answer e step = subst (λ f. IsStep parse old new before after (record { line = line; form = f }) answer) (sym e) step
