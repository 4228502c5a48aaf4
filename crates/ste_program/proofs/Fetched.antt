-- The texts of a command: which names were asked for, and which refusal is the first where a file is not available.
use Rattle.std.proofs.Common.{◌≡◌, ◌<◌, ◌≤◌, ℕ, List, [], ◌∷◌, ◌++◌, length, take, Option, None, Some, refl, ap, sym, ◌∙◌, arith, inl, inr, subst, append_assoc, append-nil}
use Rattle.std.specs.Prelude.{IsSomeAnd, option_to_list}
use Rattle.std.specs.FinMap.{get}
use Rattle.command_line.specs.Command.{Action, Command}
use Rattle.ste_io.specs.Causes.{Rose}
use Rattle.ste_io.specs.Outside.{FilesState, IsTooLarge, StoredFiles, asked_for, with_name, with_names}
use Rattle.ste_program.specs.Answer.{AskedSome, WhyNoReport, status_of}
use Rattle.ste_program.specs.Command.{file_of, files_of, files_up_to, net_file, second_file}
use Rattle.ste_program.specs.Order.{AllSilent, IsFirstRefusal, is_large, is_missing, refusals, stages_before}
use Rattle.ste_program.specs.Report.{IsRead, greatest, text_at}
use Rattle.ste_program.specs.private.Texts.{FileFails, IsAvailable, WhyNoFile}
use Rattle.ste_program.specs.declared.refusal.File.{File}
use Rattle.ste_program.specs.declared.refusal.File.TheVariants as file
use Rattle.ste_program.specs.declared.refusal.Refusal.{Refusal}

-- the files, asked for names
abbrev pub asked : FilesState → List (List ℕ) → FilesState
asked before names = record before { asked = with_names before.asked names }

with_none : (names : Option (List (List ℕ))) → names ≡ with_names names []
with_none None = refl
with_none (Some names) = ap Some (sym (append-nil names))

with_one_more : (names : Option (List (List ℕ))) (some : List (List ℕ)) (name : List ℕ) → with_name (with_names names some) name ≡ with_names names (some ++ name ∷ [])
with_one_more None some name = refl
with_one_more (Some names) some name = ap Some (append_assoc names some (name ∷ []))

with_more : (names : Option (List (List ℕ))) (some more : List (List ℕ)) → with_names (with_names names some) more ≡ with_names names (some ++ more)
with_more None some more = refl
with_more (Some names) some more = ap Some (append_assoc names some more)

abbrev with_asked : FilesState → Option (List (List ℕ)) → FilesState
with_asked before names = record before { asked = names }

-- no names asked for is nothing asked for
pub asked_none : (before : FilesState) → before ≡ asked before []
asked_none before = ap (with_asked before) (with_none before.asked)

-- one name more
pub asked_more : (before : FilesState) (names : List (List ℕ)) (name : List ℕ) → asked_for (asked before names) name ≡ asked before (names ++ name ∷ [])
asked_more before names name = ap (with_asked before) (with_one_more before.asked names name)

-- the names of the first file are the first names, and so are those of both
pub first_names : (one other : Option (List ℕ)) → (n : ℕ) × (option_to_list one ≡ take n (option_to_list one ++ option_to_list other))
first_names None other = (0, refl)
first_names (Some name) other = (1, refl)

pub all_names : (one other : Option (List ℕ)) → option_to_list one ++ option_to_list other ≡ take 2 (option_to_list one ++ option_to_list other)
all_names None None = refl
all_names None (Some second) = refl
all_names (Some name) None = refl
all_names (Some name) (Some second) = refl

-- what is read, where it is known
pub read_told : (name : Option (List ℕ)) (holds : Option StoredFiles) (text : List ℕ) → IsRead holds name text → (store : StoredFiles) → holds ≡ Some store → text_at name store ≡ Some text
read_told name None text read store told = absurd (cc told)
read_told name (Some held) text read store told = subst (λ (s : StoredFiles). text_at name s ≡ Some text) (let same : held ≡ store = cc in same) read

large_told : (name : List ℕ) (holds : Option StoredFiles) → IsTooLarge holds name greatest → (store : StoredFiles) → holds ≡ Some store → IsSomeAnd (get store name) (λ bytes. greatest < length bytes)
large_told name None large store told = absurd (cc told)
large_told name (Some held) large store told = subst (λ (s : StoredFiles). IsSomeAnd (get s name) (λ bytes. greatest < length bytes)) (let same : held ≡ store = cc in same) large

-- what holds of the bytes that are read
pub of_held : (P : List ℕ → Type 0) (held : Option (List ℕ)) (text : List ℕ) → held ≡ Some text → P text → IsSomeAnd held P
of_held P held text e h = subst (λ (found : Option (List ℕ)). IsSomeAnd found P) (sym e) h

pub of_text : (P : List ℕ → Type 0) (held : Option (List ℕ)) (text : List ℕ) → held ≡ Some text → IsSomeAnd held P → P text
of_text P held text e h = subst (λ (found : Option (List ℕ)). IsSomeAnd found P) e h

not_missing : (held : Option (List ℕ)) (P : List ℕ → Type 0) → IsSomeAnd held P → held ≡ None → ⊥
not_missing held P some none = subst (λ (found : Option (List ℕ)). IsSomeAnd found P) none some

-- a file that is read is neither missing nor too large
pub held_silent : (which : File) (action : Action) (store : StoredFiles) (text : List ℕ) → text_at (file_of action which) store ≡ Some text → length text ≤ greatest →
    ((other : Refusal) → ¬ is_missing which action store other) × ((other : Refusal) → ¬ is_large which action store other)
held_silent which action store text held small = (
  (λ other h. let none = h.1 in absurd (cc (held, none))),
  (λ other h. let long : greatest < length text = of_text (λ bytes. greatest < length bytes) (text_at (file_of action which) store) text held h.1 in absurd (omega (arith, long, small))),
)

-- What a step that asks for a file behind names that were asked for has to know of it.
record IsNext (command : Command) (before between : FilesState) (which : File) (names : List (List ℕ)) : Type 0 where
  pub before_is : between ≡ asked before names
  pub some : (n : ℕ) × (names ≡ take n (files_of (Some command)))
  pub up_to : names ++ option_to_list (file_of command.action which) ≡ files_up_to command which
  pub all : (n : ℕ) × (files_up_to command which ≡ take n (files_of (Some command)))
  pub reached : (store : StoredFiles) → before.holds ≡ Some store → AllSilent (stages_before which command store)
  pub placed : (store : StoredFiles) → before.holds ≡ Some store → (found : Refusal) → is_large which command.action store found →
      ((other : Refusal) → ¬ is_missing which command.action store other) → IsFirstRefusal (refusals (Some command) store) found

-- the file cannot be fetched
fails : (command : Command) (before between after : FilesState) (which : File) (names : List (List ℕ)) (found : Refusal) → IsNext command before between which names →
    WhyNoFile which (file_of command.action which) between after found → WhyNoReport (Some command) before after found
fails command before between after which names found next (name, named, why) =
    let up_to : names ++ name ∷ [] ≡ files_up_to command which = ap (λ (o : Option (List ℕ)). names ++ option_to_list o) (sym named) ∙ next.up_to in
    let asking : asked_for between name ≡ asked before (files_up_to command which) =
    ap (λ (s : FilesState). asked_for s name) next.before_is ∙ (asked_more before names name ∙ ap (asked before) up_to) in
    let some_asked : (s : FilesState) → s ≡ asked_for between name → AskedSome (Some command) before s =
    λ s e. (next.all.0, e ∙ (asking ∙ ap (asked before) next.all.1)) in
    by up_to asking some_asked why
  where
    by : names ++ name ∷ [] ≡ files_up_to command which → asked_for between name ≡ asked before (files_up_to command which) → ((s : FilesState) → s ≡ asked_for between name → AskedSome (Some command) before s) →
        FileFails which name between after found → WhyNoReport (Some command) before after found
    by up_to asking some_asked (inl (memory, inl same)) = inr (inl (memory, some_asked after same))
    by up_to asking some_asked (inl (memory, inr same)) = inr (inl (memory, (next.some.0, same ∙ (next.before_is ∙ ap (asked before) next.some.1))))
    by up_to asking some_asked (inr (inl (is, failed))) = inl (record {
      asked = command;
      is = refl;
      which = which;
      found_is = is;
      failed = record {
        name = name;
        named = named;
        same = failed.same ∙ ap (λ (s : FilesState). s.holds) next.before_is;
        asking = failed.asking ∙ ap (λ (s : FilesState). s.asked) asking;
        rose = subst (λ (s : FilesState). Rose s.faults after.faults) next.before_is failed.rose;
        later = subst (λ (s : FilesState). s.faults ≤ after.faults) next.before_is failed.later;
        reached = next.reached;
      };
    })
    by up_to asking some_asked (inr (inr (is, large, same))) = inr (inr (record {
      kind = ap status_of is;
      first = λ store told.
          let held : IsSomeAnd (text_at (file_of command.action which) store) (λ bytes. greatest < length bytes) =
          subst (λ (o : Option (List ℕ)). IsSomeAnd (text_at o store) (λ bytes. greatest < length bytes)) (sym named)
          (large_told name between.holds large store (ap (λ (s : FilesState). s.holds) next.before_is ∙ told)) in
          next.placed store told found (is, held) (λ other h. not_missing (text_at (file_of command.action which) store) (λ bytes. greatest < length bytes) held h.1);
      grounded = inl (which, name, named, is, subst (λ (s : FilesState). IsTooLarge s.holds name greatest) next.before_is large);
      asking = some_asked after same;
    }))

-- the netlist's file cannot be fetched
pub first_fails : (command : Command) (before after : FilesState) (found : Refusal) → WhyNoFile file.Net (net_file command.action) before after found → WhyNoReport (Some command) before after found
first_fails command before after found why =
    fails command before before after file.Net [] found (record {
      before_is = asked_none before;
      some = (0, refl);
      up_to = refl;
      all = first_names (net_file command.action) (second_file command.action);
      reached = λ store told. tt;
      placed = λ store told found large not_missing. inr (not_missing, inl large);
    }) why

-- the second file cannot be fetched, behind the netlist's, which is available
pub second_fails : (command : Command) (before between after : FilesState) (text : List ℕ) (found : Refusal) → IsAvailable (net_file command.action) before between text →
    WhyNoFile file.Second (second_file command.action) between after found → WhyNoReport (Some command) before after found
second_fails command before between after text found net why =
    let net_silent = λ (store : StoredFiles) (told : before.holds ≡ Some store).
    held_silent file.Net command.action store text (read_told (net_file command.action) before.holds text net.read store told) net.small in
    fails command before between after file.Second (option_to_list (net_file command.action)) found (record {
      before_is = net.asking;
      some = first_names (net_file command.action) (second_file command.action);
      up_to = refl;
      all = (2, all_names (net_file command.action) (second_file command.action));
      reached = λ store told. ((net_silent store told).0, ((net_silent store told).1, tt));
      placed = λ store told found large not_missing.
          inr ((net_silent store told).0, inr ((net_silent store told).1, inr (not_missing, inl large)));
    }) why
