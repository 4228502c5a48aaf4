-- The order of refusals: the first of the texts is the first behind both files; at most one refusal is the first; what is reported
-- is not refused.
use Rattle.std.proofs.Common.{◌≡◌, ℕ, List, Bool, Option, None, Some, Result, Ok, Err, refl, ap, sym, ◌∙◌, inl, inr, subst}
use Rattle.std.specs.Prelude.{IsSomeAnd, MatchResult}
use Rattle.command_line.specs.Command.{Action, Command}
use Rattle.ste_io.specs.Outside.{FilesState, StoredFiles}
use Rattle.ste_program.specs.Answer.{IsStatedRefusal, WhyNoReport}
use Rattle.ste_program.specs.Command.{net_file, second_file}
use Rattle.ste_program.specs.Order.{AllSilent, IsFirstRefusal, OneRefusal, ReportedIsNotRefused, refusals, text_stages}
use Rattle.ste_program.specs.Report.{IsReport, IsWritten, text_at}
use Rattle.ste_program.specs.private.Made.{IsMade}
use Rattle.ste_program.specs.private.Texts.{AreTexts, OrMemory}
use Rattle.ste_program.specs.declared.refusal.File.TheVariants as file
use Rattle.ste_program.specs.declared.refusal.Refusal.{Refusal}
use Rattle.ste_program.proofs.Fetched.{all_names, asked, held_silent, of_held, of_text, read_told}
use Rattle.ste_program.proofs.Stages.{AllOnce, first_told, none_first, one_first}
use Rattle.ste_program.proofs.TextStages.{text_once, text_silent, text_told}

-- at most one refusal is the first of two texts that are held
one_in_texts : (action : Action) (steps : Option ℕ) (net second : Option (List ℕ)) (one other : Refusal) →
    IsSomeAnd net (λ net_text. IsSomeAnd second (λ second_text. IsFirstRefusal (text_stages action steps net_text second_text) one)) →
    IsSomeAnd net (λ net_text. IsSomeAnd second (λ second_text. IsFirstRefusal (text_stages action steps net_text second_text) other)) → one ≡ other
one_in_texts action steps None second one other f g = absurd f
one_in_texts action steps (Some net_text) None one other f g = absurd f
one_in_texts action steps (Some net_text) (Some second_text) one other f g = one_first (text_stages action steps net_text second_text) one other (text_once action steps net_text second_text) f g

same : (x one other : Refusal) → one ≡ x → other ≡ x → one ≡ other
same x one other f g = f ∙ sym g

all_once : (command : Option Command) (store : StoredFiles) → AllOnce (refusals command store)
all_once None store = ((λ one other f g. same _ one other f g), tt)
all_once (Some command) store = (
  (λ one other f g. same _ one other f.0 g.0),
  (
    (λ one other f g. same _ one other f.0 g.0),
    (
      (λ one other f g. same _ one other f.0 g.0),
      (
        (λ one other f g. same _ one other f.0 g.0),
        ((λ one other f g. one_in_texts command.action command.steps (text_at (net_file command.action) store) (text_at (second_file command.action) store) one other f g), tt),
      ),
    ),
  ),
)

-- at most one refusal is the first
pub one_refusal : OneRefusal
one_refusal command store one other f g = one_first (refusals command store) one other (all_once command store) f g

-- the first refusal of both texts is the first
found_in_texts : (command : Command) (before after : FilesState) (net_text second_text : List ℕ) (found : Refusal) → AreTexts command before after net_text second_text →
    IsFirstRefusal (text_stages command.action command.steps net_text second_text) found → IsStatedRefusal (Some command) before after found
found_in_texts command before after net_text second_text found texts first = record {
  kind = first_told (text_stages command.action command.steps net_text second_text) found (text_told command.action command.steps net_text second_text) first;
  first = λ store told.
      let net = read_told (net_file command.action) before.holds net_text texts.net_read store told in
      let second = read_told (second_file command.action) before.holds second_text texts.second_read store told in
      let one = held_silent file.Net command.action store net_text net texts.net_small in
      let two = held_silent file.Second command.action store second_text second texts.second_small in
      inr (
        one.0,
        inr (
          one.1,
          inr (
            two.0,
            inr (
              two.1,
              inl (of_held (λ text. IsSomeAnd (text_at (second_file command.action) store) (λ t. IsFirstRefusal (text_stages command.action command.steps text t) found)) (text_at (net_file command.action) store) net_text net
                  (of_held (λ t. IsFirstRefusal (text_stages command.action command.steps net_text t) found) (text_at (second_file command.action) store) second_text second first)),
            ),
          ),
        ),
      );
  grounded = inr (net_text, second_text, texts.net_read, texts.second_read, texts.net_small, texts.second_small, first);
  asking = (2, texts.asking ∙ ap (asked before) (all_names (net_file command.action) (second_file command.action)));
}

-- the texts that were fetched are refused
unreported : (command : Command) (before after : FilesState) (net_text second_text : List ℕ) (found : Refusal) → AreTexts command before after net_text second_text →
    OrMemory (IsFirstRefusal (text_stages command.action command.steps net_text second_text)) found → WhyNoReport (Some command) before after found
unreported command before after net_text second_text found texts (inl memory) =
    inr (inl (memory, (2, texts.asking ∙ ap (asked before) (all_names (net_file command.action) (second_file command.action)))))
unreported command before after net_text second_text found texts (inr first) = inr (inr (found_in_texts command before after net_text second_text found texts first))

-- a report is made of them
made_of : (command : Command) (before after : FilesState) (net_text second_text : List ℕ) (passes : Bool) (bytes : List ℕ) → AreTexts command before after net_text second_text →
    IsWritten command.action command net_text second_text passes bytes → IsMade (Some command) before after passes bytes
made_of command before after net_text second_text passes bytes texts written = record {
  report = record {
    asked = command;
    is = refl;
    net_text = net_text;
    second_text = second_text;
    net_read = texts.net_read;
    second_read = texts.second_read;
    net_small = texts.net_small;
    second_small = texts.second_small;
    written = written;
  };
  asking = texts.asking;
}

-- a report, or why there is none, with the texts that were fetched for it
pub made_or_not : {T : Type 0} (result : Result T Refusal) (passes : T → Bool) (bytes : T → List ℕ) (given : Option Command) (command : Command) (before after : FilesState) (net_text second_text : List ℕ) →
    given ≡ Some command → AreTexts command before after net_text second_text →
    MatchResult result (λ made. IsWritten command.action command net_text second_text (passes made) (bytes made)) (λ found. OrMemory (IsFirstRefusal (text_stages command.action command.steps net_text second_text)) found) →
    MatchResult result (λ made. IsMade given before after (passes made) (bytes made)) (λ found. WhyNoReport given before after found)
made_or_not (Ok made) passes bytes given command before after net_text second_text is texts h =
    subst (λ (c : Option Command). IsMade c before after (passes made) (bytes made)) (sym is) (made_of command before after net_text second_text (passes made) (bytes made) texts h)
made_or_not (Err found) passes bytes given command before after net_text second_text is texts h =
    subst (λ (c : Option Command). WhyNoReport c before after found) (sym is) (unreported command before after net_text second_text found texts h)

-- what is reported is not refused
reported_silent_of : (command : Command) (files : FilesState) (store : StoredFiles) (passes : Bool) (bytes : List ℕ) → files.holds ≡ Some store → (report : IsReport (Some command) files passes bytes) → report.asked ≡ command → AllSilent (refusals (Some report.asked) store)
reported_silent_of command files store passes bytes told r is =
    let c = r.asked in
    let net = read_told (net_file c.action) files.holds r.net_text r.net_read store told in
    let second = read_told (second_file c.action) files.holds r.second_text r.second_read store told in
    let one = held_silent file.Net c.action store r.net_text net r.net_small in
    let two = held_silent file.Second c.action store r.second_text second r.second_small in (
      one.0,
      (
        one.1,
        (
          two.0,
          (
            two.1,
            (
              (λ other h. none_first (text_stages c.action c.steps r.net_text r.second_text) other (text_silent c.action c r.net_text r.second_text passes bytes r.written)
                  (of_text (λ t. IsFirstRefusal (text_stages c.action c.steps r.net_text t) other) (text_at (second_file c.action) store) r.second_text second
                  (of_text (λ text. IsSomeAnd (text_at (second_file c.action) store) (λ t. IsFirstRefusal (text_stages c.action c.steps text t) other)) (text_at (net_file c.action) store) r.net_text net h))),
              tt,
            ),
          ),
        ),
      ),
    )

pub reported_silent : ReportedIsNotRefused
reported_silent None files store passes bytes told report = absurd (cc (report.is))
reported_silent (Some command) files store passes bytes told report =
    let same : report.asked ≡ command = let both : Some command ≡ Some report.asked = report.is in cc in
    subst (λ (c : Command). AllSilent (refusals (Some c) store)) same (reported_silent_of command files store passes bytes told report same)
