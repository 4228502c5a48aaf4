-- How a run ends, over plain variables: what a status says, and what follows for all of them.
use Rattle.std.proofs.Common.{◌≡◌, ◌≤◌, ℕ, Bool, true, false, cond, List, Option, None, Some, refl, ap, sym, ◌∙◌, subst, take, inl, inr, arith}
use Rattle.std.specs.Prelude.{◌≢◌, ◌⊎◌, IfSome, String}
use Rattle.std.specs.declared.alloc.Global.{Global}
use Rattle.command_line.specs.Bounds.{IsBounded}
use Rattle.command_line.proofs.Ranges.{commands_are_bounded}
use Rattle.command_line.specs.Command.{Command, command_of}
use Rattle.ste_io.specs.Outside.{FilesState, SinkState, StoredFiles, took, with_names}
use Rattle.ste_program.specs.Answer.{AskedSome, BrokeOff, IsDecided, NoneRose, Reported, WasOutOfMemory, WasFaulted, WasRefused, WentOut, WhyNoReport, status_of}
use Rattle.ste_program.specs.Command.{files_of, files_up_to, net_file, second_file}
use Rattle.ste_program.specs.Message.{cannot_write, message_of, out_of_memory}
use Rattle.ste_program.specs.Order.{IsFirstRefusal, refusals}
use Rattle.ste_program.specs.Report.{IsReport}
use Rattle.ste_program.specs.private.Endings.{IsEnded, IsMessageWritten}
use Rattle.ste_program.specs.private.Made.{IsMade}
use Rattle.ste_program.specs.declared.refusal.File.{File}
use Rattle.ste_program.specs.declared.refusal.File.TheVariants as file
use Rattle.ste_program.specs.declared.refusal.Refusal.{Refusal}
use Rattle.ste_program.specs.declared.run.Status.{Status}
use Rattle.ste_program.specs.declared.run.Status.TheVariants.{Passed, NotPassed, Refused, Faulted, NoMemory}
use Rattle.ste_program.proofs.Fetched.{all_names, first_names}
use Rattle.ste_program.proofs.Refusals.{one_refusal, reported_silent}
use Rattle.ste_program.proofs.Stages.{none_first}

-- which names were asked for
abbrev Names : Option Command → FilesState → FilesState → Type 0
Names command files files' = (n : ℕ) × (files'.asked ≡ with_names files.asked (take n (files_of command)))

abbrev asked_of : FilesState → Option (List (List ℕ))
asked_of files = files.asked

pub made_named : (command : Option Command) (files files' : FilesState) (passes : Bool) (bytes : List ℕ) → IsMade command files files' passes bytes → Names command files files'
made_named None files files' passes bytes made = (0, ap asked_of made.asking)
made_named (Some command) files files' passes bytes made =
    (2, ap asked_of made.asking ∙ ap (with_names files.asked) (all_names (net_file command.action) (second_file command.action)))

-- the names up to a file's are the first names
up_to : (command : Command) (which : File) → (n : ℕ) × (files_up_to command which ≡ take n (files_of (Some command)))
up_to command file.Net = first_names (net_file command.action) (second_file command.action)
up_to command file.Second = (2, all_names (net_file command.action) (second_file command.action))

some_named : (command : Option Command) (files files' : FilesState) → AskedSome command files files' → Names command files files'
some_named command files files' some = (some.0, ap asked_of some.1)

pub why_named : (command : Option Command) (files files' : FilesState) (found : Refusal) → WhyNoReport command files files' found → Names command files files'
why_named command files files' found (inl unread) =
    let names = up_to unread.asked unread.which in
    (names.0, unread.failed.asking ∙ (ap (with_names files.asked) names.1 ∙ ap (λ (c : Option Command). with_names files.asked (take names.0 (files_of c))) (sym unread.is)))
why_named command files files' found (inr (inl memory)) = some_named command files files' memory.1
why_named command files files' found (inr (inr refused)) = some_named command files files' refused.asking

-- a count that did not move did not fall
same_count : (before after : ℕ) → after ≡ before → before ≤ after
same_count before after e = omega (arith, e)

-- no count of the files fell
pub made_later : (command : Option Command) (files files' : FilesState) (passes : Bool) (bytes : List ℕ) → IsMade command files files' passes bytes → files.faults ≤ files'.faults
made_later command files files' passes bytes made = same_count files.faults files'.faults (ap (λ (s : FilesState). s.faults) made.asking)

pub why_later : (command : Option Command) (files files' : FilesState) (found : Refusal) → WhyNoReport command files files' found → files.faults ≤ files'.faults
why_later command files files' found (inl unread) = unread.failed.later
why_later command files files' found (inr (inl memory)) = same_count files.faults files'.faults (ap (λ (s : FilesState). s.faults) memory.1.1)
why_later command files files' found (inr (inr refused)) = same_count files.faults files'.faults (ap (λ (s : FilesState). s.faults) refused.asking.1)

-- what the files hold did not change
pub made_holds : (command : Option Command) (files files' : FilesState) (passes : Bool) (bytes : List ℕ) → IsMade command files files' passes bytes → files'.holds ≡ files.holds
made_holds command files files' passes bytes made = ap (λ (s : FilesState). s.holds) made.asking

pub why_holds : (command : Option Command) (files files' : FilesState) (found : Refusal) → WhyNoReport command files files' found → files'.holds ≡ files.holds
why_holds command files files' found (inl unread) = unread.failed.same
why_holds command files files' found (inr (inl memory)) = ap (λ (s : FilesState). s.holds) memory.1.1
why_holds command files files' found (inr (inr refused)) = ap (λ (s : FilesState). s.holds) refused.asking.1

-- what is written of a report, whatever the status
abbrev Writes : Bool → List ℕ → Status → SinkState → SinkState → SinkState → SinkState → Type 0
Writes passes bytes result out out' err err' =
    (result ≢ Faulted → WentOut bytes out out' × (err' ≡ err)) × (result ≢ Faulted → result ≡ cond passes Passed NotPassed)

status_passed : (passes : Bool) → Passed ≡ cond passes Passed NotPassed → passes ≡ true
status_passed true e = refl
status_passed false e = absurd (cc e)

status_not_passed : (passes : Bool) → NotPassed ≡ cond passes Passed NotPassed → passes ≡ false
status_not_passed true e = absurd (cc e)
status_not_passed false e = refl

-- every task passes, and the report was written
pub all_passed : (command : Option Command) (files files' : FilesState) (out out' err err' : SinkState) (passes : Bool) (bytes : List ℕ) (result : Status) → IsMade command files files' passes bytes →
    Writes passes bytes result out out' err err' → result ≡ Passed → Reported command true files files' out out' err err'
all_passed command files files' out out' err err' passes bytes result made writes e =
    let whole : result ≢ Faulted = λ fault. absurd (cc (fault, e)) in
    let written = writes.0 whole in
    subst (λ (all : Bool). Reported command all files files' out out' err err') (status_passed passes (sym e ∙ writes.1 whole))
    (record { bytes = bytes; report = made.report; asking = made.asking; written = written.0; silent = written.1 })

-- some task does not, and the report was written
pub not_all_passed : (command : Option Command) (files files' : FilesState) (out out' err err' : SinkState) (passes : Bool) (bytes : List ℕ) (result : Status) → IsMade command files files' passes bytes →
    Writes passes bytes result out out' err err' → result ≡ NotPassed → Reported command false files files' out out' err err'
not_all_passed command files files' out out' err err' passes bytes result made writes e =
    let whole : result ≢ Faulted = λ fault. absurd (cc (fault, e)) in
    let written = writes.0 whole in
    subst (λ (all : Bool). Reported command all files files' out out' err err') (status_not_passed passes (sym e ∙ writes.1 whole))
    (record { bytes = bytes; report = made.report; asking = made.asking; written = written.0; silent = written.1 })

-- the output failed within the report
pub report_broke : (command : Option Command) (files files' : FilesState) (out out' err err' : SinkState) (passes : Bool) (bytes : List ℕ) → IsMade command files files' passes bytes →
    BrokeOff bytes out out' × (WentOut cannot_write err err' ⊎ BrokeOff cannot_write err err') → WasFaulted command files files' out out' err err'
report_broke command files files' out out' err err' passes bytes made broken =
    inr (inl (record { passes = passes; bytes = bytes; report = made.report; asking = made.asking; broken = broken.0; told = broken.1 }))

-- a refusal that could not be reported, or of a file that could not be read
pub ended_faulted : (command : Option Command) (files files' : FilesState) (out err err' : SinkState) (found : Refusal) (result : Status) → WhyNoReport command files files' found → IsEnded command found result err err' → result ≡ Faulted → WasFaulted command files files' out out err err'
ended_faulted command files files' out err err' found result (inl unread) (inl (inl told)) e =
    inl (record {
      asked = unread.asked;
      is = unread.is;
      which = unread.which;
      failed = unread.failed;
      untouched = refl;
      told = inl (subst (λ (f : Refusal). WentOut (message_of command f) err err') unread.found_is told.1);
    })
ended_faulted command files files' out err err' found result (inr (inl memory)) (inl (inl told)) e =
    let kind : status_of found ≡ NoMemory = ap status_of memory.0 in
    let is = told.0 in absurd (cc (kind, is, e))
ended_faulted command files files' out err err' found result (inr (inr refused)) (inl (inl told)) e =
    let kind = refused.kind in
    let is = told.0 in absurd (cc (kind, is, e))
ended_faulted command files files' out err err' found result why (inl (inr broke)) e =
    inr (inr (record { message = message_of command found; cause = inr (found, why, refl); untouched = refl; broken = broke.1 }))
ended_faulted command files files' out err err' found result why (inr (inl told)) e = let is = told.0 in absurd (cc (is, e))
ended_faulted command files files' out err err' found result why (inr (inr broke)) e =
    inr (inr (record { message = out_of_memory; cause = inl refl; untouched = refl; broken = broke.1 }))

-- a refusal that was reported
pub ended_refused : (command : Option Command) (files files' : FilesState) (out err err' : SinkState) (found : Refusal) (result : Status) → WhyNoReport command files files' found → IsEnded command found result err err' → result ≡ Refused → WasRefused command files files' out out err err'
ended_refused command files files' out err err' found result (inl unread) (inl (inl told)) e =
    let kind : status_of found ≡ Faulted = ap status_of unread.found_is in
    let is = told.0 in absurd (cc (kind, is, e))
ended_refused command files files' out err err' found result (inr (inl memory)) (inl (inl told)) e =
    let kind : status_of found ≡ NoMemory = ap status_of memory.0 in
    let is = told.0 in absurd (cc (kind, is, e))
ended_refused command files files' out err err' found result (inr (inr refused)) (inl (inl told)) e = record { found = found; why = refused; untouched = refl; told = told.1 }
ended_refused command files files' out err err' found result why (inl (inr broke)) e = let is = broke.0 in absurd (cc (is, e))
ended_refused command files files' out err err' found result why (inr (inl told)) e = let is = told.0 in absurd (cc (is, e))
ended_refused command files files' out err err' found result why (inr (inr broke)) e = let is = broke.0 in absurd (cc (is, e))

-- that memory is out was reported
pub ended_out_of_memory : (command : Option Command) (files files' : FilesState) (out err err' : SinkState) (found : Refusal) (result : Status) → WhyNoReport command files files' found → IsEnded command found result err err' → result ≡ NoMemory → WasOutOfMemory out out err err'
ended_out_of_memory command files files' out err err' found result (inl unread) (inl (inl told)) e =
    let kind : status_of found ≡ Faulted = ap status_of unread.found_is in
    let is = told.0 in absurd (cc (kind, is, e))
ended_out_of_memory command files files' out err err' found result (inr (inl memory)) (inl (inl told)) e =
    record { untouched = refl; told = subst (λ (f : Refusal). WentOut (message_of command f) err err') memory.0 told.1 }
ended_out_of_memory command files files' out err err' found result (inr (inr refused)) (inl (inl told)) e =
    let kind = refused.kind in
    let is = told.0 in absurd (cc (kind, is, e))
ended_out_of_memory command files files' out err err' found result why (inl (inr broke)) e = let is = broke.0 in absurd (cc (is, e))
ended_out_of_memory command files files' out err err' found result why (inr (inl told)) e = record { untouched = refl; told = told.1 }
ended_out_of_memory command files files' out err err' found result why (inr (inr broke)) e = let is = broke.0 in absurd (cc (is, e))

-- the status that goes with a refusal is none of a report
kind_of : (command : Option Command) (files files' : FilesState) (found : Refusal) → WhyNoReport command files files' found → (status_of found ≡ Faulted) ⊎ ((status_of found ≡ NoMemory) ⊎ (status_of found ≡ Refused))
kind_of command files files' found (inl unread) = inl (ap status_of unread.found_is)
kind_of command files files' found (inr (inl memory)) = inr (inl (ap status_of memory.0))
kind_of command files files' found (inr (inr refused)) = inr (inr refused.kind)

no_pass : (kind result : Status) → (kind ≡ Faulted) ⊎ ((kind ≡ NoMemory) ⊎ (kind ≡ Refused)) → result ≡ kind → result ≡ Passed → ⊥
no_pass kind result (inl k) is e = absurd (cc (k, is, e))
no_pass kind result (inr (inl k)) is e = absurd (cc (k, is, e))
no_pass kind result (inr (inr k)) is e = absurd (cc (k, is, e))

no_failure : (kind result : Status) → (kind ≡ Faulted) ⊎ ((kind ≡ NoMemory) ⊎ (kind ≡ Refused)) → result ≡ kind → result ≡ NotPassed → ⊥
no_failure kind result (inl k) is e = absurd (cc (k, is, e))
no_failure kind result (inr (inl k)) is e = absurd (cc (k, is, e))
no_failure kind result (inr (inr k)) is e = absurd (cc (k, is, e))

-- a refusal is no report
pub ended_not_passed : (command : Option Command) (files files' : FilesState) (err err' : SinkState) (found : Refusal) (result : Status) → WhyNoReport command files files' found → IsEnded command found result err err' → result ≡ Passed → ⊥
ended_not_passed command files files' err err' found result why (inl (inl told)) e = no_pass (status_of found) result (kind_of command files files' found why) told.0 e
ended_not_passed command files files' err err' found result why (inl (inr broke)) e = let is = broke.0 in absurd (cc (is, e))
ended_not_passed command files files' err err' found result why (inr (inl told)) e = let is = told.0 in absurd (cc (is, e))
ended_not_passed command files files' err err' found result why (inr (inr broke)) e = let is = broke.0 in absurd (cc (is, e))

pub ended_not_failed : (command : Option Command) (files files' : FilesState) (err err' : SinkState) (found : Refusal) (result : Status) → WhyNoReport command files files' found → IsEnded command found result err err' → result ≡ NotPassed → ⊥
ended_not_failed command files files' err err' found result why (inl (inl told)) e = no_failure (status_of found) result (kind_of command files files' found why) told.0 e
ended_not_failed command files files' err err' found result why (inl (inr broke)) e = let is = broke.0 in absurd (cc (is, e))
ended_not_failed command files files' err err' found result why (inr (inl told)) e = let is = told.0 in absurd (cc (is, e))
ended_not_failed command files files' err err' found result why (inr (inr broke)) e = let is = broke.0 in absurd (cc (is, e))

-- that memory is out was reported
pub out_of_memory_written : (out err err' : SinkState) (result : Status) → IsMessageWritten out_of_memory NoMemory result err err' → result ≡ NoMemory → WasOutOfMemory out out err err'
out_of_memory_written out err err' result (inl told) e = record { untouched = refl; told = told.1 }
out_of_memory_written out err err' result (inr broke) e = let is = broke.0 in absurd (cc (is, e))

went_later : (bytes : List ℕ) (sink sink' : SinkState) → WentOut bytes sink sink' → sink.faults ≤ sink'.faults
went_later bytes sink sink' e = same_count sink.faults sink'.faults (ap (λ (s : SinkState). s.faults) e)

told_later : (bytes : List ℕ) (sink sink' : SinkState) → WentOut bytes sink sink' ⊎ BrokeOff bytes sink sink' → sink.faults ≤ sink'.faults
told_later bytes sink sink' (inl went) = went_later bytes sink sink' went
told_later bytes sink sink' (inr broke) = broke.2.later

same_sink : (sink sink' : SinkState) → sink' ≡ sink → sink.faults ≤ sink'.faults
same_sink sink sink' e = same_count sink.faults sink'.faults (ap (λ (s : SinkState). s.faults) e)

fault_later : (command : Option Command) (files files' : FilesState) (out out' err err' : SinkState) → WasFaulted command files files' out out' err err' → (out.faults ≤ out'.faults) × (err.faults ≤ err'.faults)
fault_later command files files' out out' err err' (inl read) = (same_sink out out' read.untouched, told_later _ err err' read.told)
fault_later command files files' out out' err err' (inr (inl fault)) = (fault.broken.2.later, told_later cannot_write err err' fault.told)
fault_later command files files' out out' err err' (inr (inr fault)) = (same_sink out out' fault.untouched, fault.broken.2.later)

reported_later : (command : Option Command) (passes : Bool) (files files' : FilesState) (out out' err err' : SinkState) → Reported command passes files files' out out' err err' → (out.faults ≤ out'.faults) × (err.faults ≤ err'.faults)
reported_later command passes files files' out out' err err' r = (went_later r.bytes out out' r.written, same_sink err err' r.silent)

-- no count of the sinks fell
pub sinks_later : (command : Option Command) (files files' : FilesState) (out out' err err' : SinkState) (result : Status) →
    (result ≡ Passed → Reported command true files files' out out' err err') → (result ≡ NotPassed → Reported command false files files' out out' err err') →
    (result ≡ Refused → WasRefused command files files' out out' err err') → (result ≡ Faulted → WasFaulted command files files' out out' err err') → (result ≡ NoMemory → WasOutOfMemory out out' err err') →
    (out.faults ≤ out'.faults) × (err.faults ≤ err'.faults)
sinks_later command files files' out out' err err' Passed a b c d e = reported_later command true files files' out out' err err' (a refl)
sinks_later command files files' out out' err err' NotPassed a b c d e = reported_later command false files files' out out' err err' (b refl)
sinks_later command files files' out out' err err' Refused a b c d e = let r = c refl in (same_sink out out' r.untouched, went_later _ err err' r.told)
sinks_later command files files' out out' err err' Faulted a b c d e = fault_later command files files' out out' err err' (d refl)
sinks_later command files files' out out' err err' NoMemory a b c d e = let r = e refl in (same_sink out out' r.untouched, went_later _ err err' r.told)

-- what a report is on is not refused
report_silent : (command : Option Command) (files : FilesState) (passes : Bool) (bytes : List ℕ) (store : StoredFiles) (found : Refusal) → IsReport command files passes bytes → files.holds ≡ Some store → IsFirstRefusal (refusals command store) found → ⊥
report_silent command files passes bytes store found report told first =
    none_first (refusals command store) found (reported_silent command files store passes bytes told report) first

some_rose : (command : Option Command) (files files' : FilesState) (out out' err err' : SinkState) → WasFaulted command files files' out out' err err' → NoneRose files files' out out' err err' → ⊥
some_rose command files files' out out' err err' (inl read) none = none.0 read.failed.rose
some_rose command files files' out out' err err' (inr (inl fault)) none = none.1 fault.broken.2.rose
some_rose command files files' out out' err err' (inr (inr fault)) none = none.2 fault.broken.2.rose

-- where no count rose, the first refusal decides
pub decided : (command : Option Command) (files files' : FilesState) (out out' err err' : SinkState) (result : Status) →
    (result ≡ Passed → Reported command true files files' out out' err err') → (result ≡ NotPassed → Reported command false files files' out out' err err') →
    (result ≡ Refused → WasRefused command files files' out out' err err') → (result ≡ Faulted → WasFaulted command files files' out out' err err') →
    NoneRose files files' out out' err err' → IsDecided command files result err err'
decided command files files' out out' err err' Passed a b c d none = let r = a refl in record {
  refused = λ store told found first. absurd (report_silent command files true r.bytes store found r.report told first);
  reported = λ store told silent. inl refl;
}
decided command files files' out out' err err' NotPassed a b c d none = let r = b refl in record {
  refused = λ store told found first. absurd (report_silent command files false r.bytes store found r.report told first);
  reported = λ store told silent. inr (inl refl);
}
decided command files files' out out' err err' Refused a b c d none = let r = c refl in record {
  refused = λ store told found first.
      let one = one_refusal command store r.found found (r.why.first store told) first in
      inl (sym r.why.kind ∙ ap status_of one, r.told ∙ ap (λ (f : Refusal). took err (message_of command f)) one);
  reported = λ store told silent. absurd (none_first (refusals command store) r.found silent (r.why.first store told));
}
decided command files files' out out' err err' Faulted a b c d none = absurd (some_rose command files files' out out' err err' (d refl) none)
decided command files files' out out' err err' NoMemory a b c d none = record { refused = λ store told found first. inr refl; reported = λ store told silent. inr (inr refl) }

-- the same of the command that the words ask for
pub decided_of : (given command : Option Command) (files files' : FilesState) (out out' err err' : SinkState) (result : Status) → given ≡ command →
    (result ≡ Passed → Reported given true files files' out out' err err') → (result ≡ NotPassed → Reported given false files files' out out' err err') →
    (result ≡ Refused → WasRefused given files files' out out' err err') → (result ≡ Faulted → WasFaulted given files files' out out' err err') →
    NoneRose files files' out out' err err' → IsDecided command files result err err'
decided_of given command files files' out out' err err' result same a b c d none =
    subst (λ (asked : Option Command). IsDecided asked files result err err') same (decided given files files' out out' err err' result a b c d none)

-- a command that words ask for has its numbers in their ranges
pub bounded_of : (words : List (String Global)) (command : Option Command) → command ≡ command_of words → IfSome command IsBounded
bounded_of words None is = tt
bounded_of words (Some command) is = commands_are_bounded words command (sym is)
