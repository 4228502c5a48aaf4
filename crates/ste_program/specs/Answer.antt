-- Meaning. How a run of the program ends, from the states of the files (`files`), the output
-- (`out`) and the error sink (`err`) before it, and after it (`files'`, `out'`, `err'`). Source:
-- this project's own choice.
use Rattle.std.specs.Prelude.{◌≡◌, ◌<◌, ◌≤◌, ◌⊎◌, ℕ, Bool, List, length, take, Option, Some, None}
use Rattle.command_line.specs.Command.{Command}
use Rattle.ste_io.specs.Causes.{Rose}
use Rattle.ste_io.specs.Outside.{FilesState, IsTooLarge, SinkState, StoredFiles, WriteFailed, took, with_names}
use Rattle.ste_program.specs.Command.{file_of, files_of, files_up_to, net_file, second_file}
use Rattle.ste_program.specs.Message.{cannot_write, message_of, out_of_memory}
use Rattle.ste_program.specs.Order.{AllSilent, IsFirstRefusal, refusals, stages_before, text_stages}
use Rattle.ste_program.specs.Report.{IsRead, IsReport, greatest}
use Rattle.ste_program.specs.declared.refusal.File.{File}
use Rattle.ste_program.specs.declared.refusal.Refusal.{Refusal}
use Rattle.ste_program.specs.declared.refusal.Refusal.TheVariants as refusal
use Rattle.ste_program.specs.declared.run.Status.{Status}
use Rattle.ste_program.specs.declared.run.Status.TheVariants as status

-- the files were asked for all the names of the command, in order, and no more happened to them
abbrev pub AskedAll : Option Command → FilesState → FilesState → Type 0
AskedAll command files files' =
    files' ≡ record files { asked = with_names files.asked (files_of command) }

-- the files were asked for so many of these names, from the first on, and no more happened to them
abbrev pub AskedSome : Option Command → FilesState → FilesState → Type 0
AskedSome command files files' =
    (n : ℕ) × (files' ≡ record files { asked = with_names files.asked (take n (files_of command)) })

-- a report, or a message, went to the sink whole, and no more happened
abbrev pub WentOut : List ℕ → SinkState → SinkState → Type 0
WentOut bytes sink sink' = sink' ≡ took sink bytes

-- the sink failed before the end of a report, or of a message
abbrev pub BrokeOff : List ℕ → SinkState → SinkState → Type 0
BrokeOff bytes sink sink' =
    (sent : ℕ) × (sent < length bytes) × WriteFailed sink sink' (take sent bytes)

-- Status 0 or 1: the whole report was written, and no more happened.
pub record Reported (command : Option Command) (passes : Bool) (files files' : FilesState)
    (out out' err err' : SinkState) : Type 0 where
  pub bytes : List ℕ
  pub report : IsReport command files passes bytes
  pub asking : AskedAll command files files'
  pub written : WentOut bytes out out'
  pub silent : err' ≡ err

-- the status that goes with a refusal
abbrev pub status_of : Refusal → Status
status_of (refusal.CannotRead which) = status.Faulted
status_of refusal.OutOfMemory = status.NoMemory
status_of found = status.Refused

-- What a refusal of a command is based on: a file of its own that is too large; or two texts,
-- neither of them too large, which its files hold where this is known, and whose first refusal it
-- is.
abbrev pub IsGroundedIn : Command → FilesState → Refusal → Type 0
IsGroundedIn command files found =
    ((which : File) × (name : List ℕ) × (file_of command.action which ≡ Some name) ×
    (found ≡ refusal.TooLarge which)
    × IsTooLarge files.holds name greatest)
    ⊎ ((net_text : List ℕ) × (second_text : List ℕ) ×
    IsRead files.holds (net_file command.action) net_text
    × IsRead files.holds (second_file command.action) second_text × (length net_text ≤ greatest) ×
    (length second_text ≤ greatest)
    × IsFirstRefusal (text_stages command.action command.steps net_text second_text) found)

-- What a refusal is based on, whether or not it is known what the files hold: the words, or the
-- command's files.
abbrev pub IsGrounded : Option Command → FilesState → Refusal → Type 0
IsGrounded None files found = found ≡ refusal.Usage
IsGrounded (Some command) files found = IsGroundedIn command files found

-- a file of the command could not be read: the count of faults rose; the files were asked for the
-- names up to its own, and no earlier file is missing or too large
pub record CannotRead (command : Command) (which : File) (files files' : FilesState) : Type 0 where
  pub name : List ℕ
  pub named : file_of command.action which ≡ Some name
  pub same : files'.holds ≡ files.holds
  pub asking : files'.asked ≡ with_names files.asked (files_up_to command which)
  pub rose : Rose files.faults files'.faults
  pub later : files.faults ≤ files'.faults
  pub reached : (store : StoredFiles) → files.holds ≡ Some store →
      AllSilent (stages_before which command store)

-- a file could not be read
pub record IsUnread (command : Option Command) (files files' : FilesState)
    (found : Refusal) : Type 0 where
  pub asked : Command
  pub is : command ≡ Some asked
  pub which : File
  pub found_is : found ≡ refusal.CannotRead which
  pub failed : CannotRead asked which files files'

-- the first refusal, which has status 2
pub record IsStatedRefusal (command : Option Command) (files files' : FilesState)
    (found : Refusal) : Type 0 where
  pub kind : status_of found ≡ status.Refused
  pub first : (store : StoredFiles) → files.holds ≡ Some store →
      IsFirstRefusal (refusals command store) found
  pub grounded : IsGrounded command files found
  pub asking : AskedSome command files files'

-- why there is no report
abbrev pub WhyNoReport : Option Command → FilesState → FilesState → Refusal → Type 0
WhyNoReport command files files' found =
    IsUnread command files files' found
    ⊎ (((found ≡ refusal.OutOfMemory) × AskedSome command files files') ⊎
    IsStatedRefusal command files files' found)

-- Status 2: the first refusal was reported, and no more happened.
pub record WasRefused (command : Option Command) (files files' : FilesState)
    (out out' err err' : SinkState) : Type 0 where
  pub found : Refusal
  pub why : IsStatedRefusal command files files' found
  pub untouched : out' ≡ out
  pub told : WentOut (message_of command found) err err'

-- Status 3, a file could not be read: the message says so, or the error sink failed within it.
pub record ReadFault (command : Option Command) (files files' : FilesState)
    (out out' err err' : SinkState) : Type 0 where
  pub asked : Command
  pub is : command ≡ Some asked
  pub which : File
  pub failed : CannotRead asked which files files'
  pub untouched : out' ≡ out
  pub told : WentOut (message_of command (refusal.CannotRead which)) err err' ⊎
      BrokeOff (message_of command (refusal.CannotRead which)) err err'

-- Status 3, the output failed before the end of the report: the message says so, or the error sink
-- failed within it.
pub record OutFault (command : Option Command) (files files' : FilesState)
    (out out' err err' : SinkState) : Type 0 where
  pub passes : Bool
  pub bytes : List ℕ
  pub report : IsReport command files passes bytes
  pub asking : AskedAll command files files'
  pub broken : BrokeOff bytes out out'
  pub told : WentOut cannot_write err err' ⊎ BrokeOff cannot_write err err'

-- Status 3, the error sink failed before the end of a message: that on the first refusal, on a file
-- that could not be read, or that the program is out of memory.
pub record ErrFault (command : Option Command) (files files' : FilesState)
    (out out' err err' : SinkState) : Type 0 where
  pub message : List ℕ
  pub cause : (message ≡ out_of_memory) ⊎
      ((found : Refusal) × WhyNoReport command files files' found ×
      (message ≡ message_of command found))
  pub untouched : out' ≡ out
  pub broken : BrokeOff message err err'

-- Status 3: a file could not be read, or the output not be written to, or the error sink.
abbrev pub WasFaulted : Option Command → FilesState → FilesState → SinkState → SinkState →
    SinkState → SinkState → Type 0
WasFaulted command files files' out out' err err' =
    ReadFault command files files' out out' err err'
    ⊎ (OutFault command files files' out out' err err' ⊎
    ErrFault command files files' out out' err err')

-- Status 4: the line `out of memory` was written, and no more happened to the sinks.
pub record WasOutOfMemory (out out' err err' : SinkState) : Type 0 where
  pub untouched : out' ≡ out
  pub told : WentOut out_of_memory err err'

-- no count of faults moved
abbrev pub NoneMoved : FilesState → FilesState → SinkState → SinkState → SinkState →
    SinkState → Type 0
NoneMoved files files' out out' err err' =
    (files'.faults ≡ files.faults) × (out'.faults ≡ out.faults) × (err'.faults ≡ err.faults)

-- no count of faults fell
abbrev pub NoneFell : FilesState → FilesState → SinkState → SinkState → SinkState →
    SinkState → Type 0
NoneFell files files' out out' err err' =
    (files.faults ≤ files'.faults) × (out.faults ≤ out'.faults) × (err.faults ≤ err'.faults)

-- no count of faults rose, or stands at its last value
abbrev pub NoneRose : FilesState → FilesState → SinkState → SinkState → SinkState →
    SinkState → Type 0
NoneRose files files' out out' err err' = (¬ Rose files.faults files'.faults) ×
    (¬ Rose out.faults out'.faults) × (¬ Rose err.faults err'.faults)

-- What decides a run in which nothing failed, where it is known what the files hold: the first
-- refusal, which is reported; or, where there is none, the report is written. In both cases the
-- program may be out of memory instead.
pub record IsDecided (command : Option Command) (files : FilesState) (result : Status)
    (err err' : SinkState) : Type 0 where
  pub refused : (store : StoredFiles) → files.holds ≡ Some store → (found : Refusal) →
      IsFirstRefusal (refusals command store) found →
      ((result ≡ status_of found) × WentOut (message_of command found) err err') ⊎
      (result ≡ status.NoMemory)
  pub reported : (store : StoredFiles) → files.holds ≡ Some store →
      AllSilent (refusals command store) →
      (result ≡ status.Passed) ⊎ ((result ≡ status.NotPassed) ⊎ (result ≡ status.NoMemory))
